-- Words that are unpacked one by one: the loop's step, and where it ends.
use Prim.Native.Nat.{ℕ, zero, suc, ◌+◌, ◌-◌, ◌*◌, ◌≤◌, ◌<◌}
use mathlib.Core.Path.{◌≡◌, refl, ap, sym, ◌∙◌}
use mathlib.Core.List.{List}
use native.Mathlib.Omega.{arith}
use native.Mathlib.Numerals.{add-one}
use lib.ListN.{length, take, drop, set, get_or, length-drop}
use lib.Seq.{take-length, drop-drop, paste, paste-suc}
use Rattle.std.specs.Int.{w64, from_le_bytes}
use Rattle.shape.proofs.Put.{put_fits}
use Rattle.words.specs.Packed.{word_size, word_at, words_from, unpacked_count, unpacked}
use Rattle.words.proofs.Joining.{word_there}

length_words : (bs : List ℕ) (at n : ℕ) → length (words_from bs at n) ≡ n
unfolding words_from
length_words bs at zero = refl
length_words bs at (suc n) = let e = length_words bs (at + word_size) n in omega arith

word_of : (bs : List ℕ) (at n i : ℕ) → i < n → get_or (words_from bs at n) i 0 ≡ word_at bs (at + i * word_size)
unfolding words_from
word_of bs at zero i h = absurd (omega arith)
word_of bs at (suc n) zero h = let e : at + 0 * word_size ≡ at = omega arith in rw e
word_of bs at (suc n) (suc i) h =
    let e : at + suc i * word_size ≡ at + word_size + i * word_size = omega arith in
    rw e (word_of bs (at + word_size) n i (omega arith))

-- the words that some bytes unpack to
abbrev pub come : List ℕ → List ℕ → List ℕ
come bs ws = words_from bs 0 (unpacked_count bs ws)

module _ (bs ws₀ rest ws : List ℕ) (i : ℕ) (here : rest ≡ drop (i * word_size) bs) (e : ws ≡ paste ws₀ 0 (come bs ws₀) i) (in_bytes : i * word_size ≤ length bs) where
  left : length rest ≡ length bs - i * word_size
  left = rw here (length-drop (i * word_size) bs)

  pub unpack_behind : (others : List ℕ) → others ≡ drop word_size rest → others ≡ drop ((i + 1) * word_size) bs
  unpack_behind others o =
      let s : (i + 1) * word_size ≡ i * word_size + word_size = omega arith in
      rw (o, here, s) (drop-drop word_size (i * word_size) bs)

  pub unpack_within : (others : List ℕ) → length others + word_size ≡ length rest → (i + 1) * word_size ≤ length bs
  unpack_within others h = let n = left in omega arith

  pub unpack_next : length ws ≡ length ws₀ → i < length ws → (others : List ℕ) → length others + word_size ≡ length rest → (first : List ℕ) → first ≡ take word_size rest
      → set ws i (from_le_bytes w64 first) ≡ paste ws₀ 0 (come bs ws₀) (i + 1)
  unpack_next same h others k first f =
      let n = left in
      let l : length (come bs ws₀) ≡ unpacked_count bs ws₀ = length_words bs 0 (unpacked_count bs ws₀) in
      let c : i < unpacked_count bs ws₀ = omega arith in
      let s : i * word_size ≡ 0 + i * word_size = omega arith in
      let g : from_le_bytes w64 first ≡ get_or (come bs ws₀) i 0 = word_there bs (i * word_size) first (rw here at f) (omega arith) ∙ rw s (sym (word_of bs 0 (unpacked_count bs ws₀) i c)) in
      let z : i ≡ 0 + i = omega arith in
      let f = ap (λ (j : ℕ). set (paste ws₀ 0 (come bs ws₀) i) j (get_or (come bs ws₀) i 0)) z in
      rw (e, g, add-one) (f ∙ paste-suc ws₀ 0 (come bs ws₀) i 0 (omega arith) (omega arith))

  ended : i ≡ unpacked_count bs ws₀ → ws ≡ unpacked bs ws₀
  unfolding unpacked
  ended n =
      let l : length (come bs ws₀) ≡ unpacked_count bs ws₀ = length_words bs 0 (unpacked_count bs ws₀) in
      let k : i ≡ length (come bs ws₀) = omega arith in
      e ∙ rw (k, take-length) (sym (put_fits ws₀ 0 (come bs ws₀) (omega arith)))

  -- where no whole word is left, and where no word has room
  pub unpack_last : i ≤ length ws₀ → length rest < word_size → ws ≡ unpacked bs ws₀
  unpack_last h k = let n = left in ended (omega arith)

  pub unpack_full : length ws ≡ length ws₀ → length ws ≤ i → i ≤ length ws₀ → ws ≡ unpacked bs ws₀
  unpack_full same h k = ended (omega arith)
