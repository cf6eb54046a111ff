-- What each function of the cycle writes, in the form in which its proof meets it.
use Prim.Native.Nat.{ℕ, suc, ◌+◌, ◌-◌, ◌≤◌, ◌<◌}
use mathlib.Core.Path.{◌≡◌, ap, sym, ◌∙◌}
use mathlib.Core.Bool.{Bool}
use mathlib.Core.List.{List, [], ◌∷◌, ◌++◌}
use native.Mathlib.Nat.{sub-zero}
use native.Mathlib.Omega.{arith}
use lib.ListN.{get_or}
use Rattle.shape.specs.declared.Piece.{Piece}
use Rattle.shape.specs.declared.Scalar.{Scalar}
use Rattle.shape.specs.Arithmetic.{plus, rounded}
use Rattle.shape.specs.Words.{piece}
use Rattle.types.specs.declared.Form.{Form}
use Rattle.types.specs.declared.Form.TheVariants.{One, Members, Elements}
use Rattle.types.specs.declared.Row.{Row}
use Rattle.types.specs.Entries.{nowhere, entry_at, members_from, form_of, form_meaning}
use Rattle.types.specs.Table.{row_at, place_from}
use Rattle.types.proofs.Reading.{members_step, members_end, form_means}
use Rattle.flatten.specs.Writing.{if_leaves, over_members, over_elements, step_of, spread, entry_pieces}

-- ---- members

module _ (f : ℕ → ℕ → List Piece) (tb ms : List ℕ) (overlaid : Bool) (base first count : ℕ) where
  module _ (end i : ℕ) where
    pub members_turn : i < count → (m : ℕ) → m ≡ get_or ms (first + i) nowhere → (r : Row) → r ≡ row_at tb m → (o : ℕ) → o ≡ place_from overlaid end r.align
        → (b : ℕ) → b ≡ plus base o → (e : ℕ) → e ≡ plus o r.takes
        → over_members f tb overlaid base end (members_from ms (first + i) (count - i))
        ≡ if_leaves r.leaves (f m b) ++ over_members f tb overlaid base e (members_from ms (first + (i + 1)) (count - (i + 1)))
    unfolding over_members
    members_turn lt m em r er o eo b eb e ee = rw (members_step ms first count i lt m em, ee, eb, eo, er)

    pub members_done : count ≤ i → over_members f tb overlaid base end (members_from ms (first + i) (count - i)) ≡ []
    unfolding over_members
    members_done ge = rw (members_end ms first count i ge)

-- ---- elements

module _ (f : ℕ → List Piece) (step base count end i : ℕ) where
  pub elements_turn : i < count → (b : ℕ) → b ≡ plus base end → (e : ℕ) → e ≡ plus end step
      → over_elements f step base end (count - i) ≡ f b ++ over_elements f step base e (count - (i + 1))
  unfolding over_elements
  elements_turn lt b eb e ee = let s : count - i ≡ suc (count - (i + 1)) = omega arith in rw (s, ee, eb)

  pub elements_done : count ≤ i → over_elements f step base end (count - i) ≡ []
  unfolding over_elements
  elements_done ge = let s : count - i ≡ 0 = omega arith in rw s

-- the step as the promise says it
pub elements_begin : (f : ℕ → List Piece) (tb : List ℕ) (m : ℕ) (r : Row) → r ≡ row_at tb m → (s : ℕ) → s ≡ rounded r.reach r.align → (base count : ℕ)
    → over_elements f (step_of tb m) base 0 count ≡ over_elements f s base 0 (count - 0)
elements_begin f tb m r er s es base count =
    let e : s ≡ step_of tb m = es ∙ ap (λ (q : Row). rounded q.reach q.align) er in
    rw (e, sub-zero)

-- ---- one entry

module _ (ts ms tb : List ℕ) (levels e base : ℕ) where
  pub no_level : levels ≡ 0 → entry_pieces ts ms tb levels e base ≡ []
  unfolding entry_pieces
  no_level z = rw z

  module _ (nz : levels ≡ 0 → ⊥) (f : Form) (ef : f ≡ form_of (entry_at ts e)) where
    one_down : entry_pieces ts ms tb levels e base ≡ spread (entry_pieces ts ms tb (levels - 1)) tb (form_meaning ms f) base
    unfolding entry_pieces
    one_down =
        let s : levels ≡ suc (levels - 1) = omega arith in
        ap (λ (l : ℕ). entry_pieces ts ms tb l e base) s ∙ rw (ef, form_means ms (entry_at ts e))

    pub of_members : (overlaid : Bool) (first count : ℕ) → f ≡ Members overlaid first count
        → over_members (entry_pieces ts ms tb (levels - 1)) tb overlaid base 0 (members_from ms first count) ≡ entry_pieces ts ms tb levels e base
    unfolding spread
    of_members overlaid first count h = sym (one_down ∙ rw h)

    pub of_elements : (m n : ℕ) → f ≡ Elements m n → over_elements (entry_pieces ts ms tb (levels - 1) m) (step_of tb m) base 0 n ≡ entry_pieces ts ms tb levels e base
    unfolding spread
    of_elements m n h = sym (one_down ∙ rw h)

    pub of_scalar : (s : Scalar) → f ≡ One s → (p : Piece) → p ≡ piece s.kind s.size s.align base → p ∷ [] ≡ entry_pieces ts ms tb levels e base
    unfolding spread
    of_scalar s h p ep = sym (one_down ∙ rw (h, ep))
