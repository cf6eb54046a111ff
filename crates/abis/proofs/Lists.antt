-- Each list of rules ends with one that decides (REFERENCE 5.6): one test that antt computes over all descriptions.
use mathlib.Core.Bool.{◌&&◌}
use Prim.Native.Nat.{ℕ, ◌<◌, ◌≤◌}
use lib.Dec.{T, leb, leb→le}
use lib.ListN.{length}
use Rattle.shape.specs.Lists.{every}
use Rattle.shape.proofs.Bools.{and_left, and_right}
use Rattle.shape.proofs.Lists.{within, anywhere}
use Rattle.describe.specs.Description.{Description, Ends}
use Rattle.describe.proofs.Ends.{is_ending, ends}
use Rattle.abis.specs.Abis.{described, descriptions, blank, description_count}

both_ending : (d : ℕ) → d < description_count → T (is_ending (described d).returns && is_ending (described d).arguments)
unfolding every described descriptions
both_ending = within (λ (D : Description). is_ending D.returns && is_ending D.arguments) descriptions blank tt

pub returns_end : (d : ℕ) → d < description_count → Ends (described d).returns
returns_end d h =
    ends (described d).returns (and_left (is_ending (described d).returns) (is_ending (described d).arguments) (both_ending d h))

pub arguments_end : (d : ℕ) → d < description_count → Ends (described d).arguments
arguments_end d h =
    ends (described d).arguments (and_right (is_ending (described d).returns) (is_ending (described d).arguments) (both_ending d h))

-- No list has more than four rules. A walk doesn't stand on this; what looks through a row does.
both_few : (d : ℕ) → T (leb (length (described d).returns) 4 && leb (length (described d).arguments) 4)
unfolding every described descriptions
both_few = anywhere (λ (D : Description). leb (length D.returns) 4 && leb (length D.arguments) 4) descriptions blank tt tt

pub returns_few : (d : ℕ) → length (described d).returns ≤ 4
returns_few d = leb→le (length (described d).returns) 4 (and_left (leb (length (described d).returns) 4) (leb (length (described d).arguments) 4) (both_few d))

pub arguments_few : (d : ℕ) → length (described d).arguments ≤ 4
arguments_few d = leb→le (length (described d).arguments) 4 (and_right (leb (length (described d).returns) 4) (leb (length (described d).arguments) 4) (both_few d))
