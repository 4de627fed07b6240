-- What is known of lengths of which none is other than n. Assumes nothing.
use mathlib.Core.Path.{◌≡◌}
use mathlib.Core.Bool.{false}
use mathlib.Core.List.{List, [], ◌∷◌}
use Prim.Native.Nat.{ℕ, zero, suc, ◌<◌}
use native.Mathlib.Nat.{not-suc-le-zero, le_of_suc-le-suc}
use borrow.Author.Tests.{not-false, eqb-true}
use lib.Dec.{eqb}
use lib.ListN.{length, get_or}
use Rattle.rules.specs.Sizes.{other_than, any}
use Rattle.rules.proofs.Any.{any_append}
use Rattle.rules.proofs.Tests.{neither}
use Rattle.calls.proofs.Scans.{listed}

pub each_length : (n : ℕ) (lengths : List ℕ) → any (other_than n) lengths ≡ false → (k d : ℕ) → k < length lengths → get_or lengths k d ≡ n
unfolding any
each_length n [] none k d below = absurd (not-suc-le-zero below)
each_length n (l ∷ rest) none zero d below = eqb-true l n (not-false (eqb l n) (neither (other_than n l) (any (other_than n) rest) none).0)
each_length n (l ∷ rest) none (suc k) d below = each_length n rest (neither (other_than n l) (any (other_than n) rest) none).1 k d (le_of_suc-le-suc below)

-- What a test on sizes and lengths asks for.
pub ruleset lengths_tested = (listed, any_append, each_length)
