-- Values that are added one after the other. Assumes nothing.
use mathlib.Core.Bool.{Bool, true, false}
use mathlib.Core.List.{List, [], ◌∷◌, ◌++◌, foldl-append}
use mathlib.Core.Path.{◌≡◌, refl, sym, ap, ◌∙◌}
use Prim.Native.Nat.{ℕ, ◌+◌, ◌<◌}
use lib.Ieee.{Float, nan, binary32, add}
use lib.ListN.{length, get_or, take}
use Rattle.binary32.specs.Nodata.{nodata}
use Rattle.fifo.proofs.Lists.{take_more}
use Rattle.rules.specs.Sums.{add_value, add_values}

-- One cell: nodata is passed over.
module _ (values : List Float) (sum : Float) (c : ℕ) {answer : Bool} (says : answer ≡ nodata (get_or values c nan)) where
  pub passed_over : answer ≡ true → sum ≡ add_value values sum c
  passed_over e = rw (sym says ∙ e)

  pub value_added : answer ≡ false → add binary32 sum (get_or values c nan) ≡ add_value values sum c
  value_added e = rw (sym says ∙ e)

-- No cell.
pub added_none : (values : List Float) (sum : Float) → add_values values sum [] ≡ sum
unfolding add_values
added_none values sum = refl

-- One cell more.
pub added_more : (values : List Float) (sum : Float) (l : List ℕ) (c : ℕ) → add_values values sum (l ++ c ∷ []) ≡ add_value values (add_values values sum l) c
unfolding add_values
added_more values sum l c = foldl-append (add_value values) sum l (c ∷ [])

-- One entry more of a slice.
pub added_entry :
    (values : List Float) (base : Float) (listed : List ℕ) (k : ℕ) {sum sum' : Float} → k < length listed
    → sum ≡ add_values values base (take k listed) → sum' ≡ add_value values sum (get_or listed k 0) → sum' ≡ add_values values base (take (k + 1) listed)
added_entry values base listed k less is more =
    more
    ∙ ap (λ s. add_value values s (get_or listed k 0)) is
    ∙ sym (added_more values base (take k listed) (get_or listed k 0))
    ∙ ap (add_values values base) (sym (take_more listed k 0 less))
