-- The rules' list of a mask cell's search: the cells in order of first entry, where the mask cell joins if it is not among them. Assumes nothing.
use mathlib.Core.Bool.{true, false, cond, ◌&&◌}
use mathlib.Core.List.{[], ◌∷◌}
use mathlib.Core.Logic.{⊎_elim}
use mathlib.Core.Path.{◌≡◌, refl, sym, ap, ◌∙◌, subst}
use Prim.Native.Nat.{ℕ, ◌*◌, ◌<◌}
use native.Mathlib.Omega.{arith}
use borrow.Author.Tests.{eq-eqb, ne_eqb}
use lib.Dec.{eqb}
use lib.Ieee.{Float}
use lib.ListN.{length, get_or}
use Rattle.binary32.specs.Numbers.{plus_zero}
use Rattle.fifo.specs.Machine.{among, joined, initial, finish}
use Rattle.fifo.specs.Walk.{In}
use Rattle.fifo.proofs.Lists.{tested, holds, in_among, joined_waiting, in_joined, joiner_in}
use Rattle.fifo.proofs.Ranges.{in_passing}
use Rattle.fifo.proofs.Induction.{label_getD, run_stopped}
use Rattle.fifo.proofs.Entries.{entered_stays, unentered_first}
use Rattle.rules.specs.Numbers.{infinity}
use Rattle.rules.specs.Sizes.{Grid, count}
use Rattle.rules.specs.Distances.{has_data}
use Rattle.rules.specs.Sums.{run_of, from_mask_cell, listed}
use Rattle.rules.proofs.Squares.{mask_cell_idle}

module _ (times : Grid Float) (start : ℕ) (inside : start < count times.size) where
  -- A mask cell whose time has data is entered from the start on.
  start_entered : has_data times start ≡ true → In start (initial (from_mask_cell times start)).entered
  unfolding initial from_mask_cell
  start_entered has =
      in_passing (λ c. eqb c start && has_data times c) 0 (count times.size) start (omega arith) (omega arith)
      (holds (ap (λ b. b && has_data times start) (eq-eqb start start refl) ∙ has))

  -- From one whose time is nodata nothing is entered.
  none_entered : has_data times start ≡ false → (finish (from_mask_cell times start)).entered ≡ []
  unfolding finish initial
  none_entered none =
      let net = from_mask_cell times start in
      let idle = mask_cell_idle times start none in
      ap (λ s. s.entered) (run_stopped net (net.cells * net.cells) (initial net) idle) ∙ idle

  -- With the mask cell the list of the entered cells is the rules' list: the mask cell is among them already, or is listed alone.
  listed_with_data : has_data times start ≡ true → joined start (finish (from_mask_cell times start)).entered ≡ listed times (run_of (from_mask_cell times) start)
  unfolding finish
  listed_with_data has =
      let net = from_mask_cell times start in
      let entered = (finish net).entered in
      joined_waiting start entered (in_among start entered (entered_stays net start (net.cells * net.cells) (initial net) (start_entered has)))
      ∙ ap (λ b. cond b entered (start ∷ [])) (sym has)

  listed_alone : has_data times start ≡ false → joined start (finish (from_mask_cell times start)).entered ≡ listed times (run_of (from_mask_cell times) start)
  unfolding joined among
  listed_alone none = ap (joined start) (none_entered none) ∙ ap (λ b. cond b (finish (from_mask_cell times start)).entered (start ∷ [])) (sym none)

  pub listed_with_start : joined start (finish (from_mask_cell times start)).entered ≡ listed times (run_of (from_mask_cell times) start)
  listed_with_start = ⊎_elim listed_with_data listed_alone (tested (has_data times start))

  -- Where the search ends, a cell that is not listed is at infinity: it was not entered, and is not the mask cell.
  pub unlisted_unreached :
      (c : ℕ) (other : Float) → c < length (finish (from_mask_cell times start)).labels → (In c (listed times (run_of (from_mask_cell times) start)) → ⊥)
      → get_or (finish (from_mask_cell times start)).labels c other ≡ infinity
  unfolding finish from_mask_cell
  unlisted_unreached c other inside_labels out =
      let net = from_mask_cell times start in
      let not_joined : In c (joined start (finish net).entered) → ⊥ = λ i. out (subst (In c) listed_with_start i) in
      sym (label_getD net (finish net) c other inside_labels)
      ∙ unentered_first net c (net.cells * net.cells) (λ i. not_joined (in_joined c start (finish net).entered i))
      ∙ ap (λ b. cond b plus_zero infinity) (ne_eqb c start (λ same. not_joined (joiner_in c start (finish net).entered same)))
