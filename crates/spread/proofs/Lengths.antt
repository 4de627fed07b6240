-- Buffers that are in good order before and after have the lengths that they had. Assumes nothing.
use mathlib.Core.Bool.{true, false}
use mathlib.Core.List.{List}
use mathlib.Core.Logic.{⊎_elim}
use mathlib.Core.Path.{◌≡◌, sym, ap, ◌∙◌}
use Prim.Native.Nat.{ℕ, suc}
use lib.Ieee.{Float}
use lib.ListN.{length}
use Rattle.fifo.proofs.Lists.{tested}
use Rattle.spread.specs.declared.search.Rule.{Rule}
use Rattle.spread.specs.declared.search.Search.{Search}
use Rattle.spread.specs.Nets.{carries}
use Rattle.spread.specs.Buffers.{Buffers, Good}

-- The buffer of values has its length where a value goes along, and is as it was where none does.
pub carried_length_kept :
    (rule : Rule) {n : ℕ} {carried carried' : List Float}
    → (carries rule ≡ true → length carried ≡ n) → (carries rule ≡ true → length carried' ≡ n) → (carries rule ≡ false → carried' ≡ carried)
    → length carried' ≡ length carried
carried_length_kept rule had has kept = ⊎_elim (λ carrying. has carrying ∙ sym (had carrying)) (λ no_value. ap length (kept no_value)) (tested (carries rule))

module _ {search : Search} {before after : Buffers} (good : Good search before) (good' : Good search after) where
  pub same_distances : length after.distances ≡ length before.distances
  same_distances = good'.distances_length ∙ sym good.distances_length

  pub same_carried : (carries search.rule ≡ false → after.carried ≡ before.carried) → length after.carried ≡ length before.carried
  same_carried = carried_length_kept search.rule good.carried_length good'.carried_length

  pub same_marks : length after.marks ≡ length before.marks
  same_marks = good'.marks_length ∙ sym good.marks_length

  pub same_queue : length after.queue ≡ length before.queue
  same_queue = good'.waits.slots ∙ ap suc same_marks ∙ sym good.waits.slots
