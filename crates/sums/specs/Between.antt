-- What holds between two starts, where each puts back what it reached. Definitions only.
use Rattle.std.specs.Prelude.{List, ◌≡◌, ℕ, suc, Float, length, replicate}
use Rattle.rules.specs.declared.Size.{Size}
use Rattle.rules.specs.Sizes.{count}
use Rattle.spread.specs.Begin.{Clear}

-- No cell is reached, so that every distance is the cap, and none is met. The list and the queue may hold anything.
pub record BetweenStarts (size : Size) (cap : Float) (distances : List Float) (marks listed met queue : List ℕ) : Type 0 where
  pub clear : Clear (count size) cap distances marks
  pub none_met : met ≡ replicate (count size) 0
  pub listed_length : length listed ≡ count size
  pub queue_length : length queue ≡ suc (count size)
