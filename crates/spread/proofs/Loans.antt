-- Lent buffers stay the same loans while the loop works in them. Assumes nothing.
use mathlib.Core.Path.{refl, ◌∙◌}
use Rattle.spread.specs.declared.buffers.Buffers as lent
use Rattle.spread.specs.Buffers.{SameLoans}

pub loans_same : (b : lent.Buffers) → SameLoans b b
loans_same b = record { distances = refl; carried = refl; marks = refl; queue = refl }

pub loans_on : {a b c : lent.Buffers} → SameLoans a b → SameLoans b c → SameLoans a c
loans_on ab bc = record {
  distances = bc.distances ∙ ab.distances;
  carried = bc.carried ∙ ab.carried;
  marks = bc.marks ∙ ab.marks;
  queue = bc.queue ∙ ab.queue;
}
