-- `waiting::take_first` meets its contract. Assumes nothing.
use mathlib.Core.Path.{refl}
use native.Mathlib.Omega.{arith}
use Rattle.spread.proofs.Waits.{taken_inside, took_first}
use Rattle.spread.proofs.waiting.take_first.Goals as goal

pub bounds-b-at : goal.bounds-b-at
bounds-b-at c = taken_inside c.requires.waits c.take_waiting-taken.ensures

pub returns-clause-does : goal.returns-clause-does
returns-clause-does c = record { first = took_first c.requires.waits c.take_waiting-taken.ensures 2 (λ e. omega arith); rest = refl }
