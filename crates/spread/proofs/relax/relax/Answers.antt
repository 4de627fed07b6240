-- `relax::relax` meets its contract. Assumes nothing.
use mathlib.Core.Path.{ap}
use borrow.Author.Tests.{not-true, not-false}
use Rattle.spread.specs.Steps.{ground_of, length_of}
use Rattle.spread.proofs.Relaxing.{stored_does, formed_as, relax_does, relax_does_nothing}
use Rattle.spread.proofs.Scans.{not_entered, not_below, step_blocked, step_tried}
use Rattle.spread.proofs.relax.relax.Goals as goal

pub returns-then-not-may_enter-clause-does : goal.returns-then-not-may_enter-clause-does
returns-then-not-may_enter-clause-does g c =
    let a = c.args in
    not_entered a.search (ground_of a.ground) a.left a.cell a.diagonal (ap (λ n. n.avoided) c.requires.numbered) (c.may_enter.ensures a.search.size) (not-true c.may_enter.result c.if-not-may_enter.true-raw) c.requires.tries.good

pub returns-then-is_blocked-clause-does : goal.returns-then-is_blocked-clause-does
returns-then-is_blocked-clause-does g c =
    let a = c.args in
    step_blocked a.search (ground_of a.ground) a.left a.cell a.diagonal (ap (λ n. n.avoided) c.requires.numbered) (c.may_enter.ensures a.search.size) c.is_blocked.ensures c.if-is_blocked.true c.requires.tries.good

pub returns-else-is_blocked-clause-does : goal.returns-else-is_blocked-clause-does
returns-else-is_blocked-clause-does g c =
    let a = c.args in
    step_tried a.search (ground_of a.ground) a.left a.cell a.diagonal (ap (λ n. n.avoided) c.requires.numbered) (c.may_enter.ensures a.search.size) c.is_blocked.ensures (not-false c.may_enter.result c.if-not-may_enter.false-raw) c.if-is_blocked.false
    (relax_does c.requires.tries a.left (length_of a.diagonal) c.candidate-distance.result a.ground.times.now (formed_as a.search a.ground.times.now (ap (λ n. n.formula) c.requires.numbered) a.diagonal c.step_length.ensures a.left.cell a.cell a.left.distance (c.candidate-distance.ensures a.search.size)) c.if-b-at.true
    (stored_does c.requires.tries (ap (λ n. n.carrying) c.requires.numbered) c.candidate-distance.result a.left.value c.store.ensures.does))

pub returns-else-b-at-clause-does : goal.returns-else-b-at-clause-does
returns-else-b-at-clause-does g c =
    let a = c.args in
    not_below a.search (ground_of a.ground) a.left a.cell a.diagonal (ap (λ n. n.avoided) c.requires.numbered) (c.may_enter.ensures a.search.size)
    (relax_does_nothing c.requires.tries a.left (length_of a.diagonal) c.candidate-distance.result a.ground.times.now (formed_as a.search a.ground.times.now (ap (λ n. n.formula) c.requires.numbered) a.diagonal c.step_length.ensures a.left.cell a.cell a.left.distance (c.candidate-distance.ensures a.search.size)) c.if-b-at.false) c.requires.tries.good
