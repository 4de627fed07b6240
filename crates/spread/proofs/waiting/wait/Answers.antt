-- `waiting::wait` meets its contract. Assumes nothing.
use borrow.Author.Tests.{eq-eqb, ne_eqb}
use Rattle.spread.proofs.Waits.{join_room, joined_pushed, joined_before}
use Rattle.spread.proofs.waiting.wait.Goals as goal

pub push-requires : goal.push-requires
push-requires c = join_room c.requires (ne_eqb _ _ c.if-marks-at-ne-MARK_BORDER.true)

pub returns-then-marks-at-ne-MARK_BORDER : goal.returns-then-marks-at-ne-MARK_BORDER
returns-then-marks-at-ne-MARK_BORDER c = joined_pushed c.requires (ne_eqb _ _ c.if-marks-at-ne-MARK_BORDER.true) c.push.ensures

pub returns : goal.returns
returns c = joined_before c.requires (eq-eqb _ _ c.if-marks-at-ne-MARK_BORDER.false)
