-- `gain::gain_cell` meets its contract. Assumes nothing.
use mathlib.Core.Path.{sym, ◌∙◌}
use Rattle.sums.proofs.Gains.{gains_now, gains_nothing}
use Rattle.sums.proofs.gain.gain_cell.Goals as goal

pub returns-then-gains : goal.returns-then-gains
returns-then-gains c = gains_now c.requires (sym c.gains.ensures ∙ c.if-gains.true)

pub returns-else-gains : goal.returns-else-gains
returns-else-gains c = gains_nothing c.requires (sym c.gains.ensures ∙ c.if-gains.false)
