-- `listing::list_cell` meets its contract. Assumes nothing.
use native.Mathlib.Omega.{arith}
use Rattle.reach.proofs.Listings.{entry_free, joined_last, joined_before}
use Rattle.reach.proofs.listing.list_cell.Goals as goal

pub bounds-listed-count : goal.bounds-listed-count
bounds-listed-count c = let free = entry_free c.requires c.if-met-at-eq0.true in omega arith

pub returns-then-met-at-eq0 : goal.returns-then-met-at-eq0
returns-then-met-at-eq0 c = joined_last c.requires c.if-met-at-eq0.true

pub returns : goal.returns
returns c = joined_before c.requires c.if-met-at-eq0.false
