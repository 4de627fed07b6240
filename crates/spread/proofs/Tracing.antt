-- The cells that a run takes, one after the other: what a loop of one's own needs that does something with each. Assumes nothing.
use mathlib.Core.Bool.{Bool, true, not}
use mathlib.Core.List.{[], ◌∷◌, ◌++◌, map, map-append}
use mathlib.Core.Path.{◌≡◌, sym, ap, ◌∙◌, subst}
use Prim.Native.Nat.{ℕ, ◌+◌, ◌<◌}
use lib.Ieee.{Float, nan}
use lib.ListN.{get_or}
use Rattle.cells.specs.Ring.{SaysEmpty}
use Rattle.fifo.specs.Machine.{Net, initial, label, run, trace}
use Rattle.fifo.proofs.Induction.{trace_zero}
use Rattle.fifo.proofs.Runs.{trace_last}
use Rattle.rules.specs.Sizes.{count}
use Rattle.rules.specs.Values.{Carried}
use Rattle.spread.specs.declared.search.Search.{Search}
use Rattle.spread.specs.declared.take.TakenCell.{TakenCell}
use Rattle.spread.specs.Steps.{Terrain}
use Rattle.spread.specs.Buffers.{Buffers}
use Rattle.spread.specs.Loop.{taken_at, TookCell, Ready}
use Rattle.spread.proofs.Labels.{label_held}
use Rattle.spread.proofs.Running.{Turn, head_waits}

pub none_taken : (net : Net Carried) → taken_at net 0 ≡ []
none_taken net = ap (map (λ taken. (taken.0, taken.1.0))) (trace_zero net (initial net))

-- One take more adds the taken cell and its distance. Proof: the buffers hold the machine's state, so that its head is the ring's, and its label
-- the one that the buffers had.
pub next_taken :
    {search : Search} {ground : Terrain} {before b : Buffers} {r : ℕ} (turn : Turn search ground before b r) {answer : Bool}
    (empty : SaysEmpty b.ring answer) (something : not answer ≡ true) {after : Buffers} {took : TakenCell} → TookCell search ground b after took
    → (net : Net Carried) → Ready search ground net before → taken_at net (r + 1) ≡ taken_at net r ++ (took.cell, took.distance) ∷ []
next_taken {search} {b = b} {r} turn empty something {took = took} takes net ready =
    let (u, ws, is_head) = head_waits turn empty something in
    let held = (turn.taken net ready).holds in
    let same : u ≡ took.cell = sym (takes.head u ws is_head) in
    let seen : ℕ × Carried → ℕ × Float = λ taken. (taken.0, taken.1.0) in
    let at : (label net (run net r (initial net)) u).0 ≡ took.distance
    = ap (λ l. l.0) (label_held net held u (subst (λ c. c < count search.size) (sym same) takes.inside)) ∙ ap (λ c. get_or b.distances c nan) same ∙ sym takes.at_distance in
    ap (map seen) (trace_last net r (initial net) u ws (held.waiting ∙ is_head))
    ∙ map-append seen (trace net r (initial net)) ((u, label net (run net r (initial net)) u) ∷ [])
    ∙ ap (λ one. taken_at net r ++ one ∷ []) (ap (λ c. (c, (label net (run net r (initial net)) u).0)) same ∙ ap (λ d. (took.cell, d)) at)
