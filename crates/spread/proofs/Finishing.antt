-- Where a run that stops ends. Assumes nothing.
use mathlib.Core.List.{List, []}
use mathlib.Core.Path.{◌≡◌, sym, ap, ◌∙◌, subst}
use Prim.Native.Nat.{ℕ, ◌*◌, ◌≤◌}
use native.Mathlib.Omega.{arith}
use lib.Ieee.{Float}
use Rattle.fifo.specs.Machine.{Net, initial, run, takes, trace, finish, takes_of}
use Rattle.fifo.proofs.Runs.{run_past, takes_past, trace_past}
use Rattle.rules.specs.Sizes.{count}
use Rattle.rules.specs.Values.{Carried}
use Rattle.spread.specs.declared.search.Search.{Search}
use Rattle.spread.specs.Nets.{labels_of}
use Rattle.spread.specs.Loop.{Ended}

-- What a run that stopped after r takes is, in the words of the rules.
pub record Finished (search : Search) (net : Net Carried) (distances carried : List Float) (r : ℕ) : Type 0 where
  pub labels : labels_of search distances carried ≡ (finish net).labels
  pub stopped : (finish net).waiting ≡ []
  pub counted : r ≡ takes_of net
  pub traced : trace net (net.cells * net.cells) (initial net) ≡ trace net r (initial net)
  pub entered : (finish net).entered ≡ (run net r (initial net)).entered

-- A run that stops is where the search ends. Proof: each of its takes was made, so they are within the square; the search is the run of as
-- many takes as the square, and past a stop nothing changes.
pub finishes :
    {search : Search} {net : Net Carried} {distances carried : List Float} {r : ℕ}
    → net.cells ≡ count search.size → ((k : ℕ) → takes net k (initial net) ≤ count search.size * count search.size)
    → Ended search net distances carried r → Finished search net distances carried r
unfolding finish takes_of
finishes {search} {net} {distances} {carried} {r} cells bound ended =
    let all = ended.all in
    let few : takes net r (initial net) ≤ net.cells * net.cells = subst (λ n. takes net r (initial net) ≤ n * n) (sym cells) (bound r) in
    let within : r ≤ net.cells * net.cells = omega arith in
    let past = run_past net r (net.cells * net.cells) (initial net) ended.stopped within in
    record {
      labels = sym ended.labels ∙ ap (λ s. s.labels) (sym past);
      stopped = ap (λ s. s.waiting) past ∙ ended.stopped;
      counted = sym ended.all ∙ sym (takes_past net r (net.cells * net.cells) (initial net) ended.stopped within);
      traced = trace_past net r (net.cells * net.cells) (initial net) ended.stopped within;
      entered = ap (λ s. s.entered) past;
    }
