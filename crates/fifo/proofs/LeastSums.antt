-- When the search has stopped, it holds the least sums over walks.
use mathlib.Core.Bool.{true, false}
use mathlib.Core.List.{[]}
use mathlib.Core.Logic.{◌⊎◌, inl, inr, ⊎_elim}
use mathlib.Core.Path.{◌≡◌, ◌∙◌, subst}
use Prim.Native.Nat.{ℕ, ◌*◌}
use Rattle.fifo.specs.Machine.{Net, State, initial, label, run, finish}
use Rattle.fifo.specs.Walk.{In, Starting, Walk, here, on}
use Rattle.fifo.specs.Laws.{Step, Laws, Held, Sound, Accounted, LeastSums}
use Rattle.fifo.proofs.Lists.{tested, holds, in_or_not}
use Rattle.fifo.proofs.Order.{not_below_lower}
use Rattle.fifo.proofs.Sound.{sound_run, sound_initial}
use Rattle.fifo.proofs.Ends.{ends_within_square}
use Rattle.fifo.proofs.Labels.{walk_good, accounted_run, accounted_initial}

module _ {L : Type 0} {net : Net L} (laws : Laws net) where
  module _ {s : State L} (sound : Sound laws s) (acc : Accounted laws [] s) where
    -- One step more of a walk whose label is not below that of its last cell u.
    module _ {u v : ℕ} {f : L → L} {d : L} (step : Step net u v f) (good : laws.Good d) (above : net.below d (label net s u) ≡ false) where
      good_f : laws.Good (f d)
      good_f = laws.step_good step good

      -- If u was entered, its steps are relaxed: v's label is at most f of u's label, and that is at most f d.
      from_entered : In u s.entered → laws.Good (label net s v) → net.below (f d) (label net s v) ≡ false
      from_entered k good_v =
          let good_u = (walk_good laws (acc.entered_walk u k).1).1 in
          let relaxed = ⊎_elim absurd (λ done. done v f step.listed) (acc.relaxed u k) in
          laws.transitive good_v (laws.step_good step good_u) good_f relaxed (laws.step_keeps_order step good_u good above)

      -- If not, u's label is the cap, so d is not below the cap, and neither is f d.
      above_cap : (In u s.entered → ⊥) → Held laws laws.cap → net.below (f d) laws.cap ≡ false
      above_cap out (inr inert) = inert (f d) good_f
      above_cap out (inl good_cap) =
          let rests : net.start u ≡ false = ⊎_elim (λ t. absurd (out (acc.start_entered u (step.source.0, holds t)))) (λ r. r) (tested (net.start u)) in
          let at_cap = acc.rest_first u out ∙ laws.cap_first u step.source rests in
          laws.transitive good_cap good good_f (rw at_cap at above) (laws.step_never_lowers step good)

      -- Then v's label is at most f d, as v is a starting cell, or its label is the cap or below it.
      from_rest :
          (In u s.entered → ⊥) → laws.Good (label net s v)
          → (net.start v ≡ true) ⊎ (net.start v ≡ false) → In v s.entered ⊎ (In v s.entered → ⊥) → net.below (f d) (label net s v) ≡ false
      from_rest out good_v (inl t) k =
          let starts : Starting net v = ((laws.step_inside step).0, holds t) in
          rw (acc.start_first v starts) (laws.start_least v starts good_f)
      from_rest out good_v (inr rests) (inl k) =
          not_below_lower laws good_v laws.cap_held good_f (acc.below_cap v k rests) (above_cap out laws.cap_held)
      from_rest out good_v (inr rests) (inr o) =
          rw (acc.rest_first v o ∙ laws.cap_first v (laws.step_inside step) rests) (above_cap out laws.cap_held)

      walk_on : In u s.entered ⊎ (In u s.entered → ⊥) → Held laws (label net s v) → net.below (f d) (label net s v) ≡ false
      walk_on k (inr inert) = inert (f d) good_f
      walk_on (inl k) (inl good_v) = from_entered k good_v
      walk_on (inr out) (inl good_v) = from_rest out good_v (tested (net.start v)) (in_or_not v s.entered)

    -- No walk gives less than the label of its last cell, by induction over the walk.
    no_walk_less : {from c : ℕ} {d : L} → Walk net from c d → net.below d (label net s c) ≡ false
    no_walk_less (here {c = c} starts) = rw (acc.start_first c starts) (laws.start_least c starts (laws.start_good c starts))
    no_walk_less (on {u = u} {v = v} f walk i) =
        let at_u = walk_good laws walk in
        let step : Step net u v f = record { source = at_u.0; listed = i } in
        walk_on step at_u.1 (no_walk_less walk) (in_or_not u s.entered) (sound.held v (laws.step_inside step))

    settled : LeastSums laws s
    settled = record {
      no_less = no_walk_less;
      entered_met = acc.entered_walk;
      rest_first = acc.rest_first;
      start_entered = acc.start_entered;
      start_first = acc.start_first;
      below_cap = acc.below_cap;
    }

  -- From any sound state whose labels are accounted for, a run that stops holds the least sums.
  least_sums_from :
      (s : State L) → Sound laws s → Accounted laws s.waiting s → (k : ℕ) → (run net k s).waiting ≡ [] → LeastSums laws (run net k s)
  least_sums_from s sound acc k stops =
      settled (sound_run laws k s sound) (subst (λ l. Accounted laws l (run net k s)) stops (accounted_run laws k s sound acc))

  -- The search ends with the least sums.
  pub least_sums : LeastSums laws (finish net)
  unfolding finish
  least_sums =
      least_sums_from (initial net) (sound_initial laws) (accounted_initial laws) (net.cells * net.cells) (ends_within_square laws).nothing_waits
