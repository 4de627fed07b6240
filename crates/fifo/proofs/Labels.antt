-- Every label stays accounted for: that of an entered cell is a walk's, and an entered cell that does not wait has relaxed its steps.
use mathlib.Core.Bool.{true, false}
use mathlib.Core.List.{List, ◌∷◌}
use mathlib.Core.Logic.{◌⊎◌, inl, inr, ⊎_elim}
use mathlib.Core.Path.{◌≡◌, refl, ◌∙◌, subst}
use Prim.Native.Nat.{ℕ, ◌<◌}
use native.Mathlib.Omega.{arith}
use lib.Ieee.Bits.{is_true}
use lib.ListN.{length}
use Rattle.fifo.specs.Machine.{Net, State, initial, label, store, relax, take, run}
use Rattle.fifo.specs.Walk.{In, Starting, Walk, here, on}
use Rattle.fifo.specs.Laws.{Enterable, Step, Laws, Sound, Relaxed, Accounted}
use Rattle.fifo.proofs.Lists.{true_or_false, same_or_not, in_or_not, in_joined, joiner_in, joined_cases, no_dup_joined}
use Rattle.fifo.proofs.Ranges.{in_passing, no_dup_passing}
use Rattle.fifo.proofs.Induction.{awaiting, label_stored, label_unstored, after_store, waiting_store, entered_store, relax_cases, Kept, take_keeps, take_reaches, run_keeps}
use Rattle.fifo.proofs.Order.{not_below_itself, good_above, below_trans}
use Rattle.fifo.proofs.Sound.{label_initial, passing_starts, head_in, rest_in, sound_awaiting, stored_inside, sound_store, not_below_stored, sound_take}

-- A walk begins at a starting cell.
pub walk_starts : {L : Type 0} {net : Net L} {from c : ℕ} {d : L} → Walk net from c d → Starting net from
walk_starts (here starts) = starts
walk_starts (on f walk i) = walk_starts walk

module _ {L : Type 0} {net : Net L} (laws : Laws net) where
  -- A walk stays on cells that may be entered, with labels that travel.
  pub walk_good : {from c : ℕ} {d : L} → Walk net from c d → Enterable net c × laws.Good d
  walk_good (here {c = c} starts) = ((starts.0, laws.start_enterable c starts), laws.start_good c starts)
  walk_good (on {u = u} {v = v} f walk i) =
      let before = walk_good walk in
      let step : Step net u v f = record { source = before.0; listed = i } in
      (laws.step_inside step, laws.step_good step before.1)

  -- What holds all through the take of u, which had the label d.
  record Scanning (u : ℕ) (d : L) (t : State L) : Type 0 where
    sound : Sound laws t
    accounted : Accounted laws (u ∷ t.waiting) t
    same : label net t u ≡ d
    entered : In u t.entered

  -- In such a state a step to v by f is tried, and its candidate is below v's label, so that it is stored.
  module _ {u : ℕ} {d : L} {t : State L} (now : Scanning u d t) (v : ℕ) (f : L → L) (i : In (v, f) (net.nbrs u)) where
    left : Enterable net u × laws.Good d
    left = walk_good (rw now.same at (now.accounted.entered_walk u now.entered).1)

    step : Step net u v f
    step = record { source = left.0; listed = i }

    good : laws.Good (f d)
    good = laws.step_good step left.1

    inside : v < length t.labels
    inside = stored_inside laws v (f d) t (laws.step_inside step) good now.sound

    module _ (lower : net.below (f d) (label net t v) ≡ true) where
      -- The cell that is left keeps its label, as the candidate is not below it.
      other_cell : u ≡ v → ⊥
      other_cell p =
          let above : net.below (f d) (label net t u) ≡ false = rw now.same (laws.step_never_lowers step left.1) in
          true_or_false lower (subst (λ b. net.below (f d) (label net t b) ≡ false) p above)

      -- No starting cell takes a label, as none is below its own.
      not_a_start : (c : ℕ) → Starting net c → c ≡ v → ⊥
      not_a_start c starts p =
          let above : net.below (f d) (label net t c) ≡ false = rw (now.accounted.start_first c starts) (laws.start_least c starts good) in
          true_or_false lower (subst (λ b. net.below (f d) (label net t b) ≡ false) p above)

      now_entered : (c : ℕ) → c ≡ v → In c (store net v (f d) t).entered
      now_entered c p = rw entered_store (joiner_in c v t.entered p)

      still_entered : (c : ℕ) → In c t.entered → In c (store net v (f d) t).entered
      still_entered c k = rw entered_store (in_joined c v t.entered k)

      was_entered : (c : ℕ) → (c ≡ v → ⊥) → In c (store net v (f d) t).entered → In c t.entered
      was_entered c other j = ⊎_elim (λ k. k) (λ p. absurd (other p)) (joined_cases c v t.entered (rw entered_store at j))

      waiting_entered : (c : ℕ) → In c t.waiting ⊎ (c ≡ v) → In c (store net v (f d) t).entered
      waiting_entered c (inl j) = still_entered c (now.accounted.waiting_entered c j)
      waiting_entered c (inr p) = now_entered c p

      -- The walk to u and this step make the walk to v.
      walk_to : (c : ℕ) → c ≡ v → (from : ℕ) × Walk net from c (f d)
      walk_to c p =
          let walk = now.accounted.entered_walk u now.entered in
          (walk.0, rw p (on f (rw now.same at walk.1) i))

      -- A candidate below the label of a cell that did not start is below the cap: that label is the cap or below it.
      candidate_below_cap : net.start v ≡ false → In v t.entered ⊎ (In v t.entered → ⊥) → net.below (f d) laws.cap ≡ true
      candidate_below_cap rests (inl k) =
          let good_v = good_above laws good (now.sound.held v (laws.step_inside step)) lower in
          below_trans laws good good_v laws.cap_held lower (now.accounted.below_cap v k rests)
      candidate_below_cap rests (inr out) =
          rw (now.accounted.rest_first v out ∙ laws.cap_first v (laws.step_inside step) rests) at lower

      -- A step that was relaxed stays so: the cell that it leaves has the same label, and the cell that it enters the same or a lower one.
      relaxed_stored : (c : ℕ) → (c ≡ v → ⊥) → In c t.entered → Relaxed laws t c → Relaxed laws (store net v (f d) t) c
      relaxed_stored c other k done w g j =
          let at_c = walk_good (now.accounted.entered_walk c k).1 in
          let good_w = laws.step_good (record { source = at_c.0; listed = j }) at_c.1 in
          rw (label_unstored net v (f d) t c other)
          (not_below_stored laws v (f d) t (laws.step_inside step) good now.sound lower w good_w (done w g j))

      pending_or_relaxed :
          (c : ℕ) → In c (store net v (f d) t).entered → (c ≡ v) ⊎ (c ≡ v → ⊥)
          → In c (u ∷ (store net v (f d) t).waiting) ⊎ Relaxed laws (store net v (f d) t) c
      pending_or_relaxed c j (inl p) = inl (inr (rw waiting_store (joiner_in c v t.waiting p)))
      pending_or_relaxed c j (inr other) =
          let k = was_entered c other j in
          ⊎_elim (λ l. inl (⊎_elim inl (λ w. inr (rw waiting_store (in_joined c v t.waiting w))) l))
          (λ done. inr (relaxed_stored c other k done))
          (now.accounted.relaxed c k)

      scanning_store : Scanning u d (store net v (f d) t)
      scanning_store = record {
        sound = sound_store laws v (f d) t (laws.step_inside step) good now.sound;
        same = label_unstored net v (f d) t u other_cell ∙ now.same;
        entered = still_entered u now.entered;
        accounted = record {
          entered_single = rw entered_store (no_dup_joined v t.entered now.accounted.entered_single);
          waiting_entered = λ c j. waiting_entered c (joined_cases c v t.waiting (rw waiting_store at j));
          start_entered = λ c starts. still_entered c (now.accounted.start_entered c starts);
          entered_walk = λ c j. after_store net (λ y. (from : ℕ) × Walk net from c y) v (f d) t c inside (walk_to c)
              (λ other. now.accounted.entered_walk c (was_entered c other j));
          start_first = λ c starts. label_unstored net v (f d) t c (not_a_start c starts) ∙ now.accounted.start_first c starts;
          rest_first = λ c out. label_unstored net v (f d) t c (λ p. out (now_entered c p)) ∙ now.accounted.rest_first c (λ k. out (still_entered c k));
          below_cap = λ c j rests. after_store net (λ y. net.below y laws.cap ≡ true) v (f d) t c inside
              (λ p. candidate_below_cap (subst (λ b. net.start b ≡ false) p rests) (in_or_not v t.entered))
              (λ other. now.accounted.below_cap c (was_entered c other j) rests);
          relaxed = λ c j. pending_or_relaxed c j (same_or_not c v);
        };
      }

  module _ (u : ℕ) (ws : List ℕ) (s : State L) (e : s.waiting ≡ u ∷ ws) (sound : Sound laws s) (acc : Accounted laws s.waiting s) where
    scanning_begins : Scanning u (label net s u) (awaiting ws s)
    unfolding label
    scanning_begins = record {
      sound = sound_awaiting laws sound e;
      same = refl;
      entered = acc.waiting_entered u (head_in laws sound e);
      accounted = record {
        entered_single = acc.entered_single;
        waiting_entered = λ c i. acc.waiting_entered c (rest_in laws sound e c i);
        start_entered = acc.start_entered;
        entered_walk = acc.entered_walk;
        start_first = acc.start_first;
        rest_first = acc.rest_first;
        below_cap = acc.below_cap;
        relaxed = λ c k. ⊎_elim (λ l. inl (subst (In c) e l)) inr (acc.relaxed c k);
      };
    }

    scanning_kept : Kept net (Scanning u (label net s u)) (label net s u) (net.nbrs u)
    scanning_kept v f i t lower now = scanning_store now v f i lower

    -- After the take each candidate is not below the label of its cell.
    -- It was stored, or was not below that label, when the step was tried; later stores only let the label fall.
    step_done : (v : ℕ) (f : L → L) → In (v, f) (net.nbrs u) → net.below (f (label net s u)) (label net (take net u ws s) v) ≡ false
    step_done = take_reaches net (Scanning u (label net s u)) (λ v f t. Done v f t) u ws s scanning_kept brings stays scanning_begins
      where
        Done : ℕ → (L → L) → State L → Type 0
        Done v f t = net.below (f (label net s u)) (label net t v) ≡ false

        brings :
            (v : ℕ) (f : L → L) → In (v, f) (net.nbrs u) → (t : State L) → Scanning u (label net s u) t
            → Done v f (relax net (label net s u) (v, f) t)
        brings v f i t now =
            relax_cases net (Done v f) (label net s u) v f t
            (λ _. rw (label_stored net v (f (label net s u)) t (inside now v f i)) (not_below_itself laws (good now v f i)))
            (λ above. above)

        stays :
            (v : ℕ) (f : L → L) → In (v, f) (net.nbrs u)
            → Kept net (λ t. Scanning u (label net s u) t × Done v f t) (label net s u) (net.nbrs u)
        stays v f i w g j t lower (now, done) = (
          scanning_store now w g j lower,
          not_below_stored laws w (g (label net s u)) t (laws.step_inside (step now w g j)) (good now w g j) now.sound lower v (good now v f i) done,
        )

    -- A take keeps every label accounted for: its stores do, and after it the cell taken has relaxed its steps.
    accounted_take : Accounted laws (take net u ws s).waiting (take net u ws s)
    accounted_take = record {
      entered_single = after.accounted.entered_single;
      waiting_entered = after.accounted.waiting_entered;
      start_entered = after.accounted.start_entered;
      entered_walk = after.accounted.entered_walk;
      start_first = after.accounted.start_first;
      rest_first = after.accounted.rest_first;
      below_cap = after.accounted.below_cap;
      relaxed = λ c k. ⊎_elim (⊎_elim (λ p. inr (rw p taken_relaxed)) inl) inr (after.accounted.relaxed c k);
    }
      where
        after : Scanning u (label net s u) (take net u ws s)
        after = take_keeps net (Scanning u (label net s u)) u ws s scanning_kept scanning_begins

        taken_relaxed : Relaxed laws (take net u ws s) u
        taken_relaxed v f i = rw after.same (step_done v f i)

  pub accounted_run :
      (k : ℕ) (s : State L) → Sound laws s → Accounted laws s.waiting s → Accounted laws (run net k s).waiting (run net k s)
  accounted_run k s sound acc = (run_keeps net (λ t. Sound laws t × Accounted laws t.waiting t) taken k s (sound, acc)).1
    where
      taken :
          (u : ℕ) (ws : List ℕ) (t : State L) → t.waiting ≡ u ∷ ws → Sound laws t × Accounted laws t.waiting t
          → Sound laws (take net u ws t) × Accounted laws (take net u ws t).waiting (take net u ws t)
      taken u ws t e p = (sound_take laws u ws t e p.0, accounted_take u ws t e p.0 p.1)

  pub accounted_initial : Accounted laws (initial net).waiting (initial net)
  unfolding initial
  accounted_initial = record {
    entered_single = no_dup_passing net.start 0 net.cells;
    waiting_entered = λ c i. i;
    start_entered = λ c starts. in_passing net.start 0 net.cells c (omega arith) (omega (arith, starts.0)) starts.1;
    entered_walk = λ c i. (c, rw label_initial (here (passing_starts net c i)));
    start_first = λ c starts. label_initial net c;
    rest_first = λ c out. label_initial net c;
    below_cap = λ c i rests. absurd (true_or_false (is_true (net.start c) (passing_starts net c i).1) rests);
    relaxed = λ c i. inl i;
  }
