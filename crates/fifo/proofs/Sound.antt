-- A sound state stays sound: no cell waits twice, each that waits may be entered, and the labels keep to what can travel.
use mathlib.Core.Bool.{true, false}
use mathlib.Core.List.{List, ◌∷◌}
use mathlib.Core.Logic.{◌⊎◌, inl, inr}
use mathlib.Core.Path.{◌≡◌, refl, sym, ◌∙◌, subst}
use Prim.Native.Nat.{ℕ, ◌<◌, ◌≤◌}
use native.Mathlib.Nat.{zero-add}
use native.Mathlib.Omega.{arith}
use lib.Ieee.Bits.{is_true}
use lib.ListN.{length, get_or}
use Rattle.fifo.specs.Machine.{Net, State, table, passing, initial, label, store, take, run}
use Rattle.fifo.specs.Walk.{In, NoDup, Starting}
use Rattle.fifo.specs.Laws.{room, Enterable, Step, Laws, Held, Sound}
use Rattle.fifo.proofs.Lists.{tested, holds, true_or_false, joined_cases, no_dup_joined}
use Rattle.fifo.proofs.Ranges.{length_table, getD_table, passing_in, no_dup_passing, length_passing}
use Rattle.fifo.proofs.Induction.{awaiting, after_store, label_unstored, label_awaiting, length_store, waiting_store, Kept, take_keeps, run_keeps}
use Rattle.fifo.proofs.Order.{not_below_lower}

-- At the start each cell has its first label.
pub label_initial : {L : Type 0} (net : Net L) (c : ℕ) → label net (initial net) c ≡ net.first c
unfolding label initial
label_initial net c =
    let labels = table net.first 0 net.cells in
    subst (λ j. get_or labels c (net.first j) ≡ net.first j) (zero-add c) (getD_table net.first 0 net.cells c)

-- A cell that waits or is entered at the start is a starting cell.
pub passing_starts : {L : Type 0} (net : Net L) (c : ℕ) → In c (passing net.start 0 net.cells) → Starting net c
passing_starts net c i = let p = passing_in net.start 0 net.cells c i in (omega (arith, p.1), p.2)

pub room_at_most_cells : {L : Type 0} (net : Net L) → room net ≤ net.cells
unfolding room
room_at_most_cells net = length_passing net.enterable 0 net.cells

module _ {L : Type 0} {net : Net L} (laws : Laws net) where
  module _ {s : State L} (sound : Sound laws s) where
    module _ {u : ℕ} {ws : List ℕ} (e : s.waiting ≡ u ∷ ws) where
      pub head_in : In u s.waiting
      head_in = subst (In u) (sym e) (inl refl)

      pub rest_in : (c : ℕ) → In c ws → In c s.waiting
      rest_in c i = subst (In c) (sym e) (inr i)

      pub head_once : In u ws → ⊥
      head_once = (subst NoDup e sound.single).0

      pub head_good : laws.Good (label net s u)
      head_good = (sound.waits u head_in).1

      -- A step from the head, and what the laws say of its candidate.
      pub head_step : (v : ℕ) (f : L → L) → In (v, f) (net.nbrs u) → Step net u v f
      head_step v f i = record { source = (sound.waits u head_in).0; listed = i }

      pub candidate_inside : (v : ℕ) (f : L → L) → In (v, f) (net.nbrs u) → Enterable net v
      candidate_inside v f i = laws.step_inside (head_step v f i)

      pub candidate_good : (v : ℕ) (f : L → L) → In (v, f) (net.nbrs u) → laws.Good (f (label net s u))
      candidate_good v f i = laws.step_good (head_step v f i) head_good

      pub sound_awaiting : Sound laws (awaiting ws s)
      unfolding label
      sound_awaiting = record {
        size = sound.size;
        single = (subst NoDup e sound.single).1;
        waits = λ c i. sound.waits c (rest_in c i);
        held = sound.held;
      }

  module _ (v : ℕ) (x : L) (s : State L) (inside : Enterable net v) (good : laws.Good x) (sound : Sound laws s) where
    pub stored_inside : v < length s.labels
    stored_inside = omega (arith, sound.size, inside.0)

    pub sound_store : Sound laws (store net v x s)
    sound_store = record {
      size = length_store net v x s ∙ sound.size;
      single = rw waiting_store (no_dup_joined v s.waiting sound.single);
      waits = λ c i. waits c (joined_cases c v s.waiting (rw waiting_store at i));
      held = λ c may. after_store net (Held laws) v x s c stored_inside (λ _. inl good) (λ _. sound.held c may);
    }
      where
        waits : (c : ℕ) → In c s.waiting ⊎ (c ≡ v) → Enterable net c × laws.Good (label net (store net v x s) c)
        waits c (inl i) =
            let before = sound.waits c i in
            (before.0, after_store net laws.Good v x s c stored_inside (λ _. good) (λ _. before.1))
        waits c (inr p) =
            (subst (Enterable net) (sym p) inside, after_store net laws.Good v x s c stored_inside (λ _. good) (λ other. absurd (other p)))

    -- What is not below a label is not below it after a store of what is: the label is the same or has fallen.
    pub not_below_stored :
        net.below x (label net s v) ≡ true
        → (c : ℕ) {y : L} → laws.Good y → net.below y (label net s c) ≡ false → net.below y (label net (store net v x s) c) ≡ false
    not_below_stored lower c {y} good_y above =
        after_store net (λ z. net.below y z ≡ false) v x s c stored_inside
        (λ p. not_below_lower laws good (sound.held v inside) good_y lower (subst (λ b. net.below y (label net s b) ≡ false) p above))
        (λ _. above)

  -- Soundness is kept through a take.
  pub sound_kept : {s : State L} {u : ℕ} {ws : List ℕ} → Sound laws s → s.waiting ≡ u ∷ ws → Kept net (Sound laws) (label net s u) (net.nbrs u)
  sound_kept {s} {u} sound e v f i t lower = sound_store v (f (label net s u)) t (candidate_inside sound e v f i) (candidate_good sound e v f i)

  pub sound_take : (u : ℕ) (ws : List ℕ) (s : State L) → s.waiting ≡ u ∷ ws → Sound laws s → Sound laws (take net u ws s)
  sound_take u ws s e sound = take_keeps net (Sound laws) u ws s (sound_kept sound e) (sound_awaiting sound e)

  pub sound_run : (k : ℕ) (s : State L) → Sound laws s → Sound laws (run net k s)
  sound_run = run_keeps net (Sound laws) sound_take

  pub sound_initial : Sound laws (initial net)
  unfolding initial
  sound_initial = record {
    size = length_table net.first 0 net.cells;
    single = no_dup_passing net.start 0 net.cells;
    waits = λ c i. let starts = passing_starts net c i in ((starts.0, laws.start_enterable c starts), rw label_initial (laws.start_good c starts));
    held = λ c may. rw label_initial (held c may (tested (net.start c)));
  }
    where
      held : (c : ℕ) → Enterable net c → (net.start c ≡ true) ⊎ (net.start c ≡ false) → Held laws (net.first c)
      held c may (inl starts) = inl (laws.start_good c (may.0, holds starts))
      held c may (inr rests) = rw (laws.cap_first c may rests) laws.cap_held

  -- The label of a cell that may not be entered never changes.
  pub closed_kept : (c : ℕ) → net.enterable c ≡ false → (k : ℕ) (s : State L) → Sound laws s → label net (run net k s) c ≡ label net s c
  closed_kept c closed k s sound = (run_keeps net Same taken k s (sound, refl)).1
    where
      Same : State L → Type 0
      Same t = Sound laws t × (label net t c ≡ label net s c)

      elsewhere : (v : ℕ) → Enterable net v → c ≡ v → ⊥
      elsewhere v may p = true_or_false (is_true (net.enterable v) may.1) (subst (λ b. net.enterable b ≡ false) p closed)

      taken : (u : ℕ) (ws : List ℕ) (t : State L) → t.waiting ≡ u ∷ ws → Same t → Same (take net u ws t)
      taken u ws t e p = take_keeps net Same u ws t kept (sound_awaiting p.0 e, label_awaiting net ws t c ∙ p.1)
        where
          kept : Kept net Same (label net t u) (net.nbrs u)
          kept v f i r lower q = (
            sound_kept p.0 e v f i r lower q.0,
            label_unstored net v (f (label net t u)) r c (elsewhere v (candidate_inside p.0 e v f i)) ∙ q.1,
          )
