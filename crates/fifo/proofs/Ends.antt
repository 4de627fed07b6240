-- The search ends within the square of the number of cells that may be entered or started from.
use mathlib.Core.Bool.{true, false}
use mathlib.Core.List.{List, [], ◌∷◌, ◌++◌, append_assoc}
use mathlib.Core.Logic.{◌⊎◌, inl, inr, ⊎_elim}
use mathlib.Core.Path.{◌≡◌, refl, sym, ap, ◌∙◌, subst}
use Prim.Native.Nat.{ℕ, zero, suc, ◌+◌, ◌*◌, ◌<◌, ◌≤◌}
use native.Mathlib.Nat.{le_trans, mul-le-mul}
use native.Mathlib.Omega.{arith}
use lib.ListN.{length, length-append}
use Rattle.fifo.specs.Machine.{Net, State, passing, initial, label, take, run, takes, finish, takes_of}
use Rattle.fifo.specs.Walk.{In}
use Rattle.fifo.specs.Laws.{room, EndsWithinSquare, Enterable, Laws, Sound}
use Rattle.fifo.specs.Simulation.{Within}
use Rattle.fifo.proofs.Lists.{tested, true_or_false, same_or_not, in_back, joined_cases, without, length_without, in_without, no_dup_no_longer, empty_or_not}
use Rattle.fifo.proofs.Ranges.{in_passing}
use Rattle.fifo.proofs.Induction.{awaiting, label_awaiting, label_unstored, after_store, waiting_store, Kept, take_keeps, take_appends, run_keeps, run_zero, run_head, takes_stopped}
use Rattle.fifo.proofs.Runs.{takes_add, takes_at_most, stops_by, run_past}
use Rattle.fifo.proofs.Order.{not_below_itself}
use Rattle.fifo.proofs.Sound.{room_at_most_cells, head_in, rest_in, head_once, head_good, head_step, candidate_good, candidate_inside, sound_awaiting, stored_inside, sound_kept, sound_take, sound_initial}

-- A cell of the list, with what stands before and after it, such that no cell of the list has a label below its own.
record LeastOf {L : Type 0} (net : Net L) (of : ℕ → L) (l : List ℕ) : Type 0 where
  cell : ℕ
  before : List ℕ
  after : List ℕ
  split : l ≡ before ++ cell ∷ after
  least : (c : ℕ) → In c l → net.below (of c) (of cell) ≡ false

cell_in : {L : Type 0} {net : Net L} {of : ℕ → L} {l : List ℕ} (m : LeastOf net of l) → In m.cell l
cell_in m = subst (In m.cell) (sym m.split) (in_back m.cell m.before (m.cell ∷ m.after) (inl refl))

module _ {L : Type 0} {net : Net L} (laws : Laws net) where
  -- A list with a head has a least cell: the head, or the least of the rest if that is below the head.
  least_of : (of : ℕ → L) (u : ℕ) (ws : List ℕ) → ((c : ℕ) → In c (u ∷ ws) → laws.Good (of c)) → LeastOf net of (u ∷ ws)
  least_of of u [] good = record {
    cell = u;
    before = [];
    after = [];
    split = refl;
    least = λ c i. ⊎_elim (λ p. rw p (not_below_itself laws (good u (inl refl)))) absurd i;
  }
  least_of of u (w ∷ ws) good =
      let rest = least_of of w ws (λ c i. good c (inr i)) in
      choose rest (tested (net.below (of rest.cell) (of u)))
    where
      choose :
          (rest : LeastOf net of (w ∷ ws)) → (net.below (of rest.cell) (of u) ≡ true) ⊎ (net.below (of rest.cell) (of u) ≡ false)
          → LeastOf net of (u ∷ w ∷ ws)
      choose rest (inl lower) = record {
        cell = rest.cell;
        before = u ∷ rest.before;
        after = rest.after;
        split = ap (λ l. u ∷ l) rest.split;
        least = λ c i. ⊎_elim (λ p. rw p (laws.asymmetric (good rest.cell (inr (cell_in rest))) (good u (inl refl)) lower)) (rest.least c) i;
      }
      choose rest (inr level) = record {
        cell = u;
        before = [];
        after = w ∷ ws;
        split = refl;
        least = λ c i. ⊎_elim (λ p. rw p (not_below_itself laws (good u (inl refl))))
            (λ j. laws.transitive (good u (inl refl)) (good rest.cell (inr (cell_in rest))) (good c i) level (rest.least c j))
            i;
      }

  -- No waiting cell has a label below c's.
  record Lowest (s : State L) (c : ℕ) : Type 0 where
    good : laws.Good (label net s c)
    lowest : (w : ℕ) → In w s.waiting → net.below (label net s w) (label net s c) ≡ false

  -- What holds of a lowest cell c all through a take from s after which ws wait on.
  record Through (s : State L) (ws : List ℕ) (c : ℕ) (t : State L) : Type 0 where
    sound : Sound laws t
    same : label net t c ≡ label net s c
    lowest : (w : ℕ) → In w t.waiting → net.below (label net t w) (label net s c) ≡ false
    not_again : In c t.waiting → In c ws

  -- A lowest cell stays lowest through a take, and is not queued by it.
  -- The candidate is not below the label of the cell taken, and that is not below c's. So it is not stored to c,
  -- and the cell that it is stored to, if any, waits with a label that is not below c's.
  lowest_take :
      (u : ℕ) (ws : List ℕ) (s : State L) → s.waiting ≡ u ∷ ws → Sound laws s
      → (c : ℕ) → Lowest s c → Lowest (take net u ws s) c × (In c (take net u ws s).waiting → In c ws)
  lowest_take u ws s e sound c low =
      let through = take_keeps net (Through s ws c) u ws s kept begin in
      (record { good = rw through.same low.good; lowest = λ w i. rw through.same (through.lowest w i) }, through.not_again)
    where
      begin : Through s ws c (awaiting ws s)
      begin = record {
        sound = sound_awaiting laws sound e;
        same = label_awaiting net ws s c;
        lowest = λ w i. rw (label_awaiting net ws s w) (low.lowest w (rest_in laws sound e w i));
        not_again = λ i. i;
      }

      not_lower : (v : ℕ) (f : L → L) → In (v, f) (net.nbrs u) → net.below (f (label net s u)) (label net s c) ≡ false
      not_lower v f i =
          let good = head_good laws sound e in
          let never_lowers = laws.step_never_lowers (head_step laws sound e v f i) good in
          laws.transitive low.good good (candidate_good laws sound e v f i) (low.lowest u (head_in laws sound e)) never_lowers

      kept : Kept net (Through s ws c) (label net s u) (net.nbrs u)
      kept v f i t lower p = record {
        sound = sound_kept laws sound e v f i t lower p.sound;
        same = label_unstored net v x t c other ∙ p.same;
        lowest = λ w j. after_store net (λ y. net.below y (label net s c) ≡ false) v x t w inside (λ _. not_lower v f i)
            (λ n. ⊎_elim (p.lowest w) (λ q. absurd (n q)) (joined_cases w v t.waiting (rw waiting_store at j)));
        not_again = λ j. ⊎_elim p.not_again (λ q. absurd (other q)) (joined_cases c v t.waiting (rw waiting_store at j));
      }
        where
          x : L
          x = f (label net s u)

          other : c ≡ v → ⊥
          other q = true_or_false lower (subst (λ b. net.below x (label net t b) ≡ false) q (rw p.same (not_lower v f i)))

          inside : v < length t.labels
          inside = stored_inside laws v x t (candidate_inside laws sound e v f i) (candidate_good laws sound e v f i) p.sound

  -- A lowest cell that waits behind `before` has retired once those and it are taken: it is lowest and does not wait.
  retire :
      (before : List ℕ) (m : ℕ) (after : List ℕ) (s : State L) → s.waiting ≡ before ++ m ∷ after → Sound laws s → Lowest s m
      → (In m (run net (suc (length before)) s).waiting → ⊥) × Lowest (run net (suc (length before)) s) m
  retire [] m after s e sound low =
      let next = lowest_take m after s e sound m low in
      rw (run_head net 0 s m after e, run_zero) (λ i. head_once laws sound e (next.1 i), next.0)
  retire (u ∷ before) m after s e sound low =
      let ws = before ++ m ∷ after in
      let more = take_appends net u ws s in
      let next = lowest_take u ws s e sound m low in
      rw (run_head net (suc (length before)) s u ws e)
      (retire before m (after ++ more.0) (take net u ws s) (more.1 ∙ append_assoc before (m ∷ after) more.0) (sound_take laws u ws s e sound) next.0)

  -- Each cell that may be entered is live or has retired.
  abbrev Covered : List ℕ → State L → Type 0
  Covered live s = (c : ℕ) → Enterable net c → In c live ⊎ ((In c s.waiting → ⊥) × Lowest s c)

  covered_take :
      (live : List ℕ) (u : ℕ) (ws : List ℕ) (s : State L) → s.waiting ≡ u ∷ ws → Sound laws s × Covered live s
      → Sound laws (take net u ws s) × Covered live (take net u ws s)
  covered_take live u ws s e (sound, covered) = (sound_take laws u ws s e sound, λ c may. cover c (covered c may))
    where
      cover :
          (c : ℕ) → In c live ⊎ ((In c s.waiting → ⊥) × Lowest s c)
          → In c live ⊎ ((In c (take net u ws s).waiting → ⊥) × Lowest (take net u ws s) c)
      cover c (inl i) = inl i
      cover c (inr (out, low)) =
          let next = lowest_take u ws s e sound c low in
          inr (λ i. out (rest_in laws sound e c (next.1 i)), next.0)

  -- A live cell that has retired need not be counted as live.
  covered_without :
      (live : List ℕ) (s : State L) (m : ℕ) → (In m s.waiting → ⊥) × Lowest s m → Covered live s → Covered (without m live) s
  covered_without live s m retired covered c may = cover (same_or_not c m) (covered c may)
    where
      cover :
          (c ≡ m) ⊎ (c ≡ m → ⊥) → In c live ⊎ ((In c s.waiting → ⊥) × Lowest s c)
          → In c (without m live) ⊎ ((In c s.waiting → ⊥) × Lowest s c)
      cover (inl p) i = inr (rw p retired)
      cover (inr other) (inl i) = inl (in_without m c live other i)
      cover (inr other) (inr out) = inr out

  waiting_live : (live : List ℕ) (s : State L) → Sound laws s → Covered live s → (c : ℕ) → In c s.waiting → In c live
  waiting_live live s sound covered c i = ⊎_elim (λ l. l) (λ out. absurd (out.0 i)) (covered c (sound.waits c i).0)

  -- One round, with at most b + 1 cells live, up to the take of the least of the waiting cells.
  -- Those taken are at most the cells that wait, which are live; then one cell fewer is live.
  round :
      (b : ℕ) (live : List ℕ) (s : State L) → length live ≤ suc b → Sound laws s → Covered live s → LeastOf net (label net s) s.waiting
      → (k : ℕ) → ((rest : List ℕ) (t : State L) → length rest ≤ b → Sound laws t → Covered rest t → takes net k t ≤ b * b)
      → takes net k s ≤ suc b * suc b
  round b live s few sound covered m k later =
      let n = suc (length m.before) in
      let low : Lowest s m.cell = record { good = (sound.waits m.cell (cell_in m)).1; lowest = m.least } in
      let retired = retire m.before m.cell m.after s m.split sound low in
      let kept = run_keeps net (λ t. Sound laws t × Covered live t) (covered_take live) n s (sound, covered) in
      let fewer = length_without m.cell live (waiting_live live s sound covered m.cell (cell_in m)) in
      let rest = later (without m.cell live) (run net n s) (omega arith) kept.0 (covered_without live (run net n s) m.cell retired kept.1) in
      let waiting_few = no_dup_no_longer s.waiting live sound.single (waiting_live live s sound covered) in
      let n_few : length s.waiting ≡ length m.before + suc (length m.after) = ap length m.split ∙ length-append m.before (m.cell ∷ m.after) in
      let either_order : takes net (n + k) s ≡ takes net (k + n) s = ap (λ j. takes net j s) (omega arith) in
      omega (arith, takes_add net n k s, takes_at_most net n s, takes_add net k n s)

  -- With b live cells at most b * b cells are taken: a round takes at most b, and leaves b - 1 live, and b + (b - 1) * (b - 1) is at most b * b.
  bounded : (b : ℕ) (k : ℕ) (live : List ℕ) (s : State L) → length live ≤ b → Sound laws s → Covered live s → takes net k s ≤ b * b
  bounded zero k live s few sound covered = stopped (empty_or_not s.waiting)
    where
      nobody : (l : List ℕ) → length l ≤ 0 → (c : ℕ) → In c l → ⊥
      nobody [] none c i = i
      nobody (a ∷ l) none c i = omega arith

      stopped : (s.waiting ≡ []) ⊎ ((u : ℕ) × (ws : List ℕ) × (s.waiting ≡ u ∷ ws)) → takes net k s ≤ 0
      stopped (inl none) = omega (arith, takes_stopped net k s none)
      stopped (inr (u, ws, e)) = absurd (nobody live few u (waiting_live live s sound covered u (head_in laws sound e)))
  bounded (suc b) k live s few sound covered = go (empty_or_not s.waiting) (bounded b k)
    where
      go :
          (s.waiting ≡ []) ⊎ ((u : ℕ) × (ws : List ℕ) × (s.waiting ≡ u ∷ ws))
          → ((rest : List ℕ) (t : State L) → length rest ≤ b → Sound laws t → Covered rest t → takes net k t ≤ b * b)
          → takes net k s ≤ suc b * suc b
      go (inl none) later = omega (arith, takes_stopped net k s none)
      go (inr (u, ws, e)) later =
          let least = least_of (label net s) u ws (λ c i. (sound.waits c (subst (In c) (sym e) i)).1) in
          round b live s few sound covered (subst (LeastOf net (label net s)) (sym e) least) k later

  -- From any sound state a run takes at most the square of the number of cells that may be entered, and then nothing waits.
  pub takes_within_square : (s : State L) → Sound laws s → (k : ℕ) → takes net k s ≤ room net * room net
  unfolding room
  takes_within_square s sound k =
      bounded (room net) k (passing net.enterable 0 net.cells) s (omega arith) sound
      (λ c may. inl (in_passing net.enterable 0 net.cells c (omega arith) (omega (arith, may.0)) may.1))

  stops_within_square : (s : State L) → Sound laws s → (k : ℕ) → room net * room net ≤ k → (run net k s).waiting ≡ []
  stops_within_square s sound k enough =
      let square = room net * room net in
      let stops = stops_by net square s (takes_within_square s sound (square + 1)) in
      rw (run_past net square k s stops enough) stops

  room_squared : room net * room net ≤ net.cells * net.cells
  room_squared = mul-le-mul (room_at_most_cells net) (room_at_most_cells net)

  -- No run from the start takes more than the square of the number of cells.
  pub laws_within : Within (net.cells * net.cells) net
  laws_within k = le_trans (takes_within_square (initial net) (sound_initial laws) k) room_squared

  -- The search ends: nothing waits, and it has taken at most the square of the number of cells that may be entered.
  pub ends_within_square : EndsWithinSquare net
  unfolding finish takes_of
  ends_within_square = record {
    nothing_waits = stops_within_square (initial net) (sound_initial laws) (net.cells * net.cells) room_squared;
    takes_within_square = takes_within_square (initial net) (sound_initial laws) (net.cells * net.cells);
    room_within_cells = room_at_most_cells net;
  }
