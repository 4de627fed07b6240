-- The machine taken apart, once: a label after a store, and what it takes to keep a property through a relaxation, a scan, a take and a run.
use mathlib.Core.Bool.{true, false, cond}
use mathlib.Core.List.{List, [], ◌∷◌, ◌++◌, append-nil, append_assoc}
use mathlib.Core.Logic.{inl, inr, ⊎_elim}
use mathlib.Core.Path.{◌≡◌, refl, sym, ap, ◌∙◌, subst}
use Prim.Native.Nat.{ℕ, zero, suc, ◌<◌}
use lib.ListN.{length, get_or, set, length-set}
use lib.Seq.{get_or-set_same, get_or-set_other}
use Rattle.fifo.specs.Machine.{Net, State, joined, label, store, relax, scan, take, run_from, run, takes_from, takes, trace_from, trace}
use Rattle.fifo.specs.Walk.{In}
use Rattle.fifo.proofs.Lists.{by_test, joined_appends, get_d_any, after_set}

-- The state with ws waiting.
abbrev pub awaiting : {L : Type 0} → List ℕ → State L → State L
awaiting ws s = record { labels = s.labels; waiting = ws; entered = s.entered }

module _ {L : Type 0} (net : Net L) where
  -- A label after a store.
  pub label_stored : (v : ℕ) (x : L) (s : State L) → v < length s.labels → label net (store net v x s) v ≡ x
  unfolding label store
  label_stored v x s inside = get_or-set_same s.labels v x (net.first v) inside

  pub label_unstored : (v : ℕ) (x : L) (s : State L) (c : ℕ) → (c ≡ v → ⊥) → label net (store net v x s) c ≡ label net s c
  unfolding label store
  label_unstored v x s c other = get_or-set_other s.labels v c x (net.first c) other

  -- To prove something of a label after a store, prove it of the stored label and of the labels of the other cells.
  pub after_store :
      (Q : L → Type 0) (v : ℕ) (x : L) (s : State L) (c : ℕ) → v < length s.labels
      → (c ≡ v → Q x) → ((c ≡ v → ⊥) → Q (label net s c)) → Q (label net (store net v x s) c)
  unfolding label store
  after_store Q v x s c = after_set Q s.labels v x (net.first c) c

  -- For a cell that has a label, the default that it is read with does not matter.
  pub label_getD : (s : State L) (v : ℕ) (x : L) → v < length s.labels → label net s v ≡ get_or s.labels v x
  unfolding label
  label_getD s v x = get_d_any s.labels v (net.first v) x

  -- The label of a cell does not turn on which cells wait.
  pub label_awaiting : (ws : List ℕ) (s : State L) (c : ℕ) → label net (awaiting ws s) c ≡ label net s c
  unfolding label
  label_awaiting ws s c = refl

  -- The parts of a state after a store.
  pub labels_store : (v : ℕ) (x : L) (s : State L) → (store net v x s).labels ≡ set s.labels v x
  unfolding store
  labels_store v x s = refl

  pub length_store : (v : ℕ) (x : L) (s : State L) → length (store net v x s).labels ≡ length s.labels
  unfolding store
  length_store v x s = length-set s.labels v x

  pub waiting_store : (v : ℕ) (x : L) (s : State L) → (store net v x s).waiting ≡ joined v s.waiting
  unfolding store
  waiting_store v x s = refl

  pub entered_store : (v : ℕ) (x : L) (s : State L) → (store net v x s).entered ≡ joined v s.entered
  unfolding store
  entered_store v x s = refl

  -- A relaxation stores or does nothing.
  pub relax_stores : (d : L) (v : ℕ) (f : L → L) (s : State L) → net.below (f d) (label net s v) ≡ true → relax net d (v, f) s ≡ store net v (f d) s
  unfolding relax
  relax_stores d v f s e = ap (λ b. cond b (store net v (f d) s) s) e

  pub relax_leaves : (d : L) (v : ℕ) (f : L → L) (s : State L) → net.below (f d) (label net s v) ≡ false → relax net d (v, f) s ≡ s
  unfolding relax
  relax_leaves d v f s e = ap (λ b. cond b (store net v (f d) s) s) e

  pub relax_cases :
      (P : State L → Type 0) (d : L) (v : ℕ) (f : L → L) (s : State L)
      → (net.below (f d) (label net s v) ≡ true → P (store net v (f d) s))
      → (net.below (f d) (label net s v) ≡ false → P s)
      → P (relax net d (v, f) s)
  unfolding relax
  relax_cases P d v f s = by_test P (net.below (f d) (label net s v))

  -- A scan goes on where another ended, and a take is a scan of all the cell's neighbours.
  pub scan_append : (d : L) (done more : List (ℕ × (L → L))) (s : State L) → scan net d (done ++ more) s ≡ scan net d more (scan net d done s)
  unfolding scan
  scan_append d [] more s = refl
  scan_append d (step ∷ done) more s = scan_append d done more (relax net d step s)

  pub take_is_scan : (u : ℕ) (ws : List ℕ) (s : State L) → take net u ws s ≡ scan net (label net s u) (net.nbrs u) (awaiting ws s)
  unfolding take
  take_is_scan u ws s = refl

  -- Each store of a scan keeps the property.
  abbrev pub Kept : (P : State L → Type 0) → L → List (ℕ × (L → L)) → Type 0
  Kept P d steps =
      (v : ℕ) (f : L → L) → In (v, f) steps → (t : State L) → net.below (f d) (label net t v) ≡ true → P t → P (store net v (f d) t)

  pub relax_keeps :
      (P : State L → Type 0) (d : L) (steps : List (ℕ × (L → L))) → Kept P d steps
      → (v : ℕ) (f : L → L) → In (v, f) steps → (s : State L) → P s → P (relax net d (v, f) s)
  relax_keeps P d steps kept v f i s p = relax_cases P d v f s (λ e. kept v f i s e p) (λ _. p)

  -- A property that holds before a scan and that its stores keep holds after it.
  scan_keeps : (P : State L → Type 0) (d : L) (steps : List (ℕ × (L → L))) → Kept P d steps → (s : State L) → P s → P (scan net d steps s)
  unfolding scan
  scan_keeps P d [] kept s p = p
  scan_keeps P d (step ∷ steps) kept s p =
      scan_keeps P d steps (λ v f i. kept v f (inr i)) (relax net d step s) (relax_keeps P d (step ∷ steps) kept step.0 step.1 (inl refl) s p)

  -- After a scan each of its steps has what its relaxation brings and the later stores keep.
  scan_reaches :
      (P : State L → Type 0) (Q : ℕ → (L → L) → State L → Type 0) (d : L) (steps : List (ℕ × (L → L)))
      → Kept P d steps
      → ((v : ℕ) (f : L → L) → In (v, f) steps → (t : State L) → P t → Q v f (relax net d (v, f) t))
      → ((v : ℕ) (f : L → L) → In (v, f) steps → Kept (λ t. P t × Q v f t) d steps)
      → (s : State L) → P s → (v : ℕ) (f : L → L) → In (v, f) steps → Q v f (scan net d steps s)
  unfolding scan
  scan_reaches P Q d [] kept brings stays s p v f i = absurd i
  scan_reaches P Q d (step ∷ steps) kept brings stays s p v f i =
      let next : P (relax net d step s) = relax_keeps P d (step ∷ steps) kept step.0 step.1 (inl refl) s p in
      ⊎_elim (λ q. (scan_keeps (λ t. P t × Q v f t) d steps (λ w g j. stays v f (inl q) w g (inr j)) (relax net d step s) (next, at_once q)).1)
      (scan_reaches P Q d steps (λ w g j. kept w g (inr j)) (λ w g j. brings w g (inr j)) (λ w g j x h l. stays w g (inr j) x h (inr l)) (relax net d step s) next v f)
      i
    where
      at_once : (v, f) ≡ step → Q v f (relax net d step s)
      at_once q = subst (λ a. Q v f (relax net d a s)) q (brings v f (inl q) s p)

  -- A property that holds once the head is off and that the stores keep holds after the take.
  pub take_keeps :
      (P : State L → Type 0) (u : ℕ) (ws : List ℕ) (s : State L)
      → Kept P (label net s u) (net.nbrs u) → P (awaiting ws s) → P (take net u ws s)
  unfolding take
  take_keeps P u ws s kept p = scan_keeps P (label net s u) (net.nbrs u) kept (awaiting ws s) p

  pub take_reaches :
      (P : State L → Type 0) (Q : ℕ → (L → L) → State L → Type 0) (u : ℕ) (ws : List ℕ) (s : State L)
      → Kept P (label net s u) (net.nbrs u)
      → ((v : ℕ) (f : L → L) → In (v, f) (net.nbrs u) → (t : State L) → P t → Q v f (relax net (label net s u) (v, f) t))
      → ((v : ℕ) (f : L → L) → In (v, f) (net.nbrs u) → Kept (λ t. P t × Q v f t) (label net s u) (net.nbrs u))
      → P (awaiting ws s) → (v : ℕ) (f : L → L) → In (v, f) (net.nbrs u) → Q v f (take net u ws s)
  unfolding take
  take_reaches P Q u ws s kept brings stays p =
      scan_reaches P Q (label net s u) (net.nbrs u) kept brings stays (awaiting ws s) p

  -- The cells that a take adds to the waiting ones come after them.
  pub take_appends : (u : ℕ) (ws : List ℕ) (s : State L) → (new : List ℕ) × ((take net u ws s).waiting ≡ ws ++ new)
  take_appends u ws s = take_keeps (λ t. (new : List ℕ) × (t.waiting ≡ ws ++ new)) u ws s kept ([], sym (append-nil ws))
    where
      kept : Kept (λ t. (new : List ℕ) × (t.waiting ≡ ws ++ new)) (label net s u) (net.nbrs u)
      kept v f i t lower p =
          let more = joined_appends v t.waiting in
          (p.0 ++ more.0, waiting_store v (f (label net s u)) t ∙ more.1 ∙ ap (λ l. l ++ more.0) p.1 ∙ append_assoc ws p.0 more.0)

  -- The two ways on: nothing waits, or the head is taken.
  pub run_stopped : (k : ℕ) (s : State L) → s.waiting ≡ [] → run net k s ≡ s
  unfolding run run_from
  run_stopped zero s e = refl
  run_stopped (suc k) s e = ap (λ ws. run_from net (suc k) ws s) e

  pub takes_stopped : (k : ℕ) (s : State L) → s.waiting ≡ [] → takes net k s ≡ 0
  unfolding takes takes_from
  takes_stopped zero s e = refl
  takes_stopped (suc k) s e = ap (λ ws. takes_from net (suc k) ws s) e

  pub trace_stopped : (k : ℕ) (s : State L) → s.waiting ≡ [] → trace net k s ≡ []
  unfolding trace trace_from
  trace_stopped zero s e = refl
  trace_stopped (suc k) s e = ap (λ ws. trace_from net (suc k) ws s) e

  pub run_zero : (s : State L) → run net 0 s ≡ s
  unfolding run run_from
  run_zero s = refl

  pub takes_zero : (s : State L) → takes net 0 s ≡ 0
  unfolding takes takes_from
  takes_zero s = refl

  pub trace_zero : (s : State L) → trace net 0 s ≡ []
  unfolding trace trace_from
  trace_zero s = refl

  pub run_head : (k : ℕ) (s : State L) (u : ℕ) (ws : List ℕ) → s.waiting ≡ u ∷ ws → run net (suc k) s ≡ run net k (take net u ws s)
  unfolding run run_from
  run_head k s u ws e = ap (λ l. run_from net (suc k) l s) e

  pub takes_head : (k : ℕ) (s : State L) (u : ℕ) (ws : List ℕ) → s.waiting ≡ u ∷ ws → takes net (suc k) s ≡ suc (takes net k (take net u ws s))
  unfolding takes takes_from
  takes_head k s u ws e = ap (λ l. takes_from net (suc k) l s) e

  pub trace_head :
      (k : ℕ) (s : State L) (u : ℕ) (ws : List ℕ) → s.waiting ≡ u ∷ ws
      → trace net (suc k) s ≡ (u, label net s u) ∷ trace net k (take net u ws s)
  unfolding trace trace_from
  trace_head k s u ws e = ap (λ l. trace_from net (suc k) l s) e

  -- To prove something of every count and state, prove it of no takes, of a state where nothing waits, and of one take more.
  pub by_takes :
      (P : ℕ → State L → Type 0)
      → ((s : State L) → P 0 s)
      → ((k : ℕ) (s : State L) → s.waiting ≡ [] → P (suc k) s)
      → ((k : ℕ) (s : State L) (u : ℕ) (ws : List ℕ) → s.waiting ≡ u ∷ ws → P k (take net u ws s) → P (suc k) s)
      → (k : ℕ) (s : State L) → P k s
  by_takes P none stopped more zero s = none s
  by_takes P none stopped more (suc k) s = go s.waiting refl (by_takes P none stopped more k)
    where
      go : (ws : List ℕ) → s.waiting ≡ ws → ((t : State L) → P k t) → P (suc k) s
      go [] e later = stopped k s e
      go (u ∷ ws) e later = more k s u ws e (later (take net u ws s))

  -- A property that each take keeps is kept by a run.
  pub run_keeps :
      (P : State L → Type 0) → ((u : ℕ) (ws : List ℕ) (s : State L) → s.waiting ≡ u ∷ ws → P s → P (take net u ws s))
      → (k : ℕ) (s : State L) → P s → P (run net k s)
  run_keeps P kept =
      by_takes (λ k s. P s → P (run net k s)) (λ s p. rw run_zero p) (λ k s e p. rw (run_stopped (suc k) s e) p)
      (λ k s u ws e later p. rw (run_head k s u ws e) (later (kept u ws s e p)))
