-- The order of first entry: the entered cells are those that were taken and then those that wait, each where it comes first. These hold of every net.
use mathlib.Core.Bool.{false}
use mathlib.Core.List.{List, [], ◌∷◌, ◌++◌, map, append-nil, append_assoc}
use mathlib.Core.Logic.{inl, inr, ⊎_elim}
use mathlib.Core.Path.{◌≡◌, refl, sym, ap, ◌∙◌, subst}
use Prim.Native.Nat.{ℕ, suc}
use Rattle.fifo.specs.Machine.{Net, State, among, joined, once, passing, initial, label, take, run, trace}
use Rattle.fifo.specs.Walk.{In, NoDup}
use Rattle.fifo.proofs.Lists.{tested, not_among, among_in, in_among, in_snoc, in_back, joined_waiting, joined_new, in_joined, joiner_in}
use Rattle.fifo.proofs.Ranges.{no_dup_passing}
use Rattle.fifo.proofs.Induction.{label_unstored, label_awaiting, waiting_store, entered_store, Kept, take_keeps, run_zero, run_stopped, run_head, trace_zero, trace_stopped, trace_head, by_takes, run_keeps}
use Rattle.fifo.proofs.Sound.{label_initial}

-- The last cell of a list joins last.
pub once_last : (found cells : List ℕ) (c : ℕ) → once found (cells ++ c ∷ []) ≡ joined c (once found cells)
once_last found [] c = refl
once_last found (d ∷ cells) c = once_last (joined d found) cells c

in_once_found : (c : ℕ) (found cells : List ℕ) → In c found → In c (once found cells)
in_once_found c found [] i = i
in_once_found c found (d ∷ cells) i = in_once_found c (joined d found) cells (in_joined c d found i)

in_once : (c : ℕ) (found cells : List ℕ) → In c cells → In c (once found cells)
in_once c found [] i = absurd i
in_once c found (d ∷ cells) (inl p) = in_once_found c (joined d found) cells (joiner_in c d found p)
in_once c found (d ∷ cells) (inr i) = in_once c (joined d found) cells i

-- Cells of which none comes twice and none was found are added as they stand.
once_new : (found cells : List ℕ) → NoDup cells → ((c : ℕ) → In c cells → In c found → ⊥) → once found cells ≡ found ++ cells
once_new found [] single apart = sym (append-nil found)
once_new found (c ∷ cells) single apart =
    ap (λ l. once l cells) (joined_new c found new)
    ∙ once_new (found ++ c ∷ []) cells single.1 still_apart
    ∙ append_assoc found (c ∷ []) cells
  where
    new : among c found ≡ false
    new = not_among c found (apart c (inl refl))

    still_apart : (d : ℕ) → In d cells → In d (found ++ c ∷ []) → ⊥
    still_apart d i j =
        ⊎_elim (apart d (inr i)) (λ p. single.0 (subst (λ x. In x cells) p i)) (in_snoc d c found j)

-- A cell that joins the end of a list comes once.
once_joins : (past : List ℕ) (v : ℕ) (ws : List ℕ) → once [] (past ++ joined v ws) ≡ joined v (once [] (past ++ ws))
once_joins past v ws =
    ⊎_elim
    (λ waits. ap (λ l. once [] (past ++ l)) (joined_waiting v ws waits)
    ∙ sym (joined_waiting v (once [] (past ++ ws)) (in_among v (once [] (past ++ ws)) (in_once v [] (past ++ ws) (in_back v past ws (among_in v ws waits))))))
    (λ new. ap (λ l. once [] (past ++ l)) (joined_new v ws new)
    ∙ ap (once []) (sym (append_assoc past ws (v ∷ [])))
    ∙ once_last [] (past ++ ws) v)
    (tested (among v ws))

module _ {L : Type 0} (net : Net L) where
  -- The entered cells are those of the past and then those that wait.
  abbrev InOrder : List ℕ → State L → Type 0
  InOrder past s = s.entered ≡ once [] (past ++ s.waiting)

  -- The head moves from the waiting cells to the past, and a cell that is stored to joins the waiting cells as it joins the entered ones.
  in_order_take :
      (past : List ℕ) (u : ℕ) (ws : List ℕ) (s : State L) → s.waiting ≡ u ∷ ws → InOrder past s → InOrder (past ++ u ∷ []) (take net u ws s)
  in_order_take past u ws s e p =
      take_keeps net (InOrder (past ++ u ∷ [])) u ws s kept (p ∙ ap (λ l. once [] (past ++ l)) e ∙ ap (once []) (sym (append_assoc past (u ∷ []) ws)))
    where
      kept : Kept net (InOrder (past ++ u ∷ [])) (label net s u) (net.nbrs u)
      kept v f i t lower q =
          entered_store net v (f (label net s u)) t
          ∙ ap (joined v) q
          ∙ sym (once_joins (past ++ u ∷ []) v t.waiting)
          ∙ ap (λ l. once [] ((past ++ u ∷ []) ++ l)) (sym (waiting_store net v (f (label net s u)) t))

  in_order_run : (k : ℕ) (s : State L) (past : List ℕ) → InOrder past s → InOrder (past ++ map (λ one. one.0) (trace net k s)) (run net k s)
  in_order_run =
      by_takes net (λ k s. (past : List ℕ) → InOrder past s → InOrder (past ++ map (λ one. one.0) (trace net k s)) (run net k s))
      (λ s past p. rw (run_zero net s, trace_zero net s, append-nil past) p)
      (λ k s e past p. rw (run_stopped net (suc k) s e, trace_stopped net (suc k) s e, append-nil past) p)
      (λ k s u ws e later past p.
      rw (run_head net k s u ws e, trace_head net k s u ws e, ← append_assoc past (u ∷ []) (map (λ one. one.0) (trace net k (take net u ws s)))) (later (past ++ u ∷ []) (in_order_take past u ws s e p)))

  in_order_initial : InOrder [] (initial net)
  unfolding initial
  in_order_initial = let starting = passing net.start 0 net.cells in sym (once_new [] starting (no_dup_passing net.start 0 net.cells) (λ c i none. none))

  -- A cell that was entered stays so.
  pub entered_stays : (c : ℕ) (k : ℕ) (s : State L) → In c s.entered → In c (run net k s).entered
  entered_stays c =
      run_keeps net (λ t. In c t.entered)
      (λ u ws s e i. take_keeps net (λ t. In c t.entered) u ws s (λ v f j t lower i. rw entered_store (in_joined c v t.entered i)) i)

  -- A cell that was not entered has its first label: a store to a cell enters it.
  pub unentered_first : (c k : ℕ) → (In c (run net k (initial net)).entered → ⊥) → label net (run net k (initial net)) c ≡ net.first c
  unentered_first c k = run_keeps net Unstored (λ u ws s e p. take_keeps net Unstored u ws s (kept (label net s u) (net.nbrs u)) (λ out. label_awaiting net ws s c ∙ p out)) k (initial net) (λ out. label_initial net c)
    where
      Unstored : State L → Type 0
      Unstored t = (In c t.entered → ⊥) → label net t c ≡ net.first c

      kept : (d : L) (steps : List (ℕ × (L → L))) → Kept net Unstored d steps
      kept d steps v f i t lower p out =
          label_unstored net v (f d) t c (λ same. out (rw entered_store (joiner_in c v t.entered same)))
          ∙ p (λ j. out (rw entered_store (in_joined c v t.entered j)))

  -- Where a run from the start has stopped, the cells in order of first entry are the taken cells in order of their first take.
  pub entered_as_taken :
      (k : ℕ) → (run net k (initial net)).waiting ≡ []
      → (run net k (initial net)).entered ≡ once [] (map (λ one. one.0) (trace net k (initial net)))
  entered_as_taken k stopped =
      in_order_run k (initial net) [] in_order_initial
      ∙ ap (λ l. once [] (map (λ one. one.0) (trace net k (initial net)) ++ l)) stopped
      ∙ ap (once []) (append-nil (map (λ one. one.0) (trace net k (initial net))))
