-- Counting takes: a run cut in two, one take more, and that a run which stops is determined. These hold of every net.
use mathlib.Core.List.{List, [], ◌∷◌, ◌++◌, append-nil}
use mathlib.Core.Logic.{◌⊎◌, inl, inr, ⊎_elim}
use mathlib.Core.Path.{◌≡◌, ap, ◌∙◌}
use Prim.Native.Nat.{ℕ, suc, ◌+◌, ◌-◌, ◌≤◌}
use native.Mathlib.Nat.{zero-add, suc-add}
use native.Mathlib.Omega.{arith}
use lib.ListN.{length}
use Rattle.fifo.specs.Machine.{Net, State, label, take, run, takes, trace}
use Rattle.fifo.proofs.Lists.{empty_or_not, no_head}
use Rattle.fifo.proofs.Induction.{by_takes, run_zero, takes_zero, trace_zero, run_stopped, takes_stopped, trace_stopped, run_head, takes_head, trace_head}

module _ {L : Type 0} (net : Net L) where
  -- A run of n + k takes is a run of n takes and then one of k.
  pub run_add : (n k : ℕ) (s : State L) → run net (n + k) s ≡ run net k (run net n s)
  run_add n k =
      by_takes net (λ n s. run net (n + k) s ≡ run net k (run net n s))
      (λ s. rw (zero-add, run_zero))
      (λ n s e. rw (run_stopped net (suc n + k) s e, run_stopped net (suc n) s e, run_stopped net k s e))
      (λ n s u ws e later. rw (suc-add, run_head net (n + k) s u ws e, run_head net n s u ws e) later)
      n

  pub takes_add : (n k : ℕ) (s : State L) → takes net (n + k) s ≡ takes net n s + takes net k (run net n s)
  takes_add n k =
      by_takes net (λ n s. takes net (n + k) s ≡ takes net n s + takes net k (run net n s))
      (λ s. rw (zero-add, run_zero, takes_zero, zero-add))
      (λ n s e. rw (takes_stopped net (suc n + k) s e, run_stopped net (suc n) s e, takes_stopped net (suc n) s e, takes_stopped net k s e))
      (λ n s u ws e later. rw (suc-add, takes_head net (n + k) s u ws e, run_head net n s u ws e, takes_head net n s u ws e, suc-add) (ap suc later))
      n

  trace_add : (n k : ℕ) (s : State L) → trace net (n + k) s ≡ trace net n s ++ trace net k (run net n s)
  trace_add n k =
      by_takes net (λ n s. trace net (n + k) s ≡ trace net n s ++ trace net k (run net n s))
      (λ s. rw (zero-add, run_zero, trace_zero))
      (λ n s e. rw (trace_stopped net (suc n + k) s e, run_stopped net (suc n) s e, trace_stopped net (suc n) s e, trace_stopped net k s e))
      (λ n s u ws e later. rw (suc-add, trace_head net (n + k) s u ws e, run_head net n s u ws e, trace_head net n s u ws e) (ap (λ l. (u, label net s u) ∷ l) later))
      n

  -- A run takes no more than it may, and stops before only where nothing waits.
  pub takes_at_most : (k : ℕ) (s : State L) → takes net k s ≤ k
  takes_at_most =
      by_takes net (λ k s. takes net k s ≤ k) (λ s. omega (arith, takes_zero net s)) (λ k s e. omega (arith, takes_stopped net (suc k) s e))
      (λ k s u ws e later. omega (arith, takes_head net k s u ws e))

  stopped_or_all : (k : ℕ) (s : State L) → ((run net k s).waiting ≡ []) ⊎ (takes net k s ≡ k)
  stopped_or_all =
      by_takes net (λ k s. ((run net k s).waiting ≡ []) ⊎ (takes net k s ≡ k))
      (λ s. inr (takes_zero net s))
      (λ k s e. inl (rw (run_stopped net (suc k) s e) e))
      (λ k s u ws e later. rw (run_head net k s u ws e, takes_head net k s u ws e) (⊎_elim inl (λ a. inr (ap suc a)) later))

  all_taken : (k : ℕ) (s : State L) (u : ℕ) (ws : List ℕ) → (run net k s).waiting ≡ u ∷ ws → takes net k s ≡ k
  all_taken k s u ws e = ⊎_elim (λ z. absurd (no_head e z)) (λ a. a) (stopped_or_all k s)

  -- One take more, at the end of a run.
  pub run_last : (k : ℕ) (s : State L) (u : ℕ) (ws : List ℕ) → (run net k s).waiting ≡ u ∷ ws → run net (k + 1) s ≡ take net u ws (run net k s)
  run_last k s u ws e = run_add k 1 s ∙ run_head net 0 (run net k s) u ws e ∙ run_zero net (take net u ws (run net k s))

  pub takes_last : (k : ℕ) (s : State L) (u : ℕ) (ws : List ℕ) → (run net k s).waiting ≡ u ∷ ws → takes net (k + 1) s ≡ k + 1
  takes_last k s u ws e =
      let all = all_taken k s u ws e in
      omega (arith, takes_add k 1 s, takes_head net 0 (run net k s) u ws e, takes_zero net (take net u ws (run net k s)))

  pub trace_last :
      (k : ℕ) (s : State L) (u : ℕ) (ws : List ℕ) → (run net k s).waiting ≡ u ∷ ws
      → trace net (k + 1) s ≡ trace net k s ++ (u, label net (run net k s) u) ∷ []
  trace_last k s u ws e =
      trace_add k 1 s
      ∙ ap (λ l. trace net k s ++ l)
      (trace_head net 0 (run net k s) u ws e ∙ ap (λ l. (u, label net (run net k s) u) ∷ l) (trace_zero net (take net u ws (run net k s))))

  pub length_trace : (k : ℕ) (s : State L) → length (trace net k s) ≡ takes net k s
  length_trace =
      by_takes net (λ k s. length (trace net k s) ≡ takes net k s) (λ s. rw (trace_zero, takes_zero))
      (λ k s e. rw (trace_stopped net (suc k) s e, takes_stopped net (suc k) s e))
      (λ k s u ws e later. rw (trace_head net k s u ws e, takes_head net k s u ws e) (ap suc later))

  -- Past a stop nothing changes.
  pub run_past : (j k : ℕ) (s : State L) → (run net j s).waiting ≡ [] → j ≤ k → run net k s ≡ run net j s
  run_past j k s stops le =
      let sum : k ≡ j + (k - j) = omega arith in
      ap (λ n. run net n s) sum ∙ run_add j (k - j) s ∙ run_stopped net (k - j) (run net j s) stops

  pub trace_past : (j k : ℕ) (s : State L) → (run net j s).waiting ≡ [] → j ≤ k → trace net k s ≡ trace net j s
  trace_past j k s stops le =
      let sum : k ≡ j + (k - j) = omega arith in
      ap (λ n. trace net n s) sum
      ∙ trace_add j (k - j) s
      ∙ ap (λ l. trace net j s ++ l) (trace_stopped net (k - j) (run net j s) stops)
      ∙ append-nil (trace net j s)

  takes_settled : (j k : ℕ) (s : State L) → (run net j s).waiting ≡ [] → takes net k s ≤ takes net j s
  takes_settled j k s stops =
      let same : takes net (j + k) s ≡ takes net (k + j) s = ap (λ n. takes net n s) (omega arith) in
      omega (arith, takes_add j k s, takes_stopped net k (run net j s) stops, takes_add k j s)

  pub takes_past : (j k : ℕ) (s : State L) → (run net j s).waiting ≡ [] → j ≤ k → takes net k s ≡ takes net j s
  takes_past j k s stops le = let at_most = takes_settled j k s stops in omega (arith, takes_settled k j s (rw (run_past j k s stops le) stops))

  -- Where more takes than b are never made, nothing waits after b: else the head would be one take more.
  pub stops_by : (b : ℕ) (s : State L) → takes net (b + 1) s ≤ b → (run net b s).waiting ≡ []
  stops_by b s few = ⊎_elim (λ z. z) (λ h. absurd (omega (arith, takes_last b s h.0 h.1 h.2))) (empty_or_not (run net b s).waiting)

  -- Two runs that both stop, with each take made, stop at the same count with the same state.
  -- The one takes no more than the other, as past the other's stop nothing is taken; so the counts agree, and with them the states.
  pub determined :
      (j k : ℕ) (s : State L) → takes net j s ≡ j → takes net k s ≡ k → (run net j s).waiting ≡ [] → (run net k s).waiting ≡ []
      → (j ≡ k) × (run net j s ≡ run net k s)
  determined j k s all_j all_k stops_j stops_k =
      let same : j ≡ k = omega (arith, takes_settled j k s stops_j, takes_settled k j s stops_k) in
      (same, ap (λ n. run net n s) same)
