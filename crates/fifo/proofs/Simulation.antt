-- A net that simulates another runs as a copy of it: what it tries beyond the other's steps stores nothing.
use mathlib.Core.Bool.{false}
use mathlib.Core.List.{List, ◌∷◌, ◌++◌, map}
use mathlib.Core.Logic.{◌⊎◌, inl, inr}
use mathlib.Core.Path.{◌≡◌, refl, sym, ap, ◌∙◌, subst}
use Prim.Native.Nat.{ℕ, suc, ◌*◌}
use lib.ListN.{get_or-map}
use Rattle.fifo.specs.Machine.{Net, State, initial, label, store, relax, scan, take, run, takes, trace, finish, takes_of}
use Rattle.fifo.specs.Simulation.{image, Idle, never_below, shut, Steps, done, kept, idle, Simulates, Agrees, Within}
use Rattle.fifo.proofs.Lists.{true_or_false, same_or_not, map_set}
use Rattle.fifo.proofs.Ranges.{map_table, passing_same}
use Rattle.fifo.proofs.Induction.{awaiting, label_awaiting, label_unstored, relax_stores, relax_leaves, relax_cases, Kept, relax_keeps, take_keeps, run_zero, takes_zero, trace_zero, run_stopped, takes_stopped, trace_stopped, run_head, takes_head, trace_head, by_takes}
use Rattle.fifo.proofs.Sound.{label_initial}

module _ {L : Type 0} (net : Net L) where
  -- Each cell whose first label has nothing below it has that label still.
  abbrev ShutKept : State L → Type 0
  ShutKept s = (c : ℕ) → ((x : L) → net.below x (net.first c) ≡ false) → label net s c ≡ net.first c

  shut_kept_initial : ShutKept (initial net)
  shut_kept_initial c nothing = label_initial net c

  -- A store keeps that. It needs a candidate below the cell's label; a shut cell's is the first one, and nothing is below that.
  shut_kept_stored : (d : L) (steps : List (ℕ × (L → L))) → Kept net ShutKept d steps
  shut_kept_stored d steps v f i t lower p c nothing = cases (same_or_not c v)
    where
      cases : (c ≡ v) ⊎ (c ≡ v → ⊥) → label net (store net v (f d) t) c ≡ net.first c
      cases (inl at) = absurd (true_or_false lower (subst (λ b. net.below (f d) (label net t b) ≡ false) at (rw (p c nothing) (nothing (f d)))))
      cases (inr other) = label_unstored net v (f d) t c other ∙ p c nothing

  shut_kept_awaiting : (ws : List ℕ) (s : State L) → ShutKept s → ShutKept (awaiting ws s)
  shut_kept_awaiting ws s p c nothing = label_awaiting net ws s c ∙ p c nothing

  shut_kept_taken : (u : ℕ) (ws : List ℕ) (s : State L) → ShutKept s → ShutKept (take net u ws s)
  shut_kept_taken u ws s p = take_keeps net ShutKept u ws s (shut_kept_stored (label net s u) (net.nbrs u)) (shut_kept_awaiting ws s p)

  -- An idle step changes nothing: its candidate is not below the label that its cell has, which is the first one if the cell is shut.
  idle_leaves : (d : L) (v : ℕ) (f : L → L) (s : State L) → Idle net v f → ShutKept s → relax net d (v, f) s ≡ s
  idle_leaves d v f s (never_below never) p = relax_leaves net d v f s (never d (label net s v))
  idle_leaves d v f s (shut nothing) p = relax_leaves net d v f s (rw (p v nothing) (nothing (f d)))

module _ {L M : Type 0} {seen : L → M} {net : Net L} {net' : Net M} (same : Simulates seen net net') where
  initial_image : image seen (initial net) ≡ initial net'
  unfolding initial
  initial_image =
      rw (map_table seen net.first net'.first same.first, passing_same net.start net'.start same.start, same.cells)

  label_image : (s : State L) (c : ℕ) → seen (label net s c) ≡ label net' (image seen s) c
  unfolding label
  label_image s c = rw (← same.first c) (sym (get_or-map seen s.labels c (net.first c)))

  store_image : (v : ℕ) (x : L) (s : State L) → image seen (store net v x s) ≡ store net' v (seen x) (image seen s)
  unfolding store
  store_image v x s = rw map_set

  -- A step that both nets have stores in both or in neither: the candidates correspond and so do the cell's labels, and the two tests agree.
  relax_image :
      (d : L) (v : ℕ) (f : L → L) (g : M → M) (s : State L) → ((x : L) → seen (f x) ≡ g (seen x))
      → image seen (relax net d (v, f) s) ≡ relax net' (seen d) (v, g) (image seen s)
  relax_image d v f g s corresponds =
      relax_cases net (λ t. image seen t ≡ relax net' (seen d) (v, g) (image seen s)) d v f s
      (λ lower. store_image v (f d) s ∙ ap (λ x. store net' v x (image seen s)) (corresponds d) ∙ sym (relax_stores net' (seen d) v g (image seen s) (sym test ∙ lower)))
      (λ level. sym (relax_leaves net' (seen d) v g (image seen s) (sym test ∙ level)))
    where
      test : net.below (f d) (label net s v) ≡ net'.below (g (seen d)) (label net' (image seen s) v)
      test = same.below (f d) (label net s v) ∙ rw (corresponds d, label_image s v)

  -- So a scan of one list is a copy of the scan of the other, step by step, where the idle ones are passed over.
  scan_image :
      {tried : List (ℕ × (L → L))} {permitted : List (ℕ × (M → M))} → Steps seen net tried permitted → (d : L) (s : State L) → ShutKept net s
      → image seen (scan net d tried s) ≡ scan net' (seen d) permitted (image seen s)
  unfolding scan
  scan_image done d s p = refl
  scan_image (kept {v = v} {f = f} {g = g} {tried = tried} {permitted = permitted} corresponds steps) d s p =
      let next = relax_keeps net (ShutKept net) d ((v, f) ∷ tried) (shut_kept_stored net d ((v, f) ∷ tried)) v f (inl refl) s p in
      scan_image steps d (relax net d (v, f) s) next ∙ ap (scan net' (seen d) permitted) (relax_image d v f g s corresponds)
  scan_image (idle {v = v} {f = f} {tried = tried} still steps) d s p =
      ap (λ t. image seen (scan net d tried t)) (idle_leaves net d v f s still p) ∙ scan_image steps d s p

  take_image : (u : ℕ) (ws : List ℕ) (s : State L) → ShutKept net s → image seen (take net u ws s) ≡ take net' u ws (image seen s)
  unfolding take
  take_image u ws s p =
      scan_image (same.steps u) (label net s u) (awaiting ws s) (shut_kept_awaiting net ws s p)
      ∙ ap (λ d. scan net' d (net'.nbrs u) (awaiting ws (image seen s))) (label_image s u)

  -- What the runs from a state and from its image have alike.
  record Alike (k : ℕ) (s : State L) : Type 0 where
    runs : image seen (run net k s) ≡ run net' k (image seen s)
    takes_alike : takes net k s ≡ takes net' k (image seen s)
    traces : map (λ taken. (taken.0, seen taken.1)) (trace net k s) ≡ trace net' k (image seen s)

  -- By induction on the takes: the same cells wait in both states, so both runs stop, or both take the same head and the states after it correspond again.
  alike : (k : ℕ) (s : State L) → ShutKept net s → Alike k s
  alike =
      by_takes net (λ k s. ShutKept net s → Alike k s)
      (λ s p. record {
        runs = ap (image seen) (run_zero net s) ∙ sym (run_zero net' (image seen s));
        takes_alike = takes_zero net s ∙ sym (takes_zero net' (image seen s));
        traces = rw (trace_zero net s, trace_zero net' (image seen s));
      })
      (λ k s e p. record {
        runs = ap (image seen) (run_stopped net (suc k) s e) ∙ sym (run_stopped net' (suc k) (image seen s) e);
        takes_alike = takes_stopped net (suc k) s e ∙ sym (takes_stopped net' (suc k) (image seen s) e);
        traces = rw (trace_stopped net (suc k) s e, trace_stopped net' (suc k) (image seen s) e);
      })
      (λ k s u ws e later p. one_more k s u ws e p (later (shut_kept_taken net u ws s p)))
    where
      one_more : (k : ℕ) (s : State L) (u : ℕ) (ws : List ℕ) → s.waiting ≡ u ∷ ws → ShutKept net s → Alike k (take net u ws s) → Alike (suc k) s
      one_more k s u ws e p later = record {
        runs = rw (run_head net k s u ws e, run_head net' k (image seen s) u ws e, ← take_image u ws s p) later.runs;
        takes_alike = rw (takes_head net k s u ws e, takes_head net' k (image seen s) u ws e, ← take_image u ws s p) (ap suc later.takes_alike);
        traces = rw (trace_head net k s u ws e, trace_head net' k (image seen s) u ws e, ← take_image u ws s p, ← label_image s u) (ap (λ l. (u, seen (label net s u)) ∷ l) later.traces);
      }

  -- The search over a net that simulates another is a copy of the search over that. Both start alike, and from states that correspond `alike`
  -- gives the same takes; at the end the count is the same, as the number of cells is.
  pub simulated : Agrees seen net net'
  unfolding finish takes_of
  simulated = record {
    run_after = run_after;
    takes_after = takes_after;
    trace_after = λ k. rw initial_image at (from_start k).traces;
    at_end = at_end;
    labels_at_end = ap (λ s. s.labels) at_end;
    takes_at_end = takes_after (net.cells * net.cells) ∙ ap (λ n. takes net' (n * n) (initial net')) same.cells;
  }
    where
      from_start : (k : ℕ) → Alike k (initial net)
      from_start k = alike k (initial net) (shut_kept_initial net)

      run_after : (k : ℕ) → image seen (run net k (initial net)) ≡ run net' k (initial net')
      run_after k = rw initial_image at (from_start k).runs

      takes_after : (k : ℕ) → takes net k (initial net) ≡ takes net' k (initial net')
      takes_after k = rw initial_image at (from_start k).takes_alike

      at_end : image seen (finish net) ≡ finish net'
      at_end = run_after (net.cells * net.cells) ∙ ap (λ n. run net' (n * n) (initial net')) same.cells

-- So a bound on the other's takes is one on this net's.
pub within_too : {L M : Type 0} {seen : L → M} {net : Net L} {net' : Net M} (b : ℕ) → Agrees seen net net' → Within b net' → Within b net
within_too b agrees within k = rw (agrees.takes_after k) (within k)

-- Two stretches of steps, one after the other.
pub steps_append :
    {L M : Type 0} {seen : L → M} {net : Net L} {tried more : List (ℕ × (L → L))} {permitted others : List (ℕ × (M → M))}
    → Steps seen net tried permitted → Steps seen net more others → Steps seen net (tried ++ more) (permitted ++ others)
steps_append done rest = rest
steps_append (kept corresponds steps) rest = kept corresponds (steps_append steps rest)
steps_append (idle still steps) rest = idle still (steps_append steps rest)
