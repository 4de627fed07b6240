-- The laws can be met: every net with whole numbers for labels and steps that stay inside meets them. What the theory then says of two such nets.
use mathlib.Core.Bool.{Bool, true, cond, ◌&&◌}
use mathlib.Core.List.{List, [], ◌∷◌}
use mathlib.Core.Logic.{inl, inr}
use mathlib.Core.Path.{◌≡◌, ap}
use Prim.Native.Nat.{ℕ, zero, suc, ◌+◌, ◌*◌, ◌<◌, ◌≤◌}
use native.Mathlib.Nat.{mul-le-mul}
use native.Mathlib.Omega.{arith}
use borrow.Author.Tests.{ltb-true, ltb-false, le-ltb}
use lib.Dec.{T, eqb, ltb, ltb→lt, lt→ltb}
use lib.Ieee.Bits.{is_true}
use lib.ListN.{length, get_or}
use mir.Facts.{and_yes}
use Rattle.fifo.specs.Machine.{label, finish, takes_of}
use Rattle.fifo.specs.Walk.{In, Walk}
use Rattle.fifo.specs.Laws.{Laws}
use Rattle.fifo.proofs.Nets.{net_of, row_steps, grid_steps}
use Rattle.fifo.proofs.Lists.{in_map}
use Rattle.fifo.proofs.Ends.{ends_within_square}
use Rattle.fifo.proofs.LeastSums.{least_sums}

-- Every step leads to a cell below n.
abbrev steps_inside : ℕ → List (ℕ × ℕ) → Bool
steps_inside n [] = true
steps_inside n (step ∷ steps) = ltb step.0 n && steps_inside n steps

abbrev all_inside : ℕ → List (List (ℕ × ℕ)) → Bool
all_inside n [] = true
all_inside n (steps ∷ rest) = steps_inside n steps && all_inside n rest

step_below : (n : ℕ) (steps : List (ℕ × ℕ)) → T (steps_inside n steps) → (step : ℕ × ℕ) → In step steps → step.0 < n
step_below n [] t step i = absurd i
step_below n (a ∷ steps) t step (inl p) = let r = and_yes (ltb a.0 n) (steps_inside n steps) t in omega (arith, ltb→lt a.0 n r.0, ap (λ q. q.0) p)
step_below n (a ∷ steps) t step (inr i) = step_below n steps (and_yes (ltb a.0 n) (steps_inside n steps) t).1 step i

steps_below : (n : ℕ) (steps : List (List (ℕ × ℕ))) → T (all_inside n steps) → (u : ℕ) (step : ℕ × ℕ) → In step (get_or steps u []) → step.0 < n
steps_below n [] t u step i = absurd i
steps_below n (a ∷ rest) t zero step i = step_below n a (and_yes (steps_inside n a) (all_inside n rest) t).0 step i
steps_below n (a ∷ rest) t (suc u) step i = steps_below n rest (and_yes (steps_inside n a) (all_inside n rest) t).1 u step i

module _ (cap : ℕ) (steps : List (List (ℕ × ℕ))) (inside_all : T (all_inside (length steps) steps)) where
  -- A step leads to a cell of the net and adds its cost.
  step_adds : (u v : ℕ) (f : ℕ → ℕ) → In (v, f) ((net_of cap steps).nbrs u) → (v < length steps) × ((cost : ℕ) × (f ≡ λ d. d + cost))
  step_adds u v f i =
      let r = in_map (λ step. (step.0, λ d. d + step.1)) (v, f) (get_or steps u []) i in
      (omega (arith, ap (λ p. p.0) r.2, steps_below (length steps) steps inside_all u r.0 r.1), (r.0.1, ap (λ p. p.1) r.2))

  pub net_laws : Laws (net_of cap steps)
  net_laws = record {
    Good = λ d. Unit {0};
    asymmetric = λ {x} {y} _ _ lower. le-ltb y x (omega (arith, ltb-true x y lower));
    transitive = λ {x} {y} {z} _ _ _ xy yz. le-ltb z x (omega (arith, ltb-false y x xy, ltb-false z y yz));
    start_enterable = λ c starts. lt→ltb c (length steps) starts.0;
    start_good = λ c starts. tt;
    start_least = λ c starts {d} _. rw (is_true (eqb c 0) starts.1) (le-ltb d 0 (omega arith));
    cap = cap;
    cap_first = λ c may rests. ap (λ b. cond b 0 cap) rests;
    cap_held = inl tt;
    step_inside = λ {u} {v} {f} step. let inside = (step_adds u v f step.listed).0 in (inside, lt→ltb v (length steps) inside);
    step_good = λ step _. tt;
    step_never_lowers = λ {u} {v} {f} {d} step _.
        let adds = (step_adds u v f step.listed).1 in
        rw adds.1 (le-ltb (d + adds.0) d (omega arith));
    step_keeps_order = λ {u} {v} {f} {d} {e} step _ _ above.
        let adds = (step_adds u v f step.listed).1 in
        rw adds.1 (le-ltb (e + adds.0) (d + adds.0) (omega (arith, ltb-false e d above)));
  }

  -- The theory, said of whole numbers.
  pub net_ends : ((finish (net_of cap steps)).waiting ≡ []) × (takes_of (net_of cap steps) ≤ length steps * length steps)
  net_ends =
      let ends = ends_within_square net_laws in
      (ends.nothing_waits, omega (arith, ends.takes_within_square, mul-le-mul ends.room_within_cells ends.room_within_cells))

  pub net_least : {from c d : ℕ} → Walk (net_of cap steps) from c d → label (net_of cap steps) (finish (net_of cap steps)) c ≤ d
  net_least {c = c} {d = d} walk = ltb-false d (label (net_of cap steps) (finish (net_of cap steps)) c) ((least_sums net_laws).no_less walk)

pub row_takes_at_most_nine : (cap : ℕ) → takes_of (net_of cap row_steps) ≤ 9
row_takes_at_most_nine cap = (net_ends cap row_steps tt).1

pub grid_least : {from c d : ℕ} → Walk (net_of 100 (grid_steps 8 8)) from c d → label (net_of 100 (grid_steps 8 8)) (finish (net_of 100 (grid_steps 8 8))) c ≤ d
unfolding grid_steps
grid_least = net_least 100 (grid_steps 8 8) tt
