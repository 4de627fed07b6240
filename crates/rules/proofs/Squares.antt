-- Every search ends within the square of the number of cells that may be entered or started from. Assumes nothing.
use mathlib.Core.Bool.{false, ◌&&◌}
use mathlib.Core.List.{[]}
use mathlib.Core.Logic.{inl, ⊎_elim}
use mathlib.Core.Path.{◌≡◌, refl, subst}
use Prim.Native.Nat.{ℕ, ◌*◌, zero-le}
use lib.Dec.{T, eqb, eqb→eq}
use lib.Ieee.{Float, binary32, fits, is_nan}
use lib.Ieee.Fits.{and_l, and_r}
use Rattle.fifo.specs.Machine.{Net, passing, initial, finish, takes_of}
use Rattle.fifo.specs.Walk.{Starting}
use Rattle.fifo.specs.Laws.{EndsWithinSquare}
use Rattle.fifo.proofs.Lists.{tested, holds, empty_or_not}
use Rattle.fifo.proofs.Induction.{run_stopped, takes_stopped}
use Rattle.fifo.proofs.Sound.{passing_starts, room_at_most_cells}
use Rattle.fifo.proofs.Ends.{ends_within_square}
use Rattle.rules.specs.declared.BarrierDiagonals.{BarrierDiagonals}
use Rattle.rules.specs.Sizes.{Grid}
use Rattle.rules.specs.Distances.{has_data, plain, with_obstacles, travel}
use Rattle.rules.specs.Values.{closest, closest_by_time}
use Rattle.rules.specs.Sums.{from_mask_cell, from_amount}
use Rattle.rules.proofs.Inputs.{AcceptedTimes, AcceptedBudget}
use Rattle.rules.proofs.Nets.{plain_laws, obstacles_laws, travel_laws, closest_laws, closest_by_time_laws, mask_cell_laws, amount_laws}

-- With no starting cell nothing waits at the start, so nothing is taken.
module _ {L : Type 0} (net : Net L) (none : (c : ℕ) → Starting net c → ⊥) where
  none_start_idle : (initial net).waiting ≡ []
  unfolding initial
  none_start_idle = ⊎_elim (λ e. e) (λ (u, ws, e). absurd (none u (passing_starts net u (rw e (inl refl))))) (empty_or_not (passing net.start 0 net.cells))

  pub none_taken : takes_of net ≡ 0
  unfolding takes_of
  none_taken = takes_stopped net (net.cells * net.cells) (initial net) none_start_idle

  none_start_end : EndsWithinSquare net
  unfolding finish
  none_start_end = record {
    nothing_waits = rw (run_stopped net (net.cells * net.cells) (initial net) none_start_idle) none_start_idle;
    takes_within_square = rw none_taken zero-le;
    room_within_cells = room_at_most_cells net;
  }

pub plain_ends : (targets : Grid ℕ) (cap : Float) → T (fits binary32 cap) → is_nan cap ≡ false → EndsWithinSquare (plain targets cap)
plain_ends targets cap held number = ends_within_square (plain_laws targets cap held number)

pub obstacles_ends : (targets obstacles : Grid ℕ) (diagonals : BarrierDiagonals) → EndsWithinSquare (with_obstacles targets obstacles diagonals)
obstacles_ends targets obstacles diagonals = ends_within_square (obstacles_laws targets obstacles diagonals)

pub travel_ends :
    (targets : Grid ℕ) (times : Grid Float) (cap : Float) → AcceptedTimes times → T (fits binary32 cap) → is_nan cap ≡ false
    → EndsWithinSquare (travel targets times cap)
travel_ends targets times cap times_good held number = ends_within_square (travel_laws targets times cap times_good held number)

pub closest_ends : (targets : Grid ℕ) (values : Grid Float) → EndsWithinSquare (closest targets values)
closest_ends targets values = ends_within_square (closest_laws targets values)

pub closest_by_time_ends :
    (targets : Grid ℕ) (times values : Grid Float) (limit : Float) → AcceptedTimes times → T (fits binary32 limit) → is_nan limit ≡ false
    → EndsWithinSquare (closest_by_time targets times values limit)
closest_by_time_ends targets times values limit times_good held number = ends_within_square (closest_by_time_laws targets times values limit times_good held number)

pub mask_cell_ends : (times : Grid Float) (m : ℕ) → AcceptedTimes times → EndsWithinSquare (from_mask_cell times m)
mask_cell_ends times m times_good = ends_within_square (mask_cell_laws times m times_good)

-- In 7 and 8 a cell whose time is nodata does not start, so that the search from it takes nothing.
only_with_data : (times : Grid Float) (t c : ℕ) → has_data times t ≡ false → T (eqb c t && has_data times c) → ⊥
only_with_data times t c none starts =
    let same = eqb→eq c t (and_l (eqb c t) (has_data times c) starts) in
    subst T none (subst (λ a. T (has_data times a)) same (and_r (eqb c t) (has_data times c) starts))

pub mask_cell_idle : (times : Grid Float) (m : ℕ) → has_data times m ≡ false → (initial (from_mask_cell times m)).waiting ≡ []
unfolding from_mask_cell
mask_cell_idle times m none = none_start_idle (from_mask_cell times m) (λ c starts. only_with_data times m c none starts.1)

amount_none_start : (times : Grid Float) (budget : Float) (t : ℕ) → has_data times t ≡ false → (c : ℕ) → Starting (from_amount times budget t) c → ⊥
unfolding from_amount
amount_none_start times budget t none c starts = only_with_data times t c none starts.1

pub amount_idle : (times : Grid Float) (budget : Float) (t : ℕ) → has_data times t ≡ false → (initial (from_amount times budget t)).waiting ≡ []
amount_idle times budget t none = none_start_idle (from_amount times budget t) (amount_none_start times budget t none)

pub amount_ends : (times : Grid Float) (budget : Float) (t : ℕ) → AcceptedTimes times → AcceptedBudget budget → EndsWithinSquare (from_amount times budget t)
amount_ends times budget t times_good budget_good =
    ⊎_elim (λ has. ends_within_square (amount_laws times budget t times_good budget_good (holds has)))
    (λ none. none_start_end (from_amount times budget t) (amount_none_start times budget t none)) (tested (has_data times t))
