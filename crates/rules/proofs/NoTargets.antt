-- No targets: 0 takes. Assumes nothing.
use mathlib.Core.Bool.{Bool, false, ◌&&◌}
use mathlib.Core.Path.{◌≡◌, refl, ap, subst}
use Prim.Native.Nat.{ℕ, ◌<◌}
use native.Mathlib.Omega.{arith}
use lib.Dec.{T}
use lib.Ieee.{Float}
use Rattle.fifo.specs.Machine.{Net, takes_of}
use Rattle.fifo.proofs.Ranges.{passing_none}
use Rattle.rules.specs.declared.BarrierDiagonals.{BarrierDiagonals}
use Rattle.rules.specs.Sizes.{Grid, count}
use Rattle.rules.specs.Distances.{target, both_data, plain, with_obstacles, travel}
use Rattle.rules.specs.Values.{closest, starts_by_time, closest_by_time}
use Rattle.rules.specs.Sums.{total_takes, runs_7, counts, runs_8}
use Rattle.rules.proofs.Squares.{none_taken}

-- None of the first n cells passes the test.
abbrev pub None : (ℕ → Bool) → ℕ → Type 0
None test n = (c : ℕ) → c < n → test c ≡ false

none_start_none_taken : {L : Type 0} (net : Net L) → None net.start net.cells → takes_of net ≡ 0
none_start_none_taken net none = none_taken net (λ c starts. subst T (none c starts.0) starts.1)

pub no_targets_1 : (targets : Grid ℕ) (cap : Float) → None (target targets) (count targets.size) → takes_of (plain targets cap) ≡ 0
unfolding plain
no_targets_1 targets cap none = none_start_none_taken (plain targets cap) none

pub no_targets_2 :
    (targets obstacles : Grid ℕ) (diagonals : BarrierDiagonals) → None (target targets) (count targets.size)
    → takes_of (with_obstacles targets obstacles diagonals) ≡ 0
unfolding with_obstacles
no_targets_2 targets obstacles diagonals none = none_start_none_taken (with_obstacles targets obstacles diagonals) none

pub no_targets_3 : (targets : Grid ℕ) (times : Grid Float) (cap : Float) → None (target targets) (count targets.size) → takes_of (travel targets times cap) ≡ 0
unfolding travel
no_targets_3 targets times cap none = none_start_none_taken (travel targets times cap) (λ c inside. ap (λ b. b && both_data targets times c) (none c inside))

pub no_targets_4 : (targets : Grid ℕ) (values : Grid Float) → None (target targets) (count targets.size) → takes_of (closest targets values) ≡ 0
unfolding closest
no_targets_4 targets values none = none_start_none_taken (closest targets values) none

-- In 5 and 6 a nonzero target byte with a value starts.
pub no_targets_by_time :
    (targets : Grid ℕ) (times values : Grid Float) (limit : Float) → None (starts_by_time targets values) (count targets.size)
    → takes_of (closest_by_time targets times values limit) ≡ 0
unfolding closest_by_time
no_targets_by_time targets times values limit none = none_start_none_taken (closest_by_time targets times values limit) none

-- In 7 and 8 no search is made.
pub no_targets_7 : (mask : Grid ℕ) (times : Grid Float) → None (target mask) (count mask.size) → total_takes (runs_7 mask times) ≡ 0
unfolding runs_7 total_takes
no_targets_7 mask times none = rw (passing_none (target mask) 0 (count mask.size) (λ c low high. none c (omega arith))) refl

pub no_targets_8 : (times amounts : Grid Float) (budget : Float) → None (counts amounts) (count times.size) → total_takes (runs_8 times amounts budget) ≡ 0
unfolding runs_8 total_takes
no_targets_8 times amounts budget none = rw (passing_none (counts amounts) 0 (count times.size) (λ c low high. none c (omega arith))) refl
