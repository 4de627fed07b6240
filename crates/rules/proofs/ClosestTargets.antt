-- Searches 4, 5 and 6: each reached cell holds the value of a target from which a permitted path leads to it with the least sum. Assumes nothing.
use mathlib.Core.Bool.{Bool, true, false, not, cond, ◌||◌}
use mathlib.Core.Logic.{inl, inr, ⊎_elim}
use mathlib.Core.Path.{◌≡◌, refl, ap, ◌∙◌, subst}
use Prim.Native.Nat.{ℕ, suc, ◌<◌}
use lib.Dec.{T}
use lib.Ieee.{Float, nan, binary32, add, lt, fits, is_nan}
use lib.Ieee.Bits.{is_true, is_false}
use lib.Ieee.Fits.{and_l}
use mir.Facts.{T_not-not}
use Rattle.binary32.specs.Numbers.{plus_zero}
use Rattle.fifo.specs.Machine.{Net, label, finish}
use Rattle.fifo.specs.Walk.{In, Walk, here, on}
use Rattle.fifo.specs.Laws.{Laws, LeastSums}
use Rattle.fifo.proofs.Lists.{in_or_not, tested, holds}
use Rattle.fifo.proofs.Labels.{walk_starts}
use Rattle.fifo.proofs.Ends.{ends_within_square}
use Rattle.fifo.proofs.LeastSums.{least_sums}
use Rattle.fifo.proofs.Search.{closed_first}
use Rattle.rules.specs.Numbers.{whole}
use Rattle.rules.specs.Sizes.{Size, Grid, count}
use Rattle.rules.specs.Cells.{moves}
use Rattle.rules.specs.Distances.{float, target, has_data}
use Rattle.rules.specs.Values.{Carried, carrying, closest, starts_by_time, entered_by_time, closest_by_time}
use Rattle.rules.specs.Paths.{Path, AllowedBy, FromClosest, HoldsClosest, ClosestTargets4, ClosestTargetsByTime}
use Rattle.rules.proofs.Neighbours.{moves_permitted}
use Rattle.rules.proofs.AddedCosts.{AddsCosts, laws_of_costs}
use Rattle.rules.proofs.PathWalks.{StepsAllowed, walk_path, no_path_less, steps_of_moves, permitted_by, allowed_by}
use Rattle.rules.proofs.Inputs.{AcceptedTimes}
use Rattle.rules.proofs.Nets.{closest_costs, closest_by_time_costs}

-- A search in which a value goes along: its steps go to the neighbours that pass a test, add a cost and leave the value; a starting cell has its own value.
record CarriesAlong (net : Net Carried) (size : Size) (test : ℕ → Bool) (cost : ℕ → ℕ → Float → Float) (value : ℕ → Float) (cap : Float) : Type 0 where
  costs : AddsCosts (λ l. l.0) net (cap, plus_zero)
  nbrs_are : (u : ℕ) → net.nbrs u ≡ moves size test test (carrying (λ s v d. add binary32 d (cost u v s))) u
  first_value : (c : ℕ) → T (net.start c) → (net.first c).1 ≡ value c

module _
    {net : Net Carried} {size : Size} {test : ℕ → Bool} {cost : ℕ → ℕ → Float → Float} {value : ℕ → Float} {cap : Float}
    (along : CarriesAlong net size test cost value cap)
  where
    abbrev Allowed : ℕ → ℕ → Float → Type 0
    Allowed = AllowedBy size test cost

    abbrev step_of : ℕ → Float → ℕ → Carried → Carried
    step_of u = carrying (λ s v d. add binary32 d (cost u v s))

    steps : StepsAllowed (λ l. l.0) net Allowed
    steps =
        steps_of_moves (λ l. l.0) net Allowed size (λ u. test) (λ u. test) cost step_of (λ u v s l. refl) along.nbrs_are
        (permitted_by size test cost) (allowed_by size test cost)

    -- A walk brings the value of the target that it starts at.
    value_brought : {from c : ℕ} {l : Carried} → Walk net from c l → l.1 ≡ value from
    value_brought (here {c = c} starts) = along.first_value c starts.1
    value_brought (on {u = u} {v = v} {d = l} f walk i) =
        let (s, entered, e) = moves_permitted size test test (step_of u) u v f (rw (along.nbrs_are u) at i) in
        ap (λ g. (g l).1) e ∙ value_brought walk

    -- A cell that was entered has a walk's label, so that a path from that walk's target has its distance for a sum, and it has that target's value.
    -- Any other holds what it began with. In either case no path gives less than the distance, as no walk does.
    holds_closest :
        (marked : ℕ → Bool) → ((c : ℕ) → T (marked c) → (net.enterable c ≡ false) × (net.first c ≡ (nan, nan)))
        → ((c : ℕ) → net.start c ≡ false → T (not (marked c)) → net.first c ≡ (cap, plus_zero))
        → HoldsClosest net marked Allowed value cap
    unfolding finish laws_of_costs
    holds_closest marked marked_closed others_capped = record {
      marked_holds_nan = λ c inside m. let (closed, holds_nan) = marked_closed c m in closed_first laws c closed ∙ holds_nan;
      other_holds_closest = λ c inside unmarked. ⊎_elim (λ entered. inl (reached c entered)) (λ out. inr (unreached c inside unmarked out)) (in_or_not c (finish net).entered);
      takes_within_square = (ends_within_square laws).takes_within_square;
    }
      where
        laws : Laws net
        laws = laws_of_costs along.costs

        least : LeastSums laws (finish net)
        least = least_sums laws

        held : ℕ → Carried
        held c = label net (finish net) c

        reached : (c : ℕ) → In c (finish net).entered → FromClosest net.cells net.start Allowed value c (held c).0 (held c).1
        reached c entered =
            let (from, walk) = least.entered_met c entered in
            record {
              from = from;
              inside = (walk_starts walk).0;
              is_target = (walk_starts walk).1;
              path = walk_path along.costs steps walk;
              its_value = value_brought walk;
              no_less = no_path_less along.costs steps c;
            }

        unreached :
            (c : ℕ) → c < net.cells → T (not (marked c)) → (In c (finish net).entered → ⊥)
            → (held c ≡ (cap, plus_zero)) × ((d : Float) → Path net.cells net.start Allowed c d → lt d cap ≡ false)
        unreached c inside unmarked out =
            let rests : net.start c ≡ false = ⊎_elim (λ starts. absurd (out (least.start_entered c (inside, holds starts)))) (λ rests. rests) (tested (net.start c)) in
            let same = least.rest_first c out ∙ others_capped c rests unmarked in
            (same, λ d path. subst (λ (l : Carried). lt d l.0 ≡ false) same (no_path_less along.costs steps c d path))

-- ---- search 4

pub closest_targets_4 : (targets : Grid ℕ) (values : Grid Float) → ClosestTargets4 targets values
unfolding closest
closest_targets_4 targets values =
    holds_closest (record { costs = closest_costs targets values; nbrs_are = λ u. refl; first_value = λ c starts. ap (λ b. (first c b).1) (is_true (target targets c) starts) })
    (λ c. false) (λ c. absurd) (λ c rests unmarked. ap (first c) rests)
  where
    first : ℕ → Bool → Carried
    first c b = cond b (plus_zero, float values c) (whole (suc (count targets.size)), plus_zero)

-- ---- searches 5 and 6

pub closest_targets_by_time :
    (targets : Grid ℕ) (times values : Grid Float) (limit : Float) → AcceptedTimes times → T (fits binary32 limit) → is_nan limit ≡ false
    → ClosestTargetsByTime targets times values limit
unfolding closest_by_time
closest_targets_by_time targets times values limit times_good held number =
    holds_closest (record { costs = closest_by_time_costs targets times values limit times_good held number; nbrs_are = λ u. refl; first_value = own_value })
    (λ c. not (has_data values c)) shut capped
  where
    first : ℕ → Bool → Bool → Carried
    first c valued starts = cond valued (cond starts (plus_zero, float values c) (limit, plus_zero)) (nan, nan)

    own_value : (c : ℕ) → T (starts_by_time targets values c) → (first c (has_data values c) (starts_by_time targets values c)).1 ≡ float values c
    own_value c starts =
        ap (λ b. (first c b (starts_by_time targets values c)).1) (is_true (has_data values c) (and_l (has_data values c) _ starts))
        ∙ ap (λ b. (first c true b).1) (is_true (starts_by_time targets values c) starts)

    shut :
        (c : ℕ) → T (not (has_data values c))
        → (starts_by_time targets values c || entered_by_time times values c ≡ false) × (first c (has_data values c) (starts_by_time targets values c) ≡ (nan, nan))
    shut c none = let told : has_data values c ≡ false = is_false (has_data values c) none in (rw told, rw told)

    capped :
        (c : ℕ) → starts_by_time targets values c ≡ false → T (not (not (has_data values c)))
        → first c (has_data values c) (starts_by_time targets values c) ≡ (limit, plus_zero)
    capped c rests valued = ap (λ b. first c b (starts_by_time targets values c)) (is_true (has_data values c) (T_not-not (has_data values c) valued)) ∙ ap (first c true) rests
