-- What a cell begins with, by the rule, is what the rule's net says. Assumes nothing.
use mathlib.Core.Bool.{Bool, true, false, not, cond, ◌&&◌, and-true, and-false, and_self, and_assoc}
use mathlib.Core.List.{List}
use mathlib.Core.Path.{◌≡◌, sym, ap, ◌∙◌, subst}
use Prim.Native.Nat.{ℕ, suc, ◌+◌, ◌<◌}
use native.Mathlib.Numerals.{add-one}
use native.Mathlib.Omega.{arith}
use borrow.Author.Tests.{eq-eqb, ne_eqb}
use lib.Dec.{T, eqb, le→leb}
use lib.IntN.{pos}
use lib.Ieee.{Float, nan, binary32, in_float, of_int}
use lib.ListN.{get_or}
use mir.Syntax.{w32, w64}
use mir.Val.{Fits}
use Rattle.binary32.specs.Nodata.{nodata}
use Rattle.binary32.specs.Numbers.{plus_zero}
use Rattle.cells.proofs.Bounds.{bounded}
use Rattle.rules.specs.declared.BarrierDiagonals.{BarrierDiagonals}
use Rattle.rules.specs.declared.Size.{Size}
use Rattle.rules.specs.Sizes.{in_bounds, count}
use Rattle.rules.specs.Numbers.{infinity, nodata_byte, target_byte, whole}
use Rattle.rules.specs.Distances.{plain, with_obstacles, travel}
use Rattle.rules.specs.Values.{Carried, closest, closest_by_time}
use Rattle.spread.specs.declared.search.Rule.TheVariants.{Plain, Obstacles, HalfSum, Closest, ByTime}
use Rattle.spread.specs.declared.search.Search.{Search}
use Rattle.spread.specs.declared.first.First.{First}
use Rattle.spread.specs.Nets.{net_of}
use Rattle.spread.specs.First.{NeverEntered, FromStart, FromTarget, FromPlainTarget, FromTravelTarget, FromValuedTarget, FirstOf}

-- ---- numbers

-- One more than the number of cells is counted, and held exactly.
module _ (size : Size) (bounds : T (in_bounds size)) {n : ℕ} (counted : n ≡ count size) where
  pub one_more_fits : Fits w64 (n + 1)
  one_more_fits = let most = (bounded size bounds).cells_most in record { fits = omega arith }

  pub one_more_held : T (in_float binary32 (pos (n + 1)))
  unfolding in_float
  one_more_held = let most = (bounded size bounds).cells_most in le→leb (n + 1) 16777216 (omega arith)

  pub one_more_whole : of_int binary32 (pos (n + 1)) ≡ whole (suc (count size))
  one_more_whole = ap (λ k. of_int binary32 (pos k)) (add-one n ∙ ap suc counted)

  pub count_fits : Fits w32 n
  count_fits = let most = (bounded size bounds).cells_most in record { fits = omega arith }

  pub next_fits : {i : ℕ} → i < n → Fits w32 (i + 1)
  next_fits below = let most = (bounded size bounds).cells_most in record { fits = omega arith }

-- ---- target bytes

-- The second test is made where the first holds.
pub is_target : (byte : ℕ) → (byte ≡ 0 → ⊥) → not (eqb byte 255) ≡ target_byte byte
is_target byte nonzero = ap (λ b. not b && not (eqb byte 255)) (sym (ne_eqb byte 0 nonzero))

pub is_no_target : (byte : ℕ) → byte ≡ 0 → not (eqb byte 0) ≡ target_byte byte
is_no_target byte zero = rw (eq-eqb byte 0 zero)

-- A target is nonzero and not nodata, so that it has data.
target_has_data : (zero none : Bool) → not zero && not none ≡ (not zero && not none) && not none
target_has_data zero none = sym (and_assoc (not zero) (not none) (not none) ∙ ap (λ b. not zero && b) (and_self (not none)))

pair_of : {d x d' x' : Float} → d ≡ d' → x ≡ x' → ◌≡◌ {A = Carried} (d, x) (d', x')
pair_of {d} {x} {d'} {x'} p q = ap (λ y. (y, x)) p ∙ ap (λ y. (d', y)) q

pair_as : (b : Bool) (value cap : Float) {d x : Float} → d ≡ cond b plus_zero cap → x ≡ cond b value plus_zero → ◌≡◌ {A = Carried} (d, x) (cond b (plus_zero, value) (cap, plus_zero))
pair_as true value cap p q = pair_of p q
pair_as false value cap p q = pair_of p q

-- What a test says may stand for the test.
pub start_as : {said starts : Bool} {value cap : Float} {first : First} → said ≡ starts → FromStart said value cap first → FromStart starts value cap first
start_as {value = value} {cap} {first} same = subst (λ b. FromStart b value cap first) same

module _ {byte : ℕ} {cap : Float} {first : First} where
  pub nodata_target : byte ≡ 255 → NeverEntered first → FromPlainTarget byte cap first
  nodata_target nodata never = record { distance_is = rw (eq-eqb byte 255 nodata) never.distance_is; starts_is = rw nodata never.starts_is }

  pub data_target : {value : Float} → (byte ≡ 255 → ⊥) → FromTarget byte value cap first → FromPlainTarget byte cap first
  data_target has_data from = record { distance_is = from.distance_is ∙ ap (λ b. cond (not b) (cond (target_byte byte) plus_zero cap) nan) (sym (ne_eqb byte 255 has_data)); starts_is = from.starts_is }

  module _ {time : Float} {answer : Bool} (says : answer ≡ nodata time) where
    pub nodata_time : answer ≡ true → NeverEntered first → FromTravelTarget byte time cap first
    nodata_time none never =
        let told : nodata time ≡ true = sym says ∙ none in
        record { distance_is = rw told (rw (and-false (not (nodata_byte byte))) never.distance_is); starts_is = rw told (rw (and-false (not (nodata_byte byte))) (rw (and-false (target_byte byte)) never.starts_is)) }

    pub data_time : answer ≡ false → FromPlainTarget byte cap first → FromTravelTarget byte time cap first
    data_time some from =
        let told : nodata time ≡ false = sym says ∙ some in
        record {
          distance_is = rw told (rw (and-true (not (nodata_byte byte))) from.distance_is);
          starts_is = rw told (rw (and-true (not (nodata_byte byte))) (from.starts_is ∙ target_has_data (eqb byte 0) (nodata_byte byte)));
        }

  module _ {value : Float} {answer : Bool} (says : answer ≡ nodata value) where
    pub nodata_value : answer ≡ true → NeverEntered first → FromValuedTarget byte value cap first
    nodata_value none never =
        let told : nodata value ≡ true = sym says ∙ none in
        record { label_is = rw told (pair_of never.distance_is never.value_is); starts_is = rw told never.starts_is }

    pub data_value : answer ≡ false → FromStart (not (eqb byte 0)) value cap first → FromValuedTarget byte value cap first
    data_value some from =
        let told : nodata value ≡ false = sym says ∙ some in
        record { label_is = rw told (pair_as (not (eqb byte 0)) value cap from.distance_is from.value_is); starts_is = rw told from.starts_is }

-- ---- the rules

module _ (search : Search) (targets : List ℕ) (times values : List Float) (cell : ℕ) {first : First} where
  pub plain_first : search.rule ≡ Plain → FromPlainTarget (get_or targets cell 0) search.limit first → FirstOf search targets times values cell first
  unfolding net_of plain
  plain_first rule from = record { label = λ obstacles. rw rule (ap (λ d. (d, nan)) from.distance_is); starts = λ obstacles. rw rule from.starts_is }

  pub obstacles_first :
      {diagonals : BarrierDiagonals} {value cap : Float} → search.rule ≡ Obstacles diagonals → cap ≡ infinity → FromTarget (get_or targets cell 0) value cap first
      → FirstOf search targets times values cell first
  unfolding net_of with_obstacles
  obstacles_first rule capped from = record {
    label = λ obstacles. rw rule (ap (λ d. (d, nan)) (from.distance_is ∙ ap (cond (target_byte (get_or targets cell 0)) plus_zero) capped));
    starts = λ obstacles. rw rule from.starts_is;
  }

  pub half_sum_first :
      search.rule ≡ HalfSum → FromTravelTarget (get_or targets cell 0) (get_or times cell nan) search.limit first → FirstOf search targets times values cell first
  unfolding net_of travel
  half_sum_first rule from = record { label = λ obstacles. rw rule (ap (λ d. (d, nan)) from.distance_is); starts = λ obstacles. rw rule from.starts_is }

  pub closest_first :
      {cap : Float} → search.rule ≡ Closest → cap ≡ whole (suc (count search.size)) → FromTarget (get_or targets cell 0) (get_or values cell nan) cap first
      → FirstOf search targets times values cell first
  unfolding net_of closest
  closest_first {cap} rule capped from = record {
    label = λ obstacles. rw rule (
        pair_as (target_byte (get_or targets cell 0)) (get_or values cell nan) cap from.distance_is from.value_is
        ∙ ap (λ most. cond (target_byte (get_or targets cell 0)) (plus_zero, get_or values cell nan) (most, plus_zero)) capped);
    starts = λ obstacles. rw rule from.starts_is;
  }

  pub by_time_first :
      search.rule ≡ ByTime → FromValuedTarget (get_or targets cell 0) (get_or values cell nan) search.limit first → FirstOf search targets times values cell first
  unfolding net_of closest_by_time
  by_time_first rule from = record { label = λ obstacles. rw rule from.label_is; starts = λ obstacles. rw rule from.starts_is }
