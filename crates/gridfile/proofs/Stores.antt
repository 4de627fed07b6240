-- Loops that store a list element by element: what is left to store, from the place that is reached, makes the slice what it is to become. Assumes nothing.
use mathlib.Core.Path.{◌≡◌, refl, sym, ap, subst, ◌∙◌}
use mathlib.Core.List.{List, [], ◌∷◌, ◌++◌}
use Prim.Native.Nat.{ℕ, zero, suc, ◌+◌, ◌-◌, ◌*◌, ◌/◌, ◌≤◌, ◌<◌}
use native.Mathlib.Omega.{arith}
use lib.ListN.{length, get_or, take, drop, set, length-append, length-set, length-drop, drop_of_length-le}
use lib.Seq.{sets, sets-eq, length-sets, drop-cons, length-take-le, take_all}
use Rattle.std.proofs.lemmas.Slice.{put_mid-paste}
use borrow.Rule.Slice.PartMut.{put_mid}
use Rattle.std.specs.Int.{w16, to_le_bytes}
use Rattle.gridfile.proofs.Bytes.{two_bytes}
use lib.Ieee.{Float, binary32, of_bits, to_bits}
use Rattle.rules.specs.Sizes.{number_at, refused, accepted}
use Rattle.gridfile.specs.Fields.{u32_of}
use Rattle.gridfile.specs.Contents.{floats_from}
use Rattle.gridfile.specs.Answers.{little_endian, field_head, number_field, float_bytes, grid_field, answer_file, Stored, Written}
use Rattle.rules.proofs.Decided.{equation_decides}

module _ {A : Type 0} where
  -- `todo`, stored from `at` on, makes `now` what `all`, stored from `from` on, makes of `before`.
  pub record Left (before : List A) (from : ℕ) (all now : List A) (at : ℕ) (todo : List A) : Type 0 where
    pub long : length now ≡ length before
    pub leads : sets now at todo ≡ sets before from all

  pub at_first : (before : List A) (from at : ℕ) (all todo : List A) → from ≡ at → all ≡ todo → Left before from all before at todo
  at_first before from at all todo e e' = record { long = refl; leads = ap (λ (k : ℕ). sets before k todo) (sym e) ∙ ap (λ (l : List A). sets before from l) (sym e') }

  -- One more is stored.
  pub one_more : {before now all todo : List A} {from at : ℕ} (a : A) (rest : List A) (next : ℕ) → Left before from all now at todo → todo ≡ a ∷ rest → next ≡ at + 1 → Left before from all (set now at a) next rest
  one_more {before} {now} {all} {todo} {from} {at} a rest next left e e' =
      let place : next ≡ suc at = omega arith in
      record {
        long = length-set now at a ∙ left.long;
        leads = ap (λ (k : ℕ). sets (set now at a) k rest) place ∙ ap (λ (l : List A). sets now at l) (sym e) ∙ left.leads;
      }

  -- Nothing is left.
  pub at_last : {before now all todo : List A} {from at : ℕ} → Left before from all now at todo → todo ≡ [] → now ≡ sets before from all
  at_last {before} {now} {all} {todo} {from} {at} left e = ap (λ (l : List A). sets now at l) (sym e) ∙ left.leads

  -- What is stored from the front on.
  pub at_front : (before all : List A) (n : ℕ) → length all ≡ n → n ≤ length before → sets before 0 all ≡ all ++ drop n before
  at_front before all n e room =
      let front : 0 + length all ≡ n = omega arith in
      sets-eq all before 0 (omega arith) ∙ ap (λ (k : ℕ). all ++ drop k before) front

  sets_append : (first second l : List A) (i : ℕ) → sets l i (first ++ second) ≡ sets (sets l i first) (i + length first) second
  sets_append [] second l i = let e : i ≡ i + 0 = omega arith in ap (λ (k : ℕ). sets l k second) e
  sets_append (a ∷ first) second l i =
      let e : suc i + length first ≡ i + suc (length first) = omega arith in
      sets_append first second (set l i a) (suc i) ∙ ap (λ (k : ℕ). sets (sets (set l i a) (suc i) first) k second) e

  -- Several more are stored, as one run.
  pub several_more : {before now after all todo : List A} {from at : ℕ} (first rest : List A) (next : ℕ) → Left before from all now at todo → todo ≡ first ++ rest → after ≡ sets now at first → next ≡ at + length first → Left before from all after next rest
  several_more {before} {now} {after} {all} {todo} {from} {at} first rest next left e stored e' = record {
    long = ap length stored ∙ length-sets now at first ∙ left.long;
    leads =
        ap (λ (l : List A). sets l next rest) stored
        ∙ ap (λ (k : ℕ). sets (sets now at first) k rest) e'
        ∙ sym (sets_append first rest now at)
        ∙ ap (λ (l : List A). sets now at l) (sym e)
        ∙ left.leads;
  }

-- ---- what is left of each loop's list

pub next_float : (file : List ℕ) (start count i : ℕ) → i < count → floats_from file (start + 4 * i) (count - i) ≡ of_bits binary32 (u32_of file (start + 4 * i)) ∷ floats_from file (start + 4 * (i + 1)) (count - (i + 1))
unfolding floats_from
next_float file start count i below =
    let e : count - i ≡ suc (count - (i + 1)) = omega arith in
    let e' : start + 4 * i + 4 ≡ start + 4 * (i + 1) = omega arith in
    ap (λ (k : ℕ). floats_from file (start + 4 * i) k) e
    ∙ ap (λ (k : ℕ). of_bits binary32 (u32_of file (start + 4 * i)) ∷ floats_from file k (count - (i + 1))) e'

pub no_floats : (file : List ℕ) (at count i : ℕ) → count ≤ i → floats_from file at (count - i) ≡ []
unfolding floats_from
no_floats file at count i end = let e : count - i ≡ 0 = omega arith in ap (λ (k : ℕ). floats_from file at k) e

pub next_bits : (grid : List Float) (i : ℕ) (d : Float) → i < length grid → float_bytes (drop i grid) ≡ little_endian 4 (to_bits binary32 (get_or grid i d)) ++ float_bytes (drop (i + 1) grid)
unfolding float_bytes
next_bits grid i d below =
    let e : suc i ≡ i + 1 = omega arith in
    ap float_bytes (drop-cons grid i d below) ∙ ap (λ (k : ℕ). little_endian 4 (to_bits binary32 (get_or grid i d)) ++ float_bytes (drop k grid)) e

pub no_bits : (grid : List Float) (i : ℕ) → length grid ≤ i → float_bytes (drop i grid) ≡ []
unfolding float_bytes
no_bits grid i end = ap float_bytes (drop_of_length-le grid end)

-- ---- lengths

pub digits_long : (count n : ℕ) → length (little_endian count n) ≡ count
unfolding little_endian
digits_long zero n = refl
digits_long (suc count) n = ap suc (digits_long count (n / 256))

pub floats_long : (file : List ℕ) (at count : ℕ) → length (floats_from file at count) ≡ count
unfolding floats_from
floats_long file at zero = refl
floats_long file at (suc count) = ap suc (floats_long file (at + 4) count)

pub bits_long : (grid : List Float) → length (float_bytes grid) ≡ 4 * length grid
unfolding float_bytes
bits_long [] = refl
bits_long (x ∷ grid) =
    let ih = bits_long grid in
    let four = digits_long 4 (to_bits binary32 x) in
    length-append (little_endian 4 (to_bits binary32 x)) (float_bytes grid) ∙ (omega arith)

pub part_long : (file : List ℕ) (start count : ℕ) → start + count ≤ length file → length (take count (drop start file)) ≡ count
part_long file start count room = length-take-le count (drop start file) (omega (arith, length-drop start file))

-- ---- fields

-- Bytes that a part of a slice was made are stored there.
pub stored_part : (before bytes : List ℕ) (at : ℕ) {now : List ℕ} → now ≡ bytes → at + length bytes ≤ length before → Stored bytes at before (put_mid at (at + length bytes - at) before now) (at + length bytes)
stored_part before bytes at {now} is room = record {
  held =
      put_mid-paste at (at + length bytes - at) before now bytes (length bytes) is (omega arith) refl
      ∙ ap (λ (l : List ℕ). take at before ++ l ++ drop (at + length bytes) before) (take_all (length bytes) bytes (omega arith))
      ∙ sym (sets-eq bytes before at room);
  place = refl;
}

-- Bytes stored one after the other are stored together.
pub stored_together : {before between after : List ℕ} {at middle next : ℕ} (first second : List ℕ) → Stored first at before between middle → Stored second middle between after next → Stored (first ++ second) at before after next
stored_together {before} {between} {after} {at} {middle} {next} first second one two =
    let total = length-append first second in
    let place = one.place in
    let place' = two.place in
    record {
      held =
          two.held
          ∙ ap (λ (l : List ℕ). sets l middle second) one.held
          ∙ ap (λ (k : ℕ). sets (sets before at first) k second) one.place
          ∙ sym (sets_append first second before at);
      place = omega arith;
    }

pub stored_length : {bytes before after : List ℕ} {at next : ℕ} → Stored bytes at before after next → length after ≡ length before
stored_length {bytes} {before} {after} {at} {next} stored = ap length stored.held ∙ length-sets before at bytes

-- Bytes stored from the front on are written.
pub written : {bytes before after : List ℕ} {next : ℕ} → Stored bytes 0 before after next → length bytes ≤ length before → Written bytes before after next
written {bytes} {before} {after} {next} stored room =
    let place = stored.place in
    record { held = stored.held ∙ at_front before bytes (length bytes) refl room; all = omega arith }

two_digits : (tag len : ℕ) → tag ∷ get_or (little_endian 2 len) 0 0 ∷ get_or (little_endian 2 len) 1 0 ∷ [] ≡ field_head tag len
unfolding little_endian
two_digits tag len = refl

-- A tag, and the two bytes of a length, make a field's head, of three bytes.
pub head_stored : (tag len : ℕ) {bytes before after : List ℕ} {at next : ℕ} → bytes ≡ to_le_bytes w16 len → Stored (tag ∷ get_or bytes 0 0 ∷ get_or bytes 1 0 ∷ []) at before after next → Stored (field_head tag len) at before after next
head_stored tag len {bytes} {before} {after} {at} {next} is stored =
    let e : tag ∷ get_or bytes 0 0 ∷ get_or bytes 1 0 ∷ [] ≡ field_head tag len = ap (λ (l : List ℕ). tag ∷ get_or l 0 0 ∷ get_or l 1 0 ∷ []) (is ∙ two_bytes len) ∙ two_digits tag len in
    subst (λ (l : List ℕ). Stored l at before after next) e stored

pub head_long : (tag len : ℕ) → length (field_head tag len) ≡ 3
head_long tag len = ap suc (digits_long 2 len)

pub number_field_long : (tag count n : ℕ) → length (number_field tag count n) ≡ 3 + count
number_field_long tag count n =
    let parts = length-append (field_head tag count) (little_endian count n) in
    let three = head_long tag count in
    let digits = digits_long count n in
    omega arith

pub number_long : (count n : ℕ) {bytes : List ℕ} → bytes ≡ little_endian count n → length bytes ≡ count
number_long count n is = ap length is ∙ digits_long count n

-- The little-endian bytes of a number, as a field's content, make a field that holds it.
pub number_stored : (tag count n : ℕ) {bytes before after : List ℕ} {at next : ℕ} → bytes ≡ little_endian count n → Stored (field_head tag (length bytes) ++ bytes) at before after next → Stored (number_field tag count n) at before after next
number_stored tag count n {bytes} {before} {after} {at} {next} is stored =
    let e : field_head tag (length bytes) ++ bytes ≡ number_field tag count n = ap (λ (k : ℕ). field_head tag k ++ bytes) (number_long count n is) ∙ ap (λ (l : List ℕ). field_head tag count ++ l) is in
    subst (λ (l : List ℕ). Stored l at before after next) e stored

-- A grid's field: its head says how many bytes follow.
pub grid_stored : {before between after : List ℕ} {at middle next tag : ℕ} (grid : List Float)
    → Stored (field_head tag (4 * length grid)) at before between middle → Stored (float_bytes grid) middle between after next → Stored (grid_field tag grid) at before after next
grid_stored {before} {between} {after} {at} {middle} {next} {tag} grid one two =
    stored_together (field_head tag (length (float_bytes grid))) (float_bytes grid)
    (subst (λ (k : ℕ). Stored (field_head tag k) at before between middle) (sym (bits_long grid)) one) two

pub grid_field_long : (tag : ℕ) (grid : List Float) → length (grid_field tag grid) ≡ 3 + 4 * length grid
grid_field_long tag grid =
    let parts = length-append (field_head tag (length (float_bytes grid))) (float_bytes grid) in
    let three = head_long tag (length (float_bytes grid)) in
    let bits = bits_long grid in
    omega arith

-- ---- whole answers

pub refused_at_long : (k index : ℕ) → length (answer_file (refused (number_at k index))) ≡ 11
refused_at_long k index =
    let parts = length-append (number_field 0x10 1 k) (number_field 0x11 4 index) in
    let four = number_field_long 0x10 1 k in
    let seven = number_field_long 0x11 4 index in
    omega arith

pub accepted_long : (takes : ℕ) (grid : List Float) → length (answer_file (accepted takes grid)) ≡ 18 + 4 * length grid
accepted_long takes grid =
    let first = length-append (number_field 0x10 1 0) (number_field 0x12 8 takes) in
    let parts = length-append (number_field 0x10 1 0 ++ number_field 0x12 8 takes) (grid_field 0x13 grid) in
    let four = number_field_long 0x10 1 0 in
    let eleven = number_field_long 0x12 8 takes in
    let cells = grid_field_long 0x13 grid in
    omega arith

-- What is written decides the slice and the count.
pub written_decides : {bytes before after after' : List ℕ} {count count' : ℕ} → Written bytes before after count → Written bytes before after' count' → (after ≡ after') × (count ≡ count')
written_decides one other = (equation_decides one.held other.held, equation_decides one.all other.all)
