-- The fields from a place of the file on, one field at a time. Assumes nothing.
use mathlib.Core.Path.{◌≡◌, refl, sym, ap, subst, ◌∙◌}
use mathlib.Core.Bool.{false}
use mathlib.Core.List.{List, [], ◌∷◌}
use Prim.Native.Nat.{ℕ, zero, suc, ◌+◌, ◌≤◌, ◌<◌}
use native.Mathlib.Nat.{not-suc-le-zero, le_of_suc-le-suc}
use native.Mathlib.Omega.{arith}
use borrow.Author.Tests.{leb-true, leb-false, eqb-true}
use lib.Dec.{leb, eqb}
use lib.ListN.{length, drop, length-drop, drop_of_length-le}
use lib.Seq.{drop-cons, drop-drop}
use Rattle.gridfile.specs.Fields.{Part, part, Field, field, Fields, cut, whole, and_then, byte, u16_of, fields_after, fields_from}
use Rattle.gridfile.specs.Lookups.{field_at}
use Rattle.std.proofs.Common.{Option, Some, None}
use Rattle.rules.proofs.Tests.{never}
use Rattle.gridfile.proofs.Choices.{by_cases}

-- Passing the rest of a field's content comes to starting after it.
pub passed : (left at : ℕ) (bytes : List ℕ) → left ≤ length bytes → fields_after left at bytes ≡ fields_after 0 (at + left) (drop left bytes)
unfolding fields_after
passed zero at bytes room = let e : at ≡ at + 0 = omega arith in ap (λ (k : ℕ). fields_after 0 k bytes) e
passed (suc left) at [] room = absurd (not-suc-le-zero room)
passed (suc left) at (b ∷ bytes) room =
    let e : suc at + left ≡ at + suc left = omega arith in
    passed left (suc at) bytes (le_of_suc-le-suc room) ∙ ap (λ (k : ℕ). fields_after 0 k (drop left bytes)) e

-- A content that does not end within the file is cut.
pub cut_short : (left at : ℕ) (bytes : List ℕ) → length bytes < left → fields_after left at bytes ≡ cut
unfolding fields_after
cut_short zero at bytes short = absurd (not-suc-le-zero short)
cut_short (suc left) at [] short = refl
cut_short (suc left) at (b ∷ bytes) short = cut_short left (suc at) bytes (le_of_suc-le-suc short)

-- So is a field of which only one or two bytes are there.
cut_head : (at : ℕ) (bytes : List ℕ) → 0 < length bytes → length bytes < 3 → fields_after 0 at bytes ≡ cut
unfolding fields_after
cut_head at [] some few = absurd (not-suc-le-zero some)
cut_head at (tag ∷ []) some few = refl
cut_head at (tag ∷ low ∷ []) some few = refl
cut_head at (tag ∷ low ∷ high ∷ bytes) some few = absurd (not-suc-le-zero (le_of_suc-le-suc (le_of_suc-le-suc (le_of_suc-le-suc few))))

module _ (file : List ℕ) (at : ℕ) where
  abbrev len : ℕ
  len = u16_of file (at + 1)

  -- The field at this place, cut or not, and the fields after it.
  abbrev here : Field
  here = field (byte file at) (part (at + 3) len)

  abbrev after_here : Fields
  after_here = fields_after len (at + 3) (drop (at + 3) file)

  three_bytes : at + 3 ≤ length file → drop at file ≡ byte file at ∷ byte file (at + 1) ∷ byte file (at + 1 + 1) ∷ drop (at + 3) file
  three_bytes room =
      let second : suc at ≡ at + 1 = omega arith in
      let third : suc (at + 1) ≡ at + 1 + 1 = omega arith in
      let after : suc (at + 1 + 1) ≡ at + 3 = omega arith in
      drop-cons file at 0 (omega arith)
      ∙ ap (λ (l : List ℕ). byte file at ∷ l)
      (ap (λ (k : ℕ). drop k file) second ∙ drop-cons file (at + 1) 0 (omega arith)
      ∙ ap (λ (l : List ℕ). byte file (at + 1) ∷ l)
      (ap (λ (k : ℕ). drop k file) third ∙ drop-cons file (at + 1 + 1) 0 (omega arith)
      ∙ ap (λ (k : ℕ). byte file (at + 1 + 1) ∷ drop k file) after))

  opened : at + 3 ≤ length file → fields_from file at ≡ and_then here after_here
  unfolding fields_after
  opened room = ap (λ (bytes : List ℕ). fields_after 0 at bytes) (three_bytes room)

  whole_field : at + 3 + len ≤ length file → fields_from file at ≡ and_then here (fields_from file (at + 3 + len))
  whole_field room =
      opened (omega arith)
      ∙ ap (λ (rest : Fields). and_then here rest)
      (passed len (at + 3) (drop (at + 3) file) (omega (arith, length-drop (at + 3) file))
      ∙ ap (λ (bytes : List ℕ). fields_after 0 (at + 3 + len) bytes) (drop-drop len (at + 3) file))

  cut_field : at + 3 ≤ length file → length file < at + 3 + len → fields_from file at ≡ cut
  cut_field room short =
      opened room
      ∙ ap (λ (rest : Fields). and_then here rest)
      (cut_short len (at + 3) (drop (at + 3) file) (omega (arith, length-drop (at + 3) file)))

  -- Where no byte is left, no field is.
  pub none_left : length file ≤ at → fields_from file at ≡ whole []
  unfolding fields_after
  none_left end = ap (λ (bytes : List ℕ). fields_after 0 at bytes) (drop_of_length-le file end)

  too_few : at < length file → length file < at + 3 → fields_from file at ≡ cut
  too_few some few = cut_head at (drop at file) (omega (arith, length-drop at file)) (omega (arith, length-drop at file))

  -- Where bytes are left, the file is cut or there is a field.
  pub some_left : (Q : Fields → Type 0) → at < length file → Q cut → ((f : Field) (rest : Fields) → Q (and_then f rest)) → Q (fields_from file at)
  some_left Q some if_cut if_field =
      by_cases (Q (fields_from file at)) (leb (at + 3) (length file))
      (λ room. subst Q (sym (opened (leb-true (at + 3) (length file) room))) (if_field here after_here))
      (λ few. subst Q (sym (too_few some (leb-false (at + 3) (length file) few))) if_cut)

  -- A field that is looked for at a place, beside the fields from there on: it is the first of them, or none is left, or the file is cut, or another comes first.
  module _ (tag : ℕ) (Q : Option Part → Fields → Type 0)
      (found : (n : ℕ) → at + 3 + n ≤ length file → Q (Some (part (at + 3) n)) (and_then (field tag (part (at + 3) n)) (fields_from file (at + 3 + n))))
      (none : Q None (whole [])) (broken : Q None cut)
      (other : (f : Field) (rest : Fields) → eqb f.tag tag ≡ false → Q None (and_then f rest)) where
    carried : {s t : Option Part} {v w : Fields} → s ≡ t → v ≡ w → Q t w → Q s v
    carried {s} {t} {v} {w} e e' q = subst (λ (x : Option Part). Q x v) (sym e) (subst (λ (x : Fields). Q t x) (sym e') q)

    pub look : Q (field_at file at tag) (fields_from file at)
    look =
        by_cases (Q (field_at file at tag) (fields_from file at)) (leb (at + 3) (length file))
        (λ room. by_cases (Q (field_at file at tag) (fields_from file at)) (eqb (byte file at) tag)
        (λ tagged. by_cases (Q (field_at file at tag) (fields_from file at)) (leb (at + 3 + len) (length file))
        (λ within.
        let w : at + 3 + len ≤ length file = leb-true _ _ within in
        carried (simp (room, tagged, within)) (whole_field w ∙ ap (λ (t : ℕ). and_then (field t (part (at + 3) len)) (fields_from file (at + 3 + len))) (eqb-true _ _ tagged)) (found len w))
        (λ past. carried (simp (room, tagged, past)) (cut_field (leb-true _ _ room) (leb-false _ _ past)) broken))
        (λ untagged. carried (simp (room, untagged)) (opened (leb-true _ _ room)) (other here after_here untagged)))
        (λ few. by_cases (Q (field_at file at tag) (fields_from file at)) (leb (length file) at)
        (λ end. carried (simp few) (none_left (leb-true _ _ end)) none)
        (λ some. carried (simp few) (too_few (leb-false _ _ some) (leb-false _ _ few)) broken))

-- The same of the field alone: it is there, whole, or it is missing.
pub looked_for : (file : List ℕ) (at tag : ℕ) (Q : Option Part → Type 0) → ((n : ℕ) → at + 3 + n ≤ length file → Q (Some (part (at + 3) n))) → Q None → Q (field_at file at tag)
looked_for file at tag Q found missing = look file at tag (λ s w. Q s) found missing missing (λ f rest e. missing)

-- The content of a field that is found ends within the file.
pub content_within : (file : List ℕ) (at tag : ℕ) {p : Part} → field_at file at tag ≡ Some p → p.start + p.len ≤ length file
content_within file at tag {p} e =
    looked_for file at tag (λ s. s ≡ Some p → p.start + p.len ≤ length file)
    (λ n room e'. let same : part (at + 3) n ≡ p = cc in subst (λ (q : Part). q.start + q.len ≤ length file) same room)
    (λ e'. never cc)
    e
