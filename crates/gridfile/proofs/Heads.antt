-- A file that keeps the form begins with 01, 02 and 03, each of its length, and the grids follow. Assumes nothing.
use mathlib.Core.Path.{◌≡◌, refl, sym, ap, ◌∙◌}
use mathlib.Core.Bool.{Bool, true, false, cond, ◌&&◌}
use mathlib.Core.List.{List, [], ◌∷◌}
use Prim.Native.Nat.{ℕ, ◌+◌, ◌≤◌}
use native.Mathlib.Omega.{arith}
use borrow.Author.Tests.{eqb-true, eq-eqb}
use lib.Dec.{leb, eqb}
use lib.ListN.{length}
use Rattle.gridfile.specs.Fields.{part, Field, field, Fields, cut, whole, and_then, fields_from, tags, rising, is_field}
use Rattle.gridfile.specs.Request.{Head, Grids, Request, BadFile, search_of, grids_of, same, by_tag, head_of, head_fits, grids_fit, as_request, bad, judged, parsed}
use Rattle.gridfile.specs.Lookups.{long, stands_at, has_head, grids_in}
use Rattle.std.proofs.Common.{Option, Some, None, Result, Ok, Err}
use Rattle.std.specs.Result.{IsErr}
use Rattle.rules.proofs.Tests.{and_both, never}
use Rattle.gridfile.proofs.Choices.{by_cases, three_choices, same_is, for_grids}
use Rattle.gridfile.proofs.Places.{look, looked_for}

-- ---- the first three fields

-- A reading of fields that refuses everything that does not begin with a field of this tag and length.
record Wants (tag len : ℕ) (P : Fields → Result Request BadFile) : Type 0 where
  pub not_cut : P cut ≡ bad
  pub not_none : P (whole []) ≡ bad
  pub not_other : (f : Field) (rest : Fields) → is_field tag len f ≡ false → P (and_then f rest) ≡ bad

module _ (file : List ℕ) (at tag len : ℕ) (P : Fields → Result Request BadFile) (wants : Wants tag len P) where
  abbrev after : Result Request BadFile
  after = P (and_then (field tag (part (at + 3) len)) (fields_from file (at + 3 + len)))

  -- Such a reading goes on after that field where it stands, and refuses where it does not. Proof: the field that stands at the place has this tag and
  -- length, or another length, or another tag, or there is none, or the file is cut; the reading refuses all but the first.
  first_field : P (fields_from file at) ≡ cond (stands_at file at tag len) after bad
  first_field =
      look file at tag (λ s w. P w ≡ cond (long len s) after bad)
      (λ n room. by_cases (P (and_then (field tag (part (at + 3) n)) (fields_from file (at + 3 + n))) ≡ cond (eqb n len) after bad) (eqb n len)
      (λ e. ap (λ (k : ℕ). P (and_then (field tag (part (at + 3) k)) (fields_from file (at + 3 + k)))) (eqb-true n len e) ∙ sym (ap (λ (t : Bool). cond t after bad) e))
      (λ e. wants.not_other (field tag (part (at + 3) n)) (fields_from file (at + 3 + n)) (simp (eq-eqb tag tag refl) e) ∙ sym (ap (λ (t : Bool). cond t after bad) e)))
      wants.not_none
      wants.not_cut
      (λ f rest e. wants.not_other f rest (ap (λ (t : Bool). t && eqb f.content.len len) e))

-- A field that stands in the file ends within it.
pub stands_within : (file : List ℕ) (at tag len : ℕ) → stands_at file at tag len ≡ true → at + 3 + len ≤ length file
stands_within file at tag len e =
    looked_for file at tag (λ s. long len s ≡ true → at + 3 + len ≤ length file)
    (λ n room e'. let same = eqb-true n len e' in omega arith)
    (λ e'. never cc)
    e

pub head_within : (file : List ℕ) → has_head file ≡ true → 24 ≤ length file
head_within file e = stands_within file 13 0x03 8 (and_both (stands_at file 0 0x01 3 && stands_at file 6 0x02 4) (stands_at file 13 0x03 8) e).1

-- ---- the grids after them

-- What the head and the grids that were found come to.
abbrev pub requested : Head → Option Grids → Result Request BadFile
requested h (Some g) = cond (head_fits h && grids_fit g) (Ok (as_request (search_of h.search) h g)) bad
requested h None = bad

-- ---- the two together

abbrev f_01 : Field
f_01 = field 0x01 (part 3 3)

abbrev f_02 : Field
f_02 = field 0x02 (part 9 4)

abbrev f_03 : Field
f_03 = field 0x03 (part 16 8)

module _ (file : List ℕ) where
  -- A file's judgement wants 01 first, after it 02, and after that 03.
  wants_01 : Wants 0x01 3 (judged file)
  unfolding judged
  wants_01 = record {
    not_cut = refl;
    not_none = refl;
    not_other = other;
  }
    where
      other : (f : Field) (rest : Fields) → is_field 0x01 3 f ≡ false → judged file (and_then f rest) ≡ bad
      other f cut e = refl
      other f (whole []) e = refl
      other f (whole (f2 ∷ [])) e = refl
      other f (whole (f2 ∷ f3 ∷ grids)) e = simp e

  wants_02 : Wants 0x02 4 (λ w. judged file (and_then f_01 w))
  unfolding judged
  wants_02 = record {
    not_cut = refl;
    not_none = refl;
    not_other = other;
  }
    where
      other : (f : Field) (rest : Fields) → is_field 0x02 4 f ≡ false → judged file (and_then f_01 (and_then f rest)) ≡ bad
      other f cut e = refl
      other f (whole []) e = refl
      other f (whole (f3 ∷ grids)) e = simp e

  wants_03 : Wants 0x03 8 (λ w. judged file (and_then f_01 (and_then f_02 w)))
  unfolding judged
  wants_03 = record {
    not_cut = refl;
    not_none = refl;
    not_other = other;
  }
    where
      other : (f : Field) (rest : Fields) → is_field 0x03 8 f ≡ false → judged file (and_then f_01 (and_then f_02 (and_then f rest))) ≡ bad
      other f cut e = refl
      other f (whole grids) e = simp e

  -- What is judged once the head is there.
  abbrev rest_judged : Result Request BadFile
  rest_judged = judged file (and_then f_01 (and_then f_02 (and_then f_03 (fields_from file 24))))

  -- Proof: 01 ends where 02 is looked for, and 02 where 03 is.
  begins : parsed file ≡ cond (has_head file) rest_judged bad
  begins =
      first_field file 0 0x01 3 (judged file) wants_01
      ∙ ap (λ (p : Result Request BadFile). cond (stands_at file 0 0x01 3) p bad) (first_field file 6 0x02 4 (λ w. judged file (and_then f_01 w)) wants_02)
      ∙ ap (λ (p : Result Request BadFile). cond (stands_at file 0 0x01 3) (cond (stands_at file 6 0x02 4) p bad) bad) (first_field file 13 0x03 8 (λ w. judged file (and_then f_01 (and_then f_02 w))) wants_03)
      ∙ three_choices (stands_at file 0 0x01 3) (stands_at file 6 0x02 4) (stands_at file 13 0x03 8) rest_judged bad

  -- In every row of the table the tags rise.
  risen : (search : ℕ) → rising (0x01 ∷ 0x02 ∷ 0x03 ∷ grids_of search) ≡ true
  unfolding rising
  risen search = for_grids (λ ts. rising (0x01 ∷ 0x02 ∷ 0x03 ∷ ts) ≡ true) refl refl refl refl refl refl refl search

  -- Tags that are exactly the search's rise.
  rise : (ts : List ℕ) (search : ℕ) → same ts (grids_of search) ≡ true → rising (0x01 ∷ 0x02 ∷ 0x03 ∷ ts) ≡ true
  rise ts search e = ap (λ (us : List ℕ). rising (0x01 ∷ 0x02 ∷ 0x03 ∷ us)) (same_is ts (grids_of search) e) ∙ risen search

  -- Four tests of which the first follows from the second.
  tested : (rises exact fits small : Bool) (h : Head) (g : Grids) → (exact ≡ true → rises ≡ true) → head_fits h ≡ fits → grids_fit g ≡ small
      → cond (rises && exact && fits && small) (Ok (as_request (search_of h.search) h g)) bad ≡ requested h (cond exact (Some g) None)
  tested rises true fits small h g follows e e' = simp (follows refl, e, e')
  tested true false fits small h g follows e e' = refl
  tested false false fits small h g follows e e' = refl

  -- After the head, a file is judged by its grids alone: that the tags rise follows from their being exactly the search's.
  grids_judged : (w : Fields) → let h = head_of file 3 9 16 in judged file (and_then f_01 (and_then f_02 (and_then f_03 w))) ≡ requested h (grids_in h.search w)
  unfolding judged grids_in
  grids_judged cut = refl
  grids_judged (whole grids) =
      let h = head_of file 3 9 16 in
      tested (rising (0x01 ∷ 0x02 ∷ 0x03 ∷ tags grids)) (same (tags grids) (grids_of h.search)) (head_fits h) (grids_fit (by_tag grids)) h (by_tag grids)
      (rise (tags grids) h.search) refl refl

  -- The judgement as the code makes it.
  pub as_judged : parsed file ≡ cond (has_head file) (requested (head_of file 3 9 16) (grids_in (head_of file 3 9 16).search (fields_from file 24))) bad
  as_judged = begins ∙ ap (λ (p : Result Request BadFile). cond (has_head file) p bad) (grids_judged (fields_from file 24))

  pub no_head : has_head file ≡ false → parsed file ≡ bad
  no_head e = as_judged ∙ ap (λ (t : Bool). cond t (requested (head_of file 3 9 16) (grids_in (head_of file 3 9 16).search (fields_from file 24))) bad) e

-- ---- the ways through the code

-- There is one way to be refused.
pub only_bad : (r : Result Request BadFile) → IsErr r → r ≡ bad
only_bad (Ok request) e = never cc
only_bad (Err x) e = refl

-- The head was read.
pub record Headed (file : List ℕ) (h : Head) : Type 0 where
  pub begins : has_head file ≡ true
  pub reads : h ≡ head_of file 3 9 16

-- And then the grids were found.
pub record FoundAll (file : List ℕ) (h : Head) (g : Grids) : Type 0 where
  pub headed : Headed file h
  pub exact : grids_in h.search (fields_from file 24) ≡ Some g

module _ {file : List ℕ} {h : Head} where
  past_head : {found : Option Grids} → Headed file h → grids_in h.search (fields_from file 24) ≡ found → parsed file ≡ requested h found
  past_head {found} headed e =
      as_judged file
      ∙ ap (λ (t : Bool). cond t (requested (head_of file 3 9 16) (grids_in (head_of file 3 9 16).search (fields_from file 24))) bad) headed.begins
      ∙ ap (λ (k : Head). requested k (grids_in k.search (fields_from file 24))) (sym headed.reads)
      ∙ ap (requested h) e

  -- Whatever is found, the head has to fit.
  pub unfit : Headed file h → head_fits h ≡ false → parsed file ≡ bad
  unfit headed e = past_head headed refl ∙ refused (grids_in h.search (fields_from file 24))
    where
      refused : (found : Option Grids) → requested h found ≡ bad
      refused (Some g) = simp e
      refused None = refl

  -- A number that is no search's is refusal 8.
  pub no_search : Headed file h → leb 1 h.search && leb h.search 8 ≡ false → parsed file ≡ bad
  unfolding head_fits
  no_search headed e = unfit headed (simp e)

  -- Grids that are not exactly the search's are refusal 8.
  pub breached_grids : Headed file h → grids_in h.search (fields_from file 24) ≡ None → parsed file ≡ bad
  breached_grids headed e = past_head headed e

  module _ {g : Grids} (all : FoundAll file h g) where
    pub unfit_grids : head_fits h ≡ true → grids_fit g ≡ false → parsed file ≡ bad
    unfit_grids fit unfit = past_head all.headed all.exact ∙ simp (fit, unfit)

    pub good : head_fits h ≡ true → grids_fit g ≡ true → parsed file ≡ Ok (as_request (search_of h.search) h g)
    good fit small = past_head all.headed all.exact ∙ simp (fit, small)
