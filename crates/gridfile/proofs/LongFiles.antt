-- A file that keeps the form has at most 12,321 bytes: a program that has read more need not read on. Assumes nothing.
use mathlib.Core.Path.{◌≡◌, refl, ap, subst, ◌∙◌}
use mathlib.Core.Bool.{Bool, true, false, cond}
use mathlib.Core.List.{List, [], ◌∷◌}
use Prim.Native.Nat.{ℕ, zero, suc, ◌+◌, ◌*◌, ◌≤◌, ◌<◌}
use native.Mathlib.Omega.{arith}
use borrow.Author.Tests.{eq-eqb}
use lib.Dec.{eqb}
use lib.ListN.{length, drop, length-drop}
use Rattle.gridfile.specs.Fields.{Part, part, Field, field, Fields, cut, whole, and_then, fields_after, fields_from, content_of, tags}
use Rattle.gridfile.specs.Request.{Grids, Request, BadFile, bad, grids_of, by_tag, longest_field, grids_fit, parsed}
use Rattle.gridfile.specs.Lookups.{grids_in}
use Rattle.std.proofs.Common.{Some, Result, Ok, Err}
use Rattle.rules.proofs.Tests.{never}
use Rattle.gridfile.proofs.Choices.{same_is, for_grids}
use Rattle.gridfile.proofs.Heads.{head_within}
use Rattle.gridfile.proofs.Requests.{exactly_found, fit_are_small, came}

-- ---- bytes and fields

-- The bytes of fields: three of the head and those of the content, each.
abbrev bytes_of : List Field → ℕ
bytes_of [] = 0
bytes_of (f ∷ fields) = 3 + f.content.len + bytes_of fields

-- So many bytes, of which the first belong to the field before.
abbrev Spans : ℕ → ℕ → Fields → Type 0
Spans left long cut = Unit {0}
Spans left long (whole fields) = long ≡ left + bytes_of fields

one_more : (left long : ℕ) (w : Fields) → Spans left long w → Spans (suc left) (suc long) w
one_more left long cut spans = tt
one_more left long (whole fields) spans = omega arith

with_field : (tag at len long : ℕ) (w : Fields) → Spans len long w → Spans 0 (suc (suc (suc long))) (and_then (field tag (part at len)) w)
with_field tag at len long cut spans = tt
with_field tag at len long (whole fields) spans = omega arith

-- Bytes are those of their fields. Proof: by the bytes.
spanned : (left at : ℕ) (bytes : List ℕ) → Spans left (length bytes) (fields_after left at bytes)
unfolding fields_after
spanned zero at [] = omega arith
spanned zero at (tag ∷ []) = tt
spanned zero at (tag ∷ low ∷ []) = tt
spanned zero at (tag ∷ low ∷ high ∷ bytes) =
    let len = low + 256 * high in
    with_field tag (at + 3) len (length bytes) (fields_after len (at + 3) bytes) (spanned len (at + 3) bytes)
spanned (suc left) at [] = tt
spanned (suc left) at (b ∷ bytes) = one_more left (length bytes) (fields_after left (suc at) bytes) (spanned left (suc at) bytes)

-- ---- fields whose contents are small

-- What each of these tags finds is small.
abbrev SmallContents : List Field → List ℕ → Type 0
SmallContents fields [] = Unit {0}
SmallContents fields (a ∷ more) = ((content_of a fields).len ≤ longest_field) × SmallContents fields more

abbrev Apart : ℕ → List ℕ → Type 0
Apart a [] = Unit {0}
Apart a (b ∷ more) = (eqb a b ≡ false) × Apart a more

abbrev Distinct : List ℕ → Type 0
Distinct [] = Unit {0}
Distinct (a ∷ more) = Apart a more × Distinct more

module _ (f : Field) (fields : List Field) (a : ℕ) (is : f.tag ≡ a) where
  first_content : content_of a (f ∷ fields) ≡ f.content
  unfolding content_of
  first_content = ap (λ (t : Bool). cond t f.content (content_of a fields)) (eq-eqb f.tag a is)

  later_content : (b : ℕ) → eqb a b ≡ false → content_of b (f ∷ fields) ≡ content_of b fields
  unfolding content_of
  later_content b other = ap (λ (t : Bool). cond t f.content (content_of b fields)) (ap (λ (k : ℕ). eqb k b) is ∙ other)

  rest_small : (more : List ℕ) → Apart a more → SmallContents (f ∷ fields) more → SmallContents fields more
  rest_small [] apart small = tt
  rest_small (b ∷ more) apart small = (subst (λ (p : Part). p.len ≤ longest_field) (later_content b apart.0) small.0, rest_small more apart.1 small.1)

-- The bytes of the longest grid field: three of the head and those of the content.
abbrev longest_grid : ℕ
longest_grid = 3 + longest_field

-- Fields with distinct tags have at most that many bytes each. Proof: by the fields; what the tag of the first finds is the first's content,
-- and what another tag finds is among the others.
few_bytes : (fields : List Field) (ts : List ℕ) → tags fields ≡ ts → Distinct ts → SmallContents fields ts → bytes_of fields ≤ longest_grid * length ts
few_bytes [] [] e apart small = omega arith
few_bytes [] (a ∷ more) e apart small = never cc
few_bytes (f ∷ fields) [] e apart small = never cc
few_bytes (f ∷ fields) (a ∷ more) e apart small =
    let is : f.tag ≡ a = cc in
    let are : tags fields ≡ more = cc in
    let first = subst (λ (p : Part). p.len ≤ longest_field) (first_content f fields a is) small.0 in
    let rest = few_bytes fields more are apart.1 (rest_small f fields a is more apart.0 small.1) in
    omega arith

-- The grids of a search are at most three.
grids_short :
    (fields : List Field) (search : ℕ) → tags fields ≡ grids_of search
    → (content_of 0x04 fields).len ≤ longest_field → (content_of 0x05 fields).len ≤ longest_field → (content_of 0x06 fields).len ≤ longest_field → (content_of 0x07 fields).len ≤ longest_field
    → bytes_of fields ≤ 3 * longest_grid
grids_short fields search are t o ti v =
    for_grids (λ ts. tags fields ≡ ts → bytes_of fields ≤ 3 * longest_grid)
    (λ e. let few = few_bytes fields _ e (tt, tt) (t, tt) in omega arith)
    (λ e. let few = few_bytes fields _ e ((refl, tt), (tt, tt)) (t, (o, tt)) in omega arith)
    (λ e. let few = few_bytes fields _ e ((refl, tt), (tt, tt)) (t, (ti, tt)) in omega arith)
    (λ e. let few = few_bytes fields _ e ((refl, tt), (tt, tt)) (t, (v, tt)) in omega arith)
    (λ e. let few = few_bytes fields _ e ((refl, (refl, tt)), ((refl, tt), (tt, tt))) (t, (ti, (v, tt))) in omega arith)
    (λ e. let few = few_bytes fields _ e ((refl, tt), (tt, tt)) (ti, (v, tt)) in omega arith)
    (λ e. let few = few_bytes fields _ e tt tt in omega arith)
    search are

-- ---- files

found_short : (search long : ℕ) (w : Fields) (g : Grids) → Spans 0 long w → grids_in search w ≡ Some g → grids_fit g ≡ true → long ≤ 3 * longest_grid
found_short search long w g spans e fit =
    let found = exactly_found search w g e in
    let fields = found.fields in
    let small = fit_are_small (by_tag fields) (ap grids_fit found.by_tags ∙ fit) in
    let short = grids_short fields search (same_is (tags fields) (grids_of search) found.exact) small.targets small.obstacles small.times small.values in
    let spanned_by : long ≡ 0 + bytes_of fields = subst (Spans 0 long) found.uncut spans in
    omega arith

-- The longest file that keeps the form: 24 bytes, and three grid fields of 3 + 4,096.
abbrev pub longest_file : ℕ
longest_file = 24 + 3 * longest_grid

pub good_short : (file : List ℕ) (r : Request) → parsed file ≡ Ok r → length file ≤ longest_file
good_short file r e =
    let c = came file r e in
    let head = head_within file c.begins in
    let rest = found_short _ (length (drop 24 file)) (fields_from file 24) r.grids (spanned 0 24 (drop 24 file)) c.exact c.small in
    let all = length-drop 24 file in
    omega arith

-- A longer one is refusal 8.
pub too_long : (file : List ℕ) → longest_file < length file → parsed file ≡ bad
too_long file long = go (parsed file) refl
  where
    go : (p : Result Request BadFile) → parsed file ≡ p → p ≡ bad
    go (Ok r) e = let short = good_short file r e in absurd (omega arith)
    go (Err x) e = refl
