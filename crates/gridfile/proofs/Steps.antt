-- The grids after the head, found one by one in the order of their tags. Assumes nothing.
use mathlib.Core.Path.{◌≡◌, refl, sym, ap, ◌∙◌}
use mathlib.Core.Bool.{Bool, true, false, cond, ◌&&◌}
use mathlib.Core.List.{List, [], ◌∷◌, map}
use Prim.Native.Nat.{ℕ, ◌+◌, ◌≤◌, ◌<◌}
use native.Mathlib.Omega.{arith}
use borrow.Author.Tests.{eqb-false, eqb-true, eq-eqb, ne_eqb}
use lib.Dec.{eqb}
use lib.ListN.{length}
use Rattle.rules.specs.Sizes.{any}
use Rattle.gridfile.specs.Fields.{Part, part, Field, field, Fields, cut, whole, and_then, fields_from, tags, content_of}
use Rattle.gridfile.specs.Request.{Grids, grids_of, same, by_tag}
use Rattle.gridfile.specs.Lookups.{field_at, Has, has_of, then_next, next_grid, grids_in}
use Rattle.std.proofs.Common.{Option, Some, None}
use Rattle.std.proofs.lemmas.Option.{some_pair_parts}
use Rattle.rules.proofs.Tests.{never}
use Rattle.gridfile.proofs.Choices.{by_cases, same_is, for_grids}
use Rattle.gridfile.proofs.Places.{look, looked_for, some_left, none_left}

contents : List Field → List Part
contents fields = map (λ (f : Field). f.content) fields

-- Fields of these tags and contents.
paired : List ℕ → List Part → List Field
paired [] ps = []
paired (t ∷ ts) [] = []
paired (t ∷ ts) (p ∷ ps) = field t p ∷ paired ts ps

paired_back : (fields : List Field) → paired (tags fields) (contents fields) ≡ fields
unfolding paired contents
paired_back [] = refl
paired_back (f ∷ fields) = ap (λ (rest : List Field). f ∷ rest) (paired_back fields)

-- What k makes of the contents of fields whose tags are exactly these.
abbrev exactly : List ℕ → (List Part → Option Grids) → Fields → Option Grids
exactly ts k cut = None
exactly ts k (whole fields) = cond (same (tags fields) ts) (k (contents fields)) None

abbrev sought : Option Part → (Part → Option Grids) → Option Grids
sought (Some p) k = k p
sought None k = None

abbrev pub all_of : Part → Part → Part → Part → Grids
all_of targets obstacles times values = record { targets = targets; obstacles = obstacles; times = times; values = values }

module _ (file : List ℕ) where
  -- The same, field by field.
  one_by_one : List ℕ → ℕ → (List Part → Option Grids) → Option Grids
  one_by_one [] at k = cond (eqb at (length file)) (k []) None
  one_by_one (t ∷ ts) at k = sought (field_at file at t) (λ p. one_by_one ts (p.start + p.len) (λ ps. k (p ∷ ps)))

  first_tag : (t : ℕ) (ts : List ℕ) (k : List Part → Option Grids) (p : Part) (w : Fields) → exactly (t ∷ ts) k (and_then (field t p) w) ≡ exactly ts (λ ps. k (p ∷ ps)) w
  unfolding same contents
  first_tag t ts k p cut = refl
  first_tag t ts k p (whole fields) = ap (λ (b : Bool). cond (b && same (tags fields) ts) (k (p ∷ contents fields)) None) (eq-eqb t t refl)

  other_tag : (t : ℕ) (ts : List ℕ) (k : List Part → Option Grids) (f : Field) (w : Fields) → eqb f.tag t ≡ false → exactly (t ∷ ts) k (and_then f w) ≡ None
  unfolding same contents
  other_tag t ts k f cut e = refl
  other_tag t ts k f (whole fields) e = ap (λ (b : Bool). cond (b && same (tags fields) ts) (k (f.content ∷ contents fields)) None) e

  too_many : (k : List Part → Option Grids) (f : Field) (w : Fields) → exactly [] k (and_then f w) ≡ None
  unfolding same
  too_many k f cut = refl
  too_many k f (whole fields) = refl

  nothing_more : (at : ℕ) (k : List Part → Option Grids) → at ≤ length file → exactly [] k (fields_from file at) ≡ cond (eqb at (length file)) (k []) None
  unfolding same contents
  nothing_more at k within =
      by_cases (exactly [] k (fields_from file at) ≡ cond (eqb at (length file)) (k []) None) (eqb at (length file))
      (λ e. let end = eqb-true at (length file) e in ap (λ (w : Fields). exactly [] k w) (none_left file at (omega arith)) ∙ sym (ap (λ (b : Bool). cond b (k []) None) e))
      (λ e. let apart = eqb-false at (length file) e in
      some_left file at (λ w. exactly [] k w ≡ None) (less apart) refl (too_many k) ∙ sym (ap (λ (b : Bool). cond b (k []) None) e))
    where
      less : (at ≡ length file → ⊥) → at < length file
      less apart = omega arith

  none_tagged : (t : ℕ) (ts : List ℕ) (k : List Part → Option Grids) → exactly (t ∷ ts) k (whole []) ≡ None
  unfolding same
  none_tagged t ts k = refl

  -- To find the fields one by one is to have exactly these. Proof: by the tags; the first of them is looked for at the place, and either it stands there and
  -- the others are looked for after it, or something else comes, which neither way accepts.
  found_one_by_one : (ts : List ℕ) (at : ℕ) (k : List Part → Option Grids) → at ≤ length file → exactly ts k (fields_from file at) ≡ one_by_one ts at k
  unfolding one_by_one
  found_one_by_one [] at k within = nothing_more at k within
  found_one_by_one (t ∷ ts) at k within =
      look file at t (λ s w. exactly (t ∷ ts) k w ≡ sought s (λ p. one_by_one ts (p.start + p.len) (λ ps. k (p ∷ ps))))
      (λ n room. first_tag t ts k (part (at + 3) n) (fields_from file (at + 3 + n)) ∙ found_one_by_one ts (at + 3 + n) (λ ps. k (part (at + 3) n ∷ ps)) room)
      (none_tagged t ts k)
      refl
      (λ f rest e. other_tag t ts k f rest e)

  -- ---- the four grids

  -- A grid that the search has is looked for at the place, one that it has not is empty.
  unfoldable pub then_grid : Bool → ℕ → ℕ → (Part → ℕ → Option Grids) → Option Grids
  then_grid true tag at k = sought (field_at file at tag) (λ p. k p (p.start + p.len))
  then_grid false tag at k = k (part 0 0) at

  -- The four of them, one after the other, up to the file's end.
  abbrev pub at_end : Grids → ℕ → Option Grids
  at_end grids end = cond (eqb end (length file)) (Some grids) None

  abbrev pub then_07 : Has → Part → Part → Part → ℕ → Option Grids
  then_07 has targets obstacles times at = then_grid has.values 0x07 at (λ values. at_end (all_of targets obstacles times values))

  abbrev pub then_06 : Has → Part → Part → ℕ → Option Grids
  then_06 has targets obstacles at = then_grid has.times 0x06 at (then_07 has targets obstacles)

  abbrev pub then_05 : Has → Part → ℕ → Option Grids
  then_05 has targets at = then_grid has.obstacles 0x05 at (then_06 has targets)

  abbrev pub steps : Has → ℕ → Option Grids
  steps has at = then_grid has.targets 0x04 at (then_05 has)

  abbrev placed : List ℕ → List Part → Option Grids
  placed ts ps = Some (by_tag (paired ts ps))

  -- Row by row of the table, the steps are those of the tags in it.
  in_steps : (search at : ℕ) → one_by_one (grids_of search) at (placed (grids_of search)) ≡ steps (has_of (grids_of search)) at
  unfolding one_by_one then_grid paired content_of any
  in_steps search at = for_grids (λ ts. one_by_one ts at (placed ts) ≡ steps (has_of ts) at) refl refl refl refl refl refl refl search

  -- Fields of exactly these tags are found by tag as they are found by place.
  placed_exactly : (ts : List ℕ) (w : Fields) (search : ℕ) → grids_of search ≡ ts → grids_in search w ≡ exactly ts (placed ts) w
  unfolding grids_in
  placed_exactly ts cut search e = refl
  placed_exactly ts (whole fields) search e =
      ap (λ (us : List ℕ). cond (same (tags fields) us) (Some (by_tag fields)) None) e
      ∙ by_cases (cond (same (tags fields) ts) (Some (by_tag fields)) None ≡ cond (same (tags fields) ts) (placed ts (contents fields)) None) (same (tags fields) ts)
      (λ same_tags. ap (λ (fs : List Field). cond (same (tags fields) ts) (Some (by_tag fs)) None)
      (sym (paired_back fields) ∙ ap (λ (us : List ℕ). paired us (contents fields)) (same_is (tags fields) ts same_tags)))
      (λ differ. ap (λ (b : Bool). cond b (Some (by_tag fields)) None) differ ∙ sym (ap (λ (b : Bool). cond b (placed ts (contents fields)) None) differ))

  -- The code's steps give the grids of the fields from a place on.
  stepped : (search at : ℕ) → at ≤ length file → grids_in search (fields_from file at) ≡ steps (has_of (grids_of search)) at
  stepped search at within =
      placed_exactly (grids_of search) (fields_from file at) search refl
      ∙ found_one_by_one (grids_of search) at (placed (grids_of search)) within
      ∙ in_steps search at

  -- ---- what each step of the code shows

  abbrev after_next : Option (Part × ℕ) → (Part → ℕ → Option Grids) → Option Grids
  after_next (Some (p, n)) k = k p n
  after_next None k = None

  looked : (s : Option Part) (k : Part → ℕ → Option Grids) → sought s (λ p. k p (p.start + p.len)) ≡ after_next (then_next s) k
  looked (Some p) k = refl
  looked None k = refl

  step : (has : Bool) (tag at : ℕ) (k : Part → ℕ → Option Grids) {r : Option (Part × ℕ)} → next_grid file at tag has ≡ r → then_grid has tag at k ≡ after_next r k
  unfolding then_grid
  step true tag at k e = looked (field_at file at tag) k ∙ ap (λ (r : Option (Part × ℕ)). after_next r k) e
  step false tag at k e = ap (λ (r : Option (Part × ℕ)). after_next r k) e

  -- A grid that is found ends within the file.
  ends_within : (at tag : ℕ) (has : Bool) {p : Part} {n : ℕ} → at ≤ length file → next_grid file at tag has ≡ Some (p, n) → n ≤ length file
  ends_within at tag false {p} {n} within e = let same = some_pair_parts (part 0 0) p at n e in omega arith
  ends_within at tag true {p} {n} within e =
      looked_for file at tag (λ s. then_next s ≡ Some (p, n) → n ≤ length file)
      (λ m room e'. let same = some_pair_parts (part (at + 3) m) p (at + 3 + m) n e' in omega arith)
      (λ e'. never cc)
      e

-- What is found from a place on is what the rest of the steps finds from another.
pub record Reached (file : List ℕ) (search from : ℕ) (rest : ℕ → Option Grids) (at : ℕ) : Type 0 where
  pub comes : grids_in search (fields_from file from) ≡ rest at
  pub within : at ≤ length file

module _ {file : List ℕ} {search from : ℕ} where
  pub begin : (has : Has) → from ≤ length file → has ≡ has_of (grids_of search) → Reached file search from (steps file has) from
  begin has within is = record { comes = stepped file search from within ∙ ap (λ (h : Has). steps file h from) (sym is); within = within }

  module _ (has : Bool) (tag : ℕ) (rest : Part → ℕ → Option Grids) {at : ℕ} (reached : Reached file search from (λ n. then_grid file has tag n rest) at) where
    pub on : {p : Part} {n : ℕ} → next_grid file at tag has ≡ Some (p, n) → Reached file search from (rest p) n
    on e = record { comes = reached.comes ∙ step file has tag at rest e; within = ends_within file at tag has reached.within e }

    pub breach : next_grid file at tag has ≡ None → grids_in search (fields_from file from) ≡ None
    breach e = reached.comes ∙ step file has tag at rest e

  module _ (grids : Grids) {end : ℕ} (reached : Reached file search from (at_end file grids) end) where
    pub bytes_after : (end ≡ length file → ⊥) → grids_in search (fields_from file from) ≡ None
    bytes_after more = reached.comes ∙ simp (ne_eqb end (length file) more)

    pub all_found : end ≡ length file → grids_in search (fields_from file from) ≡ Some grids
    all_found ends = reached.comes ∙ simp (eq-eqb end (length file) ends)
