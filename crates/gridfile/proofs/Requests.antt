-- What a program may rely on in a request: it is proved from the definition, so that it holds of whatever meets the promise. Assumes nothing.
use mathlib.Core.Path.{◌≡◌, refl, sym, subst, ◌∙◌}
use mathlib.Core.Bool.{Bool, true, ◌&&◌}
use mathlib.Core.List.{List, [], ◌∷◌}
use Prim.Native.Nat.{ℕ, zero, suc, ◌+◌, ◌*◌, ◌%◌, ◌≤◌}
use native.Mathlib.Omega.{arith}
use borrow.Author.Tests.{leb-true, leb-false, eqb-true}
use lib.Dec.{leb, eqb}
use lib.IntN.{pos}
use lib.Signed.{mag}
use lib.ListN.{length, drop, length-drop}
use Rattle.rules.specs.Sizes.{count}
use Rattle.gridfile.specs.Fields.{Part, part, Field, field, Fields, cut, whole, and_then, fields_after, fields_from, content_of, tags}
use Rattle.gridfile.specs.Request.{Head, Grids, Request, search_number, search_of, grids_of, same, by_tag, head_of, flags_fit, numbers_fit, most_file_cells, few_cells, head_fits, longest_field, small_bytes, small_floats, grids_fit, as_request, parsed}
use Rattle.gridfile.specs.Lookups.{has_head, grids_in}
use Rattle.std.proofs.Common.{Option, Some, None, Ok}
use Rattle.rules.proofs.Tests.{and_both, never}
use Rattle.gridfile.proofs.Choices.{by_cases, chosen_first, either, all_four}
use Rattle.gridfile.proofs.Places.{cut_short}
use Rattle.gridfile.proofs.SearchNumbers.{number_from, number_to}
use Rattle.gridfile.proofs.Heads.{requested, as_judged, head_within}

-- A part of the file ends within it.
abbrev pub Inside : List ℕ → Part → Type 0
Inside file p = p.start + p.len ≤ length file

-- A grid's part: inside the file, and of at most 4,096 bytes.
pub record BytesPart (file : List ℕ) (p : Part) : Type 0 where
  pub inside : Inside file p
  pub small : p.len ≤ longest_field

-- A float grid's: such a part, of a multiple of 4 bytes.
pub record FloatsPart (file : List ℕ) (p : Part) : Type 0 where
  pub bytes : BytesPart file p
  pub fours : p.len % 4 ≡ 0

pub record Usable (file : List ℕ) (r : Request) : Type 0 where
  pub search_from : 1 ≤ search_number r.search
  pub search_to : search_number r.search ≤ 8
  pub rows_natural : r.size.rows ≡ pos (mag r.size.rows)
  pub cols_natural : r.size.cols ≡ pos (mag r.size.cols)
  pub few : count r.size ≤ most_file_cells
  pub targets : BytesPart file r.grids.targets
  pub obstacles : BytesPart file r.grids.obstacles
  pub times : FloatsPart file r.grids.times
  pub values : FloatsPart file r.grids.values

-- ---- the parts are inside the file

-- Every field ends at n or before.
abbrev AllEnd : ℕ → List Field → Type 0
AllEnd n [] = Unit {0}
AllEnd n (f ∷ fields) = (f.content.start + f.content.len ≤ n) × AllEnd n fields

abbrev Ends : ℕ → Fields → Type 0
Ends n cut = Unit {0}
Ends n (whole fields) = AllEnd n fields

one_ends : (n : ℕ) (f : Field) (rest : Fields) → f.content.start + f.content.len ≤ n → Ends n rest → Ends n (and_then f rest)
one_ends n f cut ends others = tt
one_ends n f (whole fields) ends others = (ends, others)

-- The fields of bytes that start at a place end where the bytes do. Proof: by the bytes; a field whose content is longer than what is left is cut.
fields_end : (n left at : ℕ) (bytes : List ℕ) → at + length bytes ≤ n → Ends n (fields_after left at bytes)
unfolding fields_after
fields_end n zero at [] room = tt
fields_end n zero at (tag ∷ []) room = tt
fields_end n zero at (tag ∷ low ∷ []) room = tt
fields_end n zero at (tag ∷ low ∷ high ∷ bytes) room =
    let len = low + 256 * high in
    let f = field tag (part (at + 3) len) in
    let rest : Ends n (fields_after len (at + 3) bytes) = fields_end n len (at + 3) bytes (omega arith) in
    by_cases (Ends n (and_then f (fields_after len (at + 3) bytes))) (leb len (length bytes))
    (λ e. let long = leb-true len (length bytes) e in one_ends n f (fields_after len (at + 3) bytes) (omega arith) rest)
    (λ e. subst (λ (w : Fields). Ends n (and_then f w)) (sym (cut_short len (at + 3) bytes (leb-false len (length bytes) e))) tt)
fields_end n (suc left) at [] room = tt
fields_end n (suc left) at (b ∷ bytes) room = fields_end n left (suc at) bytes (omega arith)

content_ends : (n tag : ℕ) (fields : List Field) → AllEnd n fields → (content_of tag fields).start + (content_of tag fields).len ≤ n
unfolding content_of
content_ends n tag [] all = omega arith
content_ends n tag (f ∷ fields) all = either (λ (p : Part). p.start + p.len ≤ n) (eqb f.tag tag) all.0 (content_ends n tag fields all.1)

-- Each grid's part ends within the file.
pub record AllInside (file : List ℕ) (g : Grids) : Type 0 where
  pub targets : Inside file g.targets
  pub obstacles : Inside file g.obstacles
  pub times : Inside file g.times
  pub values : Inside file g.values

-- Grids that were found are fields, none of them cut, that have exactly the search's tags, and each grid is the one of its tag.
pub record FoundIn (search : ℕ) (w : Fields) (g : Grids) : Type 0 where
  pub fields : List Field
  pub uncut : w ≡ whole fields
  pub exact : same (tags fields) (grids_of search) ≡ true
  pub by_tags : by_tag fields ≡ g

pub exactly_found : (search : ℕ) (w : Fields) (g : Grids) → grids_in search w ≡ Some g → FoundIn search w g
unfolding grids_in
exactly_found search cut g e = never cc
exactly_found search (whole fields) g e =
    let passed = chosen_first (same (tags fields) (grids_of search)) e (λ is. never cc) in
    let is : Some (by_tag fields) ≡ Some g = passed.1 in
    record { fields = fields; uncut = refl; exact = passed.0; by_tags = cc }

found_inside : (file : List ℕ) (search : ℕ) (w : Fields) (g : Grids) → Ends (length file) w → grids_in search w ≡ Some g → AllInside file g
found_inside file search w g ends e =
    let found = exactly_found search w g e in
    let all = subst (Ends (length file)) found.uncut ends in
    subst (AllInside file) found.by_tags (record {
      targets = content_ends (length file) 0x04 found.fields all;
      obstacles = content_ends (length file) 0x05 found.fields all;
      times = content_ends (length file) 0x06 found.fields all;
      values = content_ends (length file) 0x07 found.fields all;
    })

-- ---- a file that is accepted

-- The lengths that the grids of a file may have.
pub record SmallGrids (g : Grids) : Type 0 where
  pub targets : g.targets.len ≤ longest_field
  pub obstacles : g.obstacles.len ≤ longest_field
  pub times : g.times.len ≤ longest_field
  pub values : g.values.len ≤ longest_field
  pub times_fours : g.times.len % 4 ≡ 0
  pub values_fours : g.values.len % 4 ≡ 0

-- Grids that fit are small.
pub fit_are_small : (g : Grids) → grids_fit g ≡ true → SmallGrids g
unfolding grids_fit
fit_are_small g fit =
    let small = all_four (small_bytes g.targets) (small_bytes g.obstacles) (small_floats g.times) (small_floats g.values) fit in
    let times = and_both (small_bytes g.times) (eqb (g.times.len % 4) 0) small.2 in
    let values = and_both (small_bytes g.values) (eqb (g.values.len % 4) 0) small.3 in
    record {
      targets = leb-true _ _ small.0;
      obstacles = leb-true _ _ small.1;
      times = leb-true _ _ times.0;
      values = leb-true _ _ values.0;
      times_fours = eqb-true _ _ times.1;
      values_fours = eqb-true _ _ values.1;
    }

in_range : (a b c d e f : Bool) → a && b && c && d && e && f ≡ true → (a ≡ true) × (b ≡ true)
in_range a b c d e f all = and_both a b (all_four (a && b) c d e (and_both (a && b && c && d && e) f all).0).0

module _ (file : List ℕ) where
  abbrev head : Head
  head = head_of file 3 9 16

  -- How a request came about.
  pub record Came (r : Request) : Type 0 where
    pub begins : has_head file ≡ true
    pub exact : grids_in head.search (fields_from file 24) ≡ Some r.grids
    pub fits : head_fits head ≡ true
    pub small : grids_fit r.grids ≡ true
    pub is : r ≡ as_request (search_of head.search) head r.grids

  came_from : (r : Request) (found : Option Grids) → has_head file ≡ true → grids_in head.search (fields_from file 24) ≡ found → requested head found ≡ Ok r → Came r
  came_from r None begins exact e = never cc
  came_from r (Some g) begins exact e =
      let passed = chosen_first (head_fits head && grids_fit g) e (λ is. never cc) in
      let both = and_both (head_fits head) (grids_fit g) passed.0 in
      let is : Ok (as_request (search_of head.search) head g) ≡ Ok r = passed.1 in
      let is' : as_request (search_of head.search) head g ≡ r = cc in
      subst Came is' (record { begins = begins; exact = exact; fits = both.0; small = both.1; is = refl })

  pub came : (r : Request) → parsed file ≡ Ok r → Came r
  came r e =
      let passed = chosen_first (has_head file) (sym (as_judged file) ∙ e) (λ is. never cc) in
      came_from r (grids_in head.search (fields_from file 24)) passed.0 refl passed.1

  -- The tests that the head passed.
  head_passed : head_fits head ≡ true → (1 ≤ head.search) × (head.search ≤ 8) × (head.rows * head.cols ≤ most_file_cells)
  unfolding head_fits
  head_passed e =
      let h = head in
      let flags = flags_fit h.search h.diagonals h.adjacent in
      let numbers = numbers_fit h.search h.cell_size h.limit in
      let parts = and_both (flags && numbers) (few_cells h.rows h.cols) e in
      let range = in_range (leb 1 h.search) (leb h.search 8) (leb h.diagonals 1) (leb h.adjacent 1) _ _ (and_both flags numbers parts.0).0 in
      (leb-true 1 h.search range.0, leb-true h.search 8 range.1, leb-true (h.rows * h.cols) most_file_cells parts.1)

  -- What a program may rely on.
  pub usable : (r : Request) → parsed file ≡ Ok r → Usable file r
  usable r e =
      let c = came r e in
      let g = r.grids in
      let ends = fields_end (length file) 0 24 (drop 24 file) (let room = head_within file c.begins in omega (arith, length-drop 24 file)) in
      let inside = found_inside file head.search (fields_from file 24) g ends c.exact in
      let numbers = head_passed c.fits in
      let small = fit_are_small g c.small in
      record {
        search_from = number_from r.search;
        search_to = number_to r.search;
        rows_natural = subst (λ (q : Request). q.size.rows ≡ pos (mag q.size.rows)) (sym c.is) refl;
        cols_natural = subst (λ (q : Request). q.size.cols ≡ pos (mag q.size.cols)) (sym c.is) refl;
        few = subst (λ (q : Request). count q.size ≤ most_file_cells) (sym c.is) numbers.2;
        targets = record { inside = inside.targets; small = small.targets };
        obstacles = record { inside = inside.obstacles; small = small.obstacles };
        times = record { bytes = record { inside = inside.times; small = small.times }; fours = small.times_fours };
        values = record { bytes = record { inside = inside.values; small = small.values }; fours = small.values_fours };
      }
