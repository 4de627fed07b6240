-- The neighbours are tried as the table leads to them: what the code does to the buffers is the machine's scan of all steps. Assumes nothing.
use mathlib.Core.Bool.{Bool, true, false}
use mathlib.Core.List.{List, [], ◌∷◌, ◌++◌, append-nil, append_assoc}
use mathlib.Core.Logic.{inl}
use mathlib.Core.Path.{◌≡◌, refl, sym, ap, ◌∙◌}
use Prim.Native.Nat.{ℕ, ◌+◌, ◌-◌, ◌≤◌, ◌<◌}
use native.Mathlib.Omega.{arith}
use borrow.Author.Tests.{leb-true, leb-false}
use lib.Dec.{leb}
use lib.ListN.{get_or, take, drop}
use lib.Seq.{take_all, get_or-take, get_or-drop}
use Rattle.std.specs.Prelude.{Option, Some, None, option_to_list}
use Rattle.cells.specs.Neighbours.{CellOf, place_of}
use Rattle.cells.specs.Storing.{Stepping, Leads}
use Rattle.cells.specs.declared.neighbours.Place.{Place}
use Rattle.cells.proofs.Edges.{steps}
use Rattle.cells.proofs.NeighbourLists.{one_more}
use Rattle.cells.proofs.Storing.{stepping}
use Rattle.fifo.specs.Machine.{scan}
use Rattle.fifo.proofs.Induction.{scan_append}
use Rattle.rules.specs.Cells.{offsets, neighbour, neighbours, keep}
use Rattle.rules.specs.Values.{Carried}
use Rattle.rules.proofs.Neighbours.{neighbours_inside}
use Rattle.spread.specs.declared.search.Search.{Search}
use Rattle.spread.specs.declared.relax.Left.{Left}
use Rattle.spread.specs.Steps.{Terrain, Numbers, straight_steps, diagonal_steps, steps_by, all_steps}
use Rattle.spread.specs.Buffers.{Buffers, Good, Does, scanning}
use Rattle.spread.specs.Loop.{left_label, Entering, ScanningAll, EnteringThere}
use Rattle.spread.proofs.Scans.{does_both, steps_of_both, none_tried}

-- ---- one offset

no_steps : (search : Search) (ground : Terrain) (diagonally : Bool) (u : ℕ) → steps_by search ground diagonally u [] ≡ []
unfolding straight_steps diagonal_steps keep
no_steps search ground true u = refl
no_steps search ground false u = refl

module _ {search : Search} {by : Numbers} {ground : Terrain} {u : ℕ} {there : Option ℕ} {b : Buffers} (enters : EnteringThere search by ground u there b) where
  pub entering_there : {v : ℕ} → there ≡ Some v → Entering search by ground u v b
  entering_there {v} is = record {
    numbered = enters.scans.numbered;
    tries = record { good = enters.scans.good; inside = enters.inside v is };
    setting = enters.scans.setting;
    source = enters.scans.source;
  }

-- Where something stands there, that was tried, and where nothing does, nothing.
module _ (search : Search) (ground : Terrain) (left : Left) (diagonally : Bool) {there : Option ℕ} where
  pub there_tried :
      {v : ℕ} {before after : Buffers} → there ≡ Some v
      → Does search (scanning (left_label search left) (steps_by search ground diagonally left.cell (v ∷ []))) before after
      → Does search (scanning (left_label search left) (steps_by search ground diagonally left.cell (option_to_list there))) before after
  there_tried is does = rw is does

  pub none_there :
      {b : Buffers} → there ≡ None → Good search b
      → Does search (scanning (left_label search left) (steps_by search ground diagonally left.cell (option_to_list there))) b b
  none_there is = none_tried search left (ap (λ n. steps_by search ground diagonally left.cell (option_to_list n)) is ∙ no_steps search ground diagonally left.cell)

-- ---- one offset more

module _ (search : Search) (ground : Terrain) (u : ℕ) where
  -- The steps that the first k offsets lead to.
  abbrev pub first_steps : ℕ → List (ℕ × (Carried → Carried))
  first_steps k =
      straight_steps search ground u (neighbours search.size u (take k (take 4 offsets)))
      ++ diagonal_steps search ground u (neighbours search.size u (take (k - 4) (drop 4 offsets)))

  abbrev straight_to : ℕ → List (ℕ × (Carried → Carried))
  straight_to k = straight_steps search ground u (neighbours search.size u (take k (take 4 offsets)))

  abbrev diagonal_to : ℕ → List (ℕ × (Carried → Carried))
  diagonal_to k = diagonal_steps search ground u (neighbours search.size u (take k (drop 4 offsets)))

  no_diagonal : (n : ℕ) → n ≡ 0 → diagonal_to n ≡ []
  unfolding neighbours diagonal_steps keep
  no_diagonal n none = rw none

  straight_next : (k : ℕ) → k < 4 → straight_to (k + 1) ≡ straight_to k ++ straight_steps search ground u (neighbour search.size u (get_or offsets k []))
  straight_next k few =
      ap (straight_steps search ground u) (one_more search.size u (take 4 offsets) k few)
      ∙ steps_of_both search ground u false (neighbours search.size u (take k (take 4 offsets))) (neighbour search.size u (get_or (take 4 offsets) k []))
      ∙ ap (λ o. straight_to k ++ straight_steps search ground u (neighbour search.size u o)) (get_or-take 4 offsets k [] few)

  diagonal_next :
      (k j : ℕ) → k ≡ 4 + j → j < 4 → diagonal_to (j + 1) ≡ diagonal_to j ++ diagonal_steps search ground u (neighbour search.size u (get_or offsets k []))
  diagonal_next k j is few =
      ap (diagonal_steps search ground u) (one_more search.size u (drop 4 offsets) j few)
      ∙ steps_of_both search ground u true (neighbours search.size u (take j (drop 4 offsets))) (neighbour search.size u (get_or (drop 4 offsets) j []))
      ∙ ap (λ o. diagonal_to j ++ diagonal_steps search ground u (neighbour search.size u o)) (get_or-drop 4 offsets j [] ∙ ap (λ n. get_or offsets n []) (sym is))

  all_four : (k : ℕ) → 4 ≤ k → straight_to k ≡ straight_to 4
  all_four k most = ap (λ l. straight_steps search ground u (neighbours search.size u l)) (take_all k (take 4 offsets) most)

  next_steps :
      (k : ℕ) → k < 8 → (diagonally : Bool) → leb 4 k ≡ diagonally
      → first_steps (k + 1) ≡ first_steps k ++ steps_by search ground diagonally u (neighbour search.size u (get_or offsets k []))
  next_steps k below false is =
      let few = leb-false 4 k is in
      let here = straight_steps search ground u (neighbour search.size u (get_or offsets k [])) in
      ap (λ l. straight_to (k + 1) ++ l) (no_diagonal (k + 1 - 4) (omega arith))
      ∙ append-nil (straight_to (k + 1))
      ∙ straight_next k few
      ∙ ap (λ l. l ++ here) (sym (ap (λ l. straight_to k ++ l) (no_diagonal (k - 4) (omega arith)) ∙ append-nil (straight_to k)))
  next_steps k below true is =
      let most = leb-true 4 k is in
      let here = diagonal_steps search ground u (neighbour search.size u (get_or offsets k [])) in
      let later : k + 1 - 4 ≡ k - 4 + 1 = omega arith in
      ap (λ l. l ++ diagonal_to (k + 1 - 4)) (all_four (k + 1) (omega arith) ∙ sym (all_four k most))
      ∙ ap (λ n. straight_to k ++ diagonal_to n) later
      ∙ ap (λ l. straight_to k ++ l) (diagonal_next k (k - 4) (omega arith) (omega arith))
      ∙ sym (append_assoc (straight_to k) (diagonal_to (k - 4)) here)

module _ (search : Search) (ground : Terrain) (left : Left) where
  pub none_led : {b : Buffers} → Good search b → Does search (scanning (left_label search left) (first_steps search ground left.cell 0)) b b
  unfolding neighbours straight_steps diagonal_steps keep
  none_led = none_tried search left refl

  pub one_led :
      {before between after : Buffers} {vs : List ℕ} (k : ℕ) → k < 8 → vs ≡ neighbour search.size left.cell (get_or offsets k [])
      → Does search (scanning (left_label search left) (first_steps search ground left.cell k)) before between
      → Does search (scanning (left_label search left) (steps_by search ground (leb 4 k) left.cell vs)) between after
      → Does search (scanning (left_label search left) (first_steps search ground left.cell (k + 1))) before after
  one_led {vs = vs} k below is does does_then =
      let so_far = first_steps search ground left.cell k in
      let more = steps_by search ground (leb 4 k) left.cell vs in
      does_both does does_then (λ net t.
      sym (scan_append net (left_label search left) so_far more t)
      ∙ ap (λ l. scan net (left_label search left) l t)
      (ap (λ l. so_far ++ steps_by search ground (leb 4 k) left.cell l) is ∙ sym (next_steps search ground left.cell k below (leb 4 k) refl)))

  pub all_led :
      {before after : Buffers} (k : ℕ) → k ≡ 8
      → Does search (scanning (left_label search left) (first_steps search ground left.cell k)) before after
      → Does search (scanning (left_label search left) (all_steps search ground left.cell)) before after
  all_led k is does = rw is at does

-- ---- what the callees ask

module _ {search : Search} {by : Numbers} {ground : Terrain} {u : ℕ} {first b : Buffers} (scans : ScanningAll search by ground u first) (good : Good search b) where
  pub cell_of : CellOf search.size u
  cell_of = record { bounds = scans.setting.bounds; below = scans.source }

  module _ {place : Place} (is_place : place ≡ place_of search.size u) (k : ℕ) (below : k < 8) where
    pub from_place : Stepping search.size place (get_or offsets k [])
    from_place = stepping cell_of is_place steps k

    module _ {there : Option ℕ} (leads : Leads search.size place (get_or offsets k []) there) where
      pub led : option_to_list there ≡ neighbour search.size u (get_or offsets k [])
      led = leads.leads u is_place

      pub enters_there : EnteringThere search by ground u there b
      unfolding neighbours
      enters_there = record {
        scans = record { numbered = scans.numbered; good = good; setting = scans.setting; source = scans.source };
        inside = λ v is.
            let one : neighbour search.size u (get_or offsets k []) ≡ v ∷ [] = sym led ∙ ap option_to_list is in
            neighbours_inside search.size u (get_or offsets k [] ∷ []) v (rw one (inl refl));
      }
