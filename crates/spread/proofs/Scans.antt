-- The neighbours are tried one after the other: what the code does to the buffers is the machine's scan of what they hold. Assumes nothing.
use mathlib.Core.Bool.{Bool, true, false, cond}
use mathlib.Core.List.{List, [], ◌∷◌, ◌++◌, append-nil, append_assoc}
use mathlib.Core.Path.{◌≡◌, refl, sym, ap, ◌∙◌, subst}
use Prim.Native.Nat.{ℕ, ◌+◌, ◌-◌, ◌≤◌, ◌<◌}
use native.Mathlib.Omega.{arith}
use borrow.Author.Tests.{leb-true, leb-false}
use lib.Dec.{eqb, leb}
use lib.ListN.{length, get_or, take, drop, length-drop}
use lib.Seq.{get_or-drop}
use Rattle.binary32.specs.Steps.{straight, diagonal}
use Rattle.fifo.specs.Machine.{Net, State, scan}
use Rattle.fifo.proofs.Induction.{scan_append}
use Rattle.fifo.proofs.Lists.{take_more}
use Rattle.rules.specs.Cells.{keep}
use Rattle.rules.specs.Values.{Carried}
use Rattle.rules.specs.Sizes.{grid}
use Rattle.rules.proofs.Neighbours.{steps_append, step_if}
use Rattle.spread.specs.declared.search.Search.{Search}
use Rattle.spread.specs.declared.relax.Left.{Left}
use Rattle.spread.specs.Steps.{Terrain, entering, may_straight, may_diagonal, avoided_number, Numbers, may_enter, blocked_by, may_step, length_of}
use Rattle.spread.specs.Steps.{straight_steps, diagonal_steps, steps_by, MayAsk, Timed}
use Rattle.spread.specs.Buffers.{Buffers, Good, Holds, Does, relaxing, scanning}
use Rattle.spread.specs.Loop.{left_label, listed_steps, Entering, Scanning}
use Rattle.spread.proofs.Permits.{permitted_by, avoids_by, reads_by}

-- ---- operations one after the other

-- Nothing is done where the operation changes no state.
does_nothing :
    {search : Search} {operation : Net Carried → State Carried → State Carried} {b : Buffers}
    → Good search b → ((net : Net Carried) (t : State Carried) → t ≡ operation net t) → Does search operation b b
does_nothing {search} {b = b} good same = record {
  good = good;
  holds = λ net nearest t held. subst (λ s. Holds search s b) (same net t) held;
  kept = λ no_value. refl;
}

pub does_as :
    {search : Search} {operation same : Net Carried → State Carried → State Carried} {before after : Buffers}
    → ((net : Net Carried) (t : State Carried) → operation net t ≡ same net t) → Does search operation before after → Does search same before after
does_as {search} {after = after} equal does = record {
  good = does.good;
  holds = λ net nearest t held. subst (λ s. Holds search s after) (equal net t) (does.holds net nearest t held);
  kept = does.kept;
}

pub does_both :
    {search : Search} {first then both : Net Carried → State Carried → State Carried} {before between after : Buffers}
    → Does search first before between → Does search then between after
    → ((net : Net Carried) (t : State Carried) → then net (first net t) ≡ both net t)
    → Does search both before after
does_both {search} {first} {after = after} does does_then same = record {
  good = does_then.good;
  holds = λ net nearest t held. subst (λ s. Holds search s after) (same net t) (does_then.holds net nearest (first net t) (does.holds net nearest t held));
  kept = λ no_value. does_then.kept no_value ∙ does.kept no_value;
}

-- ---- the steps of one kind

module _ (search : Search) (ground : Terrain) (u : ℕ) where
  -- Whether a step of the kind may enter a cell.
  abbrev may : Bool → ℕ → Bool
  may diagonally v =
      let obstacles = grid search.size ground.obstacles in
      cond diagonally (may_diagonal search.rule obstacles u v) (may_straight search.rule obstacles v)

  -- Those to the cells of two lists.
  pub steps_of_both :
      (diagonally : Bool) (l m : List ℕ)
      → steps_by search ground diagonally u (l ++ m) ≡ steps_by search ground diagonally u l ++ steps_by search ground diagonally u m
  unfolding straight_steps diagonal_steps
  steps_of_both true = steps_append diagonal (entering search ground.times u) (may true)
  steps_of_both false = steps_append straight (entering search ground.times u) (may false)

  -- That to one cell, if it is permitted.
  step_to_one :
      (diagonally : Bool) (v : ℕ) (permits : Bool) → may diagonally v ≡ permits
      → steps_by search ground diagonally u (v ∷ []) ≡ cond permits ((v, entering search ground.times u (length_of diagonally) v) ∷ []) []
  unfolding straight_steps diagonal_steps
  step_to_one true = step_if diagonal (entering search ground.times u) (may true)
  step_to_one false = step_if straight (entering search ground.times u) (may false)

-- A step that is permitted is tried, and one that is not leads nowhere.
module _ (search : Search) (left : Left) {steps : List (ℕ × (Carried → Carried))} where
  one_tried :
      {v : ℕ} {f : Carried → Carried} {before after : Buffers} → steps ≡ (v, f) ∷ []
      → Does search (relaxing (left_label search left) v f) before after → Does search (scanning (left_label search left) steps) before after
  unfolding scan
  one_tried only = does_as (λ net t. ap (λ l. scan net (left_label search left) l t) (sym only))

  pub none_tried : {b : Buffers} → steps ≡ [] → Good search b → Does search (scanning (left_label search left) steps) b b
  unfolding scan
  none_tried none good = does_nothing good (λ net t. ap (λ l. scan net (left_label search left) l t) (sym none))

-- ---- one step

module _ (search : Search) (ground : Terrain) (left : Left) (v : ℕ) (diagonally : Bool) {n : ℕ} (numbered : n ≡ avoided_number search.rule) where
  abbrev step_there : Carried → Carried
  step_there = entering search ground.times left.cell (length_of diagonally) v

  one_step :
      (may : Bool) → may_step n diagonally (grid search.size ground.obstacles) left.cell v ≡ may
      → steps_by search ground diagonally left.cell (v ∷ []) ≡ cond may ((v, step_there) ∷ []) []
  one_step may is =
      step_to_one search ground left.cell diagonally v may
      (permitted_by search.rule diagonally (grid search.size ground.obstacles) left.cell v
      ∙ ap (λ m. may_step m diagonally (grid search.size ground.obstacles) left.cell v) (sym numbered) ∙ is)

  module _ {entered : Bool} (enters : entered ≡ may_enter n (grid search.size ground.obstacles) v) where
    -- A step that is not permitted leads nowhere.
    refused_whatever : (blocks : Bool) → cond blocks false false ≡ false
    refused_whatever true = refl
    refused_whatever false = refl

    pub not_entered :
        {b : Buffers} → entered ≡ false → Good search b
        → Does search (scanning (left_label search left) (steps_by search ground diagonally left.cell (v ∷ []))) b b
    not_entered refused =
        none_tried search left
        (one_step false
        (ap (λ may. cond (blocked_by n diagonally (grid search.size ground.obstacles) left.cell v) false may) (sym enters ∙ refused)
        ∙ refused_whatever (blocked_by n diagonally (grid search.size ground.obstacles) left.cell v)))

    -- A candidate that is not below changes nothing, permitted or not.
    pub not_below :
        {b : Buffers} → Does search (relaxing (left_label search left) v step_there) b b → Good search b
        → Does search (scanning (left_label search left) (steps_by search ground diagonally left.cell (v ∷ []))) b b
    not_below {b} does good = go (may_step n diagonally (grid search.size ground.obstacles) left.cell v) refl
      where
        go :
            (may : Bool) → may_step n diagonally (grid search.size ground.obstacles) left.cell v ≡ may
            → Does search (scanning (left_label search left) (steps_by search ground diagonally left.cell (v ∷ []))) b b
        go true is = one_tried search left (one_step true is) does
        go false is = none_tried search left (one_step false is) good

    module _ {blocks : Bool} (says : blocks ≡ blocked_by n diagonally (grid search.size ground.obstacles) left.cell v) where
      pub step_blocked :
          {b : Buffers} → blocks ≡ true → Good search b
          → Does search (scanning (left_label search left) (steps_by search ground diagonally left.cell (v ∷ []))) b b
      step_blocked is =
          none_tried search left
          (one_step false
          (ap (λ blocked. cond blocked false (may_enter n (grid search.size ground.obstacles) v)) (sym says ∙ is)))

      pub step_tried :
          {before after : Buffers} → entered ≡ true → blocks ≡ false → Does search (relaxing (left_label search left) v step_there) before after
          → Does search (scanning (left_label search left) (steps_by search ground diagonally left.cell (v ∷ []))) before after
      step_tried is open_there =
          one_tried search left
          (one_step true
          (ap (λ blocked. cond blocked false (may_enter n (grid search.size ground.obstacles) v)) (sym says ∙ open_there) ∙ sym enters ∙ is))

-- ---- one cell more

-- The listed cells from `start` to before k.
abbrev pub part : List ℕ → ℕ → ℕ → List ℕ
part cells start k = take (k - start) (drop start cells)

part_none : (cells : List ℕ) (start : ℕ) → part cells start start ≡ []
part_none cells start = let none : start - start ≡ 0 = omega arith in ap (λ n. take n (drop start cells)) none

part_last : (cells : List ℕ) (start k : ℕ) → start ≤ k → k < length cells → part cells start (k + 1) ≡ part cells start k ++ get_or cells k 0 ∷ []
part_last cells start k from below =
    let one_more : k + 1 - start ≡ k - start + 1 = omega arith in
    let back : start + (k - start) ≡ k = omega arith in
    ap (λ n. take n (drop start cells)) one_more
    ∙ take_more (drop start cells) (k - start) 0 (rw length-drop (omega arith))
    ∙ ap (λ c. part cells start k ++ c ∷ []) (get_or-drop start cells (k - start) 0 ∙ ap (λ n. get_or cells n 0) back)

-- The straight ones among the first k, where those before `middle` are straight.
abbrev pub straights : ℕ → ℕ → ℕ
straights middle k = k - (k - middle)

module _ (search : Search) (ground : Terrain) (u : ℕ) (cells : List ℕ) where
  -- Where all are straight, the steps are.
  all_straight : (k : ℕ) → listed_steps search ground u cells k k ≡ straight_steps search ground u (take k cells)
  unfolding diagonal_steps keep
  all_straight k = ap (λ l. straight_steps search ground u (take k cells) ++ diagonal_steps search ground u l) (part_none cells k) ∙ append-nil (straight_steps search ground u (take k cells))

  straight_more :
      (k : ℕ) → k < length cells
      → listed_steps search ground u cells (k + 1) (k + 1) ≡ listed_steps search ground u cells k k ++ straight_steps search ground u (get_or cells k 0 ∷ [])
  straight_more k below =
      all_straight (k + 1)
      ∙ ap (straight_steps search ground u) (take_more cells k 0 below)
      ∙ steps_of_both search ground u false (take k cells) (get_or cells k 0 ∷ [])
      ∙ ap (λ l. l ++ straight_steps search ground u (get_or cells k 0 ∷ [])) (sym (all_straight k))

  diagonal_more :
      (middle k : ℕ) → middle ≤ k → k < length cells
      → listed_steps search ground u cells middle (k + 1) ≡ listed_steps search ground u cells middle k ++ diagonal_steps search ground u (get_or cells k 0 ∷ [])
  diagonal_more middle k from below =
      let first = straight_steps search ground u (take middle cells) in
      ap (λ l. first ++ l) (ap (diagonal_steps search ground u) (part_last cells middle k from below) ∙ steps_of_both search ground u true (part cells middle k) (get_or cells k 0 ∷ []))
      ∙ sym (append_assoc first (diagonal_steps search ground u (part cells middle k)) (diagonal_steps search ground u (get_or cells k 0 ∷ [])))

  listed_more :
      (middle k : ℕ) (diagonally : Bool) → leb middle k ≡ diagonally → k < length cells
      → listed_steps search ground u cells (straights middle (k + 1)) (k + 1)
      ≡ listed_steps search ground u cells (straights middle k) k ++ steps_by search ground diagonally u (get_or cells k 0 ∷ [])
  listed_more middle k true is below =
      let from = leb-true middle k is in
      let now : straights middle (k + 1) ≡ middle = omega arith in
      let then : straights middle k ≡ middle = omega arith in
      ap (λ n. listed_steps search ground u cells n (k + 1)) now ∙ diagonal_more middle k from below
      ∙ ap (λ n. listed_steps search ground u cells n k ++ diagonal_steps search ground u (get_or cells k 0 ∷ [])) (sym then)
  listed_more middle k false is below =
      let less = leb-false middle k is in
      let now : straights middle (k + 1) ≡ k + 1 = omega arith in
      let then : straights middle k ≡ k = omega arith in
      ap (λ n. listed_steps search ground u cells n (k + 1)) now ∙ straight_more k below
      ∙ ap (λ n. listed_steps search ground u cells n k ++ straight_steps search ground u (get_or cells k 0 ∷ [])) (sym then)

module _ (search : Search) (ground : Terrain) (left : Left) (cells : List ℕ) (middle : ℕ) where
  pub none_scanned : {b : Buffers} → Good search b → Does search (scanning (left_label search left) (listed_steps search ground left.cell cells (straights middle 0) 0)) b b
  unfolding straight_steps keep
  none_scanned =
      let none : straights middle 0 ≡ 0 = omega arith in
      none_tried search left (ap (λ n. listed_steps search ground left.cell cells n 0) none ∙ all_straight search ground left.cell cells 0)

  pub one_scanned :
      {before between after : Buffers} (k : ℕ) → k < length cells
      → Does search (scanning (left_label search left) (listed_steps search ground left.cell cells (straights middle k) k)) before between
      → Does search (scanning (left_label search left) (steps_by search ground (leb middle k) left.cell (get_or cells k 0 ∷ []))) between after
      → Does search (scanning (left_label search left) (listed_steps search ground left.cell cells (straights middle (k + 1)) (k + 1))) before after
  one_scanned k below does does_then =
      let so_far = listed_steps search ground left.cell cells (straights middle k) k in
      let more = steps_by search ground (leb middle k) left.cell (get_or cells k 0 ∷ []) in
      does_both does does_then (λ net t.
      sym (scan_append net (left_label search left) so_far more t)
      ∙ ap (λ l. scan net (left_label search left) l t) (sym (listed_more search ground left.cell cells middle k (leb middle k) refl below)))

  pub all_scanned :
      {before after : Buffers} (k : ℕ) → middle ≤ k
      → Does search (scanning (left_label search left) (listed_steps search ground left.cell cells (straights middle k) k)) before after
      → Does search (scanning (left_label search left) (listed_steps search ground left.cell cells middle k)) before after
  all_scanned k most =
      let all : straights middle k ≡ middle = omega arith in
      does_as (λ net t. ap (λ n. scan net (left_label search left) (listed_steps search ground left.cell cells n k) t) all)

-- ---- what the callees ask

module _
    {search : Search} {by : Numbers} {ground : Terrain} {u : ℕ} {cells : List ℕ} {middle end : ℕ} {first b : Buffers}
    (scans : Scanning search by ground u cells middle end first) (good : Good search b) (k : ℕ)
  where
    pub entering_at : Entering search by ground u (get_or cells k 0) b
    entering_at = record { numbered = scans.numbered; tries = record { good = good; inside = scans.inside k }; setting = scans.setting; source = scans.source }

module _ {search : Search} {by : Numbers} {ground : Terrain} {u v : ℕ} {b : Buffers} (enters : Entering search by ground u v b) where
  pub may_asks : MayAsk by.avoided search.size ground.obstacles u v
  may_asks = record {
    pair = record { bounds = enters.setting.bounds; first = enters.source; second = enters.tries.inside };
    lent = λ some. enters.setting.obstacles_length (avoids_by search.rule (sym (ap (λ n. eqb n.avoided 0) enters.numbered) ∙ some));
  }

  pub obstacle_inside : eqb by.avoided 0 ≡ false → v < length ground.obstacles
  obstacle_inside some = rw (may_asks.lent some) enters.tries.inside

  pub timed : Timed by.formula ground.times u v
  timed = record {
    lent = λ some.
        let long = enters.setting.times_length (reads_by search.rule (sym (ap (λ n. eqb n.formula 0) enters.numbered) ∙ some)) in
        (rw long enters.source, rw long enters.tries.inside);
  }
