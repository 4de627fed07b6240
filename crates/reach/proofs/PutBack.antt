-- Cells that are put back: a slice that held a value but at some cells holds it throughout once those are put back. Assumes nothing.
use mathlib.Core.Bool.{Bool, true, false, not, cond}
use mathlib.Core.List.{List, [], ◌∷◌, ◌++◌, append-nil, foldl-append}
use mathlib.Core.Logic.{inl, inr, ⊎_elim}
use mathlib.Core.Path.{◌≡◌, refl, sym, ap, ◌∙◌, subst}
use Prim.Native.Nat.{ℕ, ◌+◌, ◌<◌}
use borrow.Author.Tests.{eqb-true}
use lib.Ieee.{Float}
use lib.ListN.{length, get_or, take, set, replicate, length-set, length-replicate, get_or-replicate}
use lib.Seq.{ext_get_or, get_or-set_same, get_or-set_other}
use Rattle.fifo.specs.Walk.{In}
use Rattle.fifo.proofs.Lists.{take_more, in_or_not, in_front, in_back, in_either, not_among}
use Rattle.cells.proofs.NeighbourLists.{one_more}
use Rattle.rules.specs.declared.Size.{Size}
use Rattle.rules.specs.Cells.{neighbour, neighbours}
use Rattle.rules.specs.Sums.{adjacent_offsets, adjacent_cells}
use Rattle.reach.specs.Listing.{Met, Cells}
use Rattle.reach.specs.Adjacent.{beside}
use Rattle.reach.specs.Clearing.{put_back, Clearing}
use Rattle.reach.proofs.Around.{beside_last, adjacent_beside}

module _ {A : Type 0} (value : A) where
  -- ---- one cell after the other

  pub put_back_none : (slice : List A) → put_back value slice [] ≡ slice
  unfolding put_back
  put_back_none slice = refl

  pub put_back_one : (slice : List A) (c : ℕ) → put_back value slice (c ∷ []) ≡ set slice c value
  unfolding put_back
  put_back_one slice c = refl

  pub put_back_on : (slice : List A) (us vs : List ℕ) → put_back value slice (us ++ vs) ≡ put_back value (put_back value slice us) vs
  unfolding put_back
  put_back_on slice us vs = foldl-append (λ before c. set before c value) slice us vs

  pub put_back_then :
      (slice now : List A) (us vs : List ℕ) {then : List A} → now ≡ put_back value slice us → then ≡ put_back value now vs → then ≡ put_back value slice (us ++ vs)
  put_back_then slice now us vs is more = more ∙ ap (λ l. put_back value l vs) is ∙ sym (put_back_on slice us vs)

  -- One entry more of a list.
  pub put_back_entry :
      (slice : List A) (listed : List ℕ) (k : ℕ) {now : List A} → k < length listed → now ≡ put_back value slice (take k listed)
      → set now (get_or listed k 0) value ≡ put_back value slice (take (k + 1) listed)
  put_back_entry slice listed k {now} less is =
      put_back_then slice now (take k listed) (get_or listed k 0 ∷ []) is (sym (put_back_one now (get_or listed k 0)))
      ∙ ap (put_back value slice) (sym (take_more listed k 0 less))

  pub length_put_back : (slice : List A) (cells : List ℕ) → length (put_back value slice cells) ≡ length slice
  unfolding put_back
  length_put_back slice [] = refl
  length_put_back slice (c ∷ cells) = length_put_back (set slice c value) cells ∙ length-set slice c value

  pub still_long : (slice : List A) (cells : List ℕ) {now : List A} → now ≡ put_back value slice cells → length now ≡ length slice
  still_long slice cells is = ap length is ∙ length_put_back slice cells

  -- ---- what a cell holds then

  pub put_back_other : (slice : List A) (cells : List ℕ) (c : ℕ) (d : A) → (In c cells → ⊥) → get_or (put_back value slice cells) c d ≡ get_or slice c d
  unfolding put_back
  put_back_other slice [] c d out = refl
  put_back_other slice (v ∷ cells) c d out = put_back_other (set slice v value) cells c d (λ i. out (inr i)) ∙ get_or-set_other slice v c value d (λ same. out (inl same))

  pub put_back_there : (slice : List A) (cells : List ℕ) (c : ℕ) (d : A) → c < length slice → In c cells → get_or (put_back value slice cells) c d ≡ value
  unfolding put_back
  put_back_there slice [] c d below i = absurd i
  put_back_there slice (v ∷ cells) c d below i = ⊎_elim (put_back_there (set slice v value) cells c d (rw (length-set slice v value) below)) last (in_or_not c cells)
    where
      here : (In c cells → ⊥) → c ≡ v → get_or (put_back value (set slice v value) cells) c d ≡ value
      here out same = put_back_other (set slice v value) cells c d out ∙ ap (λ a. get_or (set slice a value) c d) (sym same) ∙ get_or-set_same slice c value d below

      last : (In c cells → ⊥) → get_or (put_back value (set slice v value) cells) c d ≡ value
      last out = ⊎_elim (here out) (λ j. absurd (out j)) i

  -- Every cell that is not put back held the value before.
  pub all_back :
      {n : ℕ} (d : A) (slice : List A) {now : List A} (cells : List ℕ) → length slice ≡ n → now ≡ put_back value slice cells
      → ((c : ℕ) → c < n → (In c cells → ⊥) → get_or slice c d ≡ value) → now ≡ replicate n value
  all_back {n} d slice {now} cells long is held = is ∙ ext_get_or d (put_back value slice cells) (replicate n value) same_length each
    where
      same_length : length (put_back value slice cells) ≡ length (replicate n value)
      same_length = length_put_back slice cells ∙ long ∙ sym (length-replicate n value)

      each : (c : ℕ) → c < length (put_back value slice cells) → get_or (put_back value slice cells) c d ≡ get_or (replicate n value) c d
      each c below =
          let in_slice : c < length slice = rw (length_put_back slice cells) at below in
          let in_n : c < n = rw long at in_slice in
          ⊎_elim (put_back_there slice cells c d in_slice) (λ out. put_back_other slice cells c d out ∙ held c in_n out) (in_or_not c cells)
          ∙ sym (get_or-replicate n c value d in_n)

-- ---- the cells beside

module _ (size : Size) (met₀ : List ℕ) where
  -- One offset more.
  pub around_back :
      (u i : ℕ) {vs met met' : List ℕ} → i < 4 → vs ≡ neighbour size u (get_or adjacent_offsets i [])
      → met ≡ put_back 0 met₀ (neighbours size u (take i adjacent_offsets)) → met' ≡ put_back 0 met vs
      → met' ≡ put_back 0 met₀ (neighbours size u (take (i + 1) adjacent_offsets))
  around_back u i {vs} {met} less is before then =
      put_back_then 0 met₀ met (neighbours size u (take i adjacent_offsets)) vs before then
      ∙ ap (put_back 0 met₀) (ap (λ l. neighbours size u (take i adjacent_offsets) ++ l) is ∙ sym (one_more size u adjacent_offsets i less))

  pub around_none_back : (u : ℕ) → met₀ ≡ put_back 0 met₀ (neighbours size u (take 0 adjacent_offsets))
  unfolding neighbours put_back
  around_none_back u = refl

  -- One listed cell more.
  pub beside_back :
      (listed : List ℕ) (k : ℕ) {met met' : List ℕ} → k < length listed → met ≡ put_back 0 met₀ (beside size (take k listed))
      → met' ≡ put_back 0 met (neighbours size (get_or listed k 0) adjacent_offsets) → met' ≡ put_back 0 met₀ (beside size (take (k + 1) listed))
  beside_back listed k {met} less before then =
      put_back_then 0 met₀ met (beside size (take k listed)) (neighbours size (get_or listed k 0) adjacent_offsets) before then
      ∙ ap (put_back 0 met₀) (sym (ap (beside size) (take_more listed k 0 less) ∙ beside_last size (take k listed) (get_or listed k 0)))

  pub beside_none_back : (listed : List ℕ) → met₀ ≡ put_back 0 met₀ (beside size (take 0 listed))
  unfolding beside put_back
  beside_none_back listed = refl

-- ---- the listed cells, and those beside them

module _ {size : Size} {listed met : List ℕ} (asked : Clearing size listed met) where
  pub listed_met : Cells (length met) listed
  listed_met = subst (λ n. Cells n listed) (sym asked.met_long) asked.lists

  module _ {met₁ : List ℕ} (listed_back : met₁ ≡ put_back 0 met listed) where
    pub met_still_long : length met₁ ≡ length met
    met_still_long = still_long 0 met listed listed_back

    pub still_clearing : Clearing size listed met₁
    still_clearing = record { bounds = asked.bounds; met_long = met_still_long ∙ asked.met_long; lists = asked.lists }

    pub back_with :
        {include_adjacent : Bool} → include_adjacent ≡ true → {met₂ : List ℕ} → met₂ ≡ put_back 0 met₁ (beside size listed)
        → met₂ ≡ put_back 0 met (listed ++ cond include_adjacent (beside size listed) [])
    back_with included beside_back = rw included (put_back_then 0 met met₁ listed (beside size listed) listed_back beside_back)

    pub back_without :
        {include_adjacent : Bool} → include_adjacent ≡ false
        → met₁ ≡ put_back 0 met (listed ++ cond include_adjacent (beside size listed) [])
    back_without not_included = rw (not_included, append-nil listed) listed_back

-- Once they are put back no cell is met. Proof: a cell that is met is listed, or was added beside a listed one.
pub none_met :
    {n : ℕ} (size : Size) (distances : List Float) (budget : Float) (include_adjacent : Bool) (cells : List ℕ) {met met' : List ℕ}
    → Met n met (cells ++ cond include_adjacent (adjacent_cells size distances budget cells) [])
    → met' ≡ put_back 0 met (cells ++ cond include_adjacent (beside size cells) []) → met' ≡ replicate n 0
none_met {n} size distances budget include_adjacent cells {met} marks back = all_back 0 0 met (cells ++ cond include_adjacent (beside size cells) []) marks.long back unmet
  where
    also : (b : Bool) (c : ℕ) → In c (cond b (adjacent_cells size distances budget cells) []) → In c (cond b (beside size cells) [])
    also true c i = adjacent_beside size distances budget cells c i
    also false c i = i

    put : (c : ℕ) → In c (cells ++ cond include_adjacent (adjacent_cells size distances budget cells) []) → In c (cells ++ cond include_adjacent (beside size cells) [])
    put c i =
        ⊎_elim (in_front c cells (cond include_adjacent (beside size cells) [])) (λ j. in_back c cells (cond include_adjacent (beside size cells) []) (also include_adjacent c j))
        (in_either c cells (cond include_adjacent (adjacent_cells size distances budget cells) []) i)

    unmet : (c : ℕ) → c < n → (In c (cells ++ cond include_adjacent (beside size cells) []) → ⊥) → get_or met c 0 ≡ 0
    unmet c below out =
        eqb-true (get_or met c 0) 0
        (marks.told c below ∙ ap not (not_among c (cells ++ cond include_adjacent (adjacent_cells size distances budget cells) []) (λ i. out (put c i))))
