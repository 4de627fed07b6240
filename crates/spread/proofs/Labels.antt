-- The labels that two buffers hold: one read, one stored. Assumes nothing.
use mathlib.Core.Bool.{Bool, true, false, cond, false≢true}
use mathlib.Core.List.{List}
use mathlib.Core.Path.{◌≡◌, refl, sym, ap, ◌∙◌}
use Prim.Native.Nat.{ℕ, ◌<◌}
use native.Mathlib.Nat.{zero-add}
use lib.Ieee.{Float, nan}
use lib.ListN.{length, get_or, set, length-set}
use lib.Seq.{get_or-set_same, get_or-set_other}
use Rattle.fifo.specs.Machine.{Net, State, table, label}
use Rattle.fifo.proofs.Ranges.{length_table, getD_table, table_set}
use Rattle.fifo.proofs.Induction.{label_getD}
use Rattle.rules.specs.Sizes.{count}
use Rattle.rules.specs.Values.{Carried}
use Rattle.spread.specs.declared.search.Search.{Search}
use Rattle.spread.specs.Nets.{carries, labels_of}
use Rattle.spread.specs.Steps.{labelled}
use Rattle.spread.specs.Buffers.{Buffers, Holds, carried_on}

-- ---- the buffer of values

pub length_carried_on : (b : Bool) (v : ℕ) (x : Float) (carried : List Float) → length (cond b (set carried v x) carried) ≡ length carried
length_carried_on true v x carried = length-set carried v x
length_carried_on false v x carried = refl

pub not_carried_on : (b : Bool) (v : ℕ) (x : Float) (carried : List Float) → b ≡ false → cond b (set carried v x) carried ≡ carried
not_carried_on true v x carried no_value = absurd (false≢true (sym no_value))
not_carried_on false v x carried no_value = refl

-- ---- labels

-- The label that two buffers hold for a cell.
abbrev pub held : Search → List Float → List Float → ℕ → Carried
held search distances carried c = labelled search.rule (get_or distances c nan) (get_or carried c nan)

length_labels : (search : Search) (distances carried : List Float) → length (labels_of search distances carried) ≡ count search.size
unfolding labels_of
length_labels search distances carried = length_table (held search distances carried) 0 (count search.size)

getD_labels :
    (search : Search) (distances carried : List Float) (v : ℕ)
    → get_or (labels_of search distances carried) v (held search distances carried v) ≡ held search distances carried v
unfolding labels_of
getD_labels search distances carried v = rw zero-add at (getD_table (held search distances carried) 0 (count search.size) v)

-- A state that buffers hold has their label for each cell.
pub label_held :
    {search : Search} {t : State Carried} {b : Buffers} (net : Net Carried) → Holds search t b → (v : ℕ) → v < count search.size
    → label net t v ≡ held search b.distances b.carried v
label_held {search} {t} {b} net holds v inside =
    let at = held search b.distances b.carried v in
    label_getD net t v at (rw (holds.labels, length_labels) inside)
    ∙ ap (λ l. get_or l v at) holds.labels
    ∙ getD_labels search b.distances b.carried v

-- Where a label is stored in both buffers, they hold it for that cell, and what they held for every other.
module _ (search : Search) (distances carried : List Float) (v : ℕ) (d x : Float) where
  value_here : (b : Bool) → (b ≡ true → v < length carried) → cond b (get_or (cond b (set carried v x) carried) v nan) nan ≡ cond b x nan
  value_here true inside = get_or-set_same carried v x nan (inside refl)
  value_here false inside = refl

  value_elsewhere : (b : Bool) (c : ℕ) → (c ≡ v → ⊥) → cond b (get_or (cond b (set carried v x) carried) c nan) nan ≡ cond b (get_or carried c nan) nan
  value_elsewhere true c other = get_or-set_other carried v c x nan other
  value_elsewhere false c other = refl

  pub held_here :
      v < length distances → (carries search.rule ≡ true → v < length carried)
      → held search (set distances v d) (carried_on search.rule v x carried) v ≡ labelled search.rule d x
  held_here distance_inside value_inside =
      ap (λ y. (y, cond (carries search.rule) (get_or (carried_on search.rule v x carried) v nan) nan)) (get_or-set_same distances v d nan distance_inside)
      ∙ ap (λ y. (d, y)) (value_here (carries search.rule) value_inside)

  pub held_elsewhere :
      (c : ℕ) → (c ≡ v → ⊥)
      → held search (set distances v d) (carried_on search.rule v x carried) c ≡ held search distances carried c
  held_elsewhere c other =
      ap (λ y. (y, cond (carries search.rule) (get_or (carried_on search.rule v x carried) c nan) nan)) (get_or-set_other distances v c d nan other)
      ∙ ap (λ y. (get_or distances c nan, y)) (value_elsewhere (carries search.rule) c other)

  -- So it is stored in the list of labels.
  pub labels_stored :
      v < count search.size → v < length distances → (carries search.rule ≡ true → v < length carried)
      → labels_of search (set distances v d) (carried_on search.rule v x carried)
      ≡ set (labels_of search distances carried) v (labelled search.rule d x)
  unfolding labels_of
  labels_stored inside distance_inside value_inside =
      let old = held search distances carried in
      let new = held search (set distances v d) (carried_on search.rule v x carried) in
      table_set old new 0 (count search.size) v inside (λ c other. held_elsewhere c (λ p. other (p ∙ sym (zero-add v))))
      ∙ ap (λ (y : Carried). set (table old 0 (count search.size)) v y) (ap new (zero-add v) ∙ held_here distance_inside value_inside)
