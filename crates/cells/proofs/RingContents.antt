-- The ring's operations, said of its contents: a push adds at the end, a take splits off the first, and no cell waits where the head is
-- the tail. Two case lemmas carry the arithmetic: whether `next` wraps, and whether the way from the head to the tail does. Assumes nothing.
use mathlib.Core.Path.{◌≡◌, refl, sym, ap, ◌∙◌}
use mathlib.Core.Logic.{◌⊎◌, inl, inr}
use mathlib.Core.List.{List, [], ◌∷◌, ◌++◌}
use Prim.Native.Nat.{ℕ, zero, suc, ◌+◌, ◌-◌, ◌≤◌, ◌<◌}
use native.Mathlib.Nat.{mod-eq_of_lt, mod_self}
use native.Mathlib.Decide.{dec_le}
use native.Mathlib.Omega.{arith}
use lib.Dec.{eqb}
use lib.ListN.{length, get_or, set, length-set}
use lib.Seq.{get_or-set_same, get_or-set_other}
use borrow.Author.Tests.{le-leb, lt-leb, eq-eqb, ne_eqb}
use Rattle.cells.specs.Ring.{Ring, next, gap, from, contents, none, RingGood, NewRing, Pushed, Took, HasRoom, HasCell}

-- ---- the two case lemmas

-- n is the slot after slot i: the one beside it, or the first.
abbrev NextIs : ℕ → ℕ → ℕ → Type 0
NextIs len i n = ((i + 1 < len) × (n ≡ i + 1)) ⊎ ((i + 1 ≡ len) × (n ≡ 0))

pub next_wraps : (len i : ℕ) → i + 1 ≡ len → next len i ≡ 0
next_wraps len i last = rw last (mod_self len)

pub next_beside : (len i : ℕ) → i + 1 < len → next len i ≡ i + 1
next_beside len i inside = mod-eq_of_lt inside

next_is : (len i : ℕ) → i < len → NextIs len i (next len i)
next_is len i below = go (dec_le (i + 2) len)
  where
    go : Dec (i + 2 ≤ len) → NextIs len i (next len i)
    go (yes inside) = let beside : i + 1 < len = omega arith in inl (beside, next_beside len i beside)
    go (no outside) = let last : i + 1 ≡ len = omega arith in inr (last, next_wraps len i last)

-- g is the number of steps from h to t: straight on, or past the last slot.
abbrev GapIs : ℕ → ℕ → ℕ → ℕ → Type 0
GapIs len h t g = ((h ≤ t) × (g ≡ t - h)) ⊎ ((t < h) × (g ≡ t + len - h))

gap_is : (len h t : ℕ) → GapIs len h t (gap len h t)
gap_is len h t = go (dec_le h t)
  where
    go : Dec (h ≤ t) → GapIs len h t (gap len h t)
    go (yes ahead) = inl (ahead, rw (le-leb h t ahead))
    go (no behind) = let wrapped : t < h = omega arith in inr (wrapped, rw (lt-leb h t wrapped))

-- ---- what follows from the cases, over plain numbers

module _ {len h t : ℕ} (h_in : h < len) (t_in : t < len) where
  no_gap : {g : ℕ} → GapIs len h t g → g ≡ 0 → h ≡ t
  no_gap (inl ahead) e = omega arith
  no_gap (inr wrapped) e = omega arith

  not_there : {g : ℕ} → GapIs len h t g → 0 < g → h ≡ t → ⊥
  not_there (inl ahead) some same = omega arith
  not_there (inr wrapped) some same = omega arith

  gap_grows : {n g g' : ℕ} → NextIs len t n → GapIs len h t g → GapIs len h n g' → g + 1 < len → g' ≡ suc g
  gap_grows (inl beside) (inl a) (inl b) room = omega arith
  gap_grows (inl beside) (inl a) (inr b) room = omega arith
  gap_grows (inl beside) (inr a) (inl b) room = omega arith
  gap_grows (inl beside) (inr a) (inr b) room = omega arith
  gap_grows (inr first) (inl a) (inl b) room = omega arith
  gap_grows (inr first) (inl a) (inr b) room = omega arith
  gap_grows (inr first) (inr a) (inl b) room = omega arith
  gap_grows (inr first) (inr a) (inr b) room = omega arith

  gap_shrinks : {n g g' : ℕ} → NextIs len h n → GapIs len h t g → GapIs len n t g' → 0 < g → g ≡ suc g'
  gap_shrinks (inl beside) (inl a) (inl b) some = omega arith
  gap_shrinks (inl beside) (inl a) (inr b) some = omega arith
  gap_shrinks (inl beside) (inr a) (inl b) some = omega arith
  gap_shrinks (inl beside) (inr a) (inr b) some = omega arith
  gap_shrinks (inr first) (inl a) (inl b) some = omega arith
  gap_shrinks (inr first) (inl a) (inr b) some = omega arith
  gap_shrinks (inr first) (inr a) (inl b) some = omega arith
  gap_shrinks (inr first) (inr a) (inr b) some = omega arith

next_in : {len i n : ℕ} → i < len → NextIs len i n → n < len
next_in below (inl beside) = omega arith
next_in below (inr first) = omega arith

-- ---- the slots from one on

length_from : (slots : List ℕ) (k i : ℕ) → length (from slots k i) ≡ k
unfolding from
length_from slots zero i = refl
length_from slots (suc k) i = ap suc (length_from slots k (next (length slots) i))

-- What is stored at a slot that is not reached is not seen.
from_set :
    (slots : List ℕ) (t v k i : ℕ) → t < length slots → i < length slots → k ≤ gap (length slots) i t
    → from (set slots t v) k i ≡ from slots k i
unfolding from
from_set slots t v zero i t_in i_in reach = refl
from_set slots t v (suc k) i t_in i_in reach =
    let len = length slots in
    let step = next_is len i i_in in
    let shorter = gap_shrinks i_in t_in step (gap_is len i t) (gap_is len (next len i) t) (omega arith) in
    let other : i ≡ t → ⊥ = λ same. not_there i_in t_in (gap_is len i t) (omega arith) same in
    rw (length-set slots t v, get_or-set_other slots t i v 0 other)
    (ap (λ (cells : List ℕ). get_or slots i 0 ∷ cells) (from_set slots t v k (next len i) t_in (next_in i_in step) (omega arith)))

-- One slot more is the one at the end of the gap.
from_snoc :
    (slots : List ℕ) (t k i : ℕ) → t < length slots → i < length slots → gap (length slots) i t ≡ k
    → from slots (suc k) i ≡ from slots k i ++ (get_or slots t 0 ∷ [])
unfolding from
from_snoc slots t zero i t_in i_in reach = rw (no_gap i_in t_in (gap_is (length slots) i t) reach)
from_snoc slots t (suc k) i t_in i_in reach =
    let len = length slots in
    let step = next_is len i i_in in
    let shorter = gap_shrinks i_in t_in step (gap_is len i t) (gap_is len (next len i) t) (omega arith) in
    ap (λ (cells : List ℕ). get_or slots i 0 ∷ cells) (from_snoc slots t k (next len i) t_in (next_in i_in step) (omega arith))

-- ---- the operations

module _ (slots : List ℕ) (h t : ℕ) (h_in : h < length slots) (t_in : t < length slots) where
  from_grown :
      (v : ℕ) → gap (length slots) h t + 1 < length slots
      → from (set slots t v) (gap (length slots) h (next (length slots) t)) h ≡ from slots (gap (length slots) h t) h ++ (v ∷ [])
  from_grown v room =
      let len = length slots in
      let steps = gap len h t in
      let same = length-set slots t v in
      ap (λ (k : ℕ). from (set slots t v) k h) (gap_grows h_in t_in (next_is len t t_in) (gap_is len h t) (gap_is len h (next len t)) room)
      ∙ from_snoc (set slots t v) t steps h (rw same t_in) (rw same h_in) (ap (λ (k : ℕ). gap k h t) same)
      ∙ ap (λ (cells : List ℕ). cells ++ (get_or (set slots t v) t 0 ∷ [])) (from_set slots t v steps h t_in h_in (omega arith))
      ∙ ap (λ (cell : ℕ). from slots steps h ++ (cell ∷ [])) (get_or-set_same slots t v 0 t_in)

  from_shrunk :
      0 < gap (length slots) h t
      → from slots (gap (length slots) h t) h ≡ get_or slots h 0 ∷ from slots (gap (length slots) (next (length slots) h) t) (next (length slots) h)
  unfolding from
  from_shrunk some =
      let len = length slots in
      ap (λ (k : ℕ). from slots k h) (gap_shrinks h_in t_in (next_is len h h_in) (gap_is len h t) (gap_is len (next len h) t) some)

module _ (slots : List ℕ) (ring : Ring) where
  length_contents : length (contents slots ring) ≡ gap (length slots) ring.head ring.tail
  unfolding contents
  length_contents = length_from slots (gap (length slots) ring.head ring.tail) ring.head

  -- Nothing waits exactly where the head is the tail. Proof: the gap is 0 exactly there.
  pub empty_where_met : RingGood slots ring → eqb ring.head ring.tail ≡ none (contents slots ring)
  unfolding contents from
  empty_where_met good = go (gap (length slots) ring.head ring.tail) refl
    where
      met : gap (length slots) ring.head ring.tail ≡ 0 → ring.head ≡ ring.tail
      met = no_gap good.head_in good.tail_in (gap_is (length slots) ring.head ring.tail)

      apart : 0 < gap (length slots) ring.head ring.tail → ring.head ≡ ring.tail → ⊥
      apart = not_there good.head_in good.tail_in (gap_is (length slots) ring.head ring.tail)

      go : (k : ℕ) → gap (length slots) ring.head ring.tail ≡ k → eqb ring.head ring.tail ≡ none (from slots k ring.head)
      go zero e = eq-eqb ring.head ring.tail (met e)
      go (suc k) e = ne_eqb ring.head ring.tail (apart (omega arith))

  -- A push adds at the end. Proof: the gap grows by one, so the list has one slot more, the old tail, where the cell was stored. The
  -- others are not the tail and hold what they held.
  pub push_adds :
      HasRoom slots ring → (cell : ℕ)
      → let slots' = set slots ring.tail cell in Pushed slots ring cell slots' (record { head = ring.head; tail = next (length slots') ring.tail })
  unfolding contents
  push_adds has cell =
      let same = length-set slots ring.tail cell in
      let head_in = has.good.head_in in
      let tail_in = has.good.tail_in in
      let room : gap (length slots) ring.head ring.tail + 1 < length slots = rw (← length_contents) has.room in
      record {
        good = record { head_in = rw same head_in; tail_in = rw same (next_in tail_in (next_is (length slots) ring.tail tail_in)) };
        same_length = same;
        added = rw same (from_grown slots ring.head ring.tail head_in tail_in cell room);
      }

  -- A take splits off the first. Proof: something waits, so the gap is not 0 and the list begins with the head's slot. From the next
  -- slot the gap is one less.
  pub take_splits : HasCell slots ring → Took slots ring (get_or slots ring.head 0) (record { head = next (length slots) ring.head; tail = ring.tail })
  unfolding contents
  take_splits has =
      let head_in = has.good.head_in in
      let tail_in = has.good.tail_in in
      let some : 0 < gap (length slots) ring.head ring.tail = rw (← length_contents) has.some in
      record {
        good = record { head_in = next_in head_in (next_is (length slots) ring.head head_in); tail_in = tail_in };
        split = from_shrunk slots ring.head ring.tail head_in tail_in some;
      }

  -- So the first is what the head's slot holds.
  pub first_at_head : HasCell slots ring → get_or slots ring.head 0 ≡ get_or (contents slots ring) 0 0
  first_at_head has = sym (ap (λ cells. get_or cells 0 0) (take_splits has).split)

-- A new ring is empty, in whatever slots there are.
pub new_empty : NewRing (record { head = 0; tail = 0 })
unfolding contents from
new_empty = record { good = λ slots some. record { head_in = some; tail_in = some }; empty = λ slots. refl }
