-- What the promises of this crate decide: two outcomes that keep one promise coincide. That of `neighbours_of` and `interior_neighbours` is `lists_decided`, beside the laws of
-- its array. The ring's promises speak of the waiting cells alone, so that of `push` and `take` the slots in which they stand are not decided. Assumes
-- nothing.
use mathlib.Core.Path.{◌≡◌, refl, sym, ap, ◌∙◌}
use mathlib.Core.Bool.{Bool, true, false}
use mathlib.Core.List.{List, [], ◌∷◌}
use Prim.Native.Nat.{ℕ, suc, ◌+◌}
use native.Mathlib.Omega.{arith}
use lib.Arith.{digits_div, digits_mod}
use lib.IntN.{ℤ, pos}
use lib.ListN.{length, replicate, length-replicate}
use lib.Signed.{mag}
use Rattle.std.specs.Prelude.{Option, Some, None, option_to_list}
use Rattle.rules.specs.declared.Size.{Size}
use Rattle.rules.specs.Cells.{index, row_of, col_of, neighbour}
use Rattle.rules.proofs.Decided.{equation_decides}
use Rattle.cells.specs.Neighbours.{CellOf, Place, place_of}
use Rattle.cells.specs.Storing.{InGrid, Leads}
use Rattle.cells.specs.Interior.{SaysInterior}
use Rattle.cells.specs.Ring.{Ring, contents, RingGood, SaysEmpty, NewRing, Pushed, Took}
use Rattle.cells.proofs.Edges.{inside}

-- ---- the neighbour at one offset

same_list : (a b : Option ℕ) → option_to_list a ≡ option_to_list b → a ≡ b
same_list (Some a) (Some b) same = cc
same_list (Some a) None same = cc
same_list None (Some b) same = cc
same_list None None same = refl

-- `neighbour_at`. Proof: the place is that of the cell at its index.
pub leads_decides : {size : Size} {place : Place} {offset : List ℤ} {a b : Option ℕ} → InGrid size place → Leads size place offset a → Leads size place offset b → a ≡ b
leads_decides {size} {place} {a = a} {b} stands p q =
    let row_in = inside size.rows place.row stands.row_in in
    let col_in = inside size.cols place.col stands.col_in in
    let u = index size (mag place.row) (mag place.col) in
    let at_row : place.row ≡ pos (row_of size u) = row_in.is_mag ∙ ap pos (sym (digits_div (mag place.row) col_in.less)) in
    let at_col : place.col ≡ pos (col_of size u) = col_in.is_mag ∙ ap pos (sym (digits_mod (mag place.row) col_in.less)) in
    let at : place ≡ place_of size u = λ i. record { row = at_row i; col = at_col i } in
    same_list a b (equation_decides (p.leads u at) (q.leads u at))

-- From the place of a cell of a grid, what is said of such cells alone is enough.
pub record FromPlace (size : Size) (place : Place) : Type 0 where
  pub cell : (u : ℕ) × CellOf size u × (place ≡ place_of size u)

pub record LeadsBy (size : Size) (place : Place) (offset : List ℤ) (there : Option ℕ) : Type 0 where
  pub leads : (u : ℕ) → CellOf size u → place ≡ place_of size u → option_to_list there ≡ neighbour size u offset

pub leads_by : {size : Size} {place : Place} {offset : List ℤ} {there : Option ℕ} → Leads size place offset there → LeadsBy size place offset there
leads_by to = record { leads = λ u cell is. to.leads u is }

pub leads_by_decides : {size : Size} {place : Place} {offset : List ℤ} {a b : Option ℕ} → FromPlace size place → LeadsBy size place offset a → LeadsBy size place offset b → a ≡ b
leads_by_decides {a = a} {b} from p q = let (u, cell, is) = from.cell in same_list a b (equation_decides (p.leads u cell is) (q.leads u cell is))

-- `is_interior`.
pub says_interior_decides : {size : Size} {u : ℕ} {a b : Bool} → SaysInterior size u a → SaysInterior size u b → a ≡ b
says_interior_decides {a = true} p q = sym (q.told (p.says refl))
says_interior_decides {a = false} {b = true} p q = p.told (q.says refl)
says_interior_decides {a = false} {b = false} p q = refl

-- ---- the ring

-- `is_empty`. Proof: there are slots enough for the head and the tail.
pub says_empty_decides : {ring : Ring} {a b : Bool} → SaysEmpty ring a → SaysEmpty ring b → a ≡ b
says_empty_decides {ring} p q =
    let slots = replicate {A = ℕ} (suc (ring.head + ring.tail)) 0 in
    let enough = length-replicate {A = ℕ} (suc (ring.head + ring.tail)) 0 in
    let good : RingGood slots ring = record { head_in = rw enough (omega arith); tail_in = rw enough (omega arith) } in
    equation_decides (p.says slots good) (q.says slots good)

abbrev slots_at : ℕ → ℕ → Ring
slots_at head tail = record { head = head; tail = tail }

-- `Ring::new`: the head and the tail too. Proof: in one slot both are 0.
pub new_ring_decides : {r s : Ring} → NewRing r → NewRing s → r ≡ s
new_ring_decides {r} {s} p q =
    let one : List ℕ = 0 ∷ [] in
    let first = p.good one (omega arith) in
    let second = q.good one (omega arith) in
    let heads : r.head ≡ s.head = omega arith in
    let tails : r.tail ≡ s.tail = omega arith in
    ap (λ (head : ℕ). slots_at head r.tail) heads ∙ ap (slots_at s.head) tails

-- Two rings hold the same cells in the same order, in slots of the same number.
pub record SameWaiting (slots₁ : List ℕ) (ring₁ : Ring) (slots₂ : List ℕ) (ring₂ : Ring) : Type 0 where
  pub waiting : contents slots₁ ring₁ ≡ contents slots₂ ring₂
  pub slots : length slots₁ ≡ length slots₂

-- `push`: the waiting cells and the number of slots.
pub pushed_decides :
    {slots slots₁ slots₂ : List ℕ} {ring ring₁ ring₂ : Ring} {cell : ℕ}
    → Pushed slots ring cell slots₁ ring₁ → Pushed slots ring cell slots₂ ring₂ → SameWaiting slots₁ ring₁ slots₂ ring₂
pushed_decides p q = record { waiting = equation_decides p.added q.added; slots = equation_decides p.same_length q.same_length }

-- `take`: the cell and those that still wait. It writes to no slot.
pub took_decides :
    {slots : List ℕ} {ring ring₁ ring₂ : Ring} {a b : ℕ} → Took slots ring a ring₁ → Took slots ring b ring₂
    → (a ≡ b) × (contents slots ring₁ ≡ contents slots ring₂)
took_decides p q = let same = sym p.split ∙ q.split in (cc, cc)
