-- What the promises of this crate decide: two outcomes that keep one promise coincide, in the sums, the listed cells and which cells are met.
-- Not decided, because the promises do not speak of it: which number other than 0 marks a cell that is met, and what the list holds behind the listed
-- cells. Assumes nothing.
use mathlib.Core.List.{List}
use mathlib.Core.Path.{◌≡◌, sym}
use Prim.Native.Nat.{ℕ, ◌<◌}
use lib.Dec.{eqb}
use lib.Ieee.{Float}
use lib.ListN.{length, get_or, take}
use Rattle.rules.specs.declared.Size.{Size}
use Rattle.rules.specs.Sizes.{count}
use Rattle.rules.proofs.Decided.{equation_decides}
use Rattle.reach.specs.Listing.{Met, Joined}
use Rattle.reach.specs.Adjacent.{AddedAdjacent}

-- Of n cells the same are met.
pub record SameMet (n : ℕ) (met₁ met₂ : List ℕ) : Type 0 where
  pub long : length met₁ ≡ length met₂
  pub told : (c : ℕ) → c < n → eqb (get_or met₁ c 0) 0 ≡ eqb (get_or met₂ c 0) 0

met_decides : {n : ℕ} {met₁ met₂ cells : List ℕ} → Met n met₁ cells → Met n met₂ cells → SameMet n met₁ met₂
met_decides p q = record { long = equation_decides p.long q.long; told = λ c inside. equation_decides (p.told c inside) (q.told c inside) }

-- The same cells are listed, in the same order, and the same are met.
pub record SameListed (n : ℕ) (met₁ met₂ listed₁ listed₂ : List ℕ) (count₁ count₂ : ℕ) : Type 0 where
  pub count : count₁ ≡ count₂
  pub cells : take count₁ listed₁ ≡ take count₂ listed₂
  pub long : length listed₁ ≡ length listed₂
  pub met : SameMet n met₁ met₂

-- `list_cell`.
pub joined_decides :
    {cell : ℕ} {met listed met₁ met₂ listed₁ listed₂ : List ℕ} {count count₁ count₂ : ℕ}
    → Joined cell met listed count met₁ listed₁ count₁ → Joined cell met listed count met₂ listed₂ count₂
    → SameListed (length met) met₁ met₂ listed₁ listed₂ count₁ count₂
joined_decides p q = record {
  count = equation_decides (sym p.lists.counted) (sym q.lists.counted);
  cells = equation_decides p.lists.first q.lists.first;
  long = equation_decides p.lists.long q.lists.long;
  met = met_decides p.lists.marks q.lists.marks;
}

-- `add_adjacent`.
pub record SameAdded (n : ℕ) (met₁ met₂ : List ℕ) (sum₁ sum₂ : Float) : Type 0 where
  pub sum : sum₁ ≡ sum₂
  pub met : SameMet n met₁ met₂

pub added_adjacent_decides :
    {size : Size} {values distances : List Float} {budget sum sum₁ sum₂ : Float} {cells met₁ met₂ : List ℕ}
    → AddedAdjacent size values distances budget sum cells met₁ sum₁ → AddedAdjacent size values distances budget sum cells met₂ sum₂
    → SameAdded (count size) met₁ met₂ sum₁ sum₂
added_adjacent_decides p q = record { sum = equation_decides p.added q.added; met = met_decides p.marks q.marks }
