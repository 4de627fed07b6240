-- The list of the cells that were reached. Definitions only.
use Rattle.std.specs.Prelude.{not, List, ◌≡◌, ℕ, ◌<◌, eqb, length, get_or, take, All}
use Rattle.fifo.specs.Machine.{among, joined}
use Rattle.fifo.specs.Walk.{In, NoDup}

-- Of n cells those given are met, and no other: their marks are not 0.
pub record Met (n : ℕ) (met : List ℕ) (cells : List ℕ) : Type 0 where
  pub long : length met ≡ n
  pub told : (c : ℕ) → c < n → eqb (get_or met c 0) 0 ≡ not (among c cells)

-- The first `count` entries are the cells listed so far, each once and each of n cells, and those are met.
pub record Listing (n : ℕ) (met listed : List ℕ) (count : ℕ) (cells : List ℕ) : Type 0 where
  pub marks : Met n met cells
  pub long : length listed ≡ n
  pub counted : length cells ≡ count
  pub first : take count listed ≡ cells
  pub single : NoDup cells
  pub inside : (c : ℕ) → In c cells → c < n

-- A cell is to be listed.
pub record Joining (cell : ℕ) (met listed : List ℕ) (count : ℕ) : Type 0 where
  pub lists : Listing (length met) met listed count (take count listed)
  pub inside : cell < length met

-- It is listed, behind those that were unless it was among them.
pub record Joined (cell : ℕ) (met listed : List ℕ) (count : ℕ) (met' listed' : List ℕ) (count' : ℕ) : Type 0 where
  pub lists : Listing (length met) met' listed' count' (joined cell (take count listed))

-- Those of a list are cells of n.
abbrev pub Cells : ℕ → List ℕ → Type 0
Cells n cells = All (λ c. c < n) cells
