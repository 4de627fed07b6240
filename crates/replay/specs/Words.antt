-- What a word that was read says of the text. Definitions only.
use Rattle.std.specs.Prelude.{ℕ, zero, suc, ◌+◌, ◌-◌, ◌/◌, ◌%◌, ◌≡◌, cond, List, [], ◌∷◌, ◌++◌, length, take, drop, nat_lt}

-- `word` stands in the text from `from` up to `to`.
pub record Stands (word text : List ℕ) (from to : ℕ) : Type 0 where
  pub ends : to ≡ from + length word
  pub bytes : take (length word) (drop from text) ≡ word

-- The byte of a digit below 16: `0` to `9`, then `a` to `f`.
abbrev pub hex_digit_ascii : ℕ → ℕ
hex_digit_ascii d = cond (nat_lt d 10) (48 + d) (87 + d)

-- The last k digits of n in a base, the most significant first.
abbrev pub last_digits : ℕ → ℕ → ℕ → List ℕ
last_digits base zero n = []
last_digits base (suc k) n = last_digits base k (n / base) ++ (hex_digit_ascii (n % base) ∷ [])

-- The bytes from `from` up to `to` are the digits of n.
abbrev pub Spelled : ℕ → List ℕ → ℕ → ℕ → ℕ → Type 0
Spelled base text from to n = take (to - from) (drop from text) ≡ last_digits base (to - from) n
