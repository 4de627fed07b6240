-- Reading a text byte by byte: one byte more of a word, one digit more of a number. Assumes nothing.
use Prim.Native.Nat.{ℕ, ◌+◌, ◌-◌, ◌*◌, ◌/◌, ◌%◌, ◌^◌, ◌≤◌, ◌<◌}
use native.Mathlib.Numerals.{add-one}
use native.Mathlib.Omega.{arith}
use mathlib.Core.Path.{◌≡◌, sym, ap, subst, ◌∙◌}
use mathlib.Core.Bool.{Bool, true, false, true≢false}
use lib.Dec.{eqb}
use Rattle.std.specs.List.{starts_with}
use Rattle.std.specs.Cmp.Lexicographic.{bytes_decides}
use mathlib.Core.List.{List, [], ◌∷◌, ◌++◌}
use lib.ListN.{length, take, drop, get_or, length-drop}
use lib.Pow.{pow-add}
use lib.Seq.{take-suc, get_or-drop, get_or-take}
use Rattle.replay.specs.Words.{Spelled, last_digits, hex_digit_ascii}

module _ (text : List ℕ) (from k : ℕ) (within : from + k < length text) where
  one_more : take (k + 1) (drop from text) ≡ take k (drop from text) ++ (get_or text (from + k) 0 ∷ [])
  one_more =
      let h : k < length (drop from text) = omega (arith, length-drop from text) in
      rw (add-one, take-suc (drop from text) k 0, get_or-drop)

  digit_more : (base v n d : ℕ) → n / base ≡ v → n % base ≡ d → hex_digit_ascii d ≡ get_or text (from + k) 0
      → take k (drop from text) ≡ last_digits base k v → take (k + 1) (drop from text) ≡ last_digits base (k + 1) n
  digit_more base v n d quotient rest same before =
      one_more ∙ rw (before, ← same, ← rest, ← quotient, add-one)

module _ (text : List ℕ) (from to v d : ℕ) (after : from ≤ to) (within : to < length text) (same : hex_digit_ascii d ≡ get_or text to 0) where
  at_next : (base n : ℕ) → n / base ≡ v → n % base ≡ d → Spelled base text from to v → Spelled base text from (to + 1) n
  at_next base n quotient rest before =
      let here : from + (to - from) ≡ to = omega arith in
      let next : to - from + 1 ≡ to + 1 - from = omega arith in
      let inside : from + (to - from) < length text = omega arith in
      subst (λ (k : ℕ). take k (drop from text) ≡ last_digits base k n) next
      (digit_more text from (to - from) inside base v n d quotient rest (same ∙ ap (λ (k : ℕ). get_or text k 0) (sym here)) before)

  -- A number that is spelled up to `to`, and the digit there.
  pub decimal_more : d < 10 → Spelled 10 text from to v → Spelled 10 text from (to + 1) (v * 10 + d)
  decimal_more small = at_next 10 (v * 10 + d) (omega arith) (omega arith)

  pub hex_more : d < 16 → Spelled 16 text from to v → Spelled 16 text from (to + 1) (v * 16 + d)
  hex_more small = at_next 16 (v * 16 + d) (omega arith) (omega arith)

-- The number of i hex digits is below 2 to the 4 times i.
pub hex_bound : (v d i : ℕ) → v < 2 ^ (4 * i) → d < 16 → v * 16 + d < 2 ^ (4 * (i + 1))
hex_bound v d i below small =
    let e : 4 * (i + 1) ≡ 4 * i + 4 = omega arith in
    rw (e, pow-add) (omega arith)

-- What `starts_with` answers of a word and the bytes that come next.
pub starts : {b : Bool} {rest after : List ℕ} (word : List ℕ) → rest ≡ after → b ≡ starts_with eqb rest word → b ≡ true → take (length word) after ≡ word
starts word e same so = rw (← e) (sym ((bytes_decides _ _).0 (sym same ∙ so)))

pub starts_not : {b : Bool} {rest after : List ℕ} (word : List ℕ) → rest ≡ after → b ≡ starts_with eqb rest word → b ≡ false → take (length word) after ≡ word → ⊥
starts_not word e same not stands =
    true≢false (sym ((bytes_decides _ _).1 (sym (ap (take (length word)) e ∙ stands))) ∙ (sym same ∙ not))

-- A byte of those that come next is one of the text.
pub within_text : (text rest : List ℕ) (start i : ℕ) → rest ≡ drop start text → i < length rest → start + i < length text
within_text text rest start i e inside =
    let h : i < length text - start = rw (← length-drop, ← e) inside in
    omega arith

pub byte_of_rest : (text rest : List ℕ) (start i : ℕ) → rest ≡ drop start text → get_or rest i 0 ≡ get_or text (start + i) 0
byte_of_rest text rest start i e = rw (e, get_or-drop)

pub byte_of_first : (bytes rest : List ℕ) (i n : ℕ) → bytes ≡ take n rest → i < n → get_or bytes i 0 ≡ get_or rest i 0
byte_of_first bytes rest i n e inside = rw (e, get_or-take)
