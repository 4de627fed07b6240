-- The promise decides the call: two calls with one input and one output give the same and leave the same. Assumes nothing.
use mathlib.Core.Path.{◌≡◌}
use mathlib.Core.List.{List}
use Prim.Native.Nat.{ℕ}
use Rattle.gridfile.proofs.Stores.{written_decides}
use Rattle.answer.specs.Answering.{Answered}

-- What is written decides both.
pub answered_decides : (input before : List ℕ) {after₁ after₂ : List ℕ} {count₁ count₂ : ℕ} → Answered input before after₁ count₁ → Answered input before after₂ count₂ → (after₁ ≡ after₂) × (count₁ ≡ count₂)
answered_decides input before p q = written_decides p.written q.written
