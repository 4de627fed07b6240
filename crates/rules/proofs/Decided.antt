-- What decides a call whose promise is made of equations. Assumes nothing.
use mathlib.Core.Path.{◌≡◌, sym, ◌∙◌}

-- The general lemma: where a promise says that the result, or what a lent slice holds afterwards, is `told`, which the inputs give, two outcomes that
-- keep it coincide. A promise with several such equations is decided by the lemma at each.
pub equation_decides : {A : Type 0} {told r s : A} → r ≡ told → s ≡ told → r ≡ s
equation_decides first second = first ∙ sym second

-- The same where the promise says it of what an injective reading of the result gives.
pub reading_decides : {A B : Type 0} (reading : A → B) → ((a b : A) → reading a ≡ reading b → a ≡ b) → {told : B} (r s : A) → reading r ≡ told → reading s ≡ told → r ≡ s
reading_decides reading injective r s first second = injective r s (equation_decides first second)
