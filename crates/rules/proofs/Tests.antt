-- Two tests of which the second is made only where the first asks for it, what cannot be, and what a test's answer says. Assumes nothing.
use mathlib.Core.Bool.{Bool, true, false, not, cond, ◌&&◌, ◌||◌, false≢true, not-not}
use mathlib.Core.Path.{◌≡◌, refl, sym, ap, ◌∙◌, subst}
use Prim.Native.Nat.{ℕ}
use native.Mathlib.Omega.{arith}
use borrow.Author.Tests.{not-true, not-false}
use lib.Dec.{T}

-- ---- both, and either

-- Where the first holds the second decides, and where it fails it decides itself.
pub and_then : (a b : Bool) → a ≡ true → b ≡ (a && b)
and_then true b first = refl
and_then false b first = absurd (false≢true first)

pub and_not : (a b : Bool) → a ≡ false → a ≡ (a && b)
and_not true b first = absurd (false≢true (sym first))
and_not false b first = refl

-- Where both hold, each does.
pub and_both : (a b : Bool) → (a && b) ≡ true → (a ≡ true) × (b ≡ true)
and_both true b both = (refl, both)
and_both false b both = absurd (false≢true both)

-- Where they do not both hold and the second does, the first fails.
pub left_fails : (a b : Bool) → T b → (a && b) ≡ false → a ≡ false
left_fails true true t e = e
left_fails true false t e = absurd t
left_fails false b t e = refl

-- Where the first fails the second decides, and where it holds it decides itself.
pub or_then : (a b : Bool) → a ≡ false → b ≡ (a || b)
or_then true b first = absurd (false≢true (sym first))
or_then false b first = refl

pub or_yes : (a b : Bool) → a ≡ true → a ≡ (a || b)
or_yes true b first = refl
or_yes false b first = absurd (false≢true first)

-- Where one holds, one of the two does; where the first of them fails, the second does.
pub or_left : (a b : Bool) → T a → T (a || b)
or_left true b t = tt
or_left false b t = absurd t

pub or_right : (a b : Bool) → T b → T (a || b)
or_right true b t = tt
or_right false b t = t

pub right_holds : (a b : Bool) → T (a || b) → a ≡ false → T b
right_holds true b t e = absurd (subst T e tt)
right_holds false b t e = t

-- Where neither may hold, both fail.
pub neither : (a b : Bool) → (a || b) ≡ false → (a ≡ false) × (b ≡ false)
neither true b none = absurd (false≢true (sym none))
neither false b none = (refl, none)

-- What is chosen by a test that holds.
pub chosen : {A : Type 0} (b : Bool) (x y : A) → T b → cond b x y ≡ x
chosen true x y t = refl
chosen false x y t = absurd t

-- Of two opposites each is the other's.
pub opposite : (a b : Bool) → a ≡ not b → b ≡ not a
opposite a b e = sym (not-not b) ∙ ap not (sym e)

-- ---- what cannot be

-- Anything, where an equation cannot be: `cc` finds 0 ≡ 1 in it.
pub never : {A : Type 0} → ◌≡◌ {A = ℕ} 0 1 → A
never impossible = absurd (omega arith)

-- ---- what an answer says of what it stands for

pub said : {A : Type 0} {answer meant outcome : A} → answer ≡ meant → answer ≡ outcome → meant ≡ outcome
said means e = sym means ∙ e

pub said_not : {answer test outcome : Bool} → answer ≡ test → not answer ≡ outcome → not test ≡ outcome
said_not means e = ap not (sym means) ∙ e

-- The same of a test that the code negates.
pub held : {answer test : Bool} → answer ≡ test → not answer ≡ false → test ≡ true
held {answer} {test} means e = sym means ∙ not-false answer e

pub failed : {answer test : Bool} → answer ≡ test → not answer ≡ true → test ≡ false
failed {answer} {test} means e = sym means ∙ not-true answer e
