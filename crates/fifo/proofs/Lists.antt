-- Lists, and lists of cells: membership, no duplicates, a cell that joins, a cell that is removed.
use mathlib.Core.Bool.{Bool, true, false, cond, ◌||◌, or-true}
use mathlib.Core.List.{List, [], ◌∷◌, ◌++◌, map, append-nil}
use mathlib.Core.Logic.{◌⊎◌, inl, inr, ⊎_elim}
use mathlib.Core.Path.{◌≡◌, refl, sym, ap, ◌∙◌, subst}
use Prim.Native.Nat.{ℕ, zero, suc, ◌+◌, ◌<◌, ◌≤◌}
use native.Mathlib.Decide.{ℕ_discrete}
use native.Mathlib.Numerals.{add-one}
use native.Mathlib.Omega.{arith}
use borrow.Author.Tests.{eqb-true, eq-eqb, ne_eqb}
use lib.Dec.{T, eqb}
use lib.ListN.{length, get_or, set, take}
use lib.Seq.{take-suc, get_or-set_same, get_or-set_other}
use Rattle.fifo.specs.Machine.{among, joined}
use Rattle.fifo.specs.Walk.{In, NoDup}

-- To prove something of a choice by a computed test, prove it of both arms, each with what the test then says.
pub by_test {ℓ ℓ'} : {A : Type ℓ} (P : A → Type ℓ') (b : Bool) {x y : A} → (b ≡ true → P x) → (b ≡ false → P y) → P (cond b x y)
by_test P true p q = p refl
by_test P false p q = q refl

-- A test holds or fails.
pub tested : (b : Bool) → (b ≡ true) ⊎ (b ≡ false)
tested true = inl refl
tested false = inr refl

pub holds : {b : Bool} → b ≡ true → T b
holds e = subst T (sym e) tt

pub true_or_false : {b : Bool} → b ≡ true → b ≡ false → ⊥
true_or_false p q = subst T (sym p ∙ q) tt

-- A cell is another or not.
pub same_or_not : (a b : ℕ) → (a ≡ b) ⊎ (a ≡ b → ⊥)
same_or_not a b = elim (ℕ_discrete a b) [ yes p ↦ inl p | no n ↦ inr n ]

-- Nothing stands in the list, or it has a head.
pub empty_or_not {ℓ} : {A : Type ℓ} (l : List A) → (l ≡ []) ⊎ ((a : A) × (rest : List A) × (l ≡ a ∷ rest))
empty_or_not [] = inl refl
empty_or_not (a ∷ rest) = inr (a, rest, refl)

pub no_head {ℓ} : {A : Type ℓ} {l : List A} {a : A} {rest : List A} → l ≡ a ∷ rest → l ≡ [] → ⊥
no_head e z = let bad : ◌≡◌ {A = ℕ} 0 1 = cc in omega arith

-- At a place inside a list the default does not matter.
pub get_d_any : {A : Type 0} (l : List A) (i : ℕ) (x y : A) → i < length l → get_or l i x ≡ get_or l i y
get_d_any [] i x y inside = absurd (omega arith)
get_d_any (a ∷ l) zero x y inside = refl
get_d_any (a ∷ l) (suc i) x y inside = get_d_any l i x y (omega arith)

-- One entry more of the first ones.
pub take_more : {A : Type 0} (l : List A) (k : ℕ) (d : A) → k < length l → take (k + 1) l ≡ take k l ++ get_or l k d ∷ []
take_more l k d less = ap (λ n. take n l) (add-one k) ∙ take-suc l k d less

-- To prove something of what a list holds at a place once a value is set, prove it of that value and of what it held at the other places.
pub after_set :
    {A : Type 0} (Q : A → Type 0) (l : List A) (v : ℕ) (x d : A) (c : ℕ) → v < length l
    → (c ≡ v → Q x) → ((c ≡ v → ⊥) → Q (get_or l c d)) → Q (get_or (set l v x) c d)
after_set Q l v x d c inside new old = ⊎_elim here elsewhere (same_or_not c v)
  where
    here : c ≡ v → Q (get_or (set l v x) c d)
    here p = subst (λ b. Q (get_or (set l v x) b d)) (sym p) (rw (get_or-set_same l v x d inside) (new p))

    elsewhere : (c ≡ v → ⊥) → Q (get_or (set l v x) c d)
    elsewhere other = rw (get_or-set_other l v c x d other) (old other)

-- A function over a list with one value set.
pub map_set : {A B : Type 0} (g : A → B) (l : List A) (i : ℕ) (x : A) → map g (set l i x) ≡ set (map g l) i (g x)
map_set g [] i x = refl
map_set g (a ∷ l) zero x = refl
map_set g (a ∷ l) (suc i) x = ap (λ m. g a ∷ m) (map_set g l i x)

-- `among` decides membership.
pub among_in : (v : ℕ) (ws : List ℕ) → among v ws ≡ true → In v ws
unfolding among
among_in v [] e = absurd (true_or_false e refl)
among_in v (w ∷ ws) e = go (eqb v w) refl (among_in v ws) e
  where
    go : (b : Bool) → eqb v w ≡ b → (among v ws ≡ true → In v ws) → (b || among v ws) ≡ true → In v (w ∷ ws)
    go true p rest e = inl (eqb-true v w p)
    go false p rest e = inr (rest e)

pub in_among : (v : ℕ) (ws : List ℕ) → In v ws → among v ws ≡ true
unfolding among
in_among v [] i = absurd i
in_among v (w ∷ ws) (inl p) = ap (λ b. b || among v ws) (eq-eqb v w p)
in_among v (w ∷ ws) (inr i) = ap (λ b. eqb v w || b) (in_among v ws i) ∙ or-true (eqb v w)

pub in_or_not : (v : ℕ) (ws : List ℕ) → In v ws ⊎ (In v ws → ⊥)
in_or_not v ws = ⊎_elim (λ t. inl (among_in v ws t)) (λ f. inr (λ i. true_or_false (in_among v ws i) f)) (tested (among v ws))

pub not_among : (v : ℕ) (ws : List ℕ) → (In v ws → ⊥) → among v ws ≡ false
not_among v ws out = ⊎_elim (λ t. absurd (out (among_in v ws t))) (λ f. f) (tested (among v ws))

-- Membership in a list that goes on.
pub in_front : {A : Type 0} (a : A) (l m : List A) → In a l → In a (l ++ m)
in_front a [] m i = absurd i
in_front a (b ∷ l) m (inl p) = inl p
in_front a (b ∷ l) m (inr i) = inr (in_front a l m i)

pub in_back : {A : Type 0} (a : A) (l m : List A) → In a m → In a (l ++ m)
in_back a [] m i = i
in_back a (b ∷ l) m i = inr (in_back a l m i)

pub in_either : {A : Type 0} (a : A) (l m : List A) → In a (l ++ m) → In a l ⊎ In a m
in_either a [] m i = inr i
in_either a (b ∷ l) m (inl p) = inl (inl p)
in_either a (b ∷ l) m (inr i) = ⊎_elim (λ j. inl (inr j)) inr (in_either a l m i)

pub in_snoc : {A : Type 0} (a b : A) (l : List A) → In a (l ++ b ∷ []) → In a l ⊎ (a ≡ b)
in_snoc a b l i = ⊎_elim inl (⊎_elim inr absurd) (in_either a l (b ∷ []) i)

pub in_map : {A B : Type 0} (g : A → B) (b : B) (l : List A) → In b (map g l) → (a : A) × In a l × (b ≡ g a)
in_map g b [] i = absurd i
in_map g b (a ∷ l) (inl p) = (a, inl refl, p)
in_map g b (a ∷ l) (inr i) = let r = in_map g b l i in (r.0, inr r.1, r.2)

pub in_mapped : {A B : Type 0} (g : A → B) (a : A) (l : List A) → In a l → In (g a) (map g l)
in_mapped g a [] i = absurd i
in_mapped g a (b ∷ l) (inl p) = inl (ap g p)
in_mapped g a (b ∷ l) (inr i) = inr (in_mapped g a l i)

-- What `among` says of another cell than the first or the last, and of the last.
pub among_other : (c v : ℕ) (l : List ℕ) → (c ≡ v → ⊥) → among c (l ++ v ∷ []) ≡ among c l
unfolding among
among_other c v [] other = ap (λ b. b || false) (ne_eqb c v other)
among_other c v (w ∷ l) other = ap (λ b. eqb c w || b) (among_other c v l other)

pub among_tail : (c v : ℕ) (l : List ℕ) → (c ≡ v → ⊥) → among c (v ∷ l) ≡ among c l
unfolding among
among_tail c v l other = ap (λ b. b || among c l) (ne_eqb c v other)

pub among_last : (v : ℕ) (l : List ℕ) → among v (l ++ v ∷ []) ≡ true
among_last v l = in_among v (l ++ v ∷ []) (in_back v l (v ∷ []) (inl refl))

-- A cell that joins is at the end, once.
pub joined_waiting : (v : ℕ) (ws : List ℕ) → among v ws ≡ true → joined v ws ≡ ws
unfolding joined
joined_waiting v ws e = ap (λ b. cond b ws (ws ++ v ∷ [])) e

pub joined_new : (v : ℕ) (ws : List ℕ) → among v ws ≡ false → joined v ws ≡ ws ++ v ∷ []
unfolding joined
joined_new v ws e = ap (λ b. cond b ws (ws ++ v ∷ [])) e

pub joined_appends : (v : ℕ) (ws : List ℕ) → (new : List ℕ) × (joined v ws ≡ ws ++ new)
joined_appends v ws =
    ⊎_elim (λ t. ([], joined_waiting v ws t ∙ sym (append-nil ws))) (λ f. (v ∷ [], joined_new v ws f)) (tested (among v ws))

pub in_joined : (c v : ℕ) (ws : List ℕ) → In c ws → In c (joined v ws)
unfolding joined
in_joined c v ws i = by_test (In c) (among v ws) (λ _. i) (λ _. in_front c ws (v ∷ []) i)

pub joiner_in : (c v : ℕ) (ws : List ℕ) → c ≡ v → In c (joined v ws)
unfolding joined
joiner_in c v ws p = by_test (In c) (among v ws) (λ e. subst (λ b. In b ws) (sym p) (among_in v ws e)) (λ _. in_back c ws (v ∷ []) (inl p))

pub joined_cases : (c v : ℕ) (ws : List ℕ) → In c (joined v ws) → In c ws ⊎ (c ≡ v)
unfolding joined
joined_cases c v ws =
    by_test (λ l. In c l → In c ws ⊎ (c ≡ v)) (among v ws) (λ _ i. inl i) (λ _. in_snoc c v ws)

no_dup_snoc : (v : ℕ) (ws : List ℕ) → NoDup ws → (In v ws → ⊥) → NoDup (ws ++ v ∷ [])
no_dup_snoc v [] n out = (λ i. i, tt)
no_dup_snoc v (w ∷ ws) n out =
    (λ i. ⊎_elim n.0 (λ p. out (inl (sym p))) (in_snoc w v ws i), no_dup_snoc v ws n.1 (λ i. out (inr i)))

pub no_dup_joined : (v : ℕ) (ws : List ℕ) → NoDup ws → NoDup (joined v ws)
unfolding joined
no_dup_joined v ws n =
    by_test NoDup (among v ws) (λ _. n) (λ e. no_dup_snoc v ws n (λ i. true_or_false (in_among v ws i) e))

-- The list without the first m.
pub without : ℕ → List ℕ → List ℕ
without m [] = []
without m (c ∷ l) = cond (eqb m c) l (c ∷ without m l)

pub length_without : (m : ℕ) (l : List ℕ) → In m l → suc (length (without m l)) ≤ length l
unfolding without
length_without m [] i = absurd i
length_without m (c ∷ l) i = go (eqb m c) refl (length_without m l) i
  where
    go :
        (b : Bool) → eqb m c ≡ b → (In m l → suc (length (without m l)) ≤ length l)
        → In m (c ∷ l) → suc (length (cond b l (c ∷ without m l))) ≤ suc (length l)
    go true p rest i = omega arith
    go false p rest (inl q) = absurd (true_or_false (eq-eqb m c q) p)
    go false p rest (inr i) = let r = rest i in omega arith

pub in_without : (m c : ℕ) (l : List ℕ) → (c ≡ m → ⊥) → In c l → In c (without m l)
unfolding without
in_without m c [] other i = absurd i
in_without m c (b ∷ l) other i =
    by_test (In c) (eqb m b) (λ e. ⊎_elim (λ p. absurd (other (p ∙ sym (eqb-true m b e)))) (λ j. j) i)
    (λ _. ⊎_elim inl (λ j. inr (in_without m c l other j)) i)

-- A list without duplicates whose members all stand in another list is no longer than that.
-- Its first member stands in the other list; the rest stands in the other list without that member, which is shorter by one.
pub no_dup_no_longer : (ws l : List ℕ) → NoDup ws → ((c : ℕ) → In c ws → In c l) → length ws ≤ length l
no_dup_no_longer [] l n all = omega arith
no_dup_no_longer (w ∷ ws) l n all =
    let shorter = length_without w l (all w (inl refl)) in
    let rest = no_dup_no_longer ws (without w l) n.1 (λ c i. in_without w c l (λ p. n.0 (rw p at i)) (all c (inr i))) in
    omega arith
