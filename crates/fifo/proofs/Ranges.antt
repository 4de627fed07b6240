-- Ranges of cells: the values of a function over one, and the cells of one that pass a test.
use mathlib.Core.Bool.{Bool, true, false, cond}
use mathlib.Core.List.{List, [], ◌∷◌, ◌++◌, map}
use mathlib.Core.Logic.{◌⊎◌, inl, inr, ⊎_elim}
use mathlib.Core.Path.{◌≡◌, refl, sym, ap, ◌∙◌, subst}
use Prim.Native.Nat.{ℕ, zero, suc, ◌+◌, ◌<◌, ◌≤◌, suc-le-suc}
use native.Mathlib.Nat.{zero-add, add-zero, add-suc, suc-add}
use native.Mathlib.Omega.{arith}
use lib.Dec.{T}
use lib.Ieee.Bits.{is_true}
use lib.ListN.{length, get_or, set}
use Rattle.fifo.specs.Machine.{among, table, passing}
use Rattle.fifo.specs.Walk.{In, NoDup}
use Rattle.fifo.proofs.Lists.{by_test, holds, true_or_false, same_or_not, in_among, no_dup_no_longer}

-- ---- the values of a function

pub length_table : {L : Type 0} (f : ℕ → L) (i k : ℕ) → length (table f i k) ≡ k
unfolding table
length_table f i zero = refl
length_table f i (suc k) = ap suc (length_table f (suc i) k)

pub getD_table : {L : Type 0} (f : ℕ → L) (i k j : ℕ) → get_or (table f i k) j (f (i + j)) ≡ f (i + j)
unfolding table
getD_table f i zero j = refl
getD_table f i (suc k) zero = ap f (sym (add-zero i))
getD_table f i (suc k) (suc j) = rw (add-suc, ← suc-add) (getD_table f (suc i) k j)

-- Functions that agree on the range have the same values.
pub table_same : {L : Type 0} (f g : ℕ → L) (i k : ℕ) → ((c : ℕ) → i ≤ c → c < i + k → f c ≡ g c) → table f i k ≡ table g i k
unfolding table
table_same f g i zero same = refl
table_same f g i (suc k) same =
    rw (same i (omega arith) (omega arith)) (ap (λ l. g i ∷ l) (table_same f g (suc i) k (λ c low high. same c (omega arith) (omega arith))))

-- The values of a function that differs at one cell are those of the other with that one set.
pub table_set :
    {L : Type 0} (f g : ℕ → L) (i k v : ℕ) → v < k → ((c : ℕ) → (c ≡ i + v → ⊥) → g c ≡ f c)
    → table g i k ≡ set (table f i k) v (g (i + v))
unfolding table
table_set f g i zero v inside same = absurd (omega arith)
table_set f g i (suc k) zero inside same =
    rw add-zero (ap (λ l. g i ∷ l) (table_same g f (suc i) k (λ c low high. same c (λ p. omega arith))))
table_set f g i (suc k) (suc v) inside same =
    rw (same i (λ p. omega arith), add-suc, ← suc-add)
    (ap (λ l. f i ∷ l) (table_set f g (suc i) k v (omega arith) (λ c other. same c (λ p. other (omega arith)))))

-- A function of the values.
pub map_table : {A B : Type 0} (g : A → B) (f : ℕ → A) (h : ℕ → B) → ((c : ℕ) → g (f c) ≡ h c) → (i k : ℕ) → map g (table f i k) ≡ table h i k
unfolding table
map_table g f h same i zero = refl
map_table g f h same i (suc k) = rw (same i, map_table g f h same (suc i) k)

table_later : {A : Type 0} (f : ℕ → A) (i k : ℕ) → table f (suc i) k ≡ table (λ c. f (suc c)) i k
unfolding table
table_later f i zero = refl
table_later f i (suc k) = ap (λ l. f (suc i) ∷ l) (table_later f (suc i) k)

-- What a list holds at each place is the list.
pub table_reads : {A : Type 0} (d : A) (xs : List A) → table (λ c. get_or xs c d) 0 (length xs) ≡ xs
unfolding table
table_reads d [] = refl
table_reads d (x ∷ xs) = ap (λ l. x ∷ l) (table_later (λ c. get_or (x ∷ xs) c d) 0 (length xs) ∙ table_reads d xs)

-- ---- the cells that pass a test

-- A cell of the range that passes is among them.
pub in_passing : (test : ℕ → Bool) (i k c : ℕ) → i ≤ c → c < i + k → T (test c) → In c (passing test i k)
unfolding passing
in_passing test i zero c low high t = absurd (omega arith)
in_passing test i (suc k) c low high t =
    let later : i < c → In c (passing test (suc i) k) = λ above. in_passing test (suc i) k c above (omega arith) t in
    let at_or_above : (c ≡ i) ⊎ (i < c) = ⊎_elim inl (λ other. inr (omega (arith, other))) (same_or_not c i) in
    let not_at : test i ≡ false → c ≡ i → ⊥ = λ fails p. true_or_false (is_true (test i) (subst (λ x. T (test x)) p t)) fails in
    by_test (In c) (test i) (λ _. ⊎_elim inl (λ above. inr (later above)) at_or_above) (λ fails. ⊎_elim (λ p. absurd (not_at fails p)) later at_or_above)

-- They are cells of the range, and pass.
pub passing_in : (test : ℕ → Bool) (i k c : ℕ) → In c (passing test i k) → (i ≤ c) × (c < i + k) × T (test c)
unfolding passing
passing_in test i zero c m = absurd m
passing_in test i (suc k) c m =
    let later : In c (passing test (suc i) k) → (i ≤ c) × (c < i + suc k) × T (test c) = λ n. one_later (passing_in test (suc i) k c n) in
    by_test Listed (test i) (λ passes. ⊎_elim (at_once passes) later) (λ _. later) m
  where
    Listed : List ℕ → Type 0
    Listed l = In c l → (i ≤ c) × (c < i + suc k) × T (test c)

    at_once : test i ≡ true → c ≡ i → (i ≤ c) × (c < i + suc k) × T (test c)
    at_once passes p = (omega arith, omega arith, subst (λ x. T (test x)) (sym p) (holds passes))

    one_later : (suc i ≤ c) × (c < suc i + k) × T (test c) → (i ≤ c) × (c < i + suc k) × T (test c)
    one_later (low, high, t) = (omega arith, omega arith, t)

-- Each is there once.
pub no_dup_passing : (test : ℕ → Bool) (i k : ℕ) → NoDup (passing test i k)
unfolding passing
no_dup_passing test i zero = tt
no_dup_passing test i (suc k) =
    let rest = no_dup_passing test (suc i) k in
    by_test NoDup (test i) (λ e. (λ m. let r = passing_in test (suc i) k i m in omega (arith, r.0), rest)) (λ e. rest)

-- They are no more than the range has.
pub length_passing : (test : ℕ → Bool) (i k : ℕ) → length (passing test i k) ≤ k
unfolding passing
length_passing test i zero = omega arith
length_passing test i (suc k) =
    let rest = length_passing test (suc i) k in
    let kept : length (passing test (suc i) k) ≤ suc k = omega arith in
    by_test (λ (l : List ℕ). length l ≤ suc k) (test i) (λ e. suc-le-suc rest) (λ e. kept)

-- A range cut in two.
pub passing_append : (test : ℕ → Bool) (i j k : ℕ) → passing test i (j + k) ≡ passing test i j ++ passing test (i + j) k
unfolding passing
passing_append test i zero k = rw (zero-add, add-zero)
passing_append test i (suc j) k =
    let later = ap (λ l. cond (test i) (i ∷ l) l) (passing_append test (suc i) j k) in
    rw (suc-add, add-suc, ← suc-add) (later ∙ outside (test i) (passing test (suc i) j) (passing test (suc i + j) k))
  where
    outside : (b : Bool) (l m : List ℕ) → cond b (i ∷ (l ++ m)) (l ++ m) ≡ cond b (i ∷ l) l ++ m
    outside true l m = refl
    outside false l m = refl

-- A range from 0 with one cell more.
pub passing_last : (test : ℕ → Bool) (k : ℕ) → passing test 0 (k + 1) ≡ passing test 0 k ++ cond (test k) (k ∷ []) []
unfolding passing
passing_last test k = passing_append test 0 k 1 ∙ ap (λ n. passing test 0 k ++ cond (test n) (n ∷ []) []) (zero-add k)

-- Tests that agree pass the same cells.
pub passing_same : (test test' : ℕ → Bool) → ((c : ℕ) → test c ≡ test' c) → (i k : ℕ) → passing test i k ≡ passing test' i k
unfolding passing
passing_same test test' same i zero = refl
passing_same test test' same i (suc k) = rw (same i, passing_same test test' same (suc i) k)

-- A test that fails on the range passes none.
pub passing_none : (test : ℕ → Bool) (i k : ℕ) → ((c : ℕ) → i ≤ c → c < i + k → test c ≡ false) → passing test i k ≡ []
unfolding passing
passing_none test i zero fails = refl
passing_none test i (suc k) fails =
    rw (fails i (omega arith) (omega arith)) (passing_none test (suc i) k (λ c low high. fails c (omega arith) (omega arith)))

-- Where no other cell passes, one does alone, or none.
pub passing_one :
    (test : ℕ → Bool) (o i k : ℕ) → i ≤ o → o < i + k → ((c : ℕ) → (c ≡ o → ⊥) → test c ≡ false)
    → passing test i k ≡ cond (test o) (o ∷ []) []
unfolding passing
passing_one test o i zero low high others = absurd (omega arith)
passing_one test o i (suc k) low high others =
    ⊎_elim here (λ other. later other (passing_one test o (suc i) k (omega (arith, other)) (omega arith) others)) (same_or_not i o)
  where
    here : i ≡ o → passing test i (suc k) ≡ cond (test o) (o ∷ []) []
    here same =
        ap (λ rest. cond (test i) (i ∷ rest) rest) (passing_none test (suc i) k (λ c above below. others c (λ p. omega arith)))
        ∙ ap (λ c. cond (test c) (c ∷ []) []) same

    later : (i ≡ o → ⊥) → passing test (suc i) k ≡ cond (test o) (o ∷ []) [] → passing test i (suc k) ≡ cond (test o) (o ∷ []) []
    later other rest = rw (others i other) rest

-- A list of cells below n, each once, that lacks one of them has fewer than n. Proof: with that one they are still cells below n, each
-- once, and all of them stand in the range of n.
pub room_for_new : (n v : ℕ) (ws : List ℕ) → NoDup ws → ((c : ℕ) → In c ws → c < n) → v < n → among v ws ≡ false → length ws < n
room_for_new n v ws single inside below new =
    let all = passing (λ c. true) 0 n in
    let has : (c : ℕ) → c < n → In c all = λ c less. in_passing (λ c. true) 0 n c (omega arith) (omega arith) tt in
    let known : (c : ℕ) → In c (v ∷ ws) → In c all = λ c i. ⊎_elim (λ p. has c (rw p below)) (λ j. has c (inside c j)) i in
    let fewer = no_dup_no_longer (v ∷ ws) all (λ i. true_or_false (in_among v ws i) new, single) known in
    let most = length_passing (λ c. true) 0 n in
    omega arith
