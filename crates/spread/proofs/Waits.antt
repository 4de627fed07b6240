-- The cells that wait: a cell that joins, begins or is taken keeps the marks and the ring in agreement. Assumes nothing.
use mathlib.Core.Bool.{Bool, true, false, cond}
use mathlib.Core.List.{List, [], ◌∷◌, ◌++◌, append-nil}
use mathlib.Core.Logic.{inl, inr, ⊎_elim}
use mathlib.Core.Path.{◌≡◌, refl, sym, ap, ◌∙◌}
use Prim.Native.Nat.{ℕ, suc, ◌+◌, ◌≤◌, ◌<◌}
use native.Mathlib.Omega.{arith}
use borrow.Author.Tests.{ne_eqb}
use lib.Dec.{eqb}
use lib.ListN.{length, get_or, set, length-set}
use Rattle.cells.specs.Ring.{contents, HasRoom, Pushed, Took}
use Rattle.cells.specs.declared.ring.Ring.{Ring}
use Rattle.fifo.specs.Machine.{among}
use Rattle.fifo.specs.Walk.{In, NoDup}
use Rattle.fifo.proofs.Lists.{after_set, in_snoc, joined_waiting, joined_new, no_dup_joined, not_among, among_other, among_tail, among_last}
use Rattle.fifo.proofs.Ranges.{room_for_new}
use Rattle.spread.specs.Waiting.{border, Waiting, Beginning, Began, Joining, Joined, TookFirst}

-- ---- marks and ring

module _ {seen : ℕ} {marks queue : List ℕ} {ring : Ring} (waits : Waiting seen marks queue ring) where
  -- There is room for a cell that does not wait: the waiting cells are cells, each once, and lack that one.
  has_room : (v : ℕ) → v < length marks → among v (contents queue ring) ≡ false → HasRoom queue ring
  has_room v inside out =
      let known : (c : ℕ) → In c (contents queue ring) → c < length marks = λ c i. let in_seen = waits.inside c i in let few = waits.few in omega arith in
      let fewer = room_for_new (length marks) v (contents queue ring) waits.single known inside out in
      let slots = waits.slots in
      record { good = waits.in_slots; room = omega arith }

  -- A cell that did not wait and was pushed is marked so.
  waiting_pushed :
      (v seen' : ℕ) {queue' : List ℕ} {ring' : Ring}
      → v < length marks → among v (contents queue ring) ≡ false → Pushed queue ring v queue' ring'
      → seen ≤ seen' → seen' ≤ length marks → v < seen' → ((c : ℕ) → c < seen' → (c ≡ v → ⊥) → c < seen)
      → Waiting seen' (set marks v border) queue' ring'
  waiting_pushed v seen' {queue' = queue'} {ring' = ring'} inside out pushed more few v_seen others =
      let old = contents queue ring in
      record {
        few = rw length-set few;
        slots = pushed.same_length ∙ waits.slots ∙ ap suc (sym (length-set marks v border));
        in_slots = pushed.good;
        single = rw (pushed.added ∙ sym (joined_new v old out)) (no_dup_joined v old waits.single);
        inside = λ c i. ⊎_elim (λ j. let in_seen = waits.inside c j in omega arith) (λ p. rw p v_seen) (in_snoc c v old (rw pushed.added at i));
        marked = λ c below. rw pushed.added (
            after_set (λ m. eqb m border ≡ among c (old ++ v ∷ [])) marks v border 0 c inside (λ p. rw p (sym (among_last v old)))
            (λ other. waits.marked c (others c below other) ∙ sym (among_other c v old other)));
      }

  -- Another mark at a cell that does not wait changes nothing.
  waiting_marked :
      (v mark seen' : ℕ) → v < length marks → (mark ≡ border → ⊥) → among v (contents queue ring) ≡ false
      → seen ≤ seen' → seen' ≤ length marks → ((c : ℕ) → c < seen' → (c ≡ v → ⊥) → c < seen)
      → Waiting seen' (set marks v mark) queue ring
  waiting_marked v mark seen' inside other_mark out more few others = record {
    few = rw length-set few;
    slots = waits.slots ∙ ap suc (sym (length-set marks v mark));
    in_slots = waits.in_slots;
    single = waits.single;
    inside = λ c i. let in_seen = waits.inside c i in omega arith;
    marked = λ c below.
        after_set (λ m. eqb m border ≡ among c (contents queue ring)) marks v mark 0 c inside (λ p. rw p (ne_eqb mark border other_mark ∙ sym out))
        (λ other. waits.marked c (others c below other));
  }

-- ---- a cell begins

module _ {cell : ℕ} {marks queue : List ℕ} {ring : Ring} (begins : Beginning cell marks queue ring) where
  not_yet : among cell (contents queue ring) ≡ false
  not_yet = not_among cell (contents queue ring) (λ i. let below = begins.waits.inside cell i in omega arith)

  earlier : (c : ℕ) → c < cell + 1 → (c ≡ cell → ⊥) → c < cell
  earlier c below other = omega (arith, other)

  pub begin_room : HasRoom queue ring
  begin_room = has_room begins.waits cell begins.inside not_yet

  pub began_waiting : {queue' : List ℕ} {ring' : Ring} {starts : Bool} → starts ≡ true → Pushed queue ring cell queue' ring' → Began cell starts marks queue ring (set marks cell border) queue' ring'
  began_waiting starts pushed = record {
    same_length = length-set marks cell border;
    waits = let inside = begins.inside in waiting_pushed begins.waits cell (cell + 1) inside not_yet pushed (omega arith) (omega arith) (omega arith) earlier;
    added = pushed.added ∙ ap (λ b. contents queue ring ++ cond b (cell ∷ []) []) (sym starts);
  }

  pub began_resting : {starts : Bool} → starts ≡ false → Began cell starts marks queue ring (set marks cell 0) queue ring
  began_resting starts = record {
    same_length = length-set marks cell 0;
    waits = let inside = begins.inside in waiting_marked begins.waits cell 0 (cell + 1) inside (λ e. omega arith) not_yet (omega arith) (omega arith) earlier;
    added = sym (append-nil (contents queue ring)) ∙ ap (λ b. contents queue ring ++ cond b (cell ∷ []) []) (sym starts);
  }

-- ---- a cell joins

module _ {cell : ℕ} {marks queue : List ℕ} {ring : Ring} (joins : Joining cell marks queue ring) where
  -- Its mark says whether it waits.
  told : {b : Bool} → eqb (get_or marks cell 0) border ≡ b → among cell (contents queue ring) ≡ b
  told e = sym (joins.waits.marked cell joins.inside) ∙ e

  module _ (new : eqb (get_or marks cell 0) border ≡ false) where
    pub join_room : HasRoom queue ring
    join_room = has_room joins.waits cell joins.inside (told new)

    pub joined_pushed : {queue' : List ℕ} {ring' : Ring} → Pushed queue ring cell queue' ring' → Joined cell marks queue ring (set marks cell border) queue' ring'
    joined_pushed pushed = record {
      same_length = length-set marks cell border;
      waits = waiting_pushed joins.waits cell (length marks) joins.inside (told new) pushed (omega arith) (omega arith) joins.inside (λ c below other. below);
      added = pushed.added ∙ sym (joined_new cell (contents queue ring) (told new));
    }

  pub joined_before : eqb (get_or marks cell 0) border ≡ true → Joined cell marks queue ring marks queue ring
  joined_before old = record {
    same_length = refl;
    waits = joins.waits;
    added = sym (joined_waiting cell (contents queue ring) (told old));
  }

-- ---- the first is taken

module _ {marks queue : List ℕ} {ring : Ring} (waits : Waiting (length marks) marks queue ring) {cell : ℕ} {ring' : Ring} (took : Took queue ring cell ring') where
  single_split : NoDup (cell ∷ contents queue ring')
  single_split = rw took.split at waits.single

  in_before : (c : ℕ) → In c (cell ∷ contents queue ring') → c < length marks
  in_before c i = waits.inside c (rw took.split i)

  pub taken_inside : cell < length marks
  taken_inside = in_before cell (inl refl)

  pub took_first : (mark : ℕ) → (mark ≡ border → ⊥) → TookFirst marks queue ring (set marks cell mark) cell ring'
  took_first mark other_mark = record {
    same_length = length-set marks cell mark;
    inside = taken_inside;
    split = took.split;
    waits = record {
      few = rw length-set (omega arith);
      slots = waits.slots ∙ ap suc (sym (length-set marks cell mark));
      in_slots = took.good;
      single = single_split.1;
      inside = λ c i. in_before c (inr i);
      marked = λ c below.
          let rest = contents queue ring' in
          after_set (λ m. eqb m border ≡ among c rest) marks cell mark 0 c taken_inside
          (λ p. rw p (ne_eqb mark border other_mark ∙ sym (not_among cell rest single_split.0)))
          (λ other. waits.marked c below ∙ ap (among c) took.split ∙ among_tail c cell rest other);
    };
  }
