-- The cells that gain: one that was taken, and those of a whole run. Assumes nothing.
use mathlib.Core.Bool.{Bool, true, false, not, cond, ◌&&◌}
use mathlib.Core.List.{List, [], ◌∷◌, ◌++◌, foldl-append}
use mathlib.Core.Path.{◌≡◌, refl, sym, ap, ◌∙◌, subst}
use Prim.Native.Nat.{ℕ, ◌+◌}
use borrow.Author.Tests.{not-true, not-false}
use lib.Dec.{eqb}
use lib.Ieee.{Float, nan, binary32, add, le}
use lib.ListN.{length, get_or, set, length-set, get_or-replicate}
use Rattle.cells.specs.Ring.{SaysEmpty}
use Rattle.binary32.specs.Numbers.{plus_zero}
use Rattle.fifo.specs.Machine.{Net, among, joined}
use Rattle.fifo.proofs.Lists.{after_set, among_other, among_last, joined_new, joined_waiting, get_d_any}
use Rattle.rules.specs.Sizes.{count}
use Rattle.rules.specs.Sums.{gaining_one, gaining_of, gain}
use Rattle.rules.specs.Values.{Carried}
use Rattle.rules.proofs.Tests.{and_both}
use Rattle.spread.specs.declared.search.Search.{Search}
use Rattle.spread.specs.declared.take.TakenCell.{TakenCell}
use Rattle.spread.specs.Steps.{Terrain}
use Rattle.spread.specs.Buffers.{Buffers}
use Rattle.spread.specs.Loop.{taken_at, TookCell, Ready}
use Rattle.spread.proofs.Running.{Turn, no_turn, next_turn, ran}
use Rattle.spread.proofs.Tracing.{none_taken, next_taken}
use Rattle.sums.specs.Gain.{added_mark, Gained, InAnswer, GainedCell, Gaining, GainedAll}

-- ---- one cell

gain_last :
    (amount : Float) (start : List Float) (cells : List ℕ) (c : ℕ)
    → gain amount start (cells ++ c ∷ []) ≡ set (gain amount start cells) c (add binary32 (get_or (gain amount start cells) c plus_zero) amount)
unfolding gain
gain_last amount start cells c = foldl-append (λ answer c. set answer c (add binary32 (get_or answer c plus_zero) amount)) start cells (c ∷ [])

module _ {cell : ℕ} {distance budget amount : Float} {answer : List Float} {added : List ℕ} (reached : InAnswer cell answer added) where
  -- A cell that is within the budget and not marked gains, and is marked.
  pub gains_now :
      (le distance budget && not (eqb (get_or added cell 0) added_mark)) ≡ true
      → GainedCell cell distance budget amount answer added (set answer cell (add binary32 (get_or answer cell nan) amount)) (set added cell added_mark)
  gains_now e = record {
    answer_length = length-set answer cell (add binary32 (get_or answer cell nan) amount);
    added_length = length-set added cell added_mark;
    gained = λ start cells before.
        let tests = and_both (le distance budget) (not (eqb (get_or added cell 0) added_mark)) e in
        let new : among cell cells ≡ false = sym (before.marked cell reached.in_added) ∙ not-true (eqb (get_or added cell 0) added_mark) tests.1 in
        let more : gaining_one budget cells (cell, distance) ≡ cells ++ cell ∷ [] = ap (λ within. cond within (joined cell cells) cells) tests.0 ∙ joined_new cell cells new in
        subst (Gained amount start (set answer cell (add binary32 (get_or answer cell nan) amount)) (set added cell added_mark)) (sym more) (record {
          answer_is =
              ap (λ x. set answer cell (add binary32 x amount)) (get_d_any answer cell nan plus_zero reached.in_answer)
              ∙ ap (λ l. set l cell (add binary32 (get_or l cell plus_zero) amount)) before.answer_is
              ∙ sym (gain_last amount start cells cell);
          marked = λ c below.
              after_set (λ m. eqb m added_mark ≡ among c (cells ++ cell ∷ [])) added cell added_mark 0 c reached.in_added (λ p. rw p (sym (among_last cell cells)))
              (λ other. before.marked c (rw length-set at below) ∙ sym (among_other c cell cells other));
        });
  }

  -- One that is beyond the budget, or marked, changes nothing.
  pub gains_nothing : (le distance budget && not (eqb (get_or added cell 0) added_mark)) ≡ false → GainedCell cell distance budget amount answer added answer added
  gains_nothing e = record {
    answer_length = refl;
    added_length = refl;
    gained = λ start cells before. subst (Gained amount start answer added) (sym (same start cells before (le distance budget) refl)) before;
  }
    where
      same :
          (start : List Float) (cells : List ℕ) → Gained amount start answer added cells → (within : Bool) → le distance budget ≡ within
          → cond within (joined cell cells) cells ≡ cells
      same start cells before false is = refl
      same start cells before true is =
          joined_waiting cell cells (sym (before.marked cell reached.in_added) ∙ not-false (eqb (get_or added cell 0) added_mark) (ap (λ w. w && not (eqb (get_or added cell 0) added_mark)) (sym is) ∙ e))

-- ---- the whole run

-- What holds before each turn of the loop.
pub record GainTurn (search : Search) (ground : Terrain) (amount : Float) (start : List Float) (before b : Buffers) (answer : List Float) (added : List ℕ) (r : ℕ) : Type 0 where
  pub turn : Turn search ground before b r
  pub answer_length : length answer ≡ count search.size
  pub added_length : length added ≡ count search.size
  pub gained : (net : Net Carried) → Ready search ground net before → Gained amount start answer added (gaining_of search.limit (taken_at net r))

module _ {search : Search} {ground : Terrain} {amount : Float} {start : List Float} {before : Buffers} where
  pub no_gain : {added : List ℕ} → Gaining search ground start added before → GainTurn search ground amount start before before start added 0
  unfolding gain among
  no_gain {added} asked = record {
    turn = no_turn asked.running.good;
    answer_length = asked.answer_length;
    added_length = asked.added_length;
    gained = λ net ready.
        subst (Gained amount start start added) (sym (ap (gaining_of search.limit) (none_taken net))) (record {
          answer_is = refl;
          marked = λ c below. ap (λ l. eqb (get_or l c 0) added_mark) asked.none_added ∙ ap (λ m. eqb m added_mark) (get_or-replicate (length added) c 0 0 below);
        });
  }

  module _
      {b : Buffers} {answer : List Float} {added : List ℕ} {r : ℕ} (at : GainTurn search ground amount start before b answer added r)
      {says : Bool} (empty : SaysEmpty b.ring says)
    where
      pub gain_reaches : {after : Buffers} {took : TakenCell} → TookCell search ground b after took → InAnswer took.cell answer added
      gain_reaches takes = record { in_answer = rw at.answer_length takes.inside; in_added = rw at.added_length takes.inside }

      -- The taken cell is the last of those taken so far, and is looked at last.
      pub next_gain :
          {after : Buffers} {took : TakenCell} {answer' : List Float} {added' : List ℕ} → not says ≡ true → TookCell search ground b after took
          → GainedCell took.cell took.distance search.limit amount answer added answer' added'
          → GainTurn search ground amount start before after answer' added' (r + 1)
      next_gain {took = took} {answer'} {added'} something takes gains = record {
        turn = next_turn at.turn empty something takes;
        answer_length = gains.answer_length ∙ at.answer_length;
        added_length = gains.added_length ∙ at.added_length;
        gained = λ net ready.
            subst (Gained amount start answer' added')
            (sym (ap (gaining_of search.limit) (next_taken at.turn empty something takes net ready) ∙ foldl-append (gaining_one search.limit) [] (taken_at net r) ((took.cell, took.distance) ∷ [])))
            (gains.gained start (gaining_of search.limit (taken_at net r)) (at.gained net ready));
      }

      pub gained_all :
          not says ≡ false → GainedAll search ground amount start before answer b.distances b.carried b.marks added b.queue r
      gained_all nothing = record {
        ran = ran at.turn empty nothing;
        answer_length = at.answer_length;
        added_length = at.added_length;
        gained = λ net ready. (at.gained net ready).answer_is;
      }

-- The same of what the buffers hold when the loans have ended.
pub gained_lent :
    {search : Search} {ground : Terrain} {amount : Float} {answer answer' : List Float} {before : Buffers} {d d' c c' : List Float} {m m' added q q' : List ℕ} {r : ℕ}
    → d' ≡ d → c' ≡ c → m' ≡ m → q' ≡ q → GainedAll search ground amount answer before answer' d c m added q r → GainedAll search ground amount answer before answer' d' c' m' added q' r
gained_lent ds cs ms qs all = rw (ds, cs, ms, qs) all
