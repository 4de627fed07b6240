-- Takes that were made one after the other, and what they come to. Assumes nothing.
use mathlib.Core.Bool.{Bool, true, false}
use mathlib.Core.List.{List, [], ◌∷◌}
use mathlib.Core.Logic.{⊎_elim}
use mathlib.Core.Path.{◌≡◌, refl, sym, ap, ◌∙◌, subst}
use Prim.Native.Nat.{ℕ, ◌+◌, ◌-◌, ◌*◌, ◌≤◌, ◌<◌}
use native.Mathlib.Nat.{zero-add, lt_irrefl}
use native.Mathlib.Omega.{arith}
use lib.ListN.{length}
use Rattle.cells.specs.Ring.{contents, none, SaysEmpty}
use Rattle.fifo.specs.Machine.{Net, State, initial, run, takes}
use Rattle.fifo.proofs.Induction.{run_zero, takes_zero}
use Rattle.fifo.proofs.Lists.{true_or_false, empty_or_not}
use Rattle.fifo.proofs.Runs.{run_add, takes_add, run_last, takes_last}
use Rattle.rules.specs.Sizes.{count}
use Rattle.rules.specs.Values.{Carried}
use Rattle.spread.specs.declared.search.Rule.{Rule}
use Rattle.spread.specs.declared.search.Search.{Search}
use Rattle.spread.specs.declared.take.TakenCell.{TakenCell}
use Rattle.spread.specs.Steps.{Terrain, Numbers, numbers_of}
use Rattle.spread.specs.Buffers.{Buffers, Good, Holds}
use Rattle.spread.specs.Loop.{Setting, Looking, SaysNextInner, Taking, TakingBy, TakingInner, TookCell, Ready, Made, TakingSome, TakingSomeBy, TookUpTo, Ran}
use Rattle.spread.proofs.Running.{Turn, ended_turn}

module _ {search : Search} {ground : Terrain} where
  pub none_made : {b : Buffers} → Good search b → Made search ground b b 0
  none_made {b} good = record {
    good = good;
    holds = λ net follows t held. subst (λ s. Holds search s b) (sym (run_zero net t)) held;
    all = λ net follows t held. takes_zero net t;
    kept = λ no_value. refl;
  }

  -- Where something waits, one take is one of the machine's.
  one_made : {b after : Buffers} {took : TakenCell} → (u : ℕ) × (ws : List ℕ) × (contents b.queue b.ring ≡ u ∷ ws) → TookCell search ground b after took → Made search ground b after 1
  one_made {after = after} (u, ws, first) took = record {
    good = took.good;
    holds = λ net follows t held.
        let waits = held.waiting ∙ first in
        subst (λ s. Holds search s after) (sym (once net t u ws waits)) (took.holds net follows t held u ws waits);
    all = λ net follows t held. ap (λ n. takes net n t) (sym (zero-add 1)) ∙ takes_last net 0 t u ws (ap (λ s. s.waiting) (run_zero net t) ∙ held.waiting ∙ first) ∙ zero-add 1;
    kept = took.kept;
  }
    where
      once : (net : Net Carried) (t : State Carried) (u : ℕ) (ws : List ℕ) → t.waiting ≡ u ∷ ws → run net 1 t ≡ Rattle.fifo.specs.Machine.take net u ws t
      once net t u ws waits =
          ap (λ n. run net n t) (sym (zero-add 1)) ∙ run_last net 0 t u ws (ap (λ s. s.waiting) (run_zero net t) ∙ waits)
          ∙ ap (Rattle.fifo.specs.Machine.take net u ws) (run_zero net t)

  -- Takes, and then more of them.
  pub both_made : {before between after : Buffers} {r s : ℕ} → Made search ground before between r → Made search ground between after s → Made search ground before after (r + s)
  both_made {after = after} {r} {s} first then = record {
    good = then.good;
    holds = λ net follows t held. subst (λ u. Holds search u after) (sym (run_add net r s t)) (then.holds net follows (run net r t) (first.holds net follows t held));
    all = λ net follows t held.
        let sum = takes_add net r s t in
        let once = first.all net follows t held in
        let more = then.all net follows (run net r t) (first.holds net follows t held) in
        omega arith;
    kept = λ no_value. then.kept no_value ∙ first.kept no_value;
  }

  -- From the beginning they are so many takes of every net that the buffers were ready for.
  pub made_turn : {before b : Buffers} {r : ℕ} → Made search ground before b r → Turn search ground before b r
  made_turn made = record {
    good = made.good;
    taken = λ net ready. record { holds = made.holds net ready.follows _ ready.holds; all = made.all net ready.follows _ ready.holds };
    kept = made.kept;
  }

-- ---- what the callees ask

some_first : {queue : List ℕ} → 0 < length queue → (u : ℕ) × (ws : List ℕ) × (queue ≡ u ∷ ws)
some_first {queue} some = ⊎_elim (λ none_waits. absurd (lt_irrefl 0 (let short = ap length none_waits in omega arith))) (λ first. first) (empty_or_not queue)

module _ {search : Search} {ground : Terrain} {b : Buffers} (good : Good search b) (setting : Setting search ground) where
  pub looking : Looking search.size b.queue b.ring
  looking = record { bounds = setting.bounds; in_slots = good.waits.in_slots; inside = good.waits.inside }

  pub taking_next : {answer : Bool} → SaysEmpty b.ring answer → answer ≡ false → Taking search ground b
  taking_next empty something = record {
    good = good;
    setting = setting;
    some =
        ⊎_elim (λ nothing. absurd (true_or_false (empty.says b.queue good.waits.in_slots ∙ ap none nothing) something)) (λ (u, ws, is). rw is (omega arith))
        (empty_or_not (contents b.queue b.ring));
  }

  pub taking_inner :
      {by : Numbers} → by ≡ numbers_of search.rule → {answer : Bool} → SaysNextInner search.size b.queue b.ring answer → answer ≡ true
      → TakingInner search by ground b
  taking_inner numbered says said = record {
    asked = record { takes = record { good = good; setting = setting; some = says.some said }; numbered = numbered };
    inner = says.inner said;
  }

-- Where the rule is known, so are its numbers.
pub taking_as : {search : Search} {ground : Terrain} {b : Buffers} {rule : Rule} → Taking search ground b → search.rule ≡ rule → TakingBy search (numbers_of rule) ground b
taking_as takes is_rule = record { takes = takes; numbered = sym (ap numbers_of is_rule) }

pub taking_some_as : {search : Search} {ground : Terrain} {b : Buffers} {rule : Rule} → TakingSome search ground b → search.rule ≡ rule → TakingSomeBy search (numbers_of rule) ground b
taking_some_as some is_rule = record { some = some; numbered = sym (ap numbers_of is_rule) }

-- ---- up to so many takes

module _ {search : Search} {ground : Terrain} {most : ℕ} {before : Buffers} where
  pub none_took : Good search before → TookUpTo search ground most before before 0
  none_took good = record { made = none_made good; few = omega arith }

  module _ {b : Buffers} {r : ℕ} (so_far : TookUpTo search ground most before b r) where
    -- One take more.
    pub one_took : {after : Buffers} {took : TakenCell} → r < most → 0 < length (contents b.queue b.ring) → TookCell search ground b after took → TookUpTo search ground most before after (r + 1)
    one_took below some took = record { made = both_made so_far.made (one_made (some_first some) took); few = omega arith }

    -- Some takes more.
    pub more_took : {after : Buffers} {left s : ℕ} → left ≡ most - r → TookUpTo search ground left b after s → TookUpTo search ground most before after (r + s)
    more_took is more =
        let few = so_far.few in
        let also = more.few in
        record { made = both_made so_far.made more.made; few = omega arith }

    -- Where nothing waits, the loop has run.
    pub ran_empty : {answer : Bool} → SaysEmpty b.ring answer → answer ≡ true → Ran search ground before b.distances b.carried b.marks b.queue r
    ran_empty {answer} empty nothing =
        ended_turn (made_turn so_far.made)
        (⊎_elim (λ none_waits. none_waits) (λ (u, ws, some). absurd (true_or_false nothing (empty.says b.queue so_far.made.good.waits.in_slots ∙ ap none some)))
        (empty_or_not (contents b.queue b.ring)))

    -- And where the square were taken: the machine would take one more.
    pub ran_all :
        most ≡ count search.size * count search.size → (net : Net Carried) × Ready search ground net before → most ≤ r
        → Ran search ground before b.distances b.carried b.marks b.queue r
    ran_all square (net, ready) past =
        ended_turn (made_turn so_far.made) (⊎_elim (λ none_waits. none_waits) one_more (empty_or_not (contents b.queue b.ring)))
      where
        one_more : (u : ℕ) × (ws : List ℕ) × (contents b.queue b.ring ≡ u ∷ ws) → contents b.queue b.ring ≡ []
        one_more (u, ws, first) =
            let made = takes_last net r (initial net) u ws ((so_far.made.holds net ready.follows (initial net) ready.holds).waiting ∙ first) in
            let bound = ready.within (r + 1) in
            absurd (lt_irrefl 0 (omega arith))
