-- `read_full` meets its contract: what one more read gives comes after what was read before. Assumes nothing.
use Rattle.std.proofs.Common.{◌≡◌, ℕ, zero, suc, ◌+◌, ◌≤◌, List, [], ◌∷◌, ◌++◌, length, take, sym, ap, subst, ◌∙◌, arith, rules, append_assoc, Option, Some, None}
use Rattle.std.proofs.lemmas.List.{take-append-le}
use lib.Seq.{length-take-le}
use borrow.Rule.Slice.PartMut.{put_mid, post_of}
use Rattle.std.specs.Io.KnownBytes.{Consumes}
use Rattle.replay.proofs.read_full.Goals as goal

consumed_on : (a b d : Option (List ℕ)) (first second : List ℕ) → Consumes a b first → Consumes b d second → Consumes a d (first ++ second)
consumed_on None b d first second one two = tt
consumed_on (Some xs) None d first second one two = absurd one
consumed_on (Some xs) (Some ys) None first second one two = absurd two
consumed_on (Some xs) (Some ys) (Some zs) first second one two = one ∙ ap (λ (l : List ℕ). first ++ l) two ∙ sym (append_assoc first second zs)

take_past : (xs zs : List ℕ) (m n : ℕ) → m ≡ length xs + n → take m (xs ++ zs) ≡ xs ++ take n zs
take_past [] zs m n e = let same : m ≡ n = omega arith in ap (λ (k : ℕ). take k zs) same
take_past (x ∷ xs) zs zero n e = absurd (omega arith)
take_past (x ∷ xs) zs (suc m) n e = ap (λ (l : List ℕ). x ∷ l) (take_past xs zs m n (omega arith))

filled : (xs ys : List ℕ) (done k n : ℕ) → done ≤ length xs → n ≤ length ys → take (done + n) (put_mid done k xs ys) ≡ take done xs ++ take n ys
filled xs ys done k n within few =
    let front = length-take-le done xs within in
    take_past (take done xs) (ys ++ post_of done k xs) (done + n) n (omega arith) ∙ ap (λ (l : List ℕ). take done xs ++ l) (take-append-le n ys (post_of done k xs) few)

pub loop-done-preserved : goal.loop-done-preserved
loop-done-preserved g c =
    let buffer = c.loop-done.buffer in
    let done = c.loop-done.done in
    let read = c.in_ok-read.read in
    let bound = c.in_ok-read.ensures.bound in
    record {
      long = search rules;
      within = search rules;
      read =
          subst (Consumes (g.R.Read.remaining c.args.reader.now) (g.R.Read.remaining c.read.new.self)) (sym (filled buffer c.read.new.buf done _ read c.loop-done.invariant.within bound.0))
          (consumed_on _ _ _ (take done buffer) (take read c.read.new.buf) c.loop-done.invariant.read c.in_ok-read.ensures.bytes.0);
    }
