-- A program that has read one byte more of a file than the longest that keeps the form has answers as if it had read all of it. Assumes nothing.
use mathlib.Core.Path.{◌≡◌, sym, ap, ◌∙◌}
use mathlib.Core.List.{List}
use Prim.Native.Nat.{ℕ, suc, ◌<◌}
use native.Mathlib.Omega.{arith}
use borrow.Author.Tests.{leb-true, leb-false}
use lib.Dec.{leb}
use lib.ListN.{length, take}
use lib.Seq.{length-take-le, take_all}
use Rattle.rules.specs.Sizes.{refused, number}
use Rattle.std.proofs.Common.{Result}
use Rattle.gridfile.specs.declared.request.Request.{Request}
use Rattle.gridfile.specs.declared.request.BadFile.{BadFile}
use Rattle.gridfile.specs.Contents.{written_out}
use Rattle.gridfile.specs.Answers.{answer_file}
use Rattle.gridfile.proofs.Choices.{by_cases}
pub use Rattle.gridfile.proofs.LongFiles.{longest_file}
use Rattle.gridfile.proofs.LongFiles.{too_long}
use Rattle.answer.specs.Answering.{outcome_of, answer_to}

-- A file that is too long is refused, whatever is in it.
long_refused : (file : List ℕ) → longest_file < length file → answer_to file ≡ answer_file (refused (number 8))
long_refused file long = ap (λ (p : Result Request BadFile). answer_file (outcome_of (written_out file p))) (too_long file long)

-- Proof: a file that was cut is too long, and so is what was read of it.
pub read_enough : (file : List ℕ) → answer_to (take (suc longest_file) file) ≡ answer_to file
read_enough file =
    by_cases (answer_to (take (suc longest_file) file) ≡ answer_to file) (leb (length file) longest_file)
    (λ short. ap answer_to (take_all (suc longest_file) file (let most = leb-true (length file) longest_file short in omega arith)))
    (λ long.
    let more = leb-false (length file) longest_file long in
    let cut = length-take-le (suc longest_file) file (omega arith) in
    long_refused (take (suc longest_file) file) (omega arith) ∙ sym (long_refused file more))
