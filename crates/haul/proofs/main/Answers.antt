-- `main` is safe and ends: what is written is within the output. Assumes nothing.
use Prim.Native.Nat.{suc}
use mathlib.Core.Path.{◌≡◌}
use borrow.Author.Rules.{rules}
use lib.ListN.{length}
use Rattle.answer.proofs.Reading.{longest_file}
use Rattle.haul.proofs.main.Goals.{After-read_full}

-- What is read into has one byte more than the longest file that keeps the form, so that what was read has the answer of the whole
-- file (`read_enough` of `answer`).
pub input_enough : (c : After-read_full) → length c.read_full.new.buffer ≡ suc longest_file
input_enough c = search rules
