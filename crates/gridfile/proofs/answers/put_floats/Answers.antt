-- `answers::put_floats` meets its contract. Assumes nothing.
use mathlib.Core.Path.{◌≡◌, sym, ap, ◌∙◌}
use Prim.Native.Nat.{ℕ, ◌+◌}
use mathlib.Core.List.{List, ◌++◌}
use lib.ListN.{length, drop}
use lib.Ieee.{nan}
use Rattle.gridfile.specs.Answers.{little_endian, float_bytes}
use Rattle.gridfile.proofs.Bytes.{four_bytes}
use Rattle.gridfile.proofs.Stores.{several_more, at_last, next_bits, no_bits, bits_long, digits_long}
use borrow.Author.Rules.{rules}
use native.Mathlib.Omega.{arith}
use Rattle.gridfile.proofs.answers.put_floats.Goals as goal

pub loop-x-preserved : goal.loop-x-preserved
loop-x-preserved c =
    let grid = c.args.grid.now in
    let i = c.loop-x.x-index in
    let rest = float_bytes (drop (i + 1) grid) in
    let stored = c.put-next.ensures in
    let place = stored.place in
    let digits = c.to_le_bytes.ensures ∙ four_bytes c.bits_of.result in
    let four : length c.to_le_bytes.result ≡ 4 = ap length digits ∙ digits_long 4 c.bits_of.result in (
      omega arith,
      several_more c.to_le_bytes.result rest c.put-next.result c.loop-x.invariant.1
          (next_bits grid i nan (search rules) ∙ ap (λ (k : ℕ). little_endian 4 k ++ rest) (sym c.bits_of.ensures) ∙ ap (λ (l : List ℕ). l ++ rest) (sym digits))
          stored.held stored.place,
    )

pub returns : goal.returns
returns c =
    let a = c.args in
    let grid = a.grid.now in
    let i = c.loop-x.x-index in
    let all = bits_long grid in
    record { held = at_last c.loop-x.invariant.1 (no_bits grid i (search rules)); place = omega arith }
