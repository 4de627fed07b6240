-- `contents::read_floats` meets its contract. Assumes nothing.
use mathlib.Core.Path.{◌≡◌, refl, sym, ◌∙◌, ap}
use Prim.Native.Nat.{◌+◌, ◌-◌, ◌*◌, ◌/◌}
use mathlib.Core.List.{◌∷◌, ◌++◌}
use lib.Ieee.{Float, binary32, of_bits}
use lib.ListN.{take, drop}
use Rattle.std.specs.Int.{w32, from_le_bytes}
use Rattle.std.proofs.lemmas.Grind.{common_steps}
use Rattle.gridfile.specs.Contents.{floats_from}
use Rattle.gridfile.proofs.Bytes.{u32_read}
use Rattle.gridfile.proofs.Stores.{one_more, at_last, at_front, next_float, no_floats, floats_long}
use borrow.Author.Rules.{rules}
use native.Mathlib.Omega.{arith}
use Rattle.gridfile.proofs.contents.read_floats.Goals as goal

pub loop-i-preserved : goal.loop-i-preserved
loop-i-preserved c =
    let a = c.args in
    let i = c.loop-i.i in
    let read = c.of_bits.ensures ∙ ap (of_bits binary32) (c.from_le_bytes.ensures ∙ ap (from_le_bytes w32) c.bytes_at.ensures ∙ u32_read a.file.now (a.part.start + 4 * i)) in
    let rest = floats_from a.file.now (a.part.start + 4 * (i + 1)) (a.part.len / 4 - (i + 1)) in
    one_more _ rest (i + 1) c.loop-i.invariant (next_float a.file.now a.part.start (a.part.len / 4) i (search rules) ∙ ap (λ (x : Float). x ∷ rest) (sym read)) refl

pub returns : goal.returns
returns c =
    let a = c.args in
    let file = a.file.now in
    let start = a.part.start in
    let count = a.part.len / 4 in
    let i = c.loop-i.i in
    let floats = floats_from file start count in
    let front = take count a.cells.now in
    let whole : c.loop-i.cell-items ≡ floats ++ drop count front =
    at_last c.loop-i.invariant (no_floats file (start + 4 * i) count i (search rules)) ∙ at_front front floats count (floats_long file start count) (search rules) in
    grind (arith, common_steps)
