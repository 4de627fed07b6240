-- `bits::of_bits` meets its contract. A pattern is a NaN's exactly where it is above infinity's once the sign is off
-- (`nan_bits_above`): there the value is the one NaN. Assumes nothing.
use mathlib.Core.Bool.{Bool, not}
use mathlib.Core.Path.{sym, subst, ◌∙◌}
use borrow.Author.Tests.{lt-ltb, le-ltb}
use lib.Dec.{T}
use lib.Ieee.Bits.{nan_bits_is, nan_bits_above}
use lib.Ieee.{binary32, of_bits}
use Rattle.binary32.proofs.NotANumber.{isNan→nan}
use Rattle.binary32.proofs.bits.of_bits.Goals as goal

pub returns-then-bits-gt2139095040 : goal.returns-then-bits-gt2139095040
returns-then-bits-gt2139095040 c =
    let bits = c.args.bits in
    c.nan.ensures
    ∙ sym (isNan→nan (of_bits binary32 bits) (sym (nan_bits_is binary32 bits) ∙ nan_bits_above binary32 bits ∙ lt-ltb _ _ c.if-bits-gt2139095040.true))

pub float_from_bits-result : goal.float_from_bits-result
float_from_bits-result c =
    subst (λ (b : Bool). T (not b)) (sym (nan_bits_above binary32 c.args.bits ∙ le-ltb _ _ c.if-bits-gt2139095040.false)) tt
