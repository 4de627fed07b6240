-- A refusal's number, as the code gives it. Definitions only.
use Rattle.std.specs.Prelude.{ℕ, Some, None}
use Rattle.std.specs.declared.option.Option.{Option}
use Rattle.rules.specs.Sizes.{Refusal, number, number_at}
pub use Rattle.calls.specs.declared.numbers.Numbered.{Numbered}

-- The refusal with this number, and with this index where there is one.
abbrev pub numbered : ℕ → Option ℕ → Refusal
numbered k None = number k
numbered k (Some i) = number_at k i

abbrev pub numbered_as : Numbered → Refusal
numbered_as n = numbered n.number n.index
