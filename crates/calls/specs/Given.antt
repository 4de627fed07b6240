-- What a call is given, as the rules speak of it. Definitions only.
use Rattle.std.specs.Prelude.{List, ℕ, T, Float, get_or}
use Rattle.std.specs.Float.{nan, binary32}
use Rattle.std.specs.Float.Ieee.{fits}
use Rattle.rules.specs.Sizes.{Lent}

-- The lengths of the answer and of the work buffers, and that of the queue.
abbrev pub lent : List ℕ → ℕ → Lent
lent lengths queue_length = record { lengths = lengths; queue_length = queue_length }

-- Each time is a value of binary32, as those of every slice of the code are.
abbrev pub Held : List Float → Type 0
Held times = (c : ℕ) → T (fits binary32 (get_or times c nan))
