-- What counting a grid's cells asks of its size. Definitions only.
use Rattle.std.specs.Prelude.{◌≡◌, pos}
use Rattle.std.specs.Int.Signed.{mag}
use Rattle.rules.specs.declared.Size.{Size}

-- Neither side is below 0. The bounds need not be kept: a file's size is counted before it is judged.
pub record Countable (size : Size) : Type 0 where
  pub rows_natural : size.rows ≡ pos (mag size.rows)
  pub cols_natural : size.cols ≡ pos (mag size.cols)
