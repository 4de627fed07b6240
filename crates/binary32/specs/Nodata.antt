-- Which values are nodata. Definitions only.
use Rattle.std.specs.Prelude.{Bool, Float}
use Rattle.std.specs.Float.Ieee.{is_nan}

-- Any NaN is nodata, whatever its sign and its payload. Every other value, an infinity too, is data.
abbrev pub nodata : Float → Bool
nodata x = is_nan x
