-- What a word that is read, or is malformed, leaves of the reader. Definitions only.
use Rattle.std.specs.Prelude.{◌≡◌, ◌≤◌}
use Rattle.replay.specs.declared.words.Reader.{Reader}
use Rattle.replay.specs.declared.words.Malformed.{Malformed}

-- The text stays, and of it at least as much is read.
abbrev pub GoesOn : Reader → Reader → Type 0
GoesOn before after = (after.text.now ≡ before.text.now) × (before.pos ≤ after.pos)

-- The word that comes next is malformed, and stays to be read.
abbrev pub StaysAt : Reader → Reader → Malformed → Type 0
StaysAt before after malformed = (malformed.at ≡ before.pos) × (after.pos ≡ before.pos)
