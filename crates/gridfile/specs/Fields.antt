-- Document 01, "Grid file and program": the fields of a file. A file is the list of its bytes. Definitions only.
use Rattle.std.specs.Prelude.{Bool, true, cond, ◌&&◌, List, [], ◌∷◌, map, ℕ, zero, suc, ◌+◌, ◌*◌, ltb, eqb, get_or, drop}
pub use Rattle.gridfile.specs.declared.fields.Part.{Part}

-- ---- numbers

-- The byte at a place.
abbrev pub byte : List ℕ → ℕ → ℕ
byte file at = get_or file at 0

-- Numbers are little-endian: of two bytes, and of four.
abbrev pub u16_of : List ℕ → ℕ → ℕ
u16_of file at = byte file at + 256 * byte file (at + 1)

abbrev pub u32_of : List ℕ → ℕ → ℕ
u32_of file at = u16_of file at + 65536 * u16_of file (at + 2)

-- ---- fields

abbrev pub part : ℕ → ℕ → Part
part start len = record { start = start; len = len }

-- A field: one-byte tag, two-byte length, content, which is a part of the file.
pub record Field : Type 0 where
  pub tag : ℕ
  pub content : Part

abbrev pub field : ℕ → Part → Field
field tag content = record { tag = tag; content = content }

-- The fields of a file, or that one of them is cut.
pub data Fields : Type 0 where
  cut : Fields
  whole : List Field → Fields

-- A field and those after it, unless one of these is cut.
abbrev pub and_then : Field → Fields → Fields
and_then f cut = cut
and_then f (whole fields) = whole (f ∷ fields)

-- The fields in the bytes that start at a place of the file, once the `left` first bytes, which belong to the field before, are passed.
unfoldable pub fields_after : ℕ → ℕ → List ℕ → Fields
fields_after zero at [] = whole []
fields_after zero at (tag ∷ []) = cut
fields_after zero at (tag ∷ low ∷ []) = cut
fields_after zero at (tag ∷ low ∷ high ∷ bytes) = let len = low + 256 * high in and_then (field tag (part (at + 3) len)) (fields_after len (at + 3) bytes)
fields_after (suc left) at [] = cut
fields_after (suc left) at (b ∷ bytes) = fields_after left (suc at) bytes

-- The fields from a place of the file on, and all of them.
abbrev pub fields_from : List ℕ → ℕ → Fields
fields_from file at = fields_after 0 at (drop at file)

abbrev pub fields_of : List ℕ → Fields
fields_of file = fields_from file 0

abbrev pub tags : List Field → List ℕ
tags fields = map (λ (f : Field). f.tag) fields

-- Tags rise, each at most once.
unfoldable pub rising : List ℕ → Bool
rising [] = true
rising (a ∷ []) = true
rising (a ∷ b ∷ more) = ltb a b && rising (b ∷ more)

-- The content of the field with this tag; where there is none, the empty part at 0.
unfoldable pub content_of : ℕ → List Field → Part
content_of tag [] = part 0 0
content_of tag (f ∷ fields) = cond (eqb f.tag tag) f.content (content_of tag fields)

-- A field of this tag and length.
abbrev pub is_field : ℕ → ℕ → Field → Bool
is_field tag len f = eqb f.tag tag && eqb f.content.len len
