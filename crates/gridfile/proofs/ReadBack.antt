-- Fields that are written one after the other are read back, and every byte string in which no field is cut was written so. Assumes nothing.
use mathlib.Core.Path.{◌≡◌, refl, sym, ap, ◌∙◌}
use mathlib.Core.List.{List, [], ◌∷◌, ◌++◌, map, append_assoc}
use Prim.Native.Nat.{ℕ, zero, suc, ◌+◌, ◌*◌, ◌/◌, ◌%◌, ◌<◌}
use native.Mathlib.Nat.{mod-eq_of_lt}
use native.Mathlib.Omega.{arith}
use lib.Arith.{digits_div, digits_mod}
use lib.ListN.{length, take, drop, length-append, drop_of_length-le}
use lib.Seq.{drop-append_seam, take-append_seam, drop_at}
use Rattle.gridfile.specs.Fields.{part, Field, field, Fields, cut, whole, and_then, fields_after, fields_of}
use Rattle.gridfile.specs.Contents.{bytes_in}
use Rattle.gridfile.specs.Answers.{little_endian, field_head}
use Rattle.rules.proofs.Tests.{never}
use Rattle.gridfile.proofs.Places.{passed}
use Rattle.gridfile.proofs.Stores.{head_long}

-- A field as it is written.
pub record Raw : Type 0 where
  pub tag : ℕ
  pub content : List ℕ

-- Fields one after the other.
unfoldable pub all_bytes : List Raw → List ℕ
all_bytes [] = []
all_bytes (r ∷ raws) = field_head r.tag (length r.content) ++ (r.content ++ all_bytes raws)

-- Where they stand, from a place on.
unfoldable pub placed : ℕ → List Raw → List Field
placed at [] = []
placed at (r ∷ raws) = field r.tag (part (at + 3) (length r.content)) ∷ placed (at + 3 + length r.content) raws

-- A length has two bytes.
abbrev pub Short : List Raw → Type 0
Short [] = Unit {0}
Short (r ∷ raws) = (length r.content < 65536) × Short raws

abbrev pub AllBytes : List ℕ → Type 0
AllBytes [] = Unit {0}
AllBytes (b ∷ bytes) = (b < 256) × AllBytes bytes

-- ---- written, then read

read_from : (at : ℕ) (raws : List Raw) → Short raws → fields_after 0 at (all_bytes raws) ≡ whole (placed at raws)
unfolding all_bytes placed fields_after little_endian
read_from at [] short = refl
read_from at (r ∷ raws) short =
    let n = length r.content in
    let f = field r.tag (part (at + 3) n) in
    let len : n % 256 + 256 * (n / 256 % 256) ≡ n = omega arith in
    let all = length-append r.content (all_bytes raws) in
    ap (λ (k : ℕ). and_then (field r.tag (part (at + 3) k)) (fields_after k (at + 3) (r.content ++ all_bytes raws))) len
    ∙ ap (and_then f)
    (passed n (at + 3) (r.content ++ all_bytes raws) (omega arith)
    ∙ ap (fields_after 0 (at + 3 + n)) (drop-append_seam r.content (all_bytes raws))
    ∙ read_from (at + 3 + n) raws short.1)

pub read_back : (raws : List Raw) → Short raws → fields_of (all_bytes raws) ≡ whole (placed 0 raws)
read_back raws short = read_from 0 raws short

-- And each field's content stands in the file as it was written. Proof: by the fields, what was written before them growing by one each time.
contents_from : (before : List ℕ) (raws : List Raw) → map (λ (f : Field). bytes_in (before ++ all_bytes raws) f.content) (placed (length before) raws) ≡ map (λ (r : Raw). r.content) raws
unfolding all_bytes placed
contents_from before [] = refl
contents_from before (r ∷ raws) =
    let head = field_head r.tag (length r.content) in
    let n = length r.content in
    let three = head_long r.tag n in
    let parts = length-append before head in
    let all = length-append (before ++ head) r.content in
    let to_content : length (before ++ head) ≡ length before + 3 = omega arith in
    let to_rest : length (before ++ head ++ r.content) ≡ length before + 3 + n = omega arith in
    let file = before ++ (head ++ (r.content ++ all_bytes raws)) in
    let regrouped : file ≡ before ++ head ++ (r.content ++ all_bytes raws) = sym (append_assoc before head (r.content ++ all_bytes raws)) in
    let regrouped' : file ≡ before ++ head ++ r.content ++ all_bytes raws = regrouped ∙ sym (append_assoc (before ++ head) r.content (all_bytes raws)) in
    let here : take n (drop (length before + 3) file) ≡ r.content =
    ap (λ (l : List ℕ). take n (drop (length before + 3) l)) regrouped
    ∙ ap (take n) (drop_at (before ++ head) (r.content ++ all_bytes raws) (length before + 3) to_content)
    ∙ take-append_seam r.content (all_bytes raws) in
    let others : map (λ (f : Field). bytes_in file f.content) (placed (length before + 3 + n) raws) ≡ map (λ (q : Raw). q.content) raws =
    ap (λ (l : List ℕ). map (λ (f : Field). bytes_in l f.content) (placed (length before + 3 + n) raws)) regrouped'
    ∙ ap (λ (k : ℕ). map (λ (f : Field). bytes_in (before ++ head ++ r.content ++ all_bytes raws) f.content) (placed k raws)) (sym to_rest)
    ∙ contents_from (before ++ head ++ r.content) raws in
    ap (λ (l : List ℕ). l ∷ map (λ (f : Field). bytes_in file f.content) (placed (length before + 3 + n) raws)) here
    ∙ ap (λ (l : List (List ℕ)). r.content ∷ l) others

pub contents_back : (raws : List Raw) → map (λ (f : Field). bytes_in (all_bytes raws) f.content) (placed 0 raws) ≡ map (λ (r : Raw). r.content) raws
contents_back raws = contents_from [] raws

-- ---- read, then written

-- Bytes that are the rest of a content, and fields after it.
record Made (left at : ℕ) (bytes : List ℕ) (fields : List Field) : Type 0 where
  pub content : List ℕ
  pub raws : List Raw
  pub long : length content ≡ left
  pub are : bytes ≡ content ++ all_bytes raws
  pub stand : fields ≡ placed (at + left) raws
  pub short : Short raws

module _ (tag low high at : ℕ) (bytes : List ℕ) (low_byte : low < 256) (high_byte : high < 256) where
  abbrev len : ℕ
  len = low + 256 * high

  made_field : (w : Fields) (fields : List Field) → and_then (field tag (part (at + 3) len)) w ≡ whole fields
      → ((others : List Field) → w ≡ whole others → Made len (at + 3) bytes others) → Made 0 at (tag ∷ low ∷ high ∷ bytes) fields
  unfolding all_bytes placed little_endian
  made_field cut fields e rest = never cc
  made_field (whole others) fields e rest =
      let m = rest others refl in
      let r : Raw = record { tag = tag; content = m.content } in
      let n = length m.content in
      let long = m.long in
      let n_is : high * 256 + low ≡ n = omega arith in
      let quotient : n / 256 ≡ high = ap (λ (k : ℕ). k / 256) (sym n_is) ∙ digits_div high low_byte in
      let e_low : low ≡ n % 256 = sym (ap (λ (k : ℕ). k % 256) (sym n_is) ∙ digits_mod high low_byte) in
      let e_high : high ≡ n / 256 % 256 = sym (ap (λ (k : ℕ). k % 256) quotient ∙ mod-eq_of_lt high_byte) in
      let e_at : at ≡ at + 0 = omega arith in
      let e_len : len ≡ n = omega arith in
      record {
        content = [];
        raws = r ∷ m.raws;
        long = refl;
        are =
            ap (λ (k : ℕ). tag ∷ k ∷ high ∷ bytes) e_low
            ∙ ap (λ (k : ℕ). tag ∷ n % 256 ∷ k ∷ bytes) e_high
            ∙ ap (λ (l : List ℕ). tag ∷ n % 256 ∷ n / 256 % 256 ∷ l) m.are;
        stand =
            first fields others e
            ∙ ap (λ (l : List Field). field tag (part (at + 3) len) ∷ l) m.stand
            ∙ ap (λ (k : ℕ). field tag (part (at + 3) k) ∷ placed (at + 3 + k) m.raws) e_len
            ∙ ap (λ (k : ℕ). field tag (part (k + 3) n) ∷ placed (k + 3 + n) m.raws) e_at;
        short = (omega arith, m.short);
      }
    where
      first : (fields others : List Field) → whole (field tag (part (at + 3) len) ∷ others) ≡ whole fields → fields ≡ field tag (part (at + 3) len) ∷ others
      first fields others e = cc

made : (left at : ℕ) (bytes : List ℕ) (fields : List Field) → AllBytes bytes → fields_after left at bytes ≡ whole fields → Made left at bytes fields
unfolding fields_after all_bytes placed
made zero at [] fields all e = record { content = []; raws = []; long = refl; are = refl; stand = cc; short = tt }
made zero at (tag ∷ []) fields all e = never cc
made zero at (tag ∷ low ∷ []) fields all e = never cc
made zero at (tag ∷ low ∷ high ∷ bytes) fields all e =
    made_field tag low high at bytes all.1.0 all.1.1.0 (fields_after (low + 256 * high) (at + 3) bytes) fields e
    (λ others e'. made (low + 256 * high) (at + 3) bytes others all.1.1.1 e')
made (suc left) at [] fields all e = never cc
made (suc left) at (b ∷ bytes) fields all e =
    let m = made left (suc at) bytes fields all.1 e in
    let place : suc at + left ≡ at + suc left = omega arith in
    record {
      content = b ∷ m.content;
      raws = m.raws;
      long = ap suc m.long;
      are = ap (λ (l : List ℕ). b ∷ l) m.are;
      stand = m.stand ∙ ap (λ (k : ℕ). placed k m.raws) place;
      short = m.short;
    }

-- The fields that a file was written as.
pub record WrittenAs (file : List ℕ) (fields : List Field) : Type 0 where
  pub raws : List Raw
  pub are : file ≡ all_bytes raws
  pub stand : fields ≡ placed 0 raws
  pub short : Short raws

pub written_as : (file : List ℕ) (fields : List Field) → AllBytes file → fields_of file ≡ whole fields → WrittenAs file fields
unfolding all_bytes
written_as file fields all e =
    let m = made 0 0 file fields all e in
    record { raws = m.raws; are = m.are ∙ ap (λ (c : List ℕ). c ++ all_bytes m.raws) (drop_of_length-le m.content {i = 0} (omega arith)); stand = m.stand; short = m.short }
