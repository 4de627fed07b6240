-- Document 01's small grids, computed by the rules. Assumes nothing.
use mathlib.Core.Bool.{true, false}
use mathlib.Core.List.{List, [], ◌∷◌, map}
use mathlib.Core.Path.{◌≡◌, refl}
use Prim.Native.Nat.{ℕ, suc}
use lib.IntN.{ℤ, pos, negsuc}
use lib.ListN.{length, replicate}
use lib.Ieee.{Float, nan, inf, binary32, of_bits, div, neg}
use Rattle.binary32.specs.Steps.{diagonal}
use Rattle.binary32.specs.Numbers.{plus_zero, one}
use Rattle.rules.specs.declared.BarrierDiagonals.TheVariants.{Include, Exclude}
use Rattle.rules.specs.Numbers.{infinity, whole}
use Rattle.rules.specs.Sizes as sizes
use Rattle.rules.specs.Sizes.{Size, Grid, Spacing, in_bounds, Lent, Refusal, number, number_at, Outcome, refused, accepted, passes, stops, or_else}
use Rattle.rules.specs.Computing.{rules_computing}
use Rattle.rules.specs.Distances.{outcome_1, outcome_2, outcome_3}
use Rattle.rules.specs.Values.{outcome_4, outcome_5, outcome_6}
use Rattle.rules.specs.Sums.{Run, total_takes, outcome_7, outcome_8}

-- What the document says of a grid: its answer, its takes too, or a refusal.
pub data Said : Type 0 where
  answer : List Float → Said
  takes_and_answer : ℕ → List Float → Said
  refusal : Refusal → Said

-- As much of an outcome as the document says of it.
abbrev pub heard : Said → Outcome → Said
heard said (refused r) = refusal r
heard (answer g) (accepted t h) = answer h
heard (takes_and_answer s g) (accepted t h) = takes_and_answer t h
heard (refusal r) (accepted t h) = takes_and_answer t h

-- A grid with a computed outcome, and what is said of it.
abbrev pub Entry : Type 0
Entry = Outcome × Said

abbrev pub all_heard : List Entry → List Said
all_heard entries = map (λ (e : Entry). heard e.1 e.0) entries

abbrev pub all_said : List Entry → List Said
all_said entries = map (λ (e : Entry). e.1) entries

abbrev pub rows_by_cols : ℤ → ℤ → Size
rows_by_cols rows cols = record { rows = rows; cols = cols }

abbrev pub grid : {A : Type 0} → ℕ → ℕ → List A → Grid A
grid rows cols cells = sizes.grid (rows_by_cols (pos rows) (pos cols)) cells

-- One row.
abbrev pub row : {A : Type 0} → List A → Grid A
row cells = grid 1 (length cells) cells

-- Slices of the right lengths: the answer and k work buffers of n, and the queue.
abbrev pub lent : ℕ → ℕ → Lent
lent n k = record { lengths = n ∷ replicate k n; queue_length = suc n }

abbrev pub spacing : Float → Spacing
spacing limit = record { cell_size = one; limit = limit }

-- The half of a whole number.
abbrev pub half : ℕ → Float
half k = div binary32 (whole k) (whole 2)

unfoldable pub small : List Entry
small =
    -- A, B
    (outcome_1 (row (1 ∷ 0 ∷ 0 ∷ [])) (spacing infinity) (lent 3 1), takes_and_answer 3 (plus_zero ∷ whole 1 ∷ whole 2 ∷ [])) ∷
    (outcome_1 (row (1 ∷ 0 ∷ 0 ∷ [])) (spacing (whole 2)) (lent 3 1), takes_and_answer 2 (plus_zero ∷ whole 1 ∷ whole 2 ∷ [])) ∷
    -- C
    (outcome_2 (grid 2 2 (1 ∷ 0 ∷ 0 ∷ 0 ∷ [])) (grid 2 2 (0 ∷ 1 ∷ 1 ∷ 0 ∷ [])) (spacing plus_zero) Exclude (lent 4 1), takes_and_answer 1 (plus_zero ∷ infinity ∷ infinity ∷ infinity ∷ [])) ∷
    -- D
    (outcome_2 (row (1 ∷ 0 ∷ 0 ∷ [])) (row (1 ∷ 0 ∷ 0 ∷ [])) (spacing plus_zero) Include (lent 3 1), answer (plus_zero ∷ whole 1 ∷ whole 2 ∷ [])) ∷
    -- E
    (outcome_3 (row (1 ∷ 0 ∷ [])) (row (whole 2 ∷ whole 4 ∷ [])) infinity (lent 2 1), answer (plus_zero ∷ whole 3 ∷ [])) ∷
    -- F, G
    (outcome_5 (row (255 ∷ 0 ∷ [])) (row (whole 2 ∷ whole 4 ∷ [])) (row (whole 7 ∷ whole 9 ∷ [])) (lent 2 2), answer (whole 7 ∷ whole 7 ∷ [])) ∷
    (outcome_4 (row (255 ∷ 0 ∷ [])) (row (whole 7 ∷ whole 9 ∷ [])) (lent 2 2), takes_and_answer 0 (plus_zero ∷ plus_zero ∷ [])) ∷
    -- H
    (outcome_6 (row (1 ∷ 0 ∷ [])) (row (whole 2 ∷ whole 4 ∷ [])) (row (whole 7 ∷ whole 9 ∷ [])) (whole 4) (lent 2 2), answer (whole 7 ∷ plus_zero ∷ [])) ∷
    (outcome_6 (row (1 ∷ 0 ∷ [])) (row (whole 2 ∷ whole 4 ∷ [])) (row (whole 7 ∷ whole 9 ∷ [])) (half 9) (lent 2 2), answer (whole 7 ∷ whole 7 ∷ [])) ∷
    -- I
    (outcome_7 (row (1 ∷ 0 ∷ [])) (row (whole 2 ∷ whole 4 ∷ [])) (row (whole 7 ∷ whole 9 ∷ [])) (whole 3) false (lent 2 4), answer (whole 16 ∷ plus_zero ∷ [])) ∷
    (outcome_7 (row (1 ∷ 0 ∷ [])) (row (whole 2 ∷ whole 4 ∷ [])) (row (whole 7 ∷ whole 9 ∷ [])) (half 5) false (lent 2 4), refusal (number_at 7 0)) ∷
    -- J
    (outcome_7 (row (1 ∷ 0 ∷ [])) (row (whole 2 ∷ nan ∷ [])) (row (whole 7 ∷ whole 9 ∷ [])) (whole 3) true (lent 2 4), answer (whole 16 ∷ plus_zero ∷ [])) ∷
    (outcome_7 (row (1 ∷ 0 ∷ [])) (row (whole 2 ∷ nan ∷ [])) (row (whole 7 ∷ whole 9 ∷ [])) infinity true (lent 2 4), answer (whole 7 ∷ plus_zero ∷ [])) ∷
    -- L
    (outcome_8 (row (plus_zero ∷ whole 16777216 ∷ [])) (row (whole 5 ∷ plus_zero ∷ [])) (whole 16777216) (lent 2 3), answer (whole 5 ∷ plus_zero ∷ [])) ∷
    -- M
    (outcome_8 (row (nan ∷ whole 4 ∷ [])) (row (whole 5 ∷ plus_zero ∷ [])) (whole 9) (lent 2 3), takes_and_answer 0 (plus_zero ∷ plus_zero ∷ [])) ∷ []

pub small_grids : all_heard small ≡ all_said small
unfolding small rules_computing
small_grids = refl

-- ---- what the fifteen don't notice

-- Sizes that are lent with slices that fit none of them.
abbrev pub sized : {A : Type 0} → ℤ → ℤ → List A → Grid A
sized rows cols cells = sizes.grid (rows_by_cols rows cols) cells

-- Neither the cell size nor the limit can be used.
abbrev pub bad_spacing : Spacing
bad_spacing = record { cell_size = plus_zero; limit = nan }

-- A negative time.
abbrev pub minus_one : Float
minus_one = neg one

-- A number so large that 1 more is lost.
abbrev pub large : Float
large = of_bits binary32 0x4b80_0000

unfoldable pub more : List Entry
more =
    -- one side blocked, Exclude: the diagonal is let through
    (outcome_2 (grid 2 2 (1 ∷ 0 ∷ 0 ∷ 0 ∷ [])) (grid 2 2 (0 ∷ 1 ∷ 0 ∷ 0 ∷ [])) (spacing plus_zero) Exclude (lent 4 1), answer (plus_zero ∷ infinity ∷ whole 1 ∷ diagonal ∷ [])) ∷
    -- C with Include
    (outcome_2 (grid 2 2 (1 ∷ 0 ∷ 0 ∷ 0 ∷ [])) (grid 2 2 (0 ∷ 1 ∷ 1 ∷ 0 ∷ [])) (spacing plus_zero) Include (lent 4 1), answer (plus_zero ∷ infinity ∷ infinity ∷ diagonal ∷ [])) ∷
    -- the document's whole case: C with Include, cell size 10
    (
      outcome_2 (grid 2 2 (1 ∷ 0 ∷ 0 ∷ 0 ∷ [])) (grid 2 2 (0 ∷ 1 ∷ 1 ∷ 0 ∷ [])) (record { cell_size = whole 10; limit = plus_zero }) Include (lent 4 1),
      takes_and_answer 2 (plus_zero ∷ infinity ∷ infinity ∷ of_bits binary32 0x4162_4630 ∷ []),
    ) ∷
    -- a cap keeps its sign, nothing is below -0.0, and a nodata target is NaN
    (outcome_1 (row (0 ∷ 1 ∷ 255 ∷ [])) (record { cell_size = whole 10; limit = neg plus_zero }) (lent 3 1), takes_and_answer 1 (neg plus_zero ∷ plus_zero ∷ nan ∷ [])) ∷
    -- a tie: the cell in the middle keeps the value that came first
    (outcome_4 (row (1 ∷ 0 ∷ 1 ∷ [])) (row (whole 7 ∷ whole 8 ∷ whole 9 ∷ [])) (lent 3 2), takes_and_answer 3 (whole 7 ∷ whole 7 ∷ whole 9 ∷ [])) ∷
    -- served in order of arrival each cell is taken once
    (
      outcome_1 (grid 3 3 (1 ∷ 0 ∷ 0 ∷ 0 ∷ 0 ∷ 0 ∷ 0 ∷ 0 ∷ 0 ∷ [])) (spacing infinity) (lent 9 1),
      takes_and_answer 9 (plus_zero ∷ whole 1 ∷ whole 2 ∷ whole 1 ∷ diagonal ∷ of_bits binary32 0x401a_827a ∷ whole 2 ∷ of_bits binary32 0x401a_827a ∷ of_bits binary32 0x4035_04f3 ∷ []),
    ) ∷
    -- the large step first absorbs the two small ones; from the other end they would add up to 2
    (
      outcome_3 (row (1 ∷ 0 ∷ 0 ∷ 0 ∷ [])) (row (whole 33554432 ∷ plus_zero ∷ whole 2 ∷ plus_zero ∷ [])) infinity (lent 4 1),
      answer (plus_zero ∷ of_bits binary32 0x4b80_0000 ∷ of_bits binary32 0x4b80_0000 ∷ of_bits binary32 0x4b80_0000 ∷ []),
    ) ∷
    -- refusals: each entry breaks every later test too, so that it tells the order. Of 1: 1, 3, 4, 5
    (outcome_1 (sized (pos 0) (pos 32768) []) bad_spacing (lent 1 1), refusal (number 1)) ∷
    (outcome_1 (row (1 ∷ 0 ∷ [])) bad_spacing (lent 3 1), refusal (number 3)) ∷
    (outcome_1 (row (1 ∷ [])) bad_spacing (lent 1 1), refusal (number 4)) ∷
    (outcome_1 (row (1 ∷ [])) (spacing nan) (lent 1 1), refusal (number 5)) ∷
    -- of 2: 1, 2, 3, 4, and no limit is refused
    (outcome_2 (sized (pos 1025) (pos 1024) []) (row []) bad_spacing Include (lent 0 1), refusal (number 1)) ∷
    (outcome_2 (grid 2 3 []) (grid 3 2 []) bad_spacing Include (lent 0 1), refusal (number 2)) ∷
    (outcome_2 (row (1 ∷ [])) (row (0 ∷ 0 ∷ [])) bad_spacing Include (lent 1 1), refusal (number 2)) ∷
    (outcome_2 (row (1 ∷ [])) (grid 1 1 (0 ∷ 0 ∷ [])) bad_spacing Include (lent 1 1), refusal (number 3)) ∷
    (outcome_2 (row (1 ∷ [])) (row (0 ∷ [])) (record { cell_size = infinity; limit = nan }) Include (lent 1 1), refusal (number 4)) ∷
    (outcome_2 (row (1 ∷ [])) (row (0 ∷ [])) (spacing nan) Include (lent 1 1), takes_and_answer 1 (plus_zero ∷ [])) ∷
    -- of 3: 1, 2, 3, 5, 6 with the first index
    (outcome_3 (sized (negsuc 0) (pos 1) []) (row (minus_one ∷ [])) nan (lent 0 1), refusal (number 1)) ∷
    (outcome_3 (grid 0 3 []) (grid 3 0 (minus_one ∷ [])) nan (lent 0 1), refusal (number 2)) ∷
    (outcome_3 (row (1 ∷ [])) (row (minus_one ∷ [])) nan (record { lengths = 1 ∷ 1 ∷ []; queue_length = 1 }), refusal (number 3)) ∷
    (outcome_3 (row (1 ∷ [])) (row (inf true ∷ [])) nan (lent 1 1), refusal (number 5)) ∷
    (outcome_3 (row (1 ∷ 0 ∷ 0 ∷ [])) (row (nan ∷ inf true ∷ inf true ∷ [])) (inf true) (lent 3 1), refusal (number_at 6 1)) ∷
    -- of 4: 1, 2, 3, whose grids are accepted where every slice has its length
    (outcome_4 (sized (pos 32768) (pos 1) []) (row []) (lent 0 2), refusal (number 1)) ∷
    (outcome_4 (row (1 ∷ [])) (row []) (lent 1 2), refusal (number 2)) ∷
    (outcome_4 (row (1 ∷ [])) (row (nan ∷ [])) (lent 0 2), refusal (number 3)) ∷
    (outcome_4 (row (1 ∷ [])) (row (nan ∷ [])) (lent 1 2), takes_and_answer 1 (nan ∷ [])) ∷
    -- of 5: 1, 2, 3, 6
    (outcome_5 (row []) (row (minus_one ∷ [])) (sized (pos 32768) (pos 0) []) (lent 0 2), refusal (number 1)) ∷
    (outcome_5 (row (1 ∷ [])) (row (minus_one ∷ [])) (row []) (lent 1 2), refusal (number 2)) ∷
    (outcome_5 (row (1 ∷ [])) (row (minus_one ∷ [])) (grid 1 1 []) (lent 1 2), refusal (number 3)) ∷
    (outcome_5 (row (1 ∷ [])) (row (minus_one ∷ [])) (row (whole 1 ∷ [])) (lent 1 2), refusal (number_at 6 0)) ∷
    -- of 6: 1, 2, 3, 5, 6; -0.0 is no negative time
    (outcome_6 (sized (pos 0) (negsuc 0) []) (row (minus_one ∷ [])) (row []) nan (lent 0 2), refusal (number 1)) ∷
    (outcome_6 (row []) (row (minus_one ∷ [])) (row []) nan (lent 0 2), refusal (number 2)) ∷
    (outcome_6 (row (1 ∷ [])) (row (minus_one ∷ [])) (row (nan ∷ [])) nan (record { lengths = 1 ∷ 1 ∷ 1 ∷ []; queue_length = 0 }), refusal (number 3)) ∷
    (outcome_6 (row (1 ∷ [])) (row (minus_one ∷ [])) (row (nan ∷ [])) nan (lent 1 2), refusal (number 5)) ∷
    (outcome_6 (row (1 ∷ 0 ∷ [])) (row (neg plus_zero ∷ minus_one ∷ [])) (row (whole 1 ∷ whole 1 ∷ [])) (inf true) (lent 2 2), refusal (number_at 6 1)) ∷
    -- of 7: 1, 2, 3, 5 (NaN, 0, -0.0), 6 where 7 would be too, and 7 with the first mask cell in row order
    (outcome_7 (sized (pos 0) (pos 32768) []) (row (minus_one ∷ [])) (row []) nan false (lent 0 4), refusal (number 1)) ∷
    (outcome_7 (row []) (row (minus_one ∷ [])) (row (nan ∷ [])) nan false (lent 0 4), refusal (number 2)) ∷
    (outcome_7 (row (1 ∷ [])) (row (minus_one ∷ [])) (row (nan ∷ [])) nan false (lent 0 4), refusal (number 3)) ∷
    (outcome_7 (row (1 ∷ [])) (row (minus_one ∷ [])) (row (nan ∷ [])) nan false (lent 1 4), refusal (number 5)) ∷
    (outcome_7 (row (1 ∷ [])) (row (minus_one ∷ [])) (row (nan ∷ [])) plus_zero false (lent 1 4), refusal (number 5)) ∷
    (outcome_7 (row (1 ∷ [])) (row (minus_one ∷ [])) (row (nan ∷ [])) (neg plus_zero) false (lent 1 4), refusal (number 5)) ∷
    (outcome_7 (row (1 ∷ 0 ∷ 0 ∷ [])) (row (whole 2 ∷ whole 4 ∷ minus_one ∷ [])) (row (nan ∷ nan ∷ nan ∷ [])) (half 5) false (lent 3 4), refusal (number_at 6 2)) ∷
    (outcome_7 (row (0 ∷ 1 ∷ 1 ∷ [])) (row (plus_zero ∷ whole 4 ∷ whole 4 ∷ [])) (row (nan ∷ nan ∷ nan ∷ [])) (whole 3) true (lent 3 4), refusal (number_at 7 1)) ∷
    -- of 8: 1, 2, 3, 5, 6
    (outcome_8 (sized (pos 1025) (pos 1024) (minus_one ∷ [])) (row []) nan (lent 0 3), refusal (number 1)) ∷
    (outcome_8 (row (minus_one ∷ [])) (row []) nan (lent 1 3), refusal (number 2)) ∷
    (outcome_8 (row (minus_one ∷ [])) (grid 1 1 []) nan (lent 1 3), refusal (number 3)) ∷
    (outcome_8 (row (minus_one ∷ [])) (row (nan ∷ [])) minus_one (lent 1 3), refusal (number 5)) ∷
    (outcome_8 (row (nan ∷ minus_one ∷ [])) (row (nan ∷ nan ∷ [])) infinity (lent 2 3), refusal (number_at 6 1)) ∷
    -- a size that differs alone
    (outcome_5 (row (1 ∷ [])) (row []) (row (nan ∷ [])) (lent 1 2), refusal (number 2)) ∷
    (outcome_6 (row (1 ∷ [])) (row (minus_one ∷ [])) (row []) nan (lent 1 2), refusal (number 2)) ∷
    (outcome_7 (row (1 ∷ [])) (row []) (row (nan ∷ [])) nan false (lent 1 4), refusal (number 2)) ∷
    (outcome_7 (row (1 ∷ [])) (row (minus_one ∷ [])) (row []) nan false (lent 1 4), refusal (number 2)) ∷
    -- rows that differ alone, either way
    (outcome_2 (grid 1 0 []) (grid 2 0 []) bad_spacing Include (lent 0 1), refusal (number 2)) ∷
    (outcome_2 (grid 2 0 []) (grid 1 0 []) bad_spacing Include (lent 0 1), refusal (number 2)) ∷
    -- a grid that alone has not its length, and the last of the lent slices
    (outcome_1 (grid 1 1 []) bad_spacing (lent 1 1), refusal (number 3)) ∷
    (outcome_2 (grid 1 1 []) (row (0 ∷ [])) bad_spacing Include (lent 1 1), refusal (number 3)) ∷
    (outcome_3 (grid 1 1 []) (row (minus_one ∷ [])) nan (lent 1 1), refusal (number 3)) ∷
    (outcome_3 (row (1 ∷ [])) (grid 1 1 []) nan (lent 1 1), refusal (number 3)) ∷
    (outcome_4 (grid 1 1 []) (row (nan ∷ [])) (lent 1 2), refusal (number 3)) ∷
    (outcome_4 (row (1 ∷ [])) (grid 1 1 []) (lent 1 2), refusal (number 3)) ∷
    (outcome_5 (grid 1 1 []) (row (minus_one ∷ [])) (row (nan ∷ [])) (lent 1 2), refusal (number 3)) ∷
    (outcome_5 (row (1 ∷ [])) (grid 1 1 (minus_one ∷ minus_one ∷ [])) (row (nan ∷ [])) (lent 1 2), refusal (number 3)) ∷
    (outcome_6 (grid 1 1 []) (row (minus_one ∷ [])) (row (nan ∷ [])) nan (lent 1 2), refusal (number 3)) ∷
    (outcome_6 (row (1 ∷ [])) (grid 1 1 []) (row (nan ∷ [])) (whole 1) (lent 1 2), refusal (number 3)) ∷
    (outcome_6 (row (1 ∷ [])) (row (whole 1 ∷ [])) (grid 1 1 []) (whole 1) (lent 1 2), refusal (number 3)) ∷
    (outcome_7 (grid 1 1 []) (row (whole 1 ∷ [])) (row (whole 1 ∷ [])) (whole 1) false (lent 1 4), refusal (number 3)) ∷
    (outcome_7 (row (1 ∷ [])) (grid 1 1 []) (row (whole 1 ∷ [])) (whole 1) false (lent 1 4), refusal (number 3)) ∷
    (outcome_7 (row (1 ∷ [])) (row (whole 1 ∷ [])) (grid 1 1 []) (whole 1) false (lent 1 4), refusal (number 3)) ∷
    (outcome_8 (grid 1 1 []) (row (whole 1 ∷ [])) (whole 1) (lent 1 3), refusal (number 3)) ∷
    (outcome_8 (row (whole 1 ∷ [])) (row (whole 1 ∷ [])) (whole 1) (record { lengths = 1 ∷ 1 ∷ 1 ∷ 2 ∷ []; queue_length = 2 }), refusal (number 3)) ∷
    (outcome_8 (row (whole 1 ∷ [])) (row (whole 1 ∷ [])) (whole 1) (record { lengths = 1 ∷ 1 ∷ 1 ∷ 1 ∷ []; queue_length = 3 }), refusal (number 3)) ∷
    -- the eight neighbours in trying order: any other order loses the 1 in the middle
    (
      outcome_7 (grid 3 3 (0 ∷ 0 ∷ 0 ∷ 0 ∷ 1 ∷ 0 ∷ 0 ∷ 0 ∷ 0 ∷ [])) (grid 3 3 (replicate 9 (whole 1)))
          (grid 3 3 (large ∷ large ∷ large ∷ large ∷ whole 1 ∷ neg large ∷ neg large ∷ neg large ∷ neg large ∷ [])) (whole 9) false (lent 9 4),
      answer (plus_zero ∷ plus_zero ∷ plus_zero ∷ plus_zero ∷ whole 1 ∷ plus_zero ∷ plus_zero ∷ plus_zero ∷ plus_zero ∷ []),
    ) ∷
    -- 7 adds an adjacent cell once, though two listed cells are beside it
    (
      outcome_7 (grid 2 2 (1 ∷ 0 ∷ 0 ∷ 0 ∷ [])) (grid 2 2 (whole 1 ∷ whole 1 ∷ whole 1 ∷ nan ∷ [])) (grid 2 2 (whole 1 ∷ whole 2 ∷ whole 4 ∷ whole 8 ∷ [])) (whole 9) true (lent 4 4),
      takes_and_answer 3 (whole 15 ∷ plus_zero ∷ plus_zero ∷ plus_zero ∷ []),
    ) ∷
    -- K: a cell at the budget gains, one above it is entered and gains nothing, one at budget + 1 is not entered
    (outcome_8 (row (whole 2 ∷ whole 4 ∷ [])) (row (whole 5 ∷ plus_zero ∷ [])) (whole 4) (lent 2 3), answer (whole 5 ∷ whole 5 ∷ [])) ∷
    (outcome_8 (row (whole 2 ∷ whole 4 ∷ [])) (row (whole 5 ∷ plus_zero ∷ [])) (half 7) (lent 2 3), takes_and_answer 2 (whole 5 ∷ plus_zero ∷ [])) ∷
    (outcome_8 (row (whole 2 ∷ whole 4 ∷ [])) (row (whole 5 ∷ plus_zero ∷ [])) (whole 3) (lent 2 3), takes_and_answer 1 (whole 5 ∷ plus_zero ∷ [])) ∷
    -- 8 goes by diagonals too
    (outcome_8 (grid 2 2 (replicate 4 (whole 1))) (grid 2 2 (whole 5 ∷ plus_zero ∷ plus_zero ∷ plus_zero ∷ [])) (half 3) (lent 4 3), takes_and_answer 4 (replicate 4 (whole 5))) ∷
    -- a huge budget crosses a nodata time
    (outcome_8 (row (whole 1 ∷ nan ∷ [])) (row (whole 5 ∷ plus_zero ∷ [])) (of_bits binary32 0x7f7f_ffff) (lent 2 3), takes_and_answer 2 (whole 5 ∷ whole 5 ∷ [])) ∷
    -- inf and -inf in reach add up to NaN, and no amount is counted twice
    (outcome_8 (row (whole 1 ∷ whole 1 ∷ [])) (row (infinity ∷ neg infinity ∷ [])) (whole 1) (lent 2 3), takes_and_answer 4 (nan ∷ nan ∷ [])) ∷
    (outcome_8 (row (whole 1 ∷ whole 1 ∷ [])) (row (whole 5 ∷ whole 6 ∷ [])) (whole 9) (lent 2 3), takes_and_answer 4 (whole 11 ∷ whole 11 ∷ [])) ∷
    -- the amounts are added in row order: any other order loses another, or leaves the 1
    (
      outcome_8 (row (plus_zero ∷ plus_zero ∷ plus_zero ∷ [])) (row (large ∷ whole 1 ∷ neg large ∷ [])) (whole 1) (lent 3 3),
      takes_and_answer 9 (plus_zero ∷ plus_zero ∷ plus_zero ∷ []),
    ) ∷
    -- with n = 0 the answer is empty
    (outcome_1 (grid 0 3 []) (spacing infinity) (lent 0 1), takes_and_answer 0 []) ∷
    (outcome_7 (row []) (row []) (row []) (whole 3) true (lent 0 4), takes_and_answer 0 []) ∷
    (outcome_8 (grid 3 0 []) (grid 3 0 []) (whole 3) (lent 0 3), takes_and_answer 0 []) ∷
    -- a cell with nodata time is NaN in 3, and no way leads through it
    (outcome_3 (row (1 ∷ 0 ∷ 0 ∷ [])) (row (whole 2 ∷ nan ∷ whole 4 ∷ [])) infinity (lent 3 1), takes_and_answer 1 (plus_zero ∷ nan ∷ infinity ∷ [])) ∷
    -- and so is one with nodata target; no search starts from either
    (outcome_3 (row (1 ∷ 255 ∷ 0 ∷ [])) (row (whole 1 ∷ whole 1 ∷ whole 1 ∷ [])) infinity (lent 3 1), takes_and_answer 1 (plus_zero ∷ nan ∷ infinity ∷ [])) ∷
    (outcome_3 (row (1 ∷ 0 ∷ [])) (row (nan ∷ whole 2 ∷ [])) infinity (lent 2 1), takes_and_answer 0 (nan ∷ infinity ∷ [])) ∷
    -- 3 and 5 go by diagonals, and 4 finds the nearer target by one
    (outcome_3 (grid 2 2 (1 ∷ 0 ∷ 0 ∷ 0 ∷ [])) (grid 2 2 (whole 1 ∷ nan ∷ nan ∷ whole 1 ∷ [])) infinity (lent 4 1), takes_and_answer 2 (plus_zero ∷ nan ∷ nan ∷ diagonal ∷ [])) ∷ (
      outcome_5 (grid 2 2 (1 ∷ 0 ∷ 0 ∷ 0 ∷ [])) (grid 2 2 (whole 1 ∷ nan ∷ nan ∷ whole 1 ∷ [])) (grid 2 2 (whole 7 ∷ whole 9 ∷ whole 9 ∷ whole 9 ∷ [])) (lent 4 2),
      takes_and_answer 2 (whole 7 ∷ plus_zero ∷ plus_zero ∷ whole 7 ∷ []),
    ) ∷ (
      outcome_4 (grid 2 4 (1 ∷ 0 ∷ 0 ∷ 0 ∷ 0 ∷ 0 ∷ 0 ∷ 1 ∷ [])) (grid 2 4 (map whole (7 ∷ 0 ∷ 0 ∷ 0 ∷ 0 ∷ 0 ∷ 0 ∷ 9 ∷ []))) (lent 8 2),
      takes_and_answer 8 (map whole (7 ∷ 7 ∷ 9 ∷ 9 ∷ 7 ∷ 7 ∷ 9 ∷ 9 ∷ [])),
    ) ∷
    -- a target with nodata value does not start in 5
    (outcome_5 (row (1 ∷ 0 ∷ [])) (row (whole 1 ∷ whole 1 ∷ [])) (row (nan ∷ whole 9 ∷ [])) (lent 2 2), takes_and_answer 0 (nan ∷ plus_zero ∷ [])) ∷
    -- a target with nodata value passes NaN on in 4
    (outcome_4 (row (1 ∷ 0 ∷ [])) (row (nan ∷ whole 9 ∷ [])) (lent 2 2), takes_and_answer 2 (nan ∷ nan ∷ [])) ∷
    -- in 5 a target with nodata time starts, and a cell with nodata value is NaN
    (outcome_5 (row (1 ∷ 0 ∷ 0 ∷ [])) (row (nan ∷ whole 4 ∷ whole 1 ∷ [])) (row (whole 7 ∷ whole 9 ∷ nan ∷ [])) (lent 3 2), takes_and_answer 2 (whole 7 ∷ whole 7 ∷ nan ∷ [])) ∷
    -- a mask cell with nodata time is listed alone, nothing taken, and the cell beside it is adjacent
    (outcome_7 (row (1 ∷ 0 ∷ [])) (row (nan ∷ whole 4 ∷ [])) (row (whole 7 ∷ whole 9 ∷ [])) (whole 3) false (lent 2 4), takes_and_answer 0 (whole 7 ∷ plus_zero ∷ [])) ∷
    (outcome_7 (row (1 ∷ 0 ∷ [])) (row (nan ∷ whole 4 ∷ [])) (row (whole 7 ∷ whole 9 ∷ [])) (whole 3) true (lent 2 4), takes_and_answer 0 (whole 16 ∷ plus_zero ∷ [])) ∷
    -- adjacent cells are added after the list, above before below, left before right, below before left, and none by a diagonal: 1 + large is large
    (
      outcome_7 (grid 3 1 (0 ∷ 1 ∷ 0 ∷ [])) (grid 3 1 (nan ∷ whole 1 ∷ nan ∷ [])) (grid 3 1 (large ∷ whole 1 ∷ neg large ∷ [])) (whole 9) true (lent 3 4),
      takes_and_answer 1 (plus_zero ∷ plus_zero ∷ plus_zero ∷ []),
    ) ∷ (
      outcome_7 (row (0 ∷ 1 ∷ 0 ∷ [])) (row (nan ∷ whole 1 ∷ nan ∷ [])) (row (large ∷ whole 1 ∷ neg large ∷ [])) (whole 9) true (lent 3 4),
      takes_and_answer 1 (plus_zero ∷ plus_zero ∷ plus_zero ∷ []),
    ) ∷ (
      outcome_7 (grid 3 3 (0 ∷ 0 ∷ 0 ∷ 0 ∷ 1 ∷ 0 ∷ 0 ∷ 0 ∷ 0 ∷ [])) (grid 3 3 (nan ∷ nan ∷ nan ∷ nan ∷ whole 1 ∷ nan ∷ nan ∷ nan ∷ nan ∷ []))
          (grid 3 3 (whole 2 ∷ nan ∷ whole 4 ∷ neg large ∷ whole 1 ∷ nan ∷ whole 8 ∷ large ∷ whole 16 ∷ [])) (whole 9) true (lent 9 4),
      takes_and_answer 1 (replicate 9 plus_zero),
    ) ∷
    -- the cells beside the first listed cell come first
    (
      outcome_7 (row (0 ∷ 0 ∷ 1 ∷ 0 ∷ [])) (row (nan ∷ whole 1 ∷ whole 1 ∷ nan ∷ [])) (row (neg large ∷ plus_zero ∷ whole 1 ∷ large ∷ [])) (whole 9) true (lent 4 4),
      takes_and_answer 2 (replicate 4 plus_zero),
    ) ∷
    -- where no time is needed a distance stays the same, and no cell is taken again
    (outcome_3 (row (1 ∷ 0 ∷ [])) (row (plus_zero ∷ plus_zero ∷ [])) infinity (lent 2 1), takes_and_answer 2 (plus_zero ∷ plus_zero ∷ [])) ∷
    (outcome_5 (row (1 ∷ 0 ∷ [])) (row (plus_zero ∷ plus_zero ∷ [])) (row (whole 7 ∷ whole 9 ∷ [])) (lent 2 2), takes_and_answer 2 (whole 7 ∷ whole 7 ∷ [])) ∷
    (outcome_7 (row (1 ∷ 0 ∷ [])) (row (plus_zero ∷ plus_zero ∷ [])) (row (whole 7 ∷ whole 9 ∷ [])) (whole 3) false (lent 2 4), takes_and_answer 2 (whole 16 ∷ plus_zero ∷ [])) ∷
    -- 255 is an obstacle
    (outcome_2 (row (1 ∷ 0 ∷ [])) (row (0 ∷ 255 ∷ [])) (spacing plus_zero) Include (lent 2 1), takes_and_answer 1 (plus_zero ∷ infinity ∷ [])) ∷
    -- no diagonal leads onto an obstacle
    (outcome_2 (grid 2 2 (1 ∷ 0 ∷ 0 ∷ 0 ∷ [])) (grid 2 2 (0 ∷ 0 ∷ 0 ∷ 1 ∷ [])) (spacing plus_zero) Include (lent 4 1), takes_and_answer 3 (plus_zero ∷ whole 1 ∷ whole 1 ∷ infinity ∷ [])) ∷
    -- any other nonzero byte is a target
    (outcome_1 (row (254 ∷ 0 ∷ 2 ∷ [])) (spacing infinity) (lent 3 1), takes_and_answer 3 (plus_zero ∷ whole 1 ∷ plus_zero ∷ [])) ∷
    -- the cells beside a diagonal that leads to the left: both blocked in two rows of 2 and of 3, then one of them
    (outcome_2 (grid 2 2 (0 ∷ 1 ∷ 0 ∷ 0 ∷ [])) (grid 2 2 (1 ∷ 0 ∷ 0 ∷ 1 ∷ [])) (spacing plus_zero) Exclude (lent 4 1), takes_and_answer 1 (infinity ∷ plus_zero ∷ infinity ∷ infinity ∷ [])) ∷ (
      outcome_2 (grid 2 3 (0 ∷ 0 ∷ 1 ∷ 0 ∷ 0 ∷ 0 ∷ [])) (grid 2 3 (0 ∷ 1 ∷ 0 ∷ 0 ∷ 0 ∷ 1 ∷ [])) (spacing plus_zero) Exclude (lent 6 1),
      takes_and_answer 1 (infinity ∷ infinity ∷ plus_zero ∷ infinity ∷ infinity ∷ infinity ∷ []),
    ) ∷
    (outcome_2 (grid 2 2 (0 ∷ 1 ∷ 0 ∷ 0 ∷ [])) (grid 2 2 (1 ∷ 0 ∷ 0 ∷ 0 ∷ [])) (spacing plus_zero) Exclude (lent 4 1), answer (infinity ∷ plus_zero ∷ diagonal ∷ whole 1 ∷ [])) ∷
    (outcome_2 (grid 2 2 (0 ∷ 1 ∷ 0 ∷ 0 ∷ [])) (grid 2 2 (0 ∷ 0 ∷ 0 ∷ 1 ∷ [])) (spacing plus_zero) Exclude (lent 4 1), answer (whole 1 ∷ plus_zero ∷ diagonal ∷ infinity ∷ [])) ∷
    -- one side blocked, the other one
    (outcome_2 (grid 2 2 (1 ∷ 0 ∷ 0 ∷ 0 ∷ [])) (grid 2 2 (0 ∷ 0 ∷ 1 ∷ 0 ∷ [])) (spacing plus_zero) Exclude (lent 4 1), answer (plus_zero ∷ whole 1 ∷ infinity ∷ diagonal ∷ [])) ∷
    -- a nodata time in 8 is 0x7e7fffff, no more and no less: that is below the next number, and not below itself
    (outcome_8 (row (whole 1 ∷ nan ∷ [])) (row (whole 5 ∷ plus_zero ∷ [])) (of_bits binary32 0x7e80_0000) (lent 2 3), takes_and_answer 2 (whole 5 ∷ whole 5 ∷ [])) ∷
    (outcome_8 (row (whole 1 ∷ nan ∷ [])) (row (whole 5 ∷ plus_zero ∷ [])) (of_bits binary32 0x7e7f_ffff) (lent 2 3), takes_and_answer 1 (whole 5 ∷ plus_zero ∷ [])) ∷
    -- values are added from +0.0, and an amount of -0.0 is 0
    (outcome_7 (row (1 ∷ [])) (row (whole 1 ∷ [])) (row (neg plus_zero ∷ [])) (whole 9) false (lent 1 4), takes_and_answer 1 (plus_zero ∷ [])) ∷
    (outcome_8 (row (whole 1 ∷ [])) (row (neg plus_zero ∷ [])) (whole 9) (lent 1 3), takes_and_answer 0 (plus_zero ∷ [])) ∷
    -- an infinity is data: as a time of 3, and as a value of 4, 5, 6 and 7
    (outcome_3 (row (1 ∷ 0 ∷ [])) (row (whole 1 ∷ infinity ∷ [])) infinity (lent 2 1), takes_and_answer 1 (plus_zero ∷ infinity ∷ [])) ∷
    (outcome_4 (row (1 ∷ 0 ∷ [])) (row (infinity ∷ nan ∷ [])) (lent 2 2), takes_and_answer 2 (infinity ∷ infinity ∷ [])) ∷
    (outcome_5 (row (1 ∷ 0 ∷ [])) (row (whole 1 ∷ whole 1 ∷ [])) (row (infinity ∷ whole 9 ∷ [])) (lent 2 2), takes_and_answer 2 (infinity ∷ infinity ∷ [])) ∷
    (outcome_6 (row (1 ∷ 0 ∷ [])) (row (whole 1 ∷ whole 1 ∷ [])) (row (whole 7 ∷ neg infinity ∷ [])) (whole 9) (lent 2 2), takes_and_answer 2 (whole 7 ∷ whole 7 ∷ [])) ∷
    (outcome_7 (row (1 ∷ 0 ∷ [])) (row (whole 1 ∷ whole 1 ∷ [])) (row (whole 7 ∷ neg infinity ∷ [])) (whole 9) false (lent 2 4), takes_and_answer 2 (neg infinity ∷ plus_zero ∷ [])) ∷
    -- a cell size that is negative or NaN
    (outcome_1 (row (1 ∷ [])) (record { cell_size = minus_one; limit = infinity }) (lent 1 1), refusal (number 4)) ∷
    (outcome_1 (row (1 ∷ [])) (record { cell_size = nan; limit = infinity }) (lent 1 1), refusal (number 4)) ∷
    (outcome_2 (row (1 ∷ [])) (row (0 ∷ [])) (record { cell_size = neg infinity; limit = plus_zero }) Include (lent 1 1), refusal (number 4)) ∷
    -- the last cell is taken twice, at the root of 2 and at 1, and gains once; with the budget 1.25 only the second time
    (
      outcome_8 (grid 2 3 (plus_zero ∷ plus_zero ∷ plus_zero ∷ plus_zero ∷ whole 1 ∷ whole 1 ∷ [])) (grid 2 3 (plus_zero ∷ plus_zero ∷ plus_zero ∷ whole 5 ∷ plus_zero ∷ plus_zero ∷ [])) (whole 9) (lent 6 3),
      takes_and_answer 7 (replicate 6 (whole 5)),
    ) ∷ (
      outcome_8 (grid 2 3 (plus_zero ∷ plus_zero ∷ plus_zero ∷ plus_zero ∷ whole 1 ∷ whole 1 ∷ [])) (grid 2 3 (plus_zero ∷ plus_zero ∷ plus_zero ∷ whole 5 ∷ plus_zero ∷ plus_zero ∷ [])) (of_bits binary32 0x3fa0_0000) (lent 6 3),
      takes_and_answer 7 (replicate 6 (whole 5)),
    ) ∷
    -- more than twice as many takes as cells: the cell above right gains at the last of them
    (
      outcome_8 (grid 3 5 (map (λ k. div binary32 (whole k) (whole 64)) (0 ∷ 3 ∷ 0 ∷ 1 ∷ 2 ∷ 0 ∷ 16 ∷ 12 ∷ 0 ∷ 0 ∷ 8 ∷ 24 ∷ 32 ∷ 1 ∷ 16 ∷ [])))
          (grid 3 5 (map whole (0 ∷ 0 ∷ 0 ∷ 0 ∷ 0 ∷ 0 ∷ 0 ∷ 0 ∷ 0 ∷ 0 ∷ 0 ∷ 5 ∷ 0 ∷ 0 ∷ 0 ∷ []))) (of_bits binary32 0x3dad_0000) (lent 15 3),
      takes_and_answer 33 (map whole (5 ∷ 5 ∷ 5 ∷ 5 ∷ 5 ∷ 5 ∷ 0 ∷ 0 ∷ 5 ∷ 5 ∷ 0 ∷ 5 ∷ 0 ∷ 5 ∷ 0 ∷ [])),
    ) ∷ []

pub more_grids : all_heard more ≡ all_said more
unfolding more rules_computing
more_grids = refl

-- ---- what no small grid reaches

-- A run of which only the takes are looked at.
abbrev taking : ℕ → Run
taking takes = record { from = 0; takes = takes; ends = record { labels = []; waiting = []; entered = [] } }

-- A total above 18,446,744,073,709,551,615 is given as that number.
pub totals_of_takes :
    map total_takes ((taking 3 ∷ taking 18446744073709551611 ∷ []) ∷ (taking 3 ∷ taking 18446744073709551612 ∷ []) ∷ (taking 18446744073709551612 ∷ taking 4 ∷ []) ∷ [])
    ≡ 18446744073709551614 ∷ 18446744073709551615 ∷ 18446744073709551615 ∷ []
unfolding total_takes
totals_of_takes = refl

-- Of two judgements the first that refuses.
pub first_of_two :
    or_else passes passes ∷ or_else passes (stops (number 5)) ∷ or_else (stops (number 4)) passes ∷ or_else (stops (number 4)) (stops (number 5)) ∷ []
    ≡ passes ∷ stops (number 5) ∷ stops (number 4) ∷ stops (number 4) ∷ []
first_of_two = refl

-- ---- the bounds

-- 1024 by 1024 and 32,767 by 32 pass; 1025 by 1024, 32,768 by 1 and -1 by 1 don't.
pub sizes_in_bounds :
    map in_bounds (rows_by_cols (pos 1024) (pos 1024) ∷ rows_by_cols (pos 32767) (pos 32) ∷ rows_by_cols (pos 1025) (pos 1024) ∷ rows_by_cols (pos 32768) (pos 1) ∷ rows_by_cols (negsuc 0) (pos 1) ∷ [])
    ≡ true ∷ true ∷ false ∷ false ∷ false ∷ []
sizes_in_bounds = refl
