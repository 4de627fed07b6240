-- What holds of a search from its start after every count of takes, and where it ends.
use mathlib.Core.Bool.{false}
use mathlib.Core.List.{map}
use mathlib.Core.Path.{◌≡◌, ◌∙◌}
use Prim.Native.Nat.{ℕ, ◌*◌, ◌<◌}
use native.Mathlib.Omega.{arith}
use lib.ListN.{length, get_or, length-map, get_or-map}
use Rattle.fifo.specs.Machine.{Net, initial, label, run, finish}
use Rattle.fifo.specs.Walk.{NoDup}
use Rattle.fifo.specs.Laws.{Laws, Sound}
use Rattle.fifo.proofs.Lists.{get_d_any}
use Rattle.fifo.proofs.Sound.{label_initial, sound_run, sound_initial, closed_kept}

module _ {L : Type 0} {net : Net L} (laws : Laws net) (k : ℕ) where
  search_sound : Sound laws (run net k (initial net))
  search_sound = sound_run laws k (initial net) (sound_initial laws)

  -- No cell waits twice.
  pub waiting_single : NoDup (run net k (initial net)).waiting
  waiting_single = search_sound.single

  -- There are as many labels as cells.
  labels_length : length (run net k (initial net)).labels ≡ net.cells
  labels_length = search_sound.size

-- Where the search ends, a cell that may not be entered has its first label.
pub closed_first : {L : Type 0} {net : Net L} → Laws net → (c : ℕ) → net.enterable c ≡ false → label net (finish net) c ≡ net.first c
unfolding finish
closed_first {net = net} laws c closed = closed_kept laws c closed (net.cells * net.cells) (initial net) (sound_initial laws) ∙ label_initial net c

-- What is read off the labels where the search ends: there is one for each cell, and that of a cell is read off the cell's label.
module _ {L M : Type 0} {net : Net L} (laws : Laws net) (read : L → M) where
  finish_length : length (finish net).labels ≡ net.cells
  unfolding finish
  finish_length = labels_length laws (net.cells * net.cells)

  pub read_length : length (map read (finish net).labels) ≡ net.cells
  read_length = length-map (finish net).labels read ∙ finish_length

  pub read_at : (other : M) (c : ℕ) → c < net.cells → get_or (map read (finish net).labels) c other ≡ read (label net (finish net) c)
  unfolding label
  read_at other c inside =
      get_d_any (map read (finish net).labels) c other (read (net.first c)) (omega (arith, read_length))
      ∙ get_or-map read (finish net).labels c (net.first c)
