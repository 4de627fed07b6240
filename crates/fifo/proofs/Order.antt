-- What the laws of a net say of the order on labels.
use mathlib.Core.Bool.{true, false}
use mathlib.Core.Logic.{inl, inr, ⊎_elim}
use mathlib.Core.Path.{◌≡◌}
use Rattle.fifo.specs.Machine.{Net}
use Rattle.fifo.specs.Laws.{Laws, Held}
use Rattle.fifo.proofs.Lists.{tested, true_or_false}

module _ {L : Type 0} {net : Net L} (laws : Laws net) where
  pub not_below_itself : {x : L} → laws.Good x → net.below x x ≡ false
  not_below_itself {x} good = ⊎_elim (laws.asymmetric good good) (λ f. f) (tested (net.below x x))

  -- A label that something is below can travel.
  pub good_above : {x y : L} → laws.Good x → Held laws y → net.below x y ≡ true → laws.Good y
  good_above good (inl good_y) lower = good_y
  good_above {x} good (inr inert) lower = absurd (true_or_false lower (inert x good))

  -- What is not below a label is not below one that is lower.
  pub not_below_lower :
      {x y z : L} → laws.Good x → Held laws y → laws.Good z → net.below x y ≡ true → net.below z y ≡ false → net.below z x ≡ false
  not_below_lower good_x held good_z lower above =
      let good_y = good_above good_x held lower in
      laws.transitive good_x good_y good_z (laws.asymmetric good_x good_y lower) above

  pub below_trans :
      {x y z : L} → laws.Good x → laws.Good y → Held laws z → net.below x y ≡ true → net.below y z ≡ true → net.below x z ≡ true
  below_trans {x} {y} {z} good_x good_y held xy yz = ⊎_elim (λ t. t) (λ above. absurd (true_or_false xy (not_above above))) (tested (net.below x z))
    where
      not_above : net.below x z ≡ false → net.below x y ≡ false
      not_above above =
          let good_z = good_above good_y held yz in
          laws.transitive good_y good_z good_x (laws.asymmetric good_y good_z yz) above
