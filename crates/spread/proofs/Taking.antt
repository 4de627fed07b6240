-- A cell is taken: what the code does to the buffers is the machine's take of what they hold. Assumes nothing.
use mathlib.Core.Bool.{Bool, false, cond}
use mathlib.Core.List.{List, [], ◌∷◌, ◌++◌}
use mathlib.Core.Logic.{inl, ⊎_elim}
use mathlib.Core.Path.{◌≡◌, refl, sym, ap, ◌∙◌, subst}
use Prim.Native.Nat.{ℕ, ◌<◌}
use native.Mathlib.Nat.{lt_irrefl}
use native.Mathlib.Omega.{arith}
use lib.Ieee.{Float, nan}
use lib.ListN.{length, get_or, take}
use Rattle.cells.specs.Interior.{Interior, SaysInterior}
use Rattle.cells.specs.Neighbours.{CellOf, Lists}
use Rattle.cells.specs.Ring.{contents, none, HasCell, SaysEmpty}
use Rattle.cells.specs.declared.neighbours.Neighbours.{Neighbours}
use Rattle.cells.specs.declared.ring.Ring.{Ring}
use Rattle.cells.proofs.Interior.{eight_around}
use Rattle.fifo.specs.Machine.{Net, scan}
use Rattle.fifo.specs.Walk.{In}
use Rattle.fifo.proofs.Induction.{awaiting, take_is_scan}
use Rattle.fifo.proofs.Lists.{true_or_false, empty_or_not}
use Rattle.rules.specs.declared.Size.{Size}
use Rattle.rules.specs.Cells.{diagonal_neighbours}
use Rattle.rules.specs.Sizes.{count}
use Rattle.rules.specs.Values.{Carried}
use Rattle.spread.specs.declared.search.Search.{Search}
use Rattle.spread.specs.declared.relax.Left.{Left}
use Rattle.spread.specs.Nets.{carries}
use Rattle.spread.specs.Steps.{Terrain, paired, labelled, Numbers, numbers_of, straight_steps, diagonal_steps, all_steps, Follows}
use Rattle.spread.specs.Waiting.{Waiting, SomeWait, TookFirst}
use Rattle.spread.specs.Buffers.{Buffers, buffers, TookFrom, Good, Holds, Does, scanning}
use Rattle.spread.specs.Loop.{left_label, listed_steps, CanLeave, LeftCell, Looking, SaysNextInner, Scanning, ScanningAll, Taking, TookCell}
use Rattle.spread.proofs.Labels.{label_held}

-- ---- the cell that is left

module _ {distances carried : List Float} {cell : ℕ} where
  pub left_without_value :
      {carrying : Bool} {value : Float} → carrying ≡ false → LeftCell carrying distances carried cell (record { cell = cell; distance = get_or distances cell nan; value = value })
  left_without_value {carrying} {value} no_value = record {
    same_cell = refl;
    label = ap (λ b. (get_or distances cell nan, cond b value nan)) no_value ∙ sym (ap (λ b. (get_or distances cell nan, cond b (get_or carried cell nan) nan)) no_value);
  }

-- ---- the cell that is next

-- An answer that is no says nothing.
pub none_next : {size : Size} {queue : List ℕ} {ring : Ring} {answer : Bool} → answer ≡ false → SaysNextInner size queue ring answer
none_next refused = record { some = λ said. absurd (true_or_false said refused); inner = λ said. absurd (true_or_false said refused) }

module _ {size : Size} {queue : List ℕ} {ring : Ring} (looks : Looking size queue ring) where
  pub has_next : {answer : Bool} → SaysEmpty ring answer → answer ≡ false → HasCell queue ring
  has_next empty something = record {
    good = looks.in_slots;
    some =
        ⊎_elim (λ nothing. absurd (true_or_false (empty.says queue looks.in_slots ∙ ap none nothing) something)) (λ (u, ws, is). rw is (omega arith))
        (empty_or_not (contents queue ring));
  }

  module _ {next : ℕ} (is_next : next ≡ get_or (contents queue ring) 0 0) where
    pub next_cell : HasCell queue ring → CellOf size next
    next_cell has = record {
      bounds = looks.bounds;
      below = looks.inside next (rw is_next (first_in (contents queue ring) has.some));
    }
      where
        first_in : (cells : List ℕ) → 0 < length cells → In (get_or cells 0 0) cells
        first_in [] some = absurd (lt_irrefl 0 some)
        first_in (u ∷ us) some = inl refl

    pub next_inner : HasCell queue ring → {answer : Bool} → SaysInterior size next answer → SaysNextInner size queue ring answer
    next_inner has says = record {
      some = λ said. has.some;
      inner = λ said u ws is. subst (Interior size) (is_next ∙ ap (λ cells. get_or cells 0 0) is) (says.says said);
    }

-- ---- the take

module _
    {search : Search} {ground : Terrain} {distances carried : List Float} {marks queue : List ℕ} {ring : Ring}
    (takes : Taking search ground (buffers distances carried marks queue ring))
  where
    pub some_wait : SomeWait marks queue ring
    some_wait = record { waits = subst (λ n. Waiting n marks queue ring) (sym takes.good.marks_length) takes.good.waits; some = takes.some }

    module _ {marks' : List ℕ} {cell : ℕ} {ring' : Ring} (took : TookFirst marks queue ring marks' cell ring') where
      cell_inside : cell < count search.size
      cell_inside = rw takes.good.marks_length at took.inside

      good_taken : Good search (buffers distances carried marks' queue ring')
      good_taken = record {
        distances_length = takes.good.distances_length;
        carried_length = takes.good.carried_length;
        marks_length = took.same_length ∙ takes.good.marks_length;
        waits = subst (λ n. Waiting n marks' queue ring') takes.good.marks_length took.waits;
      }

      pub taken_inner : ((u : ℕ) (ws : List ℕ) → contents queue ring ≡ u ∷ ws → Interior search.size u) → Interior search.size cell
      taken_inner inner = inner cell (contents queue ring') took.split

      module _ {by : Numbers} (numbered : by ≡ numbers_of search.rule) where
        carrying_is : by.carrying ≡ carries search.rule
        carrying_is = ap (λ n. n.carrying) numbered

        pub can_leave : CanLeave by.carrying distances carried cell
        can_leave = record {
          distance_inside = rw takes.good.distances_length cell_inside;
          value_inside = λ carrying. rw (takes.good.carried_length (sym carrying_is ∙ carrying)) cell_inside;
        }

        module _ {left : Left} (leaves : LeftCell by.carrying distances carried cell left) where
          source_inside : left.cell < count search.size
          source_inside = rw leaves.same_cell cell_inside

          left_is : left_label search left ≡ labelled search.rule (get_or distances cell nan) (get_or carried cell nan)
          left_is = subst (λ b. paired b left.distance left.value ≡ paired b (get_or distances cell nan) (get_or carried cell nan)) carrying_is leaves.label

          pub scans_all : ScanningAll search by ground left.cell (buffers distances carried marks' queue ring')
          scans_all = record { numbered = numbered; good = good_taken; setting = takes.setting; source = source_inside }

          -- The machine takes the same cell, leaves the same others waiting, and scans the same steps from the same label.
          took_by :
              (steps : List (ℕ × (Carried → Carried))) → ((net : Net Carried) → Follows search ground net → net.nbrs cell ≡ steps)
              → {after : Buffers} → Does search (scanning (left_label search left) steps) (buffers distances carried marks' queue ring') after
              → TookCell search ground (buffers distances carried marks queue ring) after (record { cell = cell; distance = left.distance })
          took_by steps net_steps {after} does = record {
            good = does.good;
            head = λ u ws e. let same : u ∷ ws ≡ cell ∷ contents queue ring' = sym e ∙ took.split in cc;
            inside = cell_inside;
            at_distance = ap (λ l. l.0) leaves.label;
            holds = λ net follows t held u ws e.
                let head : u ∷ ws ≡ cell ∷ contents queue ring' = sym e ∙ held.waiting ∙ took.split in
                let same_head : u ≡ cell = cc in
                let same_tail : ws ≡ contents queue ring' = cc in
                subst (λ s. Holds search s after)
                (sym (take_is_scan net u ws t
                ∙ ap (λ d. scan net d (net.nbrs u) (awaiting ws t)) (label_held net held u (rw same_head cell_inside) ∙ ap (λ c. labelled search.rule (get_or distances c nan) (get_or carried c nan)) same_head ∙ sym left_is)
                ∙ ap (λ steps. scan net (left_label search left) steps (awaiting ws t)) (ap net.nbrs same_head ∙ net_steps net follows)))
                (does.holds net follows.nearest (awaiting ws t) (record { labels = held.labels; waiting = same_tail }));
            kept = does.kept;
          }

          -- All steps are the net's.
          pub took_all :
              {after : Buffers}
              → Does search (scanning (left_label search left) (all_steps search ground left.cell)) (buffers distances carried marks' queue ring') after
              → TookCell search ground (buffers distances carried marks queue ring) after (record { cell = cell; distance = left.distance })
          took_all = took_by (all_steps search ground left.cell) (λ net follows. follows.steps cell ∙ ap (all_steps search ground) (sym leaves.same_cell))

          -- And so are the listed steps, where the list is that of the neighbours.
          module _ (inner : Interior search.size cell) {near : Neighbours} (lists : Lists search.size cell near) where
            -- There are eight of them, four of them straight.
            four : near.straight ≡ 4
            four = (eight_around inner lists).0

            eight : near.count ≡ 8
            eight = (eight_around inner lists).1

            pub scans : Scanning search by ground left.cell near.cells 4 8 (buffers distances carried marks' queue ring')
            scans = record {
              numbered = numbered;
              good = good_taken;
              setting = takes.setting;
              source = source_inside;
              inside = lists.inside;
              eight = lists.eight;
              middle_most = omega arith;
              end_most = omega arith;
            }

            net_steps :
                (net : Net Carried) → Follows search ground net
                → net.nbrs cell ≡ listed_steps search ground left.cell near.cells 4 8
            net_steps net follows =
                follows.steps cell
                ∙ ap (λ l. straight_steps search ground cell l ++ diagonal_steps search ground cell (diagonal_neighbours search.size cell)) (sym lists.straight_ones)
                ∙ ap (λ l. straight_steps search ground cell (take near.straight near.cells) ++ diagonal_steps search ground cell l) (sym lists.diagonal_ones)
                ∙ ap (λ u. listed_steps search ground u near.cells near.straight near.count) (sym leaves.same_cell)
                ∙ rw (four, eight)

            pub took_listed :
                {after : Buffers}
                → Does search (scanning (left_label search left) (listed_steps search ground left.cell near.cells 4 8)) (buffers distances carried marks' queue ring') after
                → TookCell search ground (buffers distances carried marks queue ring) after (record { cell = cell; distance = left.distance })
            took_listed = took_by (listed_steps search ground left.cell near.cells 4 8) net_steps

-- ---- the same of what lent buffers hold after the take, before the neighbours are tried

module _ {search : Search} {ground : Terrain} {before mid : Buffers} {cell : ℕ} (takes : Taking search ground before) (took : TookFrom before mid cell) {by : Numbers} (numbered : by ≡ numbers_of search.rule) {left : Left} (leaves : LeftCell by.carrying mid.distances mid.carried cell left) where
  left_before : LeftCell by.carrying before.distances before.carried cell left
  left_before = subst (λ b. LeftCell by.carrying b.distances b.carried cell left) took.rest leaves

  pub took_all_from :
      {after : Buffers}
      → Does search (scanning (left_label search left) (all_steps search ground left.cell)) mid after
      → TookCell search ground before after (record { cell = cell; distance = left.distance })
  took_all_from {after} does =
      took_all takes took.first numbered left_before
      (subst (λ b. Does search (scanning (left_label search left) (all_steps search ground left.cell)) b after) took.rest does)

  pub took_listed_from :
      ((u : ℕ) (ws : List ℕ) → contents before.queue before.ring ≡ u ∷ ws → Interior search.size u)
      → {near : Neighbours} {after : Buffers} → Lists search.size cell near
      → Does search (scanning (left_label search left) (listed_steps search ground left.cell near.cells 4 8)) mid after
      → TookCell search ground before after (record { cell = cell; distance = left.distance })
  took_listed_from inner {near} {after} lists does =
      took_listed takes took.first numbered left_before (taken_inner takes took.first inner) lists
      (subst (λ b. Does search (scanning (left_label search left) (listed_steps search ground left.cell near.cells 4 8)) b after) took.rest does)
