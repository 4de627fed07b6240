-- `request::parse` meets its contract: each way through the code is one of `Heads`. Assumes nothing.
use mathlib.Core.Path.{◌≡◌, sym, ap, ◌∙◌}
use Prim.Native.Nat.{ℕ}
use Rattle.std.proofs.Common.{Ok}
use Rattle.std.specs.Result.{result_ok}
use Rattle.gridfile.specs.Fields.{fields_from}
use Rattle.gridfile.specs.Request.{Search, search_number, as_request}
use Rattle.gridfile.specs.Lookups.{grids_in}
use Rattle.gridfile.proofs.SearchNumbers.{asked_search, asked_number, none_asked}
use Rattle.gridfile.proofs.Heads.{Headed, FoundAll, head_within, no_head, no_search, breached_grids, unfit, unfit_grids, good, only_bad}
use Rattle.gridfile.proofs.request.parse.Goals as goal
use Rattle.gridfile.proofs.request.parse.Goals.{After-read_head-head, In_ok-search, In_ok-grids, then-not-head_fits-via-then-not-head_fits, then-not-head_fits-via-else-not-head_fits+then-not-grids_fit}

headed : (c : After-read_head-head) → Headed c.args.file.now c.read_head-head.result
headed c = record { begins = sym c.has_head.ensures ∙ c.if-not-has_head.false; reads = c.read_head-head.ensures }

-- The head has the number of the search.
numbered : (c : In_ok-search) → c.read_head-head.result.search ≡ search_number c.in_ok-search.search
numbered c = asked_number _ _ (sym c.try_from.ensures ∙ c.in_ok-search.was)

all_there : (c : In_ok-grids) → Headed c.args.file.now c.read_head-head.result → c.read_head-head.result.search ≡ search_number c.in_ok-search.search → FoundAll c.args.file.now c.read_head-head.result c.in_ok-grids.grids
all_there c is number = record {
  headed = is;
  exact =
      ap (λ (k : ℕ). grids_in k (fields_from c.args.file.now 24)) number
      ∙ sym c.find_grids.ensures
      ∙ c.ok_or.ensures.ok_part
      ∙ ap result_ok c.in_ok-grids.was;
}

pub returns-then-not-has_head : goal.returns-then-not-has_head
returns-then-not-has_head c = sym (no_head c.args.file.now (sym c.has_head.ensures ∙ c.if-not-has_head.true))

pub returns-in_err-search : goal.returns-in_err-search
returns-in_err-search c =
    let at = goal.at.returns-in_err-search c in
    only_bad _ c.from_residual.ensures.0 ∙ sym (no_search (headed at.After-read_head-head) (none_asked c.read_head-head.result.search _ (sym c.try_from.ensures ∙ c.in_err-search.was)))

pub find_grids-requires : goal.find_grids-requires
find_grids-requires c = head_within c.args.file.now (sym c.has_head.ensures ∙ c.if-not-has_head.false)

pub returns-in_err-grids : goal.returns-in_err-grids
returns-in_err-grids c =
    let at = goal.at.returns-in_err-grids c in
    only_bad _ c.from_residual-in_err-grids.ensures.0
    ∙ sym (breached_grids (headed at.After-read_head-head)
    (ap (λ (k : ℕ). grids_in k (fields_from c.args.file.now 24)) (numbered at.In_ok-search)
    ∙ sym c.find_grids.ensures
    ∙ c.ok_or.ensures.ok_part
    ∙ ap result_ok c.in_err-grids.was))

pub returns-then-not-head_fits : goal.returns-then-not-head_fits
returns-then-not-head_fits c =
    let at = goal.at.returns-then-not-head_fits c in
    let head = headed at.After-read_head-head in
    elim c.then-not-head_fits.branch [
      | then-not-head_fits-via-then-not-head_fits w ↦ sym (unfit head (sym c.head_fits.ensures ∙ w.if-not-head_fits.true))
      | then-not-head_fits-via-else-not-head_fits+then-not-grids_fit w ↦
          sym (unfit_grids (all_there at.In_ok-grids head (numbered at.In_ok-search)) (sym c.head_fits.ensures ∙ w.if-not-head_fits.false) (sym w.grids_fit.ensures ∙ w.if-not-grids_fit.true))
    ]

pub returns : goal.returns
returns c =
    let at = goal.at.returns c in
    let head = c.read_head-head.result in
    let asked = asked_search head.search _ (sym c.try_from.ensures ∙ c.in_ok-search.was) in
    ap Ok (c.request_of.ensures ∙ ap (λ (s : Search). as_request s head c.in_ok-grids.grids) asked)
    ∙ sym (good (all_there at.In_ok-grids (headed at.After-read_head-head) (numbered at.In_ok-search)) (sym c.head_fits.ensures ∙ c.if-not-head_fits.false) (sym c.grids_fit.ensures ∙ c.if-not-grids_fit.false))
