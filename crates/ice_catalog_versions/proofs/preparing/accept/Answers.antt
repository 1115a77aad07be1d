use Rattle.std.proofs.Common.{◌≡◌, Some, Ok, ap, ◌∙◌, sym, subst}
use Rattle.std.specs.Arc.{arc_value}
use Rattle.std.proofs.lemmas.Result.{err_from_is_err_and}
use Rattle.ice_meta.specs.Targets.{Described, described}
use Rattle.ice_catalog_changes.specs.declared.change.Change.{Change}
use Rattle.ice_catalog_changes.specs.declared.change.Commit.{Commit}
use Rattle.ice_catalog_versions.specs.Histories.{Step, added_on}
use Rattle.ice_catalog_versions.specs.Live.{AddsToBase}
use Rattle.ice_catalog_versions.specs.States.{State}
use Rattle.ice_catalog_versions.proofs.Live.{adds_to_base}
use Rattle.ice_catalog_versions.proofs.Replays.{added_done, prepared_done, prepared_refused}
use Rattle.ice_catalog_versions.proofs.preparing.accept.Goals as goal

pub returns-in_err-accepted-clause-prepared : goal.returns-in_err-accepted-clause-prepared
returns-in_err-accepted-clause-prepared c =
    let s : State = record {
      metadata = described c.state.result.0.now.json c.state.result.0.now.table;
      world = c.state.result.1.now;
    } in
    let commit : Commit = record { change = c.args.change.now; ids = c.args.ids } in
    let p = err_from_is_err_and c.from_residual-in_err-accepted.result c.from_residual-in_err-accepted.ensures.1 in
    rw (p.1, p.2) (λ other. prepared_refused c.args.base.now s c.state.ensures commit _
    (c.in_err-accepted.ensures.refuses other))

pub returns-clause-commit : goal.returns-clause-commit
returns-clause-commit c =
    c.in_ok-commit.ensures.ok ∙ ap (λ (x : Change). let made : Commit = record { change = x; ids = c.args.ids } in made)
    c.in_ok-change.ensures

pub returns-clause-prepared : goal.returns-clause-prepared
returns-clause-prepared c =
    let s : State = record {
      metadata = described c.state.result.0.now.json c.state.result.0.now.table;
      world = c.state.result.1.now;
    } in
    let commit : Commit = record { change = c.args.change.now; ids = c.args.ids } in
    prepared_done c.args.base.now s c.state.ensures commit c.in_ok-accepted.ensures.refuses
    ∙ ap Ok (sym (ap (λ (x : Commit). let p : Step = record { base = c.args.base.now; commit = x } in p)
    (returns-clause-commit c)))

pub returns-clause-adds : goal.returns-clause-adds
returns-clause-adds c =
    let m : Described = described c.state.result.0.now.json c.state.result.0.now.table in
    let s : State = record { metadata = m; world = c.state.result.1.now } in
    let commit : Commit = record { change = c.args.change.now; ids = c.args.ids } in
    subst (AddsToBase c.args.base.now) (sym (returns-clause-commit c))
    (adds_to_base c.args.base.now s c.state.ensures commit c.in_ok-accepted.ensures.refuses c.state.result.0.now.says
    c.in_ok-files.ensures.read c.in_ok-files.ensures.list)

pub returns-clause-files : goal.returns-clause-files
returns-clause-files c =
    let m : Described = described c.state.result.0.now.json c.state.result.0.now.table in
    let s : State = record { metadata = m; world = c.state.result.1.now } in
    let commit : Commit = record { change = c.args.change.now; ids = c.args.ids } in
    ap (added_on c.args.base.now) (returns-clause-commit c)
    ∙ (added_done c.args.base.now s c.state.ensures commit ∙ ap Some (sym c.in_ok-files.ensures.files))
