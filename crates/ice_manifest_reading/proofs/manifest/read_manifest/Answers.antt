use Rattle.std.proofs.Common.{Ok, sym, ap, ◌∙◌}
use Rattle.std.proofs.lemmas.Result.{err_from_is_err_and}
use Rattle.ice_manifest_reading.specs.Manifests.{live_of, entries_of}
use Rattle.ice_manifest_reading.proofs.Keeping.{all_kept}
use Rattle.ice_manifest_reading.proofs.manifest.read_manifest.Goals as goal

pub returns-in_err-views : goal.returns-in_err-views
unfolding entries_of
returns-in_err-views c =
    let p = err_from_is_err_and c.from_residual.result c.from_residual.ensures.1 in
    rw (p.1, p.2) (λ other. sym (all_kept (live_of c.args.row.now c.args.spec.now c.args.bytes.now))
    ∙ c.in_err-views.ensures other)

pub returns : goal.returns
unfolding entries_of
returns c =
    sym (all_kept (live_of c.args.row.now c.args.spec.now c.args.bytes.now))
    ∙ c.in_ok-views.ensures ∙ ap Ok (sym c.in_ok-owned.ensures)
