use Rattle.std.proofs.Common.{Ok, sym, ap, ◌∙◌}
use Rattle.std.specs.Option.{option_copied}
use Rattle.std.proofs.lemmas.Result.{err_from_is_err_and}
use Rattle.ice_manifest_reading.proofs.SummariesSaid.{summary_made, summary_without_null}
use Rattle.ice_manifest_reading.proofs.SummariesSaid.{null_asked, nan_asked, lower_asked, upper_asked}
use Rattle.ice_manifest_reading.proofs.summaries.summary_in.Goals as goal

pub returns-in_err-contains_null : goal.returns-in_err-contains_null
returns-in_err-contains_null c =
    let p = err_from_is_err_and c.from_residual.result c.from_residual.ensures.1 in
    rw (p.1, p.2) (λ t v is there other. summary_without_null (t, v)
    c.in_err-contains_null.field-0.0 (c.in_err-contains_null.ensures is.0 t v is.1 (null_asked is.0 is.2) there))

pub returns : goal.returns
returns c = λ t v is there.
    summary_made (t, v) c.in_ok-contains_null.contains_null c.truth_in-contains_nan.result
    (option_copied c.binary_in-lower.result) (option_copied c.binary_in-upper.result)
    (c.in_ok-contains_null.ensures is.0 t v is.1 (null_asked is.0 is.2) there)
    (c.truth_in-contains_nan.ensures is.0 t v is.1 (nan_asked is.0 is.2) there)
    (c.binary_in-lower.ensures is.0 t v is.1 (lower_asked is.0 is.2) there)
    (c.binary_in-upper.ensures is.0 t v is.1 (upper_asked is.0 is.2) there)
    ∙ ap Ok (sym c.in_ok-new.ensures)
