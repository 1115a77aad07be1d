use Rattle.std.proofs.Common.{◌≡◌, subst, sym}
use Rattle.icescan_audit_findings.specs.Places.{HasPlaces}
use Rattle.icescan_audit_findings.proofs.Standing.{finds_each}
use Rattle.icescan_audit_findings.proofs.places.found_by_id.Goals as goal

pub returns : goal.returns
returns c = λ by_id is.
    let same : by_id.pairs.now ≡ c.args.places.now = rw is at c.new.ensures in
    finds_each c.args.columns.now by_id.pairs.now by_id.rises
    (subst (HasPlaces c.args.columns.now) (sym same) c.requires)
