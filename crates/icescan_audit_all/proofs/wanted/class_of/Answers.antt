use Rattle.std.proofs.Common.{rules, sym}
use Rattle.ice_meta.specs.Targets.{described}
use Rattle.icescan_audit_all.proofs.Bases.{class_made}
use Rattle.icescan_audit_all.proofs.wanted.class_of.Goals as goal

pub returns-clause-class : goal.returns-clause-class
returns-clause-class c =
    class_made (described c.args.metadata.now.json c.args.metadata.now.table) _ c.in_ok-subject.subject
    c.schema_for.result.now _ c.args.listed.now.has_deletes (search rules) c.in_ok-subject.ensures.gives
    (sym c.schema_for.ensures)
