use Rattle.std.proofs.lemmas.List.Elements.{All-push}
use Rattle.ice_meta.specs.Targets.{described}
use Rattle.icescan_audit_all.specs.Snapshots.{IsClass}
use Rattle.icescan_audit_all.proofs.wanted.put_class.Goals as goal

pub returns-clause-class : goal.returns-clause-class
returns-clause-class c =
    rw c.in_ok-push.ensures.items
    (All-push (IsClass (described c.args.metadata.now.json c.args.metadata.now.table)) c.args.classes.now.items
    c.in_ok-class_of.field-0 c.requires c.in_ok-class_of.ensures.class)
