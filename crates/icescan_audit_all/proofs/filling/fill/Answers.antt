use Rattle.std.proofs.Common.{Some, subst, sym}
use Rattle.ice_manifest_reading.specs.declared.row.Row.{Row}
use Rattle.icescan_audit_all.proofs.filling.fill.Goals as goal

pub wants-preserved : goal.wants-preserved
wants-preserved g c =
    let gives = g.F.Files.gives c.args.files.now in
    record {
      held = subst (λ (row : Row). gives row.path (Some c.fill_one.new.bytes.items)) (sym c.get.ensures)
          c.in_ok-fill_one.ensures.held;
      kept = λ d classes. c.in_ok-fill_one.ensures.kept d classes (c.wants.invariant.kept d classes);
    }
