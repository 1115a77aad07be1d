use Rattle.std.proofs.Common.{sym, refl}
use Rattle.std.specs.FinMap as map
use Rattle.icescan_drill.proofs.Drills.{scan_there}
use Rattle.icescan_drill.proofs.drilled_table.scan_version.Goals as goal

pub returns-clause-scan : goal.returns-clause-scan
returns-clause-scan c =
    let world = c.args.world.now in
    let list = c.in_ok-list.list.now in
    let rows = rw c.as_str.ensures at (c.in_ok-rows.ensures.found (λ path. map.get world path) refl) in
    let scan = rw (c.into_vec.ensures, c.in_ok-specs.ensures, c.always.ensures.parts) at c.in_ok-new.ensures in
    scan_there _ list c.schema_for-schema.result.now c.in_ok-rows.rows.items c.in_ok-new.field-0
    c.in_ok-list.ensures.list (sym c.schema_for-schema.ensures) rows scan
