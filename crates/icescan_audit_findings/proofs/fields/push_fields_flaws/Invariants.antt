use Rattle.std.proofs.Common.{◌≡◌, ◌++◌, drop}
use Rattle.icescan_audit_findings.specs.FieldFlaws.{fields_flaws}
use Rattle.icescan_audit_findings.proofs.fields.push_fields_flaws.Given as goal

abbrev pub invariant-fields : goal.invariant-fields
invariant-fields l = l.flaws.items ++ fields_flaws l.bounds (drop l.i l.fields) (drop l.i l.tuple)
    ≡ l.fn.flaws.items ++ fields_flaws l.bounds l.fields l.tuple
