use Rattle.std.proofs.Common.{◌≡◌, map, take}
use Rattle.icescan_audit_findings.specs.FieldFlaws.{source_of}
use Rattle.icescan_audit_findings.proofs.fields.sources_in.Given as goal

abbrev pub invariant-fields : goal.invariant-fields
invariant-fields l = l.sources.items ≡ map source_of (take l.field-index l.fields)
