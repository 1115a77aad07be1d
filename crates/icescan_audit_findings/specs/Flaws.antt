-- A flaw that is found, or none.
use Rattle.std.specs.Prelude.{Bool, List, [], ◌∷◌, if◌then◌else◌}
use Rattle.icescan_audit_findings.specs.declared.finding.Flaw.{Flaw}

abbrev pub flaw_where : Bool → Flaw → List Flaw
flaw_where found flaw = if found then flaw ∷ [] else []
