use Rattle.ice_value.specs.declared.file_content.FileContent.TheVariants.{EqualityDeletes, PositionDeletes}
use Rattle.icescan_audit_findings.proofs.Dangled.{dangles, is_named, is_told, names}
use Rattle.icescan_audit_findings.proofs.laws.findings_tell_applying.Goals as goal

pub returns-clause-positions : goal.returns-clause-positions
returns-clause-positions c = λ files manifest path. (
  dangles PositionDeletes files manifest path (λ h. cc) (λ h. cc),
  is_told PositionDeletes files manifest path (λ h. cc) (λ h. cc),
)

pub returns-clause-equalities : goal.returns-clause-equalities
returns-clause-equalities c = λ files manifest path. (
  dangles EqualityDeletes files manifest path (λ h. cc) (λ h. cc),
  is_told EqualityDeletes files manifest path (λ h. cc) (λ h. cc),
)

pub returns-clause-named : goal.returns-clause-named
returns-clause-named c = λ files manifest path. (names files manifest path, is_named files manifest path)
