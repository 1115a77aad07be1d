-- What a row gave, as the body of a section: 0 and its kept entries, or 1 and the fault of its manifest.
use Rattle.std.specs.Prelude.{ℕ, List, length, Result, Ok, Err, ◌==◌, if◌then◌else◌}
use Rattle.std.specs.Global.{Vec}
use Rattle.contract_words.specs.Outcome.{◌>>=◌}
use Rattle.ice_meta.specs.declared.spec.Spec.{Spec}
use Rattle.ice_manifest_fields.specs.declared.fault.ManifestFault.{ManifestFault}
use Rattle.ice_manifest_reading.specs.declared.row.Row.{Row}
use Rattle.ice_manifest_reading.specs.declared.entry.Entry.{Entry}
use Rattle.ice_state_sections.specs.declared.section_fault.SectionFault.{SectionFault}
use Rattle.ice_state_sections.specs.declared.section_fault.SectionFault.TheVariants.{NoSection}
use Rattle.ice_state_sections.specs.Parts.{Read, made, number}
use Rattle.ice_state_sections.specs.Faults.{fault}
use Rattle.ice_state_sections.specs.Entries.{entries}

-- with nothing behind it
abbrev pub alone : {A : Type 0} → Read A → Result A SectionFault
alone read = read >>= λ x. if length x.1 == 0 then Ok x.0 else Err NoSection

abbrev pub given : Row → Spec → ℕ → List ℕ → Read (Result (List Entry) ManifestFault)
given row spec kind rest =
    if kind == 0 then made Ok (entries row spec rest) else (
    if kind == 1 then made Err (fault rest) else Err NoSection
    )

unfoldable pub section_at : Row → Spec → List ℕ → Result (Result (List Entry) ManifestFault) SectionFault
section_at row spec bytes = do
  kind ← number bytes
  alone (given row spec kind.0 kind.1)

-- what was found, wherever its entries lie in memory
abbrev pub found : Result (Vec Entry) ManifestFault → Result (List Entry) ManifestFault
found (Ok entries) = Ok entries.items
found (Err fault) = Err fault
