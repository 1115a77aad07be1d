-- What the faults of envelopes and of sections are called.
use Rattle.std.specs.Prelude.{List, Option, Some, None, Result, Ok, Err}
use Rattle.ice_manifest_fields.specs.declared.fault.ManifestFault.{ManifestFault}
use Rattle.ice_manifest_reading.specs.declared.entry.Entry.{Entry}
use Rattle.ice_state.specs.Readings.{Reading, Good, Bad}
use Rattle.ice_state_envelopes.specs.declared.fault.EnvelopeFault.{EnvelopeFault}
use Rattle.ice_state_envelopes.specs.declared.fault.EnvelopeFault.TheVariants as envelope
use Rattle.ice_state_sections.specs.declared.section_fault.SectionFault.{SectionFault}
use Rattle.ice_state_sections.specs.declared.section_fault.SectionFault.TheVariants as section
use Rattle.ice_state_bytes.specs.declared.fault.StateFault.{StateFault}
use Rattle.ice_state_bytes.specs.declared.fault.StateFault.TheVariants as state

abbrev pub of_envelope : EnvelopeFault → StateFault
of_envelope envelope.NotAState = state.NotAState
of_envelope envelope.OtherVersion = state.OtherVersion
of_envelope envelope.Damaged = state.Damaged
of_envelope envelope.OtherScan = state.OtherScan
of_envelope envelope.Memory = state.Memory

-- want of memory is never a fault of a section
abbrev pub of_section : SectionFault → StateFault
of_section section.NoSection = state.NotOfScan
of_section section.NotOfRow = state.NotOfScan
of_section section.Memory = state.Memory

-- what an envelope is read as
abbrev pub enveloped : {A : Type 0} → Result A EnvelopeFault → Result A StateFault
enveloped (Ok x) = Ok x
enveloped (Err f) = Err (of_envelope f)

-- what a section says that a row gave
abbrev pub said : Result (Result (List Entry) ManifestFault) SectionFault → Result Reading StateFault
said (Ok (Ok entries)) = Ok (Good entries)
said (Ok (Err fault)) = Ok (Bad fault)
said (Err f) = Err (of_section f)

-- what is there, where the scan has it
abbrev pub known : {A : Type 0} → Option A → Result A StateFault
known (Some x) = Ok x
known None = Err state.NotOfScan
