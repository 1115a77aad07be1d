-- The order in which a metadata file is checked: of several faults the first of this list is the one that is told.
use Rattle.std.specs.Prelude.{◌≡◌, ◌≢◌, ℕ, List, [], ◌∷◌, Option, None, Some, Result, Ok, Err}
use Rattle.std.specs.Option.{option_or}
use Rattle.contract_words.specs.Outcome.{◌>>=◌}
use Rattle.serde_json.specs.Data.{Data}
use Rattle.ice_meta.specs.declared.fault.Member.TheVariants as member
use Rattle.ice_meta.specs.declared.fault.MetaFault.{MetaFault}
use Rattle.ice_meta.specs.declared.fault.MetaFault.TheVariants.{Memory}
use Rattle.ice_meta.specs.Members.{long_in, int_in, sequence_number_in}
use Rattle.ice_meta.specs.Tables.{json_of, version_in, uuid_in, location_in, schemas_in, current_schema_in, specs_in}
use Rattle.ice_meta.specs.Tables.{default_spec_in, current_snapshot_in, snapshots_in, refs_in}

-- the fault of what is read, where there is one
abbrev pub fault_of : {A : Type 0} → Result A MetaFault → Option MetaFault
fault_of (Ok x) = None
fault_of (Err fault) = Some fault

-- the checks of the members, one after the other
abbrev pub checks : Data → List (Option MetaFault)
checks d =
    fault_of (version_in d)
    ∷ fault_of (uuid_in d)
    ∷ fault_of (location_in d)
    ∷ fault_of (sequence_number_in member.LastSequenceNumber d)
    ∷ fault_of (long_in member.LastUpdatedMs d)
    ∷ fault_of (int_in member.LastColumnId d)
    ∷ fault_of (schemas_in d)
    ∷ fault_of (schemas_in d >>= λ schemas. current_schema_in schemas d)
    ∷ fault_of (specs_in d)
    ∷ fault_of (specs_in d >>= λ specs. default_spec_in specs d)
    ∷ fault_of (int_in member.LastPartitionId d)
    ∷ fault_of (current_snapshot_in d)
    ∷ fault_of (snapshots_in d)
    ∷ fault_of (refs_in d)
    ∷ []

-- the first fault of a list of checks
abbrev pub first_fault : List (Option MetaFault) → Option MetaFault
first_fault [] = None
first_fault (c ∷ cs) = option_or c (first_fault cs)

abbrev pub fault_in : Result Data MetaFault → Option MetaFault
fault_in (Err fault) = Some fault
fault_in (Ok d) = first_fault (checks d)

-- the first fault of the bytes of a metadata file: that they are no JSON object, or that of its members
abbrev pub metadata_fault : List ℕ → Option MetaFault
metadata_fault bytes = fault_in (json_of bytes)

-- A call that read metadata met no fault; one that did not tells the first, unless memory ran out.
abbrev pub IsFirst : {X : Type 0} → Result X MetaFault → Option MetaFault → Type 0
IsFirst (Ok x) fault = fault ≡ None
IsFirst (Err e) fault = e ≢ Memory → fault ≡ Some e
