-- Entries as they are found in the objects of a manifest.
use Rattle.std.proofs.Common.{◌≡◌, ℕ, ◌+◌, ℤ, pos, Bool, true, List, Option, Some, Result, Ok, Err, refl, sym, ap}
use Rattle.std.proofs.Common.{subst}
use Rattle.std.proofs.Common.{◌∙◌, ◌++◌}
use Rattle.std.proofs.lemmas.List.{append-nil}
use Rattle.contract_words.specs.Outcome.{◌>>=◌}
use Rattle.ice_meta.specs.Partitioning.{is_unpartitioned}
use Rattle.ice_manifest_fields.specs.Fields.{asked, record_at}
use Rattle.ice_manifest_fields.specs.Naming.{in_manifest, told}
use Rattle.ice_manifest_reading.specs.declared.data_file.DataFile.{DataFile}
use Rattle.ice_manifest_reading.specs.declared.status.Status.{Status}
use Rattle.ice_manifest_reading.specs.Manifests.{sequence_at, file_sequence_at, snapshot_at, live_at}
use Rattle.ice_manifest_reading.specs.Manifests.{file_of as said_file}
use Rattle.avro_schema.specs.Tree.{Tree, structure}
use Rattle.avro_schema.specs.View.{tree}
use Rattle.avro_file.specs.declared.object.Object.{Object}
use Rattle.avro_file.specs.Value.{Value}
use Rattle.avro_file.specs.Ahead.{Ahead, running, refusing}
use Rattle.avro_file.specs.Files.{Next, Shows}
use Rattle.avro_file.specs.Picking.{Typed}
use Rattle.avro_file_picked.specs.Finding.{is_structure}
use Rattle.ice_meta.specs.declared.spec.Spec.{Spec}
use Rattle.ice_manifest_fields.specs.declared.fault.ManifestFault.{ManifestFault}
use Rattle.ice_manifest_fields.specs.Schemas.{fields_in}
use Rattle.ice_manifest_fields.proofs.Joining.{joined}
use Rattle.ice_manifest_layouts.specs.declared.entry.FoundEntry.{FoundEntry}
use Rattle.ice_manifest_layouts.specs.declared.file.FoundFile.{FoundFile}
use Rattle.ice_manifest_layouts.specs.Seen.{entry_seen, record_met, file_of, file_seen, IsFile}
use Rattle.ice_manifest_fields.specs.Seen.{fields_seen}
use Rattle.ice_manifest_layouts.proofs.Shown.{entry_is, structure_is}
use Rattle.ice_manifest_reading.specs.declared.row.Row.{Row}
use Rattle.ice_manifest_reading.specs.declared.entry.Entry.{Entry}
use Rattle.ice_manifest_reading.specs.declared.entry.Live.{Live}
use Rattle.ice_manifest_reading.specs.Manifests.{entry_of, entries_ahead}
use Rattle.ice_manifest_reading.specs.Manifests.{unless_deleted}
use Rattle.ice_manifest_reading.specs.Collecting.{given_of, given_behind, live_behind}
use Rattle.ice_manifest_reading.specs.declared.status.Status.TheVariants.{Existing, Added, Deleted}
use Rattle.ice_manifest_reading.proofs.Collected.{next_given, given_fails}
use Rattle.ice_manifest_reading.proofs.Reading.{Is}

-- the value that the next object shows
pub shown_next : (now new : Ahead) (o : Object) → Next Shows now (Ok (Some o)) new → (v : Value) × Shows o v
shown_next (running vs ending) new o h = (h.0, h.2)
shown_next (refusing f) new o h = absurd (cc (h.0))

pub seen_is : (e : FoundEntry) (s : Tree) → tree e.object.schema.now ≡ s → is_structure s ≡ true
    → entry_seen e ≡ (structure (fields_in s), (entry_seen e).1)
unfolding entry_seen
seen_is e s same record_is = ap (λ (t : Tree). (t, (entry_seen e).1)) (same ∙ structure_is s record_is)

pub value_is : (e : FoundEntry) → Is e.object (entry_seen e).1
value_is e = λ v is. ap (λ (x : Typed). x.1) (entry_is e v is)

pub entry_given : {X : Type 0} (gives : Live → List X) (row : Row) (spec : Spec) (s : Tree) (k : ℕ)
    (front found : List X)
    (now new : Ahead) (e : FoundEntry) → Next Shows now (Ok (Some e.object)) new → tree e.object.schema.now ≡ s
    → is_structure s ≡ true → given_behind gives front (entry_of row spec k (entry_seen e)) ≡ Ok found
    → joined front (given_of gives (entries_ahead row spec (fields_in s) k now)) ≡ joined found
    (given_of gives (entries_ahead row spec (fields_in s) (k + 1) new))
entry_given {X} gives row spec s k front found now new e next same record_is is =
    next_given gives row spec (fields_in s) k front found now new e.object (entry_seen e).1 next (value_is e)
    (subst (λ (x : Typed). given_behind gives front (entry_of row spec k x) ≡ Ok found) (seen_is e s same record_is) is)

pub entry_at_fault : {X : Type 0} (gives : Live → List X) (row : Row) (spec : Spec) (s : Tree) (k : ℕ) (front : List X)
    (now new : Ahead) (e : FoundEntry) (f : ManifestFault) → Next Shows now (Ok (Some e.object)) new
    → tree e.object.schema.now ≡ s → is_structure s ≡ true
    → given_behind gives front (entry_of row spec k (entry_seen e)) ≡ Err f
    → joined front (given_of gives (entries_ahead row spec (fields_in s) k now)) ≡ Err f
entry_at_fault {X} gives row spec s k front now new e f next same record_is is =
    given_fails gives row spec (fields_in s) k front now new e.object (entry_seen e).1 f next (value_is e)
    (subst (λ (x : Typed). given_behind gives front (entry_of row spec k x) ≡ Err f) (seen_is e s same record_is) is)

-- the fields of a file's type
pub file_fields_are : (f : FoundFile) → IsFile f → fields_in (file_seen f).0 ≡ fields_seen f.fields.now
unfolding file_seen
file_fields_are f is = ap (λ (o : Option Typed). fields_in (record_met o).0) is.1.1

-- ---- a live entry

-- the record of an entry's file
record_here : (e : FoundEntry) (f : FoundFile) → IsFile f → f.entry.now ≡ e
    → record_at (pos 2) (entry_seen e) ≡ Ok (file_seen f)
unfolding file_seen
record_here e f is same =
    let here = ap file_of (sym same) ∙ is.1.1 in
    ap (asked (pos 2)) here ∙ ap (λ (o : Option Typed). Ok (record_met o)) (sym is.1.1)

-- an entry of a row
abbrev pub entry_with : Row → ℕ → Bool → ℤ → ℕ → Option ℕ → DataFile → Entry
entry_with row position unpartitioned snapshot sequence file_sequence file = record {
  position = position;
  spec_id = row.spec_id;
  unpartitioned = unpartitioned;
  snapshot_id = snapshot;
  sequence_number = sequence;
  file_sequence_number = file_sequence;
  file = file;
}

-- the numbers of an entry were read, and its file was found
pub record Numbered (row : Row) (spec : Spec) (status : Status) (e : FoundEntry) (f : FoundFile) (unpartitioned : Bool)
    (snapshot : ℤ) (sequence : ℕ) (file_sequence : Option ℕ) : Type 0 where
  pub open_is : unpartitioned ≡ is_unpartitioned spec
  pub snapshot_is : snapshot ≡ snapshot_at row (entry_seen e)
  pub sequence_is : Ok sequence ≡ sequence_at row status (entry_seen e)
  pub file_sequence_is : Ok file_sequence ≡ file_sequence_at row status (entry_seen e)
  pub is_file : IsFile f
  pub same : f.entry.now ≡ e
  pub partition_is : e.partition.now ≡ spec.fields

-- what its file says is what the entry does
pub live_goes : (row : Row) (spec : Spec) (position : ℕ) (status : Status) (e : FoundEntry) (f : FoundFile)
    (unpartitioned : Bool) (snapshot : ℤ) (sequence : ℕ) (file_sequence : Option ℕ)
    → Numbered row spec status e f unpartitioned snapshot sequence file_sequence
    → live_at row spec position status (entry_seen e) ≡
    (told in_manifest (said_file row.content f.entry.now.partition.now (file_seen f)) >>= λ said. Ok (record {
      entry = entry_with row position unpartitioned snapshot sequence file_sequence said.0;
      bounds = said.1;
    }))
unfolding live_at
live_goes row spec position status e f unpartitioned snapshot sequence file_sequence n =
    let here = record_here e f n.is_file n.same in
    let partition = sym (ap (λ (x : FoundEntry). x.partition.now) n.same ∙ n.partition_is) in
    rw (sym n.sequence_is, sym n.file_sequence_is, here, sym n.snapshot_is, sym n.open_is, partition) refl

-- an entry that is not deleted gives what a live one does
pub alive : {X : Type 0} (gives : Live → List X) (front : List X) (status : Status) (read : Result Live ManifestFault)
    → (status ≡ Deleted → ⊥)
    → given_behind gives front (unless_deleted status read) ≡ live_behind gives front read
alive {X} gives front Existing (Ok l) not = ap (λ (xs : List X). Ok (front ++ xs)) (append-nil (gives l))
alive {X} gives front Existing (Err f) not = refl
alive {X} gives front Added (Ok l) not = ap (λ (xs : List X). Ok (front ++ xs)) (append-nil (gives l))
alive {X} gives front Added (Err f) not = refl
alive {X} gives front Deleted read not = absurd (not refl)
