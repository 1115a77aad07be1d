-- A document whose snapshots have their sequence numbers says what the document says that leaves them out, and a commit
-- leaves none out.
use Rattle.std.proofs.Common.{◌≡◌, ℕ, List, [], Bool, true, false, ◌&&◌, ◌||◌, not, Option, None, Some, Ok, Err}
use Rattle.std.proofs.Common.{refl, sym, ◌∙◌, true≢false, bytes_eq}
use Rattle.std.specs.Prelude.{Result, option_and_then, unwrap_or, if◌then◌else◌}
use Rattle.std.specs.Option.{is_some}
use Rattle.contract_words.specs.Outcome.{◌>>=◌}
use Rattle.serde_json.specs.Data as json
use Rattle.serde_json.specs.Data.{Data, Items}
use Rattle.serde_json.specs.Find.{get, as_object}
use Rattle.ice_meta_json.specs.Objects.{natural, set, items_of, at_end}
use Rattle.ice_meta_json.specs.Upgraded.{snapshots, sequence_number, lacks_number, some_lacks, numbered, each_numbered}
use Rattle.ice_meta_json.specs.Upgraded.{snapshot_items, filled}
use Rattle.ice_meta_json.proofs.Filling.{either_filled}
use Rattle.ice_meta_json.proofs.Members.{set_same, set_other}
use Rattle.ice_meta.specs.declared.commit.NewSnapshot.{NewSnapshot}
use Rattle.ice_meta.specs.declared.fault.Member.{Member}
use Rattle.ice_meta.specs.declared.fault.Member.TheVariants as member
use Rattle.ice_meta.specs.declared.fault.MetaFault.{MetaFault}
use Rattle.ice_meta.specs.declared.table.Table.{Table}
use Rattle.ice_meta.specs.Laws.{SaysTheSame, StaysFilled}
use Rattle.ice_meta.specs.declared.fault.MetaFault.TheVariants.{WrongKind}
use Rattle.ice_meta.specs.Members.{asked, member_name, not_null, all_objects, long_in, int_in, sequence_number_in}
use Rattle.ice_meta.specs.Members.{sequence_number_or_zero, optional_long, optional_int, optional_text}
use Rattle.ice_meta.specs.Reading.{each, once}
use Rattle.ice_meta.specs.Tables.{version_in, uuid_in, location_in, schemas_in, current_schema_in, specs_in}
use Rattle.ice_meta.specs.Tables.{default_spec_in, current_snapshot_in, snapshot_id, snapshot_of, operation_in}
use Rattle.ice_meta.specs.Tables.{if_snapshots, snapshots_in, refs_in, table_of}
use Rattle.ice_meta.specs.Committing.{snapshot_json}
use Rattle.ice_meta.proofs.Following.{of_parent, base, is_snapshot_object, next_array, list_of, each_list}

-- ---- a commit

lacks_none : (t : Table) (s : NewSnapshot) → lacks_number (snapshot_json t s) ≡ false
unfolding snapshot_json
lacks_none t s =
    rw (is_snapshot_object t s, of_parent sequence_number t.current_snapshot_id (base t s) refl) refl

lacks_end : (x : Data) (ds : Items) → lacks_number x ≡ false → some_lacks ds ≡ false → some_lacks (at_end x ds) ≡ false
lacks_end x json.no_items has all = rw has refl
lacks_end x (json.item d ds) has all = here (lacks_number d) refl all (lacks_end x ds has)
  where
    here : (b : Bool) → lacks_number d ≡ b → (b || some_lacks ds) ≡ false
        → (some_lacks ds ≡ false → some_lacks (at_end x ds) ≡ false)
        → (lacks_number d || some_lacks (at_end x ds)) ≡ false
    here true e rest later = absurd (true≢false rest)
    here false e rest later = rw e (later rest)

pub next_is_filled : StaysFilled
next_is_filled d t s full =
    rw (next_array t s d) (lacks_end (snapshot_json t s) (snapshot_items d) (lacks_none t s) full)

-- ---- one after the other

both : {A B : Type 0} (r q : Result A MetaFault) (f g : A → Result B MetaFault) → r ≡ q → ((x : A) → f x ≡ g x)
    → (r >>= f) ≡ (q >>= g)
both r (Ok x) f g e same = rw e (same x)
both r (Err fault) f g e same = rw e refl

-- ---- a snapshot

-- e has the members of d but the sequence number
record OtherwiseSame (d e : Data) : Type 0 where
  pub others : (q : List ℕ) → bytes_eq q sequence_number ≡ false → get q e ≡ get q d
  pub number : sequence_number_or_zero member.SequenceNumber e ≡ sequence_number_or_zero member.SequenceNumber d

long_same : (m : Member) (d e : Data) → get (member_name m) e ≡ get (member_name m) d → long_in m e ≡ long_in m d
long_same m d e same = rw same refl

optional_long_same : (m : Member) (d e : Data) → get (member_name m) e ≡ get (member_name m) d
    → optional_long m e ≡ optional_long m d
optional_long_same m d e same = rw same refl

optional_int_same : (m : Member) (d e : Data) → get (member_name m) e ≡ get (member_name m) d
    → optional_int m e ≡ optional_int m d
optional_int_same m d e same = rw same refl

optional_text_same : (m : Member) (d e : Data) → get (member_name m) e ≡ get (member_name m) d
    → optional_text m e ≡ optional_text m d
optional_text_same m d e same = rw same refl

operation_same : (d e : Data) → get (member_name member.Summary) e ≡ get (member_name member.Summary) d
    → operation_in e ≡ operation_in d
operation_same d e same = rw same refl

same_snapshot : (d e : Data) → OtherwiseSame d e → snapshot_of e ≡ snapshot_of d
unfolding snapshot_of
same_snapshot d e s =
    both _ _ _ _ (long_same member.SnapshotId d e (s.others (member_name member.SnapshotId) refl)) (λ id.
    both _ _ _ _ (optional_long_same member.ParentSnapshotId d e (s.others (member_name member.ParentSnapshotId) refl))
    (λ parent_id.
    both _ _ _ _ s.number (λ number.
    both _ _ _ _ (long_same member.TimestampMs d e (s.others (member_name member.TimestampMs) refl)) (λ timestamp_ms.
    both _ _ _ _ (optional_text_same member.ManifestList d e (s.others (member_name member.ManifestList) refl))
    (λ manifest_list.
    both _ _ _ _ (operation_same d e (s.others (member_name member.Summary) refl)) (λ operation.
    both _ _ _ _ (optional_int_same member.SchemaId d e (s.others (member_name member.SchemaId) refl))
    (λ schema_id. refl)))))))

-- what lacks its number is an object, and has none
lacking : (d : Data) → lacks_number d ≡ true → (is_some (as_object d) ≡ true) × (get sequence_number d ≡ None)
lacking d e = here (is_some (as_object d)) (get sequence_number d) refl refl e
  where
    here : (b : Bool) (o : Option Data) → is_some (as_object d) ≡ b → get sequence_number d ≡ o
        → (b && not (is_some o)) ≡ true → (is_some (as_object d) ≡ true) × (get sequence_number d ≡ None)
    here true None is none now = (is, none)
    here true (Some x) is some now = absurd (true≢false (sym now))
    here false o is some now = absurd (true≢false (sym now))

set_is_same : (d : Data) → get sequence_number d ≡ None → OtherwiseSame d (set sequence_number (natural 0) d)
set_is_same d none = record {
  others = λ q other. set_other q sequence_number (natural 0) d other;
  number = rw (set_same sequence_number (natural 0) d, none) refl;
}

numbered_says : (d : Data) → snapshot_of (numbered d) ≡ snapshot_of d
numbered_says d = here (lacks_number d) refl
  where
    here : (b : Bool) → lacks_number d ≡ b → snapshot_of (numbered d) ≡ snapshot_of d
    here true e = rw e (same_snapshot d (set sequence_number (natural 0) d) (set_is_same d (lacking d e).1))
    here false e = rw e refl

numbered_object : (d : Data) → is_some (as_object (numbered d)) ≡ is_some (as_object d)
numbered_object d = here (lacks_number d) refl
  where
    here : (b : Bool) → lacks_number d ≡ b → is_some (as_object (numbered d)) ≡ is_some (as_object d)
    here true e = rw e (sym (lacking d e).0)
    here false e = rw e refl

-- ---- the snapshots

all_numbered : (ds : Items) → all_objects (each_numbered ds) ≡ all_objects ds
all_numbered json.no_items = refl
all_numbered (json.item d ds) = rw (numbered_object d, all_numbered ds) refl

list_numbered : (ds : Items) → list_of snapshot_of (each_numbered ds) ≡ list_of snapshot_of ds
unfolding list_of
list_numbered json.no_items = refl
list_numbered (json.item d ds) = rw (numbered_says d, list_numbered ds) refl

each_says : (ds : Items) → each snapshot_of (each_numbered ds) ≡ each snapshot_of ds
each_says ds =
    each_list snapshot_of (each_numbered ds) [] ∙ rw (list_numbered ds) (sym (each_list snapshot_of ds []))

array_says : (ds : Items) → if_snapshots (Some (json.array (each_numbered ds))) ≡ if_snapshots (Some (json.array ds))
array_says ds = rw (all_numbered ds) (here (all_objects ds))
  where
    here : (b : Bool)
        → (asked (WrongKind member.Snapshots) (if b then Some (each_numbered ds) else None) >>= λ items.
        each snapshot_of items >>= once snapshot_id)
        ≡ (asked (WrongKind member.Snapshots) (if b then Some ds else None) >>= λ items. each snapshot_of items >>= once
        snapshot_id)
    here true = rw (each_says ds) refl
    here false = refl

if_says : (o : Option Data) → some_lacks (items_of (unwrap_or o json.null)) ≡ true
    → if_snapshots (Some (json.array (each_numbered (items_of (unwrap_or o json.null)))))
    ≡ if_snapshots (option_and_then not_null o)
if_says None e = absurd (true≢false (sym e))
if_says (Some json.null) e = absurd (true≢false (sym e))
if_says (Some (json.boolean b)) e = absurd (true≢false (sym e))
if_says (Some (json.number n)) e = absurd (true≢false (sym e))
if_says (Some (json.string s)) e = absurd (true≢false (sym e))
if_says (Some (json.array ds)) e = array_says ds
if_says (Some (json.object ms)) e = absurd (true≢false (sym e))

-- ---- the table

-- e has the members of d but the snapshots, which say the same
record SaysAlike (d e : Data) : Type 0 where
  pub others : (q : List ℕ) → bytes_eq q snapshots ≡ false → get q e ≡ get q d
  pub snapshots : snapshots_in e ≡ snapshots_in d

version_same : (d e : Data) → SaysAlike d e → version_in e ≡ version_in d
unfolding version_in
version_same d e s = rw (s.others (member_name member.FormatVersion) refl) refl

uuid_same : (d e : Data) → SaysAlike d e → uuid_in e ≡ uuid_in d
unfolding uuid_in
uuid_same d e s = rw (s.others (member_name member.TableUuid) refl) refl

location_same : (d e : Data) → SaysAlike d e → location_in e ≡ location_in d
unfolding location_in
location_same d e s = rw (s.others (member_name member.Location) refl) refl

number_same : (d e : Data) → SaysAlike d e
    → sequence_number_in member.LastSequenceNumber e ≡ sequence_number_in member.LastSequenceNumber d
number_same d e s = rw (s.others (member_name member.LastSequenceNumber) refl) refl

int_same : (m : Member) (d e : Data) → get (member_name m) e ≡ get (member_name m) d → int_in m e ≡ int_in m d
int_same m d e same = rw same refl

schemas_same : (d e : Data) → SaysAlike d e → schemas_in e ≡ schemas_in d
unfolding schemas_in
schemas_same d e s = rw (s.others (member_name member.Schemas) refl) refl

current_schema_same : (schemas : List _) (d e : Data) → SaysAlike d e
    → current_schema_in schemas e ≡ current_schema_in schemas d
unfolding current_schema_in
current_schema_same schemas d e s = rw (s.others (member_name member.CurrentSchemaId) refl) refl

specs_same : (d e : Data) → SaysAlike d e → specs_in e ≡ specs_in d
unfolding specs_in
specs_same d e s = rw (s.others (member_name member.PartitionSpecs) refl) refl

default_spec_same : (specs : List _) (d e : Data) → SaysAlike d e → default_spec_in specs e ≡ default_spec_in specs d
unfolding default_spec_in
default_spec_same specs d e s = rw (s.others (member_name member.DefaultSpecId) refl) refl

current_same : (d e : Data) → SaysAlike d e → current_snapshot_in e ≡ current_snapshot_in d
unfolding current_snapshot_in
current_same d e s = rw (s.others (member_name member.CurrentSnapshotId) refl) refl

refs_same : (d e : Data) → SaysAlike d e → refs_in e ≡ refs_in d
unfolding refs_in
refs_same d e s = rw (s.others (member_name member.Refs) refl) refl

same_table : (d e : Data) → SaysAlike d e → table_of e ≡ table_of d
unfolding table_of
same_table d e s =
    both _ _ _ _ (version_same d e s) (λ version. both _ _ _ _ (uuid_same d e s) (λ uuid.
    both _ _ _ _ (location_same d e s) (λ location. both _ _ _ _ (number_same d e s) (λ number.
    both _ _ _ _ (long_same member.LastUpdatedMs d e (s.others (member_name member.LastUpdatedMs) refl)) (λ updated.
    both _ _ _ _ (int_same member.LastColumnId d e (s.others (member_name member.LastColumnId) refl)) (λ column.
    both _ _ _ _ (schemas_same d e s) (λ schemas. both _ _ _ _ (current_schema_same schemas d e s) (λ schema.
    both _ _ _ _ (specs_same d e s) (λ specs. both _ _ _ _ (default_spec_same specs d e s) (λ spec.
    both _ _ _ _ (int_same member.LastPartitionId d e (s.others (member_name member.LastPartitionId) refl))
    (λ partition.
    both _ _ _ _ (current_same d e s) (λ current. both _ _ _ _ s.snapshots (λ snapshots.
    both _ _ _ _ (refs_same d e s) (λ refs. refl))))))))))))))

set_snapshots : (d : Data) → some_lacks (snapshot_items d) ≡ true
    → snapshots_in (set snapshots (json.array (each_numbered (snapshot_items d))) d) ≡ snapshots_in d
unfolding snapshots_in
set_snapshots d e =
    rw (set_same snapshots (json.array (each_numbered (snapshot_items d))) d) (if_says (get snapshots d) e)

pub says_the_same : SaysTheSame
says_the_same d =
    either_filled (λ e. table_of e ≡ table_of d) d (λ _. refl) (λ e.
    same_table d _ (record {
      others = λ q other. set_other q snapshots (json.array (each_numbered (snapshot_items d))) d other;
      snapshots = set_snapshots d e;
    }))

pub still_object : (d : Data) → is_some (as_object d) ≡ true → is_some (as_object (filled d)) ≡ true
still_object d is = either_filled (λ e. is_some (as_object e) ≡ true) d (λ _. is) (λ _. refl)
