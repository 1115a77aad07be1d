-- The JSON of a commit says the table of the commit.
use Rattle.std.proofs.Common.{◌≡◌, ◌<◌, ◌^◌, ℕ, suc, Bool, true, false, ◌&&◌, ◌||◌, List, [], ◌∷◌, ◌++◌, map}
use Rattle.std.proofs.Common.{append-nil, append_assoc, codes, Option, None, Some, Ok, Err, Ordering, Less, Equal}
use Rattle.std.proofs.Common.{Greater, refl, sym, ap, subst, ◌∙◌, true≢false, bytes_eq, nat_lt, arith}
use Rattle.std.proofs.lemmas.Bool.{lt-ltb, ltb-true}
use Rattle.std.specs.Prelude.{ℤ, pos, negsuc, Result, find, unwrap_or, option_and_then, if◌then◌else◌}
use Rattle.ice_meta.proofs.Kept.{once_is}
use Rattle.std.specs.Option.{is_some, IfSome}
use Rattle.std.specs.List.{list_any}
use Rattle.std.specs.Ordering.{nat_cmp, is_eq, int_eq, match_ordering}
use Rattle.std.specs.Cmp.Lexicographic.{slice_cmp}
use Rattle.std.proofs.lemmas.Map.Text.{is_eq-slice_cmp}
use Rattle.std.proofs.lemmas.Slice.Eq.{bytes_eq-Decides}
use Rattle.contract_words.specs.Outcome.{◌>>=◌}
use Rattle.serde_json.specs.Data as json
use Rattle.serde_json.specs.Data.{Data, Items, Members, put}
use Rattle.serde_json.specs.Find.{get, as_i64, as_object, of_integer}
use Rattle.ice_meta.specs.declared.commit.NewSnapshot.{NewSnapshot}
use Rattle.ice_meta.specs.declared.fault.Member.{Member}
use Rattle.ice_meta.specs.declared.fault.Member.TheVariants as member
use Rattle.ice_meta.specs.declared.fault.MetaFault.{MetaFault}
use Rattle.ice_meta.specs.declared.table.Table.{Table}
use Rattle.ice_meta.specs.declared.fault.MetaFault.TheVariants.{WrongKind}
use Rattle.ice_meta.specs.declared.schema.Schema.{Schema}
use Rattle.ice_meta.specs.declared.spec.Spec.{Spec}
use Rattle.ice_meta.specs.declared.snapshot.Ref.{Ref}
use Rattle.ice_meta.specs.declared.snapshot.Snapshot.{Snapshot}
use Rattle.ice_meta.specs.Laws.{SaysTheNext, WritesTheUuid, ReadsTheUuid, UpdatesAtItsTime, LogsItsTime}
use Rattle.ice_meta.specs.Laws.{KeepsOtherMembers}
use Rattle.ice_meta.specs.Members.{asked, there, long_of, member_name, not_null, all_objects, if_int, long_in, int_in}
use Rattle.ice_meta.specs.Members.{sequence_number_in, sequence_number_or_zero, text_in, optional_long, optional_int}
use Rattle.ice_meta.specs.Members.{optional_text}
use Rattle.ice_meta.specs.Reading as reading
use Rattle.ice_meta.specs.Reading.{each, each_into, again, once}
use Rattle.ice_meta.specs.Tables.{if_among, version_in, uuid_in, location_in, schemas_in, current_schema_in, specs_in}
use Rattle.ice_meta.specs.Tables.{default_spec_in, current_snapshot_in, snapshot_id, snapshot_of, operation_of}
use Rattle.ice_meta.specs.Tables.{operation_in, if_snapshots, snapshots_in, object_of, kind_of, each_ref, ref_of}
use Rattle.ice_meta.specs.Tables.{if_refs, refs_in, table_of}
use Rattle.ice_meta_json.specs.Objects.{inside, members_of, set, items_of, at_end, one_more, no_object, whole, natural}
use Rattle.ice_meta_json.proofs.Members.{set_same, set_other}
use Rattle.ice_meta.specs.Committing.{operation_name, summary_json, with_parent, snapshot_json, log_json, branch_to}
use Rattle.ice_meta.specs.Committing.{refs_json, with_refs, with_log, with_snapshots, uuid_json, next_json}
use Rattle.ice_meta.specs.Committing.{written_members, HasTime, IsLong, AreLongs, CanFollow}
use Rattle.ice_meta.specs.Committing.{new_snapshot, main_at, placed, next_table}
use Rattle.ice_meta.specs.Logs.{last_behind, last_of, time_of}
use Rattle.ice_meta.proofs.Uuids.{reads_again}
use Rattle.uuid.specs.Text.{parsed}

-- ---- members of the next metadata

pub record Apart (q : List ℕ) : Type 0 where
  pub uuid : bytes_eq q (member_name member.TableUuid) ≡ false
  pub number : bytes_eq q (member_name member.LastSequenceNumber) ≡ false
  pub updated : bytes_eq q (member_name member.LastUpdatedMs) ≡ false
  pub current : bytes_eq q (member_name member.CurrentSnapshotId) ≡ false
  pub snapshots : bytes_eq q (member_name member.Snapshots) ≡ false
  pub log : bytes_eq q (codes "snapshot-log") ≡ false
  pub refs : bytes_eq q (member_name member.Refs) ≡ false

-- what a member is
Has : List ℕ → Data → Option Data → Type 0
Has q d o = get q d ≡ o

here : (q : List ℕ) (x d : Data) → Has q (set q x d) (Some x)
unfolding Has
here q x d = set_same q x d

past : (q k : List ℕ) (x d : Data) (o : Option Data) → bytes_eq q k ≡ false → Has q d o → Has q (set k x d) o
unfolding Has
past q k x d o other old = set_other q k x d other ∙ old

old : (q : List ℕ) (d : Data) → Has q d (get q d)
unfolding Has
old q d = refl

found : (q : List ℕ) (d : Data) (o : Option Data) → Has q d o → get q d ≡ o
unfolding Has
found q d o h = h

stays_has : (q : List ℕ) (t : Table) (s : NewSnapshot) (d : Data) → Apart q → Has q (next_json t s d) (get q d)
unfolding next_json
stays_has q t s d a =
    past q (member_name member.TableUuid) (uuid_json t.uuid) _ _ a.uuid
    (past q (member_name member.LastSequenceNumber) (natural (suc t.last_sequence_number)) _ _ a.number
    (past q (member_name member.LastUpdatedMs) (whole s.timestamp_ms) _ _ a.updated
    (past q (member_name member.CurrentSnapshotId) (whole s.id) _ _ a.current
    (past q (member_name member.Snapshots) _ (with_log s (with_refs s d)) _ a.snapshots
    (past q (codes "snapshot-log") _ (with_refs s d) _ a.log
    (past q (member_name member.Refs) _ d _ a.refs (old q d)))))))

pub stays : (q : List ℕ) (t : Table) (s : NewSnapshot) (d : Data) → Apart q → get q (next_json t s d) ≡ get q d
stays q t s d a = found q _ _ (stays_has q t s d a)

uuid_has : (t : Table) (s : NewSnapshot) (d : Data)
    → Has (member_name member.TableUuid) (next_json t s d) (Some (uuid_json t.uuid))
unfolding next_json
uuid_has t s d = here (member_name member.TableUuid) (uuid_json t.uuid)
    (set (member_name member.LastSequenceNumber) (natural (suc t.last_sequence_number))
    (set (member_name member.LastUpdatedMs) (whole s.timestamp_ms) (set (member_name member.CurrentSnapshotId)
    (whole s.id) (with_snapshots t s (with_log s (with_refs s d))))))

number_has : (t : Table) (s : NewSnapshot) (d : Data) → Has (member_name member.LastSequenceNumber) (next_json t s d)
    (Some (natural (suc t.last_sequence_number)))
unfolding next_json
number_has t s d =
    let name = member_name member.LastSequenceNumber in
    past name (member_name member.TableUuid) (uuid_json t.uuid) _ _ refl
    (here name (natural (suc t.last_sequence_number))
    (set (member_name member.LastUpdatedMs) (whole s.timestamp_ms) (set (member_name member.CurrentSnapshotId)
    (whole s.id) (with_snapshots t s (with_log s (with_refs s d))))))

updated_has : (t : Table) (s : NewSnapshot) (d : Data)
    → Has (member_name member.LastUpdatedMs) (next_json t s d) (Some (whole s.timestamp_ms))
unfolding next_json
updated_has t s d =
    let name = member_name member.LastUpdatedMs in
    past name (member_name member.TableUuid) (uuid_json t.uuid) _ _ refl
    (past name (member_name member.LastSequenceNumber) (natural (suc t.last_sequence_number)) _ _ refl
    (here name (whole s.timestamp_ms) (set (member_name member.CurrentSnapshotId) (whole s.id)
    (with_snapshots t s (with_log s (with_refs s d))))))

current_has : (t : Table) (s : NewSnapshot) (d : Data) → Has (member_name member.CurrentSnapshotId) (next_json t s d)
    (Some (whole s.id))
unfolding next_json
current_has t s d =
    let name = member_name member.CurrentSnapshotId in
    past name (member_name member.TableUuid) (uuid_json t.uuid) _ _ refl
    (past name (member_name member.LastSequenceNumber) (natural (suc t.last_sequence_number)) _ _ refl
    (past name (member_name member.LastUpdatedMs) (whole s.timestamp_ms) _ _ refl
    (here name (whole s.id) (with_snapshots t s (with_log s (with_refs s d))))))

log_has : (t : Table) (s : NewSnapshot) (d : Data)
    → Has (codes "snapshot-log") (next_json t s d)
    (Some (one_more (log_json s) (inside (codes "snapshot-log") (with_refs s d))))
unfolding next_json
log_has t s d =
    let name = codes "snapshot-log" in
    past name (member_name member.TableUuid) (uuid_json t.uuid) _ _ refl
    (past name (member_name member.LastSequenceNumber) (natural (suc t.last_sequence_number)) _ _ refl
    (past name (member_name member.LastUpdatedMs) (whole s.timestamp_ms) _ _ refl
    (past name (member_name member.CurrentSnapshotId) (whole s.id) _ _ refl
    (past name (member_name member.Snapshots) _ (with_log s (with_refs s d)) _ refl
    (here name (one_more (log_json s) (inside name (with_refs s d))) (with_refs s d))))))

refs_has : (t : Table) (s : NewSnapshot) (d : Data)
    → Has (member_name member.Refs) (next_json t s d) (Some (refs_json s (inside (member_name member.Refs) d)))
unfolding next_json
refs_has t s d =
    let name = member_name member.Refs in
    past name (member_name member.TableUuid) (uuid_json t.uuid) _ _ refl
    (past name (member_name member.LastSequenceNumber) (natural (suc t.last_sequence_number)) _ _ refl
    (past name (member_name member.LastUpdatedMs) (whole s.timestamp_ms) _ _ refl
    (past name (member_name member.CurrentSnapshotId) (whole s.id) _ _ refl
    (past name (member_name member.Snapshots) _ (with_log s (with_refs s d)) _ refl
    (past name (codes "snapshot-log") _ (with_refs s d) _ refl
    (here name (refs_json s (inside name d)) d))))))

same_inside : (q : List ℕ) (d e : Data) → get q d ≡ get q e → inside q d ≡ inside q e
same_inside q d e same = ap (λ o. unwrap_or o json.null) same

before_snapshots : (s : NewSnapshot) (d : Data) → Has (member_name member.Snapshots) (with_log s (with_refs s d))
    (get (member_name member.Snapshots) d)
before_snapshots s d =
    let name = member_name member.Snapshots in
    past name (codes "snapshot-log") _ (with_refs s d) _ refl (past name (member_name member.Refs) _ d _ refl
    (old name d))

snapshots_has : (t : Table) (s : NewSnapshot) (d : Data)
    → Has (member_name member.Snapshots) (next_json t s d)
    (Some (one_more (snapshot_json t s) (inside (member_name member.Snapshots) (with_log s (with_refs s d)))))
unfolding next_json
snapshots_has t s d =
    let name = member_name member.Snapshots in
    past name (member_name member.TableUuid) (uuid_json t.uuid) _ _ refl
    (past name (member_name member.LastSequenceNumber) (natural (suc t.last_sequence_number)) _ _ refl
    (past name (member_name member.LastUpdatedMs) (whole s.timestamp_ms) _ _ refl
    (past name (member_name member.CurrentSnapshotId) (whole s.id) _ _ refl
    (here name (one_more (snapshot_json t s) (inside name (with_log s (with_refs s d))))
    (with_log s (with_refs s d))))))

next_snapshots : (t : Table) (s : NewSnapshot) (d : Data) → get (member_name member.Snapshots) (next_json t s d) ≡ Some
    (one_more (snapshot_json t s) (inside (member_name member.Snapshots) d))
next_snapshots t s d =
    found _ _ _ (snapshots_has t s d)
    ∙ ap (λ e. Some (one_more (snapshot_json t s) e)) (same_inside (member_name member.Snapshots)
    (with_log s (with_refs s d)) d (found _ _ _ (before_snapshots s d)))

-- ---- numbers

long : (z : ℤ) → IsLong z → as_i64 (of_integer z) ≡ Some z
long (pos n) h = rw (lt-ltb n (2 ^ 63) h) refl
long (negsuc n) h = refl

-- an id of 32 bits is one of 64
int_long : (z y : ℤ) → if_int z ≡ Some y → IsLong z × (if_int z ≡ Some z)
int_long (pos n) y e = here (nat_lt n (2 ^ 31)) refl
  where
    here : (b : Bool) → nat_lt n (2 ^ 31) ≡ b → IsLong (pos n) × (if_int (pos n) ≡ Some (pos n))
    here true k = let small : n < 2 ^ 31 = ltb-true n (2 ^ 31) k in (omega arith, rw k refl)
    here false k = let none : None ≡ Some y = rw k at e in absurd cc
int_long (negsuc n) y e = here (nat_lt n (2 ^ 31)) refl
  where
    here : (b : Bool) → nat_lt n (2 ^ 31) ≡ b → IsLong (negsuc n) × (if_int (negsuc n) ≡ Some (negsuc n))
    here true k = let small : n < 2 ^ 31 = ltb-true n (2 ^ 31) k in (omega arith, rw k refl)
    here false k = let none : None ≡ Some y = rw k at e in absurd cc

-- ---- the parts of a table

pub record Says (d : Data) (t : Table) : Type 0 where
  pub version : (v : ℤ) × (version_in d ≡ Ok v)
  pub uuid : uuid_in d ≡ Ok t.uuid
  pub location : location_in d ≡ Ok t.location
  pub last_sequence_number : sequence_number_in member.LastSequenceNumber d ≡ Ok t.last_sequence_number
  pub last_updated_ms : long_in member.LastUpdatedMs d ≡ Ok t.last_updated_ms
  pub last_column_id : int_in member.LastColumnId d ≡ Ok t.last_column_id
  pub schemas : schemas_in d ≡ Ok t.schemas
  pub current_schema_id : current_schema_in t.schemas d ≡ Ok t.current_schema_id
  pub specs : specs_in d ≡ Ok t.specs
  pub default_spec_id : default_spec_in t.specs d ≡ Ok t.default_spec_id
  pub last_partition_id : int_in member.LastPartitionId d ≡ Ok t.last_partition_id
  pub current_snapshot_id : current_snapshot_in d ≡ Ok t.current_snapshot_id
  pub snapshots : snapshots_in d ≡ Ok t.snapshots
  pub refs : refs_in d ≡ Ok t.refs

says_all : (d : Data) (t : Table) → Says d t → table_of d ≡ Ok t
unfolding table_of
says_all d t s =
    rw (
      s.version.1,
      s.uuid,
      s.location,
      s.last_sequence_number,
      s.last_updated_ms,
      s.last_column_id,
      s.schemas,
      s.current_schema_id,
      s.specs,
      s.default_spec_id,
      s.last_partition_id,
      s.current_snapshot_id,
      s.snapshots,
      s.refs,
    ) refl

-- what was read first, where the rest was read too
pub take : {A B : Type 0} (G : Type 0) (r : Result A MetaFault) (f : A → Result B MetaFault) (y : B) → (r >>= f) ≡ Ok y
    → ((x : A) → r ≡ Ok x → f x ≡ Ok y → G) → G
take G (Ok x) f y e h = h x refl e
take G (Err fault) f y e h = absurd cc

pub ok_is : {A : Type 0} (x y : A) → (let one : Result A MetaFault = Ok x in one ≡ Ok y) → x ≡ y
ok_is x y e = cc

says_parts : (d : Data) (t : Table) → table_of d ≡ Ok t → Says d t
unfolding table_of
says_parts d t e =
    take _ (version_in d) _ t e (λ version was_version e1. take _ (uuid_in d) _ t e1 (λ uuid was_uuid e2. take _
    (location_in d) _ t e2 (λ location was_location e3.
    take _ (sequence_number_in member.LastSequenceNumber d) _ t e3 (λ number was_number e4. take _
    (long_in member.LastUpdatedMs d) _ t e4 (λ updated was_updated e5.
    take _ (int_in member.LastColumnId d) _ t e5 (λ column was_column e6. take _ (schemas_in d) _ t e6
    (λ schemas were_schemas e7.
    take _ (current_schema_in schemas d) _ t e7 (λ schema was_schema e8. take _ (specs_in d) _ t e8
    (λ specs were_specs e9.
    take _ (default_spec_in specs d) _ t e9 (λ spec was_spec e10. take _ (int_in member.LastPartitionId d) _ t e10
    (λ partition was_partition e11.
    take _ (current_snapshot_in d) _ t e11 (λ snapshot was_snapshot e12. take _ (snapshots_in d) _ t e12
    (λ snapshots were_snapshots e13.
    take _ (refs_in d) _ t e13 (λ refs were_refs e14.
    subst (Says d) (ok_is _ t e14)
    (record {
      version = (version, was_version);
      uuid = was_uuid;
      location = was_location;
      last_sequence_number = was_number;
      last_updated_ms = was_updated;
      last_column_id = was_column;
      schemas = were_schemas;
      current_schema_id = was_schema;
      specs = were_specs;
      default_spec_id = was_spec;
      last_partition_id = was_partition;
      current_snapshot_id = was_snapshot;
      snapshots = were_snapshots;
      refs = were_refs;
    })))))))))))))))

-- ---- one after the other, without what came before

unfoldable pub list_of : {A : Type 0} → (Data → Result A MetaFault) → Items → Result (List A) MetaFault
list_of read json.no_items = Ok []
list_of read (json.item d ds) = read d >>= λ x. list_of read ds >>= λ xs. Ok (x ∷ xs)

refs_of : Members → Result (List Ref) MetaFault
refs_of json.no_members = Ok []
refs_of (json.member name d ms) = ref_of name d >>= λ r. refs_of ms >>= λ rs. Ok (r ∷ rs)

either_ok : {A : Type 0} (front : List A) (x : A) (rest : Result (List A) MetaFault)
    → (rest >>= λ xs. Ok ((front ++ x ∷ []) ++ xs)) ≡ ((rest >>= λ xs. Ok (x ∷ xs)) >>= λ xs. Ok (front ++ xs))
either_ok front x (Ok xs) = ap Ok (append_assoc front (x ∷ []) xs)
either_ok front x (Err fault) = refl

pub each_list : {A : Type 0} (read : Data → Result A MetaFault) (ds : Items) (front : List A)
    → each_into (reading.one_more read) ds front ≡ (list_of read ds >>= λ xs. Ok (front ++ xs))
unfolding list_of
each_list read json.no_items front = ap Ok (sym (append-nil front))
each_list {A = A} read (json.item d ds) front = here (read d) (λ x. each_list read ds (front ++ x ∷ []))
  where
    here : (r : Result A MetaFault) → ((x : A) → each_into (reading.one_more read) ds (front ++ x ∷ [])
        ≡ (list_of read ds >>= λ xs. Ok ((front ++ x ∷ []) ++ xs)))
        → ((r >>= λ x. Ok (front ++ x ∷ [])) >>= each_into (reading.one_more read) ds)
        ≡ ((r >>= λ x. list_of read ds >>= λ xs. Ok (x ∷ xs)) >>= λ xs. Ok (front ++ xs))
    here (Ok x) later = later x ∙ either_ok front x (list_of read ds)
    here (Err fault) later = refl

list_end : {A : Type 0} (read : Data → Result A MetaFault) (x : Data) (y : A) → read x ≡ Ok y
    → (ds : Items) (xs : List A) → list_of read ds ≡ Ok xs → list_of read (at_end x ds) ≡ Ok (xs ++ y ∷ [])
unfolding list_of
list_end {A = A} read x y is json.no_items xs e = let none : [] ≡ xs = ok_is [] xs e in rw (← none, is) refl
list_end {A = A} read x y is (json.item d ds) xs e =
    take _ (read d) _ xs e (λ z was e1. take _ (list_of read ds) _ xs e1 (λ zs were e2.
    let same : (z ∷ zs) ≡ xs = ok_is (z ∷ zs) xs e2 in
    rw (← same, was, list_end read x y is ds zs were) refl))

each_refs : (ms : Members) (front : List Ref) → each_ref ms front ≡ (refs_of ms >>= λ xs. Ok (front ++ xs))
unfolding refs_of
each_refs json.no_members front = ap Ok (sym (append-nil front))
each_refs (json.member k d ms) front = here (ref_of k d) (λ x. each_refs ms (front ++ x ∷ []))
  where
    here : (r : Result Ref MetaFault) → ((x : Ref) → each_ref ms (front ++ x ∷ [])
        ≡ (refs_of ms >>= λ xs. Ok ((front ++ x ∷ []) ++ xs)))
        → (r >>= λ x. each_ref ms (front ++ x ∷ [])) ≡ ((r >>= λ x. refs_of ms >>= λ xs. Ok (x ∷ xs)) >>= λ xs. Ok
        (front ++ xs))
    here (Ok x) later = later x ∙ either_ok front x (refs_of ms)
    here (Err fault) later = refl

ok_again : {A : Type 0} (r : Result (List A) MetaFault) (xs : List A) → (r >>= λ ys. Ok ([] ++ ys)) ≡ Ok xs → r ≡ Ok xs
ok_again (Ok ys) xs e = e
ok_again (Err fault) xs e = absurd cc

-- ---- members of a kind

long_says : (m : Member) (d : Data) (z : ℤ) → get (member_name m) d ≡ Some (whole z) → IsLong z → long_in m d ≡ Ok z
long_says m d z is h = rw (is, long z h) refl

number_says : (m : Member) (d : Data) (n : ℕ) → get (member_name m) d ≡ Some (natural n) → n < 2 ^ 63
    → sequence_number_in m d ≡ Ok n
number_says m d n is h = rw (is, lt-ltb n (2 ^ 63) h) refl

optional_long_says : (m : Member) (d : Data) (z : ℤ) → get (member_name m) d ≡ Some (whole z) → IsLong z
    → optional_long m d ≡ Ok (Some z)
optional_long_says m d z is h = rw (is, long z h) refl

optional_long_none : (m : Member) (d : Data) → get (member_name m) d ≡ None → optional_long m d ≡ Ok None
optional_long_none m d is = rw is refl

optional_int_says : (m : Member) (d : Data) (z : ℤ) → get (member_name m) d ≡ Some (whole z) → IsLong z
    → if_int z ≡ Some z → optional_int m d ≡ Ok (Some z)
optional_int_says m d z is h fits = rw (is, long z h, fits) refl

optional_text_says : (m : Member) (d : Data) (s : List ℕ) → get (member_name m) d ≡ Some (json.string s)
    → optional_text m d ≡ Ok (Some s)
optional_text_says m d s is = rw is refl

number_or_zero_says : (m : Member) (d : Data) (n : ℕ) → get (member_name m) d ≡ Some (natural n) → n < 2 ^ 63
    → sequence_number_or_zero m d ≡ Ok n
number_or_zero_says m d n is h = rw (is, lt-ltb n (2 ^ 63) h) refl

text_says : (m : Member) (d : Data) (s : List ℕ) → get (member_name m) d ≡ Some (json.string s) → text_in m d ≡ Ok s
text_says m d s is = rw is refl

-- ---- the new snapshot

pub of_parent : (q : List ℕ) (o : Option ℤ) (d : Data) → bytes_eq q (member_name member.ParentSnapshotId) ≡ false
    → get q (with_parent o d) ≡ get q d
of_parent q None d other = refl
of_parent q (Some id) d other = set_other q (member_name member.ParentSnapshotId) (whole id) d other

parent_says : (o : Option ℤ) (d : Data) → get (member_name member.ParentSnapshotId) d ≡ None → IfSome o IsLong
    → optional_long member.ParentSnapshotId (with_parent o d) ≡ Ok o
parent_says None d none h = optional_long_none member.ParentSnapshotId d none
parent_says (Some id) d none h = optional_long_says member.ParentSnapshotId (with_parent (Some id) d) id
    (set_same (member_name member.ParentSnapshotId) (whole id) d) h

operation_says : (d : Data) (s : NewSnapshot) → get (member_name member.Summary) d ≡ Some (summary_json s)
    → operation_in d ≡ Ok (Some (operation_name s.operation))
unfolding operation_of
operation_says d s is = rw is refl

abbrev pub base : Table → NewSnapshot → Data
base t s =
    set (member_name member.Summary) (summary_json s)
    (set (member_name member.SchemaId) (whole t.current_schema_id)
    (set (member_name member.ManifestList) (json.string s.manifest_list)
    (set (member_name member.TimestampMs) (whole s.timestamp_ms)
    (set (member_name member.SequenceNumber) (natural (suc t.last_sequence_number))
    (set (member_name member.SnapshotId) (whole s.id) no_object)))))

snapshot_says : (t : Table) (s : NewSnapshot) → CanFollow t s → AreLongs t s → IsLong t.current_schema_id
    → if_int t.current_schema_id ≡ Some t.current_schema_id → snapshot_of (snapshot_json t s) ≡ Ok (new_snapshot t s)
unfolding snapshot_of snapshot_json
snapshot_says t s can longs schema fits =
    let o = t.current_snapshot_id in
    rw (
      long_says member.SnapshotId (with_parent o (base t s)) s.id (of_parent (member_name member.SnapshotId) o
          (base t s) refl) longs.id,
      parent_says o (base t s) refl longs.parent_id,
      number_or_zero_says member.SequenceNumber (with_parent o (base t s)) (suc t.last_sequence_number)
          (of_parent (member_name member.SequenceNumber) o (base t s) refl) can.number_fits,
      long_says member.TimestampMs (with_parent o (base t s)) s.timestamp_ms (of_parent (member_name member.TimestampMs)
          o (base t s) refl) longs.timestamp_ms,
      optional_text_says member.ManifestList (with_parent o (base t s)) s.manifest_list
          (of_parent (member_name member.ManifestList) o (base t s) refl),
      operation_says (with_parent o (base t s)) s (of_parent (member_name member.Summary) o (base t s) refl),
      optional_int_says member.SchemaId (with_parent o (base t s)) t.current_schema_id
          (of_parent (member_name member.SchemaId) o (base t s) refl) schema fits,
    ) refl

-- ---- the snapshots

all_end : (x : Data) (ds : Items) → all_objects ds ≡ true → is_some (as_object x) ≡ true
    → all_objects (at_end x ds) ≡ true
all_end x json.no_items all is = rw is refl
all_end x (json.item d ds) all is = here (is_some (as_object d)) refl all (all_end x ds)
  where
    here : (b : Bool) → is_some (as_object d) ≡ b → (b && all_objects ds) ≡ true
        → (all_objects ds ≡ true → is_some (as_object x) ≡ true → all_objects (at_end x ds) ≡ true)
        → (is_some (as_object d) && all_objects (at_end x ds)) ≡ true
    here true e rest later = rw e (later rest is)
    here false e rest later = absurd (true≢false (sym rest))

any_end : (a : ℤ) (ss : List Snapshot) (n : Snapshot) → list_any (int_eq a) (map snapshot_id ss) ≡ false
    → int_eq a n.id ≡ false → list_any (int_eq a) (map snapshot_id (ss ++ n ∷ [])) ≡ false
any_end a [] n none other = rw other refl
any_end a (x ∷ ss) n none other = here (int_eq a x.id) refl none (any_end a ss n)
  where
    here : (b : Bool) → int_eq a x.id ≡ b → (b || list_any (int_eq a) (map snapshot_id ss)) ≡ false
        → (list_any (int_eq a) (map snapshot_id ss) ≡ false → int_eq a n.id ≡ false
        → list_any (int_eq a) (map snapshot_id (ss ++ n ∷ [])) ≡ false)
        → (int_eq a x.id || list_any (int_eq a) (map snapshot_id (ss ++ n ∷ []))) ≡ false
    here true e rest later = absurd (true≢false rest)
    here false e rest later = rw e (later rest other)

again_end : (ss : List Snapshot) (n : Snapshot) → again (map snapshot_id ss) ≡ None
    → find (λ (x : Snapshot). int_eq x.id n.id) ss ≡ None → again (map snapshot_id (ss ++ n ∷ [])) ≡ None
again_end [] n once new = refl
again_end (x ∷ ss) n once new = here (list_any (int_eq x.id) (map snapshot_id ss)) (int_eq x.id n.id) refl refl
    (again_end ss n)
  where
    here : (b c : Bool) → list_any (int_eq x.id) (map snapshot_id ss) ≡ b → int_eq x.id n.id ≡ c
        → (again (map snapshot_id ss) ≡ None → find (λ (y : Snapshot). int_eq y.id n.id) ss ≡ None
        → again (map snapshot_id (ss ++ n ∷ [])) ≡ None) → again (map snapshot_id ((x ∷ ss) ++ n ∷ [])) ≡ None
    here true c e f later = let some : Some x.id ≡ None = rw e at once in absurd cc
    here false true e f later = let some : Some x ≡ None = rw f at new in absurd cc
    here false false e f later = rw (any_end x.id ss n e f) (later (rw e at once) (rw f at new))

-- the objects that were read as these snapshots
record Holds (ds : Items) (ss : List Snapshot) : Type 0 where
  pub objects : all_objects ds ≡ true
  pub read : list_of snapshot_of ds ≡ Ok ss
  pub different : again (map snapshot_id ss) ≡ None

holds_none : (ss : List Snapshot) → (let none : Result (List Snapshot) MetaFault = Ok [] in none ≡ Ok ss)
    → Holds json.no_items ss
unfolding list_of
holds_none ss e = subst (Holds json.no_items) (ok_is [] ss e) (record { objects = refl; read = refl; different = refl })

holds_items : (ds : Items) (ss : List Snapshot) (b : Bool) → all_objects ds ≡ b
    → (asked (WrongKind member.Snapshots) (if b then Some ds else None) >>= λ items. each snapshot_of items >>= once
    snapshot_id) ≡ Ok ss → Holds ds ss
holds_items ds ss true all e =
    take _ (each snapshot_of ds) _ ss e (λ xs read e1.
    let o = once_is snapshot_id xs ss e1 in
    record {
      objects = all;
      read = rw (← o.0) (ok_again (list_of snapshot_of ds) xs (sym (each_list snapshot_of ds []) ∙
          read));
      different = rw (← o.0) o.1;
    })
holds_items ds ss false all e = absurd cc

holds : (o : Option Data) (ss : List Snapshot) → if_snapshots (option_and_then not_null o) ≡ Ok ss
    → Holds (items_of (unwrap_or o json.null)) ss
holds None ss e = holds_none ss e
holds (Some json.null) ss e = holds_none ss e
holds (Some (json.boolean b)) ss e = absurd cc
holds (Some (json.number n)) ss e = absurd cc
holds (Some (json.string s)) ss e = absurd cc
holds (Some (json.array ds)) ss e = holds_items ds ss (all_objects ds) refl e
holds (Some (json.object ms)) ss e = absurd cc

snapshots_of : (ds : Items) (ss : List Snapshot) → Holds ds ss → if_snapshots (Some (json.array ds)) ≡ Ok ss
snapshots_of ds ss h =
    let read : each snapshot_of ds ≡ Ok ss = each_list snapshot_of ds [] ∙ rw h.read refl in
    rw (h.objects, read, h.different) refl

holds_end : (ds : Items) (ss : List Snapshot) (x : Data) (n : Snapshot) → Holds ds ss → is_some (as_object x) ≡ true
    → snapshot_of x ≡ Ok n → find (λ (y : Snapshot). int_eq y.id n.id) ss ≡ None → Holds (at_end x ds) (ss ++ n ∷ [])
holds_end ds ss x n h object is new = record {
  objects = all_end x ds h.objects object;
  read = list_end snapshot_of x n is ds ss h.read;
  different = again_end ss n h.different new;
}

snapshot_object : (o : Option ℤ) (k : List ℕ) (x d : Data) → is_some (as_object (with_parent o (set k x d))) ≡ true
snapshot_object None k x d = refl
snapshot_object (Some id) k x d = refl

pub is_snapshot_object : (t : Table) (s : NewSnapshot) → is_some (as_object (snapshot_json t s)) ≡ true
unfolding snapshot_json
is_snapshot_object t s =
    snapshot_object t.current_snapshot_id (member_name member.Summary) (summary_json s)
    (set (member_name member.SchemaId) (whole t.current_schema_id) (set (member_name member.ManifestList)
    (json.string s.manifest_list) (set (member_name member.TimestampMs) (whole s.timestamp_ms)
    (set (member_name member.SequenceNumber) (natural (suc t.last_sequence_number)) (set (member_name member.SnapshotId)
    (whole s.id) no_object)))))

pub next_array : (t : Table) (s : NewSnapshot) (d : Data) → get (member_name member.Snapshots) (next_json t s d) ≡ Some
    (json.array (at_end (snapshot_json t s) (items_of (inside (member_name member.Snapshots) d))))
unfolding one_more
next_array t s d = next_snapshots t s d

snapshots_next : (t : Table) (s : NewSnapshot) (d : Data) → snapshots_in d ≡ Ok t.snapshots → CanFollow t s
    → snapshot_of (snapshot_json t s) ≡ Ok (new_snapshot t s)
    → snapshots_in (next_json t s d) ≡ Ok (t.snapshots ++ new_snapshot t s ∷ [])
unfolding snapshots_in
snapshots_next t s d says can is =
    let old = holds (get (member_name member.Snapshots) d) t.snapshots says in
    let new = holds_end (items_of (inside (member_name member.Snapshots) d)) t.snapshots (snapshot_json t s)
    (new_snapshot t s) old (is_snapshot_object t s) is can.id_is_new in
    rw (next_array t s d) (snapshots_of _ _ new)

-- ---- the refs

ref_named : (k : List ℕ) (d : Data) (r : Ref) → ref_of k d ≡ Ok r → k ≡ r.name
unfolding ref_of
ref_named k d r e =
    take _ (object_of member.Refs d) _ r e (λ whole w e1. take _ (long_in member.SnapshotId whole) _ r e1
    (λ id i e2. take _ (text_in member.Type whole) _ r e2 (λ type y e3.
    take _ (kind_of type) _ r e3 (λ kind z e4. ap (λ (q : Ref). q.name) (ok_is _ r e4)))))

refs_put : (k : List ℕ) (x : Data) (r : Ref) → ref_of k x ≡ Ok r → (ms : Members) (rs : List Ref) → refs_of ms ≡ Ok rs
    → refs_of (put k x ms) ≡ Ok (placed r rs)
unfolding refs_of
refs_put k x r is json.no_members rs e = let none : [] ≡ rs = ok_is [] rs e in rw (← none, is) refl
refs_put k x r is (json.member l d ms) rs e =
    take _ (ref_of l d) _ rs e (λ q was e1. take _ (refs_of ms) _ rs e1 (λ qs were e2.
    let names : slice_cmp nat_cmp k l ≡ slice_cmp nat_cmp r.name q.name = ap (λ a. slice_cmp nat_cmp a l)
    (ref_named k x r is) ∙ ap (slice_cmp nat_cmp r.name) (ref_named l d q was) in
    here (slice_cmp nat_cmp k l) q qs refl was were (refs_put k x r is ms qs were)
    ∙ (ap (λ c. Ok (match_ordering c (r ∷ q ∷ qs) (r ∷ qs) (q ∷ placed r qs))) names ∙ ap (λ ys. Ok (placed r ys))
    (ok_is (q ∷ qs) rs e2))))
  where
    here : (o : Ordering) (q : Ref) (qs : List Ref) → slice_cmp nat_cmp k l ≡ o → ref_of l d ≡ Ok q → refs_of ms ≡ Ok qs
        → refs_of (put k x ms) ≡ Ok (placed r qs)
        → refs_of (match_ordering (slice_cmp nat_cmp k l) (json.member k x (json.member l d ms)) (json.member l x ms)
        (json.member l d (put k x ms))) ≡ Ok (match_ordering (slice_cmp nat_cmp k l) (r ∷ q ∷ qs) (r ∷ qs)
        (q ∷ placed r qs))
    here Less q qs cmp was were later = rw (cmp, is, was, were) refl
    here Equal q qs cmp was were later =
        let same : k ≡ l = (bytes_eq-Decides k l).0 (sym (is_eq-slice_cmp k l) ∙ ap is_eq cmp) in
        let moved : ref_of l x ≡ Ok r = rw (← same) is in
        rw (cmp, moved, were) refl
    here Greater q qs cmp was were later = rw (cmp, was, later) refl

held_refs : (o : Option Data) (rs : List Ref) → if_refs (option_and_then not_null o) ≡ Ok rs
    → refs_of (members_of (unwrap_or o json.null)) ≡ Ok rs
unfolding refs_of
held_refs None rs e = e
held_refs (Some json.null) rs e = e
held_refs (Some (json.boolean b)) rs e = absurd cc
held_refs (Some (json.number n)) rs e = absurd cc
held_refs (Some (json.string s)) rs e = absurd cc
held_refs (Some (json.array ds)) rs e = absurd cc
held_refs (Some (json.object ms)) rs e = ok_again (refs_of ms) rs (sym (each_refs ms []) ∙ e)

main_says : (s : NewSnapshot) (d : Data) → IsLong s.id → ref_of (codes "main") (branch_to s.id d) ≡ Ok (main_at s)
unfolding ref_of
main_says s d h =
    let id : long_in member.SnapshotId (branch_to s.id d) ≡ Ok s.id =
    long_says member.SnapshotId (branch_to s.id d) s.id
    (set_other (member_name member.SnapshotId) (member_name member.Type) (json.string (codes "branch"))
    (set (member_name member.SnapshotId) (whole s.id) d) refl ∙ set_same (member_name member.SnapshotId)
    (whole s.id) d) h in
    let type : text_in member.Type (branch_to s.id d) ≡ Ok (codes "branch") =
    text_says member.Type (branch_to s.id d) (codes "branch") (set_same (member_name member.Type)
    (json.string (codes "branch")) (set (member_name member.SnapshotId) (whole s.id) d)) in
    rw (id, type) refl

next_object : (t : Table) (s : NewSnapshot) (d : Data) → get (member_name member.Refs) (next_json t s d)
    ≡ Some (json.object (put (codes "main") (branch_to s.id (inside (codes "main") (inside (member_name member.Refs)
    d))) (members_of (inside (member_name member.Refs) d))))
unfolding refs_json
next_object t s d = found _ _ _ (refs_has t s d)

refs_next : (t : Table) (s : NewSnapshot) (d : Data) → refs_in d ≡ Ok t.refs → IsLong s.id
    → refs_in (next_json t s d) ≡ Ok (placed (main_at s) t.refs)
unfolding refs_in
refs_next t s d says h =
    let refs = inside (member_name member.Refs) d in
    let new = refs_put (codes "main") (branch_to s.id (inside (codes "main") refs)) (main_at s)
    (main_says s (inside (codes "main") refs) h) (members_of refs) t.refs
    (held_refs (get (member_name member.Refs) d) t.refs says) in
    rw (next_object t s d) (each_refs _ [] ∙ rw new refl)

-- ---- what stays

neither : (a b : Bool) → (a || b) ≡ false → (a ≡ false) × (b ≡ false)
neither true b e = absurd (true≢false e)
neither false b e = (refl, e)

-- a name that is one of those that change
changes : List ℕ → Bool
changes q = list_any (bytes_eq q) written_members

apart : (q : List ℕ) → changes q ≡ false → Apart q
unfolding changes
apart q e =
    let uuid = neither (bytes_eq q (member_name member.TableUuid)) _ e in
    let number = neither (bytes_eq q (member_name member.LastSequenceNumber)) _ uuid.1 in
    let updated = neither (bytes_eq q (member_name member.LastUpdatedMs)) _ number.1 in
    let current = neither (bytes_eq q (member_name member.CurrentSnapshotId)) _ updated.1 in
    let snapshots = neither (bytes_eq q (member_name member.Snapshots)) _ current.1 in
    let log = neither (bytes_eq q (codes "snapshot-log")) _ snapshots.1 in
    let refs = neither (bytes_eq q (member_name member.Refs)) false log.1 in
    record {
      uuid = uuid.0;
      number = number.0;
      updated = updated.0;
      current = current.0;
      snapshots = snapshots.0;
      log = log.0;
      refs = refs.0;
    }

pub other_members_stay : KeepsOtherMembers
unfolding changes
other_members_stay d t s q other = stays q t s d (apart q other)

-- e has the members of d but those that change
Keeps : Data → Data → Type 0
Keeps d e = (q : List ℕ) → changes q ≡ false → get q e ≡ get q d

keeps : (d : Data) (t : Table) (s : NewSnapshot) → Keeps d (next_json t s d)
unfolding Keeps
keeps d t s q e = stays q t s d (apart q e)

int_stays : (m : Member) (d e : Data) → changes (member_name m) ≡ false → Keeps d e → int_in m e ≡ int_in m d
unfolding Keeps
int_stays m d e other k = rw (k (member_name m) other) refl

version_stays : (d e : Data) → Keeps d e → version_in e ≡ version_in d
unfolding version_in Keeps changes
version_stays d e k = rw (k (member_name member.FormatVersion) refl) refl

location_stays : (d e : Data) → Keeps d e → location_in e ≡ location_in d
unfolding location_in Keeps changes
location_stays d e k = rw (k (member_name member.Location) refl) refl

schemas_stay : (d e : Data) → Keeps d e → schemas_in e ≡ schemas_in d
unfolding schemas_in Keeps changes
schemas_stay d e k = rw (k (member_name member.Schemas) refl) refl

specs_stay : (d e : Data) → Keeps d e → specs_in e ≡ specs_in d
unfolding specs_in Keeps changes
specs_stay d e k = rw (k (member_name member.PartitionSpecs) refl) refl

current_schema_stays : (schemas : List Schema) (d e : Data) → Keeps d e
    → current_schema_in schemas e ≡ current_schema_in schemas d
unfolding current_schema_in Keeps changes
current_schema_stays schemas d e k = rw (k (member_name member.CurrentSchemaId) refl) refl

default_spec_stays : (specs : List Spec) (d e : Data) → Keeps d e → default_spec_in specs e ≡ default_spec_in specs d
unfolding default_spec_in Keeps changes
default_spec_stays specs d e k = rw (k (member_name member.DefaultSpecId) refl) refl

column_id_stays : (d e : Data) → Keeps d e → int_in member.LastColumnId e ≡ int_in member.LastColumnId d
unfolding changes
column_id_stays d e k = int_stays member.LastColumnId d e refl k

partition_id_stays : (d e : Data) → Keeps d e → int_in member.LastPartitionId e ≡ int_in member.LastPartitionId d
unfolding changes
partition_id_stays d e k = int_stays member.LastPartitionId d e refl k

-- ---- the whole

among : (m : Member) (b : Bool) (id z : ℤ) → if_among m b id ≡ Ok z → id ≡ z
among m true id z e = ok_is id z e
among m false id z e = absurd cc

pub asked_is : {A : Type 0} (fault : MetaFault) (o : Option A) (x : A) → asked fault o ≡ Ok x → o ≡ Some x
asked_is fault None x e = absurd cc
asked_is fault (Some y) x e = ap Some (ok_is y x e)

some_is : {A : Type 0} (x y : A) → Some x ≡ Some y → x ≡ y
some_is x y e = cc

-- the id of the current schema is an int, and so a long
schema_fits : (d : Data) (schemas : List Schema) (z : ℤ) → current_schema_in schemas d ≡ Ok z
    → IsLong z × (if_int z ≡ Some z)
unfolding current_schema_in
schema_fits d schemas z e =
    take _ (int_in member.CurrentSchemaId d) _ z e (λ id was e1.
    take _ (there member.CurrentSchemaId d) _ id was (λ x found_x e2. take _ (long_of member.CurrentSchemaId x) _ id e2
    (λ y read e3.
    let is : if_int y ≡ Some id = asked_is (WrongKind member.CurrentSchemaId) (if_int y) id e3 in
    let fits = int_long y id is in
    let same : y ≡ z = some_is y id (sym fits.1 ∙ is) ∙ among member.CurrentSchemaId _ id z e1 in
    subst (λ w. IsLong w × (if_int w ≡ Some w)) same fits)))

current_next : (t : Table) (s : NewSnapshot) (d : Data) → IsLong s.id → int_eq s.id (negsuc 0) ≡ false
    → current_snapshot_in (next_json t s d) ≡ Ok (Some s.id)
unfolding current_snapshot_in
current_next t s d h one = rw (
  optional_long_says member.CurrentSnapshotId (next_json t s d) s.id
      (found _ _ _ (current_has t s d)) h,
  one,
) refl

-- ---- the uuid

pub writes_uuid : WritesTheUuid
writes_uuid d t s = found _ _ _ (uuid_has t s d)

pub uuid_next : ReadsTheUuid
unfolding uuid_in
uuid_next d t s says =
    take _ (text_in member.TableUuid d) _ t.uuid says (λ text was e.
    rw (writes_uuid d t s, reads_again text t.uuid (asked_is (WrongKind member.TableUuid) (parsed text) t.uuid e)) refl)

-- ---- the time

pub updated_next : UpdatesAtItsTime
updated_next d t s h =
    long_says member.LastUpdatedMs (next_json t s d) s.timestamp_ms (found _ _ _ (updated_has t s d)) h

last_at_end : (x d : Data) (ds : Items) → last_behind d (at_end x ds) ≡ x
last_at_end x d json.no_items = refl
last_at_end x d (json.item e ds) = last_at_end x e ds

last_end : (x : Data) (ds : Items) → last_of (at_end x ds) ≡ Some x
last_end x json.no_items = refl
last_end x (json.item d ds) = ap Some (last_at_end x d ds)

log_time : (s : NewSnapshot) → IsLong s.timestamp_ms → time_of (log_json s) ≡ Some s.timestamp_ms
unfolding log_json
log_time s h = long s.timestamp_ms h

next_log : (t : Table) (s : NewSnapshot) (d : Data) → get (codes "snapshot-log") (next_json t s d) ≡ Some
    (json.array (at_end (log_json s) (items_of (inside (codes "snapshot-log") (with_refs s d)))))
unfolding one_more
next_log t s d = found _ _ _ (log_has t s d)

pub logged_next : LogsItsTime
logged_next d t s h = rw (
  next_log t s d,
  last_end (log_json s) (items_of (inside (codes "snapshot-log") (with_refs s d))),
  log_time s h,
) refl

-- the metadata of a commit have its time
pub has_time : (d : Data) (t u : Table) (s : NewSnapshot) → IsLong s.timestamp_ms → table_of (next_json t s d) ≡ Ok u
    → HasTime s.timestamp_ms (record { json = next_json t s d; table = u })
has_time d t u s h says = record {
  updated = ok_is u.last_updated_ms s.timestamp_ms
      (sym (says_parts (next_json t s d) u says).last_updated_ms ∙ updated_next d t s h);
  logged = logged_next d t s h;
}

pub says_next : SaysTheNext
says_next d t s says can longs =
    let p = says_parts d t says in
    let k = keeps d t s in
    let e = next_json t s d in
    let schema = schema_fits d t.schemas t.current_schema_id p.current_schema_id in
    says_all e (next_table t s) (record {
      version = (p.version.0, version_stays d e k ∙ p.version.1);
      uuid = uuid_next d t s p.uuid;
      location = location_stays d e k ∙ p.location;
      last_sequence_number = number_says member.LastSequenceNumber e (suc t.last_sequence_number)
          (found _ _ _ (number_has t s d)) can.number_fits;
      last_updated_ms = updated_next d t s longs.timestamp_ms;
      last_column_id = column_id_stays d e k ∙ p.last_column_id;
      schemas = schemas_stay d e k ∙ p.schemas;
      current_schema_id = current_schema_stays t.schemas d e k ∙ p.current_schema_id;
      specs = specs_stay d e k ∙ p.specs;
      default_spec_id = default_spec_stays t.specs d e k ∙ p.default_spec_id;
      last_partition_id = partition_id_stays d e k ∙ p.last_partition_id;
      current_snapshot_id = current_next t s d longs.id can.id_is_one;
      snapshots = snapshots_next t s d p.snapshots can (snapshot_says t s can longs schema.0 schema.1);
      refs = refs_next t s d p.refs longs.id;
    })
