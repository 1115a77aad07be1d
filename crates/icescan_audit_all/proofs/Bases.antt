-- What manifests are held against, for snapshots of one schema.
use Rattle.std.proofs.Common.{◌≡◌, ℕ, ℤ, Bool, true, false, List, [], ◌∷◌, Option, Some, None, refl, sym, ap, subst}
use Rattle.std.proofs.Common.{◌∙◌, ◌++◌, cond, inl, inr}
use Rattle.std.proofs.Common.{◌+◌, ◌<◌, get_or, length, map, take}
use Rattle.std.proofs.lemmas.List.{map-append, map_more}
use Rattle.std.proofs.lemmas.List.Elements.{All-contains, All-get_or, All-push}
use Rattle.std.specs.Prelude.{Result, Ok, Err, nat_lt, find, option_and_then}
use Rattle.std.specs.List.{All}
use Rattle.std.specs.Option.{option_or}
use Rattle.std.specs.Ordering.{int_eq}
use Rattle.std.proofs.lemmas.Bool.Decides.{Decides-int_eq}
use Rattle.serde_json.specs.Data.{Data}
use Rattle.ice_desk.specs.Given.{Giving}
use Rattle.ice_manifest_reading.specs.declared.row.Row.{Row}
use Rattle.ice_meta.specs.Targets.{Described, list_of, own_schema, pinned_id, pinned_schema, resolved, schema_for}
use Rattle.ice_meta.specs.Targets.{schema_with}
use Rattle.ice_meta.specs.Targets.{snapshot_with}
use Rattle.ice_meta.specs.declared.metadata.Target.{Target}
use Rattle.ice_meta.specs.declared.metadata.Target.TheVariants as target
use Rattle.ice_meta.specs.declared.schema.Schema.{Schema}
use Rattle.ice_meta.specs.declared.snapshot.Snapshot.{Snapshot}
use Rattle.ice_meta.specs.declared.table.Table.{Table}
use Rattle.ice_state.specs.Contents.{World}
use Rattle.icescan_audit.specs.AnyFiles.{IsReadOf, IsReadOfRow}
use Rattle.icescan_audit.specs.Audits.{all_known, row_audit, whole}
use Rattle.icescan_audit.specs.Subjects.{basis_of, number_under, subject_in}
use Rattle.icescan_audit.specs.declared.audit.Audit.{Audit}
use Rattle.icescan_audit.specs.declared.audit.Reading.{Reading}
use Rattle.icescan_audit.specs.declared.subject.Subject.{Subject}
use Rattle.icescan_audit_findings.specs.declared.basis.Basis.{Basis}
use Rattle.icescan_text.proofs.Steps.{step}
use Rattle.icescan_text.specs.Faults.{of_meta}
use Rattle.icescan_text.specs.Reads.{AreRowsGiven, as_run, schema_of}
use Rattle.icescan_text.specs.declared.fault.RunFault.{RunFault}
use Rattle.icescan_audit_all.specs.Snapshots.{AreRowsOf, IsAlike, IsAuditOf, IsBasis, IsClass, IsFound, IsKept, IsKnown}
use Rattle.icescan_audit_all.specs.Snapshots.{IsListed, IsPutFor, basis_under, reading_kept}
use Rattle.icescan_audit_all.specs.declared.kept.Kept.{Kept}
use Rattle.icescan_audit_all.specs.declared.kept.Known.{Known}
use Rattle.icescan_audit_all.specs.declared.listed.Listed.{Listed}
use Rattle.icescan_audit_all.specs.declared.wanted.Class.{Class}

-- ---- a schema is found by its own id

at_first : (id : ℤ) (x s : Schema) (xs : List Schema) (b : Bool) → int_eq x.id id ≡ b
    → (find (λ (y : Schema). int_eq y.id id) xs ≡ Some s → s.id ≡ id)
    → cond b (Some x) (find (λ (y : Schema). int_eq y.id id) xs) ≡ Some s → s.id ≡ id
at_first id x s xs true is behind h =
    let this : x ≡ s = cc in
    subst (λ (v : Schema). v.id ≡ id) this ((Decides-int_eq x.id id).0 is)
at_first id x s xs false is behind h = behind h

found_has_id : (id : ℤ) (ss : List Schema) (s : Schema) → find (λ (x : Schema). int_eq x.id id) ss ≡ Some s
    → s.id ≡ id
found_has_id id [] s h = absurd cc
found_has_id id (x ∷ xs) s h = at_first id x s xs (int_eq x.id id) refl (found_has_id id xs s) h

found_by_own : (id : ℤ) (t : Table) (s : Schema) → schema_with id t ≡ Some s → schema_with s.id t ≡ Some s
found_by_own id t s h =
    subst (λ (i : ℤ). schema_with i t ≡ Some s) (sym (found_has_id id t.schemas s h)) h

-- what is said of a schema that was found
abbrev IsByOwn : Table → Schema → Type 0
IsByOwn t s = schema_with s.id t ≡ Some s

named_found : (o : Option ℤ) (t : Table) (s : Schema) → option_and_then (λ i. schema_with i t) o ≡ Some s → IsByOwn t s
named_found None t s h = absurd cc
named_found (Some i) t s h = found_by_own i t s h

pinned_found : (o : Option ℤ) (t : Table) (s : Schema) → option_and_then (λ i. own_schema i t) o ≡ Some s → IsByOwn t s
pinned_found None t s h = absurd cc
pinned_found (Some i) t s h =
    named_found (option_and_then (λ (x : Snapshot). x.schema_id) (snapshot_with i t)) t s h

or_found : (o p : Option Schema) (t : Table) (s : Schema) → ((x : Schema) → o ≡ Some x → IsByOwn t x)
    → ((x : Schema) → p ≡ Some x → IsByOwn t x) → option_or o p ≡ Some s → IsByOwn t s
or_found None p t s first second h = second s h
or_found (Some x) p t s first second h = first s h

schema_found : (of : Target) (t : Table) (s : Schema) → schema_for of t ≡ Some s → schema_with s.id t ≡ Some s
unfolding schema_for
schema_found of t s h = or_found (pinned_schema of t) (schema_with t.current_schema_id t) t s
    (λ x. pinned_found (pinned_id of t) t x) (λ x. found_by_own t.current_schema_id t x) h

-- ---- the basis of a snapshot

abbrev basis_in : Basis → Result Subject RunFault → Basis
basis_in other (Ok subject) = subject.basis
basis_in other (Err fault) = other

pub basis_asked : (json : Data) (t : Table) (of : Target) (subject : Subject) (schema : Schema)
    → subject_in json t of ≡ Ok subject → schema_for of t ≡ Some schema → subject.basis ≡ basis_of schema t of
unfolding subject_in
basis_asked json t of subject schema h is =
    let one = step (as_run of_meta (list_of of t)) _ subject h in
    let two = step (as_run of_meta (schema_of of t)) _ subject one.2 in
    let it : as_run of_meta (schema_of of t) ≡ Ok schema = rw is refl in
    let same : two.0 ≡ schema = let found = two.1 in cc in
    let made : basis_of two.0 t of ≡ subject.basis = ap (basis_in subject.basis) two.2 in
    sym made ∙ ap (λ (s : Schema). basis_of s t of) same

-- ---- one reading for many snapshots

-- of the number of a snapshot only this counts: whether it is below the row's
pub row_alike : (world : World) (schema : Schema) (t : Table) (deletes : Bool) (n m : ℕ) (row : Row)
    → nat_lt n row.sequence_number ≡ nat_lt m row.sequence_number
    → row_audit world (basis_under schema t deletes n) row ≡ row_audit world (basis_under schema t deletes m) row
unfolding row_audit
row_alike world schema t deletes n m row h = rw h refl

pub known_read : (gives : Giving) (known : Known) (basis : Basis) (row : Row) (k : Kept) → IsKnown gives known basis
    → IsAlike known basis row k → IsReadOfRow gives basis row (reading_kept k)
known_read gives known basis row k h like =
    let schema = like.schema in
    let deletes = like.deletes in
    let t = h.d.table in
    let kept = All-contains (IsKept gives h.d) known.kept.now k h.kept like.has in
    let one : kept.is.0 ≡ h.schema = let a = kept.is.1 in let b = h.named in cc in
    let last : basis.last ≡ t.last_sequence_number = ap (λ (b : Basis). b.last) h.is in
    let own : kept.basis ≡ basis_under h.schema t basis.has_deletes t.last_sequence_number =
    rw (kept.is.2, one, deletes) refl in
    let read : IsReadOfRow gives (basis_under h.schema t basis.has_deletes t.last_sequence_number) row (reading_kept k) =
    subst (λ b. IsReadOfRow gives b row (reading_kept k)) own
    (subst (λ r. IsReadOfRow gives kept.basis r (reading_kept k)) like.row_is kept.read) in
    let alike = row_alike (λ path. Some read.0) h.schema t basis.has_deletes t.last_sequence_number basis.snapshot row
    (rw (← last) like.number) in
    subst (λ b. IsReadOfRow gives b row (reading_kept k)) (sym h.is) (read.0, read.1, sym alike ∙ read.2)

abbrev with_deletes : Bool → Basis → Basis
with_deletes deletes b = record {
  specs = b.specs;
  columns = b.columns;
  typed = b.typed;
  last = b.last;
  snapshot = b.snapshot;
  has_deletes = deletes;
}

abbrev at_last : Bool → Basis → Basis
at_last deletes b = record {
  specs = b.specs;
  columns = b.columns;
  typed = b.typed;
  last = b.last;
  snapshot = b.last;
  has_deletes = deletes;
}

class_basis : (d : Described) (of : Target) (subject : Subject) (schema : Schema) (deletes : Bool)
    → subject_in d.json d.table of ≡ Ok subject → schema_for of d.table ≡ Some schema
    → at_last deletes subject.basis ≡ basis_under schema d.table deletes d.table.last_sequence_number
class_basis d of subject schema deletes h is =
    ap (at_last deletes) (basis_asked d.json d.table of subject schema h is)

pub class_made : (d : Described) (of : Target) (subject : Subject) (schema : Schema) (id : ℤ) (deletes : Bool)
    → id ≡ schema.id → subject_in d.json d.table of ≡ Ok subject → schema_for of d.table ≡ Some schema
    → IsBasis d id deletes (at_last deletes subject.basis)
class_made d of subject schema id deletes same asked is =
    (schema, rw same (schema_found of d.table schema is), class_basis d of subject schema deletes asked is)

pub known_for : (gives : Giving) (d : Described) (of : Target) (subject : Subject) (schema : Schema) (known : Known)
    (deletes : Bool) (basis : Basis) → All (IsKept gives d) known.kept.now → known.schema ≡ schema.id
    → subject_in d.json d.table of ≡ Ok subject → schema_for of d.table ≡ Some schema
    → basis ≡ with_deletes deletes subject.basis → IsKnown gives known basis
known_for gives d of subject schema known deletes basis kept id h is same =
    let e : basis ≡ basis_under schema d.table deletes (number_under (resolved of d.table) d.table) =
    same ∙ ap (with_deletes deletes) (basis_asked d.json d.table of subject schema h is) in
    record {
      d = d;
      schema = schema;
      kept = kept;
      named = rw id (schema_found of d.table schema is);
      is = subst (λ (b : Basis). b ≡ basis_under schema d.table b.has_deletes b.snapshot) (sym e) refl;
    }

-- the audit of a snapshot whose rows and manifests were read so
pub audit_made : (gives : Giving) (d : Described) (id : ℤ) (rows : List Row) (deletes : Bool) (subject : Subject)
    (read : Reading) (audit : Audit) → AreRowsOf gives d (target.Snapshot id) rows deletes
    → subject_in d.json d.table (target.Snapshot id) ≡ Ok subject
    → IsReadOf gives (with_deletes deletes subject.basis) rows read → audit ≡ whole subject.said read
    → IsAuditOf gives d id audit
audit_made gives d id rows deletes subject read audit l asked manifests is =
    let one : l.subject ≡ subject = let a = l.asked in cc in
    record {
      subject = subject;
      rows = rows;
      read = read;
      asked = asked;
      listed = subst (λ (s : Subject). AreRowsGiven gives s.list rows) one l.listed;
      known = subst (λ (s : Subject). all_known s.basis.specs rows ≡ Ok tt) one l.known;
      manifests = subst (λ (b : Bool). IsReadOf gives (with_deletes b subject.basis) rows read) l.deletes manifests;
      is = is;
    }

-- what was found of a snapshot, beside its rows
pub found_of : (gives : Giving) (d : Described) (l : Listed) (id : ℤ) (rows : List Row) (audit : Audit)
    → IsListed gives d l → id ≡ l.snapshot → rows ≡ l.rows → IsAuditOf gives d l.snapshot audit
    → IsFound gives d (record { snapshot = id; audit = audit; rows = rows })
found_of gives d l id rows audit h own same is =
    rw own (is, (h.subject, h.asked, subst (AreRowsGiven gives h.subject.list) (sym same) h.listed))

-- ---- what was put

-- the ids of one more
pub ids_more : {X Y : Type 0} (f : X → ℤ) (g : Y → ℤ) (xs : List X) (x : X) (ys : List Y) (i : ℕ) (y : Y)
    → i < length ys → y ≡ get_or ys i y → map f xs ≡ map g (take i ys) → f x ≡ g y
    → map f (xs ++ x ∷ []) ≡ map g (take (i + 1) ys)
ids_more f g xs x ys i y low is same one =
    map-append f xs (x ∷ []) ∙ ap (λ zs. zs ++ f x ∷ []) same
    ∙ ap (λ v. map g (take i ys) ++ v ∷ []) (one ∙ ap g is) ∙ sym (map_more g ys i y low)

-- what holds of each holds of the one at a place
pub all_get : {X : Type 0} (P : X → Type 0) (xs : List X) (i : ℕ) (x : X) → All P xs → i < length xs
    → x ≡ get_or xs i x → P x
all_get P xs i x all low same = subst P (sym same) (All-get_or P xs i x low all)

-- what was put for a class was read
pub kept_put : (gives : Giving) (d : Described) (class : Class) (row : Row) (bytes : List ℕ) (old new : List Kept)
    → IsClass d class → gives row.path (Some bytes) → All (IsKept gives d) old → IsPutFor class row bytes old new
    → All (IsKept gives d) new
kept_put gives d class row bytes old new is given all (inl same) = subst (All (IsKept gives d)) (sym same) all
kept_put gives d class row bytes old new is given all (inr (k, r, more)) =
    let one : IsKept gives d k = record {
      basis = class.basis;
      is = subst (λ (b : Bool). IsBasis d k.schema b class.basis) (sym r.deletes)
          (subst (λ (i : ℤ). IsBasis d i class.has_deletes class.basis) (sym r.schema) is);
      read = subst (λ (x : Row). IsReadOfRow gives class.basis x (reading_kept k)) (sym r.row_is) (bytes, given, r.read);
    } in
    subst (All (IsKept gives d)) (sym more) (All-push (IsKept gives d) old k all one)
