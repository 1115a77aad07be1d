-- The schemas of a table, and their JSON in its metadata.
use Rattle.std.proofs.Common.{◌≡◌, ℕ, zero, suc, Bool, true, false, cond, List, [], ◌∷◌, ◌++◌, map, Option, None, Some}
use Rattle.std.proofs.Common.{Result, Ok, refl, sym, ap, ◌∙◌, subst, slice_get, find, codes}
use Rattle.std.proofs.Common.{append_assoc, append-nil}
use Rattle.std.specs.Prelude.{ℤ}
use Rattle.std.specs.List.{AllByRecursion, IsDistinct}
use Rattle.std.specs.Ordering.{int_eq}
use Rattle.std.proofs.lemmas.Bool.Decides.{Decides-int_eq}
use Rattle.contract_words.specs.Outcome.{◌>>=◌}
use Rattle.serde_json.specs.Data as json
use Rattle.serde_json.specs.Data.{Data, Items, Num}
use Rattle.serde_json.specs.Find.{get, get_item, as_integer}
use Rattle.ice_meta.specs.declared.fault.Member.TheVariants as member
use Rattle.ice_meta.specs.declared.fault.MetaFault.{MetaFault}
use Rattle.ice_meta.specs.declared.schema.Schema.{Schema}
use Rattle.ice_meta.specs.declared.table.Table.{Table}
use Rattle.ice_meta.specs.Members.{int_in, long_in, sequence_number_in, objects_in}
use Rattle.ice_meta.specs.Reading.{again, or_twice, once, each_into, one_more, each}
use Rattle.ice_meta.specs.Schemas.{schema_of}
use Rattle.ice_meta.specs.Tables.{version_in, uuid_in, location_in, schema_id, schemas_in, current_schema_in, specs_in}
use Rattle.ice_meta.specs.Tables.{default_spec_in, current_snapshot_in, snapshots_in, refs_in, table_of}
use Rattle.ice_meta.proofs.Different.{distinct}
use Rattle.ice_filter_laws.specs.Columns.{IsSchemaIn, HasTheSchema}
use Rattle.ice_filter_laws.proofs.Grown.{take, went}
use Rattle.ice_filter_laws.proofs.Fields.{objects_there, number_there}
use Rattle.ice_filter_laws.proofs.Found.{schema_so}

-- ---- items, each at its place

-- each element is what is read of the item at its place
abbrev Pairs : {A : Type 0} → (Data → Result A MetaFault) → Items → List A → Type 0
Pairs read json.no_items [] = Unit {0}
Pairs read (json.item d ds) (x ∷ xs) = (read d ≡ Ok x) × Pairs read ds xs
Pairs read _ _ = ⊥

record Read {A : Type 0} (read : Data → Result A MetaFault) (items : Items) (front all : List A) : Type 0 where
  rest : List A
  is : all ≡ front ++ rest
  pairs : Pairs read items rest

read_so : {A : Type 0} (read : Data → Result A MetaFault) (items : Items) (front all : List A)
    → each_into (one_more read) items front ≡ Ok all → Read read items front all
read_so read json.no_items front all e =
    let same : front ≡ all = cc in
    record { rest = []; is = sym same ∙ sym (append-nil front); pairs = tt }
read_so read (json.item d ds) front all e =
    let a = went (one_more read d front) (each_into (one_more read) ds) all e in
    let b = went (read d) (λ x. Ok (front ++ x ∷ [])) a.first a.gave in
    let next : front ++ b.first ∷ [] ≡ a.first = (let is = b.next in cc) in
    let r = read_so read ds a.first all a.next in
    record {
      rest = b.first ∷ r.rest;
      is = r.is ∙ ap (λ v. v ++ r.rest) (sym next) ∙ append_assoc front (b.first ∷ []) r.rest;
      pairs = (b.gave, r.pairs);
    }

of_item : {A : Type 0} (read : Data → Result A MetaFault) (items : Items) (xs : List A) (place : ℕ) (d : Data)
    → Pairs read items xs → get_item place items ≡ Some d
    → (x : A) × (read d ≡ Ok x) × (slice_get xs place ≡ Some x)
of_item read json.no_items xs place d p at = absurd cc
of_item read (json.item e ds) [] place d p at = absurd p
of_item read (json.item e ds) (x ∷ xs) zero d p at =
    let same : e ≡ d = cc in
    (x, ap read (sym same) ∙ p.0, refl)
of_item read (json.item e ds) (x ∷ xs) (suc place) d p at = of_item read ds xs place d p.1 at

to_item : {A : Type 0} (read : Data → Result A MetaFault) (items : Items) (xs : List A) (place : ℕ) (x : A)
    → Pairs read items xs → slice_get xs place ≡ Some x
    → (d : Data) × (get_item place items ≡ Some d) × (read d ≡ Ok x)
to_item read json.no_items [] place x p at = absurd cc
to_item read json.no_items (y ∷ ys) place x p at = absurd p
to_item read (json.item d ds) [] place x p at = absurd p
to_item read (json.item d ds) (y ∷ ys) zero x p at =
    let same : y ≡ x = cc in
    (d, refl, p.0 ∙ ap Ok same)
to_item read (json.item d ds) (y ∷ ys) (suc place) x p at = to_item read ds ys place x p.1 at

-- ---- schemas by their ids

abbrev of_id : ℤ → Schema → Bool
of_id id schema = int_eq schema.id id

abbrev FoundAt : List Schema → ℤ → Schema → Type 0
FoundAt ss id x = (place : ℕ) × (slice_get ss place ≡ Some x) × (x.id ≡ id)

found_step : (id : ℤ) (s x : Schema) (ss : List Schema) (b : Bool) → of_id id s ≡ b
    → (find (of_id id) ss ≡ Some x → FoundAt ss id x) → cond b (Some s) (find (of_id id) ss) ≡ Some x
    → FoundAt (s ∷ ss) id x
found_step id s x ss true is more e =
    let same : s ≡ x = cc in
    (0, e, ap (λ (v : Schema). v.id) (sym same) ∙ (Decides-int_eq s.id id).0 is)
found_step id s x ss false is more e = let r = more e in (suc r.0, r.1, r.2)

found_at : (id : ℤ) (ss : List Schema) (x : Schema) → find (of_id id) ss ≡ Some x → FoundAt ss id x
found_at id [] x e = absurd cc
found_at id (s ∷ ss) x e = found_step id s x ss (of_id id s) refl (found_at id ss x) e

differs : (id : ℤ) (ss : List Schema) (place : ℕ) (x : Schema)
    → AllByRecursion (λ z. int_eq id z ≡ false) (map schema_id ss) → slice_get ss place ≡ Some x
    → int_eq id x.id ≡ false
differs id [] place x all at = absurd cc
differs id (s ∷ ss) zero x all at =
    let same : s ≡ x = cc in
    ap (λ (v : Schema). int_eq id v.id) (sym same) ∙ all.0
differs id (s ∷ ss) (suc place) x all at = differs id ss place x all.1 at

-- of schemas of different ids the one of an id is found
is_found : (id : ℤ) (ss : List Schema) (place : ℕ) (x : Schema) → IsDistinct int_eq (map schema_id ss)
    → slice_get ss place ≡ Some x → x.id ≡ id → find (of_id id) ss ≡ Some x
unfolding IsDistinct
is_found id [] place x apart at same = absurd cc
is_found id (s ∷ ss) zero x apart at same =
    let e : s ≡ x = cc in
    let is : of_id id s ≡ true = (Decides-int_eq s.id id).1 (ap (λ (v : Schema). v.id) e ∙ same) in
    rw is at_first
  where
    at_first : Some s ≡ Some x
    at_first = at
is_found id (s ∷ ss) (suc place) x apart at same =
    let no_one : int_eq s.id x.id ≡ false = differs s.id ss place x apart.0 at in
    let not_it : of_id id s ≡ false = ap (int_eq s.id) (sym same) ∙ no_one in
    rw not_it (is_found id ss place x apart.1 at same)

-- ---- a table

-- the schemas of different ids that are read
record Schemas (metadata : Data) (ss : List Schema) : Type 0 where
  items : Items
  are : get (codes "schemas") metadata ≡ Some (json.array items)
  pairs : Pairs schema_of items ss
  apart : IsDistinct int_eq (map schema_id ss)

once_so : (o : Option ℤ) (xs ys : List Schema) → again (map schema_id xs) ≡ o → or_twice o xs ≡ Ok ys
    → (xs ≡ ys) × (again (map schema_id xs) ≡ None)
once_so None xs ys is e = ((let same : xs ≡ ys = cc in same), is)
once_so (Some id) xs ys is e = absurd cc

schemas_so : (metadata : Data) (ss : List Schema) → schemas_in metadata ≡ Ok ss → Schemas metadata ss
unfolding schemas_in
schemas_so metadata ss e =
    let a = went (objects_in member.Schemas metadata) (λ items. each schema_of items >>= once schema_id) ss e in
    let b = went (each schema_of a.first) (once schema_id) ss a.next in
    let r = read_so schema_of a.first [] b.first b.gave in
    let o = once_so (again (map schema_id b.first)) b.first ss refl b.next in
    let same : r.rest ≡ ss = sym r.is ∙ o.0 in
    let P : List Schema → Type 0 = λ v. Pairs schema_of a.first v in
    let Q : List Schema → Type 0 = λ v. IsDistinct int_eq (map schema_id v) in
    record {
      items = a.first;
      are = objects_there member.Schemas metadata a.first a.gave;
      pairs = subst P same r.pairs;
      apart = subst Q o.0 (distinct (map schema_id b.first) o.1);
    }

ok_is : (x y : Table) → (let one : Result Table MetaFault = Ok x in one ≡ Ok y) → x ≡ y
ok_is x y e = cc

table_so : (d : Data) (t : Table) → table_of d ≡ Ok t → schemas_in d ≡ Ok t.schemas
unfolding table_of
table_so d t e =
    take _ (version_in d) _ t e (λ version was_version e1. take _ (uuid_in d) _ t e1 (λ uuid was_uuid e2. take _
    (location_in d) _ t e2 (λ location was_location e3. take _ (sequence_number_in member.LastSequenceNumber d) _ t e3
    (λ number was_number e4. take _ (long_in member.LastUpdatedMs d) _ t e4 (λ updated was_updated e5. take _
    (int_in member.LastColumnId d) _ t e5 (λ column was_column e6. take _ (schemas_in d) _ t e6
    (λ schemas were_schemas e7. take _ (current_schema_in schemas d) _ t e7 (λ current was_current e8. take _
    (specs_in d) _ t e8 (λ specs were_specs e9. take _ (default_spec_in specs d) _ t e9 (λ spec was_spec e10. take _
    (int_in member.LastPartitionId d) _ t e10 (λ partition was_partition e11. take _ (current_snapshot_in d) _ t e11
    (λ snapshot was_snapshot e12. take _ (snapshots_in d) _ t e12 (λ snapshots were_snapshots e13. take _ (refs_in d) _
    t e13 (λ refs were_refs e14. were_schemas ∙ ap (λ (x : Table). Ok x.schemas) (ok_is _ t e14)))))))))))))))

-- ---- the law

abbrev Said : Data → ℤ → Schema → Type 0
Said metadata id schema = (d : Data) × IsSchemaIn metadata id d × (schema_of d ≡ Ok schema)

to_json : (metadata : Data) (ss : List Schema) (id : ℤ) (schema : Schema) → Schemas metadata ss
    → find (of_id id) ss ≡ Some schema → Said metadata id schema
to_json metadata ss id schema s e =
    let f = found_at id ss schema e in
    let j = to_item schema_of s.items ss f.0 schema s.pairs f.1 in
    let n = number_there member.SchemaId j.0 schema.id (schema_so j.0 schema j.2).of_id in
    (j.0, (s.items, f.0, n.0, s.are, j.1, n.1, n.2 ∙ ap Some f.2), j.2)

from_json : (metadata : Data) (ss : List Schema) (id : ℤ) (schema : Schema) → Schemas metadata ss
    → Said metadata id schema → find (of_id id) ss ≡ Some schema
from_json metadata ss id schema s (d, i, read) =
    let items : i.0 ≡ s.items = (let a = i.3 in let b = s.are in cc) in
    let at : get_item i.1 s.items ≡ Some d = ap (get_item i.1) (sym items) ∙ i.4 in
    let x = of_item schema_of s.items ss i.1 d s.pairs at in
    let same : x.0 ≡ schema = (let a = x.1 in cc) in
    let n = number_there member.SchemaId d schema.id (schema_so d schema read).of_id in
    let number : n.0 ≡ i.2 = (let a = n.1 in let b = i.5 in cc) in
    let e : as_integer n.0 ≡ as_integer i.2 = ap as_integer number in
    let id_is : schema.id ≡ id = (let a = n.2 in let b = i.6 in cc) in
    is_found id ss i.1 schema s.apart (x.2 ∙ ap Some same) id_is

pub has_the_schema : HasTheSchema
has_the_schema metadata table id schema e =
    let s = schemas_so metadata table.schemas (table_so metadata table e) in
    (to_json metadata table.schemas id schema s, from_json metadata table.schemas id schema s)
