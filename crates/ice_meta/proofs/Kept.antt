-- What holds of every schema and every spec that was read.
use Rattle.std.proofs.Common.{◌≡◌, ◌≤◌, ◌+◌, suc, Bool, true, false, cond, length, arith, length-append, ◌∙◌, List, []}
use Rattle.std.proofs.Common.{◌∷◌, ◌++◌, map, Option, None, Some, Ok, Err, refl, sym, ap}
use Rattle.std.specs.Prelude.{ℤ, Result, nat_lt}
use Rattle.std.specs.List.{All, IsDistinct}
use Rattle.std.specs.Ordering.{int_eq}
use Rattle.std.proofs.lemmas.Bool.{ltb-false}
use Rattle.std.proofs.lemmas.List.Elements.{All-nil, All-cons, All-append}
use Rattle.contract_words.specs.Outcome.{◌>>=◌}
use Rattle.serde_json.specs.Data as json
use Rattle.serde_json.specs.Data.{Data, Items}
use Rattle.serde_json.specs.Events.{items_len}
use Rattle.ice_meta.specs.declared.fault.MetaFault.{MetaFault}
use Rattle.ice_meta.specs.declared.fault.MetaFault.TheVariants.{TooBig}
use Rattle.ice_meta.specs.declared.schema.Schema.{Schema}
use Rattle.ice_meta.specs.declared.spec.Spec.{Spec}
use Rattle.ice_meta.specs.Reading.{each, each_into, one_more, again, or_twice, once}
use Rattle.ice_meta.specs.declared.fault.Member.TheVariants as member
use Rattle.ice_meta.specs.declared.table.Table.{Table}
use Rattle.ice_meta.specs.Members.{long_in, int_in, sequence_number_in, text_in, objects_in}
use Rattle.ice_meta.specs.Schemas.{column_id, if_struct, inside, most_levels, fields_at, schema_of}
use Rattle.ice_meta.specs.Different.{HasDifferentColumns, HasDifferentFields}
use Rattle.ice_meta.specs.Tables.{field_id, partition_field_of, if_few, spec_of, schemas_in, specs_in, schema_id}
use Rattle.ice_meta.specs.Tables.{spec_id, version_in, uuid_in, location_in, current_schema_in, default_spec_in}
use Rattle.ice_meta.specs.Tables.{current_snapshot_in, snapshots_in, refs_in, table_of}
use Rattle.ice_meta.proofs.Different.{distinct}

-- what was read first, where the rest was read too
parts : {A B E : Type 0} (r : Result A E) (f : A → Result B E) (y : B) → (r >>= f) ≡ Ok y
    → (x : A) × ((r ≡ Ok x) × (f x ≡ Ok y))
parts (Ok x) f y e = (x, (refl, e))
parts (Err fault) f y e = absurd cc

-- the same where what was read last is put into a whole
last : {A B : Type 0} (r : Result A MetaFault) (f : A → B) (y : B) → (r >>= λ x. Ok (f x)) ≡ Ok y
    → (x : A) × ((r ≡ Ok x) × (f x ≡ y))
last (Ok x) f y e = (x, (refl, cc))
last (Err fault) f y e = absurd cc

each_all : {A : Type 0} (P : A → Type 0) (read : Data → Result A MetaFault) → ((d : Data) (x : A) → read d ≡ Ok x → P x)
    → (items : Items) (front xs : List A) → All P front → each_into (one_more read) items front ≡ Ok xs → All P xs
each_all {A = A} P read h json.no_items front xs all e = let same : front ≡ xs = cc in rw same at all
each_all {A = A} P read h (json.item d ds) front xs all e = here (read d) refl e (each_all P read h ds)
  where
    here : (r : Result A MetaFault) → read d ≡ r → ((r >>= λ x. Ok (front ++ x ∷ [])) >>= each_into (one_more read) ds)
        ≡ Ok xs
        → ((later ys : List A) → All P later → each_into (one_more read) ds later ≡ Ok ys → All P ys) → All P xs
    here (Ok x) was now rest = rest (front ++ x ∷ []) xs (All-append P front (x ∷ []) all (All-cons P x [] (h d x was)
        (All-nil P))) now
    here (Err fault) was now rest = absurd cc

-- a list of which no id comes again is given as it is
pub once_is : {A : Type 0} (id : A → ℤ) (xs ys : List A) → once id xs ≡ Ok ys → (xs ≡ ys) × (again (map id xs) ≡ None)
once_is id xs ys e = here (again (map id xs)) refl e
  where
    here : (o : Option ℤ) → again (map id xs) ≡ o → or_twice o xs ≡ Ok ys → (xs ≡ ys) × (again (map id xs) ≡ None)
    here None was now = let same : xs ≡ ys = cc in (same, was)
    here (Some twice) was now = absurd cc

once_differs : {A : Type 0} (id : A → ℤ) (xs ys : List A) → once id xs ≡ Ok ys → IsDistinct int_eq (map id ys)
once_differs id xs ys e = let o = once_is id xs ys e in rw o.0 at (distinct (map id xs) o.1)

columns_differ : (d : Data) (s : Schema) → schema_of d ≡ Ok s → HasDifferentColumns s
unfolding schema_of
columns_differ d s e =
    let type = parts (text_in member.Type d) _ s e in
    let struct = parts (if_struct type.0) _ s type.1.1 in
    let id = parts (int_in member.SchemaId d) _ s struct.1.1 in
    let columns = parts (fields_at (inside most_levels) None d []) _ s id.1.1 in
    let different = last (once column_id columns.0) _ s columns.1.1 in
    let same : different.0 ≡ s.columns = ap (λ (x : Schema). x.columns) different.1.1 in
    rw same at (once_differs column_id columns.0 different.0 different.1.0)

fields_differ : (d : Data) (s : Spec) → spec_of d ≡ Ok s → HasDifferentFields s
unfolding spec_of
fields_differ d s e =
    let id = parts (int_in member.SpecId d) _ s e in
    let items = parts (objects_in member.Fields d) _ s id.1.1 in
    let few = parts (if_few items.0) _ s items.1.1 in
    let fields = parts (each partition_field_of few.0) _ s few.1.1 in
    let different = last (once field_id fields.0) _ s fields.1.1 in
    let same : different.0 ≡ s.fields = ap (λ (x : Spec). x.fields) different.1.1 in
    rw same at (once_differs field_id fields.0 different.0 different.1.0)

all_columns_differ : (d : Data) (ss : List Schema) → schemas_in d ≡ Ok ss → All HasDifferentColumns ss
unfolding schemas_in
all_columns_differ d ss e =
    let items = parts (objects_in member.Schemas d) _ ss e in
    let schemas = parts (each schema_of items.0) _ ss items.1.1 in
    rw (once_is schema_id schemas.0 ss schemas.1.1).0 at
    (each_all HasDifferentColumns schema_of columns_differ items.0 [] schemas.0 (All-nil _) schemas.1.0)

all_fields_differ : (d : Data) (ss : List Spec) → specs_in d ≡ Ok ss → All HasDifferentFields ss
unfolding specs_in
all_fields_differ d ss e =
    let items = parts (objects_in member.PartitionSpecs d) _ ss e in
    let specs = parts (each spec_of items.0) _ ss items.1.1 in
    rw (once_is spec_id specs.0 ss specs.1.1).0 at
    (each_all HasDifferentFields spec_of fields_differ items.0 [] specs.0 (All-nil _) specs.1.0)

-- the schemas and specs of a table
table_parts : (d : Data) (t : Table) → table_of d ≡ Ok t → (schemas_in d ≡ Ok t.schemas) × (specs_in d ≡ Ok t.specs)
unfolding table_of
table_parts d t e =
    let version = parts (version_in d) _ t e in
    let uuid = parts (uuid_in d) _ t version.1.1 in
    let location = parts (location_in d) _ t uuid.1.1 in
    let last_sequence_number = parts (sequence_number_in member.LastSequenceNumber d) _ t location.1.1 in
    let last_updated_ms = parts (long_in member.LastUpdatedMs d) _ t last_sequence_number.1.1 in
    let last_column_id = parts (int_in member.LastColumnId d) _ t last_updated_ms.1.1 in
    let schemas = parts (schemas_in d) _ t last_column_id.1.1 in
    let current_schema_id = parts (current_schema_in schemas.0 d) _ t schemas.1.1 in
    let specs = parts (specs_in d) _ t current_schema_id.1.1 in
    let default_spec_id = parts (default_spec_in specs.0 d) _ t specs.1.1 in
    let last_partition_id = parts (int_in member.LastPartitionId d) _ t default_spec_id.1.1 in
    let current_snapshot_id = parts (current_snapshot_in d) _ t last_partition_id.1.1 in
    let snapshots = parts (snapshots_in d) _ t current_snapshot_id.1.1 in
    let refs = last (refs_in d) _ t snapshots.1.1 in
    let same_schemas : schemas.0 ≡ t.schemas = ap (λ (x : Table). x.schemas) refs.1.1 in
    let same_specs : specs.0 ≡ t.specs = ap (λ (x : Table). x.specs) refs.1.1 in
    (rw same_schemas at schemas.1.0, rw same_specs at specs.1.0)

pub table_columns : (d : Data) (t : Table) → table_of d ≡ Ok t → All HasDifferentColumns t.schemas
table_columns d t e = all_columns_differ d t.schemas (table_parts d t e).0

pub table_fields : (d : Data) (t : Table) → table_of d ≡ Ok t → All HasDifferentFields t.specs
table_fields d t e = all_fields_differ d t.specs (table_parts d t e).1

-- ---- how many fields a spec has

each_len : {A : Type 0} (read : Data → Result A MetaFault) (items : Items) (front xs : List A)
    → each_into (one_more read) items front ≡ Ok xs → length xs ≡ length front + items_len items
each_len read json.no_items front xs e = let same : front ≡ xs = cc in rw same (omega arith)
each_len {A = A} read (json.item d ds) front xs e = here (read d) e (λ x. each_len read ds (front ++ x ∷ []) xs)
  where
    here : (r : Result A MetaFault) → ((r >>= λ x. Ok (front ++ x ∷ [])) >>= each_into (one_more read) ds) ≡ Ok xs
        → ((x : A) → each_into (one_more read) ds (front ++ x ∷ []) ≡ Ok xs → length xs ≡ length (front ++ x ∷ []) +
        items_len ds) → length xs ≡ length front + suc (items_len ds)
    here (Ok x) now rest = let n = rest x now in let m = length-append front (x ∷ []) in omega arith
    here (Err fault) now rest = absurd cc

few_of : (items x : Items) → if_few items ≡ Ok x → (items ≡ x) × (items_len items ≤ 64)
few_of items x e = here (nat_lt 64 (items_len items)) refl e
  where
    here : (b : Bool) → nat_lt 64 (items_len items) ≡ b → cond b (Err TooBig) (Ok items) ≡ Ok x
        → (items ≡ x) × (items_len items ≤ 64)
    here true was now = absurd cc
    here false was now = (cc, ltb-false 64 (items_len items) was)

few_fields : (d : Data) (s : Spec) → spec_of d ≡ Ok s → length s.fields ≤ 64
unfolding spec_of
few_fields d s e =
    let id = parts (int_in member.SpecId d) _ s e in
    let items = parts (objects_in member.Fields d) _ s id.1.1 in
    let few = parts (if_few items.0) _ s items.1.1 in
    let fields = parts (each partition_field_of few.0) _ s few.1.1 in
    let different = last (once field_id fields.0) _ s fields.1.1 in
    let same : different.0 ≡ s.fields = ap (λ (x : Spec). x.fields) different.1.1 in
    let kept = (once_is field_id fields.0 different.0 different.1.0).0 in
    let n = each_len partition_field_of few.0 [] fields.0 fields.1.0 in
    let m = few_of items.0 few.0 few.1.0 in
    let k : length s.fields ≡ length fields.0 = ap length (sym (kept ∙ same)) in
    let j : items_len few.0 ≡ items_len items.0 = ap items_len (sym m.0) in
    let le = m.1 in
    omega arith

all_few : (d : Data) (ss : List Spec) → specs_in d ≡ Ok ss → All (λ (s : Spec). length s.fields ≤ 64) ss
unfolding specs_in
all_few d ss e =
    let items = parts (objects_in member.PartitionSpecs d) _ ss e in
    let specs = parts (each spec_of items.0) _ ss items.1.1 in
    rw (once_is spec_id specs.0 ss specs.1.1).0 at
    (each_all (λ (s : Spec). length s.fields ≤ 64) spec_of few_fields items.0 [] specs.0 (All-nil _) specs.1.0)

pub table_few : (d : Data) (t : Table) → table_of d ≡ Ok t → All (λ (s : Spec). length s.fields ≤ 64) t.specs
table_few d t e = all_few d t.specs (table_parts d t e).1
