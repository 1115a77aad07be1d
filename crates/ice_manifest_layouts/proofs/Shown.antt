-- What is found of an object and of its file.
use Rattle.std.proofs.Common.{◌≡◌, ◌+◌, ◌<◌, ℕ, zero, suc, ℤ, pos, List, [], ◌∷◌, ◌++◌, length, get_or, map, Bool, true}
use Rattle.std.proofs.Common.{is_some, Option, Some, None}
use Rattle.std.proofs.Common.{Result, Ok, refl, sym, ap, subst, ◌∙◌, arith, IfSome}
use Rattle.std.proofs.lemmas.List.{length-map}
use Rattle.avro_schema.specs.Tree.{Tree, null, boolean, int, long, float, double, symbols, octets, string, fixed}
use Rattle.avro_schema.specs.Tree.{structure, array, map as map_type, union, Fields}
use Rattle.avro_schema.specs.View.{tree}
use Rattle.avro_file.specs.Value.{Value, fields, Values, values_of}
use Rattle.avro_file.specs.Blocks.{StandsAt}
use Rattle.avro_file.specs.Files.{Shows}
use Rattle.avro_file.specs.Picking.{Typed, Picked, present, pick}
use Rattle.avro_file_picked.specs.declared.found.Found.{Found}
use Rattle.avro_file_picked.specs.declared.guide.GuidedObject.{GuidedObject}
use Rattle.avro_file_picked.specs.Finding.{layout_tree, field_paths_of, is_structure, IsMet}
use Rattle.avro_file_picked.specs.Guides.{IsGuided}
use Rattle.avro_file_picked.specs.Placing.{nth_field_path, field_path_of}
use Rattle.avro_file_picked.proofs.Values.{stood, structure_taken}
use Rattle.ice_meta.specs.declared.spec.PartitionField.{PartitionField}
use Rattle.ice_manifest_fields.specs.Fields.{at, there, record_of}
use Rattle.ice_manifest_fields.specs.Schemas.{fields_in}
use Rattle.ice_manifest_fields.specs.Seen.{fields_seen}
use Rattle.ice_manifest_layouts.specs.declared.entry.FoundEntry.{FoundEntry}
use Rattle.ice_manifest_layouts.specs.declared.file.FoundFile.{FoundFile}
use Rattle.ice_manifest_layouts.specs.FieldPaths.{to_cell, to_cells, to_entries, to_files, entry_fields, file_fields}
use Rattle.ice_manifest_layouts.specs.FieldPaths.{wanted_field_paths}
use Rattle.ice_manifest_layouts.specs.declared.entry_field.FileField.{FileField}
use Rattle.ice_manifest_layouts.specs.FieldPaths.{file_id, to_file, pair_ids, IsNumberOf}
use Rattle.ice_manifest_layouts.specs.Seen.{value_read, record_met, entry_seen, IsPlaced, file_of, file_seen, IsFile}
use Rattle.ice_manifest_layouts.specs.Seen.{tuple_of}
use Rattle.ice_manifest_layouts.specs.Seen.{tuple_seen, HasTuple, IsGuidedFile}
use Rattle.ice_manifest_layouts.proofs.Records.{picked_onward}

-- ---- from the object

pub shown : (e : FoundEntry) (found : Option Found) (k : ℕ) (field_path : List ℤ) → IsPlaced e
    → IsNumberOf field_path k e.partition.now
    → ((v : Value) → Shows e.object v → IsMet found (pick (field_path_of e.layout.now k) (layout_tree e.layout.now, v)))
    → IsMet found (pick field_path (entry_seen e))
unfolding entry_seen
shown e found k field_path placed number is =
    let v : Value = placed.2.0 in
    let field_path_is : field_path_of e.layout.now k ≡ field_path = ap
    (λ (ws : List (List ℤ)). nth_field_path ws k) placed.0 ∙ number.1 in
    let read : v ≡ (entry_seen e).1 = sym (ap value_read placed.2.1.1) in
    let object_is : (layout_tree e.layout.now, v) ≡ entry_seen e =
    ap (λ (t : Tree). (t, v)) (sym placed.1.1) ∙ ap (λ (w : Value). (tree e.object.schema.now, w)) read in
    subst (λ (w : List ℤ). IsMet found (pick w (entry_seen e))) field_path_is
    (subst (λ (x : Typed). IsMet found (pick (field_path_of e.layout.now k) x)) object_is (is v placed.2.1))

-- the object and its type
pub entry_is : (e : FoundEntry) (v : Value) → Shows e.object v → entry_seen e ≡ (tree e.object.schema.now, v)
unfolding entry_seen
entry_is e v is = ap (λ (w : Value). (tree e.object.schema.now, w)) (ap value_read is.1)

-- ---- records that are found

abbrev StandsRecord : Tree → List ℕ → Value → Type 0
StandsRecord t bytes v = StandsAt t bytes v → is_structure t ≡ is_some (record_of (Some (t, v)))

fields_there : (fs : Fields) (bytes : List ℕ) (v : Value) → StandsAt (structure fs) bytes v
    → (vs : Values) × (v ≡ fields vs)
fields_there fs bytes v is =
    let read = stood (structure fs) bytes v is in
    let taken = structure_taken fs (record { bytes = bytes; left = 16777216 }) v read.0 read.1 in
    (values_of taken.0, taken.2)

record_stands : (t : Tree) (bytes : List ℕ) (v : Value) → StandsRecord t bytes v
record_stands null bytes v = λ is. refl
record_stands boolean bytes v = λ is. refl
record_stands int bytes v = λ is. refl
record_stands long bytes v = λ is. refl
record_stands float bytes v = λ is. refl
record_stands double bytes v = λ is. refl
record_stands (symbols n) bytes v = λ is. refl
record_stands (octets k) bytes v = λ is. refl
record_stands string bytes v = λ is. refl
record_stands (fixed n k) bytes v = λ is. refl
record_stands (structure fs) bytes v = λ is.
    let taken = fields_there fs bytes v is in rw (taken.1) refl
record_stands (array t id k) bytes v = λ is. refl
record_stands (map_type t) bytes v = λ is. refl
record_stands (union bs) bytes v = λ is. refl

pub record_there : (f : Found) (met : Picked) → IsMet (Some f) met
    → is_structure (tree f.schema.now) ≡ is_some (record_of (there met))
record_there f met is =
    record_stands (tree f.schema.now) f.bytes.now is.0 is.1
    ∙ ap (λ (m : Picked). is_some (record_of (there m))) (sym is.2)

-- a record's type has its fields
pub structure_is : (t : Tree) → is_structure t ≡ true → t ≡ structure (fields_in t)
structure_is null is = absurd cc
structure_is boolean is = absurd cc
structure_is int is = absurd cc
structure_is long is = absurd cc
structure_is float is = absurd cc
structure_is double is = absurd cc
structure_is (symbols n) is = absurd cc
structure_is (octets k) is = absurd cc
structure_is string is = absurd cc
structure_is (fixed n k) is = absurd cc
structure_is (structure fs) is = refl
structure_is (array t id k) is = absurd cc
structure_is (map_type t) is = absurd cc
structure_is (union bs) is = absurd cc

pub fields_met : (f : Found) (met : Picked) (fs : Fields) → IsMet (Some f) met → tree f.schema.now ≡ structure fs
    → (vs : Values) × (record_of (there met) ≡ Some (structure fs, fields vs))
fields_met f met fs is type_is =
    let stands = subst (λ (t : Tree). StandsAt t f.bytes.now is.0) type_is is.1 in
    let taken = fields_there fs f.bytes.now is.0 stands in (
      taken.0,
      ap (λ (m : Picked). record_of (there m)) is.2
          ∙ ap (λ (t : Tree). record_of (Some (t, is.0))) type_is
          ∙ ap (λ (v : Value). record_of (Some (structure fs, v))) taken.1,
    )

-- ---- from the file

pub file_shown : (f : FoundFile) (found : Option Found) (k : ℕ) (next : ℤ) (field_path : List ℤ) → IsFile f
    → IsNumberOf (pos 2 ∷ next ∷ field_path) k f.entry.now.partition.now
    → ((v : Value) → Shows f.entry.now.object v
    → IsMet found (pick (field_path_of f.entry.now.layout.now k) (layout_tree f.entry.now.layout.now, v)))
    → IsMet found (pick (next ∷ field_path) (file_seen f))
unfolding file_seen
file_shown f found k next field_path is number finds =
    let here = ap record_met is.1.1 in
    let onward = picked_onward (pos 2) next field_path (entry_seen f.entry.now) (
      structure (fields_seen f.fields.now),
      fields
          is.1.0,
    ) is.1.1 in
    subst (λ (met : Picked). IsMet found met) (onward ∙ ap (pick (next ∷ field_path)) (sym here))
    (shown f.entry.now found k (pos 2 ∷ next ∷ field_path) is.0 number finds)

-- where the file's object stands with a guide
pub guided_shown : (f : FoundFile) (r : Option GuidedObject) → IsFile f → ((v : Value) → Shows f.entry.now.object v
    → IfSome r (λ guided. IsGuided (field_paths_of f.entry.now.layout.now)
    (layout_tree f.entry.now.layout.now) v guided))
    → IfSome r (λ guided. IsGuidedFile f guided)
unfolding entry_seen file_seen
guided_shown f None is shows = tt
guided_shown f (Some guided) is shows =
    let e = f.entry.now in
    let v : Value = is.0.2.0 in
    let read : v ≡ (entry_seen e).1 = sym (ap value_read is.0.2.1.1) in
    let object_is : (layout_tree e.layout.now, v) ≡ entry_seen e =
    ap (λ (t : Tree). (t, v)) (sym is.0.1.1) ∙ ap (λ (w : Value). (tree e.object.schema.now, w)) read in
    let here = ap record_met is.1.1 in (
      layout_tree e.layout.now,
      v,
      subst (λ (ws : List (List ℤ)). IsGuided ws (layout_tree e.layout.now) v guided) is.0.0 (shows v is.0.2.1),
      λ field. ap (pick (to_file field)) object_is
          ∙ picked_onward (pos 2) (file_id field) [] (entry_seen e)
          (structure (fields_seen f.fields.now), fields is.1.0)
          is.1.1 ∙ ap (pick (file_id field ∷ [])) (sym here),
    )

-- ---- from the partition values

nth_behind : (front field_paths : List (List ℤ)) (k : ℕ)
    → nth_field_path (front ++ field_paths) (length front + k) ≡ nth_field_path field_paths k
nth_behind [] field_paths k = rw (zero_add_is k) refl
  where
    zero_add_is : (k : ℕ) → 0 + k ≡ k
    zero_add_is k = omega arith
nth_behind (field_path ∷ front) field_paths k =
    let e : suc (length front) + k ≡ suc (length front + k) = omega arith in
    rw e (nth_behind front field_paths k)

nth_cell : (ps : List PartitionField) (k : ℕ) (p : PartitionField) → k < length ps → p ≡ get_or ps k p
    → nth_field_path (to_cells ps) k ≡ to_cell p
nth_cell [] k p lt is = absurd (omega arith)
nth_cell (q ∷ ps) zero p lt is = ap to_cell (sym is)
nth_cell (q ∷ ps) (suc k) p lt is = nth_cell ps k p (omega arith) is

pub cell_shown : (f : FoundFile) (found : Option Found) (k : ℕ) (p : PartitionField) → IsFile f → HasTuple f
    → k < length f.entry.now.partition.now → p ≡ get_or f.entry.now.partition.now k p
    → ((v : Value) → Shows f.entry.now.object v
    → IsMet found (pick (field_path_of f.entry.now.layout.now (18 + k)) (layout_tree f.entry.now.layout.now, v)))
    → IsMet found (at p.field_id (tuple_seen f))
unfolding tuple_seen
cell_shown f found k p is tuple lt here finds =
    let ps = f.entry.now.partition.now in
    let front : List (List ℤ) = to_entries entry_fields ++ (to_files file_fields ++ pair_ids ∷ []) in
    let number : nth_field_path (wanted_field_paths ps) (18 + k) ≡ to_cell p =
    nth_behind front (to_cells ps) k ∙ nth_cell ps k p lt here in
    let few : 18 + k < length (wanted_field_paths ps) = omega (arith, length-map ps to_cell, lt) in
    let onward = picked_onward (pos 102) p.field_id [] (file_seen f) tuple.0 tuple.1 in
    subst (λ (met : Picked). IsMet found met) (onward ∙ ap (at p.field_id) (sym (ap record_met tuple.1)))
    (file_shown f found (18 + k) (pos 102) (p.field_id ∷ []) is (few, number) finds)
