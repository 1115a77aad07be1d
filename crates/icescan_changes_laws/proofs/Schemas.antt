-- What is live does not depend on the schema that gives partition fields the types of their source columns.
use Rattle.std.proofs.Common.{◌≡◌, ℕ, ℤ, pos, Bool, ◌&&◌, List, [], ◌∷◌, map, cond, refl, ap, ◌∙◌, sym, Option, Some, None}
use Rattle.std.proofs.Common.{is_none, option_map, true, false}
use Rattle.std.specs.Prelude.{Result, Ok, Err}
use Rattle.std.specs.List.{enumerate_from, find, list_all}
use Rattle.std.specs.Ordering.{int_eq}
use Rattle.std.proofs.Math.Path.{fun_ext}
use Rattle.contract_words.specs.Outcome.{◌>>=◌}
use Rattle.avro_schema.specs.Tree.{Tree, Fields, null, boolean, int, long, float, double, octets, string, fixed, symbols}
use Rattle.avro_schema.specs.Tree.{structure, array, union}
use Rattle.avro_schema.specs.Tree as tree
use Rattle.avro_file.specs.Ahead.{Ahead, running, refusing}
use Rattle.avro_file.specs.Picking.{Typed}
use Rattle.avro_file.specs.Value.{Value}
use Rattle.ice_value.specs.declared.cell.Cell.{Cell}
use Rattle.ice_meta.specs.Partitioning.{is_unpartitioned, is_void}
use Rattle.ice_meta.specs.Targets.{bound_field, bound_spec, bound_specs}
use Rattle.ice_meta.specs.declared.schema.Schema.{Schema}
use Rattle.ice_meta.specs.declared.spec.PartitionField.{PartitionField}
use Rattle.ice_meta.specs.declared.spec.Spec.{Spec}
use Rattle.ice_meta.specs.declared.table.Table.{Table}
use Rattle.ice_manifest_fields.specs.declared.fault.ManifestFault.{ManifestFault}
use Rattle.ice_manifest_fields.specs.Each.{each}
use Rattle.ice_manifest_fields.specs.Fields.{record_at}
use Rattle.ice_manifest_fields.specs.Naming.{ended, in_manifest}
use Rattle.ice_manifest_fields.specs.Schemas.{each_is_cell, type_at}
use Rattle.ice_manifest_reading.specs.ManifestSchemas.{cells_fit, entry_fields, file_fields, is_file, is_tuple, tuple_in}
use Rattle.ice_manifest_reading.specs.Manifests.{entries_ahead, entry_of, file_of, kept as live_among, live_at, live_of}
use Rattle.ice_manifest_reading.specs.Partitions.{cell_at, cells_of, tuple_at}
use Rattle.ice_manifest_reading.specs.declared.entry.Live.{Live}
use Rattle.ice_manifest_reading.specs.declared.row.ManifestContent.{ManifestContent}
use Rattle.ice_manifest_reading.specs.declared.row.Row.{Row}
use Rattle.ice_manifest_reading.specs.declared.status.Status.{Status}
use Rattle.ice_state.specs.Contents.{live_by, manifest_of}
use Rattle.ice_state.specs.Specs.{spec_of}

module _ (schema : Schema) where
  abbrev bound : List PartitionField → List PartitionField
  bound ps = map (bound_field schema) ps

  -- ---- the schema of a manifest

  cells_bound : (ps : List PartitionField) (fs : Fields) → cells_fit (bound ps) fs ≡ cells_fit ps fs
  unfolding cells_fit
  cells_bound [] fs = refl
  cells_bound (p ∷ ps) fs =
      ap (λ rest. each_is_cell p.field_id (type_at p.field_id fs) >>= λ ok. rest) (cells_bound ps fs)

  tuple_bound : (ps : List PartitionField) (t : Tree) → is_tuple (bound ps) t ≡ is_tuple ps t
  tuple_bound ps (structure fs) = cells_bound ps fs
  tuple_bound ps null = refl
  tuple_bound ps boolean = refl
  tuple_bound ps int = refl
  tuple_bound ps long = refl
  tuple_bound ps float = refl
  tuple_bound ps double = refl
  tuple_bound ps (octets kind) = refl
  tuple_bound ps string = refl
  tuple_bound ps (fixed size kind) = refl
  tuple_bound ps (symbols n) = refl
  tuple_bound ps (array t id kind) = refl
  tuple_bound ps (tree.map t) = refl
  tuple_bound ps (union ts) = refl

  tuple_type_bound : (ps : List PartitionField) (fs : Fields) → tuple_in (bound ps) fs ≡ tuple_in ps fs
  unfolding tuple_in
  tuple_type_bound [] fs = refl
  tuple_type_bound (p ∷ ps) fs = refl

  file_fields_bound : (ps : List PartitionField) (fs : Fields) → file_fields (bound ps) fs ≡ file_fields ps fs
  unfolding file_fields
  file_fields_bound ps fs = rw (tuple_type_bound ps fs, fun_ext (tuple_bound ps)) refl

  file_bound : (ps : List PartitionField) (t : Tree) → is_file (bound ps) t ≡ is_file ps t
  file_bound ps (structure fs) = file_fields_bound ps fs
  file_bound ps null = refl
  file_bound ps boolean = refl
  file_bound ps int = refl
  file_bound ps long = refl
  file_bound ps float = refl
  file_bound ps double = refl
  file_bound ps (octets kind) = refl
  file_bound ps string = refl
  file_bound ps (fixed size kind) = refl
  file_bound ps (symbols n) = refl
  file_bound ps (array t id kind) = refl
  file_bound ps (tree.map t) = refl
  file_bound ps (union ts) = refl

  fields_bound : (spec : Spec) (fs : Fields) → entry_fields (bound_spec schema spec) fs ≡ entry_fields spec fs
  unfolding entry_fields
  fields_bound spec fs = rw (fun_ext (file_bound spec.fields)) refl

  -- ---- entries

  cells_same : (ps : List PartitionField) (x : Typed) → cells_of (bound ps) x ≡ cells_of ps x
  cells_same [] x = refl
  cells_same (p ∷ ps) x = ap (λ (cells : List Cell). cell_at p.field_id x ∷ cells) (cells_same ps x)

  tuple_same : (ps : List PartitionField) (x : Typed) → tuple_at (bound ps) x ≡ tuple_at ps x
  unfolding tuple_at
  tuple_same [] x = refl
  tuple_same (p ∷ ps) x =
      ap (λ (cells : Typed → List Cell). record_at (pos 102) x >>= λ y. Ok (cells y)) (fun_ext (cells_same (p ∷ ps)))

  file_same : (content : ManifestContent) (ps : List PartitionField) (x : Typed)
      → file_of content (bound ps) x ≡ file_of content ps x
  unfolding file_of
  file_same content ps x = rw (tuple_same ps x) refl

  void_same : (ps : List PartitionField) → list_all is_void (bound ps) ≡ list_all is_void ps
  void_same [] = refl
  void_same (p ∷ ps) = ap (λ b. is_void p && b) (void_same ps)

  live_same : (row : Row) (spec : Spec) (position : ℕ) (status : Status) (x : Typed)
      → live_at row (bound_spec schema spec) position status x ≡ live_at row spec position status x
  unfolding live_at
  live_same row spec position status x =
      rw (void_same spec.fields, fun_ext (file_same row.content spec.fields)) refl

  entry_same : (row : Row) (spec : Spec) (position : ℕ) (x : Typed)
      → entry_of row (bound_spec schema spec) position x ≡ entry_of row spec position x
  unfolding entry_of
  entry_same row spec position x =
      rw (fun_ext (λ status. fun_ext (live_same row spec position status))) refl

  entries_same : (row : Row) (spec : Spec) (fs : Fields) (position : ℕ) (ahead : Ahead)
      → entries_ahead row (bound_spec schema spec) fs position ahead ≡ entries_ahead row spec fs position ahead
  unfolding entries_ahead
  entries_same row spec fs position (running vs ending) =
      ap (λ (says : ℕ → Typed → Result (Option Live) ManifestFault). each
      (λ (p : ℕ × Value). says p.0 (structure fs, p.1)) (enumerate_from position vs)
      >>= λ read. ended in_manifest ending (live_among read)) (fun_ext (λ n. fun_ext (entry_same row spec n)))
  entries_same row spec fs position (refusing f) = refl

  pub manifest_same : (row : Row) (spec : Spec) (bytes : List ℕ)
      → live_of row (bound_spec schema spec) bytes ≡ live_of row spec bytes
  unfolding live_of
  manifest_same row spec bytes =
      rw (
        fun_ext (fields_bound spec),
        fun_ext (λ fs. fun_ext (λ n. fun_ext (entries_same row spec fs n))),
      ) refl

  -- ---- the spec of an id

  spec_bound : (specs : List Spec) (id : ℤ)
      → spec_of (map (bound_spec schema) specs) id ≡ option_map (bound_spec schema) (spec_of specs id)
  spec_bound [] id = refl
  spec_bound (s ∷ specs) id = elim (int_eq s.id id) as
      (λ b. cond b (Some (bound_spec schema s)) (spec_of (map (bound_spec schema) specs) id)
      ≡ option_map (bound_spec schema) (cond b (Some s) (spec_of specs id))) [
        | true ↦ refl
        | false ↦ spec_bound specs id
      ]

  by_bound : (found : Option Spec) (row : Row) (bytes : List ℕ)
      → live_by (option_map (bound_spec schema) found) row bytes ≡ live_by found row bytes
  by_bound None row bytes = refl
  by_bound (Some spec) row bytes = manifest_same row spec bytes

  -- by the specs that are bound to the schema as by those that are not
  pub as_unbound : (t : Table) (row : Row) (bytes : List ℕ)
      → manifest_of (bound_specs schema t) row bytes ≡ manifest_of t.specs row bytes
  as_unbound t row bytes =
      ap (λ found. live_by found row bytes) (spec_bound t.specs row.spec_id)
      ∙ by_bound (spec_of t.specs row.spec_id) row bytes

  is_none_bound : (found : Option Spec) → is_none (option_map (bound_spec schema) found) ≡ is_none found
  is_none_bound None = refl
  is_none_bound (Some spec) = refl

  pub lacks_as_unbound : (t : Table) (id : ℤ)
      → is_none (spec_of (bound_specs schema t) id) ≡ is_none (spec_of t.specs id)
  lacks_as_unbound t id = ap is_none (spec_bound t.specs id) ∙ is_none_bound (spec_of t.specs id)
