-- The partition specs of a table that was read are small.
use Rattle.std.proofs.Common.{◌≡◌, ◌≤◌, List, [], ◌∷◌, length, map, refl, ap, arith}
use Rattle.std.specs.Prelude.{Option, None, Some, Ok}
use Rattle.std.specs.List.{AllByRecursion}
use Rattle.std.proofs.lemmas.List.{length-map}
use Rattle.std.proofs.lemmas.List.Elements.{recursion_from_All}
use Rattle.ice_meta.specs.declared.metadata.Target.TheVariants.{Main}
use Rattle.ice_meta.specs.declared.schema.Schema.{Schema}
use Rattle.ice_meta.specs.declared.spec.PartitionField.{PartitionField}
use Rattle.ice_meta.specs.declared.spec.Spec.{Spec}
use Rattle.ice_meta.specs.declared.table.Table.{Table}
use Rattle.ice_meta.specs.Different.{HasDifferentFields}
use Rattle.ice_meta.specs.Tables.{field_id, table_of}
use Rattle.ice_meta.specs.Targets.{Described, bound_field, bound_spec, schema_for}
use Rattle.ice_meta.proofs.Kept.{table_fields, table_few}
use Rattle.ice_catalog_versions.specs.Bases.{table_specs, specs_under}
use Rattle.ice_catalog_versions.proofs.Writable.{IsSmall}

bound_ids : (schema : Schema) (fields : List PartitionField)
    → map field_id (map (bound_field schema) fields) ≡ map field_id fields
bound_ids schema [] = refl
bound_ids schema (f ∷ fields) = ap (λ ids. f.field_id ∷ ids) (bound_ids schema fields)

bound_small : (schema : Schema) (spec : Spec) → IsSmall spec → IsSmall (bound_spec schema spec)
bound_small schema spec small = record {
  few = let n = length-map spec.fields (bound_field schema) in let h = small.few in omega arith;
  different = rw bound_ids small.different;
}

all_bound : (schema : Schema) (specs : List Spec) → AllByRecursion IsSmall specs
    → AllByRecursion IsSmall (map (bound_spec schema) specs)
all_bound schema [] h = tt
all_bound schema (s ∷ specs) h = (bound_small schema s h.0, all_bound schema specs h.1)

all_under : (o : Option Schema) (t : Table) → AllByRecursion IsSmall t.specs → AllByRecursion IsSmall (specs_under o t)
all_under None t h = tt
all_under (Some schema) t h = all_bound schema t.specs h

pub all_small : (t : Table) → AllByRecursion IsSmall t.specs → AllByRecursion IsSmall (table_specs t)
unfolding table_specs
all_small t h = all_under (schema_for Main t) t h

small_each : (specs : List Spec) → AllByRecursion (λ (s : Spec). length s.fields ≤ 64) specs
    → AllByRecursion HasDifferentFields specs → AllByRecursion IsSmall specs
small_each [] h k = tt
small_each (s ∷ specs) h k = (record { few = h.0; different = k.0 }, small_each specs h.1 k.1)

-- those of metadata, whose table its JSON says
pub read_small : (m : Described) → table_of m.json ≡ Ok m.table → AllByRecursion IsSmall (table_specs m.table)
read_small m h =
    all_small m.table (small_each m.table.specs
    (recursion_from_All (λ (s : Spec). length s.fields ≤ 64) m.table.specs (table_few m.json m.table h))
    (recursion_from_All HasDifferentFields m.table.specs (table_fields m.json m.table h)))
