-- The headings of new manifests.
use Rattle.std.proofs.Common.{◌≡◌, ℤ, true, false, cond, List, [], ◌∷◌, map, find, refl, sym, ap, ◌∙◌}
use Rattle.std.specs.Prelude.{Some}
use Rattle.std.specs.Option.{option_map}
use Rattle.std.specs.Ordering.{int_eq}
use Rattle.ice_value.specs.declared.column_type.ColumnType.{ColumnType}
use Rattle.ice_meta.specs.declared.schema.Schema.{Schema}
use Rattle.ice_meta.specs.declared.spec.Spec.{Spec}
use Rattle.ice_meta.specs.declared.table.Table.{Table}
use Rattle.ice_meta.specs.declared.metadata.Target.TheVariants.{Main}
use Rattle.ice_meta.specs.Targets.{Described, bound_spec, schema_for, spec_with}
use Rattle.ice_manifest.specs.declared.heading.Heading.{Heading}
use Rattle.ice_catalog_changes.specs.declared.change.Ids.{Ids}
use Rattle.ice_catalog_versions.specs.Adding.{schema_text, spec_or_none, types_of, heading_of}
use Rattle.ice_catalog_versions.specs.Bases.{table_specs, specs_under, spec_in}
use Rattle.ice_catalog_versions.specs.Groups.{Group}

find_bound : (schema : Schema) (id : ℤ) (specs : List Spec)
    → spec_in (map (bound_spec schema) specs) id ≡ option_map (bound_spec schema) (find (λ (s : Spec). int_eq s.id id)
    specs)
find_bound schema id [] = refl
find_bound schema id (s ∷ specs) =
    elim (int_eq s.id id) as (λ b. cond b (Some (bound_spec schema s)) (spec_in (map (bound_spec schema) specs) id)
    ≡ option_map (bound_spec schema) (cond b (Some s) (find (λ (s : Spec). int_eq s.id id) specs))) [
      | true ↦ refl
      | false ↦ find_bound schema id specs
    ]

-- the table's spec of an id is that of the metadata, under the current schema
pub found_bound : (t : Table) (schema : Schema) (id : ℤ) → Some schema ≡ schema_for Main t
    → spec_in (table_specs t) id ≡ option_map (bound_spec schema) (spec_with id t)
unfolding table_specs
found_bound t schema id h = ap (λ s. spec_in (specs_under s t) id) (sym h) ∙ find_bound schema id t.specs

pub heading_is : (m : Described) (ids : Ids) (g : Group) (spec : Spec) (types : List ColumnType)
    → spec_in (table_specs m.table) g.spec_id ≡ Some spec → types ≡ types_of spec
    → ◌≡◌ {A = Heading} (record {
      schema = schema_text m;
      schema_id = m.table.current_schema_id;
      spec = spec;
      types = types;
      content = g.content;
      snapshot_id = ids.snapshot;
      sync = ids.uuid;
    }) (heading_of m ids g)
unfolding heading_of
heading_is m ids g spec types s t =
    let same : spec ≡ spec_or_none g.spec_id (spec_in (table_specs m.table) g.spec_id) = ap (spec_or_none g.spec_id)
    (sym s) in
    λ i. record {
      schema = schema_text m;
      schema_id = m.table.current_schema_id;
      spec = same i;
      types = (t ∙ ap types_of same) i;
      content = g.content;
      snapshot_id = ids.snapshot;
      sync = ids.uuid;
    }
