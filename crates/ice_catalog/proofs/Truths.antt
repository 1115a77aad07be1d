-- What a pinned scan reads is covered.
use Rattle.std.proofs.Common.{◌≡◌, ℕ, List, [], ap, subst}
use Rattle.std.specs.Prelude.{Option, None, Some, Result, Ok, Err}
use Rattle.std.specs.FinMap.{get}
use Rattle.std.specs.List.{AllByRecursion}
use Rattle.std.specs.Option.{option_and_then, unwrap_or}
use Rattle.std.specs.Result.{result_ok}
use Rattle.contract_words.specs.Outcome.{◌>>=◌}
use Rattle.ice_filter.specs.declared.bound.BoundPredicate.{BoundPredicate}
use Rattle.ice_filter.specs.declared.predicate.Predicate.{Predicate}
use Rattle.ice_filter.specs.declared.parts.Part.{Part}
use Rattle.ice_meta.specs.declared.fault.MetaFault.{MetaFault}
use Rattle.ice_meta.specs.declared.metadata.Target.TheVariants.{Main}
use Rattle.ice_meta.specs.declared.schema.Schema.{Schema}
use Rattle.ice_meta.specs.declared.spec.Spec.{Spec}
use Rattle.ice_meta.specs.Targets.{list_of}
use Rattle.ice_manifest_fields.specs.declared.fault.ListFault.{ListFault}
use Rattle.ice_manifest_reading.specs.declared.row.Row.{Row}
use Rattle.ice_manifest_reading.specs.Lists.{rows_of}
use Rattle.ice_catalog.specs.Apart.{Reads, TellsTheTruth}
use Rattle.ice_catalog_versions.specs.Bases.{base_rows, rows_at, specs_under, table_specs}
use Rattle.ice_catalog_versions.specs.Covered.{HasCoveredRows}
use Rattle.ice_catalog.specs.Pins.{as_pin, of_list, of_meta, rows_in, there}
use Rattle.ice_catalog_versions.specs.States.{State}
use Rattle.ice_catalog_versions.proofs.Covered.{IsCoveredAt}

-- ---- what a pinned scan reads

rows_read : (state : State) (rows : List Row) → rows_in state ≡ Ok rows
    → base_rows state.world state.metadata.table ≡ rows
unfolding rows_in
rows_read state rows h = of_path (list_of Main state.metadata.table) h where
  of_rows : (r : Result (List Row) ListFault) → as_pin of_list r ≡ Ok rows → unwrap_or (result_ok r) [] ≡ rows
  of_rows (Ok found) h = cc
  of_rows (Err f) h = absurd cc

  of_bytes : (b : Option (List ℕ)) → (there b >>= λ bytes. as_pin of_list (rows_of bytes)) ≡ Ok rows
      → unwrap_or (option_and_then (λ bytes. result_ok (rows_of bytes)) b) [] ≡ rows
  of_bytes None h = absurd cc
  of_bytes (Some bytes) h = of_rows (rows_of bytes) h

  of_path : (r : Result (List ℕ) MetaFault)
      → (as_pin of_meta r >>= λ path. there (get state.world path) >>= λ bytes. as_pin of_list (rows_of bytes)) ≡ Ok
      rows → unwrap_or (rows_at state.world (result_ok r)) [] ≡ rows
  of_path (Ok path) h = of_bytes (get state.world path) h
  of_path (Err f) h = absurd cc

pub tells_the_truth : (state : State) (filter : List (Part Predicate)) (schema : Schema) (rows : List Row)
    (parts : List (Part BoundPredicate)) → Reads state filter schema rows parts → HasCoveredRows state
    → TellsTheTruth state schema rows
unfolding table_specs
tells_the_truth state filter schema rows parts reads covered =
    let t = state.metadata.table in
    let own : table_specs t ≡ specs_under (Some schema) t = ap (λ o. specs_under o t) reads.current in
    subst (λ (of : List Spec). AllByRecursion (IsCoveredAt state.world of) rows) own
    (subst (AllByRecursion (IsCoveredAt state.world (table_specs t))) (rows_read state rows reads.listed) covered)
