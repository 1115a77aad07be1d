use Rattle.std.proofs.Common.{◌∙◌}
use Rattle.std.proofs.lemmas.Result.{err_from_is_err_and}
use Rattle.serde_json.specs.View.{view}
use Rattle.ice_meta_json.proofs.Filling.{fills_all}
use Rattle.ice_meta.proofs.FirstFault.{told, none_told}
use Rattle.ice_meta.proofs.Kept.{table_columns, table_fields}
use Rattle.ice_meta.proofs.Nesting.{under_filled}
use Rattle.ice_meta.proofs.Upgraded.{says_the_same, still_object}
use Rattle.ice_meta.proofs.metadata.Metadata.read.Goals as goal

pub returns-in_err-table-clause-order : goal.returns-in_err-table-clause-order
returns-in_err-table-clause-order c =
    let p = err_from_is_err_and c.from_residual-in_err-table.result c.from_residual-in_err-table.ensures.1 in
    rw (p.1, p.2) (told c.args.bytes.now _ c.in_err-table.field-0.0 c.in_ok-json.ensures.read
    c.in_err-table.ensures.read)

pub invariant_of-result : goal.invariant_of-result
invariant_of-result c =
    let d = view c.in_ok-json.json in
    let full = c.in_ok-full.ensures in
    record {
      named = c.in_ok-table.ensures.current_schema;
      object = rw full (still_object d c.in_ok-json.ensures.object);
      nests = rw full (under_filled d c.in_ok-json.ensures.nests);
      filled = rw full (fills_all d);
      says = rw full (says_the_same d ∙ c.in_ok-table.ensures.read);
    }

pub returns-clause-order : goal.returns-clause-order
returns-clause-order c = none_told c.args.bytes.now _ _ c.in_ok-json.ensures.read c.in_ok-table.ensures.read

pub returns-clause-columns : goal.returns-clause-columns
returns-clause-columns c = table_columns _ _ c.in_ok-table.ensures.read

pub returns-clause-fields : goal.returns-clause-fields
returns-clause-fields c = table_fields _ _ c.in_ok-table.ensures.read
