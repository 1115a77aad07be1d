use Rattle.std.proofs.Common.{◌∙◌, ap, sym, refl, rules, of_calls}
use Rattle.std.proofs.lemmas.Cmp.{nat_list_cmp_total}
use Rattle.std.proofs.lemmas.Fn.{always_returns_same}
use Rattle.std.proofs.lemmas.List.Sorted.{searchable_from_sorted}
use Rattle.ice_manifest_reading.specs.Lists.{path_order, same_row}
use Rattle.ice_manifest_reading.specs.declared.row.Row.{Row}
use Rattle.icescan_shared_manifests.proofs.SameRows.{rows_same}
use Rattle.icescan_shared_manifests.proofs.Searches.{is_found, is_not_found, sorted_of}
use Rattle.icescan_shared_manifests.proofs.shared.has_row.Goals as goal

pub returns-in-Ok : goal.returns-in-Ok
returns-in-Ok c =
    let row = c.args.row.now in
    let rows = c.args.rows.now in
    let found = c.index-rows-at.result in
    let ord = λ (r : Row). path_order r row in
    let equal = c.in-Ok.ensures.position ord (always_returns_same _ _ _ (λ a r f k. search (rules, of_calls))) in
    let here = is_found rows row c.in-Ok.at found c.requires c.in-Ok.ensures.bound (equal found) in
    c.eq.ensures ∙ rows_same found row ∙ ap (λ (r : Row). same_row r row) c.index-rows-at.is ∙ sym here

pub returns-in-Err : goal.returns-in-Err
returns-in-Err c =
    let row = c.args.row.now in
    let rows = c.args.rows.now in
    let ord = λ (r : Row). path_order r row in
    let apart = c.in-Err.ensures.position ord (always_returns_same _ _ _ (λ a r f k. search (rules, of_calls)))
    (searchable_from_sorted nat_list_cmp_total (λ (r : Row). r.path) rows row.path (sorted_of rows c.requires)) in
    rw (is_not_found rows row c.in-Err.field-0 apart) refl
