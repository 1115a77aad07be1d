use Rattle.std.proofs.Common.{ℕ, List, refl, rules, of_calls, ap, ◌∙◌, Bor, Some, get_or}
use Rattle.std.specs.Cmp.Lexicographic.{slice_cmp}
use Rattle.std.specs.Ordering.{nat_cmp}
use Rattle.std.proofs.lemmas.Cmp.{nat_list_cmp_total}
use Rattle.std.proofs.lemmas.List.Sorted.{searchable_from_sorted}
use Rattle.std.proofs.lemmas.Fn.{always_returns_same}
use Rattle.ice_value.specs.Equality.{list_same}
use Rattle.ice_catalog_versions.proofs.Searches.{is_there, is_not_there}
use Rattle.ice_catalog_versions.proofs.bases.find_path.Goals as goal

pub returns-in-Ok : goal.returns-in-Ok
returns-in-Ok c =
    let path = c.args.path.now in
    let found = c.index-paths-at.result in
    let ord = λ (y : Bor (List ℕ)). slice_cmp nat_cmp y.now path in
    let equal = c.in-Ok.ensures.position ord (always_returns_same _ _ _ (λ a r f k. search (rules, of_calls))) in
    let same = ap (λ (y : Bor (List ℕ)). y.now) c.index-paths-at.is ∙ list_same (get_or c.args.paths.now c.in-Ok.at
    found).now path (equal found) in
    rw (is_there c.args.paths.now path c.in-Ok.at found c.in-Ok.ensures.bound equal) (ap Some same)

pub returns-in-Err : goal.returns-in-Err
returns-in-Err c =
    let path = c.args.path.now in
    let ord = λ (y : Bor (List ℕ)). slice_cmp nat_cmp y.now path in
    let apart = c.in-Err.ensures.position ord (always_returns_same _ _ _ (λ a r f k. search (rules, of_calls)))
    (searchable_from_sorted nat_list_cmp_total (λ (y : Bor (List ℕ)). y.now) c.args.paths.now path c.requires) in
    rw (is_not_there c.args.paths.now path c.in-Err.field-0 apart) refl
