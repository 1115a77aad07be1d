use Rattle.std.proofs.Common.{◌≡◌, Bor, List, ℕ, ℤ, Option, subst, to_z, of_z, w32, rules}
use Rattle.std.proofs.lemmas.Int.{to_z-of_z}
use Rattle.ice_value.specs.Pairs.{last_of}
use Rattle.icescan_audit_findings.proofs.ColumnsTold.{bound_told, count_told}
use Rattle.icescan_audit_findings.proofs.columns.column_found.Goals as goal

pub returns-clause-said : goal.returns-clause-said
returns-clause-said c = λ file are.
    let id = c.args.column in
    let maps = c.args.maps.now in
    let same : to_z w32 (of_z w32 id) ≡ id = to_z-of_z w32 id (search rules) in
    let count : (said : Option ℤ) (pairs : List (ℤ × ℤ)) → said ≡ last_of (to_z w32 (of_z w32 id)) pairs
    → said ≡ last_of id pairs = λ said pairs. subst (λ z. said ≡ last_of z pairs) same in
    let bound : (said : Option (Bor (List ℕ))) (pairs : List (ℤ × Bor (List ℕ)))
    → said ≡ last_of (to_z w32 (of_z w32 id)) pairs → said ≡ last_of id pairs = λ said pairs.
    subst (λ z. said ≡ last_of z pairs) same in
    let values = maps.value_counts.pairs.now in
    let nulls = maps.null_counts.pairs.now in
    let lower = maps.lower_bounds.pairs.now in
    let upper = maps.upper_bounds.pairs.now in
    record {
      values = count_told id c.said_of.result values file.value_counts are.values
          (count c.said_of.result values c.said_of.ensures.said);
      nulls = count_told id c.said_of-2.result nulls file.null_counts are.nulls
          (count c.said_of-2.result nulls c.said_of-2.ensures.said);
      lower = bound_told id c.said_of-3.result lower file.lower_bounds are.lower
          (bound c.said_of-3.result lower c.said_of-3.ensures.said);
      upper = bound_told id c.said_of-4.result upper file.upper_bounds are.upper
          (bound c.said_of-4.result upper c.said_of-4.ensures.said);
    }
