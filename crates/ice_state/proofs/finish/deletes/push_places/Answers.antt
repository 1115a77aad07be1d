use Rattle.std.proofs.Common.{◌≡◌, ◌++◌, List, ℕ}
use Rattle.std.specs.List.Sorted.{IsPermutation}
use Rattle.std.proofs.lemmas.List.Sorted.{IsPermutation-trans}
use Rattle.std.proofs.lemmas.Result.{on_ok_weaker}
use Rattle.ice_value.specs.declared.file_content.FileContent.TheVariants.{PositionDeletes, EqualityDeletes}
use Rattle.ice_manifest_reading.specs.Lending.{lent as lent_entry}
use Rattle.ice_deletes.specs.Unions.{renumbered}
use Rattle.ice_state.specs.Applying.{data_key_of}
use Rattle.ice_state.specs.Parts.{ascending, numbers_of}
use Rattle.ice_state.specs.PlaceLists.{places_at, IsInOrder}
use Rattle.ice_state.proofs.Ascending.{one_ascends}
use Rattle.ice_state.proofs.PlaceTables.{gained_line}
use Rattle.ice_state.proofs.Ranked.{ranked_found, first_ranked, others_ranked}
use Rattle.ice_state.proofs.finish.deletes.push_places.Goals as goal

-- numbers in order are those of any list that has the same
ascend_from : (ks ls ms : List ℕ) → IsPermutation ks ls → IsInOrder ls ms → ms ≡ ascending ks
ascend_from ks ls ms same ordered = one_ascends ks ms (IsPermutation-trans ks ls ms same ordered.same) ordered.rising

pub push-requires : goal.push-requires
push-requires c =
    let x = data_key_of (lent_entry c.args.x.now) in
    let index = c.args.finder.now in
    let ranks = c.args.ranks.now in
    let hits = c.deletes_for-hits.result in
    let found = c.deletes_for-hits.ensures in
    record {
      positions = first_ranked PositionDeletes ranks index x hits.positions.now hits.referenced.now found.positions
          c.requires;
      other_positions = others_ranked PositionDeletes ranks index x hits.positions.now hits.referenced.now
          found.positions c.requires;
      equalities = first_ranked EqualityDeletes ranks index x hits.equalities.now hits.everywhere.now found.equalities
          c.requires;
      other_equalities = others_ranked EqualityDeletes ranks index x hits.equalities.now hits.everywhere.now
          found.equalities c.requires;
    }

pub returns-clause-ok : goal.returns-clause-ok
returns-clause-ok c =
    let x = data_key_of (lent_entry c.args.x.now) in
    let ranks = c.args.ranks.now in
    let index = renumbered ranks c.args.finder.now in
    let hits = c.deletes_for-hits.result in
    let found = c.deletes_for-hits.ensures in
    let of_positions = places_at ranks hits.positions.now ++ places_at ranks hits.referenced.now in
    let of_equalities = places_at ranks hits.equalities.now ++ places_at ranks hits.everywhere.now in
    on_ok_weaker c.push.result (gained_line c.args.places.now c.push.new.self of_positions of_equalities
    (ascending (numbers_of PositionDeletes index x)) (ascending (numbers_of EqualityDeletes index x))
    (λ ps. ascend_from (numbers_of PositionDeletes index x) of_positions ps
    (ranked_found PositionDeletes ranks c.args.finder.now x hits.positions.now hits.referenced.now found.positions))
    (λ ps. ascend_from (numbers_of EqualityDeletes index x) of_equalities ps
    (ranked_found EqualityDeletes ranks c.args.finder.now x hits.equalities.now hits.everywhere.now found.equalities)))
    c.push.ensures.ok
