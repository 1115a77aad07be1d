use Rattle.std.proofs.Common.{List, subst}
use Rattle.avro_file.specs.Value.{Value}
use Rattle.avro_file.specs.View.{view}
use Rattle.avro_file.specs.Writers.{WasGiven, WillWrite}
use Rattle.ice_manifest.specs.Fitting.{RowFits}
use Rattle.ice_manifest.specs.WrittenValues.{row_value}
use Rattle.ice_manifest.proofs.WrittenFiles.{map_on}
use Rattle.ice_manifest.proofs.WrittenItems.{all_on}
use Rattle.ice_manifest.proofs.list_writing.with_rows.Goals as goal

pub rows-preserved : goal.rows-preserved
rows-preserved c =
    let rows = c.args.rows.now in
    let more = map_on row_value rows c.rows.row-index c.row-item.result (view c.in_ok-datum.datum) c.rows-test.true
    c.row-item.is c.in_ok-datum.ensures.value in record {
      given = λ ps s was. subst (λ (vs : List Value). WasGiven c.push.new.self ps s vs) more (c.in_ok-push.ensures.given
          ps s _ (c.rows.invariant.given ps s was));
      exact = λ ps sync was. subst (λ (vs : List Value). WillWrite c.push.new.self ps sync vs) more
          (c.in_ok-push.ensures.exact ps sync _ (c.rows.invariant.exact ps sync was));
      fits = all_on RowFits rows c.rows.row-index c.row-item.result c.rows-test.true c.row-item.is
          c.in_ok-datum.ensures.fits c.rows.invariant.fits;
    }
