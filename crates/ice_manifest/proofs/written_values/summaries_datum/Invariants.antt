use Rattle.std.proofs.Common.{◌≡◌, take, map}
use Rattle.std.specs.List.{AllByRecursion}
use Rattle.avro_file.specs.View.{views}
use Rattle.ice_manifest.specs.Fitting.{SummaryFits}
use Rattle.ice_manifest.specs.WrittenValues.{summary_value}
use Rattle.ice_manifest.proofs.written_values.summaries_datum.Given as goal

abbrev pub invariant-summaries : goal.invariant-summaries
invariant-summaries l = record {
  value : views l.data.items ≡ map summary_value (take l.summary-index l.summaries);
  fits : AllByRecursion SummaryFits (take l.summary-index l.summaries);
}
