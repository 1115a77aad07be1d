use Rattle.ice_manifest_fields.proofs.Decimals.{keeps_the_number, leaves_none_redundant}
use Rattle.ice_manifest_fields.proofs.OneSpelling.{keeps_one_spelling}
use Rattle.ice_manifest_fields.proofs.laws.decimals_are_kept_shortest.Goals as goal

pub returns : goal.returns
returns c = record { number = keeps_the_number; front = leaves_none_redundant; spelling = keeps_one_spelling }
