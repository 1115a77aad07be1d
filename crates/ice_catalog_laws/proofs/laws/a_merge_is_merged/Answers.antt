use Rattle.ice_catalog_laws.proofs.Squares.{merge_state, merged_where}
use Rattle.ice_catalog_laws.proofs.laws.a_merge_is_merged.Goals as goal

pub returns : goal.returns
returns c = record { merged = merged_where; state = merge_state }
