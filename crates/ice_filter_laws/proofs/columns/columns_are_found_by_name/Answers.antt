use Rattle.ice_filter_laws.proofs.Found.{finds_no_other, finds_the_field}
use Rattle.ice_filter_laws.proofs.Tabled.{has_the_schema}
use Rattle.ice_filter_laws.proofs.columns.columns_are_found_by_name.Goals as goal

pub returns : goal.returns
returns c = record { found = finds_the_field; none = finds_no_other; schema = has_the_schema }
