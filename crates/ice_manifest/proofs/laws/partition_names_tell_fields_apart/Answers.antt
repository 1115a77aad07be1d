use Rattle.ice_manifest.proofs.NamesApart.{kept_names, own_where_they_differ, spelled_names, told_apart}
use Rattle.ice_manifest.proofs.laws.partition_names_tell_fields_apart.Goals as goal

pub returns-clause-kept : goal.returns-clause-kept
returns-clause-kept c = kept_names

pub returns-clause-spelled : goal.returns-clause-spelled
returns-clause-spelled c = spelled_names

pub returns-clause-apart : goal.returns-clause-apart
returns-clause-apart c = told_apart

pub returns-clause-own : goal.returns-clause-own
returns-clause-own c = own_where_they_differ
