use Rattle.ice_catalog_versions.proofs.Staying.{keeps_entries, keeps_files, keeps_rows}
use Rattle.ice_catalog_versions.proofs.laws.commits_leave_what_was_there.Goals as goal

pub returns : goal.returns
returns c = record { files = keeps_files; rows = keeps_rows; entries = keeps_entries }
