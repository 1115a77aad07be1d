use Rattle.std.proofs.Common.{◌≡◌, [], filter, take}
use Rattle.ice_value.specs.declared.file_content.FileContent.TheVariants.{Data}
use Rattle.ice_state_entries.specs.Kept.{entries_at}
use Rattle.ice_state.specs.Pruning.{holds}
use Rattle.ice_state.proofs.kept.row_runs.hold_data.Given as goal

abbrev pub invariant-numbers : goal.invariant-numbers
invariant-numbers l = filter (holds Data) (entries_at l.entries (take l.number-index l.numbers)) ≡ []
