use Rattle.std.proofs.Common.{◌≡◌, drop}
use Rattle.serde_json.specs.View.{items_view}
use Rattle.icescan_text.specs.Changes.{each, each_behind, new_file_of}
use Rattle.icescan_text.proofs.change.files_from.Given as goal

abbrev pub invariant-files : goal.invariant-files
invariant-files l =
    each_behind (new_file_of l.kind) (items_view (drop l.item-index l.item-items)) l.files
    ≡ each (new_file_of l.kind) (items_view l.item-items)
