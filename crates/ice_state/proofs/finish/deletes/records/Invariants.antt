use Rattle.std.proofs.Common.{◌≡◌, take, map}
use Rattle.ice_deletes.specs.Keys.{key_of as record_key}
use Rattle.ice_state.specs.Segments.{entries_at}
use Rattle.ice_state.specs.Applying.{delete_key_of}
use Rattle.ice_state.proofs.finish.deletes.records.Given as goal

abbrev pub invariant-deletes : goal.invariant-deletes
invariant-deletes l = map record_key l.records.items
    ≡ map delete_key_of (entries_at l.entries (take l.d-index l.deletes))
