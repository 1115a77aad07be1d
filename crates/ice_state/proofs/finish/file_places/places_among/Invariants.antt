use Rattle.std.proofs.Common.{◌≡◌, length, take}
use Rattle.ice_state.specs.Lines.{AreWithin, entries_at as entries_at_places}
use Rattle.ice_state.specs.Segments.{Segmented, entries_at}
use Rattle.ice_state.proofs.finish.file_places.places_among.Given as goal

abbrev pub invariant-some : goal.invariant-some
invariant-some l = record {
  within : AreWithin (length l.files) l.places.items;
  same : (kept : Segmented) → entries_at_places (entries_at kept l.files) l.places.items
      ≡ entries_at kept (take l.file-index l.some);
}
