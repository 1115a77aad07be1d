use Rattle.std.proofs.Common.{◌≡◌, ◌+◌, ℕ, List, length, take}
use Rattle.std.specs.List.{sum}
use Rattle.ice_manifest_reading.specs.declared.entry.Entry.{Entry}
use Rattle.ice_state.specs.Lines.{entries_at}
use Rattle.icescan_explain.specs.Applying.{named, times_at}
use Rattle.icescan_explain.proofs.applied.count_places.Given as goal

abbrev pub invariant-places : goal.invariant-places
invariant-places l = record {
  all : sum l.times ≡ sum l.fn.times + l.i;
  told : (deletes : List Entry) → length deletes ≡ length l.fn.times → (q : List ℕ) →
      times_at q deletes l.times ≡ times_at q deletes l.fn.times + named q (entries_at deletes (take l.i l.places));
}
