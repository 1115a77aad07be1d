use Rattle.std.proofs.Common.{◌≡◌, ◌*◌, ◌≤◌, ◌^◌, ℕ, List, length, take}
use Rattle.std.specs.Prelude.{sum_by}
use Rattle.std.specs.List.{sum}
use Rattle.icescan_explain.specs.Applying.{times_at}
use Rattle.icescan_explain.proofs.Places.{named_at}
use Rattle.icescan_explain.proofs.applied.times_by_place.Given as goal

abbrev pub invariant-files : goal.invariant-files
invariant-files l = record {
  each : length l.times.items ≡ length l.plan.deletes;
  few : sum l.times.items ≤ l.i * 2 ^ 64;
  told : (q : List ℕ) → times_at q l.plan.deletes l.times.items
      ≡ sum_by (named_at q l.plan.deletes) (take l.i l.plan.places);
}
