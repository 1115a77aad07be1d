use Rattle.std.proofs.Common.{◌≡◌, ◌<◌, ◌≤◌, ℕ, get_or, length}
use Rattle.ice_state.specs.declared.kept.segments.FileNumber.{FileNumber}
use Rattle.ice_state.specs.Segments.{AreBefore, AreKept, Segmented, StandsBehind}
use Rattle.ice_state.proofs.kept.indexed.put_files_behind.Given as goal

abbrev pub invariant-files : goal.invariant-files
invariant-files l = record {
  many : length l.files.items ≡ length l.fn.files.items;
  moved : (firsts kept : Segmented) → AreBefore l.before firsts kept → AreKept kept l.fn.files.items
      → (k : ℕ) (d : FileNumber) → k < l.i
      → StandsBehind firsts kept (get_or l.fn.files.items k d) (get_or l.files.items k d);
  rest : (k : ℕ) (d : FileNumber) → l.i ≤ k → get_or l.files.items k d ≡ get_or l.fn.files.items k d;
}
