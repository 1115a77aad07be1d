use Rattle.std.proofs.Common.{◌≡◌, ◌<◌, ℕ, true, false}
use Rattle.std.specs.Prelude.{slice_index_or}
use Rattle.ice_desk.specs.Given.{IsGiven}
use Rattle.ice_state.specs.Contents.{IsOf, is_row_taken}
use Rattle.icescan_shares.proofs.taking.take_marked.Given as goal

-- what was taken was given, and each marked row before this one is taken
abbrev pub invariant-loop-i : goal.invariant-loop-i
invariant-loop-i g l = record {
  of_scan : IsOf l.scan l.state;
  given : IsGiven (g.F.Files.gives l.files) l.scan l.state;
  so_far : (j : ℕ) → j < l.i → slice_index_or l.marks j false ≡ true → is_row_taken l.state j ≡ true;
}
