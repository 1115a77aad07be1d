use Rattle.std.proofs.Common.{◌≡◌, ◌+◌, ◌≤◌, ◌++◌, ℕ, List, length}
use Rattle.icescan_files.specs.Bundles.{files_from}
use Rattle.icescan_files.proofs.Lines.{Open}
use Rattle.icescan_files.proofs.bundle_text.Front.take.Given as goal

abbrev pub invariant-left : goal.invariant-left
invariant-left l = record {
  same : (rest : List ℕ) → files_from l.self.lines l.self.bundle (l.self.begun.items ++ (l.left ++ rest))
      ≡ files_from l.fn.self.lines l.fn.self.bundle (l.fn.self.begun.items ++ (l.bytes ++ rest));
  open_line : Open l.self.begun.items;
  few : l.self.lines + length l.self.begun.items + length l.left
      ≤ l.fn.self.lines + length l.fn.self.begun.items + length l.bytes;
  fits : l.self.lines + length l.left ≤ l.fn.self.lines + length l.bytes;
}

abbrev pub decreases-left : goal.decreases-left
decreases-left l = length l.left
