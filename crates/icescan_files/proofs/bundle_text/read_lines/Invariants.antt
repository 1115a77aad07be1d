use Rattle.std.proofs.Common.{◌≡◌, ◌*◌, ◌+◌, ◌≤◌, ◌++◌, ℕ, List, length}
use Rattle.std.specs.Io.KnownBytes.{Consumes}
use Rattle.icescan_files.specs.Bundles.{bundle_of, files_from}
use Rattle.icescan_files.proofs.Lines.{Open}
use Rattle.icescan_files.proofs.bundle_text.read_lines.Given as goal

-- of the text so far
abbrev pub invariant-loop-turn : goal.invariant-loop-turn
invariant-loop-turn g l = record {
  taken : (text : List ℕ) × Consumes (g.R.Read.remaining l.fn.reader) (g.R.Read.remaining l.reader) text
      × ((rest : List ℕ) → bundle_of (text ++ rest)
      ≡ files_from l.front.lines l.front.bundle (l.front.begun.items ++ rest));
  open_line : Open l.front.begun.items;
  few : l.front.lines + length l.front.begun.items ≤ l.turn * 65536;
}
