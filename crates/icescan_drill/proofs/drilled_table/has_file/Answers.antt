use Rattle.std.proofs.Common.{add-one, sym, ◌≡◌, ◌≤◌, true, false, length}
use Rattle.std.specs.Str.{bytes_eq}
use Rattle.ice_state.specs.Lines.{OwnedLine}
use Rattle.icescan_drill.proofs.Drills.{any_here, none_at_all, none_next}
use Rattle.icescan_drill.proofs.drilled_table.has_file.Goals as goal

pub returns-then-eq : goal.returns-then-eq
returns-then-eq c =
    let hit : bytes_eq c.line.result.file.file.path c.args.path.now ≡ true =
    sym (rw (c.path.ensures, c.file.ensures) at c.if-eq.ensures) in
    sym (any_here (λ (line : OwnedLine). bytes_eq line.file.file.path c.args.path.now) c.args.lines.now c.loop-i.i
    c.line.result c.line.ensures hit)

pub loop-i-preserved : goal.loop-i-preserved
loop-i-preserved c =
    let miss : bytes_eq c.line.result.file.file.path c.args.path.now ≡ false =
    sym (rw (c.path.ensures, c.file.ensures) at c.if-eq.ensures) in
    rw add-one (none_next (λ (line : OwnedLine). bytes_eq line.file.file.path c.args.path.now) c.args.lines.now
    c.loop-i.i
    c.line.result c.line.ensures c.loop-i.invariant miss)

pub returns : goal.returns
returns c =
    let low : length c.args.lines.now ≤ c.loop-i.i = rw c.len-i-end.ensures.counted at c.loop-i-test.false in
    sym (none_at_all (λ (line : OwnedLine). bytes_eq line.file.file.path c.args.path.now) c.args.lines.now c.loop-i.i
    low
    c.loop-i.invariant)
