use Rattle.std.proofs.Common.{◌≡◌, ◌<◌, ◌∙◌, ap, sym, arith, is_none, length, true, false}
use Rattle.std.specs.Option.{option_copied}
use Rattle.ice_state.specs.Scans.{Scanned, spec_at}
use Rattle.ice_state.specs.Specs.{spec_of}
use Rattle.ice_state.proofs.Scans.{has_spec, spec_at-row}
use Rattle.ice_state.proofs.scan.Scan.spec.Goals as goal

pub unreachable-requires : goal.unreachable-requires
unreachable-requires c =
    let rows = c.self.inside.wanted.items in
    let pruning = c.self.inside.pruning in
    let row = c.index.result.now in
    let in_rows : c.args.i < length rows = omega (arith, ap (λ (s : Scanned). length s.wanted) c.self.view_is) in
    let there = has_spec pruning.specs rows c.args.i row in_rows c.index.ensures c.self.invariant in
    let none : is_none (spec_of pruning.specs row.spec_id) ≡ true =
    ap is_none (sym c.spec_of_row.ensures ∙ ap option_copied c.in-None.is) in
    let e : true ≡ false = sym none ∙ there in
    cc

pub returns : goal.returns
returns c =
    let rows = c.self.inside.wanted.items in
    let pruning = c.self.inside.pruning in
    let row = c.index.result.now in
    let in_rows : c.args.i < length rows = omega (arith, ap (λ (s : Scanned). length s.wanted) c.self.view_is) in
    ap (λ (s : Scanned). spec_at s c.args.i) (sym c.self.view_is)
    ∙ spec_at-row pruning.specs rows c.args.i row in_rows c.index.ensures
    ∙ sym c.spec_of_row.ensures ∙ ap option_copied c.in-Some.is
