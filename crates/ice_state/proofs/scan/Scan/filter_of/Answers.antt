use Rattle.std.proofs.Common.{◌≡◌, ◌<◌, ◌∙◌, ap, sym, arith, length, true, false}
use Rattle.ice_state.specs.Scans.{Scanned, spec_at}
use Rattle.ice_state.specs.Specs.{spec_of}
use Rattle.ice_state.proofs.Filtered.{found_by, found_none}
use Rattle.ice_state.proofs.Scans.{has_spec, spec_at-row}
use Rattle.ice_state.proofs.scan.Scan.filter_of.Goals as goal

pub unreachable-requires : goal.unreachable-requires
unreachable-requires c =
    let rows = c.self.inside.wanted.items in
    let pruning = c.self.inside.pruning in
    let row = c.index.result.now in
    let in_rows : c.args.i < length rows = omega (arith, ap (λ (s : Scanned). length s.wanted) c.self.view_is) in
    let there = has_spec pruning.specs rows c.args.i row in_rows c.index.ensures c.self.invariant in
    let none = found_none pruning.filter (spec_of pruning.specs row.spec_id)
    (sym c.in_ok-found.ensures ∙ c.in-None.is) in
    let e : true ≡ false = sym none ∙ there in
    cc

pub returns-clause-spec : goal.returns-clause-spec
returns-clause-spec c =
    let rows = c.self.inside.wanted.items in
    let pruning = c.self.inside.pruning in
    let row = c.index.result.now in
    let in_rows : c.args.i < length rows = omega (arith, ap (λ (s : Scanned). length s.wanted) c.self.view_is) in
    ap (λ (s : Scanned). spec_at s c.args.i) (sym c.self.view_is)
    ∙ spec_at-row pruning.specs rows c.args.i row in_rows c.index.ensures
    ∙ found_by pruning.filter (spec_of pruning.specs row.spec_id) c.in-Some.filter
    (sym c.in_ok-found.ensures ∙ c.in-Some.is)
