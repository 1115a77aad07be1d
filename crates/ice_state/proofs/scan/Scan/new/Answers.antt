use Rattle.std.proofs.Common.{◌≡◌, [], sym, subst, rules, Ok}
use Rattle.ice_state.specs.Parts.{Filtered, NamesFirst}
use Rattle.ice_state.specs.Pruning.{pruner_of}
use Rattle.ice_state.specs.Scans.{without_spec, AllHaveSpec, scan_of}
use Rattle.ice_state.proofs.Scans.{scan_of-sorted, scan_of-missing, wanted_known}
use Rattle.ice_state.proofs.scan.Scan.new.Goals as goal

pub returns : goal.returns
returns c =
    let pruning = c.in_ok-pruning.pruning in
    let none : without_spec pruning.specs c.sort_by_path.new.rows.items ≡ [] = rw (← c.deref.ensures.value)
    c.in_ok-check_specs.ensures in
    subst (λ (p : Filtered). scan_of c.args.rows.items c.args.specs.items c.args.filter.parts
    ≡ Ok (record { wanted = c.in_ok-wanted.wanted.items; specs = p.specs; filter = p.filter }))
    (sym c.wanted.ensures.same)
    (scan_of-sorted c.args.rows.items c.sort_by_path.new.rows.items c.args.specs.items pruning.specs
    c.args.filter.parts pruning.filter c.in_ok-wanted.wanted.items c.in_ok-sort_by_path.ensures
    c.in_ok-pruning.ensures.specs c.in_ok-pruning.ensures.filter none c.in_ok-wanted.ensures.wanted)

pub invariant_of-result : goal.invariant_of-result
invariant_of-result c =
    let pruning = c.in_ok-pruning.pruning in
    let none : without_spec pruning.specs c.sort_by_path.new.rows.items ≡ [] = rw (← c.deref.ensures.value)
    c.in_ok-check_specs.ensures in
    subst (λ (p : Filtered). AllHaveSpec p.specs c.in_ok-wanted.wanted.items) (sym c.wanted.ensures.same)
    (subst (AllHaveSpec pruning.specs) (sym c.in_ok-wanted.ensures.wanted) (wanted_known pruning.specs (pruner_of
    pruning.filter pruning.specs).wants c.sort_by_path.new.rows.items none))

pub returns-in_err-check_specs : goal.returns-in_err-check_specs
returns-in_err-check_specs c =
    let pruning = c.in_ok-pruning.pruning in
    let first : NamesFirst c.in_err-check_specs.field-0.0 (without_spec pruning.specs c.sort_by_path.new.rows.items) =
    rw (← c.deref.ensures.value) c.in_err-check_specs.ensures in
    let is = scan_of-missing c.args.rows.items c.sort_by_path.new.rows.items c.args.specs.items pruning.specs
    c.args.filter.parts c.in_err-check_specs.field-0.0 c.in_ok-sort_by_path.ensures c.in_ok-pruning.ensures.specs
    first in
    search (rules, is)
