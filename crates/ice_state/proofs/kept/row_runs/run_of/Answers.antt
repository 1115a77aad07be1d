use Rattle.std.proofs.Common.{◌≡◌, ◌∙◌, ◌-◌, ap, arith, rules, length, IfSome, Option, Some, option_map, subst, sym}
use Rattle.std.proofs.lemmas.Grind.{common_steps}
use Rattle.ice_state_entries.specs.Kept.{entries_at as entries_in}
use Rattle.ice_state.specs.declared.kept.row_runs.Run.{Run}
use Rattle.ice_state.specs.declared.kept.taken.Taken.{Taken}
use Rattle.ice_state.specs.declared.kept.taken.Taken.TheVariants.{Good}
use Rattle.ice_state.specs.Apart.{path_at}
use Rattle.ice_state.specs.Outcomes.{by_path, entries_in as entries_given}
use Rattle.ice_state.specs.Rising.{HasEnds}
use Rattle.ice_state.specs.Segments.{segment_at}
use Rattle.ice_state.specs.Slots.{given, HasNumbers, IsIn}
use Rattle.ice_state.proofs.Orders.{many_placed}
use Rattle.ice_state.proofs.Rising.{by_path_rises}
use Rattle.ice_state.proofs.kept.row_runs.run_of.Goals as goal

pub returns : goal.returns
returns c =
    let kept = c.args.entries.now in
    let ordered = c.in-Some-Good.ordered in
    let zs = entries_in (segment_at kept ordered.segment) ordered.numbers in
    let slot : c.args.slot.now ≡ Some (Good ordered) = first_of (search rules, grind (arith, common_steps)) in
    let here : IsIn kept ordered = subst (λ (s : Option Taken). IfSome s (HasNumbers kept)) slot c.requires in
    let many = many_placed zs ordered.order here.1.order in
    let count = ap length c.as_slice-count.ensures in
    let same : length c.as_slice-count.result.now - 1 ≡ length (by_path zs) - 1 = omega (arith, many, count) in
    let run : Run = record { first = c.path_in.result; last = c.path_in-2.result; rise = ordered.rise } in
    subst (λ (s : Option Taken). HasEnds (by_path (entries_given (option_map (given kept) s))) run)
    (sym slot) (record {
      some = omega (arith, many, count, c.if-count-eq0.false);
      first = c.path_in.ensures;
      last = c.path_in-2.ensures ∙ ap (path_at (by_path zs)) same;
      rise = λ t. by_path_rises zs (here.1.once t);
    })
