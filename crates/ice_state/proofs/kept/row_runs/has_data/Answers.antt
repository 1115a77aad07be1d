use Rattle.std.proofs.Common.{◌≡◌, ◌∙◌, [], ap, arith, filter, option_map, rules, Option, Some, subst, sym}
use Rattle.std.proofs.lemmas.Grind.{common_steps}
use Rattle.ice_value.specs.declared.file_content.FileContent.TheVariants.{Data}
use Rattle.ice_state_entries.specs.Kept.{Kept, entries_at as entries_in}
use Rattle.ice_state.specs.declared.kept.taken.Taken.{Taken}
use Rattle.ice_state.specs.declared.kept.taken.Taken.TheVariants.{Good}
use Rattle.ice_state.specs.Outcomes.{by_path, entries_in as entries_given}
use Rattle.ice_state.specs.Pruning.{holds}
use Rattle.ice_state.specs.Segments.{segment_at}
use Rattle.ice_state.specs.Slots.{given}
use Rattle.ice_state.proofs.ByKind.{filtered_by_path}
use Rattle.ice_state.proofs.kept.row_runs.has_data.Goals as goal

pub returns-in-Some-Good : goal.returns-in-Some-Good
returns-in-Some-Good c = λ no.
    let kept = c.args.entries.now in
    let ordered = c.in-Some-Good.ordered in
    let one = segment_at kept ordered.segment in
    let zs = entries_in one ordered.numbers in
    let slot : c.args.slot.now ≡ Some (Good ordered) = first_of (search rules, grind (arith, common_steps)) in
    let here = ap (λ (k : Kept). filter (holds Data) (entries_in k c.as_slice-numbers.result.now)) (sym c.segment.ensures)
    ∙ c.hold_data.ensures no in
    let none : filter (holds Data) zs ≡ [] = ap (λ ns. filter (holds Data) (entries_in one ns)) (sym c.as_slice-numbers.ensures)
    ∙ here in
    subst (λ (s : Option Taken). filter (holds Data) (by_path (entries_given (option_map (given kept) s))) ≡ [])
    (sym slot) (filtered_by_path (holds Data) zs ∙ ap by_path none)
