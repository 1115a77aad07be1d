use Rattle.std.proofs.Common.{◌≡◌, ◌∙◌, refl, ap, arith, false, not, rules, sym, true}
use Rattle.std.proofs.lemmas.Grind.{common_steps}
use Rattle.ice_value.specs.declared.file_content.FileContent.{FileContent}
use Rattle.ice_value.specs.declared.file_content.FileContent.TheVariants.{Data}
use Rattle.ice_state.specs.declared.finish.by_kind.FilesByKind.{FilesByKind}
use Rattle.ice_state.specs.Pruning.{holds, same_content}
use Rattle.ice_state.specs.Segments.{entry_at}
use Rattle.ice_state.proofs.ByKind.{data_more, deletes_more}
use Rattle.ice_state.proofs.PathsOnce.{not_true}
use Rattle.ice_state.proofs.finish.by_kind.FilesByKind.push.Goals as goal

pub returns-in_ok-push : goal.returns-in_ok-push
returns-in_ok-push c = λ xs has.
    let other : not (same_content c.content.result Data) ≡ true = first_of (
      search rules,
      grind (arith, common_steps),
    ) in
    let here : holds Data (entry_at c.args.entries.now c.args.file) ≡ false =
    ap (λ (K : FileContent). same_content K Data) (sym c.content.ensures)
    ∙ not_true (same_content c.content.result Data) other in
    let now : FilesByKind = record { data_files = c.args.self.now.data_files; delete_files = c.push.new.self } in
    deletes_more c.args.entries.now xs c.args.self.now now has c.args.file c.requires here c.in_ok-push.ensures.items
    refl

pub returns-in_ok-push-2 : goal.returns-in_ok-push-2
returns-in_ok-push-2 c = λ xs has.
    let same : c.content.result ≡ Data = first_of (search rules, grind (arith, common_steps)) in
    let here : holds Data (entry_at c.args.entries.now c.args.file) ≡ true =
    ap (λ (K : FileContent). same_content K Data) (sym c.content.ensures ∙ same) in
    let now : FilesByKind =
    record { data_files = c.push-else-ne.new.self; delete_files = c.args.self.now.delete_files } in
    data_more c.args.entries.now xs c.args.self.now now has c.args.file c.requires here c.in_ok-push-2.ensures.items
    refl
