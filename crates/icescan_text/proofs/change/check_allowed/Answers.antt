use Rattle.std.proofs.Common.{◌≡◌, false, List, [], ◌∷◌, refl, sym, ◌∙◌, length, rules}
use Rattle.std.specs.Prelude.{Err, ◌==◌}
use Rattle.serde_json.specs.declared.value.Value.{Value}
use Rattle.serde_json.specs.View.{items_view}
use Rattle.icescan_text.specs.declared.change.ChangeKind.TheVariants.{Append}
use Rattle.icescan_text.specs.declared.change.fault.ChangeFault.TheVariants.{Bad}
use Rattle.icescan_text.specs.declared.change.fault.ChangeMember.TheVariants.{Deletes}
use Rattle.icescan_text.specs.Changes.{allowed}
use Rattle.icescan_text.proofs.change.check_allowed.Goals as goal

-- an append with delete files
with_some : (deletes : List Value) → (length deletes == 0) ≡ false
    → allowed Append (items_view deletes) ≡ Err (Bad Deletes)
with_some [] some = absurd cc
with_some (d ∷ ds) some = refl

pub returns-then-not-is_empty : goal.returns-then-not-is_empty
returns-then-not-is_empty c =
    let append : c.args.kind ≡ Append = search rules in
    let some : (length c.args.deletes.now.items == 0) ≡ false = rw c.as_slice.ensures.value at (sym c.is_empty.ensures ∙
    c.if-not-is_empty.true) in
    λ _. rw append (with_some c.args.deletes.now.items some)
