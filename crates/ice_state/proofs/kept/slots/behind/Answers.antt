use Rattle.std.proofs.Common.{◌≡◌, ◌∙◌, ◌+◌, ap, arith, refl, subst, sym}
use Rattle.ice_state.specs.declared.kept.ordered.Ordered.{Ordered}
use Rattle.ice_state.specs.Slots.{given, HasNumbers, IsIn}
use Rattle.ice_state.proofs.SlotContents.{few_behind, given_behind, is_in_behind}
use Rattle.ice_state.proofs.kept.slots.behind.Goals as goal

pub returns-in-Good-clause-numbers : goal.returns-in-Good-clause-numbers
returns-in-Good-clause-numbers c = λ firsts kept are all.
    let ordered = c.in-Good.ordered in
    let here : IsIn kept ordered = subst (HasNumbers kept) c.in-Good.is all in
    let at : c.saturating_add.result ≡ ordered.segment + c.args.before =
    omega (arith, c.saturating_add.ensures, few_behind c.args.before firsts kept are ordered.segment here.0) in
    let moved : Ordered =
    record { segment = c.saturating_add.result; numbers = ordered.numbers; order = ordered.order; rise = ordered.rise }
    in
    is_in_behind c.args.before firsts kept are ordered moved here at refl refl refl

pub returns-in-Good-clause-given : goal.returns-in-Good-clause-given
returns-in-Good-clause-given c = λ firsts kept are all.
    let ordered = c.in-Good.ordered in
    let here : IsIn kept ordered = subst (HasNumbers kept) c.in-Good.is all in
    let at : c.saturating_add.result ≡ ordered.segment + c.args.before =
    omega (arith, c.saturating_add.ensures, few_behind c.args.before firsts kept are ordered.segment here.0) in
    let moved : Ordered =
    record { segment = c.saturating_add.result; numbers = ordered.numbers; order = ordered.order; rise = ordered.rise }
    in
    given_behind c.args.before firsts kept are ordered moved at refl ∙ sym (ap (given kept) c.in-Good.is)
