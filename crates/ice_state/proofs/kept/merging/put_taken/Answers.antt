use Rattle.std.proofs.Common.{rules, ◌≡◌, ◌∙◌, ap, refl, sym, subst, List}
use Rattle.ice_state_entries.specs.declared.entries.EntryNumber.{EntryNumber}
use Rattle.ice_state_entries.specs.Kept.{Kept, entries_at, AreKept}
use Rattle.ice_state.specs.Segments.{Segmented, Keeps}
use Rattle.ice_state.specs.Slots.{HasNumbers, IsIn}
use Rattle.ice_state.proofs.SegmentLists.{keeps-trans}
use Rattle.ice_state.proofs.SlotContents.{ordered_alike}
use Rattle.ice_state.proofs.kept.merging.put_taken.Goals as goal

pub returns-in_ok-to_vec-in-Good-clause-numbers : goal.returns-in_ok-to_vec-in-Good-clause-numbers
returns-in_ok-to_vec-in-Good-clause-numbers c =
    let ordered = c.in-Good.ordered in
    let here : IsIn c.args.others.now ordered = subst (HasNumbers c.args.others.now) c.in-Good.is c.requires in
    let added = c.in_ok-added-in-Good.ensures in
    let order : c.from_vec-in-Good.result ≡ ordered.order = search rules in
    let numbers : c.as_slice-numbers.result.now ≡ ordered.numbers = c.as_slice-numbers.ensures in
    let same = added.ok ∙ ap (entries_at c.segment-theirs.result.now) numbers
    ∙ ap (λ (one : Kept). entries_at one ordered.numbers) c.segment-theirs.ensures in (
      c.add_kept.ensures.there,
      ordered_alike _ _ ordered _ c.in_ok-added-in-Good.added.items here.1 added.kept same c.from_vec.ensures order
          refl,
    )

pub returns-in_err-reserve-in-Good-clause-keeps : goal.returns-in_err-reserve-in-Good-clause-keeps
returns-in_err-reserve-in-Good-clause-keeps c =
    subst (λ (s : Segmented). Keeps c.args.entries.now s) (sym c.reserve.ensures) c.begin.ensures.keeps

pub add_kept-requires-clause-numbers : goal.add_kept-requires-clause-numbers
add_kept-requires-clause-numbers c =
    let ordered = c.in-Good.ordered in
    let here : IsIn c.args.others.now ordered = subst (HasNumbers c.args.others.now) c.in-Good.is c.requires in
    let kept = subst (λ (one : Kept). AreKept one ordered.numbers) (sym c.segment-theirs.ensures) here.1.numbers in
    subst (λ (ns : List EntryNumber). AreKept c.segment-theirs.result.now ns) (sym c.as_slice-numbers.ensures) kept

pub returns-in_err-added-in-Good-clause-keeps : goal.returns-in_err-added-in-Good-clause-keeps
returns-in_err-added-in-Good-clause-keeps c =
    keeps-trans c.args.entries.now c.begin.new.self c.add_kept.new.self c.begin.ensures.keeps
    (subst (λ (s : Segmented). Keeps s c.add_kept.new.self) c.reserve.ensures c.add_kept.ensures.keeps)

pub returns-in_err-to_vec-in-Good-clause-keeps : goal.returns-in_err-to_vec-in-Good-clause-keeps
returns-in_err-to_vec-in-Good-clause-keeps c =
    keeps-trans c.args.entries.now c.begin.new.self c.add_kept.new.self c.begin.ensures.keeps
    (subst (λ (s : Segmented). Keeps s c.add_kept.new.self) c.reserve.ensures c.add_kept.ensures.keeps)

pub returns-in_ok-to_vec-in-Good-clause-keeps : goal.returns-in_ok-to_vec-in-Good-clause-keeps
returns-in_ok-to_vec-in-Good-clause-keeps c =
    keeps-trans c.args.entries.now c.begin.new.self c.add_kept.new.self c.begin.ensures.keeps
    (subst (λ (s : Segmented). Keeps s c.add_kept.new.self) c.reserve.ensures c.add_kept.ensures.keeps)
