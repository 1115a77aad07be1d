use Rattle.std.proofs.Common.{List, subst, sym}
use Rattle.ice_state_entries.specs.declared.entries.EntryNumber.{EntryNumber}
use Rattle.ice_state_entries.specs.Kept.{Kept, AreKept}
use Rattle.ice_state.specs.Slots.{HasNumbers, IsIn}
use Rattle.ice_state.proofs.kept.merging.room_of_taken.Goals as goal

pub room_with-requires : goal.room_with-requires
room_with-requires c =
    let ordered = c.in-Good.ordered in
    let here : IsIn c.args.others.now ordered = subst (HasNumbers c.args.others.now) c.in-Good.is c.requires in
    let kept = subst (λ (one : Kept). AreKept one ordered.numbers) (sym c.segment-theirs.ensures) here.1.numbers in
    subst (λ (ns : List EntryNumber). AreKept c.segment-theirs.result.now ns) (sym c.as_slice-numbers.ensures) kept
