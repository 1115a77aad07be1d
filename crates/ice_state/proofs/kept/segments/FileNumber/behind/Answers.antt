use Rattle.std.proofs.Common.{◌≡◌, ◌+◌, ◌<◌, ◌++◌, ap, arith, length, sym, subst}
use Rattle.ice_state_entries.specs.Kept.{IsKept as IsKeptIn, entry_at as entry_in, Kept}
use Rattle.ice_state.proofs.SegmentLists.{length-both}
use Rattle.ice_state.proofs.SlotContents.{behind_at, few_behind}
use Rattle.ice_state.proofs.kept.segments.FileNumber.behind.Goals as goal

pub returns : goal.returns
returns c = λ firsts kept are here.
    let file = c.args.self in
    let at : c.saturating_add.result ≡ file.segment + c.args.before =
    omega (arith, c.saturating_add.ensures, few_behind c.args.before firsts kept are file.segment here.0) in
    let within : c.saturating_add.result < length (firsts ++ kept) =
    omega (arith, here.0, at, are.counted, length-both firsts kept) in
    let same = behind_at c.args.before firsts kept are file.segment c.saturating_add.result at in (
      (within, subst (λ (one : Kept). IsKeptIn one file.number) (sym same) here.1),
      ap (λ (one : Kept). entry_in one file.number) same,
    )
