use Rattle.std.proofs.Common.{refl, sym, ◌∙◌}
use Rattle.std.proofs.lemmas.Bool.Decides.{Decides-int_eq}
use Rattle.std.proofs.lemmas.Slice.Eq.{slice_eq-Decides}
use Rattle.ice_state_entries.proofs.common.Common.has_lists_of.Goals as goal

pub returns-then-is_same_tuple : goal.returns-then-is_same_tuple
returns-then-is_same_tuple c =
    let ids = c.as_slice-then-is_same_tuple.result.now in
    let same = slice_eq-Decides Decides-int_eq ids c.args.wanted.now.equality_ids.now c.eq.result c.eq.ensures in (
      λ yes. (
        sym c.as_slice.ensures ∙ c.if-is_same_tuple.ensures.same.0 refl,
        sym c.as_slice-then-is_same_tuple.ensures ∙ same.0 yes,
      ),
      λ both. same.1 (c.as_slice-then-is_same_tuple.ensures ∙ both.1),
    )
