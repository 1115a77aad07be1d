use Rattle.std.proofs.Common.{◌≡◌, ◌<◌, ◌∙◌, arith, get_or, length, subst, sym}
use Rattle.std.proofs.lemmas.Grind.{common_steps}
use Rattle.ice_state.specs.declared.kept.segments.FileNumber.{FileNumber}
use Rattle.ice_state.specs.Segments.{IsKept, StandsBehind}
use Rattle.ice_state.proofs.DeletesKept.{kept_at_place, length_set, moved_files, same_at, set_more, set_rest}
use Rattle.ice_state.proofs.kept.indexed.put_files_behind.Goals as goal

pub files-preserved : goal.files-preserved
files-preserved c =
    let old = c.args.files.now.items in
    let now = c.files.files.items in
    let i = c.files.i in
    let x = c.index.result.now in
    let low : i < length now = grind (arith, common_steps) in
    let many = c.files.invariant.many in
    let at : (d : FileNumber) → get_or old i d ≡ x =
    λ d. same_at old i d x (omega arith) ∙ sym (c.files.invariant.rest i x (omega arith)) ∙ sym c.index.ensures in
    record {
      many = length_set now i c.behind.result ∙ many;
      moved = λ firsts kept are all.
          set_more (StandsBehind firsts kept) old now i c.behind.result many low
          (λ k d lt. c.files.invariant.moved firsts kept are all k d lt)
          (λ d. subst (λ (n : FileNumber). StandsBehind firsts kept n c.behind.result) (sym (at d))
          (c.behind.ensures firsts kept are
          (subst (IsKept kept) (at x) (kept_at_place kept old i x all (omega arith)))));
      rest = λ k d far. set_rest now i c.behind.result k d far ∙ c.files.invariant.rest k d (omega arith);
    }

pub returns-clause-kept : goal.returns-clause-kept
returns-clause-kept c = λ firsts kept are all.
    let whole : length c.args.files.now.items ≡ c.files.i = grind (arith, common_steps) in
    (moved_files firsts kept c.args.files.now.items c.files.files.items c.files.invariant.many
    (λ k d lt. c.files.invariant.moved firsts kept are all k d (omega arith))).0

pub returns-clause-same : goal.returns-clause-same
returns-clause-same c = λ firsts kept are all.
    let whole : length c.args.files.now.items ≡ c.files.i = grind (arith, common_steps) in
    (moved_files firsts kept c.args.files.now.items c.files.files.items c.files.invariant.many
    (λ k d lt. c.files.invariant.moved firsts kept are all k d (omega arith))).1
