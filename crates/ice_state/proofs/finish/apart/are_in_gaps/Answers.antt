use Rattle.std.proofs.Common.{◌∙◌, List, ℕ, ap, arith, subst}
use Rattle.std.proofs.lemmas.List.{length-map}
use Rattle.ice_manifest_reading.specs.declared.entry.Entry.{Entry}
use Rattle.ice_state.specs.Apart.{IsGap, path_at}
use Rattle.ice_state.specs.Segments.{entry_at, entries_at}
use Rattle.ice_state.proofs.Gaps.{none_more, none_shared_by}
use Rattle.ice_state.proofs.Stretches.{file_entry, number_kept}
use Rattle.ice_state.proofs.finish.apart.are_in_gaps.Goals as goal
use Rattle.ice_state.proofs.finish.apart.are_in_gaps.Goals.{In-Some}

pub path-requires : goal.path-requires
path-requires c = number_kept c.args.entries.now c.args.some.now c.some.first _ c.requires.some c.some-test.true

-- the gap of the first path that is left
gap : (c : In-Some) → IsGap (entries_at c.args.entries.now c.args.files.now)
    (path_at (entries_at c.args.entries.now c.args.some.now) c.some.first) c.in-Some.gap
gap c =
    let kept = c.args.entries.now in
    subst (λ (p : List ℕ). IsGap (entries_at kept c.args.files.now) p c.in-Some.gap)
    (c.path.ensures ∙ ap (λ (x : Entry). x.file.path) (file_entry kept c.args.some.now c.some.first _ c.some-test.true))
    c.in-Some.ensures

pub end_in_gap-first-requires : goal.end_in_gap-first-requires
end_in_gap-first-requires c = record {
  files = c.requires.files;
  some = c.requires.some;
  first = c.some-test.true;
  gap = gap (goal.at.end_in_gap-first-requires c).In-Some;
}

pub some-preserved : goal.some-preserved
some-preserved c =
    let kept = c.args.entries.now in
    let xs = entries_at kept c.args.files.now in
    let ys = entries_at kept c.args.some.now in
    let is = gap (goal.at.some-preserved c).In-Some in
    let run = c.end_in_gap-first.ensures in
    record {
      near = omega (arith, is.within, length-map c.args.files.now (entry_at kept));
      within = omega (arith, run.within, length-map c.args.some.now (entry_at kept));
      none = none_more xs ys c.some.first c.in-Some.gap c.end_in_gap-first.result c.requires.sorted
          c.requires.sorted_some is run
          c.some.invariant.none;
    }

pub returns : goal.returns
returns c = λ _.
    let kept = c.args.entries.now in
    let ys = entries_at kept c.args.some.now in
    none_shared_by (entries_at kept c.args.files.now) ys
    (λ k l. c.some.invariant.none k (omega (arith, l, c.some-test.false, length-map c.args.some.now (entry_at kept))))
