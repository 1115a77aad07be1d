use Rattle.std.proofs.Common.{◌∙◌, ◌||◌, ap, sym, arith, false, get_or, length, option_map}
use Rattle.std.specs.List.{list_any}
use Rattle.ice_deletes.specs.Found.{lent}
use Rattle.icescan_audit_findings.specs.Dangling.{data_of}
use Rattle.icescan_audit_findings.specs.Lookups.{data_lent, is_hit}
use Rattle.icescan_audit_findings.proofs.Hitting.{found_below, in_index, marks_more}
use Rattle.icescan_audit_findings.proofs.Stepwise.{none_more, some_more}
use Rattle.icescan_audit_findings.proofs.reaching.mark_reaching.Goals as goal
use Rattle.icescan_audit_findings.proofs.reaching.mark_reaching.Goals.{in-Some, in-None}

pub mark_hits-requires : goal.mark_hits-requires
mark_hits-requires c =
    let x = data_lent c.in-Some.found in
    let hits = c.hits_for.result in
    let exact = in_index c.files.finder c.args.index.now x hits c.files.invariant.index c.hits_for.ensures.exact in
    λ n m. omega (
      arith,
      found_below c.args.index.now x (lent hits) (length c.args.marks.now) exact c.requires n m,
      c.files.invariant.many,
    )

pub files-preserved : goal.files-preserved
files-preserved c =
    let index = c.args.index.now in
    let files = c.args.files.now in
    let i = c.files.file-index in
    let file = c.file-item.result in
    elim c.match-data_of.branch [
      | in-Some w ↦
          let x = data_lent w.in-Some.found in
          let hits = w.hits_for.result in
          let exact = in_index c.files.finder index x hits c.files.invariant.index w.hits_for.ensures.exact in
          let more = some_more data_of files i file x c.files-test.true c.file-item.is
          (sym c.data_of.ensures ∙ ap (option_map data_lent) w.in-Some.is) in
          rw (w.marks-is, w.finder-is) (record {
            index = w.hits_for.ensures.same ∙ c.files.invariant.index;
            many = w.mark_hits.ensures.many ∙ c.files.invariant.many;
            marked = λ k low.
                marks_more index _ x (lent hits) k _ _ _ exact (c.files.invariant.marked k low)
                (w.mark_hits.ensures.marked k (omega (arith, low, c.files.invariant.many)))
                ∙ ap (λ xs. get_or c.args.marks.now k false || list_any (λ y. is_hit index y k) xs) (sym more);
          })
      | in-None w ↦
          let more = none_more data_of files i file c.files-test.true c.file-item.is
          (sym c.data_of.ensures ∙ ap (option_map data_lent) w.in-None.is) in
          rw (w.marks-is, w.finder-is) (record {
            index = c.files.invariant.index;
            many = c.files.invariant.many;
            marked = λ k low.
                c.files.invariant.marked k low
                ∙ ap (λ xs. get_or c.args.marks.now k false || list_any (λ y. is_hit index y k) xs) (sym more);
          })
    ]
