use Rattle.std.proofs.Common.{◌<◌, ◌+◌, ◌∙◌, cond, sym, ap, arith, length, take}
use Rattle.std.specs.Str.{bytes_eq}
use Rattle.std.proofs.lemmas.List.{take_all}
use Rattle.icescan_explain.specs.Applying.{applied, times_at, times_in}
use Rattle.icescan_explain.proofs.Places.{one_more_within, times_so_far}
use Rattle.icescan_explain.proofs.applied.Applied.of.Goals as goal

pub add-requires : goal.add-requires
add-requires c =
    let path = c.path.result.now in
    let ts = c.in_ok-times.times.items in
    let there : c.deletes.i < length ts =
    omega (arith, c.deletes-test.true, c.in_ok-times.ensures.each, c.count_deletes-i-end.ensures.counted) in
    let so_far = c.deletes.invariant path in
    let all = one_more_within path c.placed_files-plan.result.deletes ts c.deletes.i c.index.result.now
    c.index.ensures there in
    omega (arith, so_far, all, c.in_ok-times.ensures.few)

pub deletes-preserved : goal.deletes-preserved
deletes-preserved c = λ q.
    let ts = c.in_ok-times.times.items in
    let d = c.delete.result in
    let there : c.deletes.i < length ts =
    omega (arith, c.deletes-test.true, c.in_ok-times.ensures.each, c.count_deletes-i-end.ensures.counted) in
    let more = c.in_ok-add.ensures q in
    let so_far = c.deletes.invariant q in
    let all = times_so_far q c.placed_files-plan.result.deletes ts c.deletes.i d c.index.result.now
    (sym c.in_ok-times.ensures.each) c.delete.ensures c.index.ensures there in
    more ∙ ap (λ bs. times_in c.deletes.applied q + cond (bytes_eq q bs) c.index.result.now 0) c.path.ensures
    ∙ ap (λ n. n + cond (bytes_eq q d.file.path) c.index.result.now 0) so_far ∙ sym all

pub returns : goal.returns
returns c = λ path.
    let deletes = c.placed_files-plan.result.deletes in
    let times = c.in_ok-times.times.items in
    let i = c.deletes.i in
    let counted = c.count_deletes-i-end.ensures.counted in
    let all_deletes = take_all i deletes (omega (arith, counted, c.deletes-test.false)) in
    let all_times = take_all i times (omega (arith, counted, c.in_ok-times.ensures.each, c.deletes-test.false)) in
    c.deletes.invariant path ∙ ap (λ ds. times_at path ds (take i times)) all_deletes
    ∙ ap (times_at path deletes) all_times ∙ c.in_ok-times.ensures.told path
    ∙ ap (λ plan. applied plan path) c.placed_files-plan.ensures.same
