use Rattle.std.proofs.Common.{◌≡◌, ◌+◌, ◌-◌, ◌<◌, ◌^◌, ◌++◌, ◌∙◌, ap, arith, length, rules, subst, sym}
use Rattle.std.proofs.lemmas.List.{length-append}
use Rattle.std.proofs.lemmas.Result.{err_from_is_err_and}
use Rattle.icescan_explain.specs.ToldRanges.{AreWantedFrom, count_of}
use Rattle.icescan_explain.proofs.Ranges.{behind_wanted, count_parts, few_wanted, front_is, front_wanted, range_within, refused_behind, refused_first, told_both}
use Rattle.icescan_explain.proofs.by_workers.+fn-tell_halves-join+arg2+fn-tell_halves-join+arg3+tell_halves.Goals as goal

pub overflow_add-next : goal.overflow_add-next
overflow_add-next g t c =
    let counted = c.front_with-place.ensures.counted ∙ ap (count_of c.args.tests.now)
    (front_is c.args.rows.now c.split_at.result.0.now c.split_at.result.1.now c.front_with-place.result.0
    c.split_at.ensures.by_index.0 c.split_at.ensures.front_len) in
    let few = few_wanted c.args.tests.now c.split_at.result.0.now in
    let long = c.split_at.ensures.front_len in
    omega (arith, counted, few, long, c.requires.few)

pub join-told-requires-after_bounds : goal.join-told-requires-after_bounds
join-told-requires-after_bounds g t c κs within =
    let tests = c.args.tests.now in
    let scan = c.args.scan.now in
    let first = c.args.first in
    let front = c.split_at.result.0.now in
    let back = c.split_at.result.1.now in
    let whole : AreWantedFrom tests scan first (front ++ back) =
    subst (AreWantedFrom tests scan first) c.split_at.ensures.by_index.0 c.requires.rows in
    let counted : c.front_with-place.result.1 ≡ count_of tests front = c.front_with-place.ensures.counted ∙ ap (count_of tests)
    (front_is c.args.rows.now front back c.front_with-place.result.0 c.split_at.ensures.by_index.0
    c.split_at.ensures.front_len) in
    let all = ap (count_of tests) c.split_at.ensures.by_index.0 ∙ count_parts tests front back in
    let rest : c.args.wanted - c.front_with-place.result.1 ≡ count_of tests back =
    omega (arith, c.requires.wanted, all, counted) in
    let before : AreWantedFrom tests scan first front = front_wanted tests scan first front back whole in
    let behind : AreWantedFrom tests scan (first + c.front_with-place.result.1) back =
    subst (λ n. AreWantedFrom tests scan (first + n) back) (sym counted)
    (behind_wanted tests scan first front back whole) in
    let long = ap length c.split_at.ensures.by_index.0 ∙ length-append front back in
    let few : first + length front < 2 ^ 64 = omega (arith, long, c.requires.few) in
    let few_behind : (first + c.front_with-place.result.1) + length back < 2 ^ 64 =
    omega (arith, long, counted, few_wanted tests front, c.requires.few) in (
      (
        search rules,
        (
          search rules,
          (
            search rules,
            (
              (search rules, search rules, c.requires.by, before, few, counted),
              (search rules, search rules),
            ),
          ),
        ),
      ),
      (
        search rules,
        (
          search rules,
          (
            search rules,
            (
              (search rules, search rules, c.requires.by, behind, few_behind, rest),
              (search rules, search rules),
            ),
          ),
        ),
      ),
    )

pub returns-in_err-told : goal.returns-in_err-told
returns-in_err-told g t c =
    let p = err_from_is_err_and c.from_residual.result c.from_residual.ensures.1 in
    let told = rw c.in_err-told.was at c.join-told.ensures.first in
    rw (p.1, p.2)
    (refused_first (g.F.Files.world c.args.files.now) (g.F.Files.may_fail c.args.files.now)
    (g.F.Files.gives c.args.files.now) c.args.tests.now c.args.scan.now c.args.first c.args.rows.now _ _
    c.split_at.ensures.by_index.0 c.in_err-told.field-0.0 told)

pub returns-in_err-others : goal.returns-in_err-others
returns-in_err-others g t c =
    let p = err_from_is_err_and c.from_residual-in_err-others.result c.from_residual-in_err-others.ensures.1 in
    let told = rw c.in_ok-told.was at c.join-told.ensures.first in
    let others = rw c.in_err-others.was at c.join-told.ensures.second in
    rw (p.1, p.2)
    (refused_behind (g.F.Files.world c.args.files.now) (g.F.Files.may_fail c.args.files.now)
    (g.F.Files.gives c.args.files.now) c.args.tests.now c.args.scan.now c.args.first c.args.rows.now _ _
    c.split_at.ensures.by_index.0 _ c.in_ok-told.field-0 c.in_err-others.field-0.0 told others)

pub joined-requires : goal.joined-requires
joined-requires g t c =
    let told = rw c.in_ok-told.was at c.join-told.ensures.first in
    let others = rw c.in_ok-others.was at c.join-told.ensures.second in
    told.all.of_scan ∙ sym others.all.of_scan

pub returns : goal.returns
returns g t c =
    let told = rw c.in_ok-told.was at c.join-told.ensures.first in
    let others = rw c.in_ok-others.was at c.join-told.ensures.second in
    let first = c.args.first in
    told_both (g.F.Files.world c.args.files.now) (g.F.Files.may_fail c.args.files.now)
    (g.F.Files.gives c.args.files.now) c.args.tests.now c.args.scan.now first c.args.rows.now _ _
    c.split_at.ensures.by_index.0 _ (ap (λ n. first + n) (c.front_with-place.ensures.counted ∙ ap (count_of c.args.tests.now)
    (front_is c.args.rows.now _ _ c.front_with-place.result.0 c.split_at.ensures.by_index.0 c.split_at.ensures.front_len)))
    (range_within c.args.tests.now c.args.scan.now first c.args.rows.now c.requires.rows)
    c.in_ok-told.field-0 c.in_ok-others.field-0 c.in_ok-joined.field-0 c.in_ok-joined.ensures.state
    c.in_ok-joined.ensures.verdicts told others

pub overflow_sub-behind : goal.overflow_sub-behind
overflow_sub-behind g t c =
    let tests = c.args.tests.now in
    let front = c.split_at.result.0.now in
    let back = c.split_at.result.1.now in
    let counted : c.front_with-place.result.1 ≡ count_of tests front = c.front_with-place.ensures.counted ∙ ap (count_of tests)
    (front_is c.args.rows.now front back c.front_with-place.result.0 c.split_at.ensures.by_index.0
    c.split_at.ensures.front_len) in
    let all = ap (count_of tests) c.split_at.ensures.by_index.0 ∙ count_parts tests front back in
    omega (arith, c.requires.wanted, all, counted)
