use Rattle.std.proofs.Common.{◌≡◌, ◌≤◌, ◌<◌, ◌+◌, ◌-◌, ◌++◌, ◌∙◌, ℕ, true, List, [], ap, append-nil, arith, drop, length}
use Rattle.std.proofs.Common.{refl, subst, sym, take, cond, false}
use Rattle.std.specs.Prelude.{Err, Some, slice_get}
use Rattle.std.proofs.Math.Seq.{take-length}
use Rattle.std.proofs.lemmas.List.{append_assoc}
use Rattle.std.proofs.lemmas.Option.{slice_get-get_or, slice_get_within}
use Rattle.std.proofs.lemmas.Result.{err_from_is_err_and}
use Rattle.ice_desk.proofs.Given.{none_given}
use Rattle.ice_desk.specs.Given.{IsGiven}
use Rattle.icescan_explain.specs.declared.verdict.Verdict.{Verdict}
use Rattle.ice_manifest_fields.proofs.Steps.{end_of, step_of}
use Rattle.ice_manifest_reading.specs.declared.row.Row.{Row}
use Rattle.ice_state.specs.Contents.{Content, content, is_row_taken}
use Rattle.ice_state.specs.Outcomes.{kept_in}
use Rattle.icescan_text.specs.Reads.{all_present}
use Rattle.icescan_text.specs.declared.fault.RunFault.TheVariants as run
use Rattle.icescan_explain.specs.RowsTold.{AreToldOf, is_wanted, row_told, rows_told}
use Rattle.icescan_explain.specs.Told.{paths_of_data}
use Rattle.icescan_explain.specs.ToldRanges.{between, count_of, wanted_of}
use Rattle.icescan_explain.proofs.AnyKept.{kept_more, none_in, untaken}
use Rattle.icescan_explain.proofs.Ends.{ends_here, ends_later, is_next, no_later, none_present}
use Rattle.icescan_explain.proofs.Ends.{present_later, rest_more, starts, told_more}
use Rattle.icescan_explain.proofs.MoreGiven.{none_after}
use Rattle.icescan_explain.proofs.Ranges.{each_more, next_place, next_within, none_behind, none_between, none_more_before}
use Rattle.icescan_explain.proofs.Ranges.{none_more_behind, none_taken, row_at, set_between}
use Rattle.icescan_explain.proofs.manifests.tell_rows.Goals as goal

pub rows-init : goal.rows-init
rows-init g c =
    let scan = c.args.scan.now in
    let wanted = scan.wanted in
    let none = c.in_ok-state.ensures.none in
    let free : (j : ℕ) → is_row_taken c.in_ok-state.state j ≡ false =
    λ j. ap (λ (s : Content). is_row_taken s j) none ∙ none_taken (length wanted) j in (
      0,
      record {
        place = omega arith;
        few = omega arith;
        within = omega arith;
        of_scan = c.in_ok-state.ensures.of_scan;
        rest = refl;
        told = λ world told. c.new-verdicts.ensures.items;
        taken = λ world told. c.in_ok-state.ensures.world world
            ∙ ap (content world scan) (sym (none_between c.args.first (length wanted) c.requires.rows.2));
        ends = λ world told e h. h;
        present = λ world told h. h;
        read = λ left h. rw c.new-verdicts.ensures.items h;
        kept = rw c.new-verdicts.ensures.items
            (ap paths_of_data (sym (ap kept_in none ∙ none_in (length wanted))));
        given = subst (IsGiven (g.F.Files.gives c.args.files.now) scan) (sym none)
            (none_given (g.F.Files.gives c.args.files.now) scan wanted (length wanted));
        each = λ j f l. absurd (omega (arith, f, l));
        before = λ j l. free j;
        behind = λ j l. free j;
      },
    )

pub tell_row-requires-clause-row : goal.tell_row-requires-clause-row
tell_row-requires-clause-row g c =
    let tests = c.args.tests.now in
    let rows = c.args.rows.now in
    let k = c.rows.invariant.0 in
    let kept = c.rows.invariant.1 in
    let step = step_of rows c.rows.row-index c.row-item.result c.rows-test.true c.row-item.is in
    λ e. row_at tests c.args.scan.now c.args.first rows c.requires.rows k c.rows.next c.row-item.result kept.place
    (is_next (is_wanted tests) (wanted_of tests rows) rows c.rows.row-index k c.row-item.result kept.rest step e)

pub tell_row-requires-clause-few : goal.tell_row-requires-clause-few
tell_row-requires-clause-few g c =
    let kept = c.rows.invariant.1 in
    omega (arith, kept.place, kept.few, c.rows-test.true, c.requires.few)

pub rows-preserved : goal.rows-preserved
rows-preserved g c =
    let f = g.F.Files.may_fail c.args.files.now in
    let gives = g.F.Files.gives c.args.files.now in
    let tests = c.args.tests.now in
    let scan = c.args.scan.now in
    let wanted = scan.wanted in
    let rows = c.args.rows.now in
    let mine = wanted_of tests rows in
    let first = c.args.first in
    let i = c.rows.row-index in
    let next = c.rows.next in
    let row = c.row-item.result in
    let k = c.rows.invariant.0 in
    let kept = c.rows.invariant.1 in
    let b = is_wanted tests row in
    let step = step_of rows i row c.rows-test.true c.row-item.is in
    let at = is_next (is_wanted tests) mine rows i k row kept.rest step in
    let start = starts (is_wanted tests) mine rows i k row kept.rest step in
    let scan_at : b ≡ true → slice_get wanted next ≡ Some row = λ e. row_at tests scan first rows c.requires.rows k next row kept.place (at e) in
    let within_mine : b ≡ true → k < length mine = λ e. slice_get_within mine k row (at e) in
    let within : b ≡ true → next < length wanted = λ e. slice_get_within wanted next row (scan_at e) in
    let item : slice_get rows i ≡ Some row = slice_get-get_or rows i row c.rows-test.true
    ∙ ap Some (sym c.row-item.is) in
    let here = c.in_ok-next.ensures in
    let read = here.read in
    let now_place = here.next in
    let free = none_behind c.rows.state next kept.behind
    ∙ ap (λ n. untaken (n - next)) kept.of_scan in (
      cond b (k + 1) k,
      record {
        place = now_place ∙ next_place b first k next kept.place;
        few = no_later b k i kept.few;
        within = next_within b k (length mine) kept.within within_mine;
        of_scan = here.of_scan;
        rest = rest_more (is_wanted tests) mine rows i k row kept.rest step;
        told = λ world told. here.told world told
            ∙ ap (λ (vs : List Verdict). vs ++ row_told tests world row) (kept.told world told)
            ∙ sym (told_more tests world rows i row item);
        taken = λ world told. here.taken world _ told (kept.taken world told)
            ∙ ap (content world scan) (set_between first k (length wanted) next b kept.place within);
        ends = λ world told e h. kept.ends world told e
            (ends_later f world tests mine k row start (here.there world told) e h);
        present = λ world told h. kept.present world told
            (present_later f world tests mine k row start (here.there world told) h);
        read = λ left h.
            let first = row_told tests (λ path. Some read.0) row in
            let all = kept.read (first ++ left) (subst (λ (rs : List Row). AreToldOf gives tests rs (first ++ left))
            (sym step) (first, left, (read.0, read.1, refl), h, refl)) in
            subst (AreToldOf gives tests rows) (sym (append_assoc c.rows.verdicts.items first left)
            ∙ ap (λ (vs : List Verdict). vs ++ left) (sym read.3)) all;
        kept = rw (read.2, read.3)
            (kept_more tests scan row read.0 next c.rows.verdicts.items c.rows.state c.requires.by scan_at free
            kept.kept);
        given = here.given kept.given;
        each = rw (now_place, read.2)
            (each_more scan c.rows.state first next read.0 b kept.of_scan within kept.each);
        before = rw read.2
            (none_more_before scan c.rows.state first next read.0 b (omega (arith, kept.place)) kept.before);
        behind = rw (now_place, read.2) (none_more_behind scan c.rows.state first next read.0 b kept.behind);
      },
    )

pub returns-in_err-next : goal.returns-in_err-next
returns-in_err-next g c =
    let p = err_from_is_err_and c.from_residual-in_err-next.result c.from_residual-in_err-next.ensures.1 in
    let tests = c.args.tests.now in
    let rows = c.args.rows.now in
    let k = c.rows.invariant.0 in
    let kept = c.rows.invariant.1 in
    let refused = c.in_err-next.ensures in
    let step = step_of rows c.rows.row-index c.row-item.result c.rows-test.true c.row-item.is in
    let start = starts (is_wanted tests) (wanted_of tests rows) rows c.rows.row-index k c.row-item.result kept.rest step
    in
    rw (p.1, p.2) (record {
      all = tt;
      refused = λ world told. kept.ends world told c.in_err-next.field-0.0
          (ends_here (g.F.Files.may_fail c.args.files.now) world tests (wanted_of tests rows) k c.row-item.result start
          c.in_err-next.field-0.0 (refused.refused world told));
      absent = λ path is.
          let failed : c.in_err-next.field-0.0 ≡ run.Absent path = cc in refused.absent path (ap Err failed);
      device = λ path is.
          let failed : c.in_err-next.field-0.0 ≡ run.Device path = cc in refused.device path (ap Err failed);
      write = λ is. let failed : c.in_err-next.field-0.0 ≡ run.Write = cc in refused.write (ap Err failed);
    })

pub returns : goal.returns
returns g c =
    let gives = g.F.Files.gives c.args.files.now in
    let tests = c.args.tests.now in
    let rows = c.args.rows.now in
    let mine = wanted_of tests rows in
    let wanted = c.args.scan.now.wanted in
    let first = c.args.first in
    let i = c.rows.row-index in
    let k = c.rows.invariant.0 in
    let kept = c.rows.invariant.1 in
    let low : length rows ≤ i = c.rows-test.false in
    let high : i ≤ length rows = c.rows.auto.row-index-end in
    let ended : i ≡ length rows = omega arith in
    let no_rows : drop i rows ≡ [] = end_of rows i c.rows-test.false in
    let none : drop k mine ≡ [] = rw no_rows at kept.rest in
    let past = none_after mine k none in
    let all : k ≡ count_of tests rows = omega (arith, past, kept.within) in
    let place : c.rows.next ≡ first + count_of tests rows = kept.place ∙ ap (λ n. first + n) all in
    record {
      all = record {
        of_scan = kept.of_scan;
        each = λ j f l. kept.each j f (omega (arith, l, place));
        before = kept.before;
        behind = λ j l. kept.behind j (omega (arith, l, place));
        told = λ world told. c.from_vec.ensures ∙ kept.told world told
            ∙ ap (rows_told tests world) (ap (λ n. take n rows) ended ∙ take-length rows);
        taken = λ world told. kept.taken world told
            ∙ ap (λ n. content world c.args.scan.now (between first n (length wanted - (first + n)))) all;
        present = λ world told. kept.present world told (ap (all_present world) none ∙ none_present world);
        read = subst (AreToldOf gives tests rows) (append-nil c.rows.verdicts.items ∙ sym c.from_vec.ensures)
            (kept.read [] (subst (λ (rs : List Row). AreToldOf gives tests rs []) (sym no_rows) refl));
        kept = rw c.from_vec.ensures kept.kept;
        given = kept.given;
      };
      refused = λ world told. tt;
      absent = λ path is. absurd cc;
      device = λ path is. absurd cc;
      write = λ is. absurd cc;
    }
