use Rattle.std.proofs.Common.{⊎_elim, ◌≡◌, ◌<◌, ◌≤◌, true, false, arith, add-one, ap, drop, length, refl, subst, suc}
use Rattle.std.proofs.Common.{sym}
use Rattle.std.proofs.Common.{◌∙◌}
use Rattle.ice_state.specs.Contents.{is_row_taken, took}
use Rattle.ice_desk.specs.Given.{IsGiven}
use Rattle.ice_desk.proofs.Given.{took_given}
use Rattle.ice_desk.proofs.Taking.{again, begins, behind_more, below_or_at, ends, goes_on, has_bytes, has_next}
use Rattle.ice_desk.proofs.Taking.{no_read, none_untaken, reads_next, same_taken, skips, stops_later, taken_before}
use Rattle.ice_desk.proofs.Taking.{taken_here, took_behind}
use Rattle.ice_desk.proofs.wanted.take_wanted.Goals as goal

pub loop-i-init : goal.loop-i-init
loop-i-init g c = record {
  of_scan = c.requires;
  behind = refl;
  so_far = λ j l. absurd (omega (arith, l));
  taken = λ world ts told h. begins world c.args.scan.now c.args.state.now ts h;
  present = λ world told h. h;
  ahead = λ world told e h. h;
  given = λ h. h;
}

pub loop-i-preserved-then-is_taken : goal.loop-i-preserved-then-is_taken
loop-i-preserved-then-is_taken g c =
    let scan = c.args.scan.now in
    let i = c.loop-i.i in
    let kept = c.loop-i.invariant in
    let l : i < length scan.wanted = rw c.wanted-row-items.ensures at c.loop-i-test.true in
    let t : is_row_taken c.loop-i.state i ≡ true = sym c.is_taken.ensures ∙ c.if-is_taken.true in
    let next = skips c.args.state.now scan.wanted i (sym (same_taken c.loop-i.state c.args.state.now i kept.behind) ∙
    t) in
    record {
      of_scan = kept.of_scan;
      behind = rw add-one (behind_more _ _ i kept.behind);
      so_far = λ j m. ⊎_elim (λ l. kept.so_far j l) (λ e. ap (is_row_taken c.loop-i.state) e ∙ t) (below_or_at j i m);
      taken = λ world ts told h. rw add-one (goes_on world scan c.loop-i.state ts i (omega (arith, l, h.flags))
          (again world scan c.loop-i.state ts i t (kept.taken world ts told h)));
      present = λ world told h. kept.present world told (rw next (rw add-one at h));
      ahead = λ world told e h. kept.ahead world told e (rw next (rw add-one at h));
      given = kept.given;
    }

pub loop-i-preserved : goal.loop-i-preserved
loop-i-preserved g c =
    let scan = c.args.scan.now in
    let row = c.row-item.result in
    let i = c.loop-i.i in
    let kept = c.loop-i.invariant in
    let l : i < length scan.wanted = rw c.wanted-row-items.ensures at c.loop-i-test.true in
    let here = rw c.wanted-row-items.ensures at c.row-item.is in
    let f : is_row_taken c.loop-i.state i ≡ false = sym c.is_taken.ensures ∙ c.if-is_taken.false in
    let next = reads_next c.args.state.now scan.wanted i row c.requires l here
    (sym (same_taken c.loop-i.state c.args.state.now i kept.behind) ∙ f) in
    record {
      of_scan = c.in_ok-take.ensures.of_scan;
      behind = rw add-one (ap (drop (suc i)) c.in_ok-take.ensures.ok ∙ took_behind scan c.loop-i.state scan.wanted i
          c.as_slice.result.now ∙ behind_more _ _ i kept.behind);
      so_far = λ j m. ap (λ s. is_row_taken s j) c.in_ok-take.ensures.ok ∙ ⊎_elim
          (λ l. taken_before scan c.loop-i.state scan.wanted i j c.as_slice.result.now (kept.so_far j l))
          (λ e. ap (is_row_taken (took scan c.loop-i.state i c.as_slice.result.now)) e ∙ taken_here scan c.loop-i.state
          scan.wanted i c.as_slice.result.now kept.of_scan (omega (arith, l, kept.of_scan)))
          (below_or_at j i m);
      taken = λ world ts told h.
          let found = rw (told, c.as_str.ensures, ← c.as_slice.ensures.value) at c.in_ok-read_file.ensures.found in
          rw add-one (goes_on world scan c.take.new.self ts i (omega (arith, l, h.flags)) (c.in_ok-take.ensures.world
          world _ (kept.taken world ts told h) (has_bytes world scan.wanted i row c.as_slice.result.now l here
          found)));
      present = λ world told h.
          let found = rw (told, c.as_str.ensures, ← c.as_slice.ensures.value) at c.in_ok-read_file.ensures.found in
          kept.present world told (rw next (has_next world row _ c.as_slice.result.now found (rw add-one at h)));
      ahead = λ world told e h.
          let found = rw (told, c.as_str.ensures, ← c.as_slice.ensures.value) at c.in_ok-read_file.ensures.found in
          kept.ahead world told e (rw next (stops_later world (g.F.Files.may_fail c.args.files.now) row.path
          c.as_slice.result.now _ e found (rw add-one at h)));
      given = λ h. subst (IsGiven (g.F.Files.gives c.args.files.now) scan) (sym c.in_ok-take.ensures.ok)
          (took_given (g.F.Files.gives c.args.files.now) scan c.loop-i.state scan.wanted i row c.as_slice.result.now l
          here (rw (c.as_str.ensures, ← c.as_slice.ensures.value) at c.in_ok-read_file.ensures.given) (kept.given h));
    }

pub returns-clause-taken : goal.returns-clause-taken
returns-clause-taken g c =
    let scan = c.args.scan.now in
    let low : length scan.wanted ≤ c.loop-i.i = rw c.wanted-row-items.ensures at c.loop-i-test.false in
    let high : c.loop-i.i ≤ length scan.wanted = rw c.wanted-row-items.ensures at c.loop-i.auto.i-end in
    let e : c.loop-i.i ≡ length scan.wanted = omega arith in
    λ world ts told h. ends world scan c.loop-i.state ts h.flags (rw e at (c.loop-i.invariant.taken world ts told h))

pub returns-clause-whole : goal.returns-clause-whole
returns-clause-whole g c =
    let scan = c.args.scan.now in
    let low : length scan.wanted ≤ c.loop-i.i = rw c.wanted-row-items.ensures at c.loop-i-test.false in
    none_untaken c.loop-i.state scan.wanted c.loop-i.invariant.of_scan (λ j l. c.loop-i.invariant.so_far j
    (omega (arith, l, low)))

pub returns-in_err-read_file-clause-none : goal.returns-in_err-read_file-clause-none
returns-in_err-read_file-clause-none g c =
    let scan = c.args.scan.now in
    let l : c.loop-i.i < length scan.wanted = rw c.wanted-row-items.ensures at c.loop-i-test.true in
    let f : is_row_taken c.loop-i.state c.loop-i.i ≡ false = sym c.is_taken.ensures ∙ c.if-is_taken.false in
    λ none. absurd (no_read c.args.state.now scan.wanted c.loop-i.i c.row-item.result c.requires l
    (rw c.wanted-row-items.ensures at c.row-item.is)
    (sym (same_taken c.loop-i.state c.args.state.now c.loop-i.i c.loop-i.invariant.behind) ∙ f) none)

pub returns-in_err-take-clause-none : goal.returns-in_err-take-clause-none
returns-in_err-take-clause-none g c =
    let scan = c.args.scan.now in
    let l : c.loop-i.i < length scan.wanted = rw c.wanted-row-items.ensures at c.loop-i-test.true in
    let f : is_row_taken c.loop-i.state c.loop-i.i ≡ false = sym c.is_taken.ensures ∙ c.if-is_taken.false in
    λ none. absurd (no_read c.args.state.now scan.wanted c.loop-i.i c.row-item.result c.requires l
    (rw c.wanted-row-items.ensures at c.row-item.is)
    (sym (same_taken c.loop-i.state c.args.state.now c.loop-i.i c.loop-i.invariant.behind) ∙ f) none)
