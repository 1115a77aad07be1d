use Rattle.std.proofs.Common.{⊎_elim, ◌<◌, ◌≤◌, arith, ap, length, subst, sym}
use Rattle.std.proofs.Common.{◌∙◌}
use Rattle.ice_state.specs.Contents.{is_row_taken, took}
use Rattle.ice_desk.specs.Given.{IsGiven}
use Rattle.ice_desk.proofs.Given.{took_given}
use Rattle.ice_desk.proofs.Taking.{below_or_at, taken_before, taken_here}
use Rattle.icescan_shares.proofs.Marked.{marked_below}
use Rattle.icescan_shares.proofs.taking.take_marked.Goals as goal

pub loop-i-init : goal.loop-i-init
loop-i-init g c = record {
  of_scan = c.requires.of_scan;
  given = c.requires.given;
  so_far = λ j l marked. absurd (omega (arith, l));
}

pub loop-i-preserved : goal.loop-i-preserved
loop-i-preserved g c =
    let gives = g.F.Files.gives c.args.files.now in
    let scan = c.args.scan.now in
    let row = c.row-item.result in
    let i = c.loop-i.i in
    let kept = c.loop-i.invariant in
    let l : i < length scan.wanted = rw c.wanted-row-items.ensures at c.loop-i-test.true in
    let here = rw c.wanted-row-items.ensures at c.row-item.is in
    let bytes = c.as_slice.result.now in
    record {
      of_scan = c.in_ok-take.ensures.of_scan;
      given = subst (IsGiven gives scan) (sym c.in_ok-take.ensures.ok)
          (took_given gives scan c.loop-i.state scan.wanted i row bytes l here
          (rw (c.as_str.ensures, ← c.as_slice.ensures.value) at c.in_ok-read_file_into.ensures.given) kept.given);
      so_far = λ j m marked. ap (λ s. is_row_taken s j) c.in_ok-take.ensures.ok ∙ ⊎_elim
          (λ k. taken_before scan c.loop-i.state scan.wanted i j bytes (kept.so_far j k marked))
          (λ e. ap (is_row_taken (took scan c.loop-i.state i bytes)) e ∙ taken_here scan c.loop-i.state scan.wanted i
          bytes kept.of_scan (omega (arith, l, kept.of_scan)))
          (below_or_at j i m);
    }

pub returns-clause-whole : goal.returns-clause-whole
returns-clause-whole g c =
    let scan = c.args.scan.now in
    let low : length scan.wanted ≤ c.loop-i.i = rw c.wanted-row-items.ensures at c.loop-i-test.false in
    λ i marked. c.loop-i.invariant.so_far i
    (omega (arith, marked_below c.args.marks.now i marked, low, c.requires.marks)) marked
