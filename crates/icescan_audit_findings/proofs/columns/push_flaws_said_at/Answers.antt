use Rattle.std.proofs.Common.{◌≡◌, ℤ, arith, get_or, refl, subst, to_z, of_z, w32, rules}
use Rattle.std.proofs.lemmas.Int.{to_z-of_z}
use Rattle.icescan_audit_findings.specs.ColumnsSaid.{IsSaidOf}
use Rattle.icescan_audit_findings.proofs.Standing.{none, place_more, places_end, skip_passed, take_passed}
use Rattle.icescan_audit_findings.proofs.columns.push_flaws_said_at.Goals as goal

pub places-preserved-then-is_passed : goal.places-preserved-then-is_passed
places-preserved-then-is_passed c =
    let kept = c.places.invariant in
    let places = c.args.places.now in
    let p = get_or places c.places.place-index 0 in
    record {
      low = kept.low;
      passed = skip_passed c.args.columns.now places c.places.place-index c.places.from p kept.passed refl
          (c.is_passed.ensures.passed c.if-is_passed.true);
      flaws = kept.flaws;
    }

pub places-preserved : goal.places-preserved
places-preserved c =
    let kept = c.places.invariant in
    let file = c.args.bounds.now in
    let cs = c.args.columns.now in
    let places = c.args.places.now in
    let i = c.places.place-index in
    let p = get_or places i 0 in
    let ahead = c.is_passed.ensures.ahead c.if-is_passed.false in
    let id = (get_or cs p none).id in
    let same : to_z w32 (of_z w32 id) ≡ id = to_z-of_z w32 id (search rules) in
    let said = subst (λ (z : ℤ). IsSaidOf file z c.column_looked_up-of_column.result) same
    c.column_looked_up-of_column.ensures in
    record {
      low = omega (arith, ahead.1);
      passed = take_passed cs places i c.places.from p kept.passed refl ahead.0;
      flaws = place_more file cs places c.requires.flawed i c.places.from p c.args.flaws.now.items c.places.flaws.items
          c.push_column_flaws.new.flaws.items c.requires.sorted c.places-test.true refl ahead.0 ahead.1 kept.passed
          kept.flaws (c.in_ok-push_column_flaws.ensures file said);
    }

pub returns : goal.returns
returns c = places_end c.args.bounds.now c.args.columns.now c.args.places.now c.requires.flawed c.places.place-index
    c.places.from c.args.flaws.now.items c.places.flaws.items c.places-test.false c.places.invariant.low
    c.places.invariant.passed c.places.invariant.flaws
