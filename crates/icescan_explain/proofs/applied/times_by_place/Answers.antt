use Rattle.std.proofs.Common.{◌≡◌, ◌∙◌, subst, sym, ap, arith, length}
use Rattle.std.specs.Prelude.{replicate, sum_by}
use Rattle.std.specs.List.{sum}
use Rattle.std.specs.Vec.{with_items}
use Rattle.std.proofs.lemmas.List.{take_all, with_items_is}
use Rattle.std.proofs.lemmas.List.Folds.{sum_by-replicate}
use Rattle.ice_state.specs.Lines.{AreWithin}
use Rattle.icescan_explain.specs.Applying.{times_at}
use Rattle.icescan_explain.proofs.Places.{equalities_within, line_more, named_at, none_there, planned, positions_within}
use Rattle.icescan_explain.proofs.applied.times_by_place.Goals as goal

pub files-init : goal.files-init
files-init c =
    let deletes = c.args.plan.now.deletes in
    let zeros : c.in_ok-times.times.items ≡ replicate c.count_deletes.result 0 =
    c.in_ok-times.ensures.items_if_clones_equal (λ y h. h) in
    let nothing = sum_by-replicate (λ x. x) c.count_deletes.result 0 in
    record {
      each = sym c.in_ok-times.times.ok.0 ∙ c.in_ok-times.ensures.len ∙ c.count_deletes.ensures.counted;
      few = omega (arith, ap sum zeros, nothing);
      told = λ q. ap (times_at q deletes) zeros ∙ none_there q deletes c.count_deletes.result;
    }

pub count_places-requires-clause-within : goal.count_places-requires-clause-within
count_places-requires-clause-within c =
    let deletes = c.args.plan.now.deletes in
    let places = c.args.plan.now.places in
    let each : length deletes ≡ length c.deref_mut.result.now =
    sym c.files.invariant.each ∙ sym (ap length c.deref_mut.ensures.value) in
    subst (λ n. AreWithin n c.positions.result.now) each
    (positions_within (length deletes) places c.files.i c.positions.result.now c.requires.within c.positions.ensures)

pub count_places-requires-clause-few : goal.count_places-requires-clause-few
count_places-requires-clause-few c =
    let same = ap sum c.deref_mut.ensures.value in
    omega (
      arith,
      same,
      c.files.invariant.few,
      c.files-test.true,
      c.count_files-i-end.ensures.few,
      c.positions.type_inv.1,
    )

pub count_places-requires-in-files-clause-within : goal.count_places-requires-in-files-clause-within
count_places-requires-in-files-clause-within c =
    let deletes = c.args.plan.now.deletes in
    let old = c.files.times in
    let a = c.count_places.new.times in
    let long_a : length a ≡ old.len =
    c.count_places.ensures.same ∙ ap length c.deref_mut.ensures.value ∙ sym old.ok.0 in
    let second : c.deref_mut-in-files.result.now ≡ a =
    c.deref_mut-in-files.ensures.value ∙ with_items_is old a long_a in
    let each : length deletes ≡ length c.deref_mut-in-files.result.now =
    sym c.files.invariant.each ∙ sym old.ok.0 ∙ sym long_a ∙ sym (ap length second) in
    subst (λ n. AreWithin n c.equalities.result.now) each
    (equalities_within (length deletes) c.args.plan.now.places c.files.i c.equalities.result.now c.requires.within
    c.equalities.ensures)

pub count_places-requires-in-files-clause-few : goal.count_places-requires-in-files-clause-few
count_places-requires-in-files-clause-few c =
    let old = c.files.times in
    let a = c.count_places.new.times in
    let long_a : length a ≡ old.len =
    c.count_places.ensures.same ∙ ap length c.deref_mut.ensures.value ∙ sym old.ok.0 in
    let second : c.deref_mut-in-files.result.now ≡ a =
    c.deref_mut-in-files.ensures.value ∙ with_items_is old a long_a in
    let same = ap sum c.deref_mut.ensures.value in
    omega (
      arith,
      ap sum second,
      c.count_places.ensures.all,
      same,
      c.files.invariant.few,
      c.files-test.true,
      c.count_files-i-end.ensures.few,
      c.positions.type_inv.1,
      c.equalities.type_inv.1,
    )

pub files-preserved : goal.files-preserved
files-preserved c =
    let deletes = c.args.plan.now.deletes in
    let places = c.args.plan.now.places in
    let old = c.files.times in
    let so_far = c.files.invariant in
    let a = c.count_places.new.times in
    let b = c.count_places-in-files.new.times in
    let first : c.deref_mut.result.now ≡ old.items = c.deref_mut.ensures.value in
    let long_a : length a ≡ old.len = c.count_places.ensures.same ∙ ap length first ∙ sym old.ok.0 in
    let second : c.deref_mut-in-files.result.now ≡ a =
    c.deref_mut-in-files.ensures.value ∙ with_items_is old a long_a in
    let long_b : length b ≡ old.len = c.count_places-in-files.ensures.same ∙ ap length second ∙ long_a in
    let last : (with_items (with_items old a) b).items ≡ b = with_items_is (with_items old a) b long_b in
    let each_a : length deletes ≡ length c.deref_mut.result.now = sym so_far.each ∙ sym (ap length first) in
    let each_b : length deletes ≡ length c.deref_mut-in-files.result.now =
    each_a ∙ sym c.count_places.ensures.same ∙ sym (ap length second) in
    record {
      each = ap length last ∙ long_b ∙ old.ok.0 ∙ so_far.each;
      few = omega (
        arith,
        ap sum last,
        ap sum second,
        ap sum first,
        c.count_places.ensures.all,
        c.count_places-in-files.ensures.all,
        so_far.few,
        c.positions.type_inv.1,
        c.equalities.type_inv.1,
      );
      told = λ q.
          let told_b = c.count_places-in-files.ensures.told deletes each_b q in
          let told_a = c.count_places.ensures.told deletes each_a q in
          let more = line_more q deletes places c.files.i c.positions.result.now c.equalities.result.now
          c.positions.ensures c.equalities.ensures in
          omega (
            arith,
            ap (times_at q deletes) last,
            ap (times_at q deletes) second,
            ap (times_at q deletes) first,
            told_b,
            told_a,
            so_far.told q,
            more,
          );
    }

pub returns-clause-few : goal.returns-clause-few
returns-clause-few c = omega (arith, c.files.invariant.few, c.files.auto.i-end, c.count_files-i-end.ensures.few)

pub returns-clause-told : goal.returns-clause-told
returns-clause-told c = λ q.
    let deletes = c.args.plan.now.deletes in
    let places = c.args.plan.now.places in
    let whole = take_all c.files.i places
    (omega (arith, c.requires.each, c.count_files-i-end.ensures.counted, c.files-test.false)) in
    c.files.invariant.told q ∙ ap (sum_by (named_at q deletes)) whole
    ∙ sym (planned q deletes c.args.plan.now.files places c.requires.each)
