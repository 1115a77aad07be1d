use Rattle.std.proofs.Common.{◌<◌, ◌+◌, ◌∙◌, ap, arith, length}
use Rattle.std.specs.Prelude.{get_or}
use Rattle.std.proofs.lemmas.List.{take_all}
use Rattle.std.proofs.lemmas.List.Sums.{get_or-le-sum_by, sum_by-set}
use Rattle.ice_state.specs.Lines.{entries_at}
use Rattle.icescan_explain.specs.Applying.{named, times_at}
use Rattle.icescan_explain.proofs.Places.{named_so_far, once_there, within_at}
use Rattle.icescan_explain.proofs.applied.count_places.Goals as goal

pub places-init : goal.places-init
places-init c = record { all = omega arith; told = λ deletes same q. omega arith }

pub overflow_add-times : goal.overflow_add-times
overflow_add-times c =
    let ts = c.places.times in
    let p = get_or c.args.places.now c.places.i 0 in
    let within = within_at (length c.args.times.now) c.args.places.now c.places.i c.requires.within c.places-test.true in
    let least = get_or-le-sum_by (λ x. x) ts p 0 (omega (arith, within, c.places.auto.times)) in
    omega (arith, least, c.places.invariant.all, c.requires.few, c.places-test.true)

pub places-preserved : goal.places-preserved
places-preserved c =
    let ts = c.places.times in
    let p = get_or c.args.places.now c.places.i 0 in
    let within = within_at (length c.args.times.now) c.args.places.now c.places.i c.requires.within c.places-test.true in
    let there : p < length ts = omega (arith, within, c.places.auto.times) in
    let so_far = c.places.invariant in
    let more = sum_by-set (λ x. x) ts p (get_or ts p 0 + 1) 0 there in
    record {
      all = omega (arith, more, so_far.all);
      told = λ deletes same q.
          let once = once_there q deletes ts p (omega (arith, same, c.places.auto.times)) there in
          let before = so_far.told deletes same q in
          let named_more = named_so_far q deletes c.args.places.now c.places.i c.places-test.true in
          omega (arith, once, before, named_more);
    }

pub returns-clause-all : goal.returns-clause-all
returns-clause-all c = omega (arith, c.places.invariant.all, c.places-test.false, c.places.auto.i-end)

pub returns-clause-told : goal.returns-clause-told
returns-clause-told c = λ deletes same q.
    let whole = take_all c.places.i c.args.places.now (omega (arith, c.places-test.false)) in
    c.places.invariant.told deletes same q
    ∙ ap (λ ps. times_at q deletes c.args.times.now + named q (entries_at deletes ps)) whole
