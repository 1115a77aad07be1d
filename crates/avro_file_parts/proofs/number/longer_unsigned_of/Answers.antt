use Rattle.std.proofs.Common.{◌≡◌, ℕ, ◌+◌, ◌*◌, ◌^◌, [], Ok, ap, ◌∙◌, arith}
use Rattle.std.proofs.lemmas.List.{nil_from_length}
use Rattle.avro_file_parts.specs.Number.{groups_at}
use Rattle.avro_file_parts.proofs.Groups.{goes_on, ends_small, ends_short, ends_large, place_small, times_small}
use Rattle.avro_file_parts.proofs.Groups.{place_grows}
use Rattle.avro_file_parts.proofs.Groups.{low_stays, tenth_place, times_one}
use Rattle.avro_file_parts.proofs.number.longer_unsigned_of.Goals as goal

pub returns-in_default : goal.returns-in_default
returns-in_default c =
    let l = c.groups in
    let none : l.rest.now ≡ [] = nil_from_length _ c.in_default.ensures.cases in
    ends_short l.value l.place l.counter c.args.bytes.now (omega (arith, l.invariant.most))
    (rw none at l.invariant.read)

pub overflow_mul-result : goal.overflow_mul-result
overflow_mul-result c =
    let small = place_small c.groups.place c.groups.counter c.groups.invariant.place c.groups-test.true in
    let h = times_small c.groups.place c.from.result small (omega arith) in
    omega arith

pub overflow_add-result : goal.overflow_add-result
overflow_add-result c =
    let small = place_small c.groups.place c.groups.counter c.groups.invariant.place c.groups-test.true in
    let h = times_small c.groups.place c.from.result small (omega arith) in
    omega (arith, c.groups.invariant.low)

pub returns-then-group-lt128 : goal.returns-then-group-lt128
returns-then-group-lt128 c =
    let l = c.groups in
    let read = rw c.in-Some.ensures.cases.0 at l.invariant.read in
    let small = place_small l.place l.counter l.invariant.place c.groups-test.true in
    let h = times_small l.place c.in-Some.first.now small (omega (arith, c.if-group-lt128.true)) in
    rw c.from.ensures (ends_small l.value l.place l.counter c.in-Some.first.now c.in-Some.after.now c.args.bytes.now
    (omega (arith, l.invariant.most)) c.if-group-lt128.true (omega (arith, h, l.invariant.low, small)) read)

pub overflow_mul-value : goal.overflow_mul-value
overflow_mul-value c =
    let small = place_small c.groups.place c.groups.counter c.groups.invariant.place c.groups-test.true in
    let h = times_small c.groups.place c.from-in-groups.result small (omega arith) in
    omega arith

pub overflow_add-value : goal.overflow_add-value
overflow_add-value c =
    let small = place_small c.groups.place c.groups.counter c.groups.invariant.place c.groups-test.true in
    let h = times_small c.groups.place c.from-in-groups.result small (omega arith) in
    omega (arith, c.groups.invariant.low)

pub overflow_mul-place : goal.overflow_mul-place
overflow_mul-place c =
    let small = place_small c.groups.place c.groups.counter c.groups.invariant.place c.groups-test.true in
    omega arith

pub groups-preserved : goal.groups-preserved
groups-preserved c =
    let l = c.groups in
    let read = rw c.in-Some.ensures.cases.0 at l.invariant.read in
    let on = goes_on l.value l.place l.counter c.in-Some.first.now c.in-Some.after.now (groups_at 10 c.args.bytes.now)
    (omega (arith, l.invariant.most)) c.if-group-lt128.false read in
    record {
      read = rw c.from-in-groups.ensures on;
      place = place_grows l.place l.counter l.invariant.place;
      low = low_stays l.value l.place c.from-in-groups.result l.invariant.low (omega arith);
      most = omega (arith, c.groups-test.true);
    }

-- ---- the tenth group

pub returns-in_default-split_first : goal.returns-in_default-split_first
returns-in_default-split_first c =
    let l = c.groups in
    let none : l.rest.now ≡ [] = nil_from_length _ c.in_default-split_first.ensures.cases in
    ends_short l.value l.place l.counter c.args.bytes.now (omega (arith, l.invariant.most))
    (rw none at l.invariant.read)

pub returns-then-last-gt1 : goal.returns-then-last-gt1
returns-then-last-gt1 c =
    let l = c.groups in
    let read = rw c.in-Some-split_first.ensures.cases.0 at l.invariant.read in
    ends_large l.value l.place l.counter c.in-Some-split_first.last.now c.in-Some-split_first.after.now c.args.bytes.now
    (omega (arith, l.invariant.most, c.groups-test.false)) l.invariant.place (omega (arith, c.if-last-gt1.true))
    read

pub returns : goal.returns
returns c =
    let l = c.groups in
    let last = c.in-Some-split_first.last.now in
    let read = rw c.in-Some-split_first.ensures.cases.0 at l.invariant.read in
    let full : l.place ≡ 2 ^ 63 = tenth_place l.place l.counter (omega (arith, l.invariant.most, c.groups-test.false))
    l.invariant.place in
    let small = times_one l.place last (omega (arith, c.if-last-gt1.false)) in
    let found = ends_small l.value l.place l.counter last c.in-Some-split_first.after.now c.args.bytes.now
    (omega (arith, l.invariant.most)) (omega (arith, c.if-last-gt1.false))
    (omega (arith, full, small, l.invariant.low)) read in
    rw c.from-2.ensures (found ∙ ap (λ (p : ℕ). Ok (l.value + p * last, c.in-Some-split_first.after.now)) full)
