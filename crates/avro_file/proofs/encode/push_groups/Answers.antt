use Rattle.std.proofs.Common.{◌++◌, ap, sym, refl, ◌∙◌, ℕ, List, arith}
use Rattle.avro_file.proofs.Encoded.{groups_on, groups_end, ten_groups}
use Rattle.avro_file.proofs.encode.push_groups.Goals as goal

pub groups-init : goal.groups-init
groups-init c = (9, ten_groups c.args.number (omega arith), refl)

pub groups-preserved : goal.groups-preserved
groups-preserved c =
    let i = c.groups.invariant in
    let on = groups_on i.0 c.groups.rest c.groups.bytes.items _ (omega (arith, c.groups-test.true)) i.1 i.2 in
    (on.turns, on.fits, rw c.in_ok-push.ensures.items on.so_far)

pub returns : goal.returns
returns c =
    let i = c.groups.invariant in
    c.in_ok-push-2.ensures.items ∙ ap (λ (s : List ℕ). c.groups.bytes.items ++ s)
    (sym (groups_end i.0 c.groups.rest (omega (arith, c.groups-test.false)))) ∙ i.2
