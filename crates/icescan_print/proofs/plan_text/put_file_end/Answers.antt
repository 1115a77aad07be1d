use Rattle.std.proofs.Common.{◌≡◌, ◌-◌, arith, drop, length, rules, w32, w64}
use mir.Val.{SFits}
use Rattle.std.proofs.lemmas.Int.{to_z-of_z}
use Rattle.std.proofs.lemmas.List.{length-drop, take_all}
use Rattle.icescan_print.proofs.plan_text.put_file_end.Goals as goal

pub returns : goal.returns
returns g c =
    let f : SFits w32 c.spec_id.result = search rules in
    let h : SFits w64 c.record_count.result = search rules in
    let k : SFits w64 c.file_size.result = search rules in
    let size = rw c.file_size.ensures at (simp to_z-of_z at c.put_long_before-start.ensures.text) in
    let rows = rw c.record_count.ensures at (simp to_z-of_z at c.put_long_before-start-2.ensures.text) in
    let spec = rw c.spec_id.ensures at (simp to_z-of_z at c.put_int_before-start.ensures.text) in
    let seq = rw (c.get.ensures.same, c.sequence_number.ensures) at c.put_number_before-start.ensures.text in
    let full : length c.put_long_before-start.new.bytes ≡ 112 = search rules in
    let last = c.put_number_before-start in
    let whole = take_all (112 - last.result) (drop last.result last.new.bytes) (omega (
      arith,
      length-drop last.result last.new.bytes,
      last.auto.bytes,
      c.put_int_before-start.auto.bytes,
      c.put_long_before-start-2.auto.bytes,
      full,
    )) in
    rw (whole, seq, spec, rows, size) at c.put.ensures
