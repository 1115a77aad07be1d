use Rattle.std.proofs.Common.{rules, w32}
use mir.Val.{SFits}
use Rattle.std.proofs.lemmas.Int.{to_z-of_z}
use Rattle.icescan_json.specs.Texts.{file_partition}
use Rattle.icescan_print.proofs.Sends.{sent_less, sent_more}
use Rattle.icescan_json.proofs.files.put_file_partition.Goals as goal

pub returns-in_err-put_named_int : goal.returns-in_err-put_named_int
unfolding file_partition
returns-in_err-put_named_int g c =
    let f : SFits w32 c.spec_id.result = search rules in
    let spec = rw c.spec_id.ensures at (simp to_z-of_z at c.in_err-put_named_int.ensures) in
    sent_less _ _ _ _ _ _ _ _ _ _ _ c.from_residual.ensures.0 spec

pub returns-in_err-put : goal.returns-in_err-put
unfolding file_partition
returns-in_err-put g c =
    let f : SFits w32 c.spec_id.result = search rules in
    let spec = rw c.spec_id.ensures at (simp to_z-of_z at c.in_ok-put_named_int.ensures) in
    sent_more _ _ _ _ _ _ _ _ _ _ _ _ spec (sent_less _ _ _ _ _ _ _ _ _ _ _ c.from_residual-in_err-put.ensures.0
    c.in_err-put.ensures)

pub returns-in_err-put_cells : goal.returns-in_err-put_cells
unfolding file_partition
returns-in_err-put_cells g c =
    let f : SFits w32 c.spec_id.result = search rules in
    let spec = rw c.spec_id.ensures at (simp to_z-of_z at c.in_ok-put_named_int.ensures) in
    let h : SFits w32 c.spec_id-2.result = search rules in
    let types = simp to_z-of_z at c.types_of.ensures in
    let cells = rw (types, c.spec_id-2.ensures, c.tuple.ensures) at c.in_err-put_cells.ensures in
    sent_more _ _ _ _ _ _ _ _ _ _ _ _ spec (sent_more _ _ _ _ _ _ _ _ _ _ _ _ c.in_ok-put.ensures
    (sent_less _ _ _ _ _ _ _ _ _ _ _ c.from_residual-in_err-put_cells.ensures.0 cells))

pub returns : goal.returns
unfolding file_partition
returns g c =
    let f : SFits w32 c.spec_id.result = search rules in
    let spec = rw c.spec_id.ensures at (simp to_z-of_z at c.in_ok-put_named_int.ensures) in
    let h : SFits w32 c.spec_id-2.result = search rules in
    let types = simp to_z-of_z at c.types_of.ensures in
    let cells = rw (types, c.spec_id-2.ensures, c.tuple.ensures) at c.in_ok-put_cells.ensures in
    sent_more _ _ _ _ _ _ _ _ _ _ _ _ spec (sent_more _ _ _ _ _ _ _ _ _ _ _ _ c.in_ok-put.ensures
    (sent_more _ _ _ _ _ _ _ _ _ _ _ _ cells c.put-2.ensures))
