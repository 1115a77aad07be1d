use Rattle.std.proofs.Common.{length, ◌-◌, sym, ◌∙◌, arith}
use Rattle.std.proofs.lemmas.List.{drop_all}
use Rattle.ice_state_sections.proofs.ValuesAdded.{back_more}
use Rattle.ice_state_sections.proofs.value_writing.shared_back.Goals as goal

pub bytes-init : goal.bytes-init
bytes-init c = drop_all (length c.args.known.now - 0) c.args.known.now (omega arith)
    ∙ sym (drop_all (length c.args.path.now - 0) c.args.path.now (omega arith))

pub bytes-preserved : goal.bytes-preserved
bytes-preserved c = back_more c.args.known.now c.args.path.now c.bytes.index 0 (omega arith) (omega arith)
    c.bytes.invariant c.if-known-index.false
