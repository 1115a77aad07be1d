use Rattle.std.proofs.Common.{◌∙◌, ◌≡◌, sym, true, false, ap, length}
use Rattle.ice_state.proofs.Contents.{took-in_world, length-took}
use Rattle.ice_state.proofs.Taking.{taken_stays}
use Rattle.ice_state.proofs.partial.Partial.take_after.Goals as goal

pub returns-then-is_taken-clause-ok : goal.returns-then-is_taken-clause-ok
returns-then-is_taken-clause-ok c =
    taken_stays c.args.scan.now c.args.self.now c.args.scan.now.wanted c.args.i c.args.bytes.now
    (sym c.is_taken.ensures ∙ c.if-is_taken.true)

pub returns-then-is_taken-clause-world : goal.returns-then-is_taken-clause-world
returns-then-is_taken-clause-world c = λ world ts is has. took-in_world world c.args.scan.now ts _ _ _ _
    (returns-then-is_taken-clause-ok c) is has

pub take_new-requires : goal.take_new-requires
take_new-requires c = record {
  of_scan = c.requires.of_scan;
  row = c.requires.row;
  new = sym c.is_taken.ensures ∙ c.if-is_taken.false;
}

pub returns-in_err-take_new-clause-again : goal.returns-in_err-take_new-clause-again
returns-in_err-take_new-clause-again c = λ h.
    let no_more : true ≡ false = sym h ∙ sym c.is_taken.ensures ∙ c.if-is_taken.false in
    absurd cc

pub returns-clause-still : goal.returns-clause-still
returns-clause-still c = λ h.
    let no_more : true ≡ false = sym h ∙ sym c.is_taken.ensures ∙ c.if-is_taken.false in
    absurd cc

pub returns-clause-world : goal.returns-clause-world
returns-clause-world c = λ
    world ts is has. took-in_world world c.args.scan.now ts _ _ _ _ c.in_ok-take_new.ensures.ok is
    has

pub returns-clause-of_scan : goal.returns-clause-of_scan
returns-clause-of_scan c = ap length c.in_ok-take_new.ensures.ok
    ∙ length-took c.args.scan.now _ _ c.args.i c.args.bytes.now ∙ c.requires.of_scan
