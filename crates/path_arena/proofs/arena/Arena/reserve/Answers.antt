use Rattle.std.proofs.Common.{length, sym, ap, ◌∙◌, subst, arith}
use Rattle.path_arena.specs.Arena.{hashed, Distinct}
use Rattle.path_arena.specs.Trees.{LieOnWalks}
use Rattle.path_arena.proofs.Interned.{length-hashed}
use Rattle.path_arena.proofs.Walks.{length-hashes}
use Rattle.path_arena.proofs.arena.Arena.reserve.Goals as goal

pub reserve-requires-clause-few : goal.reserve-requires-clause-few
reserve-requires-clause-few c = let s = c.self.inside in
    omega (
      arith,
      ap length c.self.invariant.hashes,
      length-hashes s.index.nodes,
      length-hashed s.strings.strings,
      c.self.invariant.few,
    )

pub invariant_of-self-in_err-reserve-2 : goal.invariant_of-self-in_err-reserve-2
invariant_of-self-in_err-reserve-2 c =
    let w = c.self.invariant in let p = c.reserve.ensures in let strings = c.reserve-2.ensures.strings in
    record {
      hashes = p.hashes ∙ w.hashes ∙ sym (ap hashed strings);
      walks = subst (LieOnWalks c.reserve.new.self) (sym strings) (p.walks w.walks);
      distinct = subst Distinct (sym strings) w.distinct;
      few = omega (arith, ap length strings, w.few);
    }

pub invariant_of-self-2 : goal.invariant_of-self-2
invariant_of-self-2 c =
    let w = c.self.invariant in let p = c.reserve.ensures in let strings = c.reserve-2.ensures.strings in
    record {
      hashes = p.hashes ∙ w.hashes ∙ sym (ap hashed strings);
      walks = subst (LieOnWalks c.reserve.new.self) (sym strings) (p.walks w.walks);
      distinct = subst Distinct (sym strings) w.distinct;
      few = omega (arith, ap length strings, w.few);
    }
