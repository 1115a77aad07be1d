use Rattle.std.proofs.Common.{length, sym, ap, ◌∙◌, subst, arith}
use Rattle.path_arena.specs.Arena.{hashed, Distinct}
use Rattle.path_arena.specs.Trees.{hashes_of, LieOnWalks}
use Rattle.path_arena.proofs.Walks.{walks_same}
use Rattle.path_arena.proofs.arena.Arena.copy.Goals as goal

pub invariant_of-result : goal.invariant_of-result
invariant_of-result c =
    let s = c.self.inside in let w = c.self.invariant in let strings = c.in_ok-copy.ensures in
    let links = c.in_ok-copy-2.ensures in let t = c.in_ok-copy-2.field-0 in
    record {
      hashes = ap hashes_of links.1 ∙ w.hashes ∙ sym (ap hashed strings);
      walks = subst (LieOnWalks t) (sym strings) (walks_same s.index t s.strings.strings links.0 links.1 w.walks);
      distinct = subst Distinct (sym strings) w.distinct;
      few = omega (arith, ap length strings, w.few);
    }
