use Rattle.std.proofs.Common.{true, false, length, ap, arith}
use Rattle.path_arena.specs.Trees.{Trees}
use Rattle.path_arena.proofs.Walks.{node_read}
use Rattle.path_arena.proofs.index.Index.below.Goals as goal

pub index-node-requires : goal.index-node-requires
index-node-requires c = omega
    (arith, c.requires, ap (λ (t : Trees). length t.nodes) c.self.view_is, c.self.inside.nodes.ok.0)

pub returns-then-right-clause-within : goal.returns-then-right-clause-within
returns-then-right-clause-within c =
    let s = c.self.inside in let count = ap (λ (t : Trees). length t.nodes) c.self.view_is in
    omega (
      arith,
      count,
      (node_read s.tops.items s.nodes.items c.args.id c.index-node.result.now true (omega (
        arith,
        c.requires,
        count,
      )) c.index-node.ensures c.self.invariant).0,
    )

pub returns-then-right-clause-later : goal.returns-then-right-clause-later
returns-then-right-clause-later c =
    let s = c.self.inside in let count = ap (λ (t : Trees). length t.nodes) c.self.view_is in
    (node_read s.tops.items s.nodes.items c.args.id c.index-node.result.now true (omega (
      arith,
      c.requires,
      count,
    )) c.index-node.ensures c.self.invariant).1

pub returns-clause-within : goal.returns-clause-within
returns-clause-within c =
    let s = c.self.inside in let count = ap (λ (t : Trees). length t.nodes) c.self.view_is in
    omega (
      arith,
      count,
      (node_read s.tops.items s.nodes.items c.args.id c.index-node.result.now false (omega (
        arith,
        c.requires,
        count,
      )) c.index-node.ensures c.self.invariant).0,
    )

pub returns-clause-later : goal.returns-clause-later
returns-clause-later c =
    let s = c.self.inside in let count = ap (λ (t : Trees). length t.nodes) c.self.view_is in
    (node_read s.tops.items s.nodes.items c.args.id c.index-node.result.now false (omega (
      arith,
      c.requires,
      count,
    )) c.index-node.ensures c.self.invariant).1
