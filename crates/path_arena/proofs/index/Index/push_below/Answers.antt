use Rattle.std.proofs.Common.{◌≡◌, ◌+◌, ◌<◌, ◌++◌, ◌∷◌, [], length, vec_len, vec_capacity, slice_index_or, set, not}
use Rattle.std.proofs.Common.{refl, sym, ap, ◌∙◌, subst, arith}
use Rattle.std.proofs.lemmas.List.{get_or_default}
use Rattle.path_arena.specs.declared.index.Node.{Node}
use Rattle.path_arena.specs.Trees.{Trees, no_node, hashes_of, side, top_link, link_below, IsIndex}
use Rattle.path_arena.proofs.Walks.{below_index, below_keeps, below_led, below_hashes, room_is}
use Rattle.path_arena.proofs.Kept.{pushed}
use Rattle.path_arena.proofs.index.Index.push_below.Goals as goal

pub invariant_of-self : goal.invariant_of-self
invariant_of-self c =
    let s = c.self.inside in let ns = s.nodes.items in let id = c.args.id in let m = c.leading.result in
    let count : length ns ≡ length c.args.self.now.nodes = ap (λ (t : Trees). length t.nodes) c.self.view_is in
    let lt : id < length ns = omega (arith, c.requires.empty.0, count) in
    let at : slice_index_or ns id no_node ≡ c.index.result.now =
    get_or_default ns id no_node c.index.result.now lt ∙ sym c.index.ensures in
    let other : side (not c.args.right) m ≡ side (not c.args.right) (slice_index_or ns id no_node) =
    c.leading.ensures.other ∙ ap (side (not c.args.right)) (sym at) in
    let n : Node = record { hash = c.args.hash; left = 0; right = 0 } in
    let room = room_is (vec_len s.tops) _ _ (ap (λ (t : Trees). t.ids) c.self.view_is) c.requires.room.0 in
    let within : vec_len s.nodes < vec_capacity s.nodes = omega (arith, c.requires.room.0, room.1) in
    let all : c.push-done.new.self.items ≡ set ns id m ++ n ∷ [] =
    pushed c.push-done.result _ _ _ (c.push-done.ensures.succeeds within) c.push-done.ensures.items in
    let last : c.len.result + 1 ≡ length ns + 1 = omega (arith, c.len.ensures, s.nodes.ok.0) in
    subst (IsIndex s.tops.items) (sym all)
    (below_index s.tops.items ns id c.args.right m n
    (c.len.result + 1) lt c.leading.ensures.side other refl refl last c.self.invariant)

pub returns-clause-hashes : goal.returns-clause-hashes
returns-clause-hashes c =
    let s = c.self.inside in let ns = s.nodes.items in let id = c.args.id in let m = c.leading.result in
    let count : length ns ≡ length c.args.self.now.nodes = ap (λ (t : Trees). length t.nodes) c.self.view_is in
    let lt : id < length ns = omega (arith, c.requires.empty.0, count) in
    let at : slice_index_or ns id no_node ≡ c.index.result.now =
    get_or_default ns id no_node c.index.result.now lt ∙ sym c.index.ensures in
    let other : side (not c.args.right) m ≡ side (not c.args.right) (slice_index_or ns id no_node) =
    c.leading.ensures.other ∙ ap (side (not c.args.right)) (sym at) in
    let n : Node = record { hash = c.args.hash; left = 0; right = 0 } in
    let room = room_is (vec_len s.tops) _ _ (ap (λ (t : Trees). t.ids) c.self.view_is) c.requires.room.0 in
    let within : vec_len s.nodes < vec_capacity s.nodes = omega (arith, c.requires.room.0, room.1) in
    let all : c.push-done.new.self.items ≡ set ns id m ++ n ∷ [] =
    pushed c.push-done.result _ _ _ (c.push-done.ensures.succeeds within) c.push-done.ensures.items in
    ap hashes_of all
    ∙ below_hashes s.tops.items ns id c.args.right m n (c.len.result + 1) lt c.leading.ensures.side other refl refl
    (c.leading.ensures.hash ∙ ap (λ (k : Node). k.hash) (sym at))
    ∙ ap (λ (t : Trees). hashes_of t.nodes ++ c.args.hash ∷ []) c.self.view_is

pub returns-clause-kept : goal.returns-clause-kept
returns-clause-kept c =
    let s = c.self.inside in let ns = s.nodes.items in let id = c.args.id in let m = c.leading.result in
    let count : length ns ≡ length c.args.self.now.nodes = ap (λ (t : Trees). length t.nodes) c.self.view_is in
    let lt : id < length ns = omega (arith, c.requires.empty.0, count) in
    let at : slice_index_or ns id no_node ≡ c.index.result.now =
    get_or_default ns id no_node c.index.result.now lt ∙ sym c.index.ensures in
    let other : side (not c.args.right) m ≡ side (not c.args.right) (slice_index_or ns id no_node) =
    c.leading.ensures.other ∙ ap (side (not c.args.right)) (sym at) in
    let n : Node = record { hash = c.args.hash; left = 0; right = 0 } in
    let room = room_is (vec_len s.tops) _ _ (ap (λ (t : Trees). t.ids) c.self.view_is) c.requires.room.0 in
    let within : vec_len s.nodes < vec_capacity s.nodes = omega (arith, c.requires.room.0, room.1) in
    let all : c.push-done.new.self.items ≡ set ns id m ++ n ∷ [] =
    pushed c.push-done.result _ _ _ (c.push-done.ensures.succeeds within) c.push-done.ensures.items in
    let t = c.args.self.now in
    let old : ns ≡ t.nodes = ap (λ (t : Trees). t.nodes) c.self.view_is in
    let empty : side c.args.right (slice_index_or ns id no_node) ≡ 0 =
    ap (λ l. side c.args.right (slice_index_or l id no_node)) old ∙ c.requires.empty.1 in
    record {
      tops = λ hash more. ap (λ (t : Trees). top_link t hash) c.self.view_is;
      below = λ i r more.
          let was : side r (slice_index_or ns i no_node) ≡ link_below t i r =
          ap (λ l. side r (slice_index_or l i no_node)) old in
          ap (λ l. side r (slice_index_or l i no_node)) all
          ∙ below_keeps s.tops.items ns id c.args.right m n (c.len.result + 1) lt c.leading.ensures.side other refl refl
          i r empty (omega (arith, more, was)) ∙ was;
    }

pub returns-clause-led : goal.returns-clause-led
returns-clause-led c =
    let s = c.self.inside in let ns = s.nodes.items in let id = c.args.id in let m = c.leading.result in
    let count : length ns ≡ length c.args.self.now.nodes = ap (λ (t : Trees). length t.nodes) c.self.view_is in
    let lt : id < length ns = omega (arith, c.requires.empty.0, count) in
    let at : slice_index_or ns id no_node ≡ c.index.result.now =
    get_or_default ns id no_node c.index.result.now lt ∙ sym c.index.ensures in
    let other : side (not c.args.right) m ≡ side (not c.args.right) (slice_index_or ns id no_node) =
    c.leading.ensures.other ∙ ap (side (not c.args.right)) (sym at) in
    let n : Node = record { hash = c.args.hash; left = 0; right = 0 } in
    let room = room_is (vec_len s.tops) _ _ (ap (λ (t : Trees). t.ids) c.self.view_is) c.requires.room.0 in
    let within : vec_len s.nodes < vec_capacity s.nodes = omega (arith, c.requires.room.0, room.1) in
    let all : c.push-done.new.self.items ≡ set ns id m ++ n ∷ [] =
    pushed c.push-done.result _ _ _ (c.push-done.ensures.succeeds within) c.push-done.ensures.items in
    let last : c.len.result + 1 ≡ length ns + 1 = omega (arith, c.len.ensures, s.nodes.ok.0) in
    ap (λ l. side c.args.right (slice_index_or l id no_node)) all
    ∙ below_led s.tops.items ns id c.args.right m n (c.len.result + 1) lt c.leading.ensures.side other refl refl
    ∙ omega (arith, last, count)
