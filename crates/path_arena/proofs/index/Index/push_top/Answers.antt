use Rattle.std.proofs.Common.{◌≡◌, ◌+◌, ◌<◌, ◌++◌, ◌∷◌, [], length, vec_len, vec_capacity, slice_index_or}
use Rattle.std.proofs.Common.{set, refl, sym, ap, ◌∙◌, subst, arith, length-set, get_or-set_same}
use Rattle.path_arena.specs.declared.index.Node.{Node}
use Rattle.path_arena.specs.Trees.{Trees, no_node, hashes_of, bucket, side, top_link, link_below, IsIndex}
use Rattle.path_arena.proofs.Walks.{push_none, hashes_push, top_index, top_keeps, room_is}
use Rattle.path_arena.proofs.Kept.{pushed}
use Rattle.path_arena.proofs.index.Index.push_top.Goals as goal

pub invariant_of-self : goal.invariant_of-self
invariant_of-self c =
    let s = c.self.inside in let tops = s.tops.items in let ns = s.nodes.items in
    let n : Node = record { hash = c.args.hash; left = 0; right = 0 } in
    let room = room_is (vec_len s.tops) _ _ (ap (λ (t : Trees). t.ids) c.self.view_is) c.requires.room.0 in
    let within : vec_len s.nodes < vec_capacity s.nodes = omega (arith, c.requires.room.0, room.1) in
    let all : c.push-done.new.self.items ≡ ns ++ n ∷ [] =
    pushed c.push-done.result _ _ _ (c.push-done.ensures.succeeds within) c.push-done.ensures.items in
    let buckets : c.len.result ≡ length tops = c.len.ensures ∙ s.tops.ok.0 in
    let b = c.bucket_of-bucket.result in
    let lt : b < length tops = omega (arith, c.bucket_of-bucket.ensures.within, buckets) in
    let last : c.len-2.result + 1 ≡ length ns + 1 = omega (arith, c.len-2.ensures, s.nodes.ok.0) in
    subst (IsIndex (set tops b (c.len-2.result + 1))) (sym all)
    (top_index tops ns b (c.len-2.result + 1) n lt refl refl last c.self.invariant)

pub returns-clause-hashes : goal.returns-clause-hashes
returns-clause-hashes c =
    let s = c.self.inside in let tops = s.tops.items in let ns = s.nodes.items in
    let n : Node = record { hash = c.args.hash; left = 0; right = 0 } in
    let room = room_is (vec_len s.tops) _ _ (ap (λ (t : Trees). t.ids) c.self.view_is) c.requires.room.0 in
    let within : vec_len s.nodes < vec_capacity s.nodes = omega (arith, c.requires.room.0, room.1) in
    let all : c.push-done.new.self.items ≡ ns ++ n ∷ [] =
    pushed c.push-done.result _ _ _ (c.push-done.ensures.succeeds within) c.push-done.ensures.items in
    ap hashes_of all ∙ hashes_push ns n ∙ ap (λ (t : Trees). hashes_of t.nodes ++ c.args.hash ∷ []) c.self.view_is

pub returns-clause-kept : goal.returns-clause-kept
returns-clause-kept c =
    let s = c.self.inside in let tops = s.tops.items in let ns = s.nodes.items in
    let n : Node = record { hash = c.args.hash; left = 0; right = 0 } in
    let room = room_is (vec_len s.tops) _ _ (ap (λ (t : Trees). t.ids) c.self.view_is) c.requires.room.0 in
    let within : vec_len s.nodes < vec_capacity s.nodes = omega (arith, c.requires.room.0, room.1) in
    let all : c.push-done.new.self.items ≡ ns ++ n ∷ [] =
    pushed c.push-done.result _ _ _ (c.push-done.ensures.succeeds within) c.push-done.ensures.items in
    let buckets : c.len.result ≡ length tops = c.len.ensures ∙ s.tops.ok.0 in
    let b = c.bucket_of-bucket.result in
    let lt : b < length tops = omega (arith, c.bucket_of-bucket.ensures.within, buckets) in
    let t = c.args.self.now in let tops' = set tops b (c.len-2.result + 1) in
    let old : tops ≡ t.tops = ap (λ (t : Trees). t.tops) c.self.view_is in
    let count : length tops' ≡ length tops = length-set tops b (c.len-2.result + 1) in
    let empty : slice_index_or tops b 0 ≡ 0 =
    ap (λ k. slice_index_or tops k 0) (c.bucket_of-bucket.ensures.bucket ∙ ap (λ k. bucket k c.args.hash) buckets)
    ∙ ap (λ l. slice_index_or l (bucket (length l) c.args.hash) 0) old ∙ c.requires.empty in
    record {
      tops = λ hash more.
          let was : slice_index_or tops (bucket (length tops) hash) 0 ≡ top_link t hash =
          ap (λ l. slice_index_or l (bucket (length l) hash) 0) old in
          ap (λ k. slice_index_or tops' (bucket k hash) 0) count
          ∙ top_keeps tops ns b (c.len-2.result + 1) n lt refl refl (bucket (length tops) hash)
          empty (omega (arith, more, was)) ∙ was;
      below = λ i r more.
          ap (λ l. side r (slice_index_or l i no_node)) all ∙ push_none r ns n i refl refl
          ∙ ap (λ (t : Trees). link_below t i r) c.self.view_is;
    }

pub returns-clause-led : goal.returns-clause-led
returns-clause-led c =
    let s = c.self.inside in let tops = s.tops.items in let ns = s.nodes.items in
    let n : Node = record { hash = c.args.hash; left = 0; right = 0 } in
    let room = room_is (vec_len s.tops) _ _ (ap (λ (t : Trees). t.ids) c.self.view_is) c.requires.room.0 in
    let within : vec_len s.nodes < vec_capacity s.nodes = omega (arith, c.requires.room.0, room.1) in
    let all : c.push-done.new.self.items ≡ ns ++ n ∷ [] =
    pushed c.push-done.result _ _ _ (c.push-done.ensures.succeeds within) c.push-done.ensures.items in
    let buckets : c.len.result ≡ length tops = c.len.ensures ∙ s.tops.ok.0 in
    let b = c.bucket_of-bucket.result in
    let lt : b < length tops = omega (arith, c.bucket_of-bucket.ensures.within, buckets) in
    let last : c.len-2.result + 1 ≡ length ns + 1 = omega (arith, c.len-2.ensures, s.nodes.ok.0) in
    let tops' = set tops b (c.len-2.result + 1) in
    let count : length tops' ≡ c.len.result = length-set tops b (c.len-2.result + 1) ∙ sym buckets in
    let old : length ns ≡ length c.args.self.now.nodes = ap (λ (t : Trees). length t.nodes) c.self.view_is in
    ap (λ k. slice_index_or tops' (bucket k c.args.hash) 0) count
    ∙ ap (λ k. slice_index_or tops' k 0) (sym c.bucket_of-bucket.ensures.bucket)
    ∙ get_or-set_same tops b (c.len-2.result + 1) 0 lt ∙ omega (arith, last, old)
