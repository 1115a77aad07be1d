use Rattle.std.proofs.Common.{◌≡◌, ◌∙◌, ◌++◌, List, ℕ, ap, arith, length, subst, sym}
use Rattle.std.proofs.lemmas.Grind.{common_steps}
use Rattle.std.specs.List.{range_with_len}
use Rattle.ice_deletes.specs.Unions.{AreBelow}
use Rattle.ice_state.specs.declared.kept.indexed.IndexedDeletes.{IndexedDeletes}
use Rattle.ice_state.specs.declared.kept.segments.FileNumber.{FileNumber}
use Rattle.ice_state.proofs.DeletesKept.{index_with}
use Rattle.ice_state.proofs.JoinedIndexes.{agree, many, numbers_differ}
use Rattle.ice_state.proofs.kept.indexed.IndexedDeletes.joined.Goals as goal
use Rattle.ice_state.proofs.kept.indexed.IndexedDeletes.joined.Goals.{After-deref}

-- the numbers go on behind those that are there
numbers : (c : After-deref) → c.deref.result.now
    ≡ range_with_len (length c.args.self.files.items) (length c.args.other.now.files.items)
numbers c =
    let first : c.len.result ≡ length c.args.self.files.items = grind (arith, common_steps) in
    let others : c.len-2.result ≡ length c.args.other.now.files.items = grind (arith, common_steps) in
    c.deref.ensures.value ∙ c.in_ok-to.ensures ∙ (λ i. range_with_len (first i) (others i))

pub merge-requires : goal.merge-requires
merge-requires c =
    let other = c.args.other.now in
    let m = length c.args.self.files.items in
    let n = length other.files.items in
    let to = c.deref.result.now in
    let are = numbers (goal.at.merge-requires c).After-deref in
    record {
      below = subst (λ (k : ℕ). AreBelow k other.index) (sym (many m n to are)) c.requires.others;
      once = numbers_differ m n to are;
      agree = agree m n to are c.args.self.index other.index c.requires.places c.requires.others;
    }

pub returns : goal.returns
returns c = λ kept xs ys mine its.
    let other = c.args.other.now in
    let both : IndexedDeletes = record { files = c.extend_from_slice.new.self; index = c.merge.new.self } in
    let are = numbers (goal.at.returns c).After-deref in
    let files : both.files.items ≡ c.args.self.files.items ++ other.files.items =
    c.in_ok-extend_from_slice.ensures.items
    ∙ ap (λ (ns : List FileNumber). c.args.self.files.items ++ ns) c.deref-2.ensures.value in
    index_with kept xs ys c.args.self other mine its both c.deref.result.now are files c.in_ok-merge.ensures.ok
