use Rattle.std.proofs.Common.{◌≡◌, ◌∙◌, List, ap, arith, length, map, subst}
use Rattle.std.specs.List.Sorted.{IsPermutation}
use Rattle.std.proofs.lemmas.List.Sorted.{IsPermutation-refl}
use Rattle.ice_value.specs.Applying.{DeleteKey}
use Rattle.ice_deletes.specs.Found.{numbered_deletes}
use Rattle.ice_deletes.specs.Keys.{key_of as record_key}
use Rattle.ice_manifest_reading.specs.declared.entry.Entry.{Entry}
use Rattle.ice_state.specs.declared.kept.segments.FileNumber.{FileNumber}
use Rattle.ice_state.specs.Applying.{delete_key_of}
use Rattle.ice_state.specs.Segments.{entries_at}
use Rattle.ice_state.proofs.DeletesKept.{many_keys}
use Rattle.ice_state.proofs.JoinedIndexes.{indexed_below}
use Rattle.ice_state.proofs.kept.indexed.IndexedDeletes.build.Goals as goal
use Rattle.ice_state.proofs.kept.indexed.IndexedDeletes.build.Goals.{In_ok-index}

indexed : (c : In_ok-index) → IsPermutation (numbered_deletes (map delete_key_of
    (entries_at c.args.entries.now c.args.files.items))) c.in_ok-index.index
indexed c =
    let kept = c.args.entries.now in
    let files = c.args.files.items in
    let keys : map record_key c.deref-2.result.now ≡ map delete_key_of (entries_at kept files) =
    ap (map record_key) c.deref-2.ensures.value ∙ c.in_ok-records.ensures
    ∙ ap (λ (ns : List FileNumber). map delete_key_of (entries_at kept ns)) c.deref.ensures.value in
    subst (λ (ks : List DeleteKey). IsPermutation (numbered_deletes ks) c.in_ok-index.index) keys c.in_ok-index.ensures

pub returns-clause-places : goal.returns-clause-places
returns-clause-places c =
    let kept = c.args.entries.now in
    let files = c.args.files.items in
    let few = many_keys kept files in
    indexed_below (map delete_key_of (entries_at kept files)) c.in_ok-index.index (length files) (omega arith)
    (indexed (goal.at.returns-clause-places c).In_ok-index)

pub returns-clause-moved : goal.returns-clause-moved
returns-clause-moved c = λ xs moved.
    record {
      files = c.requires;
      all = moved;
      index = indexed (goal.at.returns-clause-moved c).In_ok-index;
    }

pub returns-clause-index : goal.returns-clause-index
returns-clause-index c = λ xs are.
    let kept = c.args.entries.now in
    let files = c.args.files.items in
    record {
      files = c.requires;
      all = subst (λ (es : List Entry). IsPermutation es (entries_at kept files)) are
          (IsPermutation-refl (entries_at kept files));
      index = indexed (goal.at.returns-clause-index c).In_ok-index;
    }
