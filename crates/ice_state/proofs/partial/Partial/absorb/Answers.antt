use Rattle.std.proofs.Common.{◌∙◌, ◌≡◌, ◌++◌, ap, sym, subst, arith, length, true, false, List, Option, IfSome}
use Rattle.ice_manifest_reading.specs.declared.entry.Entry.{Entry}
use Rattle.ice_state.specs.Contents.{Content}
use Rattle.ice_state.specs.Joins.{join, TookAllOf}
use Rattle.ice_state.specs.Segments.{AreBefore, Segmented}
use Rattle.ice_state.specs.Slots.{contents, HaveNumbers}
use Rattle.ice_state.proofs.SegmentLists.{keeps_firsts}
use Rattle.ice_state.proofs.Gains.{join-in_world, length-join, join-known}
use Rattle.ice_state.proofs.SlotContents.{contents-kept, length-contents}
use Rattle.std.specs.List.Sorted.{IsPermutation}
use Rattle.ice_state.specs.declared.kept.deletes.KeptDeletes.{KeptDeletes}
use Rattle.ice_state.specs.declared.kept.taken.Taken.{Taken}
use Rattle.ice_state.specs.KeptDeletes.{AreDeletes, AreDeletesOf, IsState}
use Rattle.ice_state.specs.Outcomes.{kept_in}
use Rattle.ice_state.specs.Parts.{gains}
use Rattle.ice_state.proofs.DeletesKept.{entries_joined, if_moved, if_some_of, state_kept}
use Rattle.ice_state.proofs.partial.Partial.absorb.Goals as goal
use Rattle.ice_state.proofs.partial.Partial.absorb.Goals.{In_ok-before}

pub returns-then-has_taken_all_of-clause-ok : goal.returns-then-has_taken_all_of-clause-ok
returns-then-has_taken_all_of-clause-ok c =
    let kept = c.self.inside.entries in
    let others = c.other.inside.entries in
    let all : TookAllOf (contents kept c.deref.result.now) (contents others c.deref-2.result.now) =
    (c.has_taken_all_of.ensures kept others).0 c.if-has_taken_all_of.true in
    let mine = subst (λ (s : Content). TookAllOf s (contents others c.deref-2.result.now))
    (ap (contents kept) c.deref.ensures.value ∙ c.self.view_is) all in
    let both = subst (λ (s : Content). TookAllOf c.args.self.now s)
    (ap (contents others) c.deref-2.ensures.value ∙ c.other.view_is) mine in
    sym (join-known c.args.self.now c.args.other c.requires both)

pub returns-then-has_taken_all_of-clause-world : goal.returns-then-has_taken_all_of-clause-world
returns-then-has_taken_all_of-clause-world c = λ world scan ts us is is'. join-in_world world scan ts us _ _ _
    (returns-then-has_taken_all_of-clause-ok c) is is'

pub returns-in_err-before-clause-known : goal.returns-in_err-before-clause-known
returns-in_err-before-clause-known c = λ all.
    let kept = c.self.inside.entries in
    let others = c.other.inside.entries in
    let mine = subst (λ (s : Content). TookAllOf s c.args.other)
    (sym (ap (contents kept) c.deref.ensures.value ∙ c.self.view_is)) all in
    let both = subst (λ (s : Content). TookAllOf (contents kept c.deref.result.now) s)
    (sym (ap (contents others) c.deref-2.ensures.value ∙ c.other.view_is)) mine in
    let no_more : true ≡ false = sym ((c.has_taken_all_of.ensures kept others).1 both) ∙ c.if-has_taken_all_of.false in
    absurd cc

pub put_behind-requires : goal.put_behind-requires
put_behind-requires c =
    omega (
      arith,
      c.requires,
      ap length c.self.view_is,
      ap length c.other.view_is,
      length-contents c.self.inside.entries c.self.inside.slots.items,
      length-contents c.other.inside.entries c.other.inside.slots.items,
    )

pub absorbed_deletes-absorbed-requires : goal.absorbed_deletes-absorbed-requires
absorbed_deletes-absorbed-requires c =
    let mine = c.self.inside.entries in
    let others = c.other.inside.entries in
    let slots = c.self.inside.slots.items in
    let other = c.other.inside.slots.items in
    let alike : length slots ≡ length other =
    sym (length-contents mine slots) ∙ ap length c.self.view_is ∙ c.requires ∙ sym (ap length c.other.view_is)
    ∙ length-contents others other in
    let Indexed = λ (ss : List (Option Taken)). IfSome c.other.inside.deletes (AreDeletesOf others
    (kept_in (contents others ss))) in
    record {
      same =
          ap (λ (ss : List (Option Taken)). length ss) c.deref-3.ensures.value ∙ alike
          ∙ sym (ap (λ (ss : List (Option Taken)). length ss) c.deref-4.ensures.value);
      numbers = subst (HaveNumbers others) (sym c.deref-4.ensures.value) c.other.invariant.numbers;
      deletes = subst Indexed (sym c.deref-4.ensures.value) c.other.invariant.all_deletes;
    }

-- the segments of both, and the other's delete files behind
are : (c : In_ok-before) → AreBefore c.in_ok-before.before c.self.inside.entries c.other.inside.entries
are c = record { counted = c.in_ok-before.ensures.before; few = c.in_ok-before.ensures.few }

pub with_absorbed-requires : goal.with_absorbed-requires
with_absorbed-requires c =
    let mine = c.self.inside.entries in
    let others = c.other.inside.entries in
    let slots = c.self.inside.slots.items in
    let gained = kept_in (gains (contents mine c.deref-3.result.now) (contents others c.deref-4.result.now)) in
    let Are = λ (es : Segmented) (d : Option KeptDeletes). IfSome d (AreDeletes es) in
    let all = sym c.in_ok-before.ensures.ok in
    let state = state_kept mine (mine ++ others) slots c.self.inside.deletes
    (keeps_firsts mine others) c.self.invariant in
    let behind = c.absorbed_behind.ensures mine others gained (are (goal.at.with_absorbed-requires c).In_ok-before)
    (c.absorbed_deletes-absorbed.ensures mine) in
    record {
      deletes =
          subst (λ (es : Segmented). Are es c.take.result) all
          (subst (Are (mine ++ others)) (sym c.take.ensures.value)
          (if_some_of (mine ++ others)
          (kept_in (contents (mine ++ others) slots)) c.self.inside.deletes state.all_deletes));
      absorbed =
          subst (λ (es : Segmented). Are es c.absorbed_behind.result) all
          (if_some_of (mine ++ others) gained c.absorbed_behind.result behind);
    }

pub invariant_of-self-2 : goal.invariant_of-self-2
invariant_of-self-2 c =
    let kept = c.self.inside.entries in
    let others = c.other.inside.entries in
    let all = kept ++ others in
    let slots = c.self.inside.slots.items in
    let other = c.other.inside.slots.items in
    let before_own = are (goal.at.invariant_of-self-2 c).In_ok-before in
    let before = contents all slots in
    let gained = contents others other in
    let state = state_kept kept all slots c.self.inside.deletes (keeps_firsts kept others) c.self.invariant in
    let was : IfSome c.take.result (AreDeletesOf all (kept_in before)) =
    subst (λ (d : Option KeptDeletes). IfSome d (AreDeletesOf all (kept_in before))) (sym c.take.ensures.value)
    state.all_deletes in
    let alike : length before ≡ length gained =
    length-contents all slots ∙ sym (length-contents kept slots) ∙ ap length c.self.view_is ∙ c.requires
    ∙ sym (ap length c.other.view_is) in
    let same = entries_joined before gained alike in
    let More = λ (cs ds : Content). IfSome c.absorbed_deletes-absorbed.result
    (AreDeletesOf others (kept_in (gains cs ds))) in
    let more : More before gained =
    subst (λ (ss : List (Option Taken)). More (contents all ss) gained) c.deref-3.ensures.value
    (subst (λ (ss : List (Option Taken)). More (contents all c.deref-3.result.now) (contents others ss))
    c.deref-4.ensures.value (c.absorbed_deletes-absorbed.ensures all)) in
    let behind = c.absorbed_behind.ensures kept others (kept_in (gains before gained)) before_own more in
    let With = λ (es : Segmented). (xs ys : List Entry) → IfSome c.take.result (AreDeletesOf es xs)
    → IfSome c.absorbed_behind.result (AreDeletesOf es ys)
    → IfSome c.with_absorbed.result (AreDeletesOf es (xs ++ ys)) in
    let joined = subst With c.in_ok-before.ensures.ok c.with_absorbed.ensures (kept_in before)
    (kept_in (gains before gained))
    was behind in
    let moved = subst (λ (cs : Content). IsPermutation (kept_in before ++ kept_in (gains before gained)) (kept_in cs))
    (sym (c.put_behind.ensures.rows kept others before_own c.other.invariant.numbers)) same in
    subst (λ (es : Segmented). IsState es c.put_behind.new.slots.items c.with_absorbed.result)
    (sym c.in_ok-before.ensures.ok) (record {
      numbers = c.put_behind.ensures.numbers kept others before_own c.other.invariant.numbers state.numbers;
      all_deletes = if_moved all (kept_in before ++ kept_in (gains before gained))
          (kept_in (contents all c.put_behind.new.slots.items)) c.with_absorbed.result moved joined;
    })

pub returns-clause-still : goal.returns-clause-still
returns-clause-still c = λ all.
    let kept = c.self.inside.entries in
    let others = c.other.inside.entries in
    let mine = subst (λ (s : Content). TookAllOf s c.args.other)
    (sym (ap (contents kept) c.deref.ensures.value ∙ c.self.view_is)) all in
    let both = subst (λ (s : Content). TookAllOf (contents kept c.deref.result.now) s)
    (sym (ap (contents others) c.deref-2.ensures.value ∙ c.other.view_is)) mine in
    let no_more : true ≡ false = sym ((c.has_taken_all_of.ensures kept others).1 both) ∙ c.if-has_taken_all_of.false in
    absurd cc

pub returns-clause-ok : goal.returns-clause-ok
returns-clause-ok c =
    let kept = c.self.inside.entries in
    let others = c.other.inside.entries in
    let all = kept ++ others in
    let are : AreBefore c.in_ok-before.before kept others =
    record { counted = c.in_ok-before.ensures.before; few = c.in_ok-before.ensures.few } in
    ap (λ (k : Segmented). contents k c.put_behind.new.slots.items) c.in_ok-before.ensures.ok
    ∙ c.put_behind.ensures.rows kept others are c.other.invariant.numbers
    ∙ ap (λ (s : Content). join s (contents others c.other.inside.slots.items))
    (contents-kept kept all (keeps_firsts kept others) c.self.inside.slots.items c.self.invariant.numbers
    ∙ c.self.view_is)
    ∙ ap (join c.args.self.now) c.other.view_is

pub returns-clause-of_scan : goal.returns-clause-of_scan
returns-clause-of_scan c = λ scan of. ap length (returns-clause-ok c) ∙ length-join _ _ c.requires ∙ of

pub returns-clause-world : goal.returns-clause-world
returns-clause-world c = λ world scan ts us is is'. join-in_world world scan ts us _ _ _ (returns-clause-ok c) is is'
