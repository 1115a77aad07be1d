use Rattle.std.proofs.Common.{◌∙◌, ◌≡◌, ◌≤◌, ◌++◌, ap, sym, subst, arith, length, true, false, List, Option, IfSome}
use Rattle.std.proofs.lemmas.Result.{err_from_is_err_and}
use Rattle.ice_state.specs.Contents.{Content}
use Rattle.ice_state.specs.Joins.{join, TookAllOf}
use Rattle.ice_state.specs.Parts.{gains}
use Rattle.ice_state.specs.Slots.{contents, HaveNumbers}
use Rattle.ice_state.proofs.Gains.{join-gains, join-in_world, length-gains, length-gains_same, length-join, join-known}
use Rattle.ice_state.proofs.SlotContents.{contents-kept, length-contents}
use Rattle.ice_state.proofs.DeletesKept.{entries_joined, if_moved, if_some_of, state_kept}
use Rattle.std.specs.List.Sorted.{IsPermutation}
use Rattle.ice_state.specs.declared.kept.deletes.KeptDeletes.{KeptDeletes}
use Rattle.ice_state.specs.declared.kept.taken.Taken.{Taken}
use Rattle.ice_state.specs.KeptDeletes.{AreDeletes, AreDeletesOf}
use Rattle.ice_state.specs.Outcomes.{kept_in}
use Rattle.ice_state.proofs.partial.Partial.merge.Goals as goal

pub returns-then-has_taken_all_of-clause-ok : goal.returns-then-has_taken_all_of-clause-ok
returns-then-has_taken_all_of-clause-ok c =
    let kept = c.self.inside.entries in
    let others = c.other.inside.entries in
    let all : TookAllOf (contents kept c.deref.result.now) (contents others c.deref-2.result.now) =
    (c.has_taken_all_of.ensures kept others).0 c.if-has_taken_all_of.true in
    let mine = subst (λ (s : Content). TookAllOf s (contents others c.deref-2.result.now))
    (ap (contents kept) c.deref.ensures.value ∙ c.self.view_is) all in
    let both = subst (λ (s : Content). TookAllOf c.args.self.now s)
    (ap (contents others) c.deref-2.ensures.value ∙ c.other.view_is) mine in
    sym (join-known c.args.self.now c.args.other.now c.requires both)

pub returns-then-has_taken_all_of-clause-world : goal.returns-then-has_taken_all_of-clause-world
returns-then-has_taken_all_of-clause-world c = λ world scan ts us is is'. join-in_world world scan ts us _ _ _
    (returns-then-has_taken_all_of-clause-ok c) is is'

pub invariant_of-self : goal.invariant_of-self
invariant_of-self c = state_kept c.self.inside.entries c.gained.new.entries c.self.inside.slots.items
    c.self.inside.deletes c.gained.ensures.keeps c.self.invariant

pub returns-in_err-gained-clause-known : goal.returns-in_err-gained-clause-known
returns-in_err-gained-clause-known c = λ all.
    let kept = c.self.inside.entries in
    let others = c.other.inside.entries in
    let mine = subst (λ (s : Content). TookAllOf s c.args.other.now)
    (sym (ap (contents kept) c.deref.ensures.value ∙ c.self.view_is)) all in
    let both = subst (λ (s : Content). TookAllOf (contents kept c.deref.result.now) s)
    (sym (ap (contents others) c.deref-2.ensures.value ∙ c.other.view_is)) mine in
    let no_more : true ≡ false = sym ((c.has_taken_all_of.ensures kept others).1 both) ∙ c.if-has_taken_all_of.false in
    absurd cc

pub returns-in_err-gained-clause-still : goal.returns-in_err-gained-clause-still
returns-in_err-gained-clause-still c = λ h.
    contents-kept c.self.inside.entries c.gained.new.entries c.gained.ensures.keeps
    c.self.inside.slots.items c.self.invariant.numbers ∙ c.self.view_is

pub returns-in_err-gained-clause-err : goal.returns-in_err-gained-clause-err
returns-in_err-gained-clause-err c =
    let p = err_from_is_err_and c.from_residual.result c.from_residual.ensures.1 in
    rw p.1 (contents-kept c.self.inside.entries c.gained.new.entries c.gained.ensures.keeps
    c.self.inside.slots.items c.self.invariant.numbers ∙ c.self.view_is)

pub put_all-requires : goal.put_all-requires
put_all-requires c =
    let kept = c.self.inside.entries in
    let others = c.other.inside.entries in
    let slots = c.deref-3.result.now in
    let other = c.deref-4.result.now in
    let more : length c.in_ok-gained.gained.items ≤ length slots =
    omega (
      arith,
      length-contents c.gained.new.entries c.in_ok-gained.gained.items,
      ap length (c.in_ok-gained.ensures.gained kept),
      length-gains (contents kept slots) (contents others other),
      length-contents kept slots,
    ) in
    grind (arith, more, c.deref-3.ensures.value)

pub with_gained-requires : goal.with_gained-requires
with_gained-requires c =
    let slots = c.self.inside.slots.items in
    let gained = c.in_ok-gained.gained.items in
    let many : length gained ≡ length slots =
    (let kept = c.self.inside.entries in
    let others = c.other.inside.entries in
    let mine = contents kept c.deref-3.result.now in
    let theirs = contents others c.deref-4.result.now in
    let alike : length mine ≡ length theirs =
    ap (λ (ss : List (Option Taken)). length (contents kept ss)) c.deref-3.ensures.value ∙ ap length c.self.view_is
    ∙ c.requires
    ∙ sym (ap (λ (ss : List (Option Taken)). length (contents others ss)) c.deref-4.ensures.value
    ∙ ap length c.other.view_is) in
    omega (
      arith,
      length-contents c.gained.new.entries gained,
      ap length (c.in_ok-gained.ensures.gained kept),
      length-gains_same mine theirs alike,
      length-contents kept c.deref-3.result.now,
      ap (λ (ss : List (Option Taken)). length ss) c.deref-3.ensures.value,
    )) in
    let Have = λ (ss : List (Option Taken)). HaveNumbers c.gained.new.entries ss in
    let new = c.gained.new.entries in
    let state = state_kept c.self.inside.entries new slots c.self.inside.deletes c.gained.ensures.keeps
    c.self.invariant in
    record {
      same =
          ap (λ (ss : List (Option Taken)). length ss) c.deref-5.ensures.value ∙ sym many
          ∙ sym (ap (λ (ss : List (Option Taken)). length ss) c.deref-6.ensures.value);
      numbers = subst Have (sym c.deref-6.ensures.value) c.in_ok-gained.ensures.numbers;
      deletes =
          subst (λ (d : Option KeptDeletes). IfSome d (AreDeletes new)) (sym c.take.ensures.value)
          (if_some_of new (kept_in (contents new slots)) c.self.inside.deletes state.all_deletes);
    }

pub invariant_of-self-2 : goal.invariant_of-self-2
invariant_of-self-2 c =
    let new = c.gained.new.entries in
    let slots = c.self.inside.slots.items in
    let gained = c.in_ok-gained.gained.items in
    let before = contents new slots in
    let state = state_kept c.self.inside.entries new slots c.self.inside.deletes c.gained.ensures.keeps
    c.self.invariant in
    let was : IfSome c.take.result (AreDeletesOf new (kept_in before)) =
    subst (λ (d : Option KeptDeletes). IfSome d (AreDeletesOf new (kept_in before))) (sym c.take.ensures.value)
    state.all_deletes in
    let many : length gained ≡ length slots =
    (let kept = c.self.inside.entries in
    let others = c.other.inside.entries in
    let mine = contents kept c.deref-3.result.now in
    let theirs = contents others c.deref-4.result.now in
    let alike : length mine ≡ length theirs =
    ap (λ (ss : List (Option Taken)). length (contents kept ss)) c.deref-3.ensures.value ∙ ap length c.self.view_is
    ∙ c.requires
    ∙ sym (ap (λ (ss : List (Option Taken)). length (contents others ss)) c.deref-4.ensures.value
    ∙ ap length c.other.view_is) in
    omega (
      arith,
      length-contents c.gained.new.entries gained,
      ap length (c.in_ok-gained.ensures.gained kept),
      length-gains_same mine theirs alike,
      length-contents kept c.deref-3.result.now,
      ap (λ (ss : List (Option Taken)). length ss) c.deref-3.ensures.value,
    )) in
    let alike : length before ≡ length (contents new gained) =
    length-contents new slots ∙ sym many ∙ sym (length-contents new gained) in
    let same = entries_joined before (contents new gained) alike in
    let With = λ (cs ds : Content). IfSome c.with_gained.result
    (AreDeletesOf new (kept_in before ++ kept_in (gains cs ds))) in
    let more : With before (contents new gained) =
    subst (λ (ss : List (Option Taken)). With (contents new ss) (contents new gained)) c.deref-5.ensures.value
    (subst (λ (ss : List (Option Taken)). With (contents new c.deref-5.result.now)
    (contents new ss)) c.deref-6.ensures.value
    (c.with_gained.ensures new (kept_in before) was)) in
    let moved = subst (λ (cs : Content). IsPermutation (kept_in before ++ kept_in (gains before (contents new gained)))
    (kept_in cs)) (sym (c.put_all.ensures.rows new)) same in
    record {
      numbers = c.put_all.ensures.numbers new state.numbers c.in_ok-gained.ensures.numbers;
      all_deletes = if_moved new (kept_in before ++ kept_in (gains before (contents new gained)))
          (kept_in (contents new c.put_all.new.slots.items)) c.with_gained.result moved more;
    }

pub returns-clause-still : goal.returns-clause-still
returns-clause-still c = λ all.
    let kept = c.self.inside.entries in
    let others = c.other.inside.entries in
    let mine = subst (λ (s : Content). TookAllOf s c.args.other.now)
    (sym (ap (contents kept) c.deref.ensures.value ∙ c.self.view_is)) all in
    let both = subst (λ (s : Content). TookAllOf (contents kept c.deref.result.now) s)
    (sym (ap (contents others) c.deref-2.ensures.value ∙ c.other.view_is)) mine in
    let no_more : true ≡ false = sym ((c.has_taken_all_of.ensures kept others).1 both) ∙ c.if-has_taken_all_of.false in
    absurd cc

pub returns-clause-ok : goal.returns-clause-ok
returns-clause-ok c =
    let kept = c.self.inside.entries in
    let others = c.other.inside.entries in
    let new = c.gained.new.entries in
    let gained = c.in_ok-gained.gained.items in
    let mine = c.args.self.now in
    c.put_all.ensures.rows new
    ∙ ap (λ (s : Content). join s (contents new gained))
    (contents-kept kept new c.gained.ensures.keeps c.self.inside.slots.items c.self.invariant.numbers ∙ c.self.view_is)
    ∙ ap (join mine)
    (c.in_ok-gained.ensures.gained kept
    ∙ ap (λ (s : Content). gains s (contents others c.deref-4.result.now))
    (ap (contents kept) c.deref-3.ensures.value ∙ c.self.view_is)
    ∙ ap (gains mine) (ap (contents others) c.deref-4.ensures.value ∙ c.other.view_is))
    ∙ join-gains mine c.args.other.now c.requires

pub returns-clause-of_scan : goal.returns-clause-of_scan
returns-clause-of_scan c = λ scan of. ap length (returns-clause-ok c) ∙ length-join _ _ c.requires ∙ of

pub returns-clause-world : goal.returns-clause-world
returns-clause-world c = λ world scan ts us is is'. join-in_world world scan ts us _ _ _ (returns-clause-ok c) is is'
