use Rattle.std.proofs.Common.{◌≡◌, ◌∙◌, ap, subst, sym, List, Result, Ok, Err, OnOk}
use Rattle.ice_manifest_reading.specs.declared.entry.Entry.{Entry}
use Rattle.ice_state.specs.declared.finish.by_kind.FilesByKind.{FilesByKind}
use Rattle.ice_state.specs.declared.kept.segments.FileNumber.{FileNumber}
use Rattle.ice_state.specs.Apart.{ShareNoPath}
use Rattle.ice_state.specs.ByKind.{HasFilesOf}
use Rattle.ice_state.specs.Outcomes.{by_path}
use Rattle.ice_state.specs.Segments.{entries_at, Segmented}
use Rattle.ice_state.proofs.ByKind as kinds
use Rattle.ice_state.proofs.PathsOnce.{by_path_twice}
use Rattle.ice_state.proofs.finish.put_in_order.Given.{Over}
use Rattle.ice_state.proofs.finish.put_in_order.Goals as goal
use Rattle.ice_state.proofs.finish.put_in_order.Goals.{In_ok-deletes_rise}

if_ok : {T E : Type 0} (r : Result T E) (P : Type 0) → P → OnOk r P
if_ok (Ok x) P p = p
if_ok (Err e) P p = tt

abbrev now : (g : Over) → In_ok-deletes_rise g → FilesByKind
now g c = record {
  data_files = c.sort_by_path.new.files;
  delete_files = c.sort_by_path-2.new.files;
}

put : (g : Over) (c : In_ok-deletes_rise g) (xs : List Entry) → HasFilesOf c.args.entries.now xs c.args.files.now
    → HasFilesOf c.args.entries.now (by_path xs) (now g c)
put g c xs has = kinds.put_in_order c.args.entries.now xs c.args.files.now (now g c) has c.in_ok-rise.ensures.sorted
    c.in_ok-deletes_rise.ensures.sorted (c.in_ok-rise.ensures.kept, c.in_ok-deletes_rise.ensures.kept)

-- files that are by path stay as they are where they are put in order
still : (kept : Segmented) (old new here : List FileNumber) → entries_at kept new ≡ by_path (entries_at kept old)
    → here ≡ new → by_path (entries_at kept here) ≡ entries_at kept here
still kept old new here are is =
    subst (λ (ns : List FileNumber). by_path (entries_at kept ns) ≡ entries_at kept ns) (sym is)
    (ap by_path are ∙ by_path_twice (entries_at kept old) ∙ sym are)

pub are_apart-requires-clause-sorted : goal.are_apart-requires-clause-sorted
are_apart-requires-clause-sorted g c = still c.args.entries.now c.args.files.now.data_files.items
    c.sort_by_path.new.files.items c.deref.result.now c.in_ok-rise.ensures.sorted c.deref.ensures.value

pub are_apart-requires-clause-sorted_others : goal.are_apart-requires-clause-sorted_others
are_apart-requires-clause-sorted_others g c = still c.args.entries.now c.args.files.now.delete_files.items
    c.sort_by_path-2.new.files.items c.deref-then-deletes_rise.result.now c.in_ok-deletes_rise.ensures.sorted
    c.deref-then-deletes_rise.ensures.value

pub returns-then-are_apart : goal.returns-then-are_apart
returns-then-are_apart g c =
    let kept = c.args.entries.now in
    let at = (goal.at.returns-then-are_apart g c).In_ok-deletes_rise in
    let apart = subst (λ (ns : List FileNumber). ShareNoPath (entries_at kept c.sort_by_path.new.files.items)
    (entries_at kept ns)) c.deref-then-deletes_rise.ensures.value
    (subst (λ (ns : List FileNumber). ShareNoPath (entries_at kept ns)
    (entries_at kept c.deref-then-deletes_rise.result.now)) c.deref.ensures.value
    (c.are_apart.ensures c.if-are_apart.true)) in
    record {
      sorted = λ xs has. put g at xs has;
      once = λ xs has. kinds.none_twice kept xs c.args.files.now (now g at) has c.in_ok-rise.ensures.sorted
          c.in_ok-deletes_rise.ensures.sorted (c.in_ok-rise.ensures.once c.if-rise.true)
          (c.in_ok-deletes_rise.ensures.once c.if-deletes_rise.true) apart;
    }

pub returns : goal.returns
returns g c =
    let kept = c.args.entries.now in
    let at = (goal.at.returns g c).In_ok-deletes_rise in
    record {
      sorted = λ xs has. if_ok c.check_once.result (HasFilesOf kept (by_path xs) (now g at)) (put g at xs has);
      once = λ xs has. c.check_once.ensures xs (kinds.all_moved kept xs c.args.files.now (now g at) has
          c.in_ok-rise.ensures.sorted c.in_ok-deletes_rise.ensures.sorted);
    }
