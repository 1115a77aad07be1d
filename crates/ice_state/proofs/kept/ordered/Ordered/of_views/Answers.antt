use Rattle.std.proofs.Common.{◌≡◌, ◌∙◌, [], List, ap, length, subst, sym}
use Rattle.std.specs.List.{range_with_len}
use Rattle.std.specs.List.Sorted.{IsPermutation}
use Rattle.std.proofs.lemmas.List.{length-map}
use Rattle.ice_manifest_reading.specs.declared.entry.Entry.{Entry}
use Rattle.ice_state_entries.specs.Kept.{AreKept, entries_at, entry_at}
use Rattle.ice_state.specs.Lines.{AreWithin, entries_at as entries_at_places}
use Rattle.ice_state.specs.Orders.{IsOrder}
use Rattle.ice_state.specs.Outcomes.{by_path, twice}
use Rattle.ice_state.specs.Segments.{segment_at}
use Rattle.ice_state.proofs.Positions.{many_places}
use Rattle.ice_state.proofs.RankedIndex.{order_many}
use Rattle.ice_state.proofs.kept.ordered.Ordered.of_views.Goals as goal

pub by_position-requires-clause-many : goal.by_position-requires-clause-many
by_position-requires-clause-many c =
    let views = c.args.views.now in
    let kept = segment_at c.add_in_order.new.entries c.args.segment in
    let order = c.in_ok-order.field-0.order in
    let same = c.in_ok-by_path.ensures.same ∙ ap (entries_at_places views) c.as_slice.ensures in
    rw (c.deref.ensures.value, c.as_slice-2.ensures)
    (sym (length-map c.in_ok-by_path.by_path.items (entry_at kept)) ∙ ap length same
    ∙ many_places views order c.in_ok-order.ensures.order.within)

pub by_position-requires-clause-all : goal.by_position-requires-clause-all
by_position-requires-clause-all c =
    let order = c.in_ok-order.field-0.order in
    let all = c.in_ok-order.ensures.order.all in
    rw c.as_slice-2.ensures (subst (λ n. IsPermutation (range_with_len 0 n) order)
    (sym (order_many (length c.args.views.now) order all)) all)

pub by_position-requires-clause-within : goal.by_position-requires-clause-within
by_position-requires-clause-within c =
    let order = c.in_ok-order.field-0.order in
    let is = c.in_ok-order.ensures.order in
    rw c.as_slice-2.ensures (subst (λ n. AreWithin n order)
    (sym (order_many (length c.args.views.now) order is.all)) is.within)

pub returns-clause-same : goal.returns-clause-same
returns-clause-same c =
    let views = c.args.views.now in
    let kept = segment_at c.add_in_order.new.entries c.args.segment in
    let order = c.in_ok-order.field-0.order in
    let many = sym (order_many (length views) order c.in_ok-order.ensures.order.all) in
    let placed = c.in_ok-by_path.ensures.same ∙ ap (entries_at_places views) c.as_slice.ensures in
    ap (entries_at kept) c.from_vec.ensures
    ∙ c.in_ok-numbers.ensures.same kept views (many ∙ ap length (sym c.as_slice-2.ensures))
    (ap (entries_at kept) c.deref.ensures.value ∙ placed ∙ ap (entries_at_places views) (sym c.as_slice-2.ensures))

pub returns-clause-ordered : goal.returns-clause-ordered
returns-clause-ordered c =
    let views = c.args.views.now in
    let kept = segment_at c.add_in_order.new.entries c.args.segment in
    let order = c.in_ok-order.field-0.order in
    let is = c.in_ok-order.ensures in
    let many = sym (order_many (length views) order is.order.all) in
    let placed = c.in_ok-by_path.ensures.same ∙ ap (entries_at_places views) c.as_slice.ensures in
    let same : entries_at kept c.from_vec.result ≡ views = ap (entries_at kept) c.from_vec.ensures
    ∙ c.in_ok-numbers.ensures.same kept views (many ∙ ap length (sym c.as_slice-2.ensures))
    (ap (entries_at kept) c.deref.ensures.value ∙ placed ∙ ap (entries_at_places views) (sym c.as_slice-2.ensures)) in
    record {
      numbers = subst (AreKept kept) (sym c.from_vec.ensures) (c.in_ok-numbers.ensures.kept kept
          (subst (AreKept kept) (sym c.deref.ensures.value) c.in_ok-by_path.ensures.kept));
      order = subst (λ (xs : List Entry). IsOrder xs order) (sym same) is.order;
      once = λ t. subst (λ (xs : List Entry). twice (by_path xs) ≡ []) (sym same) (is.once t);
    }
