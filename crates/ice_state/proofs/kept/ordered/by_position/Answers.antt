use Rattle.std.proofs.Common.{◌≡◌, ◌∙◌, ap, length, subst, sym, List}
use Rattle.std.proofs.lemmas.Result.{IfOk-weaker}
use Rattle.ice_state_entries.specs.Kept.{AreKept, entries_at}
use Rattle.ice_state.specs.Lines.{AreWithin}
use Rattle.ice_state.proofs.Positions.{all_kept, by_position, numbers, ranks_below}
use Rattle.ice_state.proofs.RankedIndex.{order_below, order_once}
use Rattle.ice_state.proofs.kept.ordered.by_position.Goals as goal

pub ranks-requires-clause-below : goal.ranks-requires-clause-below
ranks-requires-clause-below c = order_below (length c.args.order.now) c.args.order.now c.requires.all

pub ranks-requires-clause-once : goal.ranks-requires-clause-once
ranks-requires-clause-once c = order_once (length c.args.order.now) c.args.order.now c.requires.all

pub numbers_at-requires : goal.numbers_at-requires
numbers_at-requires c =
    rw c.deref.ensures.value
    (ranks_below c.args.by_path.now c.args.order.now c.in_ok-ranks.ranks.items c.requires.many c.requires.all
    c.in_ok-ranks.ensures)

pub returns-clause-kept : goal.returns-clause-kept
returns-clause-kept c = λ kept each.
    let ranks = c.in_ok-ranks.ranks.items in
    let by_path = c.args.by_path.now in
    let below = ranks_below by_path c.args.order.now ranks c.requires.many c.requires.all c.in_ok-ranks.ensures in
    IfOk-weaker c.numbers_at.result (λ found. found.items ≡ numbers by_path c.deref.result.now)
    (λ found. AreKept kept found.items)
    (λ found is. subst (AreKept kept) (sym (is ∙ ap (numbers by_path) c.deref.ensures.value))
    (all_kept kept by_path ranks each below)) c.numbers_at.ensures

pub returns-clause-same : goal.returns-clause-same
returns-clause-same c = λ kept entries many same.
    let ranks = c.in_ok-ranks.ranks.items in
    let by_path = c.args.by_path.now in
    let order = c.args.order.now in
    let within = subst (λ n. AreWithin n order) (sym many) c.requires.within in
    IfOk-weaker c.numbers_at.result (λ found. found.items ≡ numbers by_path c.deref.result.now)
    (λ found. entries_at kept found.items ≡ entries)
    (λ found is. ap (entries_at kept) (is ∙ ap (numbers by_path) c.deref.ensures.value)
    ∙ by_position by_path order ranks c.requires.many c.requires.all c.in_ok-ranks.ensures kept entries many within
    same) c.numbers_at.ensures
