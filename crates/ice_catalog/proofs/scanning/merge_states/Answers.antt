use Rattle.std.proofs.Common.{◌≡◌, ◌∙◌, ap, arith, subst, sym}
use Rattle.std.specs.Prelude.{slice_index_or, slice_set}
use Rattle.ice_state.specs.Joins.{either}
use Rattle.std.proofs.lemmas.List.{length-set}
use Rattle.std.proofs.lemmas.List.Elements.{All-set}
use Rattle.ice_catalog.specs.Taken.{IsStateOf, IsTaken, rows_of, set_of, sets_of}
use Rattle.ice_catalog.proofs.Taken.{merge_itself, merge_none, set_read, set_read_apart, sets_put, state_read}
use Rattle.ice_catalog.proofs.Taken.{taken_put}
use Rattle.ice_catalog.proofs.scanning.merge_states.Goals as goal
use Rattle.ice_catalog.proofs.scanning.merge_states.Goals.{in-Some+in_ok-joined-in-Some, in-None}

pub returns-then-into-from-clause-sets : goal.returns-then-into-from-clause-sets
returns-then-into-from-clause-sets c = λ set other is also. merge_itself (sets_of c.args.scan.now
    c.args.states.now.items) c.args.into c.args.from set other c.if-into-from.true is also

pub returns-clause-sets : goal.returns-clause-sets
returns-clause-sets c =
    λ set other is also.
    let scan = c.args.scan.now in
    let states = c.args.states.now.items in
    let state = c.take-state.result in
    let read = c.take-state.ensures.value ∙ (c.index_mut.ensures.value ∙ ap (λ d. slice_index_or states c.args.into d)
    (sym c.take-state.ensures.value)) in
    let own : set_of scan state ≡ set = set_read scan states c.args.into state set (omega (arith, c.requires.into)) read
    is in
    sets_put scan states c.args.into c.take-state.new.self c.match-index.united
    ∙ ap (slice_set (sets_of scan states) c.args.into) (elim c.match-index.branch [
      | in-Some+in_ok-joined-in-Some w ↦
          let theirs = set_read_apart scan states c.args.into c.args.from c.index.result.now c.take-state.new.self other
          (λ e. c.if-into-from.false (sym e)) (omega (arith, c.requires.from)) c.index.ensures also in
          ap (set_of scan) w.united-is ∙ (w.in_ok-joined-in-Some.ensures.set ∙
          (ap (λ a. either a (rows_of w.in-Some.other)) own ∙ ap (either set) (ap (set_of scan) (sym w.in-Some.is) ∙
          theirs)))
      | in-None w ↦
          let theirs = set_read_apart scan states c.args.into c.args.from c.index.result.now c.take-state.new.self other
          (λ e. c.if-into-from.false (sym e)) (omega (arith, c.requires.from)) c.index.ensures also in
          ap (set_of scan) w.united-is ∙ merge_none scan state set other (state_read (IsStateOf scan) states c.args.into
          state c.requires.states (omega (arith, c.requires.into)) read) own (ap (set_of scan) (sym w.in-None.is) ∙
          theirs)
    ])

pub returns-clause-taken : goal.returns-clause-taken
returns-clause-taken c = λ world all.
    let scan = c.args.scan.now in
    let states = c.args.states.now.items in
    let state = c.take-state.result in
    let left = c.take-state.new.self in
    let read = c.take-state.ensures.value ∙ (c.index_mut.ensures.value ∙ ap (λ d. slice_index_or states c.args.into d)
    (sym c.take-state.ensures.value)) in
    let own : IsTaken world scan state = state_read (IsTaken world scan) states c.args.into state all
    (omega (arith, c.requires.into)) read in
    let moved : IsTaken world scan left = subst (IsTaken world scan) (sym c.take-state.ensures.after) tt in
    let rest = All-set (IsTaken world scan) states c.args.into left moved all in
    let theirs : IsTaken world scan c.index.result.now = state_read (IsTaken world scan)
    (slice_set states c.args.into left) c.args.from c.index.result.now rest
    (omega (arith, c.requires.from, length-set states c.args.into left)) c.index.ensures in
    let united : IsTaken world scan c.match-index.united = elim c.match-index.branch [
      | in-Some+in_ok-joined-in-Some w ↦ subst (IsTaken world scan) (sym w.united-is)
          (w.in_ok-joined-in-Some.ensures.taken world own (subst (IsTaken world scan) w.in-Some.is theirs))
      | in-None w ↦ subst (IsTaken world scan) (sym w.united-is) own
    ] in
    taken_put (IsTaken world scan) states c.args.into left c.match-index.united all united
