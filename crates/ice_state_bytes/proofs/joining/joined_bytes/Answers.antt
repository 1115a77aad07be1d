use Rattle.std.proofs.lemmas.Result.{err_from_is_err_and}
use Rattle.ice_state_envelopes.proofs.Joins.{parts_are}
use Rattle.ice_state_bytes.proofs.States.{are_joined, joins, no_state, not_both, only_memory, read_parts}
use Rattle.ice_state_bytes.proofs.joining.joined_bytes.Goals as goal

pub returns-in_err-one-clause-refused : goal.returns-in_err-one-clause-refused
returns-in_err-one-clause-refused c =
    let p = err_from_is_err_and c.from_residual.result c.from_residual.ensures.1 in
    let f = c.in_err-one.field-0.0 in
    λ scan name one two h k.
    rw (p.1, p.2) (only_memory f (λ other. no_state scan name c.args.one.now f one (c.in_err-one.ensures other) h))

pub returns-in_err-other-clause-refused : goal.returns-in_err-other-clause-refused
returns-in_err-other-clause-refused c =
    let p = err_from_is_err_and c.from_residual-in_err-other.result c.from_residual-in_err-other.ensures.1 in
    let f = c.in_err-other.field-0.0 in
    λ scan name one two h k.
    rw (p.1, p.2) (only_memory f (λ other. no_state scan name c.args.other.now f two (c.in_err-other.ensures other) k))

pub returns-in_err-both-clause-refused : goal.returns-in_err-both-clause-refused
returns-in_err-both-clause-refused c =
    let p = err_from_is_err_and c.from_residual-in_err-both.result c.from_residual-in_err-both.ensures.1 in
    let f = c.in_err-both.field-0.0 in
    λ scan name one two h k.
    let first = read_parts scan name c.args.one.now c.in_ok-one.one one c.in_ok-one.ensures h in
    let second = read_parts scan name c.args.other.now c.in_ok-other.other two c.in_ok-other.ensures k in
    let all = are_joined scan name c.in_ok-one.one c.in_ok-other.other one two first second in
    rw (p.1, p.2) (only_memory f (λ other. not_both all (c.in_err-both.ensures other)))

pub returns-clause-joined : goal.returns-clause-joined
returns-clause-joined c = λ scan name one two h k.
    let p = c.in_ok-one.one in
    let q = c.in_ok-other.other in
    joins c.args.one.now c.args.other.now c.in_ok-to_bytes.field-0.items p q c.in_ok-both.both c.in_ok-one.ensures
    c.in_ok-other.ensures c.in_ok-to_bytes.ensures c.in_ok-both.ensures
    (parts_are c.args.one.now p c.in_ok-one.ensures).1 (parts_are c.args.other.now q c.in_ok-other.ensures).1 scan name
    one two h k
