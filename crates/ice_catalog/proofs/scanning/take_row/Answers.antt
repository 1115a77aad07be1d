use Rattle.std.proofs.Common.{◌≡◌, ◌∙◌, ap, arith, length, refl, rules, sym, ◌<◌, Some}
use Rattle.std.specs.Prelude.{slice_get, slice_index_or, slice_set}
use Rattle.std.proofs.lemmas.Option.{slice_get_read}
use Rattle.ice_catalog.specs.Machines.{PinnedScan, world_of}
use Rattle.ice_catalog.specs.Taken.{IsTaken, set_of, sets_of}
use Rattle.ice_catalog.specs.declared.event.Reply.TheVariants as reply
use Rattle.ice_catalog.proofs.Steps.{has_bytes, takes, world_is}
use Rattle.ice_catalog.proofs.Taken.{set_at, sets_put, state_read, taken_put}
use Rattle.ice_catalog.proofs.scanning.take_row.Goals as goal

module _ (c : goal.Joined-index_mut) where
  row : slice_get c.args.scan.now.wanted c.args.i ≡ Some c.in-Some.row.now
  row =
      let few : c.args.i < length c.wanted.result.now = search rules in
      let item : c.in-Some.row.now ≡ slice_index_or c.wanted.result.now c.args.i c.in-Some.row.now = search rules in
      sym (ap (λ rows. slice_get rows c.args.i) c.wanted.ensures) ∙ slice_get_read c.wanted.result.now
      (length c.wanted.result.now) c.args.i c.in-Some.row.now refl few item

  bytes : world_of c.args.version.now c.in-Some.row.now.path ≡ Some c.in-Some-get.bytes.now
  bytes = world_is c.args.version.now c.world.result.now c.world.ensures c.in-Some.row.now.path ∙ search rules

  within : c.args.worker < length c.args.states.now.items
  within = omega (arith, c.if-worker-len.false, c.len.ensures)

  read : c.take-state.result ≡ slice_index_or c.args.states.now.items c.args.worker c.take-state.result
  read = c.take-state.ensures.value ∙ (c.index_mut.ensures.value ∙ ap (λ d. slice_index_or c.args.states.now.items
      c.args.worker d) (sym c.take-state.ensures.value))

pub returns-clause-taken : goal.returns-clause-taken
returns-clause-taken c =
    let world = world_of c.args.version.now in
    let scan = c.args.scan.now in
    let states = c.args.states.now.items in
    let more = c.in_ok-state.ensures.taken world (has_bytes world scan.wanted c.args.i c.in-Some.row.now
    c.in-Some-get.bytes.now (row c) (bytes c)) (state_read (IsTaken world scan) states c.args.worker
    c.take-state.result c.requires (within c) (read c)) in
    taken_put (IsTaken world scan) states c.args.worker c.take-state.new.self (Some c.in_ok-state.state) c.requires more

pub returns-clause-reply : goal.returns-clause-reply
returns-clause-reply c =
    let scan = c.args.scan.now in
    let states = c.args.states.now.items in
    let p : PinnedScan = record { history = c.args.version.now; scan = scan; workers = sets_of scan states } in
    let set = set_of scan c.take-state.result in
    ap (λ ws. let q : PinnedScan = record { history = c.args.version.now; scan = scan; workers = ws } in
    (reply.Taken, q)) (sets_put scan states c.args.worker c.take-state.new.self (Some c.in_ok-state.state) ∙ ap
    (λ s. slice_set (sets_of scan states) c.args.worker s) c.in_ok-state.ensures.set)
    ∙ sym (takes p c.args.worker c.args.i set c.in-Some.row.now c.in-Some-get.bytes.now
    (set_at scan states c.args.worker c.take-state.result (within c) (read c)) (row c) (bytes c))
