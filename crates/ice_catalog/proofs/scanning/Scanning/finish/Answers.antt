use Rattle.std.proofs.Common.{◌≡◌, ◌∙◌, ap, length, rules, sym, ◌<◌}
use Rattle.std.specs.Arc.{arc_value}
use Rattle.std.specs.Prelude.{slice_index_or}
use Rattle.std.proofs.lemmas.Result.{IfOk-weaker}
use Rattle.ice_catalog.specs.Machines.{PinnedScan, finish, finish_by, world_of}
use Rattle.ice_catalog.specs.Taken.{IsTaken, set_of, sets_of}
use Rattle.ice_catalog.proofs.Steps.{finishes}
use Rattle.ice_catalog.proofs.Taken.{no_set, set_at, state_read}
use Rattle.ice_catalog.proofs.scanning.Scanning.finish.Goals as goal

pub returns-in-Some : goal.returns-in-Some
returns-in-Some c =
    let scan = c.self.inside.scan in
    let states = c.self.inside.workers.items in
    let state = c.in-Some.state.now in
    let world = world_of (arc_value c.self.inside.version) in
    let p : PinnedScan = record {
      history = arc_value c.self.inside.version;
      scan = scan;
      workers = sets_of scan states;
    } in
    let within : c.args.worker < length states = search rules in
    let read : state ≡ slice_index_or states c.args.worker state = search rules in
    let same = finishes p c.args.worker (set_of scan state) (set_at scan states c.args.worker state within read) in
    IfOk-weaker c.finish_state.result _ _ (λ reply is. is ∙ (sym same ∙ ap (λ (q : PinnedScan). finish q c.args.worker)
    c.self.view_is)) (c.finish_state.ensures world (state_read (IsTaken world scan) states c.args.worker state
    c.self.invariant within read))

pub returns-in-None : goal.returns-in-None
returns-in-None c =
    let scan = c.self.inside.scan in
    let states = c.self.inside.workers.items in
    let p : PinnedScan = record {
      history = arc_value c.self.inside.version;
      scan = scan;
      workers = sets_of scan states;
    } in
    sym (ap (finish_by p) (no_set scan states c.args.worker (search rules))) ∙ ap (λ (q : PinnedScan). finish q
    c.args.worker) c.self.view_is
