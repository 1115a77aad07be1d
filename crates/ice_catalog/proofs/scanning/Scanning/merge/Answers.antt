use Rattle.std.proofs.Common.{◌∙◌, ap, arith, sym}
use Rattle.std.specs.Arc.{arc_value}
use Rattle.ice_catalog.specs.Machines.{PinnedScan, merge, world_of}
use Rattle.ice_catalog.specs.Taken.{sets_of}
use Rattle.ice_catalog.specs.declared.event.Reply.TheVariants as reply
use Rattle.ice_catalog.proofs.Steps.{merges}
use Rattle.ice_catalog.proofs.Taken.{set_found}
use Rattle.ice_catalog.proofs.scanning.Scanning.merge.Goals as goal

pub invariant_of-self : goal.invariant_of-self
invariant_of-self c = c.merge_states.ensures.taken (world_of (arc_value c.self.inside.version)) c.self.invariant

pub invariant_of-self-2 : goal.invariant_of-self-2
invariant_of-self-2 c = c.merge_states.ensures.taken (world_of (arc_value c.self.inside.version)) c.self.invariant

pub returns : goal.returns
returns c =
    let scan = c.self.inside.scan in
    let states = c.self.inside.workers.items in
    let p : PinnedScan = record {
      history = arc_value c.self.inside.version;
      scan = scan;
      workers = sets_of scan states;
    } in
    let set = set_found scan states c.args.into (omega (arith, c.if-into-len.false, c.len.ensures)) in
    let other = set_found scan states c.args.from (omega (arith, c.if-from-len.false, c.len-else-into-len.ensures)) in
    ap (λ ws. let q : PinnedScan = record { history = arc_value c.self.inside.version; scan = scan; workers = ws } in
    (reply.Merged, q)) (c.in_ok-merge_states.ensures.sets set.0 other.0 set.1 other.1)
    ∙ (sym (merges p c.args.into c.args.from set.0 other.0 set.1 other.1) ∙ ap (λ (q : PinnedScan). merge q c.args.into
    c.args.from) c.self.view_is)
