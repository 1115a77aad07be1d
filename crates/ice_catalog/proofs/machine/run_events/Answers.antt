use Rattle.std.proofs.Common.{◌≡◌, Some, ◌∷◌, ◌++◌, ◌∙◌, append_assoc, ap, length, rules, subst, sym}
use Rattle.std.proofs.lemmas.List.{append-nil, drop_all}
use Rattle.std.specs.Prelude.{slice_get}
use Rattle.ice_catalog.specs.declared.event.Event.TheVariants as on
use Rattle.ice_catalog_versions.specs.Live.{IsGrown}
use Rattle.ice_catalog.specs.Machines.{Machine, event, machine_after, replies_to, started}
use Rattle.ice_catalog.proofs.Midway.{grown_midway, machine_midway, reply_at}
use Rattle.ice_catalog.proofs.machine.run_events.Goals as goal

pub returns-clause-grown : goal.returns-clause-grown
returns-clause-grown c = λ front rest parts.
    let first = started c.args.version.now in
    let newest : c.deref.result.now ≡ c.machine-2.inside.book = search rules in
    let over = ap (machine_after c.events.machine) (drop_all c.events.happens-index c.args.events.now
    c.events-test.false) in
    let ended : c.events.machine ≡ machine_after first c.args.events.now = sym over ∙ c.events.invariant.ends in
    let same : c.deref.result.now ≡ (machine_after first c.args.events.now).history =
    newest ∙ (ap (λ (m : Machine). m.history) c.machine-2.view_is ∙ ap (λ (m : Machine). m.history) ended) in
    grown_midway first front rest (subst (λ es. IsGrown (machine_after first es).history) parts
    (subst IsGrown same c.grew.ensures.grown))

pub returns-clause-plans : goal.returns-clause-plans
returns-clause-plans c = λ before between rest filter w state schema rows parts is began leaves reads took.
    let first = started c.args.version.now in
    let m = machine_after first before in
    let front = before ++ on.Pin filter ∷ between in
    let finish = on.Finish (length m.pins) w in
    let grown = returns-clause-grown c before (on.Pin filter ∷ between ++ finish ∷ rest) (is ∙ append_assoc before
    (on.Pin filter ∷ between) (finish ∷ rest)) in
    let over = ap (λ es. c.events.replies.items ++ replies_to c.events.machine es) (drop_all c.events.happens-index
    c.args.events.now c.events-test.false) in
    let told : c.events.replies.items ≡ replies_to first c.args.events.now = sym (append-nil c.events.replies.items) ∙
    (sym over ∙ c.events.invariant.told) in
    ap (λ rs. slice_get rs (length front)) (told ∙ ap (replies_to first) is)
    ∙ (reply_at first front rest finish
    ∙ (ap (λ (n : Machine). Some (event n finish).0) (machine_midway first before (on.Pin filter ∷ between))
    ∙ ap Some (c.pinned_plans_of_commits.ensures m state filter schema rows parts between w grown began leaves reads
    took)))
