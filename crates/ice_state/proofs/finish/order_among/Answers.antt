use Rattle.std.proofs.Common.{◌≡◌, ◌∙◌, List, ℕ, Option, IfSome, length, subst, sym}
use Rattle.std.proofs.lemmas.List.{length-map}
use Rattle.ice_state.specs.Lines.{AreWithin, entries_at as entries_at_places}
use Rattle.ice_state.specs.Segments.{entry_at, entries_at}
use Rattle.ice_state.proofs.FoundPlaces.{order_found}
use Rattle.ice_state.proofs.finish.order_among.Goals as goal

pub returns-in-Some : goal.returns-in-Some
returns-in-Some c =
    let kept = c.args.entries.now in
    let files = c.args.files.now in
    let xs = entries_at kept files in
    let within : AreWithin (length files) c.in-Some.order =
    subst (λ (r : Option (List ℕ)). IfSome r (AreWithin (length files))) c.in-Some.is c.in_ok-order.ensures.within in
    let same : entries_at_places xs c.in-Some.order ≡ entries_at kept c.args.sorted.now =
    subst (λ (r : Option (List ℕ)). IfSome r
    (λ places. entries_at_places xs places ≡ entries_at kept c.args.sorted.now))
    c.in-Some.is (c.in_ok-order.ensures.same kept) in
    order_found xs c.in-Some.order c.requires.once
    (subst (λ (n : ℕ). AreWithin n c.in-Some.order) (sym (length-map files (entry_at kept))) within)
    (same ∙ c.requires.sorted)
