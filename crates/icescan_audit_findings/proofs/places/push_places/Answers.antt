use Rattle.std.proofs.Common.{◌≡◌, ◌∙◌, ℕ, ℤ, Bor, List, [], ◌∷◌, ap, subst, sym, to_z, of_z, w32, rules}
use Rattle.std.proofs.lemmas.Int.{to_z-of_z}
use Rattle.std.proofs.lemmas.List.{take_all}
use Rattle.std.proofs.lemmas.List.Elements.{Contains-append_left}
use Rattle.ice_value.specs.Pairs.{last_of}
use Rattle.icescan_audit_findings.specs.Places.{HasPlacesOf}
use Rattle.icescan_audit_findings.proofs.Standing.{place_told, place_untold}
use Rattle.icescan_audit_findings.proofs.places.push_places.Goals as goal
use Rattle.icescan_audit_findings.proofs.places.push_places.Goals.{in-Some+in_ok-push-in-Some, in-None}

pub pairs-preserved : goal.pairs-preserved
pairs-preserved g c =
    let index = c.args.by_id.now.pairs.now in
    let kept = c.pairs.invariant in
    let p = c.pair-item.result in
    let same : to_z w32 (of_z w32 p.0) ≡ p.0 = to_z-of_z w32 p.0 (search rules) in
    let told : c.said_of.result ≡ last_of p.0 index = c.said_of.ensures.said
    ∙ ap (λ z. last_of z c.pairs.places.pairs.now) same
    ∙ ap (λ (ps : Bor (List (ℤ × ℕ))). last_of p.0 ps.now) kept.same in
    elim c.match-said_of.branch [
      | in-Some+in_ok-push-in-Some w ↦ rw (w.found-is, w.in_ok-push-in-Some.ensures.items) (record {
        same = c.said_of.ensures.same ∙ kept.same;
        kept = λ k old. Contains-append_left c.pairs.found.items (w.in-Some.place ∷ []) k (kept.kept k old);
        told = place_told index c.args.pairs.now c.pairs.pair-index p c.pairs-test.true c.pair-item.is
            c.pairs.found.items kept.told w.in-Some.place (sym w.in-Some.is ∙ told);
      })
      | in-None w ↦ rw w.found-is (record {
        same = c.said_of.ensures.same ∙ kept.same;
        kept = kept.kept;
        told = place_untold index c.args.pairs.now c.pairs.pair-index p c.pairs-test.true c.pair-item.is
            c.pairs.found.items kept.told (sym w.in-None.is ∙ told);
      })
    ]

pub returns-clause-told : goal.returns-clause-told
returns-clause-told g c =
    let index = c.args.by_id.now.pairs.now in
    subst (λ ps. HasPlacesOf index ps c.pairs.found.items)
    (take_all c.pairs.pair-index c.args.pairs.now c.pairs-test.false) c.pairs.invariant.told
