use Rattle.std.proofs.Common.{◌≡◌, ap, sym, ◌∙◌, get_or, pos, to_z, of_z, w32, rules}
use Rattle.std.proofs.lemmas.Int.{to_z-of_z}
use Rattle.std.proofs.lemmas.List.{length-set, take_all}
use Rattle.ice_value.specs.Pairs.{last_of}
use Rattle.icescan_audit_findings.proofs.LastSaid.{told_absent, told_there}
use Rattle.icescan_audit_findings.proofs.ids.last_said.Goals as goal
use Rattle.icescan_audit_findings.proofs.ids.last_said.Goals.{in-Some, in-None}

pub pairs-preserved : goal.pairs-preserved
pairs-preserved g c =
    let ids = c.args.ids.now in
    let kept = c.pairs.invariant in
    let old = c.pairs.said.items in
    let id = c.pair-item.result.0 in
    let same : to_z w32 (of_z w32 id) ≡ id = to_z-of_z w32 id (search rules) in
    elim c.match-place_near.branch [
      | in-Some w ↦ rw w.said-is (record {
        each = length-set old w.in-Some.place _ ∙ kept.each;
        told = told_there ids c.args.pairs.now old c.pairs.pair-index c.pair-item.result c.pairs-test.true
            c.pair-item.is kept.told w.in-Some.place c.requires w.in-Some.ensures.there.0
            (w.in-Some.ensures.there.1 ∙ same) kept.each;
      })
      | in-None w ↦ rw w.said-is (record {
        each = kept.each;
        told = told_absent ids c.args.pairs.now old c.pairs.pair-index c.pair-item.result c.pairs-test.true
            c.pair-item.is kept.told (λ k in_range is. w.in-None.ensures.absent k in_range (is ∙ sym same));
      })
    ]

pub returns : goal.returns
returns g c =
    let pairs = c.args.pairs.now in (
      c.pairs.invariant.each,
      λ k in_range. c.pairs.invariant.told k in_range ∙ ap (λ ps. last_of
          (get_or c.args.ids.now k (pos 0)) ps) (take_all c.pairs.pair-index pairs c.pairs-test.false),
    )
