use Rattle.std.proofs.Common.{◌≡◌, ◌-◌, ◌∙◌, ap, sym, subst, get_or, arith, to_z, of_z, w32, rules}
use Rattle.std.specs.Prelude.{◌<ℤ◌}
use Rattle.std.proofs.lemmas.Int.{ints, to_z-of_z}
use Rattle.std.proofs.lemmas.List.{get_or_default}
use Rattle.icescan_audit_findings.proofs.Rising.{rise_more}
use Rattle.icescan_audit_findings.proofs.pairs.are_rising.Goals as goal

pub pairs-preserved : goal.pairs-preserved
pairs-preserved g c = λ a b d.
    let pairs = c.args.pairs.now in
    let i = c.pairs.i in
    let p = c.index-pairs-i.result in
    let q = c.index-pairs-i-in-pairs.result in
    let first : to_z w32 (of_z w32 (get_or pairs (i - 1) p).0) ≡ (get_or pairs (i - 1) d).0 =
    ap (λ x. to_z w32 (of_z w32 x.0)) (sym c.index-pairs-i.is) ∙ to_z-of_z w32 p.0 (search rules)
    ∙ ap (λ x. x.0) (c.index-pairs-i.is ∙ get_or_default pairs (i - 1) p d (omega arith)) in
    let second : to_z w32 (of_z w32 (get_or pairs i q).0) ≡ (get_or pairs i d).0 =
    ap (λ x. to_z w32 (of_z w32 x.0)) (sym c.index-pairs-i-in-pairs.is) ∙ to_z-of_z w32 q.0 (search rules)
    ∙ ap (λ x. x.0) (c.index-pairs-i-in-pairs.is ∙ get_or_default pairs i q d (omega arith)) in
    let read : to_z w32 (of_z w32 (get_or pairs (i - 1) p).0) <ℤ to_z w32 (of_z w32 (get_or pairs i q).0) = omega
    (arith, ints) in
    rise_more (λ k. (get_or pairs k d).0) i (omega arith) (λ k n. c.pairs.invariant k n d)
    (subst (λ x. x <ℤ (get_or pairs i d).0) first
    (subst (λ y. to_z w32 (of_z w32 (get_or pairs (i - 1) p).0) <ℤ y) second
    read)) a b

pub returns : goal.returns
returns g c = λ _ i j d less high. c.pairs.invariant i j d less (omega arith)
