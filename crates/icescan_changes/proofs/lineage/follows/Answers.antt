use Rattle.std.proofs.Common.{◌≡◌, ◌+◌, ◌∙◌, sym, subst, length, false, None, Some, ℤ, rules, w64}
use Rattle.std.specs.Prelude.{Err, if◌then◌else◌}
use mir.Val.{to_z, of_z}
use Rattle.std.specs.Ordering.{int_eq}
use Rattle.std.proofs.lemmas.Int.{to_z-of_z}
use Rattle.icescan_changes.specs.Lineage.{came_from, follows}
use Rattle.icescan_changes.proofs.Following.{back_to, no_way}
use Rattle.icescan_changes.proofs.lineage.follows.Goals as goal
use Rattle.icescan_text.specs.declared.lineage_fault.LineageFault.TheVariants as lineage

pub returns-in_default : goal.returns-in_default
returns-in_default c =
    let table = c.args.metadata.now.table in
    let earlier = to_z w64 (of_z w64 c.args.earlier) in
    let later = to_z w64 (of_z w64 c.args.later) in
    let same : to_z w64 (of_z w64 c.args.earlier) ≡ c.args.earlier = to_z-of_z w64 c.args.earlier (search rules) in
    let one : to_z w64 (of_z w64 c.args.later) ≡ c.args.later = to_z-of_z w64 c.args.later (search rules) in
    let at : c.snapshots.id ≡ to_z w64 c.snapshots.id-bits = search rules in
    let other : int_eq c.snapshots.id earlier ≡ false = search rules in
    let none : came_from c.snapshots.id table ≡ None = search rules in
    let told : Err lineage.NotAncestor ≡ follows (length table.snapshots + 1) table earlier later =
    sym (no_way table earlier c.snapshots.steps (to_z w64 c.snapshots.id-bits) c.snapshots.other c.snapshots-test.true
    (subst (λ (z : ℤ). int_eq z earlier ≡ false) at other) (subst (λ (z : ℤ). came_from z table ≡ None) at none))
    ∙ c.snapshots.invariant in
    rw (same, one) at told

pub snapshots-preserved : goal.snapshots-preserved
snapshots-preserved c =
    let table = c.args.metadata.now.table in
    let earlier = to_z w64 (of_z w64 c.args.earlier) in
    let parent = to_z w64 (of_z w64 c.in-Some.parent) in
    let same : to_z w64 (of_z w64 c.args.earlier) ≡ c.args.earlier = to_z-of_z w64 c.args.earlier (search rules) in
    let is : to_z w64 (of_z w64 c.in-Some.parent) ≡ c.in-Some.parent = to_z-of_z w64 c.in-Some.parent (search rules) in
    let at : c.snapshots.id ≡ to_z w64 c.snapshots.id-bits = search rules in
    let other : int_eq c.snapshots.id earlier ≡ false = search rules in
    let from : came_from c.snapshots.id table ≡ Some (parent, c.in-Some.appends) = search rules in
    let told : c.first_other-other.result
    ≡ (if c.in-Some.appends then c.snapshots.other else Some (to_z w64 c.snapshots.id-bits)) = search rules in
    rw told
    (sym (back_to table earlier c.snapshots.steps (to_z w64 c.snapshots.id-bits) c.snapshots.other
    c.snapshots-test.true parent c.in-Some.appends
    (subst (λ (z : ℤ). int_eq z earlier ≡ false) at other)
    (subst (λ (z : ℤ). came_from z table ≡ Some (parent, c.in-Some.appends)) at from)) ∙ c.snapshots.invariant)
