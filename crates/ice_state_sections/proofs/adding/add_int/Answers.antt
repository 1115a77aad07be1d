use Rattle.std.proofs.Common.{ℤ, w32, w64, to_z, of_z, ap, subst, ◌∙◌}
use Rattle.std.proofs.Math.Facts.{sfits_widen}
use Rattle.std.proofs.lemmas.Int.{to_z-of_z}
use Rattle.ice_state_sections.specs.Parts.{long}
use Rattle.ice_state_sections.specs.Written.{Adds}
use Rattle.ice_state_sections.proofs.Added.{an_int, int_fits, again}
use Rattle.ice_state_sections.proofs.adding.add_int.Goals as goal

pub returns : goal.returns
returns c =
    let v = c.args.value in
    let same = ap (λ (z : ℤ). to_z w64 (of_z w64 z)) (c.from.ensures ∙ to_z-of_z w32 v c.ranges.value) in
    let put = subst (λ (z : ℤ). Adds long z c.args.bytes.items c.in_ok-add_long.field-0.items) same
    c.in_ok-add_long.ensures in
    an_int v _ _ (int_fits v c.ranges.value) (again w64 long v _ _ (sfits_widen tt c.ranges.value) put)
