use Rattle.std.proofs.Common.{sym, ◌∙◌}
use Rattle.ice_manifest_fields.proofs.Decimals.{sign_dropped, sign_needed, one_stays}
use Rattle.ice_manifest_fields.proofs.decimal.shortest.Goals as goal

pub signs-preserved : goal.signs-preserved
signs-preserved c = sign_dropped c.signs.rest.now c.signs-test.true (sym c.is_redundant.ensures ∙
    c.if-is_redundant.true) ∙ c.signs.invariant

pub returns-else-is_redundant : goal.returns-else-is_redundant
returns-else-is_redundant c = sign_needed c.signs.rest.now c.signs-test.true (sym c.is_redundant.ensures ∙
    c.if-is_redundant.false) ∙ c.signs.invariant

pub returns-after-signs : goal.returns-after-signs
returns-after-signs c = one_stays c.signs.rest.now c.signs-test.false ∙ c.signs.invariant
