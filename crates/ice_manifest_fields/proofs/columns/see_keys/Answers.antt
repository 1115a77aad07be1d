use Rattle.std.proofs.Common.{sym, subst}
use Rattle.std.proofs.lemmas.List.{take_all}
use Rattle.std.proofs.lemmas.List.Elements.{All-more, All-same}
use Rattle.ice_manifest_fields.specs.Places.{IsKey}
use Rattle.ice_manifest_fields.proofs.columns.see_keys.Goals as goal

pub pairs-preserved : goal.pairs-preserved
pairs-preserved g c = All-more IsKey c.args.pairs.now c.pairs.pair-index c.pair-item.result c.pairs-test.true
    c.pairs.invariant (subst IsKey c.pair-item.is c.see_key.ensures)

pub returns : goal.returns
returns g c = All-same IsKey c.args.pairs.now _ (sym (take_all c.pairs.pair-index c.args.pairs.now c.pairs-test.false))
    c.pairs.invariant
