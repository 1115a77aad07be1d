use Rattle.std.proofs.Common.{IfSome, Option, subst}
use Rattle.ice_state.specs.declared.kept.deletes.KeptDeletes.{KeptDeletes}
use Rattle.ice_state.specs.KeptDeletes.{AreDeletes, AreDeletesOf}
use Rattle.ice_state.proofs.DeletesKept.{if_some_ok}
use Rattle.ice_state.proofs.kept.deletes.with_index_of_all.Goals as goal

pub all_indexed-requires : goal.all_indexed-requires
all_indexed-requires c =
    subst (λ (o : Option KeptDeletes). IfSome o (AreDeletes c.args.entries.now)) c.in_ok-deletes.was c.requires

pub returns : goal.returns
returns c = λ xs are.
    let Of = AreDeletesOf c.args.entries.now xs in
    if_some_ok c.all_indexed.result c.ok.ensures.value Of
    (c.all_indexed.ensures xs (subst (λ (o : Option KeptDeletes). IfSome o Of) c.in_ok-deletes.was are))
