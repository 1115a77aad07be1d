use Rattle.std.proofs.Common.{◌∙◌, rules}
use Rattle.std.proofs.lemmas.Iterator.{YieldsList-from_slice}
use Rattle.std.proofs.lemmas.Iterator.Search.{all_from_yields_List}
use Rattle.std.specs.Option.{is_some}
use Rattle.serde_json.specs.declared.value.Value.{Value}
use Rattle.serde_json.specs.Find.{as_object}
use Rattle.serde_json.specs.View.{view}
use Rattle.ice_meta.proofs.Steps.{all_objects_listed}
use Rattle.ice_meta.proofs.members.all_objects.Goals as goal

pub returns : goal.returns
returns c =
    all_from_yields_List (λ (v : Value). is_some (as_object (view v))) _ _ c.all.result c.all.ensures.ran
    (YieldsList-from_slice c.args.items.now.items cc) (λ x b q k. search rules)
    ∙ all_objects_listed c.args.items.now.items
