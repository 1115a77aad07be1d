use Rattle.std.proofs.lemmas.Result.{IfOk-weaker}
use Rattle.ice_project.specs.Fields.{transform_named}
use Rattle.ice_project.proofs.Named.{named_is}
use Rattle.ice_project.proofs.field.transform_named.Goals as goal

pub returns : goal.returns
returns c =
    IfOk-weaker c.parse.result _ _ (λ f h. c.texts_of_transforms.ensures.one f (transform_named c.args.text.now)
    c.args.text.now h (named_is c.args.text.now)) c.parse.ensures.named
