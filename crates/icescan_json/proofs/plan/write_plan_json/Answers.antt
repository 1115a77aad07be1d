use Rattle.std.proofs.Common.{◌≡◌, ◌∙◌, map}
use Rattle.icescan_json.specs.Types.{spec_types}
use Rattle.icescan_json.proofs.plan.write_plan_json.Goals as goal

pub returns-clause-all : goal.returns-clause-all
returns-clause-all g c =
    let known : c.deref.result.now ≡ map spec_types c.args.specs.now = c.deref.ensures.value ∙ c.in_ok-types.ensures in
    rw known at c.write_typed_plan.ensures.all

pub returns-clause-front : goal.returns-clause-front
returns-clause-front g c =
    let known : c.deref.result.now ≡ map spec_types c.args.specs.now = c.deref.ensures.value ∙ c.in_ok-types.ensures in
    rw known at c.write_typed_plan.ensures.front
