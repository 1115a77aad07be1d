use Rattle.ice_catalog_laws.proofs.Stepped.{finish_fault, finish_plan}
use Rattle.ice_catalog_laws.proofs.steps.finish.Goals as goal

pub returns : goal.returns
returns c = record {
  plan = λ m k w p same has. finish_plan m k w p _ _ same has c.finish.result c.finish.ensures.outcome;
  fault = λ m k w p same has. finish_fault m k w p _ _ same has c.finish.result c.finish.ensures.outcome;
}
