use Rattle.icescan_json.proofs.AnswersTold.{asked_plan, tells_plan}
use Rattle.icescan_json.proofs.answers.json_answers_tell_plans.Goals as goal

pub returns-clause-plan : goal.returns-clause-plan
returns-clause-plan c = tells_plan c.json_is_the_plan.ensures

pub returns-clause-request : goal.returns-clause-request
returns-clause-request c = λ ending world path request workers typed text json is can fitting. (
  typed.plan,
  asked_plan ending world path request workers typed is,
  tells_plan c.json_is_the_plan.ensures typed text json can fitting,
)
