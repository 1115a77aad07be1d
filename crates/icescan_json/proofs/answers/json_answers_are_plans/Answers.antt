use Rattle.icescan_json.proofs.AnswersTold.{same_at, same_list}
use Rattle.icescan_json.proofs.answers.json_answers_are_plans.Goals as goal

pub returns-clause-at : goal.returns-clause-at
returns-clause-at c = same_at

pub returns-clause-list : goal.returns-clause-list
returns-clause-list c = same_list
