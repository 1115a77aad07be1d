use Rattle.icescan_requests.proofs.Plans.{same_answer}
use Rattle.icescan_requests.proofs.table_plans.plans_of_true_summaries.Goals as goal

pub returns : goal.returns
returns c = λ world metadata request truth. same_answer c.filtering.ensures.open_where_unpartitioned
    c.filtering.ensures.sound world metadata request truth
