use Rattle.icescan_answer_laws.proofs.NoMatch.{none_may_meet}
use Rattle.icescan_answer_laws.proofs.relaxed.what_a_relaxed_answer_lacks_has_no_match.Goals as goal

pub returns : goal.returns
returns c =
    let law = c.what_an_answer_lacks_has_no_match.ensures in
    let relaxed = c.relaxed_filters_lose_no_row.ensures in
    record {
      answer = λ world metadata request made schema parts selection rows plan l file relaxes read asked h lives content
          honest lacks.
          none_may_meet relaxed.read relaxed.met metadata request made schema parts selection file relaxes read asked.0
          (law.answer world metadata made.request selection rows plan l file asked h lives content honest lacks);
      wanted = λ world metadata request made schema parts selection rows plan row l file relaxes read asked h d e content
          honest covers lacks.
          none_may_meet relaxed.read relaxed.met metadata request made schema parts selection file relaxes read asked.0
          (law.wanted world metadata made.request selection rows plan row l file asked h d e content honest covers
          lacks);
    }
