use Rattle.ice_state_laws.proofs.Honest.{none_where}
use Rattle.ice_state_laws.proofs.matches.what_the_plan_lacks_has_no_match.Goals as goal

pub returns : goal.returns
returns c =
    let match_of = c.what_has_a_match_is_planned.ensures in
    record {
      snapshot = λ world specs filter rows plan l file h lives of_data honest lacks.
          none_where filter file (λ m. lacks (match_of.snapshot world specs filter rows plan l file h lives
          of_data honest m));
      finished = λ world specs rows scan ts plan row l file is of h d e of_data honest covers lacks.
          none_where scan.filter file (λ m. lacks (match_of.finished world specs rows scan ts plan row l
          file is of h d e
          of_data honest covers m));
    }
