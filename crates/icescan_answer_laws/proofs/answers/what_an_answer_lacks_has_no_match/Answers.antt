use Rattle.std.proofs.Common.{sym, subst, List}
use Rattle.ice_filter.specs.declared.bound.BoundPredicate.{BoundPredicate}
use Rattle.ice_filter.specs.declared.parts.Part.{Part}
use Rattle.ice_project.specs.Honesty.{NoneMeets}
use Rattle.ice_state.specs.Contents.{every_row}
use Rattle.icescan_requests.specs.Plans.{over_all_rows, over_wanted_rows}
use Rattle.ice_state_laws.specs.Honesty.{IsHonest}
use Rattle.icescan_answer_laws.proofs.Asked.{is_of, plan_of_rows, rows_of_answer}
use Rattle.icescan_answer_laws.proofs.answers.what_an_answer_lacks_has_no_match.Goals as goal

pub returns : goal.returns
returns c =
    let law = c.what_the_plan_lacks_has_no_match.ensures in
    record {
      answer = λ world metadata request selection rows plan l file asked h lives content honest lacks.
          let p = plan_of_rows over_all_rows world selection.specs selection.filter.parts rows plan
          (rows_of_answer over_all_rows world metadata request selection rows plan asked h) in
          law.snapshot world selection.specs selection.filter.parts rows plan l file p.2 lives content honest lacks;
      wanted = λ world metadata request selection rows plan row l file asked h d e content honest covers lacks.
          let p = plan_of_rows over_wanted_rows world selection.specs selection.filter.parts rows plan
          (rows_of_answer over_wanted_rows world metadata request selection rows plan asked h) in
          let made = c.scanning.ensures.made rows selection.specs selection.filter.parts p.0 p.1 in
          let none : NoneMeets p.0.filter file = law.finished world selection.specs rows p.0 (every_row p.0)
          plan row l file
          made.1 (is_of world p.0) p.2 d e content
          (subst (λ (ps : List (Part BoundPredicate)). IsHonest selection.specs ps l file) (sym made.0) honest)
          covers lacks in
          subst (λ (ps : List (Part BoundPredicate)). NoneMeets ps file) made.0 none;
    }
