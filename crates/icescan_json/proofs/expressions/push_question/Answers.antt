use Rattle.std.proofs.Common.{◌≡◌, ◌++◌, sym, subst}
use Rattle.std.specs.Prelude.{OnOk, codes}
use Rattle.std.proofs.lemmas.Result.{on_ok_weaker}
use Rattle.ice_filter.specs.declared.predicate.Question.{Question}
use Rattle.icescan_json.specs.ExpressionTexts.{asked_by, asked_name, choices_text, question_front, values_text}
use Rattle.icescan_json.proofs.Joined.{in_front, three}
use Rattle.icescan_json.proofs.expressions.push_question.Goals as goal

pub returns-in_ok-push_choices-in-Among : goal.returns-in_ok-push_choices-in-Among
returns-in_ok-push_choices-in-Among c =
    let text = c.args.text.now in
    let column_type = c.args.column_type in
    let choices = c.in-Among.choices in
    let front = question_front (asked_name c.args.question.now) c.args.name.now in
    let begun = c.push_asked.new.text in
    let ended = c.put-in-Among.new.self in
    let asked = rw c.asked_name.ensures at c.in_ok-push_asked.ensures in
    let told : OnOk c.put-in-Among.result (ended ≡ text ++ (front ++ values_text column_type choices)) =
    on_ok_weaker c.put-in-Among.result (λ is. in_front text begun ended front (values_text column_type choices) asked
    (three begun c.put.new.self c.push_choices.new.text ended (codes ",\"values\":[") (choices_text column_type choices)
    (codes "]}") c.in_ok-put-in-Among.ensures c.in_ok-push_choices-in-Among.ensures is)) c.put-in-Among.ensures in
    subst (λ (q : Question). OnOk c.put-in-Among.result (ended ≡ text ++ (front ++ asked_by column_type q)))
    (sym c.in-Among.is) told
