use Rattle.std.proofs.Common.{◌≡◌, rules}
use Rattle.icescan_forms.specs.declared.format.Format.TheVariants as format
use Rattle.icescan_commands.proofs.Answering.{gives_json, gives_text}
use Rattle.icescan_commands.proofs.forms.write_list_plan.Goals as goal

pub returns-in-Text-clause-answers : goal.returns-in-Text-clause-answers
returns-in-Text-clause-answers g c =
    let asked : c.args.format ≡ format.Text = search rules in
    rw asked (λ world told. gives_text _ _ _ _ _ _ (c.run_list_plan.ensures.answers world told))

pub returns-in-Json-clause-answers : goal.returns-in-Json-clause-answers
returns-in-Json-clause-answers g c =
    let asked : c.args.format ≡ format.Json = search rules in
    rw asked (λ world told. gives_json _ _ _ _ _ _ (c.run_list_plan_json.ensures.answers world told))

pub returns-in-Text-clause-given : goal.returns-in-Text-clause-given
returns-in-Text-clause-given g c =
    let asked : c.args.format ≡ format.Text = search rules in rw asked c.run_list_plan.ensures.given

pub returns-in-Json-clause-given : goal.returns-in-Json-clause-given
returns-in-Json-clause-given g c =
    let asked : c.args.format ≡ format.Json = search rules in rw asked c.run_list_plan_json.ensures.given
