use Rattle.std.proofs.Common.{◌≡◌, rules}
use Rattle.icescan_words.specs.declared.command.Relaxed.TheVariants as relaxed
use Rattle.icescan_commands.proofs.Answering.{gives_explained}
use Rattle.icescan_commands.proofs.forms.write_asked.Goals as goal

pub returns-in-Plan-clause-answers : goal.returns-in-Plan-clause-answers
returns-in-Plan-clause-answers g c =
    let asked : c.args.what ≡ relaxed.Plan = search rules in rw asked c.write_plan.ensures.answers

pub returns-in-Plan-clause-given : goal.returns-in-Plan-clause-given
returns-in-Plan-clause-given g c =
    let asked : c.args.what ≡ relaxed.Plan = search rules in rw asked c.write_plan.ensures.given

pub returns-in-Explanation-clause-answers : goal.returns-in-Explanation-clause-answers
returns-in-Explanation-clause-answers g c =
    let asked : c.args.what ≡ relaxed.Explanation = search rules in
    let ran = c.explain_file in
    rw asked (λ world told. gives_explained c.args.format _ _ _ ran.result _ _ (ran.ensures.written world told)
    (ran.ensures.refused world told) (ran.ensures.front world told))

pub returns-in-Explanation-clause-given : goal.returns-in-Explanation-clause-given
returns-in-Explanation-clause-given g c =
    let asked : c.args.what ≡ relaxed.Explanation = search rules in rw asked c.explain_file.ensures.given

pub returns-in-Plan-clause-nothing : goal.returns-in-Plan-clause-nothing
returns-in-Plan-clause-nothing g c = c.write_plan.ensures.refusal.nothing

pub returns-in-Explanation-clause-nothing : goal.returns-in-Explanation-clause-nothing
returns-in-Explanation-clause-nothing g c = c.explain_file.ensures.refusal.nothing
