use Rattle.std.proofs.Common.{◌∙◌}
use Rattle.ice_value.proofs.Texts.{read_as_text, read_as_none, text_keeps}
use Rattle.ice_value.proofs.bound.read_text.Goals as goal

pub returns-in_ok-from_str-in-Ok-clause-held : goal.returns-in_ok-from_str-in-Ok-clause-held
returns-in_ok-from_str-in-Ok-clause-held c =
    read_as_text c.args.bytes.now c.from_string.result c.in-Ok.ensures.cases.1 (c.from_string.ensures ∙
    c.in_ok-from_str-in-Ok.ensures.ok ∙ c.in-Ok.ensures.cases.0)

pub returns-in-Err-clause-held : goal.returns-in-Err-clause-held
returns-in-Err-clause-held c = read_as_none c.args.bytes.now c.in-Err.ensures.cases.0

pub returns-in_err-from_str-in-Ok-clause-memory : goal.returns-in_err-from_str-in-Ok-clause-memory
returns-in_err-from_str-in-Ok-clause-memory c = text_keeps c.from_residual.result c.args.bytes.now
    c.in-Ok.ensures.cases.1
