use Rattle.std.proofs.Common.{◌∙◌}
use Rattle.ice_filter.proofs.Utf.{read_as_text, read_as_none}
use Rattle.ice_filter.proofs.lexer.text_in.Goals as goal

pub returns-in_ok-from_str-in-Ok : goal.returns-in_ok-from_str-in-Ok
returns-in_ok-from_str-in-Ok c =
    read_as_text c.args.bytes.now c.from_string.result c.in-Ok.ensures.cases.1 (c.from_string.ensures ∙
    c.in_ok-from_str-in-Ok.ensures.ok ∙ c.in-Ok.ensures.cases.0)

pub returns-in-Err : goal.returns-in-Err
returns-in-Err c = read_as_none c.args.bytes.now c.in-Err.ensures.cases.0
