use Rattle.std.proofs.Common.{◌∙◌}
use Rattle.std.proofs.lemmas.Str.{is_utf8-from_IsUtf8}
use Rattle.ice_state_sections.proofs.Added.{a_text}
use Rattle.ice_state_sections.proofs.adding.add_text.Goals as goal

pub returns : goal.returns
returns c = rw (← (c.as_bytes.ensures.value ∙ c.as_str-value.ensures))
    (a_text _ _ _ (is_utf8-from_IsUtf8 _ c.as_bytes.ensures.utf8) c.in_ok-add_run.ensures)
