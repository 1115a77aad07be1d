use Rattle.std.proofs.Common.{refl}
use Rattle.std.proofs.lemmas.Str.{is_utf8-from_IsUtf8}
use Rattle.ice_state_sections.specs.Parts.{text}
use Rattle.ice_state_sections.proofs.Texts.{is_utf8-from_not}
use Rattle.ice_state_sections.proofs.parts.text_of.Goals as goal

pub returns-in_default : goal.returns-in_default
unfolding text
returns-in_default c = λ _. rw (
  c.in_ok-run.ensures,
  is_utf8-from_not c.in_ok-run.run'.now
      c.in_default.ensures.cases.0,
) refl

pub returns : goal.returns
unfolding text
returns c = rw (
  c.in_ok-run.ensures,
  is_utf8-from_IsUtf8 c.in_ok-run.run'.now c.in-Ok.ensures.cases.1,
  c.from_string-text.ensures,
  c.in_ok-from_str.ensures.ok,
  c.in-Ok.ensures.cases.0,
) refl
