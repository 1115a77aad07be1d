use Rattle.std.proofs.Common.{refl}
use Rattle.std.proofs.lemmas.Str.{is_utf8-from_IsUtf8}
use Rattle.avro_file_parts.specs.Parts.{string_at}
use Rattle.avro_file_parts.proofs.Texts.{is_utf8-from_not}
use Rattle.avro_file_parts.proofs.leaf.text_of.Goals as goal

pub returns-in_default : goal.returns-in_default
unfolding string_at
returns-in_default c = rw (c.in_ok-run.ensures, is_utf8-from_not c.in_ok-run.run'.now c.in_default.ensures.cases.0) refl

pub returns : goal.returns
unfolding string_at
returns c = rw (
  c.in_ok-run.ensures,
  is_utf8-from_IsUtf8 c.in_ok-run.run'.now c.in-Ok.ensures.cases.1,
  c.in-Ok.ensures.cases.0,
) refl
