use Rattle.std.proofs.Common.{refl}
use Rattle.std.proofs.lemmas.Str.{is_utf8-from_IsUtf8}
use Rattle.avro_schema.specs.Texts.{json_of}
use Rattle.avro_schema.proofs.Utf.{is_utf8-from_not}
use Rattle.avro_schema.proofs.texts.json_from.Goals as goal

pub returns-in_default : goal.returns-in_default
unfolding json_of
returns-in_default c = λ _. rw (is_utf8-from_not c.args.text.now c.in_default.ensures.cases.0) refl

pub returns-in-Ok-from_str : goal.returns-in-Ok-from_str
unfolding json_of
returns-in-Ok-from_str c = rw (
  is_utf8-from_IsUtf8 c.args.text.now c.in-Ok.ensures.cases.1,
  ← c.in-Ok.ensures.cases.0,
  c.in-Ok-from_str.ensures.ok,
) refl

pub returns-in_default-classify : goal.returns-in_default-classify
unfolding json_of
returns-in_default-classify c = λ _. rw (
  is_utf8-from_IsUtf8 c.args.text.now c.in-Ok.ensures.cases.1,
  ←
      c.in-Ok.ensures.cases.0,
  c.in-Err.ensures.err (λ m. c.in_default-classify.not-Memory (c.classify.ensures.memory.1
      m)),
) refl
