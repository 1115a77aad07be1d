use Rattle.std.proofs.Common.{refl}
use Rattle.std.proofs.lemmas.Str.{is_utf8-from_IsUtf8}
use Rattle.ice_meta.specs.Tables.{text_json}
use Rattle.ice_meta.proofs.Refused.{is_utf8-from_not}
use Rattle.ice_meta.proofs.metadata.json_from.Goals as goal

pub returns-in_default-clause-read : goal.returns-in_default-clause-read
unfolding text_json
returns-in_default-clause-read c = λ _. rw (is_utf8-from_not c.args.bytes.now c.in_default.ensures.cases.0) refl

pub returns-in-Ok-from_str-clause-read : goal.returns-in-Ok-from_str-clause-read
unfolding text_json
returns-in-Ok-from_str-clause-read c = rw (
  is_utf8-from_IsUtf8 c.args.bytes.now c.in-Ok.ensures.cases.1,
  ←
      c.in-Ok.ensures.cases.0,
  c.in-Ok-from_str.ensures.ok,
) refl

pub returns-in_default-classify-clause-read : goal.returns-in_default-classify-clause-read
unfolding text_json
returns-in_default-classify-clause-read c = λ _. rw (
  is_utf8-from_IsUtf8 c.args.bytes.now c.in-Ok.ensures.cases.1,
  ←
      c.in-Ok.ensures.cases.0,
  c.in-Err.ensures.err (λ m. c.in_default-classify.not-Memory (c.classify.ensures.memory.1
      m)),
) refl
