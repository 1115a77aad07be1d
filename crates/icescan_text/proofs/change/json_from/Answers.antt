use Rattle.std.proofs.Common.{refl}
use Rattle.std.proofs.lemmas.Str.{is_utf8-from_IsUtf8}
use Rattle.ice_meta.proofs.Refused.{is_utf8-from_not}
use Rattle.icescan_text.specs.Changes.{text_json}
use Rattle.icescan_text.proofs.change.json_from.Goals as goal

pub returns-in_default : goal.returns-in_default
unfolding text_json
returns-in_default c = λ _. rw (is_utf8-from_not c.args.bytes.now c.in_default.ensures.cases.0) refl

pub returns-in-Ok-from_str : goal.returns-in-Ok-from_str
unfolding text_json
returns-in-Ok-from_str c =
    let utf8 = is_utf8-from_IsUtf8 c.args.bytes.now c.in-Ok.ensures.cases.1 in
    rw (utf8, ← c.in-Ok.ensures.cases.0, c.in-Ok-from_str.ensures.ok) refl

pub returns-in_default-classify : goal.returns-in_default-classify
unfolding text_json
returns-in_default-classify c =
    let utf8 = is_utf8-from_IsUtf8 c.args.bytes.now c.in-Ok.ensures.cases.1 in
    let none = c.in-Err.ensures.err (λ m. c.in_default-classify.not-Memory (c.classify.ensures.memory.1 m)) in
    λ _. rw (utf8, ← c.in-Ok.ensures.cases.0, none) refl
