use Rattle.std.proofs.Common.{Some, None, sym, refl}
use Rattle.avro_schema.specs.Joined.{joined}
use Rattle.avro_schema.proofs.Keys.{found}
use Rattle.avro_schema.proofs.names.used_at.Goals as goal

pub returns-in_default : goal.returns-in_default
returns-in_default c = λ _. rw (
  found (joined c.args.name) c.args.seen.names.entries (Some c.in-Some-Some.field-0.now)
      c.in-Some-Some.ensures.value,
  c.in-Some-Some.field-0-is,
  sym c.in_default.ensures,
) refl

pub returns-then-is_higher : goal.returns-then-is_higher
returns-then-is_higher c = λ _. rw (
  found (joined c.args.name) c.args.seen.names.entries
      (Some c.in-Some-Some.field-0.now) c.in-Some-Some.ensures.value,
  c.in-Some-Some.field-0-is,
  sym c.in-Some.ensures,
  sym c.if-is_higher.ensures,
) refl

pub returns-in-None : goal.returns-in-None
returns-in-None c = λ _. rw (found (joined c.args.name) c.args.seen.names.entries None c.in-None.ensures.value) refl

pub returns-in-Some-None : goal.returns-in-Some-None
returns-in-Some-None c = λ _. rw (
  found (joined c.args.name) c.args.seen.names.entries (Some c.in-Some-None.field-0.now)
      c.in-Some-None.ensures.value,
  c.in-Some-None.field-0-is,
) refl

pub returns : goal.returns
returns c = rw (
  found (joined c.args.name) c.args.seen.names.entries (Some c.in-Some-Some.field-0.now)
      c.in-Some-Some.ensures.value,
  c.in-Some-Some.field-0-is,
  sym c.in-Some.ensures,
  sym c.if-is_higher.ensures,
  c.in_ok-copied-in-Some-Some.ensures,
) refl
