use Rattle.icescan_json.proofs.types.field_type.Goals as goal

pub returns-in-Some : goal.returns-in-Some
returns-in-Some c = rw (c.in-Some.is, ← c.as_str.ensures, ← c.in_ok-transform.ensures) c.value_type.ensures
