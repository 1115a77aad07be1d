use Rattle.std.proofs.Common.{refl}
use Rattle.uuid.specs.Text.{parsed}
use Rattle.ice_meta.specs.Tables.{uuid_in}
use Rattle.ice_meta.proofs.Refused.{none_parsed}
use Rattle.ice_meta.proofs.tables.uuid_at.Goals as goal

pub returns-in-Err : goal.returns-in-Err
unfolding uuid_in
returns-in-Err c = λ _. rw (c.in_ok-text.ensures, none_parsed (parsed c.in_ok-text.text.now) c.in-Err.ensures.ok) refl
