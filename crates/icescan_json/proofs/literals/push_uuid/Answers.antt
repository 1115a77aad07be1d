use Rattle.std.proofs.Common.{◌≡◌, ℕ, true, false, List, Option, None, Some, refl}
use Rattle.uuid.specs.Text.{parsed as uuid_in}
use Rattle.icescan_json.specs.Expressions.{uuid_or}
use Rattle.icescan_json.proofs.literals.push_uuid.Goals as goal

kept : (text : List ℕ) (o : Option (List ℕ)) → (((u : List ℕ) × (o ≡ Some u)) → false ≡ true) → uuid_or text o ≡ text
kept text None h = refl
kept text (Some u) h = let e : false ≡ true = h (u, refl) in absurd cc

pub returns-in-Err : goal.returns-in-Err
returns-in-Err c =
    rw (kept c.args.literal.now (uuid_in c.args.literal.now) c.in-Err.ensures.ok.1)
    (rw c.as_bytes-in-Err.ensures.value at c.put_text-in-Err.ensures)
