use Rattle.std.proofs.Common.{refl}
use Rattle.std.proofs.lemmas.Str.{is_utf8-from_IsUtf8}
use Rattle.ice_value.proofs.cell.is_text_of.Goals as goal

pub returns-in-String : goal.returns-in-String
returns-in-String c = let utf8 = is_utf8-from_IsUtf8 c.args.text.now c.utf8.text in rw (c.in-String.is, utf8) refl
