-- The text of an object, member by member.
use Rattle.std.proofs.Common.{◌≡◌, ℕ, suc, List, [], ◌∷◌, ◌++◌, map, refl, sym, ap, ◌∙◌, append_assoc}
use Rattle.std.specs.Prelude.{codes, nat_lt}
use Rattle.std.specs.Borrow.{Bor}
use Rattle.json.specs.Print.{quoted}
use Rattle.serde_json.specs.Written.{comma_if, compact_text, members_text}
use Rattle.icescan_forms.specs.Objects.{member_of, members_of, object_line, value_json}
use Rattle.icescan_forms.specs.ObjectTexts.{member_text, members_sent}
use Rattle.icescan_forms.specs.Pieces.{each_from}
use Rattle.icescan_forms.specs.declared.objects.Value.{Value}
use Rattle.icescan_forms.proofs.Each.{later}

members_each : (n : ℕ) (ms : List (Bor (List ℕ) × Value)) → members_text (nat_lt 0 n) (members_of (map member_of ms))
    ≡ each_from (λ _ m. member_text (member_of m)) n ms ++ 125 ∷ []
members_each n [] = refl
members_each n (m ∷ ms) =
    let name = quoted m.0.now in
    let value = compact_text (value_json m.1) in
    let rest = each_from (λ _ m. member_text (member_of m)) (suc n) ms in
    ap (λ l. comma_if (nat_lt 0 n) ++ (name ++ (58 ∷ (value ++ l)))) (rw (later n) at (members_each (suc n) ms))
    ∙ ap (λ l. comma_if (nat_lt 0 n) ++ l) (sym (append_assoc name (58 ∷ value) (rest ++ 125 ∷ []))
    ∙ sym (append_assoc (name ++ (58 ∷ value)) rest (125 ∷ [])))
    ∙ sym (append_assoc (comma_if (nat_lt 0 n)) ((name ++ (58 ∷ value)) ++ rest) (125 ∷ []))

pub object_is : (ms : List (Bor (List ℕ) × Value)) → object_line (map member_of ms)
    ≡ codes "{" ++ (members_sent ms ++ codes "}\n")
unfolding object_line
object_is ms = rw (members_each 0 ms) (simp append_assoc)
