-- The text of members, as it is written. No public contract cites these words. (58 is the colon.)
use Rattle.std.specs.Prelude.{ℕ, List, ◌∷◌, ◌++◌}
use Rattle.std.specs.Borrow.{Bor}
use Rattle.json.specs.Print.{quoted}
use Rattle.serde_json.specs.Data.{Data}
use Rattle.serde_json.specs.Written.{compact_text}
use Rattle.icescan_forms.specs.Objects.{member_of}
use Rattle.icescan_forms.specs.Pieces.{each_from}
use Rattle.icescan_forms.specs.declared.objects.Value.{Value}

abbrev pub member_text : List ℕ × Data → List ℕ
member_text m = quoted m.0 ++ (58 ∷ compact_text m.1)

abbrev pub members_sent : List (Bor (List ℕ) × Value) → List ℕ
members_sent ms = each_from (λ _ m. member_text (member_of m)) 0 ms
