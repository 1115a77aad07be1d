-- What is asked of a table, in bytes.
use Rattle.std.specs.Prelude.{◌≡◌, ◌⊎◌, ℕ, ℤ, List, [], ◌∷◌, Option, Some, None, Result, Ok, Err}
use Rattle.std.specs.List.{AllByRecursion}
use Rattle.std.specs.Str.{IsUtf8}
use Rattle.ice_meta.specs.declared.metadata.Target.{Target}
use Rattle.ice_meta.specs.declared.metadata.Target.TheVariants as target
use Rattle.icescan_text.specs.declared.request.Request.{Request}
use Rattle.icescan_c_requests.specs.declared.endings.Refusal.{Refusal}
use Rattle.icescan_c_requests.specs.declared.endings.Refusal.TheVariants as refusal

-- the text of bytes; none where there are none
abbrev pub text_in : List ℕ → Option (List ℕ)
text_in [] = None
text_in (byte ∷ bytes) = Some (byte ∷ bytes)

-- the branch or tag of a name, or the current snapshot
abbrev pub target_in : List ℕ → Target
target_in [] = target.Main
target_in (byte ∷ bytes) = target.Ref (byte ∷ bytes)

abbrev pub by_name : List ℕ → List ℕ → Request
by_name name filter = record { target = target_in name; filter = text_in filter }

abbrev pub by_id : ℤ → List ℕ → Request
by_id id filter = record { target = target.Snapshot id; filter = text_in filter }

-- Reading these texts gives this where each of them is UTF-8, unless memory ran out.
abbrev pub ReadsTexts : {X : Type 0} → List (List ℕ) → X → Result X Refusal → Type 0
ReadsTexts texts made (Ok x) = AllByRecursion IsUtf8 texts × (x ≡ made)
ReadsTexts texts made (Err refused) =
    (refused ≡ refusal.Memory) ⊎ ((AllByRecursion IsUtf8 texts → ⊥) × (refused ≡ refusal.Encoding))
