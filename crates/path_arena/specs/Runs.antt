-- Strings that are interned one after another.
use Rattle.std.specs.Prelude.{◌≡◌, ℕ, ◌+◌, ◌≤◌, ◌++◌, Bool, if◌then◌else◌, List, [], ◌∷◌, length, Result}
use Rattle.std.specs.Prelude.{IsOk, OnOk}
use Rattle.std.specs.List.{list_any, AllByRecursion}
use Rattle.std.specs.Str.{bytes_eq}
use Rattle.path_arena.specs.declared.arena.ArenaFault.{ArenaFault}
use Rattle.path_arena.specs.Strings.{Kept}
use Rattle.path_arena.specs.Arena.{Has, Interned, HasRoom, Spends}

-- whether the string is among them
abbrev pub has : List (List ℕ) → List ℕ → Bool
has ss t = list_any (λ s. bytes_eq s t) ss

-- those of the second list that are not in the first, each once, in the order in which they come
abbrev pub new_to : List (List ℕ) → List (List ℕ) → List (List ℕ)
new_to ss [] = []
new_to ss (t ∷ ts) = if has ss t then new_to ss ts else t ∷ new_to (ss ++ t ∷ []) ts

-- how many bytes they have in all
abbrev pub bytes_of : List (List ℕ) → ℕ
bytes_of [] = 0
bytes_of (s ∷ ss) = length s + bytes_of ss

-- what interning a string promises, from one arena to the next
abbrev pub Interns : Kept → List ℕ → Result ℕ ArenaFault → Kept → Type 0
Interns a s answer b =
    OnOk answer (Interned a.strings s b.strings) × (Has a.strings s → IsOk answer × (b ≡ a)) ×
    (HasRoom a s → IsOk answer) × Spends a s b

-- what the interns of a run answer: the string's number each, or why it was not taken in
abbrev pub Answers : Type 0
Answers = List (Result ℕ ArenaFault)

-- one string after another is interned, each with its answer
abbrev pub Run : Kept → List (List ℕ) → Answers → Kept → Type 0
Run a [] [] c = c ≡ a
Run a [] (answer ∷ answers) c = ⊥
Run a (s ∷ ss) [] c = ⊥
Run a (s ∷ ss) (answer ∷ answers) c = (b : Kept) × Interns a s answer b × Run b ss answers c

-- there is room for those of the strings that are new, there are numbers for them, and none of the strings is too long
abbrev pub HasRoomFor : Kept → List (List ℕ) → Type 0
HasRoomFor a ss =
    let news = new_to a.strings ss in
    (length news ≤ a.ids) × (bytes_of news ≤ a.bytes) × (length a.strings + length news ≤ 4294967295) ×
    AllByRecursion (λ s. length s ≤ 65535) ss
