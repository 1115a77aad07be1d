-- Ranges of things that have texts, and the texts that were made of them.
use Rattle.std.specs.Prelude.{◌≡◌, ℕ, ◌+◌, ◌*◌, ◌<◌, List, length, take, drop, Option, IfSome, IsTrue, slice_index_or}
use Rattle.std.specs.List.{concat}
use Rattle.icescan_print.specs.declared.by_workers.Draft.{Draft}

-- the text of so many things from a place on, or of those that there are
abbrev pub range_text : List (List ℕ) → ℕ → ℕ → List ℕ
range_text texts first count = concat (take count (drop first texts))

-- where a draft stands here and has a whole text, it is this one
abbrev pub IsDraftOf : Option Draft → List ℕ → Type 0
IsDraftOf draft text = IfSome draft (λ made. IsTrue made.whole → made.page ≡ text)

-- each draft is of a range: each has as many things, one behind the other from a place on
abbrev pub AreTexts : List (List ℕ) → ℕ → ℕ → List (Option Draft) → Type 0
AreTexts texts first each drafts = (i : ℕ) (d : Option Draft) → i < length drafts →
    IsDraftOf (slice_index_or drafts i d) (range_text texts (first + i * each) each)
