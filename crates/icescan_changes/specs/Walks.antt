-- What became of a list from one time to another: a walk over both lists at once, by the paths of what they have.
use Rattle.std.specs.Prelude.{◌≡◌, ℕ, ◌+◌, List, [], ◌∷◌, ◌++◌, map, filter, if◌then◌else◌, Option, Some, None}
use Rattle.std.specs.Str.{bytes_eq}
use Rattle.std.specs.Cmp.Lexicographic.{slice_cmp}
use Rattle.std.specs.Ordering.{nat_cmp}
use Rattle.std.specs.declared.cmp.Ordering.{Ordering}
use Rattle.std.specs.declared.cmp.Ordering.TheVariants.{Less, Equal, Greater}

-- what is told in each of the cases of a comparison
abbrev pub by_order : {A : Type 0} → Ordering → A → A → A → A
by_order Less less equal greater = less
by_order Equal less equal greater = equal
by_order Greater less equal greater = greater

-- the next place in the earlier list, and in the later one, where the first things of both have paths in this order
abbrev pub past_earlier : Ordering → ℕ → ℕ
past_earlier Less i = i + 1
past_earlier Equal i = i + 1
past_earlier Greater i = i

abbrev pub past_later : Ordering → ℕ → ℕ
past_later Less j = j
past_later Equal j = j + 1
past_later Greater j = j + 1

-- `path` is how each thing is named, `removed` and `added` say that only one list has a thing, and `both` says what is
-- told of two things of one path.
module _ {X C : Type 0} (path : X → List ℕ) (removed added : X → C) (both : X → X → List C) where
  abbrev pub order : X → X → Ordering
  order x y = slice_cmp nat_cmp (path x) (path y)

  -- what is told of the first things of both lists: of the one whose path comes first, or of both
  abbrev pub first_told : X → X → List C
  first_told x y = by_order (order x y) (removed x ∷ []) (both x y) (added y ∷ [])

  -- from the thing x of the earlier list on, where `rest` tells of those behind it
  abbrev pub told_from : X → (List X → List C) → List X → List C
  told_from x rest [] = removed x ∷ rest []
  told_from x rest (y ∷ ys) = first_told x y
      ++ by_order (order x y) (rest (y ∷ ys)) (rest ys) (told_from x rest ys)

  -- the whole walk
  abbrev pub walked : List X → List X → List C
  walked [] ys = map added ys
  walked (x ∷ xs) ys = told_from x (walked xs) ys

  -- ---- what the walk means, for each path

  -- the thing of a path, where a list has one
  abbrev pub at : List X → List ℕ → Option X
  at [] p = None
  at (x ∷ xs) p = if bytes_eq p (path x) then Some x else at xs p

  -- the paths rise: each stands before those behind it
  abbrev pub Above : List ℕ → List X → Type 0
  Above p [] = Unit {0}
  Above p (x ∷ xs) = (slice_cmp nat_cmp p (path x) ≡ Less) × Above p xs

  abbrev pub Rises : List X → Type 0
  Rises [] = Unit {0}
  Rises (x ∷ xs) = Above (path x) xs × Rises xs

  -- what is told of a path, by what the earlier and the later list have of it
  abbrev pub told_by : Option X → Option X → List C
  told_by None None = []
  told_by (Some x) None = removed x ∷ []
  told_by None (Some y) = added y ∷ []
  told_by (Some x) (Some y) = both x y

  -- of what is told, that which is about a path
  abbrev pub about_path : (C → List ℕ) → List ℕ → List C → List C
  about_path about p cs = filter (λ c. bytes_eq p (about c)) cs
