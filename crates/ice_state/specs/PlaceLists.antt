-- The places of the delete files that apply, line by line, and how one list has them all.
use Rattle.std.specs.Prelude.{◌≡◌, ℕ, ◌<◌, ◌≤◌, List, [], ◌∷◌, ◌++◌, All, length, map, slice_index}
use Rattle.std.specs.List.{slice_range}
use Rattle.std.specs.List.Sorted.{IsPermutation, IsSorted}
use Rattle.std.specs.Ordering.{nat_cmp}
use Rattle.ice_state.specs.declared.plan.places.Ends.{Ends}

-- the places, among the delete files of a plan, of those that apply to a data file
pub record LinePlaces : Type 0 where
  pub positions : List ℕ
  pub equalities : List ℕ

-- those of a data file to which none applies
abbrev pub no_places : LinePlaces
no_places = record { positions = []; equalities = [] }

-- the line that starts at this place of the list, and whose parts end there
abbrev pub line_from : ℕ → Ends → List ℕ → LinePlaces
line_from start e places = record {
  positions = slice_range places start e.positions;
  equalities = slice_range places e.positions e.equalities;
}

-- the lines of the list, the first from this place on, and each other one from the end of the one before it
abbrev pub lines_from : ℕ → List Ends → List ℕ → List LinePlaces
lines_from start [] places = []
lines_from start (e ∷ es) places = line_from start e places ∷ lines_from e.equalities es places

-- from this place on the ends rise, and none is past n
abbrev pub RiseWithin : ℕ → ℕ → List Ends → Type 0
RiseWithin n start [] = start ≤ n
RiseWithin n start (e ∷ es) = (start ≤ e.positions) × (e.positions ≤ e.equalities) × RiseWithin n e.equalities es

-- where the last line ends, if the first one starts at this place
abbrev pub end_of : ℕ → List Ends → ℕ
end_of start [] = start
end_of start (e ∷ es) = end_of e.equalities es

-- the places of numbers: the ranks have each number's place
abbrev pub places_at : List ℕ → List ℕ → List ℕ
places_at ranks numbers = map (slice_index ranks) numbers

abbrev pub AreRanked : List ℕ → List ℕ → Type 0
AreRanked ranks numbers = All (λ n. n < length ranks) numbers

-- the same numbers, the lower ones first
pub record IsInOrder (numbers ordered : List ℕ) : Type 0 where
  pub same : IsPermutation numbers ordered
  pub rising : IsSorted nat_cmp ordered

-- these numbers more, the lower ones first
pub record GainsInOrder (old new numbers : List ℕ) : Type 0 where
  pub part : List ℕ
  pub added : new ≡ old ++ part
  pub ordered : IsInOrder numbers part

-- one line more, of these places, the lower ones first
pub record GainsLine (old new : List LinePlaces) (of_positions of_equalities : List ℕ) : Type 0 where
  pub line : LinePlaces
  pub added : new ≡ old ++ line ∷ []
  pub positions : IsInOrder of_positions line.positions
  pub equalities : IsInOrder of_equalities line.equalities

-- the ranks of places: where each stands in the order
pub record AreRanks (order ranks : List ℕ) : Type 0 where
  pub many : length ranks ≡ length order
  pub places : (k : ℕ) → k < length order → slice_index ranks (slice_index order k) ≡ k
