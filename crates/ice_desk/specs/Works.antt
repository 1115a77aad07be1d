-- What one worker does: it draws tickets, and reads and takes their manifests.
use Rattle.std.specs.Prelude.{◌≡◌, ◌⊎◌, ℕ, zero, suc, ◌%◌, ◌<◌, ◌≤◌, Bool, ◌&&◌, ◌||◌, not, cond, nat_lt, IsTrue}
use Rattle.std.specs.Prelude.{List, [], ◌∷◌, ◌++◌, Option, Some, None}
use Rattle.std.specs.List.{count_by, sum_by}
use Rattle.ice_manifest_reading.specs.declared.row.Row.{Row}
use Rattle.ice_state.specs.Contents.{Content, World, IsOf, add, is_row_taken, took}
use Rattle.ice_state.specs.Scans.{Scanned}
use Rattle.ice_desk.specs.declared.desk.Desk.{Desk}
use Rattle.ice_desk.specs.declared.desk.Seat.{Seat}
use Rattle.ice_desk.specs.declared.left.Left.{Left}
use Rattle.ice_desk.specs.declared.left.Served.{Served}
use Rattle.ice_desk.specs.declared.left.Served.TheVariants as served
use Rattle.ice_desk.specs.Left.{all_left, failed}
use Rattle.ice_desk.specs.Worlds.{HasAt}
use Rattle.ice_desk.specs.Wanted.{IsContentOf}
use Rattle.ice_desk.specs.Tickets.{times, marking, seeing}
use Rattle.ice_desk.specs.Seats.{hand_of, limit_of}

-- P holds of at least k of the numbers
abbrev pub AtLeast : (ℕ → Type 0) → List ℕ → ℕ → Type 0
AtLeast P [] k = k ≡ 0
AtLeast P (t ∷ ts) k = AtLeast P ts k ⊎ ((j : ℕ) × (k ≡ suc j) × P t × AtLeast P ts j)

-- the path of the row that stands at i is so
abbrev pub IsPathAt : (List ℕ → Type 0) → List Row → ℕ → Type 0
IsPathAt so [] i = ⊥
IsPathAt so (row ∷ rows) zero = so row.path
IsPathAt so (row ∷ rows) (suc i) = IsPathAt so rows i

-- the world lacks the manifest i
abbrev pub Lacks : Option World → Scanned → ℕ → Type 0
Lacks world scan i = IsPathAt (λ path. HasAt world path None) scan.wanted i

-- reading the manifest i may fail
abbrev pub MayFailAt : (List ℕ → Type 0) → Scanned → ℕ → Type 0
MayFailAt may_fail scan i = IsPathAt may_fail scan.wanted i

-- how many of the numbers are tickets
abbrev pub tickets_among : Desk → List ℕ → ℕ
tickets_among desk ts = count_by (λ t. nat_lt t (limit_of desk)) ts

-- the number is a ticket, and its manifest is so
abbrev pub IsTicketOf : Desk → (ℕ → Type 0) → ℕ → Type 0
IsTicketOf desk so t = (t < limit_of desk) × so (t % desk.manifests)

-- how many of the tickets have a manifest that is not so
abbrev pub missed : Desk → (ℕ → Bool) → List ℕ → ℕ
missed desk so ts = sum_by (λ t. cond (nat_lt t (limit_of desk) && not (so (t % desk.manifests))) 1 0) ts

-- the seat saw the manifest marked
abbrev pub had_seen : Seat → ℕ → Bool
had_seen seat i = nat_lt 0 (times i (hand_of seat).seen)

-- where the world is told and the content was that of a set, it is now that of the set and the row i
abbrev pub Takes : Option World → Scanned → ℕ → Content → Content → Type 0
Takes world scan i before after = (w : World) (ts : List Bool) → world ≡ Some w → IsContentOf w scan before ts
    → IsContentOf w scan after (add ts i)

-- the manifest i is left: the seat did nothing more, and the state is as it was
abbrev pub Leaves : Seat → Seat → Content → Content → Type 0
Leaves old new before after = (hand_of new ≡ hand_of old) × (after ≡ before)

-- what becomes of the seat and of the state where the manifest i is served so
abbrev pub Serves : Option World → (List ℕ → Type 0) → Scanned → ℕ → Seat → Seat → Content → Content → Served → Type 0
Serves world may_fail scan i old new before after served.Taken = (hand_of new ≡ marking (hand_of old) i)
    × ((bytes : List ℕ) × (after ≡ took scan before i bytes)) × Takes world scan i before after
Serves world may_fail scan i old new before after served.Absent = Leaves old new before after × Lacks world scan i
Serves world may_fail scan i old new before after served.Device = Leaves old new before after
    × MayFailAt may_fail scan i
Serves world may_fail scan i old new before after served.Memory = Leaves old new before after
Serves world may_fail scan i old new before after served.Marked = (hand_of new ≡ seeing (hand_of old) i)
    × (after ≡ before)

-- what a worker did between two moments
pub record Worked (world : Option World) (may_fail : List ℕ → Type 0) (desk : Desk) (scan : Scanned) (old new : Seat)
    (before after : Content) (left : Left) : Type 0 where
  -- the numbers that it drew
  pub tickets : List ℕ
  pub drawn : (hand_of new).drawn ≡ (hand_of old).drawn ++ tickets
  pub of_scan : IsOf scan after
  -- what was taken is still taken, and what it took were manifests of its tickets
  pub kept : (i : ℕ) → IsTrue (is_row_taken before i) → IsTrue (is_row_taken after i)
  pub gained : (i : ℕ) → IsTrue (is_row_taken after i) → IsTrue (is_row_taken before i)
      ⊎ ((t : ℕ) × (0 < times t tickets) × (t < limit_of desk) × (t % desk.manifests ≡ i))
  -- a content of the world stays one
  pub content : (w : World) (ts : List Bool) → world ≡ Some w → IsContentOf w scan before ts
      → (us : List Bool) × IsContentOf w scan after us
  -- each ticket whose manifest is not taken was left for one of the causes
  pub untaken : missed desk (λ i. is_row_taken after i) tickets ≤ all_left left
  -- and where it was not seen marked either, a read or a take failed
  pub unseen : missed desk (λ i. is_row_taken after i || had_seen new i) tickets ≤ failed left
  -- nothing but a ticket is left, and each for its cause
  pub few : all_left left ≤ tickets_among desk tickets
  pub absent : AtLeast (IsTicketOf desk (Lacks world scan)) tickets left.absent
  pub device : AtLeast (IsTicketOf desk (MayFailAt may_fail scan)) tickets left.device
  pub seen : AtLeast (IsTicketOf desk (λ i. IsTrue (had_seen new i))) tickets left.marked
  -- what it marked is taken
  pub marked : (i : ℕ) → 0 < times i (hand_of new).marked
      → (0 < times i (hand_of old).marked) ⊎ IsTrue (is_row_taken after i)
