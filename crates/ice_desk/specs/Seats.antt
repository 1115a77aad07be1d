-- What contracts say of a desk and its seats.
use Rattle.std.specs.Prelude.{◌≡◌, ◌⊎◌, ℕ, ◌+◌, ◌*◌, ◌%◌, ◌^◌, ◌<◌, ◌≤◌, List, [], length, nat_lt, Bool, true, false}
use Rattle.std.specs.Prelude.{IsTrue}
use Rattle.std.specs.List.{sum_by}
use Rattle.ice_desk.specs.Tickets.{late, times, drawing, seeing, one_seat}
use Rattle.ice_desk.specs.declared.hand.Hand.{Hand}
use Rattle.ice_desk.specs.declared.desk.Desk.{Desk}
use Rattle.ice_desk.specs.declared.desk.Seat.{Seat}
use Rattle.ice_desk.specs.declared.desk.Claim.{Claim}
use Rattle.ice_desk.specs.declared.desk.Claim.TheVariants.{Index, Done}

-- the first number that is no ticket
abbrev pub limit_of : Desk → ℕ
limit_of desk = desk.manifests * desk.rounds

-- what the seat drew, marked and saw
abbrev pub hand_of : Seat → Hand
hand_of seat = seat.place.me.0

-- the seat drew a number that is no ticket
abbrev pub had_done : Desk → Seat → Bool
had_done desk seat = nat_lt 0 (late (limit_of desk) (hand_of seat).drawn)

pub record IsSeatOf (desk : Desk) (seat : Seat) : Type 0 where
  pub table : seat.place.table_id ≡ desk.table.shared.table_id
  pub one : seat.place.me.0.seats ≡ 1
  pub free : seat.place.me.1 ≡ []
  pub done : seat.done ≡ had_done desk seat

-- a seat that has done nothing
abbrev pub IsFresh : Seat → Type 0
IsFresh seat = hand_of seat ≡ one_seat

-- the seat drew this number, which is no less than how many it drew before, and small
abbrev pub Drew : Seat → Seat → ℕ → Type 0
Drew old new t = (hand_of new ≡ drawing (hand_of old) t) × (length (hand_of old).drawn ≤ t) × (t + 1 < 2 ^ 32)

-- what a claim does: it draws a ticket and gives its manifest; or it draws none, or what is no ticket, and from then on
-- no more
abbrev pub Claims : Desk → Seat → Seat → Claim → Type 0
Claims desk old new (Index i) = (had_done desk old ≡ false)
    × ((t : ℕ) × Drew old new t × (t < limit_of desk) × (i ≡ t % desk.manifests))
Claims desk old new Done = IsTrue (had_done desk new)
    × ((IsTrue (had_done desk old) × (hand_of new ≡ hand_of old))
    ⊎ ((had_done desk old ≡ false) × ((t : ℕ) × Drew old new t × (limit_of desk ≤ t))))

-- what a look at a manifest's mark does: it sees the mark; or there is none, and the seat neither made nor saw one
abbrev pub Saw : Seat → Seat → ℕ → Bool → Type 0
Saw old new i true = hand_of new ≡ seeing (hand_of old) i
Saw old new i false = (hand_of new ≡ hand_of old) × (times i (hand_of old).marked ≡ 0)
    × (times i (hand_of old).seen ≡ 0)

-- how often the number was drawn from these seats
abbrev pub drawn_in : List Seat → ℕ → ℕ
drawn_in seats t = sum_by (λ (s : Seat). times t (hand_of s).drawn) seats

-- how often these seats marked the manifest
abbrev pub marked_in : List Seat → ℕ → ℕ
marked_in seats i = sum_by (λ (s : Seat). times i (hand_of s).marked) seats

-- how often these seats saw it marked
abbrev pub seen_in : List Seat → ℕ → ℕ
seen_in seats i = sum_by (λ (s : Seat). times i (hand_of s).seen) seats
