-- The bounds of a summary in one run of bytes.
use Rattle.std.specs.Prelude.{◌≤◌, ℕ, List, length, take, drop, Option, None, Some}
use Rattle.ice_value.specs.declared.bounded.Bounds.{Bounds}
use Rattle.ice_value.specs.declared.bounded.Bounds.TheVariants.{Neither, Lower, Upper, Both}

abbrev pub lower_of : Bounds → List ℕ → Option (List ℕ)
lower_of Neither run = None
lower_of Lower run = Some run
lower_of Upper run = None
lower_of (Both size) run = Some (take size run)

abbrev pub upper_of : Bounds → List ℕ → Option (List ℕ)
upper_of Neither run = None
upper_of Lower run = None
upper_of Upper run = Some run
upper_of (Both size) run = Some (drop size run)

-- the run has the lower bound's bytes
abbrev pub IsSplit : Bounds → List ℕ → Type 0
IsSplit Neither run = Unit {0}
IsSplit Lower run = Unit {0}
IsSplit Upper run = Unit {0}
IsSplit (Both size) run = size ≤ length run
