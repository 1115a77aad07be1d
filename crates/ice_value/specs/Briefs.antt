-- The fields of a summary whose bounds are short.
use Rattle.std.specs.Prelude.{ℕ, Bool, true, false, List, [], Option, None, Some}
use Rattle.ice_value.specs.declared.brief.ShortBound.{ShortBound}
use Rattle.ice_value.specs.declared.brief.ShortBound.TheVariants.{Absent, Empty, One, Two}
use Rattle.ice_value.specs.declared.brief.Nan.{Nan}
use Rattle.ice_value.specs.declared.brief.Nan.TheVariants.{Unsaid, No, Yes}

abbrev pub bound_in : ShortBound → Option (List ℕ)
bound_in Absent = None
bound_in Empty = Some []
bound_in (One bytes) = Some bytes
bound_in (Two bytes) = Some bytes

abbrev pub nan_in : Nan → Option Bool
nan_in Unsaid = None
nan_in No = Some false
nan_in Yes = Some true
