-- The union of what two partial states contain.
use Rattle.std.specs.Prelude.{◌≡◌, Bool, ◌||◌, List, [], ◌∷◌, Option, Some, None}
use Rattle.ice_state.specs.Readings.{Reading}
use Rattle.ice_state.specs.Contents.{Content, or_else}

-- the union of two contents
abbrev pub join : Content → Content → Content
join [] ds = ds
join (c ∷ cs) [] = c ∷ cs
join (c ∷ cs) (d ∷ ds) = or_else c d ∷ join cs ds

-- the rows of either set
abbrev pub either : List Bool → List Bool → List Bool
either [] us = us
either (t ∷ ts) [] = t ∷ ts
either (t ∷ ts) (u ∷ us) = (t || u) ∷ either ts us

-- where both have a row, they have it alike
abbrev pub AgreeAt : Option Reading → Option Reading → Type 0
AgreeAt None d = Unit {0}
AgreeAt (Some r) None = Unit {0}
AgreeAt (Some r) (Some q) = r ≡ q

abbrev pub Agree : Content → Content → Type 0
Agree [] ds = Unit {0}
Agree (c ∷ cs) [] = Unit {0}
Agree (c ∷ cs) (d ∷ ds) = AgreeAt c d × Agree cs ds

-- each row that the second took is taken in the first
abbrev pub IsNoGain : Option Reading → Option Reading → Type 0
IsNoGain None (Some r) = ⊥
IsNoGain None None = Unit {0}
IsNoGain (Some r) d = Unit {0}

abbrev pub TookAllOf : Content → Content → Type 0
TookAllOf [] ds = Unit {0}
TookAllOf (c ∷ cs) [] = Unit {0}
TookAllOf (c ∷ cs) (d ∷ ds) = IsNoGain c d × TookAllOf cs ds
