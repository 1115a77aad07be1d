-- The bodies of sections, by row. No public contract cites these words.
use Rattle.std.specs.Prelude.{◌≡◌, ℕ, suc, List, [], ◌∷◌, Option, Some, None, Ok}
use Rattle.ice_state.specs.Contents.{Content}
use Rattle.ice_state.specs.Readings.{Reading}
use Rattle.ice_state.specs.Scans.{Scanned}
use Rattle.ice_state_envelopes.specs.Envelopes.{Part}
use Rattle.ice_state_bytes.specs.States.{reading_at}

-- a body says what row i gave, or there is none of a row that wasn't taken
abbrev pub IsSaid : Scanned → ℕ → Option Reading → Option (List ℕ) → Type 0
IsSaid scan i None None = Unit {0}
IsSaid scan i (Some r) (Some body) = reading_at scan (i, body) ≡ Ok r
IsSaid scan i r body = ⊥

-- the same of all rows from row i on
abbrev pub AreSaid : Scanned → ℕ → Content → List (Option (List ℕ)) → Type 0
AreSaid scan i [] [] = Unit {0}
AreSaid scan i (r ∷ c) (body ∷ bodies) = IsSaid scan i r body × AreSaid scan (suc i) c bodies
AreSaid scan i c bodies = ⊥

-- the sections of these bodies, from row i on
abbrev pub sections_of : ℕ → List (Option (List ℕ)) → List Part
sections_of i [] = []
sections_of i (None ∷ bodies) = sections_of (suc i) bodies
sections_of i (Some body ∷ bodies) = (i, body) ∷ sections_of (suc i) bodies
