-- What was put last, by how it reads back.
use Rattle.std.specs.Prelude.{ℕ, List}
use Rattle.ice_state_envelopes.specs.Written.{Puts}
use Rattle.ice_state_sections.specs.Parts.{Read}

-- What was put last reads back as x, whatever stands behind it.
pub record Adds {A : Type 0} (read : List ℕ → Read A) (x : A) (old new : List ℕ) : Type 0 where
  pub puts : Puts read x old new
