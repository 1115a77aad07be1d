-- Reading one thing after the other.
use Rattle.std.specs.Prelude.{List, [], ◌∷◌, Result, Ok}
use Rattle.contract_words.specs.Outcome.{◌>>=◌}

-- what each says, from the first on; or the first fault
unfoldable pub each : {Y X E : Type 0} → (Y → Result X E) → List Y → Result (List X) E
each says [] = Ok []
each says (y ∷ ys) = do
  x ← says y
  xs ← each says ys
  Ok (x ∷ xs)
