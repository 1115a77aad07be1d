-- What was put last, by how it reads back; and a run of bytes behind its length.
use Rattle.std.specs.Prelude.{◌≡◌, ℕ, ◌^◌, List, ◌++◌, Result, Ok}
use Rattle.contract_words.specs.Outcome.{◌>>=◌}
use Rattle.avro_file_parts.specs.declared.refusal.Refusal.{Refusal}
use Rattle.avro_file_parts.specs.Number.{number_at}
use Rattle.avro_file_parts.specs.Parts.{run_at}

-- What was put last reads back as x, whatever stands behind it.
abbrev pub Puts : {A E : Type 0} → (List ℕ → Result (A × List ℕ) E) → A → List ℕ → List ℕ → Type 0
Puts read x old new = (s : List ℕ) × (new ≡ old ++ s) × ((rest : List ℕ) → read (s ++ rest) ≡ Ok (x, rest))

-- how many bytes, and these
unfoldable pub counted_run_at : List ℕ → Result (List ℕ × List ℕ) Refusal
counted_run_at bytes = do
  len ← number_at (2 ^ 64) bytes
  run_at len.0 len.1
