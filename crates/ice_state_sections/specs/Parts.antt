-- The parts of a section. Each is read at the front of the bytes, with what stands behind it.
use Rattle.std.specs.Prelude.{ℕ, zero, suc, ℤ, ◌^◌, List, [], ◌∷◌, ◌++◌, Bool, true, false, Option, Some, None}
use Rattle.std.specs.Prelude.{Result, Ok, Err, ◌==◌, if◌then◌else◌}
use Rattle.std.specs.Str.{is_utf8}
use Rattle.contract_words.specs.Outcome.{◌>>=◌}
use Rattle.avro_file_parts.specs.declared.refusal.Refusal.{Refusal}
use Rattle.avro_file_parts.specs.Number.{number_at, long_at}
use Rattle.ice_value.specs.Bounds.{fits_int}
use Rattle.ice_state_envelopes.specs.Written.{counted_run_at}
use Rattle.ice_state_sections.specs.declared.section_fault.SectionFault.{SectionFault}
use Rattle.ice_state_sections.specs.declared.section_fault.SectionFault.TheVariants.{NoSection}

-- a value and what stands behind it
abbrev pub Read : Type 0 → Type 0
Read A = Result (A × List ℕ) SectionFault

-- what is cut or is no such part is of no section
abbrev pub part : {A : Type 0} → Result A Refusal → Result A SectionFault
part (Ok x) = Ok x
part (Err e) = Err NoSection

-- a value of which another is made
abbrev pub made : {A B : Type 0} → (A → B) → Read A → Read B
made f read = read >>= λ x. Ok (f x.0, x.1)

-- a number of 64 bits
unfoldable pub number : List ℕ → Read ℕ
number bytes = part (number_at (2 ^ 64) bytes)

-- a number with a sign, of 64 bits
unfoldable pub long : List ℕ → Read ℤ
long bytes = part (long_at bytes)

-- how many bytes, and these
unfoldable pub run : List ℕ → Read (List ℕ)
run bytes = part (counted_run_at bytes)

-- a number with a sign, of 32 bits
unfoldable pub int : List ℕ → Read ℤ
int bytes = do
  z ← long bytes
  if fits_int z.0 then Ok z else Err NoSection

-- 0 is false and 1 is true
unfoldable pub truth : List ℕ → Read Bool
truth bytes = do
  n ← number bytes
  if n.0 == 0 then Ok (false, n.1) else (if n.0 == 1 then Ok (true, n.1) else Err NoSection)

-- a run that is UTF-8
unfoldable pub text : List ℕ → Read (List ℕ)
text bytes = do
  found ← run bytes
  if is_utf8 found.0 then Ok found else Err NoSection

-- whether there is a value, and the value where there is one
abbrev pub optional : {A : Type 0} → (List ℕ → Read A) → List ℕ → Read (Option A)
optional read bytes = do
  there ← truth bytes
  if there.0 then made Some (read there.1) else Ok (None, there.1)

-- So many values behind those of the front. How a value is read may depend on all before it.
unfoldable pub behind : {A : Type 0} → (List A → List ℕ → Read A) → ℕ → List A → List ℕ → Read (List A)
behind read zero front bytes = Ok (front, bytes)
behind read (suc n) front bytes = do
  next ← read front bytes
  behind read n (front ++ next.0 ∷ []) next.1
