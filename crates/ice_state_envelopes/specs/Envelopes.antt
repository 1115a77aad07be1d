-- What an envelope holds, and what its bytes are read as.
use Rattle.std.specs.Prelude.{◌≡◌, ℕ, zero, suc, ◌-◌, ◌^◌, ◌<◌, ◌≤◌, List, [], ◌∷◌, length, take, drop, Bool, true}
use Rattle.std.specs.Prelude.{◌&&◌, not, Result, Ok, Err, nat_lt, ◌==◌, if◌then◌else◌, codes}
use Rattle.std.specs.Str.{bytes_eq}
use Rattle.sha2.specs.Sha256.{sha256}
use Rattle.contract_words.specs.Outcome.{◌>>=◌}
use Rattle.avro_file_parts.specs.declared.refusal.Refusal.{Refusal}
use Rattle.avro_file_parts.specs.Number.{number_at}
use Rattle.avro_file_parts.specs.Parts.{run_at}
use Rattle.ice_state_envelopes.specs.declared.fault.EnvelopeFault.{EnvelopeFault}
use Rattle.ice_state_envelopes.specs.declared.fault.EnvelopeFault.TheVariants.{NotAState, OtherVersion, Damaged}
use Rattle.ice_state_envelopes.specs.declared.section.Section.{Section}
use Rattle.ice_state_envelopes.specs.Written.{counted_run_at}

-- a row of the scan, and the bytes that say what it gave
abbrev pub Part : Type 0
Part = ℕ × List ℕ

-- what is known of a section: where its bytes lie in memory is no part of it
abbrev pub shown : Section → Part
shown s = (s.row, s.body.now)

-- 32 bytes that name the scan, how many rows it wants, and the sections
pub record Parts : Type 0 where
  pub scan : List ℕ
  pub rows : ℕ
  pub sections : List Part

-- the rows rise, each from the least on and below the end
abbrev pub Rise : ℕ → ℕ → List Part → Type 0
Rise least end [] = Unit {0}
Rise least end (p ∷ ps) = (least ≤ p.0) × (p.0 < end) × Rise (suc p.0) end ps

-- what an envelope can hold
abbrev pub AreParts : Parts → Type 0
AreParts p = (length p.scan ≡ 32) × Rise 0 p.rows p.sections

-- ---- reading

-- what begins the states of any version, and of this one
abbrev pub any_version : List ℕ
any_version = codes "icescan state "

abbrev pub this_version : List ℕ
this_version = codes "icescan state 1\n"

-- the bytes begin so
abbrev pub begins : List ℕ → List ℕ → Bool
begins front bytes = bytes_eq (take (length front) bytes) front

-- a part that is cut or is none is damage
abbrev pub whole : {A : Type 0} → Result A Refusal → Result A EnvelopeFault
whole (Ok x) = Ok x
whole (Err e) = Err Damaged

-- all but the last 32 bytes, where these are its SHA-256
unfoldable pub sealed_at : List ℕ → Result (List ℕ) EnvelopeFault
sealed_at bytes = if bytes_eq (sha256 (take (length bytes - 32) bytes)) (drop (length bytes - 32) bytes)
    then Ok (take (length bytes - 32) bytes) else Err Damaged

-- a row, and its body behind its length
unfoldable pub section_at : List ℕ → Result (Part × List ℕ) Refusal
section_at bytes = do
  row ← number_at (2 ^ 64) bytes
  body ← counted_run_at row.1
  Ok ((row.0, body.0), body.1)

-- so many sections
unfoldable pub sections_at : ℕ → List ℕ → Result (List Part × List ℕ) Refusal
sections_at zero bytes = Ok ([], bytes)
sections_at (suc n) bytes = do
  first ← section_at bytes
  others ← sections_at n first.1
  Ok (first.0 ∷ others.0, others.1)

-- the test of Rise
abbrev pub rises : ℕ → ℕ → List Part → Bool
rises least end [] = true
rises least end (p ∷ ps) = not (nat_lt p.0 least) && (nat_lt p.0 end && rises (suc p.0) end ps)

-- The scan's name, how many rows it wants, how many sections there are, and these, with nothing behind them.
unfoldable pub contents_at : List ℕ → Result Parts EnvelopeFault
contents_at bytes = do
  scan ← whole (run_at 32 bytes)
  rows ← whole (number_at (2 ^ 64) scan.1)
  count ← whole (number_at (2 ^ 64) rows.1)
  sections ← whole (sections_at count.0 count.1)
  if (length sections.1 == 0) && rises 0 rows.0 sections.0
      then Ok (record { scan = scan.0; rows = rows.0; sections = sections.0 }) else Err Damaged

-- the first line, the contents, and the digest of both
unfoldable pub opened_at : List ℕ → Result Parts EnvelopeFault
opened_at bytes = do
  sealed ← sealed_at bytes
  line ← whole (run_at (length this_version) sealed)
  contents_at line.1

-- What a state's bytes are read as. Of another version, no more than its front is known.
unfoldable pub parts_at : List ℕ → Result Parts EnvelopeFault
parts_at bytes = if begins any_version bytes
    then (if begins this_version bytes then opened_at bytes else Err OtherVersion) else Err NotAState
