-- What the bytes of a state are read as.
use Rattle.std.specs.Prelude.{◌≡◌, ℕ, ◌==◌, List, [], ◌∷◌, ◌&&◌, length, replicate, None, Result, Ok, Err}
use Rattle.std.specs.Prelude.{slice_get, if◌then◌else◌}
use Rattle.std.specs.Str.{bytes_eq}
use Rattle.contract_words.specs.Outcome.{◌>>=◌}
use Rattle.ice_state.specs.Contents.{Content, with_row}
use Rattle.ice_state.specs.Joins.{join}
use Rattle.ice_state.specs.Readings.{Reading}
use Rattle.ice_state.specs.Scans.{Scanned, spec_at}
use Rattle.ice_state_envelopes.specs.Envelopes.{Part, parts_at}
use Rattle.ice_state_sections.specs.Sections.{section_at}
use Rattle.ice_state_bytes.specs.declared.fault.StateFault.{StateFault}
use Rattle.ice_state_bytes.specs.declared.fault.StateFault.TheVariants.{OtherScan}
use Rattle.ice_state_bytes.specs.Faults.{enveloped, said, known}

-- what a section says of its row, by the row's spec
unfoldable pub reading_at : Scanned → Part → Result Reading StateFault
reading_at scan part = do
  row ← known (slice_get scan.wanted part.0)
  spec ← known (spec_at scan part.0)
  said (section_at row spec part.1)

-- the content with the row of a section
abbrev pub with_section : Scanned → Content → Part → Result Content StateFault
with_section scan c part = do
  r ← reading_at scan part
  Ok (with_row c part.0 r)

-- the content with the rows of sections, one after the other
abbrev pub with_sections : Scanned → Content → List Part → Result Content StateFault
with_sections scan c [] = Ok c
with_sections scan c (part ∷ parts) = do
  r ← reading_at scan part
  with_sections scan (with_row c part.0 r) parts

-- the content in which no row is taken
abbrev pub nothing : Scanned → Content
nothing scan = replicate (length scan.wanted) None

-- the state of the scan of this name that the bytes are: each row that has a section is taken, with what that says
unfoldable pub state_at : Scanned → List ℕ → List ℕ → Result Content StateFault
state_at scan name bytes = do
  parts ← enveloped (parts_at bytes)
  if bytes_eq parts.scan name && (parts.rows == length scan.wanted)
      then with_sections scan (nothing scan) parts.sections else Err OtherScan

-- the last bytes are a state wherever both others are, of the same scan: their union
abbrev pub Joins : List ℕ → List ℕ → List ℕ → Type 0
Joins one other both = (scan : Scanned) (name : List ℕ) (c d : Content)
    → state_at scan name one ≡ Ok c → state_at scan name other ≡ Ok d → state_at scan name both ≡ Ok (join c d)
