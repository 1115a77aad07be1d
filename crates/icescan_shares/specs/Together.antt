-- States that are joined one after the other. No public contract cites these words.
use Rattle.std.specs.Prelude.{◌≡◌, ◌==◌, ◌&&◌, ℕ, List, length, Result, Ok, Err, if◌then◌else◌}
use Rattle.std.specs.Str.{bytes_eq}
use Rattle.ice_desk.specs.Given.{Giving}
use Rattle.ice_state.specs.Contents.{Content}
use Rattle.ice_state.specs.Joins.{join}
use Rattle.ice_state.specs.Scans.{Scanned}
use Rattle.ice_state_bytes.specs.declared.fault.StateFault.{StateFault}
use Rattle.ice_state_bytes.specs.declared.fault.StateFault.TheVariants.{OtherScan}
use Rattle.ice_state_bytes.specs.States.{nothing, state_at, with_sections}
use Rattle.ice_state_envelopes.specs.Envelopes.{Parts}
use Rattle.icescan_shares.specs.Given.{AreGivenAt, AreRead, join_all}

-- the state of the scan of this name that an envelope holds
abbrev pub state_in : Scanned → List ℕ → Parts → Result Content StateFault
state_in scan name parts = if bytes_eq parts.scan name && (parts.rows == length scan.wanted)
    then with_sections scan (nothing scan) parts.sections else Err OtherScan

-- the bytes are those of the envelope's state and the states with these bytes together, whatever scan reads each
abbrev pub HasAlso : Parts → List (List ℕ) → List ℕ → Type 0
HasAlso before texts bytes = (scan : Scanned) (name : List ℕ) (content : Content) (contents : List Content)
    → state_in scan name before ≡ Ok content → AreRead scan name texts contents
    → state_at scan name bytes ≡ Ok (join content (join_all contents))

-- the same of states at these paths, by bytes that reads gave
abbrev pub HasAlsoGiven : Giving → Parts → List (List ℕ) → List ℕ → Type 0
HasAlsoGiven kept before paths bytes =
    (texts : List (List ℕ)) × AreGivenAt kept paths texts × HasAlso before texts bytes
