-- Sections that are read one after the other.
use Rattle.std.proofs.Common.{◌≡◌, ◌≢◌, ◌<◌, ◌∙◌, ℕ, zero, suc, List, [], ◌∷◌, ap, arith, length, map}
use Rattle.std.proofs.Common.{drop, get_or, Result, Ok, Err}
use Rattle.std.proofs.Math.Seq.{drop-cons}
use Rattle.contract_words.specs.Outcome.{◌>>=◌}
use Rattle.ice_state.specs.Contents.{Content, with_row}
use Rattle.ice_state.specs.Readings.{Reading}
use Rattle.ice_state.specs.Scans.{Scanned}
use Rattle.ice_state_envelopes.specs.declared.section.Section.{Section}
use Rattle.ice_state_envelopes.specs.Envelopes.{Rise, shown}
use Rattle.ice_state_bytes.specs.declared.fault.StateFault.{StateFault}
use Rattle.ice_state_bytes.specs.States.{reading_at, with_section, with_sections}

-- each row is below the end
pub below_end : (least end : ℕ) (ss : List Section) (i : ℕ) (d : Section) → Rise least end (map shown ss)
    → i < length ss → (get_or ss i d).row < end
below_end least end [] i d rise low = absurd (omega arith)
below_end least end (x ∷ ss) zero d rise low = rise.1
below_end least end (x ∷ ss) (suc i) d rise low = below_end (suc x.row) end ss i d rise.2 (omega arith)

stops : {A B : Type 0} (m : Result A StateFault) (f g : A → Result B StateFault) (e : StateFault)
    → ((x : A) → f x ≢ Err e) → (m >>= f) ≡ Err e → (m >>= g) ≡ Err e
stops {A} {B} (Ok x) f g e ends h = absurd (ends x h)
stops {A} {B} (Err d) f g e ends h = cc

-- what is read from section i on
abbrev pub from : Scanned → List Section → ℕ → Content → Result Content StateFault
from scan ss i c = with_sections scan c (map shown (drop i ss))

-- a section that can't be read
pub none_read : (scan : Scanned) (ss : List Section) (i : ℕ) (d : Section) (c : Content) (e : StateFault)
    (total : Result Content StateFault) → i < length ss → with_section scan c (shown (get_or ss i d)) ≡ Err e
    → total ≡ from scan ss i c → total ≡ Err e
none_read scan ss i d c e total low read so_far =
    let s = get_or ss i d in
    let rest = λ (r : Reading). with_sections scan (with_row c s.row r) (map shown (drop (suc i) ss)) in
    so_far ∙ ap (λ (xs : List Section). with_sections scan c (map shown xs)) (drop-cons ss i d low)
    ∙ stops (reading_at scan (shown s)) (λ r. Ok (with_row c s.row r)) rest e (λ r h. cc) read
