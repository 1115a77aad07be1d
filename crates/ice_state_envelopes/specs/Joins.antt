-- The union of what two envelopes hold.
use Rattle.std.specs.Prelude.{◌≡◌, ℕ, List, [], ◌∷◌, ◌&&◌, Option, Some, None, Result, Ok, Err, nat_lt, ◌==◌}
use Rattle.std.specs.Prelude.{if◌then◌else◌}
use Rattle.std.specs.Str.{bytes_eq}
use Rattle.contract_words.specs.Outcome.{◌>>=◌}
use Rattle.ice_state_envelopes.specs.declared.fault.EnvelopeFault.{EnvelopeFault}
use Rattle.ice_state_envelopes.specs.declared.fault.EnvelopeFault.TheVariants.{OtherScan}
use Rattle.ice_state_envelopes.specs.Envelopes.{Part, Parts}

-- a section put in its place, where its row has none
abbrev pub put : Part → List Part → List Part
put q [] = q ∷ []
put q (p ∷ ps) = if nat_lt p.0 q.0 then p ∷ put q ps else (if nat_lt q.0 p.0 then q ∷ p ∷ ps else p ∷ ps)

-- the sections of the first, and those of the second whose rows the first has not
abbrev pub union : List Part → List Part → List Part
union ps [] = ps
union ps (q ∷ qs) = put q (union ps qs)

-- the union of two envelopes of one scan
abbrev pub joined : Parts → Parts → Result Parts EnvelopeFault
joined p q = if bytes_eq p.scan q.scan && (p.rows == q.rows)
    then Ok (record p { sections = union p.sections q.sections }) else Err OtherScan

-- three, the first two joined before the third is; and the last two before the first is
abbrev pub first_two_first : Parts → Parts → Parts → Result Parts EnvelopeFault
first_two_first a b c = joined a b >>= λ both. joined both c

abbrev pub last_two_first : Parts → Parts → Parts → Result Parts EnvelopeFault
last_two_first a b c = joined b c >>= λ both. joined a both

-- ---- what a row has

-- the body of a row
abbrev pub body_at : ℕ → List Part → Option (List ℕ)
body_at row [] = None
body_at row (p ∷ ps) = if p.0 == row then Some p.1 else body_at row ps

-- the first, where there is one
abbrev pub or_else : Option (List ℕ) → Option (List ℕ) → Option (List ℕ)
or_else None other = other
or_else (Some body) other = Some body

-- where both have a body, it is the same
abbrev pub AgreeAt : Option (List ℕ) → Option (List ℕ) → Type 0
AgreeAt None other = Unit {0}
AgreeAt (Some body) None = Unit {0}
AgreeAt (Some body) (Some other) = body ≡ other

-- the two agree on the rows that both have
abbrev pub Agree : Parts → Parts → Type 0
Agree p q = (row : ℕ) → AgreeAt (body_at row p.sections) (body_at row q.sections)
