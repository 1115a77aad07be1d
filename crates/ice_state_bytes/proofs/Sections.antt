-- What sections say together.
use Rattle.std.proofs.Common.{◌≡◌, ◌<◌, ◌∙◌, ℕ, suc, List, [], ◌∷◌, refl, sym, ap, subst, arith, length, get_or}
use Rattle.std.proofs.Common.{None, Result, Ok, Err}
use Rattle.contract_words.specs.Outcome.{◌>>=◌}
use Rattle.ice_manifest_reading.proofs.Guards.{ok_is, went_on}
use Rattle.ice_state.specs.Contents.{Content, or_else, with_row}
use Rattle.ice_state.specs.Joins.{join}
use Rattle.ice_state.specs.Readings.{Reading}
use Rattle.ice_state.specs.Scans.{Scanned}
use Rattle.ice_state_envelopes.specs.Envelopes.{Part, Rise}
use Rattle.ice_state_bytes.specs.declared.fault.StateFault.{StateFault}
use Rattle.ice_state_bytes.specs.States.{nothing, reading_at, with_sections}
use Rattle.ice_state_bytes.proofs.Rows.{join-at, join-none, length-none, length-one, length-with_row, none-at}
use Rattle.ice_state_bytes.proofs.Rows.{one, one-before, with_row-join}

abbrev pub said_as : Content → Result Content StateFault
said_as c = Ok c

-- a step of reading, where it goes on and where it went on
pub goes_on : {A B E : Type 0} (m : Result A E) (f : A → Result B E) (x : A) (y : B) → m ≡ Ok x → f x ≡ Ok y
    → (m >>= f) ≡ Ok y
goes_on {A} {B} {E} m f x y is h = ap (λ (n : Result A E). n >>= f) is ∙ h

after : {A B E : Type 0} (m : Result A E) (f g : A → Result B E) (x y : B) → (m >>= f) ≡ Ok x
    → ((r : A) → f r ≡ Ok x → g r ≡ Ok y) → (m >>= g) ≡ Ok y
after {A} {B} {E} (Ok r) f g x y h next = next r h
after {A} {B} {E} (Err e) f g x y h next = absurd cc

module _ (scan : Scanned) where
  abbrev pub wants : ℕ
  wants = length scan.wanted

  -- the sections say this content
  abbrev pub Say : List Part → Content → Type 0
  Say parts c = with_sections scan (nothing scan) parts ≡ Ok c

  -- the same, put to a content that has rows
  pub more : (parts : List Part) (c d e : Content) → length c ≡ length d → with_sections scan d parts ≡ Ok e
      → with_sections scan (join c d) parts ≡ Ok (join c e)
  more [] c d e same h = cc
  more (p ∷ parts) c d e same h =
      after (reading_at scan p) (λ r. with_sections scan (with_row d p.0 r) parts)
      (λ r. with_sections scan (with_row (join c d) p.0 r) parts) e (join c e) h
      (λ r k. subst (λ (x : Content). with_sections scan x parts ≡ Ok (join c e)) (sym (with_row-join c d p.0 r same))
      (more parts c (with_row d p.0 r) e (same ∙ sym (length-with_row d p.0 r)) k))

  pub length-said : (parts : List Part) (c d : Content) → with_sections scan c parts ≡ Ok d → length d ≡ length c
  length-said [] c d h = let e : c ≡ d = cc in ap length (sym e)
  length-said (p ∷ parts) c d h =
      let r = went_on (reading_at scan p) (λ r. with_sections scan (with_row c p.0 r) parts) d h in
      length-said parts (with_row c p.0 r.0) d r.2 ∙ length-with_row c p.0 r.0

  -- whether all can be read does not depend on what was there
  pub others : (parts : List Part) (c x d : Content) → with_sections scan c parts ≡ Ok x
      → (e : Content) × (with_sections scan d parts ≡ Ok e)
  others [] c x d h = (d, refl)
  others (p ∷ parts) c x d h =
      let r = went_on (reading_at scan p) (λ r. with_sections scan (with_row c p.0 r) parts) x h in
      let rest = others parts (with_row c p.0 r.0) x (with_row d p.0 r.0) r.2 in
      (rest.0, goes_on (reading_at scan p) (λ r. with_sections scan (with_row d p.0 r) parts) r.0 rest.0 r.1 rest.1)

  -- what the first says, and the others
  pub record First (p : Part) (parts : List Part) (c : Content) : Type 0 where
    pub reading : Reading
    pub rest : Content
    pub read : reading_at scan p ≡ Ok reading
    pub said : Say parts rest
    pub both : c ≡ join (one wants p.0 reading) rest

  pub length-say : (parts : List Part) (c : Content) → Say parts c → length c ≡ wants
  length-say parts c h = length-said parts (nothing scan) c h ∙ length-none wants

  -- put to one row
  on_one : (p : Part) (r : Reading) (parts : List Part) (c : Content) → Say parts c
      → with_sections scan (one wants p.0 r) parts ≡ Ok (join (one wants p.0 r) c)
  on_one p r parts c h =
      let row = one wants p.0 r in
      subst (λ (x : Content). with_sections scan x parts ≡ Ok (join row c)) (join-none wants row
      (length-one wants p.0 r)) (more parts row (nothing scan) c (length-one wants p.0 r ∙ sym (length-none wants)) h)

  pub first : (p : Part) (parts : List Part) (c : Content) → Say (p ∷ parts) c → First p parts c
  first p parts c h =
      let r = went_on (reading_at scan p) (λ r. with_sections scan (with_row (nothing scan) p.0 r) parts) c h in
      let row = one wants p.0 r.0 in
      let rest = others parts row c (nothing scan) r.2 in
      let all : said_as c ≡ said_as (join row rest.0) = sym r.2 ∙ on_one p r.0 parts rest.0 rest.1 in
      record { reading = r.0; rest = rest.0; read = r.1; said = rest.1; both = ok_is c (join row rest.0) all }

  pub one_first : (p : Part) (r : Reading) (parts : List Part) (c : Content) → reading_at scan p ≡ Ok r → Say parts c
      → Say (p ∷ parts) (join (one wants p.0 r) c)
  one_first p r parts c read h =
      goes_on (reading_at scan p) (λ r. with_sections scan (with_row (nothing scan) p.0 r) parts) r
      (join (one wants p.0 r) c) read (on_one p r parts c h)

  -- no row is taken before the first
  pub free : (parts : List Part) (c : Content) (least end i : ℕ) → Rise least end parts → i < least → Say parts c
      → get_or c i None ≡ None
  free [] c least end i rise low h = let e : nothing scan ≡ c = cc in ap (λ (x : Content). get_or x i None) (sym e)
      ∙ none-at wants i
  free (p ∷ parts) c least end i rise low h =
      let f = first p parts c h in
      let row = one wants p.0 f.reading in
      let low' : i < p.0 = omega (arith, rise.0) in
      ap (λ (x : Content). get_or x i None) f.both
      ∙ join-at row f.rest i (length-one wants p.0 f.reading ∙ sym (length-say parts f.rest f.said))
      ∙ ap (λ s. or_else s (get_or f.rest i None)) (one-before wants p.0 i f.reading low')
      ∙ free parts f.rest (suc p.0) end i rise.2 (omega (arith, low')) f.said
