-- States as bytes, by their envelopes.
use Rattle.std.proofs.Common.{◌≡◌, ◌≢◌, ◌==◌, ◌&&◌, ◌∙◌, ℕ, Bool, true, false, not, List, refl, sym, ap, arith, subst}
use Rattle.std.proofs.Common.{length}
use Rattle.std.proofs.Common.{if◌then◌else◌, Result, Ok, Err}
use Rattle.std.specs.Str.{bytes_eq}
use Rattle.std.proofs.lemmas.Bool.Decides.{Decides-eqb, nat_tests}
use Rattle.std.proofs.lemmas.Slice.Eq.{bytes_eq-Decides}
use Rattle.ice_state.specs.Contents.{Content}
use Rattle.ice_state.specs.Joins.{join}
use Rattle.ice_state.specs.Scans.{Scanned}
use Rattle.ice_state_envelopes.specs.declared.fault.EnvelopeFault.{EnvelopeFault}
use Rattle.ice_state_envelopes.specs.declared.fault.EnvelopeFault.TheVariants as envelope
use Rattle.ice_state_envelopes.specs.declared.fault.EnvelopeFault.TheVariants.{OtherScan as OtherEnvelope}
use Rattle.ice_state_envelopes.specs.Envelopes.{Parts, Rise, parts_at}
use Rattle.ice_state_envelopes.specs.Joins.{joined as joined_parts, union}
use Rattle.ice_state_bytes.specs.declared.fault.StateFault.TheVariants.{Memory, OtherScan}
use Rattle.ice_state_bytes.specs.Faults.{of_envelope}
use Rattle.ice_state_bytes.specs.States.{Joins, nothing, state_at, with_sections}
use Rattle.ice_state_bytes.proofs.Sections.{Say}
use Rattle.ice_state_bytes.proofs.Unions.{said_union}

both_true : (a b : Bool) → (a && b) ≡ true → (a ≡ true) × (b ≡ true)
both_true true true h = (refl, refl)
both_true true false h = absurd cc
both_true false b h = absurd cc

true_both : (a b : Bool) → a ≡ true → b ≡ true → (a && b) ≡ true
true_both a b h k = rw (h, k) refl

-- an envelope of this scan, whose sections say the content
pub record IsRead (scan : Scanned) (name : List ℕ) (p : Parts) (c : Content) : Type 0 where
  pub named : p.scan ≡ name
  pub counted : p.rows ≡ length scan.wanted
  pub said : Say scan p.sections c

pub after_test : (scan : Scanned) (name : List ℕ) (p : Parts) (c : Content) (b : Bool)
    → (bytes_eq p.scan name && (p.rows == length scan.wanted)) ≡ b
    → (if b then with_sections scan (nothing scan) p.sections else Err OtherScan) ≡ Ok c → IsRead scan name p c
after_test scan name p c false is h = absurd cc
after_test scan name p c true is h =
    let both = both_true (bytes_eq p.scan name) (p.rows == length scan.wanted) is in
    record {
      named = (bytes_eq-Decides p.scan name).0 both.0;
      counted = (Decides-eqb p.rows (length scan.wanted)).0 both.1;
      said = h;
    }

pub read_parts : (scan : Scanned) (name bytes : List ℕ) (p : Parts) (c : Content) → parts_at bytes ≡ Ok p
    → state_at scan name bytes ≡ Ok c → IsRead scan name p c
unfolding state_at
read_parts scan name bytes p c is h =
    after_test scan name p c (bytes_eq p.scan name && (p.rows == length scan.wanted)) refl (rw is at h)

pub parts_read : (scan : Scanned) (name bytes : List ℕ) (p : Parts) (c : Content) → parts_at bytes ≡ Ok p
    → IsRead scan name p c → state_at scan name bytes ≡ Ok c
unfolding state_at
parts_read scan name bytes p c is read =
    let test = true_both (bytes_eq p.scan name) (p.rows == length scan.wanted)
    ((bytes_eq-Decides p.scan name).1 read.named) ((Decides-eqb p.rows (length scan.wanted)).1 read.counted) in
    rw (is, test) read.said

-- what is no envelope is no state
pub no_state : (scan : Scanned) (name bytes : List ℕ) (f : EnvelopeFault) (c : Content) → parts_at bytes ≡ Err f
    → state_at scan name bytes ≢ Ok c
unfolding state_at
no_state scan name bytes f c is h = let k = rw is at h in absurd cc

-- ---- the union

joined_as : (p q both : Parts) (b : Bool) → (bytes_eq p.scan q.scan && (p.rows == q.rows)) ≡ b
    → (if b then Ok (record p { sections = union p.sections q.sections }) else Err OtherEnvelope) ≡ Ok both
    → both ≡ record p { sections = union p.sections q.sections }
joined_as p q both false is h = absurd cc
joined_as p q both true is h = cc

-- envelopes of one scan are joined
pub are_joined : (scan : Scanned) (name : List ℕ) (p q : Parts) (c d : Content) → IsRead scan name p c
    → IsRead scan name q d → joined_parts p q ≡ Ok (record p { sections = union p.sections q.sections })
are_joined scan name p q c d one other =
    let test = true_both (bytes_eq p.scan q.scan) (p.rows == q.rows)
    ((bytes_eq-Decides p.scan q.scan).1 (one.named ∙ sym other.named))
    ((Decides-eqb p.rows q.rows).1 (one.counted ∙ sym other.counted)) in
    rw test refl

pub joins : (one other both : List ℕ) (p q all : Parts) → parts_at one ≡ Ok p → parts_at other ≡ Ok q
    → parts_at both ≡ Ok all → joined_parts p q ≡ Ok all → Rise 0 p.rows p.sections → Rise 0 q.rows q.sections
    → Joins one other both
joins one other both p q all is is' are joined rise rise' = λ scan name c d h k.
    let first = read_parts scan name one p c is h in
    let second = read_parts scan name other q d is' k in
    let n = length scan.wanted in
    let union' : all ≡ record p { sections = union p.sections q.sections } =
    joined_as p q all (bytes_eq p.scan q.scan && (p.rows == q.rows)) refl joined in
    let said = said_union scan p.sections q.sections c d 0 (subst (λ m. Rise 0 m p.sections) first.counted rise)
    (subst (λ m. Rise 0 m q.sections) second.counted rise') first.said second.said in
    parts_read scan name both all (join c d) are (record {
      named = ap (λ (a : Parts). a.scan) union' ∙ first.named;
      counted = ap (λ (a : Parts). a.rows) union' ∙ first.counted;
      said = subst (λ (a : Parts). Say scan a.sections (join c d)) (sym union') said;
    })

-- ---- refusals

pub only_memory : (f : EnvelopeFault) → ((f ≢ envelope.Memory) → ⊥) → of_envelope f ≡ Memory
only_memory envelope.Memory never = refl
only_memory envelope.NotAState never = absurd (never (λ h. cc))
only_memory envelope.OtherVersion never = absurd (never (λ h. cc))
only_memory envelope.Damaged never = absurd (never (λ h. cc))
only_memory envelope.OtherScan never = absurd (never (λ h. cc))

pub not_both : {A E : Type 0} {r : Result A E} {x : A} {e : E} → r ≡ Ok x → r ≡ Err e → ⊥
not_both h k = let both = sym h ∙ k in cc

-- what is no envelope is refused for that
pub refused_at : (scan : Scanned) (name bytes : List ℕ) (f : EnvelopeFault) → parts_at bytes ≡ Err f
    → state_at scan name bytes ≡ Err (of_envelope f)
unfolding state_at
refused_at scan name bytes f is = rw is refl

-- an envelope of another scan, or of another number of rows
pub other_at : (scan : Scanned) (name bytes : List ℕ) (p : Parts) → parts_at bytes ≡ Ok p
    → (bytes_eq p.scan name && (p.rows == length scan.wanted)) ≡ false → state_at scan name bytes ≡ Err OtherScan
unfolding state_at
other_at scan name bytes p is other = rw (is, other) refl

pub same_at : (scan : Scanned) (name bytes : List ℕ) (p : Parts) → parts_at bytes ≡ Ok p
    → (bytes_eq p.scan name && (p.rows == length scan.wanted)) ≡ true
    → state_at scan name bytes ≡ with_sections scan (nothing scan) p.sections
unfolding state_at
same_at scan name bytes p is same = rw (is, same) refl

differ : (m n : ℕ) → m ≢ n → (m == n) ≡ false
differ m n other = grind (arith, nat_tests)

pub first_other : (a b : Bool) → not a ≡ true → (a && b) ≡ false
first_other true b h = absurd cc
first_other false b h = refl

pub second_other : (a : Bool) (m n : ℕ) → m ≢ n → (a && (m == n)) ≡ false
second_other true m n other = differ m n other
second_other false m n other = refl

pub same_both : (a : Bool) (m n : ℕ) → not a ≡ false → m ≡ n → (a && (m == n)) ≡ true
same_both true m n h is = (Decides-eqb m n).1 is
same_both false m n h is = absurd cc
