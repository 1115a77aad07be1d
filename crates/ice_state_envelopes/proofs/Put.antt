-- What was put as a state's bytes is read.
use Rattle.std.proofs.Common.{◌≡◌, ℕ, suc, ◌+◌, ◌-◌, ◌^◌, ◌<◌, ◌≤◌, true, List, []}
use Rattle.std.proofs.Common.{◌∷◌, ◌++◌, length, get_or, drop, map}
use Rattle.std.proofs.Common.{Ok, refl, sym, ap, subst, ◌∙◌, append_assoc, add-one, drop-cons, arith}
use Rattle.std.specs.Str.{bytes_eq}
use Rattle.std.proofs.lemmas.List.{append-nil, take_at, drop_at, length-append}
use Rattle.std.proofs.lemmas.Slice.Eq.{bytes_eq-Decides}
use Rattle.std.proofs.Math.ListN.{drop_of_length-le}
use Rattle.sha2.specs.Sha256.{sha256}
use Rattle.sha2.proofs.Facts256.{length-sha256}
use Rattle.avro_file_parts.specs.Number.{number_at}
use Rattle.avro_file_parts.specs.Parts.{run_at}
use Rattle.ice_state_envelopes.specs.declared.section.Section.{Section}
use Rattle.ice_state_envelopes.specs.Written.{Puts, counted_run_at}
use Rattle.ice_state_envelopes.specs.Envelopes.{Part, Parts, shown, Rise, section_at, sections_at}
use Rattle.ice_state_envelopes.specs.Envelopes.{contents_at, sealed_at, opened_at, parts_at, this_version}
use Rattle.ice_state_envelopes.proofs.Numbers.{run_again}
use Rattle.ice_state_envelopes.proofs.Rising.{rises_of}

-- ---- parts that were put one after the other

pub joined_up : (old mid new s t : List ℕ) → mid ≡ old ++ s → new ≡ mid ++ t → new ≡ old ++ (s ++ t)
joined_up old mid new s t e f = f ∙ ap (λ (u : List ℕ). u ++ t) e ∙ append_assoc old s t

section_again : (row : ℕ) (body bytes between rest : List ℕ) → number_at (2 ^ 64) bytes ≡ Ok (row, between)
    → counted_run_at between ≡ Ok (body, rest) → section_at bytes ≡ Ok ((row, body), rest)
unfolding section_at
section_again row body bytes between rest h k = rw (h, k) refl

pub section_put : (row : ℕ) (body old mid new : List ℕ) → Puts (number_at (2 ^ 64)) row old mid
    → Puts counted_run_at body mid new → Puts section_at (row, body) old new
section_put row body old mid new p q = (
  p.0 ++ q.0,
  joined_up old mid new p.0 q.0 p.1 q.1,
  λ rest. ap section_at (append_assoc p.0 q.0 rest) ∙ section_again row body (p.0 ++ (q.0 ++ rest)) (q.0 ++ rest) rest
      (p.2 (q.0 ++ rest)) (q.2 rest),
)

-- ---- sections that were put in a loop

-- Where the sections from a place on are put last, all are.
abbrev pub Completes : List Section → ℕ → List ℕ → List ℕ → Type 0
Completes xs i old front = (new : List ℕ)
    → Puts (sections_at (length (drop i xs))) (map shown (drop i xs)) front new
    → Puts (sections_at (length xs)) (map shown xs) old new

no_section : (bytes : List ℕ) → sections_at 0 bytes ≡ Ok ([], bytes)
unfolding sections_at
no_section bytes = refl

one_section : (n : ℕ) (p : Part) (ps : List Part) (bytes between rest : List ℕ) → section_at bytes ≡ Ok (p, between)
    → sections_at n between ≡ Ok (ps, rest) → sections_at (suc n) bytes ≡ Ok (p ∷ ps, rest)
unfolding sections_at
one_section n p ps bytes between rest h k = rw (h, k) refl

sections_put : (n : ℕ) (p : Part) (ps : List Part) (old mid new : List ℕ) → Puts section_at p old mid
    → Puts (sections_at n) ps mid new → Puts (sections_at (suc n)) (p ∷ ps) old new
sections_put n p ps old mid new a b = (
  a.0 ++ b.0,
  joined_up old mid new a.0 b.0 a.1 b.1,
  λ rest. ap (sections_at (suc n)) (append_assoc a.0 b.0 rest) ∙ one_section n p ps (a.0 ++ (b.0 ++ rest)) (b.0 ++ rest)
      rest (a.2 (b.0 ++ rest)) (b.2 rest),
)

at_place : (xs : List Section) (i : ℕ) (d : Section) → i < length xs → drop i xs ≡ get_or xs i d ∷ drop (i + 1) xs
at_place xs i d lt = drop-cons xs i d lt ∙ rw add-one refl

pub one_put : (xs : List Section) (i : ℕ) (d : Section) (old front mid : List ℕ) → i < length xs
    → Puts section_at (shown (get_or xs i d)) front mid → Completes xs i old front → Completes xs (i + 1) old mid
one_put xs i d old front mid lt puts so_far = λ new others.
    let all : Puts (sections_at (length (drop i xs))) (map shown (drop i xs)) front new =
    rw (at_place xs i d lt) (sections_put (length (drop (i + 1) xs)) (shown (get_or xs i d))
    (map shown (drop (i + 1) xs))
    front mid new puts others) in
    so_far new all

pub all_put : (xs : List Section) (i : ℕ) (old front : List ℕ) → length xs ≤ i → Completes xs i old front
    → Puts (sections_at (length xs)) (map shown xs) old front
all_put xs i old front le so_far =
    let nothing : Puts (sections_at (length (drop i xs))) (map shown (drop i xs)) front front =
    rw (drop_of_length-le xs le) ([], sym (append-nil front), λ rest. no_section rest) in
    so_far front nothing

-- ---- the contents

abbrev held : List ℕ → ℕ → List Part → Parts
held scan rows ps = record { scan = scan; rows = rows; sections = ps }

contents_again : (scan bytes one two three : List ℕ) (rows count : ℕ) (ps : List Part)
    → run_at 32 bytes ≡ Ok (scan, one) → number_at (2 ^ 64) one ≡ Ok (rows, two)
    → number_at (2 ^ 64) two ≡ Ok (count, three) → sections_at count three ≡ Ok (ps, []) → Rise 0 rows ps
    → contents_at bytes ≡ Ok (held scan rows ps)
unfolding contents_at
contents_again scan bytes one two three rows count ps a b c d rise = rw (a, b, c, d, rises_of 0 rows ps rise) refl

-- what was put last are contents that read as this
abbrev pub PutsContents : Parts → List ℕ → List ℕ → Type 0
PutsContents p old new = (s : List ℕ) × (new ≡ old ++ s) × (contents_at s ≡ Ok p)

pub contents_put : (scan : List ℕ) (rows count : ℕ) (ps : List Part) (old a b c new : List ℕ) → length scan ≡ 32
    → Rise 0 rows ps → a ≡ old ++ scan → Puts (number_at (2 ^ 64)) rows a b → Puts (number_at (2 ^ 64)) count b c
    → Puts (sections_at count) ps c new → PutsContents (held scan rows ps) old new
contents_put scan rows count ps old a b c new len rise is p q r =
    let whole : r.0 ≡ r.0 ++ [] = sym (append-nil r.0) in
    let name : run_at 32 (scan ++ (p.0 ++ (q.0 ++ r.0))) ≡ Ok (scan, p.0 ++ (q.0 ++ r.0)) =
    subst (λ (n : ℕ). run_at n (scan ++ (p.0 ++ (q.0 ++ r.0))) ≡ Ok (scan, p.0 ++ (q.0 ++ r.0))) len
    (run_again scan (p.0 ++ (q.0 ++ r.0))) in (
      scan ++ (p.0 ++ (q.0 ++ r.0)),
      joined_up old a new scan (p.0 ++ (q.0 ++ r.0)) is
          (joined_up a b new p.0 (q.0 ++ r.0) p.1 (joined_up b c new q.0 r.0 q.1 r.1)),
      contents_again scan (scan ++ (p.0 ++ (q.0 ++ r.0))) (p.0 ++ (q.0 ++ r.0)) (q.0 ++ r.0) r.0 rows count ps name
          (p.2 (q.0 ++ r.0)) (q.2 r.0) (ap (sections_at count) whole ∙ r.2 []) rise,
    )

-- ---- the whole

equal_bytes : (xs : List ℕ) → bytes_eq xs xs ≡ true
equal_bytes xs = (bytes_eq-Decides xs xs).1 refl

sealed_again : (t : List ℕ) → sealed_at (t ++ sha256 t) ≡ Ok t
unfolding sealed_at
sealed_again t =
    let len : length (t ++ sha256 t) - 32 ≡ length t = omega (arith, length-append t (sha256 t), length-sha256 t) in
    rw (
      len,
      take_at t (sha256 t) (length t) refl,
      drop_at t (sha256 t) (length t) refl,
      equal_bytes (sha256 t),
    ) refl

opened_again : (bytes s : List ℕ) (p : Parts) → sealed_at bytes ≡ Ok (this_version ++ s) → contents_at s ≡ Ok p
    → opened_at bytes ≡ Ok p
unfolding opened_at
opened_again bytes s p h k = rw (h, run_again this_version s, k) refl

begun : (t : List ℕ) → opened_at (this_version ++ t) ≡ parts_at (this_version ++ t)
unfolding parts_at
begun t = refl

pub parts_again : (s all : List ℕ) (p : Parts) → contents_at s ≡ Ok p
    → all ≡ (this_version ++ s) ++ sha256 (this_version ++ s) → parts_at all ≡ Ok p
parts_again s all p h is =
    let t = this_version ++ s in
    let apart : t ++ sha256 t ≡ this_version ++ (s ++ sha256 t) = append_assoc this_version s (sha256 t) in
    ap parts_at (is ∙ apart) ∙ sym (begun (s ++ sha256 t)) ∙ ap opened_at (sym apart) ∙ opened_again (t ++ sha256 t) s p
    (sealed_again t) h
