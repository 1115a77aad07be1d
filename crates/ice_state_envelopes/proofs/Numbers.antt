-- Numbers and runs that were put last read back.
use Rattle.std.proofs.Common.{◌≡◌, ℕ, zero, suc, ◌+◌, ◌-◌, ◌*◌, ◌/◌, ◌%◌, ◌^◌, ◌<◌, ◌≤◌, ℤ, false, ltb, List, [], ◌∷◌}
use Rattle.std.proofs.Common.{◌++◌, length, Ok, refl, ap, ◌∙◌, append_assoc, arith}
use Rattle.std.proofs.lemmas.Bool.{lt-ltb, le-ltb}
use Rattle.std.proofs.lemmas.List.{take_at, drop_at, length-append}
use Rattle.std.proofs.Math.Nat.{pow-suc}
use Rattle.avro_file_parts.specs.Number.{groups_at, number_at, long_at, signed_of}
use Rattle.avro_file_parts.specs.Parts.{run_at}
use Rattle.ice_state_envelopes.specs.Written.{Puts, counted_run_at}

-- ---- groups

divided : (n t : ℕ) → n < 128 ^ suc (suc t) → n / 128 < 128 ^ suc t
divided n t lt = let p : 128 ^ suc (suc t) ≡ 128 ^ suc t * 128 = pow-suc 128 (suc t) in omega (arith, lt, p)

one_group : (n : ℕ) → n < 128 ^ suc 0 → n < 128
one_group n lt = omega (arith, lt)

-- Where what is left of a number is put last, the whole number is.
pub record Completes (number rest : ℕ) (old front : List ℕ) : Type 0 where
  pub turns : ℕ
  pub fits : rest < 128 ^ suc turns
  pub then : (new : List ℕ) → Puts (groups_at (suc turns)) rest front new → Puts (groups_at 10) number old new

pub nothing_put : (number : ℕ) (old : List ℕ) → number < 2 ^ 64 → Completes number number old old
nothing_put number old lt = record { turns = 9; fits = omega (arith, lt); then = λ new puts. puts }

group_again : (t n : ℕ) (s rest : List ℕ) → groups_at t (s ++ rest) ≡ Ok (n / 128, rest)
    → groups_at (suc t) ((n % 128 + 128) ∷ (s ++ rest)) ≡ Ok (n, rest)
unfolding groups_at
group_again t n s rest h =
    let large : ltb (n % 128 + 128) 128 ≡ false = le-ltb _ _ (omega arith) in
    let is : n % 128 + 128 - 128 + 128 * (n / 128) ≡ n = omega arith in
    rw (large, h, is) refl

group_put : (t n : ℕ) (front new : List ℕ) → Puts (groups_at t) (n / 128) (front ++ (n % 128 + 128) ∷ []) new
    → Puts (groups_at (suc t)) n front new
group_put t n front new puts = (
  (n % 128 + 128) ∷ puts.0,
  puts.1 ∙ append_assoc front ((n % 128 + 128) ∷ []) puts.0,
  λ rest. group_again t n puts.0 rest (puts.2 rest),
)

pub one_more : (number rest : ℕ) (old front : List ℕ) → 128 ≤ rest → Completes number rest old front
    → Completes number (rest / 128) old (front ++ (rest % 128 + 128) ∷ [])
one_more number rest old front le c = more c.turns c.fits c.then where
  more : (turns : ℕ) → rest < 128 ^ suc turns
      → ((new : List ℕ) → Puts (groups_at (suc turns)) rest front new → Puts (groups_at 10) number old new)
      → Completes number (rest / 128) old (front ++ (rest % 128 + 128) ∷ [])
  more zero fits then = absurd (omega (arith, le, one_group rest fits))
  more (suc t) fits then = record {
    turns = t;
    fits = divided rest t fits;
    then = λ new puts. then new (group_put (suc t) rest front new puts);
  }

last_group : (t n : ℕ) (rest : List ℕ) → n < 128 → groups_at (suc t) (n ∷ rest) ≡ Ok (n, rest)
unfolding groups_at
last_group t n rest lt = rw (lt-ltb _ _ lt) refl

number_again : (n : ℕ) (bytes rest : List ℕ) → n < 2 ^ 64 → groups_at 10 bytes ≡ Ok (n, rest)
    → number_at (2 ^ 64) bytes ≡ Ok (n, rest)
unfolding number_at
number_again n bytes rest lt h = rw (h, lt-ltb _ _ lt) refl

pub all_put : (number rest : ℕ) (old front new : List ℕ) → number < 2 ^ 64 → rest < 128
    → Completes number rest old front → new ≡ front ++ rest ∷ [] → Puts (number_at (2 ^ 64)) number old new
all_put number rest old front new fits lt c is =
    let puts = c.then new (rest ∷ [], is, λ behind. last_group c.turns rest behind lt) in
    (puts.0, puts.1, λ behind. number_again number (puts.0 ++ behind) behind fits (puts.2 behind))

-- ---- whole numbers and runs

long_again : (n : ℕ) (bytes rest : List ℕ) → number_at (2 ^ 64) bytes ≡ Ok (n, rest)
    → long_at bytes ≡ Ok (signed_of n, rest)
unfolding long_at
long_again n bytes rest h = rw h refl

pub long_put : (n : ℕ) (z : ℤ) (old new : List ℕ) → signed_of n ≡ z → Puts (number_at (2 ^ 64)) n old new
    → Puts long_at z old new
long_put n z old new is puts =
    (puts.0, puts.1, λ rest. long_again n (puts.0 ++ rest) rest (puts.2 rest) ∙ ap (λ (w : ℤ). Ok (w, rest)) is)

pub run_again : (run rest : List ℕ) → run_at (length run) (run ++ rest) ≡ Ok (run, rest)
unfolding run_at
run_again run rest =
    let enough : ltb (length (run ++ rest)) (length run) ≡ false = le-ltb _ _ (omega (arith, length-append run rest)) in
    rw (enough, take_at run rest (length run) refl, drop_at run rest (length run) refl) refl

counted_again : (run bytes behind : List ℕ) → number_at (2 ^ 64) bytes ≡ Ok (length run, run ++ behind)
    → counted_run_at bytes ≡ Ok (run, behind)
unfolding counted_run_at
counted_again run bytes behind h = rw h (run_again run behind)

pub run_put : (run old mid new : List ℕ) → Puts (number_at (2 ^ 64)) (length run) old mid → new ≡ mid ++ run
    → Puts counted_run_at run old new
run_put run old mid new puts is = (
  puts.0 ++ run,
  is ∙ ap (λ (s : List ℕ). s ++ run) puts.1 ∙ append_assoc old puts.0 run,
  λ rest. ap counted_run_at (append_assoc puts.0 run rest) ∙ counted_again run (puts.0 ++ (run ++ rest)) rest (puts.2
      (run ++ rest)),
)
