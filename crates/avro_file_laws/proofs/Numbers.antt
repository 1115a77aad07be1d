-- How numbers are refused.
use Rattle.std.proofs.Common.{◌≡◌, ℕ, zero, suc, ◌+◌, ◌-◌, ◌*◌, ◌^◌, ◌<◌, ◌≤◌, Bool, true, false, cond, ltb, List, []}
use Rattle.std.proofs.Common.{◌∷◌, ◌++◌, length, Result, Ok, Err, ◌⊎◌, inl, inr, refl, sym, ap, ◌∙◌, arith}
use Rattle.std.proofs.lemmas.Bool.{ltb-false, lt-ltb, le-ltb}
use Rattle.contract_words.specs.Outcome.{◌>>=◌}
use Rattle.avro_file_parts.specs.declared.refusal.Refusal.{Refusal}
use Rattle.avro_file_parts.specs.declared.refusal.Refusal.TheVariants.{Short, BadNumber}
use Rattle.avro_file_parts.specs.Number.{IsGroups, signed_of, groups_at, number_at, long_at, int_at}
use Rattle.avro_file.proofs.Steps.{either}
use Rattle.avro_file.proofs.Taken.{number_takes}
use Rattle.avro_file_laws.specs.Parts.{GoesOn, IsOpenNumber, IsNoNumber}

-- ---- steps that fail

abbrev failed : {A E : Type 0} → E → Result A E
failed e = Err e

pub err_is : {A E : Type 0} (d e : E) → failed {A = A} d ≡ failed e → d ≡ e
err_is d e h = cc

-- which step failed
pub bind_err : {A B E : Type 0} (r : Result A E) (f : A → Result B E) (e : E) → (r >>= f) ≡ Err e
    → (r ≡ Err e) ⊎ ((x : A) × (r ≡ Ok x) × (f x ≡ Err e))
bind_err {A} (Ok x) f e h = inr (x, refl, h)
bind_err {A} (Err d) f e h = let same : d ≡ e = cc in inl (ap (λ y. Err y) same)

pub which : {A E : Type 0} (r : Result A E) → ((x : A) × (r ≡ Ok x)) ⊎ ((e : E) × (r ≡ Err e))
which (Ok x) = inl (x, refl)
which (Err e) = inr (e, refl)

pub which_way : (b : Bool) → (b ≡ true) ⊎ (b ≡ false)
which_way true = inl refl
which_way false = inr refl

-- ---- groups

groups_open : (turns : ℕ) (bytes : List ℕ) → GoesOn bytes → length bytes < turns → groups_at turns bytes ≡ Err (Short 0)
unfolding groups_at
groups_open zero bytes on lt = absurd (omega arith)
groups_open (suc turns) [] on lt = refl
groups_open (suc turns) (b ∷ bytes) on lt = rw (le-ltb _ _ on.0, groups_open turns bytes on.1 (omega arith)) refl

groups_over : (turns : ℕ) (front rest : List ℕ) → GoesOn front → length front ≡ turns
    → groups_at turns (front ++ rest) ≡ Err BadNumber
unfolding groups_at
groups_over zero [] rest on n = refl
groups_over zero (b ∷ front) rest on n = absurd (omega arith)
groups_over (suc turns) [] rest on n = absurd (omega arith)
groups_over (suc turns) (b ∷ front) rest on n = rw (le-ltb _ _ on.0, groups_over turns front rest on.1 (omega arith))
    refl

pub groups_again : (turns : ℕ) (bytes : List ℕ) (n : ℕ) (rest : List ℕ) → IsGroups bytes n → length bytes ≤ turns
    → groups_at turns (bytes ++ rest) ≡ Ok (n, rest)
unfolding groups_at
groups_again zero [] n rest is le = absurd is
groups_again zero (b ∷ bytes) n rest is le = absurd (omega arith)
groups_again (suc turns) [] n rest is le = absurd is
groups_again (suc turns) (b ∷ bytes) n rest (inl is) le = rw (lt-ltb _ _ is.0, is.1, is.2) refl
groups_again (suc turns) (b ∷ bytes) n rest (inr is) le =
    rw (le-ltb _ _ is.0, groups_again turns bytes is.1 rest is.3 (omega arith), is.2) refl

abbrev GroupsErr : ℕ → List ℕ → Refusal → Type 0
GroupsErr turns bytes e = ((e ≡ Short 0) × GoesOn bytes × (length bytes < turns)) ⊎ ((e ≡ BadNumber)
    × (front : List ℕ) × (rest : List ℕ) × GoesOn front × (length front ≡ turns) × (bytes ≡ front ++ rest))

one_more : (turns b : ℕ) (bytes : List ℕ) (e : Refusal) → 128 ≤ b → GroupsErr turns bytes e
    → GroupsErr (suc turns) (b ∷ bytes) e
one_more turns b bytes e on (inl h) = inl (h.0, (on, h.1), omega (arith, h.2))
one_more turns b bytes e on (inr h) = inr (
  h.0,
  b ∷ h.1,
  h.2,
  (on, h.3),
  ap suc h.4,
  ap (λ (t : List ℕ). b ∷ t) h.5,
)

groups_err : (turns : ℕ) (bytes : List ℕ) (e : Refusal) → groups_at turns bytes ≡ Err e → GroupsErr turns bytes e
unfolding groups_at
groups_err zero bytes e h = inr (sym (err_is BadNumber e h), [], bytes, tt, refl, refl)
groups_err (suc turns) [] e h = inl (sym (err_is (Short 0) e h), tt, omega arith)
groups_err (suc turns) (b ∷ bytes) e h =
    elim (either (ltb b 128) (Ok (b, bytes)) (groups_at turns bytes >>= λ y. Ok (b - 128 + 128 * y.0, y.1)) (Err e) h) [
      | inl g ↦ absurd (let k = g.1 in cc)
      | inr g ↦
          elim (bind_err (groups_at turns bytes) (λ y. Ok (b - 128 + 128 * y.0, y.1)) e g.1) [
            | inl k ↦ one_more turns b bytes e (ltb-false _ _ g.0) (groups_err turns bytes e k)
            | inr k ↦ absurd (let m = k.2 in cc)
          ]
    ]

-- ---- numbers below a limit

abbrev pub NumberErr : ℕ → List ℕ → Refusal → Type 0
NumberErr limit bytes e = (IsOpenNumber bytes × (e ≡ Short (length bytes))) ⊎ ((e ≡ BadNumber) × IsNoNumber limit bytes)

number_open : (limit : ℕ) (bytes : List ℕ) → IsOpenNumber bytes → number_at limit bytes ≡ Err (Short (length bytes))
unfolding number_at
number_open limit bytes is = rw (groups_open 10 bytes is.0 is.1) refl

number_over : (limit : ℕ) (front rest : List ℕ) → GoesOn front → length front ≡ 10
    → number_at limit (front ++ rest) ≡ Err BadNumber
unfolding number_at
number_over limit front rest on ten = rw (groups_over 10 front rest on ten) refl

number_high : (limit : ℕ) (front rest : List ℕ) (n : ℕ) → IsGroups front n → length front ≤ 10 → limit ≤ n
    → number_at limit (front ++ rest) ≡ Err BadNumber
unfolding number_at
number_high limit front rest n is le high = rw (groups_again 10 front n rest is le, le-ltb _ _ high) refl

number_none : (limit : ℕ) (bytes front rest : List ℕ) → (GoesOn front × (length front ≡ 10)) ⊎ ((n : ℕ) ×
    IsGroups front n × (length front ≤ 10) × (limit ≤ n)) → bytes ≡ front ++ rest
    → number_at limit bytes ≡ Err BadNumber
number_none limit bytes front rest (inl h) e = rw e (number_over limit front rest h.0 h.1)
number_none limit bytes front rest (inr h) e = rw e (number_high limit front rest h.0 h.1 h.2 h.3)

-- a number that is found is below the one after it
found_below : (bytes : List ℕ) (x : ℕ × List ℕ) → groups_at 10 bytes ≡ Ok x → number_at (suc x.0) bytes ≡ Ok x
unfolding number_at
found_below bytes x e =
    let below : ltb x.0 (suc x.0) ≡ true = lt-ltb _ _ (omega arith) in
    rw (e, below) refl

number_too_high : (limit : ℕ) (bytes : List ℕ) (e : Refusal) (x : ℕ × List ℕ) → groups_at 10 bytes ≡ Ok x
    → number_at limit bytes ≡ Err e → NumberErr limit bytes e
unfolding number_at
number_too_high limit bytes e x g h =
    let t = number_takes (suc x.0) bytes x (found_below bytes x g) in
    let test : cond (ltb x.0 limit) (Ok x) (Err BadNumber) ≡ Err e = rw g at h in
    elim (either (ltb x.0 limit) (Ok x) (Err BadNumber) (Err e) test) [
      | inl k ↦ absurd (let m = k.1 in cc)
      | inr k ↦ inr (
        sym (err_is {A = ℕ × List ℕ} BadNumber e k.1),
        (t.front, x.1, inr (x.0, t.spelled.0, t.spelled.1, ltb-false _ _ k.0), t.parts),
      )
    ]

number_stops : (limit : ℕ) (bytes : List ℕ) (e d : Refusal) → groups_at 10 bytes ≡ Err d → GroupsErr 10 bytes d
    → number_at limit bytes ≡ Err e → NumberErr limit bytes e
unfolding number_at
number_stops limit bytes e d g (inl k) h =
    let short : groups_at 10 bytes ≡ Err (Short 0) = g ∙ ap (λ (y : Refusal). Err y) k.0 in
    let all : failed {A = ℕ × List ℕ} (Short (length bytes)) ≡ failed e = rw short at h in
    inl ((k.1, k.2), sym (err_is (Short (length bytes)) e all))
number_stops limit bytes e d g (inr k) h =
    let bad : groups_at 10 bytes ≡ Err BadNumber = g ∙ ap (λ (y : Refusal). Err y) k.0 in
    let all : failed {A = ℕ × List ℕ} BadNumber ≡ failed e = rw bad at h in
    inr (sym (err_is BadNumber e all), (k.1, k.2, inl (k.3, k.4), k.5))

number_err : (limit : ℕ) (bytes : List ℕ) (e : Refusal) → number_at limit bytes ≡ Err e → NumberErr limit bytes e
number_err limit bytes e h =
    elim (which (groups_at 10 bytes)) [
      | inl g ↦ number_too_high limit bytes e g.0 g.1 h
      | inr g ↦ number_stops limit bytes e g.0 g.1 (groups_err 10 bytes g.0 g.1) h
    ]

number_fails : (limit : ℕ) (bytes : List ℕ) (e : Refusal) → NumberErr limit bytes e → number_at limit bytes ≡ Err e
number_fails limit bytes e (inl h) = number_open limit bytes h.0 ∙ ap (λ (y : Refusal). Err y) (sym h.1)
number_fails limit bytes e (inr h) = number_none limit bytes h.1.0 h.1.1 h.1.2
    h.1.3 ∙ ap (λ (y : Refusal). Err y) (sym h.0)

-- ---- longs and ints

pub long_err : (bytes : List ℕ) (e : Refusal) → long_at bytes ≡ Err e → NumberErr (2 ^ 64) bytes e
unfolding long_at
long_err bytes e h =
    elim (bind_err (number_at (2 ^ 64) bytes) (λ x. Ok (signed_of x.0, x.1)) e h) [
      | inl g ↦ number_err (2 ^ 64) bytes e g
      | inr g ↦ absurd (let k = g.2 in cc)
    ]

pub long_fails : (bytes : List ℕ) (e : Refusal) → NumberErr (2 ^ 64) bytes e → long_at bytes ≡ Err e
unfolding long_at
long_fails bytes e h = rw (number_fails (2 ^ 64) bytes e h) refl

pub int_err : (bytes : List ℕ) (e : Refusal) → int_at bytes ≡ Err e → NumberErr (2 ^ 32) bytes e
unfolding int_at
int_err bytes e h =
    elim (bind_err (number_at (2 ^ 32) bytes) (λ x. Ok (signed_of x.0, x.1)) e h) [
      | inl g ↦ number_err (2 ^ 32) bytes e g
      | inr g ↦ absurd (let k = g.2 in cc)
    ]

pub int_fails : (bytes : List ℕ) (e : Refusal) → NumberErr (2 ^ 32) bytes e → int_at bytes ≡ Err e
unfolding int_at
int_fails bytes e h = rw (number_fails (2 ^ 32) bytes e h) refl
