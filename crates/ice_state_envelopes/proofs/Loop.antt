-- Reading sections one after the other, and testing their rows, as loops do.
use Rattle.std.proofs.Common.{◌≡◌, ℕ, suc, ◌-◌, ◌+◌, ◌≤◌, ◌<◌, List, [], ◌∷◌, ◌++◌, Result, Ok, Err, refl, sym, ap, ◌∙◌}
use Rattle.std.proofs.Common.{append_assoc, arith, length, take, drop, Bool, true, false, cond, ltb}
use Rattle.std.proofs.lemmas.Bool.{ltb-false}
use Rattle.std.proofs.lemmas.List.{append-nil, length-take}
use Rattle.contract_words.specs.Outcome.{◌>>=◌}
use Rattle.avro_file_parts.specs.declared.refusal.Refusal.{Refusal}
use Rattle.avro_file_parts.specs.declared.refusal.Refusal.TheVariants.{Short}
use Rattle.avro_file_parts.specs.Parts.{run_at}
use Rattle.ice_state_envelopes.specs.declared.fault.EnvelopeFault.{EnvelopeFault}
use Rattle.ice_state_envelopes.specs.declared.fault.EnvelopeFault.TheVariants.{Damaged}
use Rattle.ice_state_envelopes.specs.Envelopes.{Part, whole, section_at, sections_at}

-- what was read before, and what is still read
abbrev pub with_front : List Part → Result (List Part × List ℕ) EnvelopeFault
    → Result (List Part × List ℕ) EnvelopeFault
with_front front read = read >>= λ x. Ok (front ++ x.0, x.1)

pub nothing_read : (read : Result (List Part × List ℕ) EnvelopeFault) → with_front [] read ≡ read
nothing_read (Ok x) = refl
nothing_read (Err e) = refl

regroup : (front : List Part) (p : Part) (read : Result (List Part × List ℕ) Refusal)
    → with_front front (whole (read >>= λ x. Ok (p ∷ x.0, x.1))) ≡ with_front (front ++ p ∷ []) (whole read)
regroup front p (Ok x) = ap (λ (ps : List Part). Ok (ps, x.1)) (sym (append_assoc front (p ∷ []) x.0))
regroup front p (Err e) = refl

pub goes_on : (front : List Part) (count i : ℕ) (bytes : List ℕ) (p : Part) (after : List ℕ)
    (total : Result (List Part × List ℕ) EnvelopeFault) → i < count → section_at bytes ≡ Ok (p, after)
    → with_front front (whole (sections_at (count - i) bytes)) ≡ total
    → with_front (front ++ p ∷ []) (whole (sections_at (count - (i + 1)) after)) ≡ total
unfolding sections_at
goes_on front count i bytes p after total lt h so_far =
    let k : count - i ≡ suc (count - (i + 1)) = omega arith in
    let one : with_front front (whole (sections_at (count - i) bytes)) ≡ with_front (front ++ p ∷ [])
    (whole (sections_at (count - (i + 1)) after)) = rw (k, h) (regroup front p (sections_at (count - (i + 1)) after)) in
    sym one ∙ so_far

pub ends : (front : List Part) (count i : ℕ) (bytes : List ℕ) (e : Refusal)
    (total : Result (List Part × List ℕ) EnvelopeFault) → i < count → section_at bytes ≡ Err e
    → with_front front (whole (sections_at (count - i) bytes)) ≡ total → total ≡ Err Damaged
unfolding sections_at
ends front count i bytes e total lt h so_far =
    let k : count - i ≡ suc (count - (i + 1)) = omega arith in
    let one : with_front front (whole (sections_at (count - i) bytes)) ≡ Err Damaged = rw (k, h) refl in
    sym so_far ∙ one

pub is_done : (front : List Part) (count i : ℕ) (bytes : List ℕ)
    (total : Result (List Part × List ℕ) EnvelopeFault) → count ≤ i
    → with_front front (whole (sections_at (count - i) bytes)) ≡ total → total ≡ Ok (front, bytes)
unfolding sections_at
is_done front count i bytes total le so_far =
    let k : count - i ≡ 0 = omega arith in
    let one : with_front front (whole (sections_at (count - i) bytes)) ≡ Ok (front, bytes) =
    rw k (ap (λ (ps : List Part). Ok (ps, bytes)) (append-nil front)) in
    sym so_far ∙ one

-- ---- a run of bytes has its length

run_len : (n : ℕ) (bytes : List ℕ) (short : Bool) (x : List ℕ × List ℕ) → ltb (length bytes) n ≡ short
    → cond short (Err (Short (length bytes))) (Ok (take n bytes, drop n bytes)) ≡ Ok x → length x.0 ≡ n
run_len n bytes true x e h = absurd cc
run_len n bytes false x e h =
    let is : take n bytes ≡ x.0 = cc in
    rw (← is) (omega (arith, length-take n bytes, ltb-false _ _ e))

pub run_at_len : (n : ℕ) (bytes : List ℕ) (x : List ℕ × List ℕ) → run_at n bytes ≡ Ok x → length x.0 ≡ n
unfolding run_at
run_at_len n bytes x h = run_len n bytes (ltb (length bytes) n) x refl h
