-- No fault of bytes or of a join is want of memory.
use Rattle.std.proofs.Common.{◌≡◌, ℕ, ◌^◌, Bool, true, false, ◌&&◌, eqb, cond, List}
use Rattle.std.proofs.Common.{length, take, drop, ◌-◌, Result, Ok}
use Rattle.std.proofs.Common.{Err, refl, sym, subst}
use Rattle.std.specs.Str.{bytes_eq}
use Rattle.sha2.specs.Sha256.{sha256}
use Rattle.contract_words.specs.Outcome.{◌>>=◌}
use Rattle.avro_file_parts.specs.declared.refusal.Refusal.{Refusal}
use Rattle.avro_file_parts.specs.Number.{number_at}
use Rattle.avro_file_parts.specs.Parts.{run_at}
use Rattle.ice_state_envelopes.specs.declared.fault.EnvelopeFault.{EnvelopeFault}
use Rattle.ice_state_envelopes.specs.declared.fault.EnvelopeFault.TheVariants.{NotAState, OtherVersion, Damaged}
use Rattle.ice_state_envelopes.specs.declared.fault.EnvelopeFault.TheVariants.{OtherScan, Memory}
use Rattle.ice_state_envelopes.specs.Envelopes.{Part, Parts, rises, whole, sections_at}
use Rattle.ice_state_envelopes.specs.Envelopes.{sealed_at, contents_at, opened_at}
use Rattle.ice_state_envelopes.specs.Envelopes.{parts_at, begins, any_version, this_version}
use Rattle.ice_state_envelopes.specs.Joins.{union, joined}
use Rattle.ice_state_envelopes.proofs.Joins.{held, end_of, counted, behind_rows, behind_scan, behind_line, behind_seal}
use Rattle.ice_state_envelopes.proofs.Joins.{contents_steps, opened_steps}

abbrev Never : {A : Type 0} → Result A EnvelopeFault → Type 0
Never r = r ≡ Err Memory → ⊥

abbrev failed : (A : Type 0) → EnvelopeFault → Result A EnvelopeFault
failed A e = Err e

failed_never : (A B : Type 0) (e : EnvelopeFault) → Never (failed A e) → Never (failed B e)
failed_never A B NotAState h = λ is. absurd cc
failed_never A B OtherVersion h = λ is. absurd cc
failed_never A B Damaged h = λ is. absurd cc
failed_never A B OtherScan h = λ is. absurd cc
failed_never A B Memory h = absurd (h refl)

then_never : (A B : Type 0) (r : Result A EnvelopeFault) (f : A → Result B EnvelopeFault) → Never r
    → ((x : A) → Never (f x)) → Never (r >>= f)
then_never A B (Ok x) f h k = k x
then_never A B (Err e) f h k = failed_never A B e h

whole_never : {A : Type 0} (r : Result A Refusal) → Never (whole r)
whole_never (Ok x) = λ is. absurd cc
whole_never (Err e) = λ is. absurd cc

either_never : {A : Type 0} (b : Bool) (r s : Result A EnvelopeFault) → Never r → Never s → Never (cond b r s)
either_never true r s h k = h
either_never false r s h k = k

ok_never : {A : Type 0} (x : A) → Never (Ok x)
ok_never x = λ is. absurd cc

damaged_never : (A : Type 0) → Never (failed A Damaged)
damaged_never A = λ is. absurd cc

sealed_never : (bytes : List ℕ) → Never (sealed_at bytes)
unfolding sealed_at
sealed_never bytes = either_never (bytes_eq (sha256 (take (length bytes - 32) bytes)) (drop (length bytes - 32) bytes))
    (Ok (take (length bytes - 32) bytes)) (Err Damaged) (ok_never (take (length bytes - 32) bytes))
    (damaged_never (List ℕ))

end_never : (scan : List ℕ) (rows : ℕ) (x : List Part × List ℕ) → Never (end_of scan rows x)
end_never scan rows x = either_never (eqb (length x.1) 0 && rises 0 rows x.0) (Ok (held scan rows x.0)) (Err Damaged)
    (ok_never (held scan rows x.0)) (damaged_never Parts)

counted_never : (scan : List ℕ) (rows : ℕ) (x : ℕ × List ℕ) → Never (counted scan rows x)
counted_never scan rows x = then_never (List Part × List ℕ) Parts (whole (sections_at x.0 x.1)) (end_of scan rows)
    (whole_never (sections_at x.0 x.1)) (end_never scan rows)

rows_never : (scan : List ℕ) (x : ℕ × List ℕ) → Never (behind_rows scan x)
rows_never scan x = then_never (ℕ × List ℕ) Parts (whole (number_at (2 ^ 64) x.1)) (counted scan x.0)
    (whole_never (number_at (2 ^ 64) x.1)) (counted_never scan x.0)

scan_never : (x : List ℕ × List ℕ) → Never (behind_scan x)
scan_never x = then_never (ℕ × List ℕ) Parts (whole (number_at (2 ^ 64) x.1)) (behind_rows x.0)
    (whole_never (number_at (2 ^ 64) x.1)) (rows_never x.0)

contents_never : (bytes : List ℕ) → Never (contents_at bytes)
contents_never bytes = subst (λ (r : Result Parts EnvelopeFault). Never r) (sym (contents_steps bytes))
    (then_never (List ℕ × List ℕ) Parts (whole (run_at 32 bytes)) behind_scan (whole_never (run_at 32 bytes))
    scan_never)

seal_never : (sealed : List ℕ) → Never (behind_seal sealed)
seal_never sealed = then_never (List ℕ × List ℕ) Parts (whole (run_at (length this_version) sealed)) behind_line
    (whole_never (run_at (length this_version) sealed)) (λ x. contents_never x.1)

opened_never : (bytes : List ℕ) → Never (opened_at bytes)
opened_never bytes = subst (λ (r : Result Parts EnvelopeFault). Never r) (sym (opened_steps bytes))
    (then_never (List ℕ) Parts (sealed_at bytes) behind_seal (sealed_never bytes) seal_never)

version_never : (e : EnvelopeFault) → (e ≡ Memory → ⊥) → Never (failed Parts e)
version_never e h = λ is. h (same e is) where
  same : (e : EnvelopeFault) → failed Parts e ≡ Err Memory → e ≡ Memory
  same e is = cc

pub parts_never : (bytes : List ℕ) → Never (parts_at bytes)
unfolding parts_at
parts_never bytes = either_never (begins any_version bytes) (cond (begins this_version bytes) (opened_at bytes)
    (Err OtherVersion)) (Err NotAState)
    (either_never (begins this_version bytes) (opened_at bytes) (Err OtherVersion) (opened_never bytes)
    (version_never OtherVersion (λ is. absurd cc))) (version_never NotAState (λ is. absurd cc))

pub joined_never : (p q : Parts) → Never (joined p q)
joined_never p q = either_never (bytes_eq p.scan q.scan && eqb p.rows q.rows)
    (Ok (record { scan = p.scan; rows = p.rows; sections = union p.sections q.sections })) (Err OtherScan)
    (ok_never (record { scan = p.scan; rows = p.rows; sections = union p.sections q.sections }))
    (version_never OtherScan (λ is. absurd cc))
