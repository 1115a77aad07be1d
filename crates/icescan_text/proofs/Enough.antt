-- What so many workers are answered.
use Rattle.std.proofs.Common.{◌≡◌, ◌⊎◌, inl, inr, ℕ, ◌<◌, ◌≤◌, arith, refl}
use Rattle.std.specs.Prelude.{Result, Err}
use Rattle.std.proofs.lemmas.Bool.{le-leb, lt-leb}
use Rattle.icescan_text.specs.declared.fault.RunFault.{RunFault}
use Rattle.icescan_text.specs.declared.fault.RunFault.TheVariants as run
use Rattle.icescan_text.specs.Workers.{by_workers}

pub enough : {A : Type 0} (workers : ℕ) (read : Result A RunFault) → 0 < workers → workers ≤ 64
    → by_workers workers read ≡ read
enough workers read some few = rw (le-leb 1 workers (omega arith), le-leb workers 64 few) refl

-- none, or too many
pub not_enough : {A : Type 0} (workers : ℕ) (read : Result A RunFault) → (workers ≡ 0) ⊎ (64 < workers)
    → by_workers workers read ≡ Err run.Workers
not_enough workers read (inl h) = rw (lt-leb 1 workers (omega (arith, h))) refl
not_enough workers read (inr h) = rw (le-leb 1 workers (omega arith), lt-leb workers 64 h) refl

-- as many workers are neither none nor too many
pub in_range : (workers : ℕ) → 0 < workers → workers ≤ 64 → (workers ≡ 0) ⊎ (64 < workers) → ⊥
in_range workers some few (inl h) = absurd (omega (arith, h))
in_range workers some few (inr h) = absurd (omega arith)
