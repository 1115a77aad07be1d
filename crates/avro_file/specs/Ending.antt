-- Where values end, by places in the bytes.
use Rattle.std.specs.Prelude.{◌≡◌, ◌≤◌, ◌<◌, ℕ, List, length, drop, Result, Ok}
use Rattle.avro_file_parts.specs.declared.refusal.Refusal.{Refusal}
use Rattle.avro_file_parts.specs.Parts.{Position, Read, behind}

-- a reader at a place in the bytes, which may read so many items more
abbrev pub standing : List ℕ → ℕ → ℕ → Position
standing bytes at left = record { bytes = drop at bytes; left = left }

-- reading at the place gives this, and goes on at the end
abbrev pub EndsWith : {A : Type 0} → (List ℕ → Result (A × List ℕ) Refusal) → List ℕ → ℕ → A → ℕ → Type 0
EndsWith read bytes at x end = (at < end) × (end ≤ length bytes) × (read (drop at bytes) ≡ Ok (x, drop end bytes))

-- reading at the place, whatever it gives, goes on at the end
abbrev pub Ends : {A : Type 0} → (List ℕ → Result (A × List ℕ) Refusal) → List ℕ → ℕ → ℕ → Type 0
Ends read bytes at end = (at ≤ end) × (end ≤ length bytes) × (behind (read (drop at bytes)) ≡ Ok (drop end bytes))

-- the same of a reader that counts items: so many are left at the end
abbrev pub EndsCounted : {A : Type 0} → (Position → Read A) → List ℕ → ℕ → ℕ → ℕ → ℕ → Type 0
EndsCounted read bytes at left end after = (end ≤ length bytes)
    × (behind (read (standing bytes at left)) ≡ Ok (standing bytes end after))
