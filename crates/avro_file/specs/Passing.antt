-- Objects that a reader gave and that were let go.
use Rattle.std.specs.Prelude.{◌≡◌, ℕ, zero, suc, Ok, Some}
use Rattle.avro_file.specs.Ahead.{Ahead}
use Rattle.avro_file.specs.Files.{Next}

-- one call of next gives an object, of which nothing more is asked
abbrev pub Passes : Ahead → Ahead → Type 0
Passes old new = Next {X = Unit {0}} (λ x v. Unit {0}) old (Ok (Some tt)) new

-- so many calls of next, one after the other
abbrev pub PassesAll : ℕ → Ahead → Ahead → Type 0
PassesAll zero old new = new ≡ old
PassesAll (suc n) old new = (between : Ahead) × Passes old between × PassesAll n between new
