-- Numbers that are made of the spellings of paths.
use Rattle.std.specs.Prelude.{◌≡◌, ◌<◌, ℕ, suc, List, get_or, length}
use Rattle.std.specs.Hash.FoldHasher.{finish, initial, write}
use Rattle.icescan_audit_findings.specs.declared.repeats.LiveFile.{LiveFile}
use Rattle.icescan_audit_findings.specs.Repeats.{spelling_of}

-- the number of a spelling
abbrev pub fingerprint : List ℕ → ℕ
fingerprint bytes = finish (write initial bytes)

-- that of a file's path
abbrev pub fingerprint_of : LiveFile → ℕ
fingerprint_of x = fingerprint (spelling_of x)

-- each number is above the one before
abbrev pub AreRising : List ℕ → Type 0
AreRising xs = (k : ℕ) → suc k < length xs → get_or xs k 0 < get_or xs (suc k) 0

-- no number is in both lists
abbrev pub AreUnlike : List ℕ → List ℕ → Type 0
AreUnlike xs ys = (i j : ℕ) → i < length xs → j < length ys → get_or xs i 0 ≡ get_or ys j 0 → ⊥
