-- Live files as they are lent, and what is found for them.
use Rattle.std.specs.Prelude.{◌≡◌, ◌≤◌, ◌<◌, ℕ, ◌==◌, ◌&&◌, Bool, false, List, Contains, length, get_or, Option, Some, map}
use Rattle.std.specs.Borrow.{Bor}
use Rattle.std.specs.Cmp.Lexicographic.{slice_cmp}
use Rattle.std.specs.List.{list_any}
use Rattle.std.specs.Ordering.{nat_cmp}
use Rattle.std.specs.declared.cmp.Ordering.{Ordering}
use Rattle.ice_value.specs.Applying.{DataKey, DeleteKey, applies}
use Rattle.icescan_audit_findings.specs.declared.reaching.DataFile.{DataFile}
use Rattle.icescan_audit_findings.specs.declared.deletes.DeleteFile.{DeleteFile}
use Rattle.icescan_audit_findings.specs.declared.file_key.FileKey.{FileKey}
use Rattle.icescan_audit_findings.specs.declared.repeats.LiveFile.{LiveFile}
use Rattle.icescan_audit_findings.specs.Dangling.{data_key, names_none}

abbrev pub data_lent : DataFile → DataKey
data_lent x = data_key x.path.now x.key.now

abbrev pub delete_lent : DeleteFile → LiveFile × FileKey
delete_lent d = (d.file.now, d.key.now)

-- of each delete file whether it names a path that is none of these
abbrev pub naming_none : List (List ℕ) → List DeleteFile → List Bool
naming_none paths deletes = map (λ d. names_none paths (delete_lent d).1.referenced) deletes

-- the delete file of this number applies to the data file
abbrev pub is_hit : List (ℕ × DeleteKey) → DataKey → ℕ → Bool
is_hit index x k = list_any (λ e. (e.0 == k) && applies x e.1) index

-- of each delete file of an index, whose numbers are below this one, whether it applies to one of these
abbrev pub AreMarks : ℕ → List (ℕ × DeleteKey) → List DataKey → List Bool → Type 0
AreMarks deletes index xs marks = (length marks ≡ deletes)
    × ((k : ℕ) → k < deletes → get_or marks k false ≡ list_any (λ x. is_hit index x k) xs)

-- of two data files of one partition the first is no newer: what applies to the second applies to it too, unless a delete
-- file names a data file
abbrev pub Covers : DataKey → DataKey → Type 0
Covers y x = (y.spec_id ≡ x.spec_id) × (y.tuple ≡ x.tuple) × (y.sequence_number ≤ x.sequence_number)

-- the data files in these slots are among these
abbrev pub AreSeen : List DataKey → List (Option DataFile) → Type 0
AreSeen xs slots = (y : DataFile) → Contains slots (Some y) → Contains xs (data_lent y)

-- the order of paths
abbrev pub path_order : Bor (List ℕ) → Bor (List ℕ) → Ordering
path_order a b = slice_cmp nat_cmp a.now b.now
