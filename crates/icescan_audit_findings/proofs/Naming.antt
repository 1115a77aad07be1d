-- Paths that delete files name, beside paths of data files.
use Rattle.std.proofs.Common.{◌≡◌, ◌∙◌, ◌∷◌, [], ℕ, Bool, false, not, List, Option, Some, None, refl, sym, ap, get_or}
use Rattle.std.proofs.Common.{length}
use Rattle.std.proofs.Common.{◌<◌}
use Rattle.std.specs.List.{list_any}
use Rattle.std.specs.List.Sorted.{IsPermutation}
use Rattle.std.specs.Prelude.{is_some}
use Rattle.std.specs.Str.{bytes_eq}
use Rattle.std.proofs.lemmas.Bool.{or_parts}
use Rattle.std.proofs.lemmas.List.{get_or-map}
use Rattle.std.proofs.lemmas.List.Sorted.{list_any-IsPermutation}
use Rattle.icescan_audit_findings.specs.Dangling.{names_none}
use Rattle.icescan_audit_findings.specs.Lookups.{delete_lent, naming_none}
use Rattle.icescan_audit_findings.specs.declared.deletes.DeleteFile.{DeleteFile}

-- the order of the paths tells nothing
names_alike : (ps qs : List (List ℕ)) (named : Option (List ℕ)) → IsPermutation ps qs
    → names_none qs named ≡ names_none ps named
names_alike ps qs None same = refl
names_alike ps qs (Some path) same = ap not (sym (list_any-IsPermutation (λ p. bytes_eq p path) ps qs same))

pub named_alike : (ps qs : List (List ℕ)) (deletes : List DeleteFile) → IsPermutation ps qs
    → naming_none qs deletes ≡ naming_none ps deletes
named_alike ps qs [] same = refl
named_alike ps qs (d ∷ ds) same =
    let first = names_alike ps qs (delete_lent d).1.referenced same in
    let rest = named_alike ps qs ds same in
    cc

-- what names nothing names no path that is none of these, whichever these are
unnamed : (ps qs : List (List ℕ)) (named : Option (List ℕ)) → is_some named ≡ false
    → names_none ps named ≡ names_none qs named
unnamed ps qs None h = refl
unnamed ps qs (Some path) h = absurd cc

pub none_named : (ps qs : List (List ℕ)) (deletes : List DeleteFile)
    → list_any (λ d. is_some (delete_lent d).1.referenced) deletes ≡ false
    → naming_none ps deletes ≡ naming_none qs deletes
none_named ps qs [] h = refl
none_named ps qs (d ∷ ds) h =
    let parts = or_parts (is_some (delete_lent d).1.referenced)
    (list_any (λ e. is_some (delete_lent e).1.referenced) ds) h in
    let first = unnamed ps qs (delete_lent d).1.referenced parts.0 in
    let rest = none_named ps qs ds parts.1 in
    cc

-- the delete file at a place
name_at : (ps : List (List ℕ)) (deletes : List DeleteFile) (i : ℕ) (d : DeleteFile) → i < length deletes
    → d ≡ get_or deletes i d → get_or (naming_none ps deletes) i false ≡ names_none ps (delete_lent d).1.referenced
name_at ps deletes i d low is =
    let names : DeleteFile → Bool = λ e. names_none ps (delete_lent e).1.referenced in
    get_or-map names deletes i d false low ∙ ap names (sym is)

pub names_same : (ps qs : List (List ℕ)) (deletes : List DeleteFile) (i : ℕ) (d : DeleteFile) → i < length deletes
    → d ≡ get_or deletes i d → naming_none ps deletes ≡ naming_none qs deletes
    → names_none ps (delete_lent d).1.referenced ≡ names_none qs (delete_lent d).1.referenced
names_same ps qs deletes i d low is same =
    sym (name_at ps deletes i d low is)
    ∙ ap (λ (bs : List Bool). get_or bs i false) same
    ∙ name_at qs deletes i d low is
