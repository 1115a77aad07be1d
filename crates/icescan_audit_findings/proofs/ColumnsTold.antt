-- What was looked up of columns, and the flaws of one more column.
use Rattle.std.proofs.Common.{◌≡◌, ℕ, ◌+◌, ◌<◌, ℤ, List, [], ◌∷◌, ◌++◌, length, get_or, take, pos, sym, ap, ◌∙◌, Option}
use Rattle.std.proofs.Common.{None, Bor, append_assoc}
use Rattle.std.specs.Option.{option_copied}
use Rattle.std.specs.Prelude.{option_map}
use Rattle.std.proofs.lemmas.List.{append-nil, take_more}
use Rattle.std.proofs.lemmas.Grind.{flat_map-append}
use Rattle.ice_value.specs.Columns.{ColumnBound, ColumnCount, bound_of, count_of}
use Rattle.ice_value.specs.Pairs.{bounds_said, counts_said, last_of}
use Rattle.ice_value.specs.declared.file_bounds.FileBounds.{FileBounds}
use Rattle.ice_value.proofs.Pairs.{last_bound, last_count}
use Rattle.icescan_audit_findings.specs.ColumnFlaws.{column_flaws, columns_flaws}
use Rattle.icescan_audit_findings.specs.declared.basis.TypedColumn.{TypedColumn}
use Rattle.icescan_audit_findings.specs.declared.finding.Flaw.{Flaw}

abbrev at : List ℤ → ℕ → ℤ
at ids k = get_or ids k (pos 0)

pub count_told : (column : ℤ) (said : Option ℤ) (pairs : List (ℤ × ℤ)) (counts : List ColumnCount)
    → counts_said pairs ≡ counts → said ≡ last_of column pairs → said ≡ count_of column counts
count_told column said pairs counts is told = told ∙ last_count column pairs ∙ ap (count_of column) is

pub bound_told : (column : ℤ) (said : Option (Bor (List ℕ))) (pairs : List (ℤ × Bor (List ℕ)))
    (bounds : List ColumnBound) → bounds_said pairs ≡ bounds → said ≡ last_of column pairs
    → option_copied said ≡ bound_of column bounds
bound_told column said pairs bounds is told =
    ap (λ (o : Option (Bor (List ℕ))). option_map (λ (b : Bor (List ℕ)). b.now) o) told
    ∙ last_bound column pairs ∙ ap (bound_of column) is

pub counts_at : (ids : List ℤ) (said : List (Option ℤ)) (pairs : List (ℤ × ℤ)) (counts : List ColumnCount)
    → counts_said pairs ≡ counts → ((k : ℕ) → k < length ids → get_or said k None ≡ last_of (at ids k) pairs)
    → (k : ℕ) → k < length ids → get_or said k None ≡ count_of (at ids k) counts
counts_at ids said pairs counts is told k low =
    count_told (at ids k) (get_or said k None) pairs counts is (told k low)

pub bounds_at : (ids : List ℤ) (said : List (Option (Bor (List ℕ)))) (pairs : List (ℤ × Bor (List ℕ)))
    (bounds : List ColumnBound)
    → bounds_said pairs ≡ bounds → ((k : ℕ) → k < length ids → get_or said k None ≡ last_of (at ids k) pairs)
    → (k : ℕ) → k < length ids → option_copied (get_or said k None) ≡ bound_of (at ids k) bounds
bounds_at ids said pairs bounds is told k low =
    bound_told (at ids k) (get_or said k None) pairs bounds is (told k low)

-- one more column
pub flaws_more : (file : FileBounds) (cs : List TypedColumn) (i : ℕ) (d : TypedColumn) (old mid new : List Flaw)
    → i < length cs → mid ≡ old ++ columns_flaws file (take i cs)
    → new ≡ mid ++ column_flaws file (get_or cs i d) → new ≡ old ++ columns_flaws file (take (i + 1) cs)
flaws_more file cs i d old mid new low kept put =
    let c = get_or cs i d in
    let more : columns_flaws file (take (i + 1) cs) ≡ columns_flaws file (take i cs) ++ column_flaws file c =
    ap (columns_flaws file) (take_more cs i d low)
    ∙ flat_map-append (column_flaws file) (take i cs) (c ∷ [])
    ∙ ap (λ ls. columns_flaws file (take i cs) ++ ls) (append-nil (column_flaws file c)) in
    put ∙ ap (λ ls. ls ++ column_flaws file c) kept
    ∙ append_assoc old (columns_flaws file (take i cs)) (column_flaws file c)
    ∙ ap (λ ls. old ++ ls) (sym more)
