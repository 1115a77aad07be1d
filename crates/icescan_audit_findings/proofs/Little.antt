-- Where a file is said no bounds of one kind and no counts, nothing that is said of its columns can be wrong.
use Rattle.std.proofs.Common.{◌≡◌, ◌++◌, ◌⊎◌, ◌∙◌, ℕ, ℤ, Bool, true, false, cond, ◌&&◌, ◌||◌, List, [], ◌∷◌, inl}
use Rattle.std.proofs.Common.{inr, refl, ap, Option, Some, None}
use Rattle.ice_project.specs.Files.{same_count}
use Rattle.ice_project.specs.Limits.{is_uuid, limit}
use Rattle.ice_value.specs.Columns.{ColumnBound, ColumnCount, bound_of, count_of}
use Rattle.ice_value.specs.declared.cell.Cell.{Cell}
use Rattle.ice_value.specs.declared.column_type.ColumnType.{ColumnType}
use Rattle.ice_value.specs.declared.file_bounds.FileBounds.{FileBounds}
use Rattle.icescan_audit_findings.specs.ColumnFlaws.{column_flaws, columns_flaws, cross, has_excess_nulls}
use Rattle.icescan_audit_findings.specs.ColumnFlaws.{has_bound, has_bounds_of_nulls, has_negative_counts}
use Rattle.icescan_audit_findings.specs.ColumnFlaws.{is_less_than_none, is_more, is_past}
use Rattle.icescan_audit_findings.specs.ColumnsSaid.{SaysLittle}
use Rattle.icescan_audit_findings.specs.Flaws.{flaw_where}
use Rattle.icescan_audit_findings.specs.declared.basis.TypedColumn.{TypedColumn}
use Rattle.icescan_audit_findings.specs.declared.finding.ColumnFlaw.TheVariants.{BoundsOfNulls, NegativeCounts}
use Rattle.icescan_audit_findings.specs.declared.finding.Flaw.{Flaw}
use Rattle.icescan_audit_findings.specs.declared.finding.Flaw.TheVariants.{BoundsCross, ExcessNulls, OfColumn}

no_limit : (t : ColumnType) → limit t None ≡ None
no_limit t = elim (is_uuid t) as (λ b. cond {A = Option Cell} b None None ≡ None) [ true ↦ refl | false ↦ refl ]

past_none : (low : Option Cell) → is_past low None ≡ false
past_none None = refl
past_none (Some low) = refl

pub no_low : (t : Option ColumnType) (high : Option (List ℕ)) → cross t None high ≡ false
no_low None high = refl
no_low (Some t) high = ap (λ low. is_past low (limit t high)) (no_limit t)

no_high : (t : Option ColumnType) (low : Option (List ℕ)) → cross t low None ≡ false
no_high None low = refl
no_high (Some t) low = ap (λ high. is_past (limit t low) high) (no_limit t) ∙ past_none (limit t low)

none_cross : (c : TypedColumn) (lows highs : List ColumnBound) → (lows ≡ []) ⊎ (highs ≡ [])
    → cross c.column_type (bound_of c.id lows) (bound_of c.id highs) ≡ false
none_cross c lows highs (inl h) = ap (λ ls. cross c.column_type (bound_of c.id ls) (bound_of c.id highs)) h
    ∙ no_low c.column_type (bound_of c.id highs)
none_cross c lows highs (inr h) = ap (λ hs. cross c.column_type (bound_of c.id lows) (bound_of c.id hs)) h
    ∙ no_high c.column_type (bound_of c.id lows)

none_counted : (id : ℤ) (values nulls : List ColumnCount) (bound : Bool) → values ≡ [] → nulls ≡ []
    → flaw_where (is_more (count_of id nulls) (count_of id values)) (ExcessNulls id)
    ++ (flaw_where (is_less_than_none (count_of id values) || is_less_than_none (count_of id nulls))
    (OfColumn NegativeCounts id)
    ++ flaw_where (same_count (count_of id values) (count_of id nulls) && bound) (OfColumn BoundsOfNulls id)) ≡ []
none_counted id values nulls bound e f = rw (e, f) refl

-- of a column
of_column : (file : FileBounds) (c : TypedColumn) → SaysLittle file → column_flaws file c ≡ []
of_column file c little =
    ap (λ b. flaw_where b (BoundsCross c.id) ++ (flaw_where (has_excess_nulls file c.id) (ExcessNulls c.id)
    ++ (flaw_where (has_negative_counts file c.id) (OfColumn NegativeCounts c.id)
    ++ flaw_where (has_bounds_of_nulls file c.id) (OfColumn BoundsOfNulls c.id))))
    (none_cross c file.lower_bounds file.upper_bounds little.bounds)
    ∙ none_counted c.id file.value_counts file.null_counts (has_bound file c.id) little.values little.nulls

-- of all columns
pub none_wrong : (file : FileBounds) (columns : List TypedColumn) → SaysLittle file → columns_flaws file columns ≡ []
none_wrong file [] little = refl
none_wrong file (c ∷ cs) little = ap (λ (fs : List Flaw). fs ++ columns_flaws file cs) (of_column file c little)
    ∙ none_wrong file cs little
