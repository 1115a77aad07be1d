use Rattle.std.proofs.lemmas.Result.{err_from_is_err_and}
use Rattle.ice_manifest_values.proofs.ColumnsSaid.{columns_read, nulls_at_fault, lower_at_fault, upper_at_fault}
use Rattle.ice_manifest_values.proofs.maps.ReadMaps.columns.Goals as goal

pub returns-in_err-counts-2 : goal.returns-in_err-counts-2
returns-in_err-counts-2 c =
    let p = err_from_is_err_and c.from_residual-in_err-counts-2.result c.from_residual-in_err-counts-2.ensures.1 in
    rw (p.1, p.2) (λ met is other. nulls_at_fault met c.in_ok-counts.field-0 _
    (c.in_ok-counts.ensures met.values is.values) (c.in_err-counts-2.ensures met.nulls is.nulls other))

pub returns-in_err-bounds : goal.returns-in_err-bounds
returns-in_err-bounds c =
    let p = err_from_is_err_and c.from_residual-in_err-bounds.result c.from_residual-in_err-bounds.ensures.1 in
    rw (p.1, p.2) (λ met is other. lower_at_fault met c.in_ok-counts.field-0 c.in_ok-counts-2.field-0 _
    (c.in_ok-counts.ensures met.values is.values) (c.in_ok-counts-2.ensures met.nulls is.nulls)
    (c.in_err-bounds.ensures met.lower is.lower other))

pub returns-in_err-bounds-2 : goal.returns-in_err-bounds-2
returns-in_err-bounds-2 c =
    let p = err_from_is_err_and c.from_residual-in_err-bounds-2.result c.from_residual-in_err-bounds-2.ensures.1 in
    rw (p.1, p.2) (λ met is other. upper_at_fault met c.in_ok-counts.field-0 c.in_ok-counts-2.field-0
    c.in_ok-bounds.field-0 _ (c.in_ok-counts.ensures met.values is.values)
    (c.in_ok-counts-2.ensures met.nulls is.nulls) (c.in_ok-bounds.ensures met.lower is.lower)
    (c.in_err-bounds-2.ensures met.upper is.upper other))

pub returns : goal.returns
returns c = λ met is. columns_read met c.in_ok-counts.field-0 c.in_ok-counts-2.field-0 c.in_ok-bounds.field-0
    c.in_ok-bounds-2.field-0 (c.in_ok-counts.ensures met.values is.values)
    (c.in_ok-counts-2.ensures met.nulls is.nulls) (c.in_ok-bounds.ensures met.lower is.lower)
    (c.in_ok-bounds-2.ensures met.upper is.upper)
