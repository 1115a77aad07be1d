use Rattle.std.proofs.Common.{◌≡◌, ◌+◌, ℕ, true, false, cond, List, drop, Some, sym, ap, ◌∙◌, refl}
use Rattle.std.specs.Str.{bytes_eq}
use Rattle.ice_manifest_reading.specs.Lists.{twice_after}
use Rattle.ice_manifest_reading.proofs.Neighbours.{twice_here, twice_end}
use Rattle.ice_manifest_reading.proofs.list.path_twice.Goals as goal

pub returns-then-eq : goal.returns-then-eq
returns-then-eq c =
    let row = c.row-item.result in
    let last = c.rows.last.now in
    let step = twice_here last c.in_ok-first.others.now c.rows.row-index row c.rows-test.true c.row-item.is in
    let same : bytes_eq row.path last.path ≡ true =
    ap (λ (p : List ℕ). bytes_eq p last.path) (sym c.path.ensures)
    ∙ ap (λ (p : List ℕ). bytes_eq c.path.result.now p) (sym c.path-in-rows.ensures) ∙ sym c.eq.ensures
    ∙ c.if-eq.true in
    let twice : cond (bytes_eq row.path last.path) (Some row.path)
    (twice_after row (drop (c.rows.row-index + 1) c.in_ok-first.others.now)) ≡ Some row.path = rw same refl in
    ap Some c.path-then-eq.ensures ∙ sym (sym c.rows.invariant ∙ step ∙ twice)

pub rows-preserved : goal.rows-preserved
rows-preserved c =
    let row = c.row-item.result in
    let last = c.rows.last.now in
    let step = twice_here last c.in_ok-first.others.now c.rows.row-index row c.rows-test.true c.row-item.is in
    let other : bytes_eq row.path last.path ≡ false =
    ap (λ (p : List ℕ). bytes_eq p last.path) (sym c.path.ensures)
    ∙ ap (λ (p : List ℕ). bytes_eq c.path.result.now p) (sym c.path-in-rows.ensures) ∙ sym c.eq.ensures
    ∙ c.if-eq.false in
    let rest : cond (bytes_eq row.path last.path) (Some row.path)
    (twice_after row (drop (c.rows.row-index + 1) c.in_ok-first.others.now))
    ≡ twice_after row (drop (c.rows.row-index + 1) c.in_ok-first.others.now) = rw other refl in
    sym (sym c.rows.invariant ∙ step ∙ rest)

pub returns : goal.returns
returns c = sym (twice_end c.rows.last.now c.in_ok-first.others.now c.rows.row-index c.rows-test.false) ∙
    c.rows.invariant
