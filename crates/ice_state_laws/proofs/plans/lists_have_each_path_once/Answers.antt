use Rattle.std.proofs.Common.{subst, List}
use Rattle.std.specs.List.{Contains}
use Rattle.ice_manifest_reading.specs.declared.row.Row.{Row}
use Rattle.ice_manifest_reading.proofs.Sets.{from_order}
use Rattle.ice_state_laws.proofs.plans.lists_have_each_path_once.Goals as goal

pub returns : goal.returns
returns c = λ bytes rows h.
    let e = (c.rows_are_a_set.ensures.exactly bytes rows).0 h in
    let of : (r : Row) → Contains rows r → Contains e.0 r = λ r m. from_order e.0 r
    (subst (λ (rs : List Row). Contains rs r) e.4 m) in
    λ r s m k same. e.2 r s (of r m) (of s k) same
