use Rattle.std.proofs.Common.{Ok, ap, sym, subst, ◌∙◌}
use Rattle.std.proofs.lemmas.Result.{err_from_is_err_and}
use Rattle.ice_value.specs.Pairs.{bounds_said}
use Rattle.ice_manifest_fields.specs.Naming.{in_manifest, told}
use Rattle.ice_manifest_values.specs.declared.maps.ReadMap.{ReadMap}
use Rattle.ice_manifest_values.specs.declared.maps.ReadMap.TheVariants.{Pairs}
use Rattle.ice_manifest_values.specs.MapsRead.{AreBounds}
use Rattle.ice_manifest_values.proofs.maps.bounds.Goals as goal

pub returns-in-Pairs : goal.returns-in-Pairs
returns-in-Pairs c = λ met is.
    let here : AreBounds c.args.map (Pairs c.in-Pairs.pairs) met =
    subst (λ (r : ReadMap _). AreBounds c.args.map r met) c.in-Pairs.is is in
    ap (told in_manifest) here ∙ ap Ok (sym (c.lent.ensures ∙ ap bounds_said c.as_slice.ensures.value))

pub returns-in_err-bounds-in-InPlace : goal.returns-in_err-bounds-in-InPlace
returns-in_err-bounds-in-InPlace c =
    let p = err_from_is_err_and c.from_residual.result c.from_residual.ensures.1 in
    rw (p.1, p.2) (λ met is. let here = subst (λ (r : ReadMap _). AreBounds c.args.map r met) c.in-InPlace.is is in
    c.in_err-bounds-in-InPlace.ensures met here.0 here.1)

pub returns-in_ok-bounds-in-InPlace : goal.returns-in_ok-bounds-in-InPlace
returns-in_ok-bounds-in-InPlace c = λ met is.
    let here = subst (λ (r : ReadMap _). AreBounds c.args.map r met) c.in-InPlace.is is in
    c.in_ok-bounds-in-InPlace.ensures met here.0 here.1
    ∙ ap Ok (sym c.made.ensures)
