use Rattle.std.proofs.Common.{Ok, ap, sym, subst, ◌∙◌}
use Rattle.std.proofs.lemmas.Result.{err_from_is_err_and}
use Rattle.ice_value.specs.Pairs.{counts_said}
use Rattle.ice_manifest_fields.specs.Naming.{in_manifest, told}
use Rattle.ice_manifest_values.specs.declared.maps.ReadMap.{ReadMap}
use Rattle.ice_manifest_values.specs.declared.maps.ReadMap.TheVariants.{Pairs}
use Rattle.ice_manifest_values.specs.MapsRead.{AreCounts}
use Rattle.ice_manifest_values.proofs.maps.counts.Goals as goal

pub returns-in-Pairs : goal.returns-in-Pairs
returns-in-Pairs c = λ met is.
    let here : AreCounts c.args.map (Pairs c.in-Pairs.pairs) met =
    subst (λ (r : ReadMap _). AreCounts c.args.map r met) c.in-Pairs.is is in
    ap (told in_manifest) here ∙ ap Ok (sym (c.lent.ensures ∙ ap counts_said c.as_slice.ensures.value))

pub returns-in_err-counts-in-InPlace : goal.returns-in_err-counts-in-InPlace
returns-in_err-counts-in-InPlace c =
    let p = err_from_is_err_and c.from_residual.result c.from_residual.ensures.1 in
    rw (p.1, p.2) (λ met is. let here = subst (λ (r : ReadMap _). AreCounts c.args.map r met) c.in-InPlace.is is in
    c.in_err-counts-in-InPlace.ensures met here.0 here.1)

pub returns-in_ok-counts-in-InPlace : goal.returns-in_ok-counts-in-InPlace
returns-in_ok-counts-in-InPlace c = λ met is.
    let here = subst (λ (r : ReadMap _). AreCounts c.args.map r met) c.in-InPlace.is is in
    c.in_ok-counts-in-InPlace.ensures met here.0 here.1
    ∙ ap Ok (sym c.made.ensures)
