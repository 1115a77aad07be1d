-- Guides of the items of lists.
use Rattle.std.proofs.Common.{◌≡◌, ℤ, List, [], ◌∷◌, IfOk, IfSome, Option, Some, None, Result, Ok, Err, refl, sym, ap}
use Rattle.std.proofs.Common.{subst, ◌∙◌}
use denote.Ref.{Bor}
use Rattle.avro_schema.specs.Tree.{Tree}
use Rattle.avro_schema.specs.View.{tree}
use Rattle.avro_file.specs.Value.{Value}
use Rattle.avro_file.specs.Files.{Shows}
use Rattle.avro_file.specs.Picking.{Typed, Picked, absent, null_met, present, pick}
use Rattle.avro_file_picked.specs.declared.guide.Guide.{Guide}
use Rattle.avro_file_picked.specs.declared.guide.GuidedObject.{GuidedObject}
use Rattle.avro_file_picked.specs.Finding.{layout_tree, field_paths_of, items_type}
use Rattle.avro_file_picked.specs.Guides.{AreAsked, IsGuideOf, IsGuideFor, IsGuided, GuidesItems, MayGuide}
use Rattle.ice_manifest_fields.specs.Fields.{there, at}
use Rattle.ice_manifest_values.specs.InPlace.{type_listed}

pub guide_for : {E : Type 0} (field_paths : List (List ℤ)) (ids : List ℤ) (t : Tree) (r : Result Guide E)
    → IfOk r (IsGuideOf field_paths t) → AreAsked field_paths ids → IfOk r (IsGuideFor ids t)
guide_for field_paths ids t (Ok g) is asked = (field_paths, is, asked)
guide_for field_paths ids t (Err e) is asked = tt

-- a guide of the items that were met finds what its field paths ask for
pub items_guide_for : (field_paths : List (List ℤ)) (ids : List ℤ) (r : Option (Bor Guide)) (met : Picked)
    → GuidesItems field_paths r met → AreAsked field_paths ids → MayGuide ids r met
items_guide_for field_paths ids (Some g) met is asked = (is.0, is.1, (field_paths, is.2, asked))
items_guide_for field_paths ids None met is asked = tt

type_there : (met : Picked) → items_type met ≡ type_listed (there met)
type_there absent = refl
type_there null_met = refl
type_there (present x) = refl

-- it is of the type of the items ahead
pub guide_fits : (ids : List ℤ) (r : Option (Bor Guide)) (met : Picked) (t : Tree) → MayGuide ids r met
    → type_listed (there met) ≡ Some t → IfSome r (λ g. IsGuideFor ids t g.now)
guide_fits ids (Some g) met t may is =
    let same : Some may.0 ≡ Some t = sym may.1 ∙ type_there met ∙ is in
    let here : may.0 ≡ t = cc in
    subst (λ (s : Tree). IsGuideFor ids s g.now) here may.2
guide_fits ids None met t may is = tt
