use Rattle.std.proofs.Common.{◌≡◌, ◌≤◌, ◌<◌, ◌+◌, ◌-◌, Ok, sym, ap, subst, refl, ◌∙◌, arith}
use Rattle.avro_schema.specs.View.{tree}
use Rattle.avro_schema.specs.declared.schema.Schema.{Schema}
use Rattle.avro_file_parts.specs.Parts.{Position}
use Rattle.avro_file_parts.specs.Place.{position_of}
use Rattle.avro_file.specs.Alike.{EndAlike}
use Rattle.avro_file.specs.Blocks.{StandsAt}
use Rattle.avro_file.proofs.Behind.{behind_ok, behind_err}
use Rattle.avro_file_picked.proofs.Values.{fewer_left, stands}
use Rattle.avro_file_picked.proofs.FieldPaths.{not_both, one_end}
use Rattle.ice_manifest_values.specs.InPlace.{rest_at}
use Rattle.ice_manifest_values.proofs.Coming.{first_item}
use Rattle.ice_manifest_values.proofs.items.ItemsAhead.next_passed.Goals as goal

pub returns-in_err-here-clause-items : goal.returns-in_err-here-clause-items
returns-in_err-here-clause-items c = rw c.from_residual.ensures (λ ends vs ahead. c.in_err-here.ensures.items vs ahead)

pub returns-in_default-clause-items : goal.returns-in_default-clause-items
returns-in_default-clause-items c = λ ends vs ahead.
    let at = c.in_ok-here.ensures.items vs ahead in
    let first = first_item (tree c.in_ok-here.here.schema.now) c.in_ok-here.here.in_block at.1.1
    (position_of c.in_ok-here.here.place) vs at.1.2 at.0 at.1.3 in
    let alike : EndAlike (tree c.args.passing.now) (tree c.in_ok-here.here.schema.now) =
    subst (λ (s : Schema). EndAlike (tree c.args.passing.now) (tree s)) (sym at.2) ends in
    absurd (not_both _ _ _ first.read (behind_err _ _ (sym (alike (position_of c.in_ok-here.here.place))
    ∙ c.in_default.ensures)))

pub returns-clause-fewer : goal.returns-clause-fewer
returns-clause-fewer c =
    let read = behind_ok _ _ c.in-Ok.ensures in
    let fewer = fewer_left (tree c.args.passing.now) (position_of c.in_ok-here.here.place) read.0
    (position_of c.in-Ok.after) read.1 in
    let more : c.in_ok-here.here.in_block + c.in_ok-here.here.place.left
    ≤ c.args.self.now.in_block + c.args.self.now.place.left = c.in_ok-here.ensures.no_more in
    let some : 0 < c.in_ok-here.here.in_block = c.in_ok-here.ensures.block in
    let less : (c.in_ok-here.here.in_block - 1) + c.in-Ok.after.left
    < c.args.self.now.in_block + c.args.self.now.place.left = omega (arith, fewer, more, some) in
    less

pub returns-clause-items : goal.returns-clause-items
returns-clause-items c = λ ends vs ahead.
    let at = c.in_ok-here.ensures.items vs ahead in
    let t = tree c.in_ok-here.here.schema.now in
    let alike : EndAlike (tree c.args.passing.now) t =
    subst (λ (s : Schema). EndAlike (tree c.args.passing.now) (tree s)) (sym at.2) ends in
    let first = first_item t c.in_ok-here.here.in_block at.1.1 (position_of c.in_ok-here.here.place) vs at.1.2 at.0
    at.1.3 in
    let read = behind_ok _ _ (sym (alike (position_of c.in_ok-here.here.place)) ∙ c.in-Ok.ensures) in
    let there : first.behind ≡ position_of c.in-Ok.after = one_end _ _ _ _ _ first.read read.1 in
    let fewer = fewer_left t (position_of c.in_ok-here.here.place) read.0 (position_of c.in-Ok.after) read.1 in
    let more : rest_at t (c.in_ok-here.here.in_block - 1) at.1.1 (position_of c.in-Ok.after) ≡ Ok (first.others, at.1.2)
    = ap (λ (q : Position). rest_at t (c.in_ok-here.here.in_block - 1) at.1.1 q) (sym there) ∙ first.more in (
      first.first,
      first.others,
      first.is,
      subst (λ (s : Schema). StandsAt (tree s) c.in_ok-here.here.place.bytes.now first.first) at.2
          (stands t (position_of c.in_ok-here.here.place) first.first first.behind at.1.0 first.read),
      (
        omega (arith, fewer, at.1.0),
        at.1.1,
        at.1.2,
        subst (λ (s : Schema). rest_at (tree s) (c.in_ok-here.here.in_block - 1) at.1.1 (position_of c.in-Ok.after)
            ≡ Ok (first.others, at.1.2)) at.2 more,
      ),
      refl,
      refl,
    )
