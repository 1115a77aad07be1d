use Rattle.std.proofs.Common.{◌≡◌, ap, ◌∙◌, rules, to_z, of_z, w32}
use Rattle.std.proofs.lemmas.Result.{IfOk-weaker}
use Rattle.ice_meta.specs.Targets.{Described, described}
use Rattle.ice_catalog_versions.specs.Bases.{spec_in}
use Rattle.ice_catalog_versions.specs.Seen.{seen}
use Rattle.ice_catalog_versions.proofs.Headings.{heading_is}
use Rattle.ice_catalog_versions.proofs.adding.heading_of.Goals as goal

pub returns : goal.returns
returns c =
    let m : Described = described c.args.common.now.metadata.now.json c.args.common.now.metadata.now.table in
    let spec = c.in_ok-spec.spec in
    let id : to_z w32 (of_z w32 c.args.group.now.spec_id) ≡ c.args.group.now.spec_id = search rules in
    let there = rw id at c.in_ok-spec.ensures in
    let types = rw id at c.in_ok-types.ensures spec (ap (λ (specs : _). spec_in specs c.args.group.now.spec_id)
    c.requires.specs ∙ there) in
    IfOk-weaker c.heading_with.result _ _ (λ h e. rw c.requires.schema at e ∙ heading_is m c.args.common.now.ids.now
    (seen c.args.group.now) spec c.in_ok-types.types there types) c.heading_with.ensures
