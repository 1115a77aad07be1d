use Rattle.std.proofs.Common.{ap, ◌∙◌, subst}
use Rattle.std.specs.Prelude.{OnOk}
use Rattle.ice_meta.specs.Targets.{Described, described}
use Rattle.ice_meta.specs.declared.table.Table.{Table}
use Rattle.ice_manifest.specs.Adding.{lent}
use Rattle.ice_catalog_versions.specs.Adding.{NewManifest, manifest_path}
use Rattle.ice_catalog_versions.specs.Live.{IsReadBack}
use Rattle.ice_catalog_versions.specs.Seen.{seen}
use Rattle.ice_catalog_versions.proofs.Manifests.{same_manifest}
use Rattle.ice_catalog_versions.proofs.adding.add_group.Goals as goal

pub returns-clause-read : goal.returns-clause-read
returns-clause-read c =
    let m : Described = described c.args.common.now.metadata.now.json c.args.common.now.metadata.now.table in
    let path = c.in_ok-path.ensures ∙ ap (λ (t : Table). manifest_path t c.args.common.now.ids.now c.args.number)
    c.table.ensures in
    let is = same_manifest m c.args.common.now.ids.now c.args.number (seen c.args.group.now) _ _ _
    c.in_ok-heading.ensures path (ap lent c.deref.ensures.value) in
    subst (λ (x : NewManifest). OnOk c.add_manifest.result (IsReadBack x)) is c.add_manifest.ensures.read
