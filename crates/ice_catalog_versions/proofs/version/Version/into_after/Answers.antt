use Rattle.std.proofs.Common.{◌≡◌, ◌++◌, [], ◌∷◌, Some, ap, ◌∙◌, sym, subst, map}
use Rattle.std.specs.Arc.{arc_value}
use Rattle.ice_meta.specs.Committing.{CanFollow, next_metadata}
use Rattle.ice_meta.specs.Targets.{Described, described}
use Rattle.ice_catalog_changes.specs.declared.change.Commit.{Commit}
use Rattle.ice_catalog_changes.specs.NewFiles.{Added}
use Rattle.ice_catalog_versions.specs.Adding.{added, next, snapshot_of}
use Rattle.ice_catalog_versions.specs.Histories.{History, after, state_of}
use Rattle.ice_catalog_versions.specs.Live.{IsGrown}
use Rattle.ice_catalog_versions.specs.States.{State, with_files}
use Rattle.ice_catalog_versions.proofs.Accepting.{can_follow}
use Rattle.ice_catalog_versions.proofs.Grown.{grown_after}
use Rattle.ice_catalog_versions.proofs.Replays.{accepted, added_done, state_after, step_done}
use Rattle.ice_catalog_versions.proofs.version.Version.into_after.Goals as goal

pub into_next_metadata-requires : goal.into_next_metadata-requires
into_next_metadata-requires c =
    let k = arc_value c.args.commit.now in
    let m : Described = described c.self.inside.metadata.json c.self.inside.metadata.table in
    let s : State = record { metadata = m; world = c.self.inside.world } in
    let is : state_of c.args.self ≡ Some s = ap state_of (sym c.self.view_is) ∙ c.self.invariant.0 in
    let none = accepted c.args.self s is k _ c.requires.prepared in
    let seen : k ≡ record { change = c.deref.result.now.change; ids = c.deref-2.result.now.ids } = λ i. record {
      change = (sym c.deref.ensures i).change;
      ids = (sym c.deref-2.ensures i).ids;
    } in
    subst (λ (k : Commit). CanFollow m.table (snapshot_of m.table k)) seen (can_follow s k none)

pub invariant_of-result : goal.invariant_of-result
unfolding next
invariant_of-result c =
    let h = c.args.self in
    let k = arc_value c.args.commit.now in
    let m : Described = described c.self.inside.metadata.json c.self.inside.metadata.table in
    let s : State = record { metadata = m; world = c.self.inside.world } in
    let is : state_of h ≡ Some s = ap state_of (sym c.self.view_is) ∙ c.self.invariant.0 in
    let none = accepted h s is k _ c.requires.prepared in
    let seen : k ≡ record { change = c.deref.result.now.change; ids = c.deref-2.result.now.ids } = λ i. record {
      change = (sym c.deref.ensures i).change;
      ids = (sym c.deref-2.ensures i).ids;
    } in
    let both : Some c.args.files.now ≡ Some (added s k) = sym c.requires.files ∙ added_done h s is k in
    let files : c.args.files.now ≡ added s k = cc in
    let metadata = c.in_ok-next.ensures ∙ ap (λ (k : Commit). next_metadata m (snapshot_of m.table k)) (sym seen) in
    let world = c.in_ok-put_files.ensures ∙ ap (with_files s.world) files in
    let new : History = record {
      opening = arc_value c.self.inside.opening;
      journal = map (λ e. arc_value e) c.push_commit.new.to.items;
    } in
    let same : new ≡ after h k = λ i. record {
      opening = (ap (λ (h : History). h.opening) c.self.view_is) i;
      journal = (c.in_ok-push_commit.ensures ∙ ap (λ (h : History). h.journal ++ k ∷ []) c.self.view_is) i;
    } in (
      ap state_of same ∙ (state_after h k ∙ (step_done h s is k none ∙ λ i. Some (record {
        metadata = sym metadata i;
        world = sym world i;
      }))),
      subst IsGrown (sym same) (grown_after h k (subst IsGrown c.self.view_is c.self.invariant.1) c.requires.adds),
    )
