use Rattle.std.proofs.Common.{◌∙◌, ◌++◌, ◌∷◌, [], List, ℕ, add-one, ap, map, take, sym}
use Rattle.ice_value.specs.Applying.{DeleteKey}
use Rattle.ice_manifest_reading.specs.Lending.{lent}
use Rattle.ice_deletes.specs.Unions.{renumbered}
use Rattle.ice_state.specs.Applying.{data_key_of}
use Rattle.ice_state.specs.Parts.{places_of}
use Rattle.ice_state.specs.Segments.{entries_at}
use Rattle.ice_state.proofs.NeighbourLines.{looked_up_more}
use Rattle.ice_state.proofs.finish.each_looked_up.Goals as goal

pub files-preserved : goal.files-preserved
files-preserved c =
    let kept = c.args.entries.now in
    let files = c.args.files.now in
    let ranks = c.args.ranks.now in
    let index = c.args.index.now in
    let i = c.files.file-index in
    let old = c.files.places in
    let pushed = c.in_ok-push_places.ensures.ok ∙ ap (λ (es : List (ℕ × DeleteKey)). old
    ++ places_of (renumbered ranks es) (data_key_of (lent c.entry.result)) ∷ []) c.files.invariant.same in
    record {
      same = c.push_places.ensures.same ∙ c.files.invariant.same;
      all =
          looked_up_more ranks index kept files i c.files-test.true old c.push_places.new.places c.files.invariant.all _
          (lent c.entry.result) c.entry.ensures pushed
          ∙ ap (λ (n : ℕ). map (λ x. places_of (renumbered ranks index) (data_key_of x))
          (entries_at kept (take n files)))
          (sym (add-one i));
    }
