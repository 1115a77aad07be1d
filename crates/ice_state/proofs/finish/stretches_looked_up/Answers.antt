use Rattle.std.proofs.Common.{◌∙◌, ◌++◌, ◌∷◌, [], List, ℕ, ap, arith, map}
use Rattle.std.proofs.lemmas.List.{take_all}
use Rattle.ice_value.specs.Applying.{DeleteKey}
use Rattle.ice_manifest_reading.specs.Lending.{lent}
use Rattle.ice_deletes.specs.Unions.{renumbered}
use Rattle.ice_state.specs.declared.kept.segments.FileNumber.{FileNumber}
use Rattle.ice_state.specs.Applying.{data_key_of}
use Rattle.ice_state.specs.Parts.{places_of}
use Rattle.ice_state.specs.Segments.{entries_at}
use Rattle.ice_state.proofs.NeighbourLines.{stretch, stretch_again}
use Rattle.ice_state.proofs.Stretches.{alike_beside, number_kept}
use Rattle.ice_state.proofs.finish.stretches_looked_up.Goals as goal

pub entry-entry-requires : goal.entry-entry-requires
entry-entry-requires c =
    number_kept c.args.entries.now c.args.files.now c.stretches.first _ c.requires.files c.stretches-test.true

pub stretches-preserved-in_ok-push_again : goal.stretches-preserved-in_ok-push_again
stretches-preserved-in_ok-push_again c =
    let at = c.end_of_stretch-end.ensures in
    let files = c.args.files.now in
    let first = c.stretches.first in
    let end = c.end_of_stretch-end.result in
    let like = c.in-Some.ensures in
    record {
      within = at.within;
      same = c.stretches.invariant.same;
      all = c.in_ok-push_again.ensures.ok ∙ stretch_again c.args.ranks.now c.args.index.now c.args.entries.now files first
          c.stretches.places c.stretches.invariant.all c.in-Some.place end like.0
          (record { spec = like.1.spec; tuple = like.1.tuple; number = like.1.number }) c.requires.unnamed at.after
          at.within (alike_beside (entries_at c.args.entries.now files) first end at.alike);
    }

pub stretches-preserved : goal.stretches-preserved
stretches-preserved c =
    let kept = c.args.entries.now in
    let files = c.args.files.now in
    let ranks = c.args.ranks.now in
    let index = c.args.index.now in
    let first = c.stretches.first in
    let old = c.stretches.places in
    let at = c.end_of_stretch-end.ensures in
    let end = c.end_of_stretch-end.result in
    let pushed = c.in_ok-push_places.ensures.ok ∙ ap (λ (es : List (ℕ × DeleteKey)). old
    ++ places_of (renumbered ranks es) (data_key_of (lent c.entry-entry.result)) ∷ []) c.stretches.invariant.same in
    record {
      within = at.within;
      same = c.push_places.ensures.same ∙ c.stretches.invariant.same;
      all = c.in_ok-push_again-2.ensures.ok ∙ stretch ranks index kept files first c.stretches-test.true old
          c.push_places.new.places c.stretches.invariant.all _ (lent c.entry-entry.result) c.entry-entry.ensures pushed
          c.requires.unnamed end at.after at.within (alike_beside (entries_at kept files) first end at.alike);
    }

pub returns : goal.returns
returns c =
    let files = c.args.files.now in
    c.stretches.invariant.all
    ∙ ap (λ (ns : List FileNumber). map (λ x. places_of (renumbered c.args.ranks.now c.args.index.now) (data_key_of x))
    (entries_at c.args.entries.now ns)) (take_all c.stretches.first files (omega (arith, c.stretches-test.false)))
