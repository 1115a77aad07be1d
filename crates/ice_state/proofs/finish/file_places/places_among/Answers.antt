use Rattle.std.proofs.Common.{◌≡◌, ◌∙◌, ◌++◌, [], ◌∷◌, ℕ, ap, arith, length}
use Rattle.std.proofs.lemmas.Grind.{common_steps}
use Rattle.std.proofs.lemmas.List.{take_all}
use Rattle.ice_state_entries.specs.declared.entries.EntryNumber.TheVariants.{Record}
use Rattle.ice_state.specs.declared.kept.segments.FileNumber.{FileNumber}
use Rattle.ice_state.specs.Lines.{entries_at as entries_at_places}
use Rattle.ice_state.specs.Segments.{entries_at}
use Rattle.ice_state.proofs.FoundPlaces.{found_more, within_more}
use Rattle.ice_state.proofs.finish.file_places.places_among.Goals as goal

pub some-preserved : goal.some-preserved
some-preserved c =
    let files = c.args.files.now in
    let some = c.args.some.now in
    let old = c.some.places.items in
    let place = c.in-Some.place in
    let d : FileNumber = record { segment = 0; number = Record 0 } in
    let at : c.in-Ok.number ≡ place = grind (arith, common_steps) in
    let pushed : c.push.new.self.items ≡ old ++ place ∷ [] =
    c.in_ok-push.ensures.items ∙ ap (λ (n : ℕ). old ++ n ∷ []) at in
    record {
      within = within_more (length files) old c.push.new.self.items place pushed c.in-Some.ensures.within
          c.some.invariant.within;
      same = λ kept. found_more kept files old c.push.new.self.items some c.some.file-index place d c.some-test.true
          c.in-Some.ensures.within (c.in-Some.ensures.there d) pushed (c.some.invariant.same kept);
    }

pub returns-clause-same : goal.returns-clause-same
returns-clause-same c = λ kept.
    let some = c.args.some.now in
    ap (entries_at_places (entries_at kept c.args.files.now)) c.from_vec.ensures ∙ c.some.invariant.same kept
    ∙ ap (entries_at kept) (take_all c.some.file-index some (omega (arith, c.some-test.false)))
