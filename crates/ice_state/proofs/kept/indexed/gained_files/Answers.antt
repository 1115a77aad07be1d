use Rattle.std.proofs.Common.{◌∙◌, ◌<◌, ◌≡◌, ◌++◌, suc, List, ap, sym, arith, add-one, append_assoc, drop, filter}
use Rattle.std.proofs.Common.{length, option_map}
use Rattle.std.proofs.lemmas.List.{append-nil}
use Rattle.std.proofs.lemmas.List.Elements.{filter-append}
use Rattle.ice_manifest_reading.specs.declared.entry.Entry.{Entry}
use Rattle.ice_state.specs.Contents.{Content}
use Rattle.ice_state.specs.Outcomes.{entries_in, kept_in}
use Rattle.ice_state.specs.Parts.{gain_of, gains, holds_deletes}
use Rattle.ice_state.specs.Segments.{entries_at}
use Rattle.ice_state.specs.Slots.{contents, given}
use Rattle.ice_state.proofs.Gains.{gains-step, gains-end}
use Rattle.ice_state.proofs.SlotContents.{at-contents, length-contents}
use Rattle.ice_state.proofs.kept.indexed.gained_files.Goals as goal

abbrev deletes_in : Content → List Entry
deletes_in c = filter holds_deletes (kept_in c)

pub loop-i-preserved : goal.loop-i-preserved
loop-i-preserved c =
    let entries = c.args.entries.now in
    let slots = c.args.slots.now in
    let other = c.args.other.now in
    let i = c.loop-i.i in
    let slot = c.index-slots-i.result in
    let its = c.index-other-i.result in
    let before = entries_at entries c.loop-i.found.items in
    record {
      kept = c.push_gain.ensures.kept c.loop-i.invariant.kept;
      all = λ kept.
          let cs = contents kept slots in
          let ds = contents entries other in
          let m : i < length cs = omega (arith, c.loop-i-test.true, length-contents kept slots) in
          let n : i < length ds = omega (arith, c.loop-i-test.true, c.requires.same, length-contents entries other) in
          let gain = gain_of (option_map (given kept) slot) (option_map (given entries) its) in
          let rest = gains (drop (suc i) cs) (drop (suc i) ds) in
          let pushed : entries_at entries c.push_gain.new.found.items ≡ before ++ filter holds_deletes
          (entries_in gain) =
          c.in_ok-push_gain.ensures.pushed kept in
          let step : deletes_in (gains (drop i cs) (drop i ds)) ≡ filter holds_deletes
          (entries_in gain) ++ deletes_in rest =
          ap deletes_in (gains-step cs ds i (option_map (given kept) slot) (option_map (given entries) its) m n
          (at-contents kept slots i slot c.index-slots-i.is) (at-contents entries other i its c.index-other-i.is))
          ∙ filter-append holds_deletes (entries_in gain) (kept_in rest) in
          rw add-one (ap (λ (xs : List Entry). xs ++ deletes_in rest) pushed
          ∙ append_assoc before (filter holds_deletes (entries_in gain)) (deletes_in rest)
          ∙ ap (λ (xs : List Entry). before ++ xs) (sym step) ∙ c.loop-i.invariant.all kept);
    }

pub returns-clause-all : goal.returns-clause-all
returns-clause-all c = λ kept.
    let entries = c.args.entries.now in
    let found = entries_at entries c.loop-i.found.items in
    let slots = c.args.slots.now in
    let rest = drop c.loop-i.i (contents entries c.args.other.now) in
    let none = gains-end (contents kept slots) rest c.loop-i.i (omega (arith, length-contents kept slots)) in
    sym (append-nil found) ∙ ap (λ (c : Content). found ++ deletes_in c) (sym none) ∙ c.loop-i.invariant.all kept
