use Rattle.std.proofs.Common.{◌≡◌, [], None, sym, subst}
use Rattle.ice_manifest_reading.specs.declared.entry.Entry.{Entry}
use Rattle.icescan_changes.specs.Changes.{line_changes}
use Rattle.icescan_changes.specs.Meanings.{changes_of, line_of}
use Rattle.icescan_answer_laws.proofs.changes.what_changes_leave_out_has_no_match.Goals as goal

pub returns : goal.returns
returns c =
    let law = c.what_an_answer_lacks_has_no_match.ensures.wanted in
    let told = c.what_one_plan_has_is_told.ensures in
    let rising = c.answers_are_by_path.ensures in
    record {
      added = λ world metadata before after earlier later was is selection rows row l file asked d e content honest
          covers lacks none.
          law world metadata after selection rows later row l file asked is d e content honest covers
          (λ has. told.added earlier later has.0 (rising world metadata before earlier was)
          (rising world metadata after later is) has.1
          (subst (λ (x : Entry). line_of earlier x.file.path ≡ None) (sym has.2) lacks)
          (subst (λ (x : Entry). changes_of (line_changes earlier later) x.file.path ≡ []) (sym has.2) none));
      removed = λ world metadata before after earlier later was is selection rows row l file asked d e content honest
          covers lacks none.
          law world metadata before selection rows earlier row l file asked was d e content honest covers
          (λ has. told.removed earlier later has.0 (rising world metadata before earlier was)
          (rising world metadata after later is) has.1
          (subst (λ (x : Entry). line_of later x.file.path ≡ None) (sym has.2) lacks)
          (subst (λ (x : Entry). changes_of (line_changes earlier later) x.file.path ≡ []) (sym has.2) none));
    }
