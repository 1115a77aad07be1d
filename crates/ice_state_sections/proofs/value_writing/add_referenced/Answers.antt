use Rattle.ice_state_sections.specs.Values.{path}
use Rattle.ice_state_sections.proofs.Added.{none_added, some_added}
use Rattle.ice_state_sections.proofs.value_writing.add_referenced.Goals as goal

pub returns-in_ok-add_truth-in-None : goal.returns-in_ok-add_truth-in-None
returns-in_ok-add_truth-in-None c = rw c.in-None.is (none_added
    (path c.args.own.now) _ _ c.in_ok-add_truth-in-None.ensures)

pub returns-in_ok-add_path-in-Some : goal.returns-in_ok-add_path-in-Some
returns-in_ok-add_path-in-Some c = rw c.in-Some.is (some_added (path c.args.own.now) c.in-Some.path.now _ _ _
    c.in_ok-bytes-in-Some.ensures c.in_ok-add_path-in-Some.ensures)
