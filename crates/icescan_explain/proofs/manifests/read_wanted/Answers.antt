use Rattle.std.proofs.Common.{◌++◌, ◌∙◌, List, ap, map, subst, sym}
use Rattle.std.specs.Prelude.{Ok}
use Rattle.std.proofs.lemmas.Result.{err_from_is_err_and}
use Rattle.ice_desk.specs.Given.{IsGiven}
use Rattle.icescan_explain.specs.Fates.{file_verdict}
use Rattle.ice_manifest_reading.specs.declared.entry.Live.{Live}
use Rattle.ice_state.proofs.Contents.{took-in_world}
use Rattle.icescan_explain.proofs.FilesRead.{has_bytes, lives_there}
use Rattle.icescan_explain.proofs.MoreGiven.{took_row}
use Rattle.icescan_explain.proofs.manifests.read_wanted.Goals as goal

pub returns-in_err-read_file_into-clause-refused : goal.returns-in_err-read_file_into-clause-refused
returns-in_err-read_file_into-clause-refused g c =
    let p = err_from_is_err_and c.from_residual.result c.from_residual.ensures.1 in
    λ world told. rw (p.1, p.2) (rw c.as_str.ensures at (c.in_err-read_file_into.ensures.refused world told))

pub returns-clause-told : goal.returns-clause-told
returns-clause-told g c = λ world told.
    let has = (rw c.as_str.ensures at (c.in_ok-read_file_into.ensures.found world told))
    ∙ ap Ok (sym c.as_slice.ensures.value) in
    c.in_ok-take_files.ensures.told
    ∙ ap (λ (ls : List Live). c.args.verdicts.now.items ++ map (file_verdict c.args.tests.now c.args.of_spec.now) ls)
    (sym (lives_there world c.args.of_spec.now c.args.row.now c.as_slice.result.now has))

pub returns-clause-taken : goal.returns-clause-taken
returns-clause-taken g c = λ world ts told same.
    let has = (rw c.as_str.ensures at (c.in_ok-read_file_into.ensures.found world told))
    ∙ ap Ok (sym c.as_slice.ensures.value) in
    took-in_world world c.args.scan.now ts c.args.at c.as_slice.result.now c.args.state.now c.take_files.new.state
    c.in_ok-take_files.ensures.taken same
    (has_bytes world c.args.scan.now.wanted c.args.at c.args.row.now c.as_slice.result.now c.requires.row has)

pub returns-clause-there : goal.returns-clause-there
returns-clause-there g c = λ world told.
    (c.read_file_into.new.bytes.items, rw c.as_str.ensures at (c.in_ok-read_file_into.ensures.found world told))

pub returns-clause-read : goal.returns-clause-read
returns-clause-read g c = (
  c.as_slice.result.now,
  rw (c.as_str.ensures, ← c.as_slice.ensures.value) at c.in_ok-read_file_into.ensures.given,
  c.in_ok-take_files.ensures.taken,
  c.in_ok-take_files.ensures.told,
)

pub returns-clause-given : goal.returns-clause-given
returns-clause-given g c =
    let gives = g.F.Files.gives c.args.files.now in
    let scan = c.args.scan.now in
    let read = rw (c.as_str.ensures, ← c.as_slice.ensures.value) at c.in_ok-read_file_into.ensures.given in
    λ h. subst (IsGiven gives scan) (sym c.in_ok-take_files.ensures.taken)
    (took_row gives scan c.args.state.now scan.wanted c.args.at c.args.row.now c.as_slice.result.now c.requires.row
    read h)
