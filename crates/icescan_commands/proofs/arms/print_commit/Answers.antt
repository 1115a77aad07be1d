use Rattle.std.proofs.Common.{refl}
use Rattle.std.specs.Prelude.{option_map}
use Rattle.std.proofs.lemmas.Result.{err_from_is_err_and}
use Rattle.ice_state.specs.Contents.{World}
use Rattle.icescan_files.specs.Bundles.{bytes_at}
use Rattle.icescan_commits.specs.Commits.{committed_text}
use Rattle.icescan_commands.specs.Answers.{as_answer}
use Rattle.icescan_commands.specs.Sources.{failing_bundle}
use Rattle.icescan_commands.proofs.Committed.{commit_ran, failed_ran, wrote_ran}
use Rattle.icescan_commands.proofs.Refusals.{memory_ran}
use Rattle.icescan_commits.proofs.Stored.{added_is, text_is}
use Rattle.icescan_commands.proofs.arms.print_commit.Goals as goal

pub returns-in_err-prepared : goal.returns-in_err-prepared
returns-in_err-prepared g c = λ text is.
    let p = err_from_is_err_and c.from_residual.result c.from_residual.ensures.1 in
    let bundle = c.args.bundle.now in
    let world : World = λ path. bytes_at bundle path in
    rw (p.1, p.2) (commit_ran c.args.request.now text bundle is
    (g.W.Sink.may_fail c.args.output.now) _ c.in_err-prepared.field-0.0 (c.in_err-prepared.ensures.refused world refl))

pub returns-in_err-metadata : goal.returns-in_err-metadata
returns-in_err-metadata g c = λ text is.
    let p = err_from_is_err_and c.from_residual-in_err-metadata.result c.from_residual-in_err-metadata.ensures.1 in
    rw (p.1, p.2) (memory_ran (option_map as_answer (committed_text c.args.request.now text))
    (failing_bundle (g.W.Sink.may_fail c.args.output.now)) _)

pub returns-in_err-lines : goal.returns-in_err-lines
returns-in_err-lines g c = λ text is.
    let p = err_from_is_err_and c.from_residual-in_err-lines.result c.from_residual-in_err-lines.ensures.1 in
    rw (p.1, p.2) (memory_ran (option_map as_answer (committed_text c.args.request.now text))
    (failing_bundle (g.W.Sink.may_fail c.args.output.now)) _)

pub returns-in_err-write_all : goal.returns-in_err-write_all
returns-in_err-write_all g c = λ text is.
    let p = err_from_is_err_and c.from_residual-in_err-write_all.result c.from_residual-in_err-write_all.ensures.1 in
    let request = c.args.request.now in
    let bundle = c.args.bundle.now in
    let world : World = λ path. bytes_at bundle path in
    let made = c.in_ok-prepared.ensures.prepared world refl in
    let bytes = c.in_ok-metadata.metadata.items in
    let says = text_is c.in_ok-prepared.prepared made.0 c.version.result.now _ bytes made.2 c.version.ensures
    c.metadata.ensures
    c.in_ok-metadata.ensures.read_back c.in_ok-metadata.ensures.text in
    let files = added_is c.in_ok-prepared.prepared made.0 c.files.result.now made.2 c.files.ensures in
    let front = rw (c.deref-2.ensures.value, c.in_ok-lines.ensures, c.deref.ensures.value, files) at
    c.in_err-write_all.ensures.front in
    rw (p.1, p.2) (failed_ran request text bundle is made.0 made.1 bytes says
    (g.W.Sink.may_fail c.args.output.now) _ _ c.in_err-write_all.ensures.cause front)

pub returns : goal.returns
returns g c = λ text is.
    let request = c.args.request.now in
    let bundle = c.args.bundle.now in
    let world : World = λ path. bytes_at bundle path in
    let made = c.in_ok-prepared.ensures.prepared world refl in
    let bytes = c.in_ok-metadata.metadata.items in
    let says = text_is c.in_ok-prepared.prepared made.0 c.version.result.now _ bytes made.2 c.version.ensures
    c.metadata.ensures
    c.in_ok-metadata.ensures.read_back c.in_ok-metadata.ensures.text in
    let files = added_is c.in_ok-prepared.prepared made.0 c.files.result.now made.2 c.files.ensures in
    let all = rw (c.deref-2.ensures.value, c.in_ok-lines.ensures, c.deref.ensures.value, files) at
    c.in_ok-write_all.ensures.all in
    wrote_ran request text bundle is made.0 made.1 bytes says
    (g.W.Sink.may_fail c.args.output.now) _ _ all
