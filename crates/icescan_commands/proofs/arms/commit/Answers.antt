use Rattle.std.proofs.Common.{◌≡◌, refl, rules}
use Rattle.std.specs.Prelude.{option_map}
use Rattle.std.proofs.lemmas.Result.{err_from_is_err_and}
use Rattle.icescan_commits.specs.Commits.{committed_text}
use Rattle.icescan_commands.specs.Answers.{as_answer}
use Rattle.icescan_commands.specs.Sources.{failing_bundle}
use Rattle.icescan_words.specs.declared.command.Source.TheVariants as source
use Rattle.icescan_commands.proofs.Committed.{no_files}
use Rattle.icescan_commands.proofs.Refusals.{is_left, left_of, no_bundle_ran, untold_ran}
use Rattle.icescan_commands.proofs.Stored.{commits, if_told}
use Rattle.icescan_commands.proofs.arms.commit.Goals as goal

pub returns-in_err-bundle-in-Bundle-clause-ran : goal.returns-in_err-bundle-in-Bundle-clause-ran
returns-in_err-bundle-in-Bundle-clause-ran g c =
    let p = err_from_is_err_and c.from_residual.result c.from_residual.ensures.1 in
    let asked : c.args.source.now ≡ source.Bundle = search rules in
    let no = c.in_err-bundle-in-Bundle.ensures.refused in
    rw (p.1, p.2, asked) (
      no.0,
      no.1,
      no_bundle_ran (option_map as_answer (committed_text c.args.request.now no.0)) no.0
          (g.W.Sink.may_fail c.args.output.now) _ (no_files c.args.request.now no.0)
          c.in_err-bundle-in-Bundle.field-0.0 no.2,
    )

pub returns-in_ok-bundle-in-Bundle-clause-ran : goal.returns-in_ok-bundle-in-Bundle-clause-ran
returns-in_ok-bundle-in-Bundle-clause-ran g c =
    let asked : c.args.source.now ≡ source.Bundle = search rules in
    let found = c.in_ok-bundle-in-Bundle.ensures.found in
    rw asked (found.0, found.1, c.print_commit.ensures found.0 found.2)

pub returns-in_err-bundle-in-Bundle-clause-stored : goal.returns-in_err-bundle-in-Bundle-clause-stored
returns-in_err-bundle-in-Bundle-clause-stored g c =
    let asked : c.args.source.now ≡ source.Bundle = search rules in rw asked refl

pub returns-in_ok-bundle-in-Bundle-clause-stored : goal.returns-in_ok-bundle-in-Bundle-clause-stored
returns-in_ok-bundle-in-Bundle-clause-stored g c =
    let asked : c.args.source.now ≡ source.Bundle = search rules in rw asked refl

pub returns-in-Folder-clause-ran : goal.returns-in-Folder-clause-ran
returns-in-Folder-clause-ran g c =
    let left = g.R.Read.remaining c.args.input.now in
    let asked : c.args.source.now ≡ source.Folder c.in-Folder.place = search rules in
    rw asked (
      left_of left,
      is_left left,
      untold_ran (failing_bundle (g.W.Sink.may_fail c.args.output.now)) c.commit_to.result _ _
          c.commit_to.ensures.nothing,
    )

pub returns-in-Folder-clause-stored : goal.returns-in-Folder-clause-stored
returns-in-Folder-clause-stored g c =
    let asked : c.args.source.now ≡ source.Folder c.in-Folder.place = search rules in
    let is = c.watched_files-files.ensures in
    let ran = c.commit_to in
    rw asked (if_told _ _ (λ world told.
    let here = commits world _ c.args.request.now _ _ (g.W.Sink.may_fail c.args.output.now) c.enter.ensures.cause
    ran.result _ _ _ _ (ran.ensures.made world (rw (is.0, is.1, is.2) told))
    (ran.ensures.refused world (rw (is.0, is.1, is.2) told))
    (λ fault none. ran.ensures.unchanged world fault (rw (is.0, is.1, is.2) told) none)
    (λ commit there. ran.ensures.left world commit (rw (is.0, is.1, is.2) told) there) in
    rw (is.0, is.1, is.2, c.enter.ensures.entered, c.as_str.ensures, c.as_str-in-Folder.ensures) at here))

pub returns-in_err-bundle-in-Bundle-clause-stored_of_given : goal.returns-in_err-bundle-in-Bundle-clause-stored_of_given
returns-in_err-bundle-in-Bundle-clause-stored_of_given g c =
    let asked : c.args.source.now ≡ source.Bundle = search rules in rw asked tt

pub returns-in_ok-bundle-in-Bundle-clause-stored_of_given : goal.returns-in_ok-bundle-in-Bundle-clause-stored_of_given
returns-in_ok-bundle-in-Bundle-clause-stored_of_given g c =
    let asked : c.args.source.now ≡ source.Bundle = search rules in rw asked tt

pub returns-in-Folder-clause-stored_of_given : goal.returns-in-Folder-clause-stored_of_given
returns-in-Folder-clause-stored_of_given g c =
    let asked : c.args.source.now ≡ source.Folder c.in-Folder.place = search rules in
    let is = c.watched_files-files.ensures in
    let here = c.commit_to.ensures.given in
    let there = rw (is.0, is.1, is.2, c.enter.ensures.entered, c.as_str.ensures, c.as_str-in-Folder.ensures) at here in
    rw asked there
