use Rattle.std.proofs.Common.{◌≡◌, refl, rules}
use Rattle.std.proofs.lemmas.Result.{err_from_is_err_and}
use Rattle.ice_state.specs.Contents.{World}
use Rattle.icescan_files.specs.Bundles.{bytes_at}
use Rattle.icescan_requests.specs.ListPlans.{list_reads}
use Rattle.icescan_text.proofs.Steps.{never_fails}
use Rattle.icescan_commands.specs.Runs.{list_plan_in}
use Rattle.icescan_commands.specs.Sources.{failing_bundle}
use Rattle.icescan_words.specs.declared.command.Lists.TheVariants as lists
use Rattle.icescan_commands.proofs.Opened.{folder_ran, gives_ran}
use Rattle.icescan_commands.proofs.Refusals.{is_left, known_ran, left_of, list_ran, no_bundle_ran, no_plan, plan_from}
use Rattle.icescan_commands.proofs.Reading.{any_ok}
use Rattle.icescan_commands.proofs.arms.list_plan.Goals as goal

pub returns-in_err-bundle-in-Bundle-clause-ran : goal.returns-in_err-bundle-in-Bundle-clause-ran
returns-in_err-bundle-in-Bundle-clause-ran g c =
    let p = err_from_is_err_and c.from_residual.result c.from_residual.ensures.1 in
    let list = c.in-Bundle.list in
    let asked : c.args.lists.now ≡ lists.Bundle list = search rules in
    let no = c.in_err-bundle-in-Bundle.ensures.refused in
    let below = g.S.Folders.below c.args.system.now.folders.now in
    rw (p.1, p.2, asked) (
      no.0,
      no.1,
      no_bundle_ran _ no.0 (g.W.Sink.may_fail c.args.output.now) _ (no_plan below c.args.format list no.0)
          c.in_err-bundle-in-Bundle.field-0.0 no.2,
    )

pub returns-in_err-path-in-Bundle-clause-ran : goal.returns-in_err-path-in-Bundle-clause-ran
returns-in_err-path-in-Bundle-clause-ran g c =
    let p = err_from_is_err_and c.from_residual-in_err-path-in-Bundle.result
    c.from_residual-in_err-path-in-Bundle.ensures.1 in
    let list = c.in-Bundle.list in
    let asked : c.args.lists.now ≡ lists.Bundle list = search rules in
    let found = c.in_ok-bundle-in-Bundle.ensures.found in
    let below = g.S.Folders.below c.args.system.now.folders.now in
    rw (p.1, p.2, asked) (
      found.0,
      found.1,
      list_ran below found.0 c.in_ok-bundle-in-Bundle.bundle found.2 c.args.format list
          (g.W.Sink.may_fail c.args.output.now) _ c.in_err-path-in-Bundle.field-0.0 c.in_err-path-in-Bundle.ensures.err,
    )

pub returns-in_ok-path-in-Bundle-clause-ran : goal.returns-in_ok-path-in-Bundle-clause-ran
returns-in_ok-path-in-Bundle-clause-ran g c =
    let list = c.in-Bundle.list in
    let asked : c.args.lists.now ≡ lists.Bundle list = search rules in
    let found = c.in_ok-bundle-in-Bundle.ensures.found in
    let bundle = c.in_ok-bundle-in-Bundle.bundle in
    let world : World = λ path. bytes_at bundle path in
    let path = c.in_ok-path-in-Bundle.path.now in
    let form = c.args.format in
    let below = g.S.Folders.below c.args.system.now.folders.now in
    let failing = failing_bundle (g.W.Sink.may_fail c.args.output.now) in
    let ran = gives_ran (list_plan_in form world path) _ failing c.write_list_plan.result _ _
    (λ at h. never_fails world (list_reads world path) at h) (c.write_list_plan.ensures.answers world refl)
    c.write_list_plan.ensures.refusal.nothing in
    rw asked (
      found.0,
      found.1,
      known_ran _ _ failing c.write_list_plan.result _ _
          (plan_from below found.0 bundle found.2 form list path c.in_ok-path-in-Bundle.ensures.ok) ran,
    )

pub returns-in-Folder-clause-ran : goal.returns-in-Folder-clause-ran
returns-in-Folder-clause-ran g c =
    let left = g.R.Read.remaining c.args.input.now in
    let place = c.in-Folder.place in
    let asked : c.args.lists.now ≡ lists.Folder place c.in-Folder.list = search rules in
    let is = c.watched_files-files.ensures in
    let files = c.watched_files-files.result.files in
    let form = c.args.format in
    let list = c.as_str.result.now in
    let ran = c.write_list_plan-in-Folder in
    let told = folder_ran (g.S.Folders.below c.args.system.now.folders.now place.folder place.prefix)
    (g.S.Folders.below files.folders.now files.folder.now files.prefix.now) (rw (is.0, is.1, is.2) refl)
    (g.S.Folders.may_fail files.folders.now files.folder.now files.prefix.now)
    (g.S.Folders.may_fail c.args.system.now.folders.now place.folder place.prefix)
    (λ path h. rw (is.0, is.1, is.2) at h) (λ world. list_plan_in form world list) (λ world. list_reads world list)
    (g.W.Sink.may_fail c.args.output.now) ran.result _ _ (λ v told. ran.ensures.answers v told)
    ran.ensures.refusal.nothing in
    rw asked (left_of left, is_left left, rw c.as_str.ensures at told)

pub returns-in_ok-path-in-Bundle-clause-given : goal.returns-in_ok-path-in-Bundle-clause-given
returns-in_ok-path-in-Bundle-clause-given g c =
    let asked : c.args.lists.now ≡ lists.Bundle c.in-Bundle.list = search rules in
    rw asked (any_ok c.write_list_plan.result)

pub returns-in-Folder-clause-given : goal.returns-in-Folder-clause-given
returns-in-Folder-clause-given g c =
    let asked : c.args.lists.now ≡ lists.Folder c.in-Folder.place c.in-Folder.list = search rules in
    let is = c.watched_files-files.ensures in
    rw asked (rw (is.0, is.1, is.2, c.as_str.ensures) at c.write_list_plan-in-Folder.ensures.given)
