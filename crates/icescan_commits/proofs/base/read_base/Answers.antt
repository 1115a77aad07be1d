use Rattle.std.proofs.Common.{◌≡◌, sym, ap, ◌∙◌, rules}
use Rattle.std.specs.Prelude.{Ok, Err}
use Rattle.ice_meta.specs.declared.metadata.Target.TheVariants.{Main}
use Rattle.ice_meta.specs.Targets.{list_of}
use Rattle.icescan_commits.specs.Commits.{manifests_in}
use Rattle.icescan_commits.proofs.Bases.{kept_is_found, no_list, with_list}
use Rattle.icescan_commits.proofs.GivenCommits.{base_given, no_base_given}
use Rattle.icescan_commits.proofs.base.read_base.Goals as goal

pub returns-in-Err-clause-base : goal.returns-in-Err-clause-base
returns-in-Err-clause-base g c = λ world told.
    c.new-kept.ensures ∙ sym (no_list world (list_of Main c.args.metadata.now.table) c.in-Err.field-0
    (c.in-Err.ensures.list (λ is. c.in-Err.ensures.memory (ap Err is))))

pub returns-clause-base : goal.returns-clause-base
returns-clause-base g c = λ world told.
    let list = c.as_str-list.result.now in
    let named : list_of Main c.args.metadata.now.table ≡ Ok list = search rules in
    let first = rw c.new-kept.ensures at (c.in_ok-keep_file.ensures.kept world told) in
    let found = (rw first at c.get.ensures) ∙ kept_is_found list (world list) in
    let manifests = c.in_ok-manifests.ensures ∙ ap manifests_in found in
    let all = rw (c.deref.ensures.value, manifests, first) at (c.in_ok-keep_files.ensures.kept world told) in
    all ∙ sym (with_list world (list_of Main c.args.metadata.now.table) list named)

pub returns-in-Err-clause-given : goal.returns-in-Err-clause-given
returns-in-Err-clause-given g c =
    no_base_given (g.F.Files.gives c.args.files.now) (list_of Main c.args.metadata.now.table) c.in-Err.field-0
    (c.in-Err.ensures.list (λ is. c.in-Err.ensures.memory (ap Err is))) _ c.new-kept.ensures

pub returns-clause-given : goal.returns-clause-given
returns-clause-given g c =
    let list = c.as_str-list.result.now in
    let named : list_of Main c.args.metadata.now.table ≡ Ok list = search rules in
    let one = c.in_ok-keep_file.ensures.given in
    let first = rw c.new-kept.ensures at one.2 in
    let found = (rw first at c.get.ensures) ∙ kept_is_found list one.0 in
    let manifests = c.in_ok-manifests.ensures ∙ ap manifests_in found in
    let rest = rw (c.deref.ensures.value, manifests) at c.in_ok-keep_files.ensures.given in
    base_given (g.F.Files.gives c.args.files.now) (list_of Main c.args.metadata.now.table) list named _ _ one.0 one.1
    first rest
