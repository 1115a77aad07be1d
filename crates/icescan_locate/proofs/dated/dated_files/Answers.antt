use Rattle.std.proofs.Common.{rules, ◌≡◌, true, false}
use Rattle.std.proofs.lemmas.List.Elements.{All-push}
use Rattle.icescan_locate.specs.Dated.{IsDated, is_metadata}
use Rattle.icescan_locate.proofs.Files.{file_more, other_more}
use Rattle.icescan_locate.proofs.dated.dated_files.Goals as goal
use Rattle.icescan_locate.proofs.dated.dated_files.Goals.{in-Some+in_ok-dated_file+in_ok-push, in_default}

pub names-preserved : goal.names-preserved
names-preserved g c =
    let before = c.names.invariant in
    let files = c.names.found.items in
    elim c.match-metadata_name.branch [
      | in-Some+in_ok-dated_file+in_ok-push w ↦
          let file = w.in_ok-dated_file.field-0 in
          let is : is_metadata c.name-item.result ≡ true = search rules in
          rw (w.found-is, w.in_ok-push.ensures.items) (
            file_more c.args.names.now c.names.name-index c.name-item.result files file c.names-test.true c.name-item.is
                before.0 w.in_ok-dated_file.ensures.named is,
            All-push (IsDated (g.F.Files.gives c.args.files.now) c.args.folder.now) files file before.1
                w.in_ok-dated_file.ensures.dated,
          )
      | in_default w ↦
          let is : is_metadata c.name-item.result ≡ false = search rules in
          rw w.found-is (
            other_more c.args.names.now c.names.name-index c.name-item.result files c.names-test.true c.name-item.is
                before.0 is,
            before.1,
          )
    ]
