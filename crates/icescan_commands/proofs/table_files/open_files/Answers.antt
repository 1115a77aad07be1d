use Rattle.std.proofs.Common.{◌≡◌, refl, rules}
use Rattle.icescan_words.specs.declared.command.Source.TheVariants as source
use Rattle.icescan_commands.proofs.Refusals.{is_left, left_of}
use Rattle.icescan_commands.proofs.table_files.open_files.Goals as goal

pub returns-in_ok-read_bundle-in-Bundle-clause-opened : goal.returns-in_ok-read_bundle-in-Bundle-clause-opened
returns-in_ok-read_bundle-in-Bundle-clause-opened g c =
    let asked : c.args.source.now ≡ source.Bundle = search rules in
    let found = c.in_ok-read_bundle-in-Bundle.ensures.found in
    rw asked (
      found.0,
      found.1,
      record {
        bundle = λ is. (c.in_ok-read_bundle-in-Bundle.field-0, found.2, refl, λ path h. h);
        folder = λ place is. absurd cc;
      },
    )

pub returns-in-Folder-clause-opened : goal.returns-in-Folder-clause-opened
returns-in-Folder-clause-opened g c =
    let asked : c.args.source.now ≡ source.Folder c.in-Folder.place = search rules in
    let left = g.R.Read.remaining c.args.input.now in
    let is = c.watched_files.ensures in
    rw asked (
      left_of left,
      is_left left,
      record {
        bundle = λ none. absurd cc;
        folder = λ place named.
            let same : c.in-Folder.place ≡ place = cc in rw (is.0, is.1, is.2, same) (refl, λ path h. h);
      },
    )

pub returns-in_ok-read_bundle-in-Bundle-clause-given : goal.returns-in_ok-read_bundle-in-Bundle-clause-given
returns-in_ok-read_bundle-in-Bundle-clause-given g c =
    let asked : c.args.source.now ≡ source.Bundle = search rules in rw asked tt

pub returns-in-Folder-clause-given : goal.returns-in-Folder-clause-given
returns-in-Folder-clause-given g c =
    let asked : c.args.source.now ≡ source.Folder c.in-Folder.place = search rules in
    let is = c.watched_files.ensures in
    rw asked (λ path found h. rw (is.0, is.1, is.2) at h)
