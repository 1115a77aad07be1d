use Rattle.std.proofs.Common.{rules, sym, arith, ◌≡◌, ◌++◌, false, None}
use Rattle.std.proofs.lemmas.Str.Pattern.{strip_prefix_char}
use Rattle.icescan_files.specs.Folders.{has_dots}
use Rattle.icescan_files.proofs.Segments.{no_slash}
use Rattle.icescan_files.proofs.folder.rest_of.Goals as goal

pub returns-in-None : goal.returns-in-None
returns-in-None c =
    let behind = c.in_ok-behind.behind.now in
    let begins : c.args.path.now ≡ c.args.prefix.now ++ behind = search rules in
    let stays : has_dots behind ≡ false = search rules in
    record {
      behind = behind;
      begins = begins;
      stays = stays;
      rest_is =
          sym (no_slash behind (strip_prefix_char 47 behind None c.in-None.ensures.cases (omega arith)));
    }
