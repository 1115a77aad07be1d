use Rattle.icescan_locate.proofs.running.locate_folder.Goals as goal

pub returns-clause-located : goal.returns-clause-located
returns-clause-located g c =
    let files = c.new-files.ensures in
    record {
      name = c.in_ok-name.name;
      location = c.in_ok-metadata.metadata.table.location;
      newest = c.in_ok-name.ensures.found;
      located = rw (c.as_str.ensures, files.0, files.1, files.2) at c.in_ok-metadata.ensures;
      wrote = rw (
        c.deref.ensures.value,
        c.in_ok-text.ensures,
        c.as_str-3.ensures.value,
        c.in_ok-path.ensures,
        c.as_str-2.ensures,
        c.as_str-location.ensures,
        c.table.ensures,
      ) at c.in_ok-write_all.ensures.all;
    }
