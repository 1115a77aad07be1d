-- A data file as a part of a section.
use Rattle.std.specs.Prelude.{ℕ, List, Ok}
use Rattle.contract_words.specs.Outcome.{◌>>=◌}
use Rattle.ice_manifest_reading.specs.declared.data_file.DataFile.{DataFile}
use Rattle.ice_state_sections.specs.Parts.{Read, long, optional}
use Rattle.ice_state_sections.specs.Values.{content, format, path, cells, ids}

-- A file with so many partition values, by a path that is known. The path of the one file that position deletes are
-- about is told by their own.
unfoldable pub file : ℕ → List ℕ → List ℕ → Read DataFile
file values known bytes = do
  kind ← content bytes
  form ← format kind.1
  own ← path known form.1
  tuple ← cells values own.1
  count ← long tuple.1
  size ← long count.1
  columns ← ids size.1
  about ← optional (path own.0) columns.1
  Ok (
    record {
      content = kind.0;
      format = form.0;
      path = own.0;
      tuple = tuple.0;
      record_count = count.0;
      file_size = size.0;
      equality_ids = columns.0;
      referenced = about.0;
    },
    about.1,
  )
