-- What the changes between two snapshots tell nothing of.
use Rattle.std.specs.Prelude.{◌≡◌, ℕ, List, [], None, Contains}
use Rattle.ice_filter.specs.Rows as table
use Rattle.ice_manifest_reading.specs.declared.entry.Live.{Live}
use Rattle.ice_manifest_reading.specs.declared.row.Row.{Row}
use Rattle.ice_project.specs.Honesty.{NoneMeets}
use Rattle.ice_state.specs.Contents.{World}
use Rattle.ice_state.specs.Covering.{RowCovers}
use Rattle.ice_state.specs.Lines.{OwnedLine}
use Rattle.ice_state.specs.Snapshots.{live}
use Rattle.ice_state_laws.specs.Honesty.{IsHonest}
use Rattle.ice_value.specs.declared.file_content.FileContent.TheVariants.{Data}
use Rattle.icescan_changes.specs.Meanings.{changes_of, line_of}
use Rattle.icescan_changes.specs.declared.changes.Change.{Change}
use Rattle.icescan_requests.specs.declared.selection.Selection.{Selection}
use Rattle.icescan_text.specs.declared.request.Request.{Request}
use Rattle.icescan_answer_laws.specs.Asked.{IsAsked}

-- A live data file of the snapshot that a request asks for, which is honest about its rows, whose path the plan of the
-- other snapshot has not, and of which the changes tell nothing, has no row that meets the request's filter. The
-- summaries of the file's own manifest have to cover its partition values.
abbrev pub UntoldHasNoMatch : World → List ℕ → Request → List OwnedLine → List Change → Type 0
UntoldHasNoMatch world metadata request other changes = (selection : Selection) (rows : List Row) (row : Row) (l : Live)
    (file : List table.Row) → IsAsked world metadata request selection rows → Contains rows row →
    Contains (live world selection.specs row) l → l.entry.file.content ≡ Data →
    IsHonest selection.specs selection.filter.parts l file → RowCovers selection.specs row l.entry.file.tuple →
    line_of other l.entry.file.path ≡ None → changes_of changes l.entry.file.path ≡ [] →
    NoneMeets selection.filter.parts file
