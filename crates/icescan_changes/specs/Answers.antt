-- What `changes` answers: the changes from one plan to another of a table, or the first refusal.
use Rattle.std.specs.Prelude.{◌≡◌, ℕ, List, [], ◌∷◌, ◌++◌, Option, Result, Ok, Err}
use Rattle.contract_words.specs.Outcome.{◌>>=◌}
use Rattle.ice_desk.specs.Given.{Giving}
use Rattle.ice_state.specs.Contents.{World}
use Rattle.ice_state.specs.Lines.{OwnedLine}
use Rattle.icescan_changes.specs.JsonLines.{changes_objects}
use Rattle.icescan_changes.specs.Lineage.{lineage_of}
use Rattle.icescan_changes.specs.Texts.{changes_text}
use Rattle.icescan_forms.specs.declared.format.Format.{Format}
use Rattle.icescan_forms.specs.declared.format.Format.TheVariants as format
use Rattle.icescan_print.specs.Written.{Appends}
use Rattle.icescan_requests.specs.GivenPlans.{IsRowsPlanOfGiven}
use Rattle.icescan_requests.specs.Plans.{manifests, over_wanted_rows, rows_plan}
use Rattle.icescan_requests.specs.declared.selected_rows.SelectedRows.{SelectedRows}
use Rattle.icescan_shared_manifests.specs.Both.{both_lists, both_rows}
use Rattle.icescan_shared_manifests.specs.GivenBoth.{AreBothOfGiven}
use Rattle.icescan_shared_manifests.specs.declared.both_rows.BothRows.{BothRows}
use Rattle.icescan_text.specs.Reads.{file_in}
use Rattle.icescan_text.specs.Workers.{by_workers}
use Rattle.icescan_text.specs.declared.fault.RunFault.{RunFault}
use Rattle.icescan_text.specs.declared.request.ChangesRequest.{ChangesRequest}

-- the changes from one plan to another, in a form
abbrev pub changes_told : Format → List OwnedLine → List OwnedLine → List ℕ
changes_told format.Text earlier later = changes_text earlier later
changes_told format.Json earlier later = changes_objects earlier later

-- the plan of rows that were selected
abbrev pub plan_of : World → SelectedRows → Result (List OwnedLine) RunFault
plan_of world s = rows_plan over_wanted_rows world s.specs s.filter.parts s.rows

-- the changes between the plans of both, or the first refusal: that of the earlier plan, else that of the later
unfoldable pub changes_between : Format → World → BothRows → Result (List ℕ) RunFault
changes_between form world both = do
  earlier ← plan_of world both.earlier
  later ← plan_of world both.later
  Ok (changes_told form earlier later)

-- The changes that are asked for, in a form, or the first refusal: that of a snapshot between that has to be an
-- append, else that of the lists, else that of the plans. Where no filter is asked and both lists have the same
-- manifests of delete files, the data manifests that both lists have are left out of both plans. The changes are those
-- of the whole plans all the same, where there are such (`changes_are_of_whole_plans` in `icescan_changes_laws`).
unfoldable pub changes_in : Format → World → List ℕ → ChangesRequest → Result (List ℕ) RunFault
changes_in form world metadata request = do
  _ ← lineage_of metadata request
  both ← both_rows world metadata request
  changes_between form world both

-- the same of the metadata in the file at a path, by so many workers; their number comes before all else
unfoldable pub changes_at : Format → World → List ℕ → ChangesRequest → ℕ → Result (List ℕ) RunFault
changes_at form world path request workers =
    by_workers workers (file_in world path >>= λ metadata. changes_in form world metadata request)

-- the manifests that are read: those of the earlier plan, and then those of the later
abbrev pub manifests_of : SelectedRows → List (List ℕ)
manifests_of s = manifests s.specs s.filter.parts s.rows

abbrev pub manifests_of_both : BothRows → List (List ℕ)
manifests_of_both both = manifests_of both.earlier ++ manifests_of both.later

abbrev pub reads_behind_lists : Result BothRows RunFault → List (List ℕ)
reads_behind_lists (Ok both) = manifests_of_both both
reads_behind_lists (Err fault) = []

-- the paths that are read, in this order: both lists, and then the manifests
abbrev pub both_reads : World → List ℕ → ChangesRequest → List (List ℕ)
both_reads world metadata request = both_lists metadata request
    ++ reads_behind_lists (both_rows world metadata request)

abbrev pub changes_reads_behind : World → ChangesRequest → Result (List ℕ) RunFault → List (List ℕ)
changes_reads_behind world request (Ok metadata) = both_reads world metadata request
changes_reads_behind world request (Err fault) = []

unfoldable pub changes_reads_at : World → List ℕ → ChangesRequest → List (List ℕ)
changes_reads_at world path request = path ∷ changes_reads_behind world request (file_in world path)

-- The changes in a form between the plans of both, of bytes that reads gave.
pub record AreChangesOfBoth (form : Format) (gives : Giving) (both : BothRows) (text : List ℕ) : Type 0 where
  pub earlier : List OwnedLine
  pub earlier_is : IsRowsPlanOfGiven gives both.earlier.specs both.earlier.filter.parts both.earlier.rows earlier
  pub later : List OwnedLine
  pub later_is : IsRowsPlanOfGiven gives both.later.specs both.later.filter.parts both.later.rows later
  pub is : text ≡ changes_told form earlier later

-- The same of the rows that are planned of the table with this metadata; where each snapshot between has to be an
-- append, it is one.
pub record AreChangesOfGiven (form : Format) (gives : Giving) (metadata : List ℕ) (request : ChangesRequest)
    (text : List ℕ) : Type 0 where
  pub follows : lineage_of metadata request ≡ Ok tt
  pub both : BothRows
  pub both_is : AreBothOfGiven gives metadata request both
  pub told : AreChangesOfBoth form gives both text

abbrev pub WroteChangesOfGiven : Format → Giving → List ℕ → ChangesRequest → Option (List ℕ) → Option (List ℕ) → Type 0
WroteChangesOfGiven form gives metadata request output output' =
    (text : List ℕ) × AreChangesOfGiven form gives metadata request text × Appends output output' text
