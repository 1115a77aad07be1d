-- What a plan names is reached by the metadata that the plan was asked of.
use Rattle.std.proofs.Common.{◌≡◌, ℕ, List, [], Option, Some, None, map, refl, sym, ◌∙◌}
use Rattle.std.proofs.Common.{Ok, subst}
use Rattle.std.specs.List.{Contains}
use Rattle.ice_desk.specs.Given.{AreOf, Giving}
use Rattle.ice_manifest_reading.proofs.Sets.{nowhere}
use Rattle.ice_manifest_reading.specs.declared.entry.Entry.{Entry}
use Rattle.ice_manifest_reading.specs.declared.entry.Live.{Live}
use Rattle.ice_manifest_reading.specs.declared.row.Row.{Row}
use Rattle.ice_meta.specs.Targets.{Described, metadata_of}
use Rattle.ice_meta.specs.declared.spec.Spec.{Spec}
use Rattle.ice_state.proofs.Elements.{filtered, sorted_contains}
use Rattle.ice_state.proofs.Planned.{equalities_of, files_of, positions_of}
use Rattle.ice_state.specs.Contents.{Content, World, live_by}
use Rattle.ice_state.specs.Lines.{OwnedLine}
use Rattle.ice_state.specs.Outcomes.{by_path, faults_of, kept_in, outcome, path_before, plan_over}
use Rattle.ice_state.specs.Pruning.{holds}
use Rattle.ice_state.specs.Scans.{Scanned}
use Rattle.ice_state.specs.Specs.{spec_of}
use Rattle.ice_value.specs.declared.file_content.FileContent.{FileContent}
use Rattle.ice_value.specs.declared.file_content.FileContent.TheVariants.{Data, EqualityDeletes, PositionDeletes}
use Rattle.icescan_reachable.proofs.Reached.{tells_all}
use Rattle.icescan_reachable.specs.Given.{AreLinesGivenAt}
use Rattle.icescan_reachable.specs.Lines.{kind_of}
use Rattle.icescan_reachable.specs.Reaches.{HasFile, HasRow, Reaches}
use Rattle.icescan_reachable.specs.declared.kind.FileKind.{FileKind}
use Rattle.icescan_reachable.specs.declared.kind.FileKind.TheVariants as kind
use Rattle.icescan_requests.specs.GivenPlans.{IsPlanOfGiven, IsPlanOfGivenAt}
use Rattle.icescan_text.specs.declared.request.Request.{Request}
use Rattle.icescan_reachable_laws.proofs.Bare.{bare, live_bare}
use Rattle.icescan_reachable_laws.proofs.Entries.{holds_data, in_map, made_is}
use Rattle.icescan_reachable_laws.proofs.Given.{IsLiveGiven, of_slots, wanted_row}
use Rattle.icescan_reachable_laws.proofs.Selected.{selected_listed}
use Rattle.icescan_reachable_laws.specs.Named.{HasLine, NamesOnly}

-- ---- which are the files that a table reaches

module _ (gives : Giving) (metadata : Described) where
  of_spec : (spec : Option Spec) (row : Row) → HasRow gives metadata row → (bytes : List ℕ)
      → gives row.path (Some bytes) → (found : List Live) → live_by spec row bytes ≡ Ok found → (l : Live)
      → Contains found l
      → HasFile gives metadata (kind_of l.entry.file.content) l.entry.file.path
  of_spec None row has bytes given found is l i =
      let none : [] ≡ found = cc in absurd (nowhere l (subst (λ (ls : List Live). Contains ls l) (sym none) i))
  of_spec (Some spec) row has bytes given found is l i = (
    bare l,
    (row, has, map bare found, (bytes, given, live_bare row spec bytes found is), in_map bare found l i),
    refl,
    refl,
  )

  of_live : (specs : List Spec) (rows : List Row) → ((row : Row) → Contains rows row → HasRow gives metadata row)
      → (x : Entry) → IsLiveGiven gives specs rows x
      → HasFile gives metadata (kind_of x.file.content) x.file.path
  of_live specs rows have x (row, among, bytes, given, found, is, l, live, same) =
      subst (λ (e : Entry). HasFile gives metadata (kind_of e.file.content) e.file.path) same
      (of_spec (spec_of specs row.spec_id) row (have row among) bytes given found is l live)

  of_kind : (content : FileContent) (x : Entry) → HasFile gives metadata (kind_of x.file.content) x.file.path
      → x.file.content ≡ content → HasFile gives metadata (kind_of content) x.file.path
  of_kind content x has is =
      subst (λ (c : FileContent). HasFile gives metadata (kind_of c) x.file.path) is has

  -- ---- the lines of a plan

  of_plan : (own : List ℕ) (all : List Entry)
      → ((x : Entry) → Contains all x → HasFile gives metadata (kind_of x.file.content) x.file.path)
      → NamesOnly (Reaches gives metadata own) (plan_over all all)
  of_plan own all have planned i =
      let file = in_map (λ (line : OwnedLine). line.file) (plan_over all all) planned i in
      let kept_data = filtered (holds Data) all planned.file
      (subst (λ (xs : List Entry). Contains xs planned.file) (files_of all all) file) in (
        of_kind Data planned.file (have planned.file kept_data.0) (holds_data planned.file kept_data.1),
        λ x j. (let d = (positions_of all all planned x i).0 j in of_kind PositionDeletes x (have x d.0) d.1.0),
        λ x j. (let d = (equalities_of all all planned x i).0 j in of_kind EqualityDeletes x (have x d.0) d.1.0),
      )

  of_outcome : (own : List ℕ) (scan : Scanned) (c : Content) (plan : List OwnedLine) → outcome scan c ≡ Ok plan
      → ((x : Entry) → Contains (kept_in c) x → HasFile gives metadata (kind_of x.file.content) x.file.path)
      → NamesOnly (Reaches gives metadata own) plan
  of_outcome own scan c plan h have =
      let all = by_path (kept_in c) in
      let is = made_is (faults_of scan.wanted c) (plan_over all all) plan h in
      subst (λ (p : List OwnedLine). NamesOnly (Reaches gives metadata own) p) is
      (of_plan own all (λ x i. have x (sorted_contains path_before (kept_in c) x i)))

pub reached : (gives : Giving) (own bytes : List ℕ) (metadata : Described) (request : Request) (plan : List OwnedLine)
    → metadata_of bytes ≡ Ok metadata → IsPlanOfGiven gives bytes request plan
    → NamesOnly (Reaches gives metadata own) plan
reached gives own bytes metadata request plan says h =
    let p = h.planned in
    let (snapshot, among, its) = selected_listed bytes metadata request h.selection says h.asked in
    of_outcome gives metadata own p.scan p.content plan p.is (λ x i. of_live gives metadata p.scan.specs p.scan.wanted
    (λ row j. (
      snapshot,
      among,
      h.selection.list,
      its,
      h.rows,
      h.listed,
      wanted_row h.rows h.selection.specs h.selection.filter.parts p.scan row p.scan_is j,
    ))
    x (of_slots gives p.scan p.scan.wanted p.content x p.of_scan p.given i))

pub told : (gives : Giving) (world : World) (path : List ℕ) (request : Request) (lines : List (List ℕ))
    (plan : List OwnedLine) → AreOf gives world → AreLinesGivenAt gives path lines
    → IsPlanOfGivenAt gives path request plan → NamesOnly (HasLine lines) plan
told gives world path request lines plan truth h p planned i =
    let same : Some p.metadata ≡ Some h.bytes = sym (truth path _ p.read) ∙ truth path _ h.given in
    let one : p.metadata ≡ h.bytes = cc in
    let of_bytes = subst (λ (b : List ℕ). IsPlanOfGiven gives b request plan) one p.planned in
    let has : (kind : FileKind) (file : List ℕ) → Reaches gives h.metadata path kind file → HasLine lines kind file =
    λ kind file its. tells_all gives world path h.metadata lines kind file truth h.are its in
    let r = reached gives path h.bytes h.metadata request plan h.says of_bytes planned i in (
      has kind.Data planned.file.file.path r.0,
      λ x j. has kind.Delete x.file.path (r.1 x j),
      λ x j. has kind.Delete x.file.path (r.2 x j),
    )
