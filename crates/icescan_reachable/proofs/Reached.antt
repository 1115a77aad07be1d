-- The lines are those of the files that a table reaches, and no others.
use Rattle.std.proofs.Common.{◌≡◌, ◌⊎◌, ℕ, List, [], ◌∷◌, ◌++◌, Some, ap, inl, inr, refl, subst, sym, ◌∙◌}
use Rattle.std.specs.Prelude.{Ok, codes, option_and_then}
use Rattle.std.specs.List.{Contains}
use Rattle.std.specs.Str.{bytes_eq}
use Rattle.std.proofs.lemmas.Cmp.{nat_list_eq_equiv}
use Rattle.std.proofs.lemmas.List.Elements.{Contains-append_cases, Contains-append_left, Contains-append_right}
use Rattle.std.proofs.lemmas.List.Elements.{Contains-push, Contains-push_cases}
use Rattle.std.proofs.lemmas.List.Kept.{Contains-dedup, Contains-from_dedup}
use Rattle.std.proofs.lemmas.Option.{option_and_then_some, same_Some}
use Rattle.std.proofs.lemmas.Slice.Eq.{bytes_eq-Decides}
use Rattle.serde_json.specs.Data.{Data}
use Rattle.contract_words.specs.Sorting.{sorted}
use Rattle.ice_desk.specs.Given.{AreOf, Giving}
use Rattle.ice_manifest_reading.proofs.Sets.{cases_of, from_order, here, in_sorted, later, nowhere, to_order, to_sorted}
use Rattle.ice_manifest_reading.specs.Lists.{in_order}
use Rattle.ice_manifest_reading.specs.Manifests.{live_of}
use Rattle.ice_manifest_reading.specs.declared.entry.Live.{Live}
use Rattle.ice_manifest_reading.specs.declared.row.Row.{Row}
use Rattle.ice_meta.specs.Targets.{Described}
use Rattle.ice_meta.specs.declared.snapshot.Snapshot.{Snapshot}
use Rattle.ice_state.specs.Contents.{World}
use Rattle.ice_value.specs.declared.file_content.FileContent.{FileContent}
use Rattle.ice_value.specs.declared.file_content.FileContent.TheVariants as holds
use Rattle.icescan_reachable.specs.Given.{AreLinesGiven, AreLiveGiven, AreManifestsBehind, AreRowsBehind, bare_spec}
use Rattle.icescan_reachable.specs.Given.{lists_behind, live_lines}
use Rattle.icescan_reachable.specs.Lines.{entry_line, kind_of, line, line_before, once_in_order}
use Rattle.icescan_reachable.specs.Named.{logged_in, named_behind, own_lines}
use Rattle.icescan_reachable.specs.Reaches.{HasFile, HasLive, Reaches, TellsAllReached, TellsOnlyReached}
use Rattle.icescan_reachable.specs.declared.kind.FileKind.{FileKind}
use Rattle.icescan_reachable.specs.declared.kind.FileKind.TheVariants as kind
use Rattle.icescan_reachable.proofs.NamedFiles.{named_all, named_keep, named_only}
use Rattle.icescan_text.specs.Reads.{AreRowsGiven, rows_in}

-- ---- lines in their order

pub from_once : (lines : List (List ℕ)) (text : List ℕ) → Contains (once_in_order lines) text → Contains lines text
from_once lines text h =
    in_sorted line_before lines text (Contains-from_dedup bytes_eq (sorted line_before lines) text h)

pub to_once : (lines : List (List ℕ)) (text : List ℕ) → Contains lines text → Contains (once_in_order lines) text
to_once lines text h = Contains-dedup nat_list_eq_equiv (λ x y e. (bytes_eq-Decides x y).0 e) (sorted line_before lines)
    text (to_sorted line_before lines text h)

-- ---- manifest lists

abbrev OfLists : List Snapshot → List (List ℕ) → List ℕ → Type 0
OfLists snapshots lines text = Contains lines text ⊎ ((list : List ℕ)
    × ((snapshot : Snapshot) × Contains snapshots snapshot × (snapshot.manifest_list ≡ Some list))
    × (text ≡ line kind.List list))

of_list : (snapshot : Snapshot) (snapshots : List Snapshot) (lines : List (List ℕ)) (text list : List ℕ)
    → snapshot.manifest_list ≡ Some list → OfLists snapshots (lines ++ line kind.List list ∷ []) text
    → OfLists (snapshot ∷ snapshots) lines text
of_list snapshot snapshots lines text list at (inl h) =
    elim (Contains-push_cases lines (line kind.List list) text h) as (λ _. OfLists (snapshot ∷ snapshots) lines text)
    [ inl i ↦ inl i | inr e ↦ inr (list, (snapshot, here snapshot snapshots snapshot refl, at), sym e) ]
of_list snapshot snapshots lines text list at (inr (other, (s, i, is), e)) =
    inr (other, (s, later snapshot snapshots s i, is), e)

pub lists_only : (snapshots : List Snapshot) (lines out : List (List ℕ)) (text : List ℕ)
    → lists_behind snapshots lines ≡ Some out → Contains out text → OfLists snapshots lines text
lists_only [] lines out text is h =
    inl (subst (λ (x : List (List ℕ)). Contains x text) (sym (same_Some lines out is)) h)
lists_only (snapshot ∷ snapshots) lines out text is h =
    option_and_then_some (λ list. lists_behind snapshots (lines ++ line kind.List list ∷ [])) snapshot.manifest_list
    out is (λ list at rest. of_list snapshot snapshots lines text list at
    (lists_only snapshots (lines ++ line kind.List list ∷ []) out text rest h))

pub lists_keep : (snapshots : List Snapshot) (lines out : List (List ℕ)) (text : List ℕ)
    → lists_behind snapshots lines ≡ Some out → Contains lines text → Contains out text
lists_keep [] lines out text is h = subst (λ (x : List (List ℕ)). Contains x text) (same_Some lines out is) h
lists_keep (snapshot ∷ snapshots) lines out text is h =
    option_and_then_some (λ list. lists_behind snapshots (lines ++ line kind.List list ∷ [])) snapshot.manifest_list
    out is (λ list at rest. lists_keep snapshots (lines ++ line kind.List list ∷ []) out text rest
    (Contains-append_left lines (line kind.List list ∷ []) text h))

list_first : (lines : List (List ℕ)) (file list : List ℕ) → file ≡ list
    → Contains (lines ++ line kind.List list ∷ []) (line kind.List file)
list_first lines file list same =
    subst (λ (p : List ℕ). Contains (lines ++ line kind.List p ∷ []) (line kind.List file)) same
    (Contains-push lines (line kind.List file))

pub lists_all : (snapshots : List Snapshot) (lines out : List (List ℕ)) (file : List ℕ) (wanted : Snapshot)
    → lists_behind snapshots lines ≡ Some out → Contains snapshots wanted → wanted.manifest_list ≡ Some file
    → Contains out (line kind.List file)
lists_all [] lines out file wanted is i has = absurd (nowhere wanted i)
lists_all (snapshot ∷ snapshots) lines out file wanted is i has =
    option_and_then_some (λ list. lists_behind snapshots (lines ++ line kind.List list ∷ [])) snapshot.manifest_list
    out is (λ list at rest. elim (cases_of snapshot snapshots wanted i) as (λ _. Contains out (line kind.List file)) [
      | inl e ↦ lists_keep snapshots (lines ++ line kind.List list ∷ []) out (line kind.List file) rest
          (list_first lines file list
          (same_Some file list (sym has ∙ ap (λ (s : Snapshot). s.manifest_list) (sym e) ∙ at)))
      | inr j ↦ lists_all snapshots (lines ++ line kind.List list ∷ []) out file wanted rest j has
    ])

-- ---- rows and live entries

mapped : (found : List Live) (text : List ℕ) → Contains (live_lines found) text
    → (live : Live) × Contains found live × (text ≡ entry_line live.entry)
mapped [] text h = absurd (nowhere text h)
mapped (x ∷ xs) text h =
    elim (cases_of (entry_line x.entry) (live_lines xs) text h)
    as (λ _. (live : Live) × Contains (x ∷ xs) live × (text ≡ entry_line live.entry)) [
      | inl e ↦ (x, here x xs x refl, sym e)
      | inr i ↦ let w = mapped xs text i in (w.0, later x xs w.0 w.1, w.2)
    ]

to_lines : (found : List Live) (live : Live) → Contains found live → Contains (live_lines found) (entry_line live.entry)
to_lines [] live h = absurd (nowhere live h)
to_lines (x ∷ xs) live h =
    elim (cases_of x xs live h) as (λ _. Contains (live_lines (x ∷ xs)) (entry_line live.entry)) [
      | inl e ↦ here (entry_line x.entry) (live_lines xs) (entry_line live.entry)
          (ap (λ (l : Live). entry_line l.entry) e)
      | inr i ↦ later (entry_line x.entry) (live_lines xs) (entry_line live.entry) (to_lines xs live i)
    ]

module _ (gives : Giving) where
  -- a row of the manifest list of one of these
  abbrev Lists : List Snapshot → Row → Type 0
  Lists snapshots row = (snapshot : Snapshot) × Contains snapshots snapshot
      × (list : List ℕ) × (snapshot.manifest_list ≡ Some list)
      × (rows : List Row) × AreRowsGiven gives list rows × Contains rows row

  pub rows_only : (snapshots : List Snapshot) (rows all : List Row) (row : Row) → AreRowsBehind gives rows snapshots all
      → Contains all row → Contains rows row ⊎ Lists snapshots row
  rows_only [] rows all row h i = inl (subst (λ (x : List Row). Contains x row) h i)
  rows_only (snapshot ∷ snapshots) rows all row (list, is, more, given, rest) i =
      elim (rows_only snapshots (in_order (rows ++ more)) all row rest i)
      as (λ _. Contains rows row ⊎ Lists (snapshot ∷ snapshots) row) [
        | inl j ↦ elim (Contains-append_cases rows more row (from_order (rows ++ more) row j))
            as (λ _. Contains rows row ⊎ Lists (snapshot ∷ snapshots) row) [
              | inl k ↦ inl k
              | inr k ↦ inr (snapshot, here snapshot snapshots snapshot refl, list, is, more, given, k)
            ]
        | inr w ↦ inr (w.0, later snapshot snapshots w.0 w.1, w.2, w.3, w.4, w.5, w.6)
      ]

  pub rows_keep : (snapshots : List Snapshot) (rows all : List Row) (row : Row) → AreRowsBehind gives rows snapshots all
      → Contains rows row → Contains all row
  rows_keep [] rows all row h i = subst (λ (x : List Row). Contains x row) (sym h) i
  rows_keep (snapshot ∷ snapshots) rows all row (list, is, more, given, rest) i =
      rows_keep snapshots (in_order (rows ++ more)) all row rest
      (to_order (rows ++ more) row (Contains-append_left rows more row i))

  -- the line of a row's manifest, or of one of its files
  abbrev LiveIn : Row → List ℕ → Type 0
  LiveIn row text = (found : List Live) × AreLiveGiven gives row found × (live : Live) × Contains found live
      × (text ≡ entry_line live.entry)

  abbrev Told : List Row → List ℕ → Type 0
  Told rows text =
      (row : Row) × Contains rows row × ((text ≡ line kind.Manifest row.path) ⊎ LiveIn row text)

  told_here : (row : Row) (rows : List Row) (lines : List (List ℕ)) (text : List ℕ) (found : List Live)
      → AreLiveGiven gives row found
      → Contains ((lines ++ line kind.Manifest row.path ∷ []) ++ live_lines found) text
      → Contains lines text ⊎ Told (row ∷ rows) text
  told_here row rows lines text found given i =
      elim (Contains-append_cases (lines ++ line kind.Manifest row.path ∷ []) (live_lines found) text i)
      as (λ _. Contains lines text ⊎ Told (row ∷ rows) text) [
        | inl j ↦ elim (Contains-push_cases lines (line kind.Manifest row.path) text j)
            as (λ _. Contains lines text ⊎ Told (row ∷ rows) text)
            [ inl k ↦ inl k | inr e ↦ inr (row, here row rows row refl, inl (sym e)) ]
        | inr j ↦ let w = mapped found text j in
            inr (row, here row rows row refl, inr (found, given, w.0, w.1, w.2))
      ]

  pub manifests_only : (rows : List Row) (lines all : List (List ℕ)) (text : List ℕ)
      → AreManifestsBehind gives lines rows all → Contains all text → Contains lines text ⊎ Told rows text
  manifests_only [] lines all text h i = inl (subst (λ (x : List (List ℕ)). Contains x text) h i)
  manifests_only (row ∷ rows) lines all text (found, given, rest) i =
      elim (manifests_only rows ((lines ++ line kind.Manifest row.path ∷ []) ++ live_lines found) all text rest i)
      as (λ _. Contains lines text ⊎ Told (row ∷ rows) text) [
        | inl j ↦ told_here row rows lines text found given j
        | inr w ↦ inr (w.0, later row rows w.0 w.1, w.2)
      ]

  pub manifests_keep : (rows : List Row) (lines all : List (List ℕ)) (text : List ℕ)
      → AreManifestsBehind gives lines rows all → Contains lines text → Contains all text
  manifests_keep [] lines all text h i = subst (λ (x : List (List ℕ)). Contains x text) (sym h) i
  manifests_keep (row ∷ rows) lines all text (found, given, rest) i =
      manifests_keep rows ((lines ++ line kind.Manifest row.path ∷ []) ++ live_lines found) all text rest
      (Contains-append_left (lines ++ line kind.Manifest row.path ∷ []) (live_lines found) text
      (Contains-append_left lines (line kind.Manifest row.path ∷ []) text i))

  module _ (world : World) (truth : AreOf gives world) where
    same_bytes : (path other bytes bytes' : List ℕ) → path ≡ other → gives path (Some bytes)
        → gives other (Some bytes') → bytes ≡ bytes'
    same_bytes path other bytes bytes' same g g' = same_Some bytes bytes'
        (sym (truth path (Some bytes) g) ∙ ap world same ∙ truth other (Some bytes') g')

    same_rows : (list other : List ℕ) (rows rows' : List Row) → list ≡ other → AreRowsGiven gives list rows
        → AreRowsGiven gives other rows' → rows ≡ rows'
    same_rows list other rows rows' same (bytes, g, is) (bytes', g', is') =
        let one : Ok rows ≡ Ok rows' = sym is ∙ ap rows_in (same_bytes list other bytes bytes' same g g') ∙ is' in cc

    same_live : (row : Row) (found found' : List Live) → AreLiveGiven gives row found → AreLiveGiven gives row found'
        → found ≡ found'
    same_live row found found' (bytes, g, is) (bytes', g', is') =
        let one : Ok found ≡ Ok found' = sym is
        ∙ ap (live_of row (bare_spec row)) (same_bytes row.path row.path bytes bytes' refl g g') ∙ is' in cc

    pub rows_all : (snapshots : List Snapshot) (rows all : List Row) (row : Row)
        → AreRowsBehind gives rows snapshots all → Lists snapshots row → Contains all row
    rows_all [] rows all row h w = absurd (nowhere w.0 w.1)
    rows_all (snapshot ∷ snapshots) rows all row (list, is, more, given, rest) w =
        elim (cases_of snapshot snapshots w.0 w.1) as (λ _. Contains all row) [
          | inl e ↦
              let same : list ≡ w.2 =
              same_Some list w.2 (sym is ∙ ap (λ (s : Snapshot). s.manifest_list) e ∙ w.3) in
              let one : more ≡ w.4 = same_rows list w.2 more w.4 same given w.5 in
              rows_keep snapshots (in_order (rows ++ more)) all row rest (to_order (rows ++ more) row
              (Contains-append_right rows more row (subst (λ (x : List Row). Contains x row) (sym one) w.6)))
          | inr i ↦ rows_all snapshots (in_order (rows ++ more)) all row rest (w.0, i, w.2, w.3, w.4, w.5, w.6)
        ]

    pub manifest_all : (rows : List Row) (lines all : List (List ℕ)) (row : Row)
        → AreManifestsBehind gives lines rows all → Contains rows row → Contains all (line kind.Manifest row.path)
    manifest_all [] lines all row h i = absurd (nowhere row i)
    manifest_all (first ∷ rows) lines all row (found, given, rest) i =
        elim (cases_of first rows row i) as (λ _. Contains all (line kind.Manifest row.path)) [
          | inl e ↦ manifests_keep rows ((lines ++ line kind.Manifest first.path ∷ []) ++ live_lines found) all
              (line kind.Manifest row.path) rest
              (Contains-append_left (lines ++ line kind.Manifest first.path ∷ []) (live_lines found)
              (line kind.Manifest row.path) (subst (λ (r : Row).
              Contains (lines ++ line kind.Manifest first.path ∷ []) (line kind.Manifest r.path)) e
              (Contains-push lines (line kind.Manifest first.path))))
          | inr j ↦ manifest_all rows ((lines ++ line kind.Manifest first.path ∷ []) ++ live_lines found) all row rest j
        ]

    pub files_all : (rows : List Row) (lines all : List (List ℕ)) (row : Row) (found : List Live) (live : Live)
        → AreManifestsBehind gives lines rows all → Contains rows row → AreLiveGiven gives row found
        → Contains found live → Contains all (entry_line live.entry)
    files_all [] lines all row found live h i given j = absurd (nowhere row i)
    files_all (first ∷ rows) lines all row found live (here_found, here_given, rest) i given j =
        elim (cases_of first rows row i) as (λ _. Contains all (entry_line live.entry)) [
          | inl e ↦
              let first_given = subst (λ (r : Row). AreLiveGiven gives r here_found) e here_given in
              let one : here_found ≡ found = same_live row here_found found first_given given in
              manifests_keep rows ((lines ++ line kind.Manifest first.path ∷ []) ++ live_lines here_found) all
              (entry_line live.entry) rest
              (Contains-append_right (lines ++ line kind.Manifest first.path ∷ []) (live_lines here_found)
              (entry_line live.entry)
              (to_lines here_found live (subst (λ (x : List Live). Contains x live) (sym one) j)))
          | inr k ↦ files_all rows ((lines ++ line kind.Manifest first.path ∷ []) ++ live_lines here_found) all row
              found live rest k given j
        ]

-- ---- all lines

module _ (gives : Giving) (path : List ℕ) (metadata : Described) where
  -- the line of a file that is reached
  abbrev IsReached : List ℕ → Type 0
  IsReached text =
      (kind : FileKind) × (file : List ℕ) × Reaches gives metadata path kind file × (text ≡ line kind file)

  logged_only : (logged : List (List ℕ)) (text : List ℕ) → logged_in path metadata.json ≡ Some logged
      → Contains logged text → IsReached text
  logged_only logged text is h =
      elim (named_only kind.Metadata (codes "metadata-file") (codes "metadata-log") metadata.json
      (line kind.Metadata path ∷ []) logged text is h) as (λ _. IsReached text) [
        | inl i ↦ elim (cases_of (line kind.Metadata path) [] text i) as (λ _. IsReached text)
            [ inl e ↦ (kind.Metadata, path, inl refl, sym e) | inr n ↦ absurd (nowhere text n) ]
        | inr w ↦ (kind.Metadata, w.0, inr w.1, w.2)
      ]

  own_only : (own : List (List ℕ)) (text : List ℕ) → own_lines path metadata.json ≡ Some own → Contains own text
      → IsReached text
  unfolding own_lines
  own_only own text is h =
      let s = named_behind (codes "statistics") (codes "statistics-path") kind.Statistics metadata.json in
      let p = named_behind (codes "partition-statistics") (codes "statistics-path") kind.Statistics metadata.json in
      option_and_then_some p (option_and_then s (logged_in path metadata.json)) own is
      (λ counted told_counted told_own. option_and_then_some s (logged_in path metadata.json) counted told_counted
      (λ logged told_logged told_s. elim (named_only kind.Statistics (codes "statistics-path")
      (codes "partition-statistics") metadata.json counted own text told_own h) as (λ _. IsReached text) [
        | inl i ↦ elim (named_only kind.Statistics (codes "statistics-path") (codes "statistics") metadata.json logged
            counted text told_s i) as (λ _. IsReached text) [
              | inl j ↦ logged_only logged text told_logged j
              | inr w ↦ (kind.Statistics, w.0, inl w.1, w.2)
            ]
        | inr w ↦ (kind.Statistics, w.0, inr w.1, w.2)
      ]))

  -- a file of a live entry, by what it holds
  pub file_reached : (live : Live) → HasLive gives metadata live → (content : FileContent)
      → live.entry.file.content ≡ content → Reaches gives metadata path (kind_of content) live.entry.file.path
  file_reached live has holds.Data is = (live, has, ap kind_of is, refl)
  file_reached live has holds.PositionDeletes is = (live, has, ap kind_of is, refl)
  file_reached live has holds.EqualityDeletes is = (live, has, ap kind_of is, refl)

  told_only : (rows : List Row) (text : List ℕ) → AreRowsBehind gives [] metadata.table.snapshots rows
      → Told gives rows text → IsReached text
  told_only rows text listed (row, i, said) =
      elim (rows_only gives metadata.table.snapshots [] rows row listed i) as (λ _. IsReached text) [
        | inl n ↦ absurd (nowhere row n)
        | inr has ↦ elim said as (λ _. IsReached text) [
          | inl e ↦ (kind.Manifest, row.path, (row, has, refl), e)
          | inr w ↦ (
            kind_of w.2.entry.file.content,
            w.2.entry.file.path,
            file_reached w.2 (row, has, w.0, w.1, w.3) w.2.entry.file.content refl,
            w.4,
          )
        ]
      ]

  pub only_reached : (lines : List (List ℕ)) (text : List ℕ) → AreLinesGiven gives path metadata lines
      → Contains lines text → IsReached text
  only_reached lines text h i =
      let all = from_once h.all text (subst (λ (x : List (List ℕ)). Contains x text) h.are i) in
      elim (manifests_only gives h.rows h.lists h.all text h.read all) as (λ _. IsReached text) [
        | inl j ↦ elim (lists_only metadata.table.snapshots h.own h.lists text h.of_snapshots j)
            as (λ _. IsReached text) [
              | inl k ↦ own_only h.own text h.of_metadata k
              | inr w ↦ (kind.List, w.0, w.1, w.2)
            ]
        | inr told ↦ told_only h.rows text h.listed told
      ]

  module _ (world : World) (truth : AreOf gives world) (lines : List (List ℕ))
      (h : AreLinesGiven gives path metadata lines) where
    from_all : (text : List ℕ) → Contains h.all text → Contains lines text
    from_all text i = subst (λ (x : List (List ℕ)). Contains x text) (sym h.are) (to_once h.all text i)

    from_lists : (text : List ℕ) → Contains h.lists text → Contains lines text
    from_lists text i = from_all text (manifests_keep gives h.rows h.lists h.all text h.read i)

    from_own : (text : List ℕ) → Contains h.own text → Contains lines text
    from_own text i = from_lists text
        (lists_keep metadata.table.snapshots h.own h.lists text h.of_snapshots i)

    file_all : (kind : FileKind) (file : List ℕ) → HasFile gives metadata kind file → Contains lines (line kind file)
    file_all kind file (live, (row, has, found, given, i), is, at) =
        let read = rows_all gives world truth metadata.table.snapshots [] h.rows row h.listed has in
        let told = files_all gives world truth h.rows h.lists h.all row found live h.read read given i in
        from_all (line kind file) (subst (λ (k : FileKind). Contains h.all (line k file)) is
        (subst (λ (p : List ℕ). Contains h.all (line (kind_of live.entry.file.content) p)) at told))

    metadata_all : (file : List ℕ) → Reaches gives metadata path kind.Metadata file
        → Contains h.own (line kind.Metadata file)
    unfolding own_lines
    metadata_all file reached =
        let text = line kind.Metadata file in
        let s = named_behind (codes "statistics") (codes "statistics-path") kind.Statistics metadata.json in
        let p = named_behind (codes "partition-statistics") (codes "statistics-path") kind.Statistics metadata.json in
        option_and_then_some p (option_and_then s (logged_in path metadata.json)) h.own h.of_metadata
        (λ counted told_counted told_own. option_and_then_some s (logged_in path metadata.json) counted told_counted
        (λ logged told_logged told_s. named_keep kind.Statistics (codes "statistics-path")
        (codes "partition-statistics") metadata.json counted h.own text told_own (named_keep kind.Statistics
        (codes "statistics-path") (codes "statistics") metadata.json logged counted text told_s
        (elim reached as (λ _. Contains logged text) [
          | inl e ↦ named_keep kind.Metadata (codes "metadata-file") (codes "metadata-log") metadata.json
              (line kind.Metadata path ∷ []) logged text told_logged
              (here (line kind.Metadata path) [] text (ap (line kind.Metadata) (sym e)))
          | inr n ↦ named_all kind.Metadata (codes "metadata-file") (codes "metadata-log") metadata.json
              (line kind.Metadata path ∷ []) logged file told_logged n
        ]))))

    statistics_all : (file : List ℕ) → Reaches gives metadata path kind.Statistics file
        → Contains h.own (line kind.Statistics file)
    unfolding own_lines
    statistics_all file reached =
        let text = line kind.Statistics file in
        let s = named_behind (codes "statistics") (codes "statistics-path") kind.Statistics metadata.json in
        let p = named_behind (codes "partition-statistics") (codes "statistics-path") kind.Statistics metadata.json in
        option_and_then_some p (option_and_then s (logged_in path metadata.json)) h.own h.of_metadata
        (λ counted told_counted told_own. option_and_then_some s (logged_in path metadata.json) counted told_counted
        (λ logged told_logged told_s. elim reached as (λ _. Contains h.own text) [
          | inl n ↦ named_keep kind.Statistics (codes "statistics-path") (codes "partition-statistics") metadata.json
              counted h.own text told_own (named_all kind.Statistics (codes "statistics-path") (codes "statistics")
              metadata.json logged counted file told_s n)
          | inr n ↦ named_all kind.Statistics (codes "statistics-path") (codes "partition-statistics") metadata.json
              counted h.own file told_own n
        ]))

    pub all_reached : (kind : FileKind) (file : List ℕ) → Reaches gives metadata path kind file
        → Contains lines (line kind file)
    all_reached kind.Metadata file reached = from_own (line kind.Metadata file) (metadata_all file reached)
    all_reached kind.Statistics file reached = from_own (line kind.Statistics file) (statistics_all file reached)
    all_reached kind.List file (snapshot, i, is) = from_lists (line kind.List file)
        (lists_all metadata.table.snapshots h.own h.lists file snapshot h.of_snapshots i is)
    all_reached kind.Manifest file (row, has, at) =
        let read = rows_all gives world truth metadata.table.snapshots [] h.rows row h.listed has in
        from_all (line kind.Manifest file) (subst (λ (p : List ℕ). Contains h.all (line kind.Manifest p)) at
        (manifest_all gives world truth h.rows h.lists h.all row h.read read))
    all_reached kind.Data file reached = file_all kind.Data file reached
    all_reached kind.Delete file reached = file_all kind.Delete file reached

pub tells_only : (gives : Giving) → TellsOnlyReached gives
tells_only gives path metadata lines text h i = only_reached gives path metadata lines text h i

pub tells_all : (gives : Giving) → TellsAllReached gives
tells_all gives world path metadata lines kind file truth h reached =
    all_reached gives path metadata world truth lines h kind file reached
