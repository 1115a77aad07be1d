-- The findings on delete files of an audit, and the live files of the snapshot.
use Rattle.std.proofs.Common.{◌≡◌, inl, inr, ℕ, Bool, true, false, List, [], ◌∷◌, ◌++◌, refl, sym, ap, subst, ◌∙◌}
use Rattle.std.proofs.Common.{◌↔◌, Option, Some, None}
use Rattle.std.specs.Prelude.{Ok, if◌then◌else◌}
use Rattle.std.specs.List.{Contains, filter_map}
use Rattle.std.specs.Option.{option_and_then}
use Rattle.std.proofs.lemmas.List.Elements.{Contains-append_cases, Contains-append_left, Contains-append_right}
use Rattle.icescan_audit_findings.specs.Bases.{among, has_content_of_deletes, have_deletes}
use Rattle.icescan_audit_findings.specs.Dangling.{dangling_flaw, data_by, data_files, data_key, data_of, delete_by}
use Rattle.icescan_audit_findings.specs.Dangling.{delete_files}
use Rattle.icescan_audit_findings.specs.Dangling.{delete_findings, delete_key, delete_of}
use Rattle.icescan_audit_findings.specs.Keys.{file_key, key_of}
use Rattle.icescan_audit_findings.specs.Repeats.{live_file, repeats}
use Rattle.icescan_audit_findings.specs.Telling.{Dangles, NamesNone}
use Rattle.icescan_audit_findings.specs.declared.basis.Basis.{Basis}
use Rattle.icescan_audit_findings.specs.declared.file_key.FileKey.{FileKey}
use Rattle.icescan_audit_findings.specs.declared.finding.Finding.{Finding}
use Rattle.icescan_audit_findings.specs.declared.finding.Flaw.{Flaw}
use Rattle.icescan_audit_findings.specs.declared.finding.Flaw.TheVariants.{NamedNotLive}
use Rattle.icescan_audit_findings.specs.declared.repeats.LiveFile.{LiveFile}
use Rattle.icescan_audit_findings.specs.declared.totals.SaidTotal.{SaidTotal}
use Rattle.icescan_audit_findings.proofs.Dangled.{dangles, is_named, is_told, kept_from, names}
use Rattle.icescan_audit_findings.proofs.Hitting.{passes}
use Rattle.icescan_audit_findings.proofs.Members.{at_head, first_or_behind, from_map, in_map, in_none}
use Rattle.ice_manifest_reading.specs.Laws.{FitsItsRow, IsOfDeletesWhereReferenced, MayHold}
use Rattle.ice_manifest_reading.specs.declared.entry.Entry.{Entry}
use Rattle.ice_manifest_reading.specs.declared.entry.Live.{Live}
use Rattle.ice_manifest_reading.specs.declared.row.ManifestContent.{ManifestContent}
use Rattle.ice_manifest_reading.specs.declared.row.ManifestContent.TheVariants as row_of_content
use Rattle.ice_manifest_reading.specs.declared.row.Row.{Row}
use Rattle.ice_state.proofs.Elements.{contains_more}
use Rattle.ice_state.specs.Applying.{data_key_of, delete_key_of}
use Rattle.ice_state.specs.Contents.{World}
use Rattle.ice_state.specs.Snapshots.{live}
use Rattle.ice_value.specs.Applying.{Applies as KeyApplies, DataKey}
use Rattle.ice_value.specs.declared.file_content.FileContent.{FileContent}
use Rattle.ice_value.specs.declared.file_content.FileContent.TheVariants.{Data, PositionDeletes, EqualityDeletes}
use Rattle.ice_meta.specs.declared.metadata.Target.{Target}
use Rattle.icescan_text.specs.Reads.{rows_at}
use Rattle.icescan_audit.specs.Audits.{audit_of, nothing, row_audit, rows_audit, whole}
use Rattle.icescan_audit.specs.Subjects.{subject_of}
use Rattle.icescan_audit.specs.declared.audit.Audit.{Audit}
use Rattle.icescan_audit.specs.declared.subject.Subject.{Subject}
use Rattle.icescan_audit.specs.Strays.{DanglesUnder, NamesNoneUnder}
use Rattle.icescan_audit.specs.declared.audit.Reading.{Reading}
use Rattle.icescan_audit.proofs.Others.{AreOthers, both_others, bytes_other, is_on_deletes, repeats_other}
use Rattle.icescan_audit.proofs.Premise.{live_are, one_value, parts_of, row_of, rows_parts}

-- ---- what is kept of a list

kept_more : {X Y : Type 0} (h : X → Option Y) (z : X) (zs : List X) (y : Y) (o : Option Y) → h z ≡ o
    → Contains (filter_map h zs) y → Contains (filter_map h (z ∷ zs)) y
kept_more h z zs y None is m = rw is m
kept_more h z zs y (Some w) is m = rw is (contains_more w y (filter_map h zs) m)

kept_here : {X Y : Type 0} (h : X → Option Y) (z : X) (zs : List X) (y : Y) → h z ≡ Some y
    → Contains (filter_map h (z ∷ zs)) y
kept_here h z zs y is = rw is (at_head y (filter_map h zs))

kept_in : {X Y : Type 0} (h : X → Option Y) (xs : List X) (x : X) (y : Y) → Contains xs x → h x ≡ Some y
    → Contains (filter_map h xs) y
kept_in h [] x y c e = absurd (in_none x c)
kept_in h (z ∷ zs) x y c e = elim (first_or_behind z x zs c) as (λ _. Contains (filter_map h (z ∷ zs)) y) [
  | inl same ↦ kept_here h z zs y (ap h same ∙ e)
  | inr m ↦ kept_more h z zs y (h z) refl (kept_in h zs x y m e)
]

-- ---- the keys of live files

key_by : (b : Bool) (k key : FileKey) → (if b then Some k else None) ≡ Some key → (b ≡ true) × (k ≡ key)
key_by true k key h = (refl, cc)
key_by false k key h = absurd cc

record IsDataOf (x : LiveFile) (y : DataKey) : Type 0 where
  pub key : FileKey
  pub has_key : x.key ≡ Some key
  pub data_is : key.content ≡ Data
  pub is : data_key x.path key ≡ y

data_parts_by : (x : LiveFile) (key : FileKey) (y : DataKey) → x.key ≡ Some key → (content : FileContent)
    → key.content ≡ content → data_by content x key ≡ Some y → IsDataOf x y
data_parts_by x key y has Data is h = record { key = key; has_key = has; data_is = is; is = cc }
data_parts_by x key y has PositionDeletes is h = absurd cc
data_parts_by x key y has EqualityDeletes is h = absurd cc

data_parts : (x : LiveFile) (o : Option FileKey) (y : DataKey) → x.key ≡ o → data_of x ≡ Some y → IsDataOf x y
data_parts x None y is h =
    let none : None ≡ Some y = sym (ap (option_and_then (λ k. data_by k.content x k)) is) ∙ h in
    absurd cc
data_parts x (Some key) y is h = data_parts_by x key y is key.content refl
    (sym (ap (option_and_then (λ k. data_by k.content x k)) is) ∙ h)

data_some : (x : LiveFile) (key : FileKey) → x.key ≡ Some key → key.content ≡ Data
    → data_of x ≡ Some (data_key x.path key)
data_some x key has is =
    ap (option_and_then (λ k. data_by k.content x k)) has ∙ ap (λ content. data_by content x key) is

record IsDeleteOf (x : LiveFile) (d : LiveFile × FileKey) : Type 0 where
  pub has_key : x.key ≡ Some d.1
  pub is : x ≡ d.0

delete_parts_by : (x : LiveFile) (key : FileKey) (d : LiveFile × FileKey) → x.key ≡ Some key → (content : FileContent)
    → delete_by content x key ≡ Some d → IsDeleteOf x d
delete_parts_by x key d has Data h = absurd cc
delete_parts_by x key d has PositionDeletes h =
    let same : (x, key) ≡ d = cc in
    record {
      has_key = has ∙ ap (λ (e : LiveFile × FileKey). Some e.1) same;
      is = ap (λ (e : LiveFile × FileKey). e.0) same;
    }
delete_parts_by x key d has EqualityDeletes h =
    let same : (x, key) ≡ d = cc in
    record {
      has_key = has ∙ ap (λ (e : LiveFile × FileKey). Some e.1) same;
      is = ap (λ (e : LiveFile × FileKey). e.0) same;
    }

delete_parts : (x : LiveFile) (o : Option FileKey) (d : LiveFile × FileKey) → x.key ≡ o → delete_of x ≡ Some d
    → IsDeleteOf x d
delete_parts x None d is h =
    let none : None ≡ Some d = sym (ap (option_and_then (λ k. delete_by k.content x k)) is) ∙ h in
    absurd cc
delete_parts x (Some key) d is h = delete_parts_by x key d is key.content
    (sym (ap (option_and_then (λ k. delete_by k.content x k)) is) ∙ h)

delete_some_by : (content : FileContent) (x : LiveFile) (key : FileKey) → (content ≡ Data → ⊥)
    → delete_by content x key ≡ Some (x, key)
delete_some_by Data x key h = absurd (h refl)
delete_some_by PositionDeletes x key h = refl
delete_some_by EqualityDeletes x key h = refl

delete_some : (x : LiveFile) (key : FileKey) → x.key ≡ Some key → (key.content ≡ Data → ⊥)
    → delete_of x ≡ Some (x, key)
delete_some x key has h =
    ap (option_and_then (λ k. delete_by k.content x k)) has ∙ delete_some_by key.content x key h

-- ---- the live files of all rows

module _ (world : World) (basis : Basis) where
  pub record IsOfRow (rows : List Row) (x : LiveFile) : Type 0 where
    pub row : Row
    pub file : Live
    pub is_row : Contains rows row
    pub is_live : Contains (live world basis.specs row) file
    pub is : live_file basis row file.entry ≡ x

  each_row : (rows : List Row) (read : Reading) → rows_audit world basis rows ≡ Ok read → (row : Row)
      → Contains rows row → (a : Reading) × (row_audit world basis row ≡ Ok a)
  each_row [] read h row c = absurd (in_none row c)
  each_row (r ∷ rows) read h row c =
      let p = rows_parts world basis r rows read h in
      elim (first_or_behind r row rows c) as (λ _. (a : Reading) × (row_audit world basis row ≡ Ok a)) [
        | inl same ↦ (p.0, subst (λ x. row_audit world basis x ≡ Ok p.0) same p.2)
        | inr m ↦ each_row rows p.1 p.3 row m
      ]

  others : (rows : List Row) (read : Reading) → rows_audit world basis rows ≡ Ok read → AreOthers read.findings
  unfolding rows_audit
  others [] read h =
      let here : nothing ≡ read = cc in
      λ f c. absurd (in_none f (subst (λ (r : Reading). Contains r.findings f) (sym here) c))
  others (row ∷ rows) read h =
      let p = rows_parts world basis row rows read h in
      let r = row_of world basis row p.0 p.2 in
      let first : AreOthers p.0.findings = subst AreOthers (sym r.findings_are)
      (bytes_other basis row r.spec r.bytes r.lives) in
      subst AreOthers (sym p.4) (both_others p.0.findings p.1.findings first (others rows p.1 p.3))

  from_rows : (rows : List Row) (read : Reading) → rows_audit world basis rows ≡ Ok read → (x : LiveFile)
      → Contains read.live x → IsOfRow rows x
  unfolding rows_audit
  from_rows [] read h x c =
      let here : nothing ≡ read = cc in
      absurd (in_none x (subst (λ (r : Reading). Contains r.live x) (sym here) c))
  from_rows (row ∷ rows) read h x c =
      let p = rows_parts world basis row rows read h in
      let r = row_of world basis row p.0 p.2 in
      elim (Contains-append_cases p.0.live p.1.live x (subst (λ (ls : List LiveFile). Contains ls x) p.5 c)) as
      (λ _. IsOfRow (row ∷ rows) x) [
        | inl m ↦
            (let one = from_map (λ (l : Live). live_file basis row l.entry) r.lives x
            (subst (λ (ls : List LiveFile). Contains ls x) r.live_is m) in
            record {
              row = row;
              file = one.0;
              is_row = at_head row rows;
              is_live = subst (λ (ls : List Live). Contains ls one.0) (sym (live_are world basis row p.0 r)) one.1;
              is = one.2;
            })
        | inr m ↦
            (let one = from_rows rows p.1 p.3 x m in
            record {
              row = one.row;
              file = one.file;
              is_row = contains_more row one.row rows one.is_row;
              is_live = one.is_live;
              is = one.is;
            })
      ]

  of_rows : (rows : List Row) (read : Reading) → rows_audit world basis rows ≡ Ok read → (row : Row) (l : Live)
      → Contains rows row → Contains (live world basis.specs row) l → Contains read.live (live_file basis row l.entry)
  of_rows [] read h row l c m = absurd (in_none row c)
  of_rows (first ∷ rows) read h row l c m =
      let p = rows_parts world basis first rows read h in
      let f = live_file basis row l.entry in
      subst (λ (ls : List LiveFile). Contains ls f) (sym p.5)
      (elim (first_or_behind first row rows c) as (λ _. Contains (p.0.live ++ p.1.live) f) [
        | inl same ↦
            (let a = subst (λ x. row_audit world basis x ≡ Ok p.0) same p.2 in
            let r = row_of world basis row p.0 a in
            Contains-append_left p.0.live p.1.live f
            (subst (λ (ls : List LiveFile). Contains ls f) (sym r.live_is)
            (in_map (λ (x : Live). live_file basis row x.entry) r.lives l
            (subst (λ (ls : List Live). Contains ls l) (live_are world basis row p.0 r) m))))
        | inr later ↦ Contains-append_right p.0.live p.1.live f (of_rows rows p.1 p.3 row l later m)
      ])

-- ---- delete files of a snapshot

of_deletes : (content : ManifestContent) (c : FileContent) → MayHold content c → (c ≡ Data → ⊥)
    → has_content_of_deletes content ≡ true
of_deletes row_of_content.Data c h real = absurd (real h)
of_deletes row_of_content.Deletes c h real = refl

abbrev pub at : List ℕ → List ℕ → Flaw → Finding
at manifest path flaw = record { manifest = manifest; file = Some path; flaw = flaw }

module _ (fits : FitsItsRow) (refs : IsOfDeletesWhereReferenced) (world : World) (basis : Basis) (rows : List Row)
    (read : Reading)
    (said : List SaidTotal) (audited : rows_audit world (among rows basis) rows ≡ Ok read) where
  abbrev held : Basis
  held = among rows basis

  -- of one that is not data the key is kept
  keys_kept : (row : Row) (l : Live) → Contains rows row → Contains (live world basis.specs row) l
      → (l.entry.file.content ≡ Data → ⊥) → have_deletes rows ≡ true
  keys_kept row l c m real =
      let a = each_row world held rows read audited row c in
      let r = row_of world held row a.0 a.1 in
      let in_lives = subst (λ (ls : List Live). Contains ls l) (live_are world held row a.0 r) m in
      passes (λ (x : Row). has_content_of_deletes x.content) rows row c
      (of_deletes row.content l.entry.file.content (fits row r.spec r.bytes r.lives l r.lives_are in_lives) real)

  has_key : have_deletes rows ≡ true → (x : Entry) → key_of held x ≡ Some (file_key x)
  has_key has x = rw has refl

  -- each live data file is looked at
  data_there : have_deletes rows ≡ true → (row : Row) (l : Live) → Contains rows row
      → Contains (live world basis.specs row) l → l.entry.file.content ≡ Data
      → Contains (data_files read.live) (data_key_of l.entry)
  data_there has row l c m is =
      let f = live_file held row l.entry in
      kept_in data_of read.live f (data_key_of l.entry) (of_rows world held rows read audited row l c m)
      (data_some f (file_key l.entry) (has_key has l.entry) is)

  pub record IsDataUnder (y : DataKey) : Type 0 where
    pub row : Row
    pub file : Live
    pub is_row : Contains rows row
    pub is_live : Contains (live world basis.specs row) file
    pub data_is : file.entry.file.content ≡ Data
    pub is : data_key_of file.entry ≡ y

  data_from : (y : DataKey) → Contains (data_files read.live) y → IsDataUnder y
  data_from y c =
      let k = kept_from data_of read.live y c in
      let of = from_rows world held rows read audited k.0 k.1 in
      let d = data_parts k.0 k.0.key y refl k.2 in
      let kept = key_by (have_deletes rows) (file_key of.file.entry) d.key
      (ap (λ (x : LiveFile). x.key) of.is ∙ d.has_key) in
      record {
        row = of.row;
        file = of.file;
        is_row = of.is_row;
        is_live = of.is_live;
        data_is = ap (λ (key : FileKey). key.content) kept.1 ∙ d.data_is;
        is = ap (data_key of.file.entry.file.path) kept.1
            ∙ ap (λ (x : LiveFile). data_key x.path d.key) of.is ∙ d.is;
      }

  -- a live delete file and its key
  pub record IsDeleteUnder (d : LiveFile × FileKey) : Type 0 where
    pub row : Row
    pub file : Live
    pub is_row : Contains rows row
    pub is_live : Contains (live world basis.specs row) file
    pub kept : have_deletes rows ≡ true
    pub key_is : file_key file.entry ≡ d.1
    pub manifest_is : row.path ≡ d.0.manifest
    pub path_is : file.entry.file.path ≡ d.0.path

  delete_from : (d : LiveFile × FileKey) → Contains (delete_files read.live) d → IsDeleteUnder d
  delete_from d c =
      let k = kept_from delete_of read.live d c in
      let of = from_rows world held rows read audited k.0 k.1 in
      let p = delete_parts k.0 k.0.key d refl k.2 in
      let kept = key_by (have_deletes rows) (file_key of.file.entry) d.1
      (ap (λ (x : LiveFile). x.key) of.is ∙ p.has_key) in
      record {
        row = of.row;
        file = of.file;
        is_row = of.is_row;
        is_live = of.is_live;
        kept = kept.0;
        key_is = kept.1;
        manifest_is = ap (λ (x : LiveFile). x.manifest) (of.is ∙ p.is);
        path_is = ap (λ (x : LiveFile). x.path) (of.is ∙ p.is);
      }

  delete_there : (row : Row) (l : Live) → Contains rows row → Contains (live world basis.specs row) l
      → (l.entry.file.content ≡ Data → ⊥)
      → Contains (delete_files read.live) (live_file held row l.entry, file_key l.entry)
  delete_there row l c m real =
      let f = live_file held row l.entry in
      kept_in delete_of read.live f (f, file_key l.entry) (of_rows world held rows read audited row l c m)
      (delete_some f (file_key l.entry) (has_key (keys_kept row l c m real) l.entry) real)

  -- the findings on delete files are among those of the whole
  from_whole : (manifest path : List ℕ) (flaw : Flaw) → is_on_deletes flaw ≡ true
      → Contains (whole said read).findings (at manifest path flaw)
      → Contains (delete_findings read.live) (at manifest path flaw)
  from_whole manifest path flaw is c =
      let y = at manifest path flaw in
      elim (Contains-append_cases (read.findings ++ delete_findings read.live) (repeats read.live) y c) as
      (λ _. Contains (delete_findings read.live) y) [
        | inl m ↦
            elim (Contains-append_cases read.findings (delete_findings read.live) y m) as
            (λ _. Contains (delete_findings read.live) y) [
              | inl early ↦
                  (let bad : true ≡ false = sym is ∙ others world held rows read audited y early in
                  absurd cc)
              | inr here ↦ here
            ]
        | inr late ↦
            (let bad : true ≡ false = sym is ∙ repeats_other read.live y late in
            absurd cc)
      ]

  to_whole : (y : Finding) → Contains (delete_findings read.live) y → Contains (whole said read).findings y
  to_whole y c = Contains-append_left (read.findings ++ delete_findings read.live) (repeats read.live) y
      (Contains-append_right read.findings (delete_findings read.live) y c)

  module _ (manifest path : List ℕ) where
    dangles_under : (content : FileContent) → Dangles content read.live manifest path
        → DanglesUnder content world basis.specs rows manifest path
    dangles_under content h =
        let d = delete_from h.delete h.is_live in
        record {
          row = d.row;
          file = d.file;
          is_row = d.is_row;
          is_live = d.is_live;
          manifest_is = d.manifest_is ∙ h.manifest_is;
          path_is = d.path_is ∙ h.path_is;
          content_is = ap (λ (key : FileKey). key.content) d.key_is ∙ h.content_is;
          reaches_none = λ other x c m is a.
              h.reaches_none (data_key_of x.entry) (data_there d.kept other x c m is)
              (subst (λ (key : FileKey). KeyApplies (data_key_of x.entry) (delete_key key)) d.key_is a);
        }

    dangles_back : (content : FileContent) → (content ≡ Data → ⊥)
        → DanglesUnder content world basis.specs rows manifest path → Dangles content read.live manifest path
    dangles_back content real h = record {
      delete = (live_file held h.row h.file.entry, file_key h.file.entry);
      is_live = delete_there h.row h.file h.is_row h.is_live (λ is. real (sym h.content_is ∙ is));
      manifest_is = h.manifest_is;
      path_is = h.path_is;
      content_is = h.content_is;
      reaches_none = λ y c a.
          let x = data_from y c in
          h.reaches_none x.row x.file x.is_row x.is_live x.data_is
          (subst (λ (z : DataKey). KeyApplies z (delete_key_of h.file.entry)) (sym x.is) a);
    }

    -- the law, for one kind of deletes
    pub dangling_told : (content : FileContent) → (content ≡ Data → ⊥) → (NamedNotLive ≡ dangling_flaw content → ⊥)
        → is_on_deletes (dangling_flaw content) ≡ true
        → Contains (whole said read).findings (at manifest path (dangling_flaw content))
        ↔ DanglesUnder content world basis.specs rows manifest path
    dangling_told content real apart on = (
      λ c. dangles_under content (dangles content read.live manifest path real apart
          (from_whole manifest path (dangling_flaw content) on c)),
      λ h. to_whole (at manifest path (dangling_flaw content))
          (is_told content read.live manifest path real apart (dangles_back content real h)),
    )

    names_under : NamesNone read.live manifest path → NamesNoneUnder world basis.specs rows manifest path
    names_under h =
        let d = delete_from h.delete h.is_live in
        record {
          row = d.row;
          file = d.file;
          name = h.name;
          is_row = d.is_row;
          is_live = d.is_live;
          manifest_is = d.manifest_is ∙ h.manifest_is;
          path_is = d.path_is ∙ h.path_is;
          named = ap (λ (key : FileKey). key.referenced) d.key_is ∙ h.named;
          none_has_it = λ other x c m is same.
              h.none_has_it (data_key_of x.entry) (data_there d.kept other x c m is) same;
        }

    -- only position deletes name a file
    no_data : (row : Row) (l : Live) (name : List ℕ) → Contains rows row → Contains (live world basis.specs row) l
        → l.entry.file.referenced ≡ Some name → l.entry.file.content ≡ Data → ⊥
    no_data row l name c m named is =
        let a = each_row world held rows read audited row c in
        let r = row_of world held row a.0 a.1 in
        let in_lives = subst (λ (ls : List Live). Contains ls l) (live_are world held row a.0 r) m in
        let positions = refs row r.spec r.bytes r.lives l name r.lives_are in_lives named in
        let bad : PositionDeletes ≡ Data = sym positions ∙ is in
        cc

    names_back : NamesNoneUnder world basis.specs rows manifest path → NamesNone read.live manifest path
    names_back h = record {
      delete = (live_file held h.row h.file.entry, file_key h.file.entry);
      name = h.name;
      is_live = delete_there h.row h.file h.is_row h.is_live (no_data h.row h.file h.name h.is_row h.is_live h.named);
      manifest_is = h.manifest_is;
      path_is = h.path_is;
      named = h.named;
      none_has_it = λ y c same.
          let x = data_from y c in
          h.none_has_it x.row x.file x.is_row x.is_live x.data_is (ap (λ (z : DataKey). z.path) x.is ∙ same);
    }

    pub named_told : Contains (whole said read).findings (at manifest path NamedNotLive)
        ↔ NamesNoneUnder world basis.specs rows manifest path
    named_told = (
      λ c. names_under (names read.live manifest path (from_whole manifest path NamedNotLive refl c)),
      λ h. to_whole (at manifest path NamedNotLive) (is_named read.live manifest path (names_back h)),
    )

-- the audit of a snapshot reads its rows
pub snapshot_read : (world : World) (metadata : List ℕ) (target : Target) (audit : Audit) (subject : Subject)
    (rows : List Row) → audit_of world metadata target ≡ Ok audit → subject_of metadata target ≡ Ok subject
    → rows_at world subject.list ≡ Ok rows
    → (read : Reading) × (rows_audit world (among rows subject.basis) rows ≡ Ok read)
    × (whole subject.said read ≡ audit)
snapshot_read world metadata target audit subject rows is asked listed =
    let p = parts_of world metadata target audit is in
    let same : p.subject ≡ subject = one_value (subject_of metadata target) p.subject subject p.subject_is asked in
    let alike : p.rows ≡ rows = one_value (rows_at world subject.list) p.rows rows
    (ap (λ (s : Subject). rows_at world s.list) (sym same) ∙ p.rows_are) listed in (
      p.read,
      subst (λ (s : Subject). rows_audit world (among rows s.basis) rows ≡ Ok p.read) same
          (subst (λ (rs : List Row). rows_audit world (among rs p.subject.basis) rs ≡ Ok p.read) alike p.read_is),
      subst (λ (s : Subject). whole s.said p.read ≡ audit) same p.audit_is,
    )
