-- What the findings on delete files tell, one by one.
use Rattle.std.proofs.Common.{◌≡◌, inl, inr, Bool, true, false, not, ℕ, List, [], ◌∷◌, refl, sym, ap, subst}
use Rattle.std.proofs.Common.{◌∙◌, Option, Some, None}
use Rattle.std.specs.List.{Contains, filter_map, list_any}
use Rattle.std.specs.Option.{option_and_then}
use Rattle.std.specs.Str.{bytes_eq}
use Rattle.ice_state.proofs.Elements.{contains_more}
use Rattle.std.proofs.lemmas.List.Elements.{Contains-append_left, Contains-append_right, Contains-append_cases}
use Rattle.std.proofs.lemmas.Slice.Eq.{bytes_eq-Decides}
use Rattle.ice_value.specs.Applying.{Applies, DataKey, applies}
use Rattle.ice_value.specs.declared.file_content.FileContent.{FileContent}
use Rattle.ice_value.specs.declared.file_content.FileContent.TheVariants.{Data, PositionDeletes, EqualityDeletes}
use Rattle.ice_value.proofs.Deletes.{applies-decides}
use Rattle.icescan_audit_findings.specs.Dangling.{dangling_flaw, data_files, delete_by, delete_files, delete_findings}
use Rattle.icescan_audit_findings.specs.Dangling.{delete_key}
use Rattle.icescan_audit_findings.specs.Dangling.{delete_of, finding_where, findings_beside, is_reaching, names_none}
use Rattle.icescan_audit_findings.specs.Dangling.{paths_in}
use Rattle.icescan_audit_findings.specs.Telling.{Dangles, NamesNone}
use Rattle.icescan_audit_findings.specs.declared.file_key.FileKey.{FileKey}
use Rattle.icescan_audit_findings.specs.declared.finding.Finding.{Finding}
use Rattle.icescan_audit_findings.specs.declared.finding.Flaw.{Flaw}
use Rattle.icescan_audit_findings.specs.declared.finding.Flaw.TheVariants.{NamedNotLive}
use Rattle.icescan_audit_findings.specs.declared.repeats.LiveFile.{LiveFile}
use Rattle.icescan_audit_findings.proofs.Hitting.{passes, passing}
use Rattle.icescan_audit_findings.proofs.Members.{at_head, first_or_behind, from_flat, from_map, in_flat, in_map}
use Rattle.icescan_audit_findings.proofs.Members.{in_none}

abbrev found_on : LiveFile → Flaw → Finding
found_on x flaw = record { manifest = x.manifest; file = Some x.path; flaw = flaw }

abbrev found_at : List ℕ → List ℕ → Flaw → Finding
found_at manifest path flaw = record { manifest = manifest; file = Some path; flaw = flaw }

one_where : (b : Bool) (x : LiveFile) (flaw : Flaw) (f : Finding) → Contains (finding_where b x flaw) f
    → (b ≡ true) × (found_on x flaw ≡ f)
one_where true x flaw f c = elim (first_or_behind (found_on x flaw) f [] c) as
    (λ _. (true ≡ true) × (found_on x flaw ≡ f)) [
      | inl e ↦ (refl, e)
      | inr m ↦ absurd (in_none f m)
    ]
one_where false x flaw f c = absurd (in_none f c)

where_one : (b : Bool) (x : LiveFile) (flaw : Flaw) → b ≡ true → Contains (finding_where b x flaw) (found_on x flaw)
where_one true x flaw h = at_head (found_on x flaw) []
where_one false x flaw h = absurd cc

is_not : (b : Bool) → not b ≡ true → b ≡ false
is_not true h = absurd cc
is_not false h = refl

not_is : (b : Bool) → (b ≡ true → ⊥) → not b ≡ true
not_is true h = absurd (h refl)
not_is false h = refl

-- ---- delete files hold no data

no_data_by : (content : FileContent) (x : LiveFile) (key : FileKey) (d : LiveFile × FileKey) → key.content ≡ content
    → delete_by content x key ≡ Some d → d.1.content ≡ Data → ⊥
no_data_by Data x key d is h data_is = absurd cc
no_data_by PositionDeletes x key d is h data_is =
    let same : (x, key) ≡ d = cc in
    let bad : PositionDeletes ≡ Data = sym is ∙ ap (λ (e : LiveFile × FileKey). e.1.content) same ∙ data_is in
    cc
no_data_by EqualityDeletes x key d is h data_is =
    let same : (x, key) ≡ d = cc in
    let bad : EqualityDeletes ≡ Data = sym is ∙ ap (λ (e : LiveFile × FileKey). e.1.content) same ∙ data_is in
    cc

no_data_in : (x : LiveFile) (key : Option FileKey) (d : LiveFile × FileKey) → x.key ≡ key → delete_of x ≡ Some d
    → d.1.content ≡ Data → ⊥
no_data_in x None d is h data_is =
    let none : None ≡ Some d = sym (ap (option_and_then (λ k. delete_by k.content x k)) is) ∙ h in
    absurd cc
no_data_in x (Some key) d is h data_is = no_data_by key.content x key d refl
    (sym (ap (option_and_then (λ k. delete_by k.content x k)) is) ∙ h) data_is

kept_first : {X Y : Type 0} (h : X → Option Y) (x : X) (xs : List X) (y : Y) (o : Option Y) → h x ≡ o
    → Contains (filter_map h (x ∷ xs)) y
    → (Contains (filter_map h xs) y → (z : X) × Contains xs z × (h z ≡ Some y))
    → (z : X) × Contains (x ∷ xs) z × (h z ≡ Some y)
kept_first h x xs y None e c rest =
    let r = rest (rw e at c) in
    (r.0, contains_more x r.0 xs r.1, r.2)
kept_first {X} h x xs y (Some z) e c rest = elim (first_or_behind z y (filter_map h xs) (rw e at c)) as
    (λ _. (w : X) × Contains (x ∷ xs) w × (h w ≡ Some y)) [
      | inl same ↦ (x, at_head x xs, e ∙ ap Some same)
      | inr m ↦ (let r = rest m in (r.0, contains_more x r.0 xs r.1, r.2))
    ]

-- what is kept is made of an element
pub kept_from : {X Y : Type 0} (h : X → Option Y) (xs : List X) (y : Y) → Contains (filter_map h xs) y
    → (x : X) × Contains xs x × (h x ≡ Some y)
kept_from h [] y c = absurd (in_none y c)
kept_from {X} {Y} h (x ∷ xs) y c = kept_first h x xs y (h x) refl c (kept_from h xs y)

no_data : (files : List LiveFile) (d : LiveFile × FileKey) → Contains (delete_files files) d → d.1.content ≡ Data → ⊥
no_data files d c = let r = kept_from delete_of files d c in no_data_in r.0 r.0.key d refl r.2

content_by : (c content : FileContent) → (c ≡ Data → ⊥) → (content ≡ Data → ⊥)
    → dangling_flaw c ≡ dangling_flaw content → c ≡ content
content_by Data content h k e = absurd (h refl)
content_by PositionDeletes Data h k e = absurd (k refl)
content_by PositionDeletes PositionDeletes h k e = refl
content_by PositionDeletes EqualityDeletes h k e = absurd cc
content_by EqualityDeletes Data h k e = absurd (k refl)
content_by EqualityDeletes PositionDeletes h k e = absurd cc
content_by EqualityDeletes EqualityDeletes h k e = refl

-- ---- what a delete file reaches

reaches_none : (xs : List DataKey) (key : FileKey) → is_reaching xs key ≡ false → (x : DataKey) → Contains xs x
    → Applies x (delete_key key) → ⊥
reaches_none xs key none x c a =
    let some : is_reaching xs key ≡ true = passes (λ y. applies y (delete_key key)) xs x c
    ((applies-decides x (delete_key key)).1 a) in
    let bad : true ≡ false = sym some ∙ none in
    cc

none_reached : (xs : List DataKey) (key : FileKey)
    → ((x : DataKey) → Contains xs x → Applies x (delete_key key) → ⊥) → not (is_reaching xs key) ≡ true
none_reached xs key h = not_is (is_reaching xs key) (λ some.
    let p = passing (λ y. applies y (delete_key key)) xs some in
    h p.0 p.1 ((applies-decides p.0 (delete_key key)).0 p.2))

-- ---- dangling delete files

module _ (content : FileContent) (files : List LiveFile) (manifest path : List ℕ) (deletes : content ≡ Data → ⊥)
    (other : NamedNotLive ≡ dangling_flaw content → ⊥) where
  abbrev beside : LiveFile × FileKey → List Finding
  beside d = findings_beside (data_files files) d

  abbrev named : LiveFile × FileKey → Bool
  named d = names_none (paths_in (data_files files)) d.1.referenced

  abbrev idle : LiveFile × FileKey → Bool
  idle d = not (is_reaching (data_files files) d.1)

  dangles_by : (d : LiveFile × FileKey) → Contains (delete_files files) d → idle d ≡ true
      → found_on d.0 (dangling_flaw d.1.content) ≡ found_at manifest path (dangling_flaw content)
      → Dangles content files manifest path
  dangles_by d live none same =
      let flaws : dangling_flaw d.1.content ≡ dangling_flaw content = ap (λ (f : Finding). f.flaw) same in
      let paths : Some d.0.path ≡ Some path = ap (λ (f : Finding). f.file) same in
      record {
        delete = d;
        is_live = live;
        manifest_is = ap (λ (f : Finding). f.manifest) same;
        path_is = cc;
        content_is = content_by d.1.content content (no_data files d live) deletes flaws;
        reaches_none = reaches_none (data_files files) d.1 (is_not (is_reaching (data_files files) d.1) none);
      }

  pub dangles : Contains (delete_findings files) (found_at manifest path (dangling_flaw content))
      → Dangles content files manifest path
  dangles c =
      let y = found_at manifest path (dangling_flaw content) in
      let r = from_flat beside (delete_files files) y c in
      let d = r.0 in
      elim (Contains-append_cases (finding_where (named d) d.0 NamedNotLive)
      (finding_where (idle d) d.0 (dangling_flaw d.1.content)) y r.2) as (λ _. Dangles content files manifest path) [
        | inl m ↦ absurd (other (ap (λ (f : Finding). f.flaw) (one_where (named d) d.0 NamedNotLive y m).1))
        | inr m ↦
            (let one = one_where (idle d) d.0 (dangling_flaw d.1.content) y m in
            dangles_by d r.1 one.0 one.1)
      ]

  pub is_told : Dangles content files manifest path
      → Contains (delete_findings files) (found_at manifest path (dangling_flaw content))
  is_told h =
      let d = h.delete in
      let same : found_on d.0 (dangling_flaw d.1.content) ≡ found_at manifest path (dangling_flaw content)
      = rw (h.manifest_is, h.path_is, h.content_is) refl in
      in_flat beside (delete_files files) d (found_at manifest path (dangling_flaw content)) h.is_live
      (Contains-append_right (finding_where (named d) d.0 NamedNotLive)
      (finding_where (idle d) d.0 (dangling_flaw d.1.content)) _
      (subst (λ f. Contains (finding_where (idle d) d.0 (dangling_flaw d.1.content)) f) same
      (where_one (idle d) d.0 (dangling_flaw d.1.content) (none_reached (data_files files) d.1 h.reaches_none))))

-- ---- delete files that name no live data file

names_by : (xs : List DataKey) (name : Option (List ℕ)) → names_none (paths_in xs) name ≡ true
    → (p : List ℕ) × (name ≡ Some p) × ((x : DataKey) → Contains xs x → x.path ≡ p → ⊥)
names_by xs None h = absurd cc
names_by xs (Some p) h =
    let none = is_not (list_any (λ q. bytes_eq q p) (paths_in xs)) h in (
      p,
      refl,
      λ x c is.
          let some : list_any (λ q. bytes_eq q p) (paths_in xs) ≡ true = passes (λ q. bytes_eq q p) (paths_in xs) x.path
          (in_map (λ (y : DataKey). y.path) xs x c) ((bytes_eq-Decides x.path p).1 is) in
          let bad : true ≡ false = sym some ∙ none in
          cc,
    )

no_name : (xs : List DataKey) (name : Option (List ℕ)) (p : List ℕ) → name ≡ Some p
    → ((x : DataKey) → Contains xs x → x.path ≡ p → ⊥) → names_none (paths_in xs) name ≡ true
no_name xs name p is h =
    ap (names_none (paths_in xs)) is
    ∙ not_is (list_any (λ q. bytes_eq q p) (paths_in xs)) (λ some.
    let r = passing (λ q. bytes_eq q p) (paths_in xs) some in
    let x = from_map (λ (y : DataKey). y.path) xs r.0 r.1 in
    h x.0 x.1 (x.2 ∙ (bytes_eq-Decides r.0 p).0 r.2))

module _ (files : List LiveFile) (manifest path : List ℕ) where
  abbrev at : Finding
  at = found_at manifest path NamedNotLive

  other_flaw : (content : FileContent) → dangling_flaw content ≡ NamedNotLive → ⊥
  other_flaw Data h = absurd cc
  other_flaw PositionDeletes h = absurd cc
  other_flaw EqualityDeletes h = absurd cc

  pub names : Contains (delete_findings files) at → NamesNone files manifest path
  names c =
      let xs = data_files files in
      let r = from_flat (findings_beside xs) (delete_files files) at c in
      let d = r.0 in
      let none = names_none (paths_in xs) d.1.referenced in
      let idle = not (is_reaching xs d.1) in
      elim (Contains-append_cases (finding_where none d.0 NamedNotLive)
      (finding_where idle d.0 (dangling_flaw d.1.content)) at r.2) as (λ _. NamesNone files manifest path) [
        | inl m ↦
            (let one = one_where none d.0 NamedNotLive at m in
            let named = names_by xs d.1.referenced one.0 in
            let paths : Some d.0.path ≡ Some path = ap (λ (f : Finding). f.file) one.1 in
            record {
              delete = d;
              name = named.0;
              is_live = r.1;
              manifest_is = ap (λ (f : Finding). f.manifest) one.1;
              path_is = cc;
              named = named.1;
              none_has_it = named.2;
            })
        | inr m ↦ absurd (other_flaw d.1.content
            (ap (λ (f : Finding). f.flaw) (one_where idle d.0 (dangling_flaw d.1.content) at m).1))
      ]

  pub is_named : NamesNone files manifest path → Contains (delete_findings files) at
  is_named h =
      let xs = data_files files in
      let d = h.delete in
      let none = names_none (paths_in xs) d.1.referenced in
      let same : found_on d.0 NamedNotLive ≡ at = rw (h.manifest_is, h.path_is) refl in
      in_flat (findings_beside xs) (delete_files files) d at h.is_live
      (Contains-append_left (finding_where none d.0 NamedNotLive)
      (finding_where (not (is_reaching xs d.1)) d.0 (dangling_flaw d.1.content)) at
      (subst (λ f. Contains (finding_where none d.0 NamedNotLive) f) same
      (where_one none d.0 NamedNotLive (no_name xs d.1.referenced h.name h.named h.none_has_it))))
