-- No two types of a manifest's schema have one name.
use Rattle.std.proofs.Common.{◌≡◌, ℕ, Bool, true, false, ◌||◌, List, [], ◌∷◌, ◌++◌}
use Rattle.std.proofs.Common.{map, inl, inr, refl, sym, ap, subst, append_assoc}
use Rattle.std.specs.Prelude.{Ok, Some, ℤ, codes, ◌⊎◌}
use Rattle.std.specs.Fmt.{signed_decimal}
use Rattle.std.proofs.lemmas.Fmt.{signed_decimal_injective}
use Rattle.std.proofs.lemmas.List.{append-nil}
use Rattle.std.proofs.lemmas.Slice.Eq.{bytes_eq-Decides}
use Rattle.std.proofs.lemmas.Bool.Decides.{Decides-int_eq}
use Rattle.std.specs.List.{AllByRecursion, IsDistinct}
use Rattle.std.specs.Ordering.{int_eq}
use Rattle.std.specs.Str.{bytes_eq, is_utf8}
use Rattle.serde_json.specs.Read.{read}
use Rattle.avro_schema.specs.Texts.{schema_of}
use Rattle.ice_value.specs.declared.column_type.ColumnType.{ColumnType}
use Rattle.ice_value.specs.declared.column_type.ColumnType.TheVariants as column
use Rattle.ice_meta.specs.declared.spec.PartitionField.{PartitionField}
use Rattle.ice_manifest.specs.declared.heading.Heading.{Heading}
use Rattle.ice_manifest.specs.Adding.{IsHeading, IsId}
use Rattle.ice_manifest.specs.declared.partition_names.Naming.{Naming}
use Rattle.ice_manifest.specs.PartitionNames.{naming_of}
use Rattle.ice_manifest.specs.WrittenTypes.{json_of, written_tree}
use Rattle.ice_manifest.specs.WrittenSchemas.{fixed_name, value_type, partition_fields, entry_type}
use Rattle.ice_manifest.specs.Writing.{manifest_type}
use Rattle.ice_manifest.proofs.NamesApart.{few_digits}
use Rattle.ice_manifest.proofs.WrittenRead.{schema_read, different, is_among, names_in, field_names}
use Rattle.ice_manifest.proofs.ManifestKnown.{manifest_height, manifest_nodes, manifest_fine}

value_names : (id : ℤ) (t : ColumnType) → (names_in (value_type id t) ≡ []) ⊎ (names_in (value_type id t) ≡ fixed_name
    id ∷ [])
value_names id column.Boolean = inl refl
value_names id column.Int = inl refl
value_names id column.Long = inl refl
value_names id column.Float = inl refl
value_names id column.Double = inl refl
value_names id column.Date = inl refl
value_names id column.Time = inl refl
value_names id column.Timestamp = inl refl
value_names id column.Timestamptz = inl refl
value_names id column.String = inl refl
value_names id column.Uuid = inr refl
value_names id (column.Fixed size) = inr refl
value_names id column.Binary = inl refl
value_names id (column.Decimal precision scale) = inl refl

abbrev fixed_names : Naming → List PartitionField → List ColumnType → List (List ℕ)
fixed_names naming ps ts = field_names (partition_fields naming ps ts)

-- ---- one name among others

is_false : (b : Bool) → (b ≡ true → ⊥) → b ≡ false
is_false true h = absurd (h refl)
is_false false h = refl

neither : (a b : Bool) → (a || b) ≡ false → (a ≡ false) × (b ≡ false)
neither false false h = (refl, refl)
neither false true h = absurd cc
neither true b h = absurd cc

among_both : (n : List ℕ) (xs ys : List (List ℕ)) → is_among n xs ≡ false → is_among n ys ≡ false
    → is_among n (xs ++ ys) ≡ false
among_both n [] ys h k = k
among_both n (x ∷ xs) ys h k = let parts = neither (bytes_eq n x) (is_among n xs) h in
    rw (parts.0, among_both n xs ys parts.1 k) refl

-- fixed types of two ids have two names
other_fixed : (id other : ℤ) → IsId id → IsId other → int_eq id other ≡ false
    → bytes_eq (fixed_name other) (fixed_name id) ≡ false
other_fixed id other h k apart = is_false _ (λ e.
    let same : fixed_name other ≡ fixed_name id = (bytes_eq-Decides (fixed_name other) (fixed_name id)).0 e in
    let digits : signed_decimal other ≡ signed_decimal id = cc in
    let one : other ≡ id = signed_decimal_injective other id (few_digits other k) (few_digits id h) digits in
    let equal : int_eq id other ≡ true = (Decides-int_eq id other).1 (sym one) in
    absurd cc)

-- the names of these fields are not known
abbrev AreNew : List (List ℕ) → List PartitionField → Type 0
AreNew known ps = AllByRecursion (λ (p : PartitionField). is_among (fixed_name p.field_id) known ≡ false) ps

still_new : (known : List (List ℕ)) (p : PartitionField) (ps : List PartitionField) → IsId p.field_id
    → AllByRecursion (λ (q : PartitionField). IsId q.field_id) ps
    → AllByRecursion (λ id. int_eq p.field_id id ≡ false) (map (λ (q : PartitionField). q.field_id) ps)
    → AreNew known ps → AreNew (known ++ fixed_name p.field_id ∷ []) ps
still_new known p [] h ids apart new = tt
still_new known p (q ∷ ps) h ids apart new =
    let other : is_among (fixed_name q.field_id) (fixed_name p.field_id ∷ []) ≡ false =
    rw (other_fixed p.field_id q.field_id h ids.0 apart.0) refl in (
      among_both (fixed_name q.field_id) known (fixed_name p.field_id ∷ []) new.0 other,
      still_new known p ps h ids.1
          apart.1 new.1,
    )

partition_different : (naming : Naming) (known tail : List (List ℕ)) (ps : List PartitionField) (ts : List ColumnType)
    → AllByRecursion (λ (p : PartitionField). IsId p.field_id) ps
    → IsDistinct int_eq (map (λ (p : PartitionField). p.field_id) ps) → AreNew known ps
    → different (known ++ fixed_names naming ps ts) tail ≡ true
    → different known (fixed_names naming ps ts ++ tail) ≡ true
unfolding IsDistinct
partition_different naming known tail [] ts ids apart new h = rw (append-nil known) at h
partition_different naming known tail (p ∷ ps) [] ids apart new h = rw (append-nil known) at h
partition_different naming known tail (p ∷ ps) (t ∷ ts) ids apart new h =
    let rest = fixed_names naming ps ts in
    let P : List (List ℕ) → Type 0 = λ ns. different (known ++ (ns ++ rest)) tail ≡ true
    → different known ((ns ++ rest) ++ tail) ≡ true in
    elim (value_names p.field_id t) [
      | inl none ↦ subst P (sym none) (λ k. partition_different naming known tail ps ts ids.1 apart.1 new.1 k) h
      | inr one ↦ subst P (sym one) (λ k.
          let further : different ((known ++ fixed_name p.field_id ∷ []) ++ rest) tail ≡ true =
          rw (append_assoc known (fixed_name p.field_id ∷ []) rest) k in
          rw new.0 (partition_different naming (known ++ fixed_name p.field_id ∷ []) tail ps ts ids.1 apart.1
          (still_new known p ps ids.0 ids.1 apart.0 new.1) further)) h
    ]

-- a name of another letter is none of theirs
other_letter : (naming : Naming) (n : List ℕ) (ps : List PartitionField) (ts : List ColumnType)
    → is_among (107 ∷ n) (fixed_names naming ps ts) ≡ false
other_letter naming n [] ts = refl
other_letter naming n (p ∷ ps) [] = refl
other_letter naming n (p ∷ ps) (t ∷ ts) = elim (value_names p.field_id t) [
  | inl none ↦ rw none (other_letter naming n ps ts)
  | inr one ↦ rw one (other_letter naming n ps ts)
]

-- ---- all names

abbrev front : List (List ℕ)
front = codes "manifest_entry" ∷ codes "r2" ∷ codes "r102" ∷ []

abbrev tail : List (List ℕ)
tail = codes "k119_v120" ∷ codes "k121_v122" ∷ codes "k126_v127" ∷ codes "k129_v130" ∷ []

all_names : (h : Heading)
    → names_in (manifest_type h) ≡ front ++ (fixed_names (naming_of h.spec.fields) h.spec.fields h.types ++ tail)
unfolding entry_type
all_names h = ap (λ (ns : List (List ℕ)). front ++ ns)
    (append-nil (fixed_names (naming_of h.spec.fields) h.spec.fields h.types ++ tail))

none_known : (ps : List PartitionField) → AreNew front ps
none_known [] = tt
none_known (p ∷ ps) = (refl, none_known ps)

tail_different : (ns : List (List ℕ)) → ((n : List ℕ) → is_among (107 ∷ n) ns ≡ false)
    → different (front ++ ns) tail ≡ true
tail_different ns h =
    let one : is_among (codes "k119_v120") (front ++ ns) ≡ false = among_both (codes "k119_v120") front ns refl
    (h (codes "119_v120")) in
    let two : is_among (codes "k121_v122") ((front ++ ns) ++ codes "k119_v120" ∷ []) ≡ false =
    among_both (codes "k121_v122") (front ++ ns) _ (among_both (codes "k121_v122") front ns refl
    (h (codes "121_v122"))) refl in
    let three : is_among (codes "k126_v127") (((front ++ ns) ++ codes "k119_v120" ∷ []) ++ codes "k121_v122" ∷ [])
    ≡ false =
    among_both (codes "k126_v127") ((front ++ ns) ++ codes "k119_v120" ∷ []) _ (among_both (codes "k126_v127")
    (front ++ ns) _ (among_both (codes "k126_v127") front ns refl (h (codes "126_v127"))) refl) refl in
    let four : is_among (codes "k129_v130") ((((front ++ ns) ++ codes "k119_v120" ∷ []) ++ codes "k121_v122" ∷ []) ++
    codes "k126_v127" ∷ []) ≡ false =
    among_both (codes "k129_v130") (((front ++ ns) ++ codes "k119_v120" ∷ []) ++ codes "k121_v122" ∷ []) _
    (among_both (codes "k129_v130") ((front ++ ns) ++ codes "k119_v120" ∷ []) _ (among_both (codes "k129_v130")
    (front ++ ns) _ (among_both (codes "k129_v130") front ns refl (h (codes "129_v130"))) refl) refl) refl in
    rw (one, two, three, four) refl

manifest_different : (h : Heading) → IsHeading h
    → AllByRecursion (λ (p : PartitionField). IsId p.field_id) h.spec.fields
    → different [] (names_in (manifest_type h)) ≡ true
manifest_different h is ids =
    let naming = naming_of h.spec.fields in
    let tails = tail_different (fixed_names naming h.spec.fields h.types)
    (λ n. other_letter naming n h.spec.fields h.types) in
    rw (all_names h) (partition_different naming front tail h.spec.fields h.types ids is.different
    (none_known h.spec.fields) tails)

pub manifest_read : (h : Heading) (text : List ℕ) → IsHeading h
    → AllByRecursion (λ (p : PartitionField). IsId p.field_id) h.spec.fields → is_utf8 text ≡ true
    → read text ≡ Some (json_of (manifest_type h)) → schema_of text ≡ Ok (written_tree (manifest_type h))
manifest_read h text is ids utf8 said = schema_read (manifest_type h) text utf8 said (manifest_fine h is ids)
    (manifest_different h is ids) (manifest_height h) (manifest_nodes h is.few)
