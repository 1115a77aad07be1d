-- A file that was written holds what was pushed.
use Rattle.std.proofs.Common.{◌≡◌, ℕ, suc, ◌<◌, ◌^◌, pos, Bool, true, false, cond, filter, is_lt, nat_cmp, List, []}
use Rattle.std.proofs.Common.{◌∷◌, ◌++◌, length, Option, Some, None, Result, Ok, Err, inl, refl, sym, ap, subst, ◌∙◌}
use Rattle.std.proofs.Common.{append_assoc, arith, rules}
use Rattle.std.specs.Prelude.{IfOk}
use Rattle.std.specs.List.{AllByRecursion}
use Rattle.std.specs.Str.{IsUtf8, bytes_eq}
use Rattle.std.specs.Cmp.{IsStrictWeakOrder}
use Rattle.std.proofs.lemmas.Cmp.{nat_list_cmp_total}
use Rattle.std.proofs.lemmas.List.Sorted.{ranks_by}
use Rattle.std.proofs.lemmas.List.{append-nil, length-append}
use Rattle.std.proofs.lemmas.Str.{IsUtf8-from_ascii}
use Rattle.contract_words.specs.Sorting.{put, sorted}
use Rattle.std.specs.Cmp.Lexicographic.{slice_cmp}
use Rattle.contract_words.proofs.Sorted.{filter-sorted, irreflexive}
use Rattle.avro_schema.specs.Tree.{Tree}
use Rattle.avro_schema.specs.Texts.{schema_of}
use Rattle.avro_file_parts.specs.Number.{IsLong}
use Rattle.avro_file.specs.declared.writer.Property as declared
use Rattle.avro_file.specs.Property.{shown_properties}
use Rattle.avro_file.specs.Value.{Value, values_of}
use Rattle.avro_file.specs.Spelling.{IsRun, AreJoined, Spells}
use Rattle.avro_file.specs.Header.{Property, schema_key, codec_key, last_under, IsProperty, AreProperties}
use Rattle.avro_file.specs.Files.{magic, null_codec, IsUncompressed, HoldsFile}
use Rattle.avro_file.specs.Writing.{long_bytes, run_bytes, block_bytes, written, all_written, properties_written}
use Rattle.avro_file.specs.Writing.{key_before, in_order, header_bytes, blocks_bytes, file_bytes}
use Rattle.avro_file.specs.Counted.{IsCounted}
use Rattle.avro_file.specs.Writers.{AreOf, HasMetadata, IsHeader}
use Rattle.avro_file.proofs.Heads.{same_bytes}
use Rattle.avro_file.proofs.Written.{count_written, zero_written, datum_written}

-- ---- metadata

run_spelled : (s : List ℕ) → length s < 2 ^ 63 → IsRun s (run_bytes s)
run_spelled s lt = (long_bytes (pos (length s)), count_written (length s) lt, refl)

abbrev AreTexts : List Property → Type 0
AreTexts ps = AllByRecursion (λ p. IsUtf8 p.0) ps

properties_joined : (ps : List Property) → AreTexts ps → length (properties_written ps) < 2 ^ 63
    → AreJoined IsProperty ps (properties_written ps)
properties_joined [] texts lt = refl
properties_joined (p ∷ ps) texts lt =
    let here = length-append (run_bytes p.0 ++ run_bytes p.1) (properties_written ps) in
    let both = length-append (run_bytes p.0) (run_bytes p.1) in
    let key = length-append (long_bytes (pos (length p.0))) p.0 in
    let content = length-append (long_bytes (pos (length p.1))) p.1 in (
      run_bytes p.0 ++ run_bytes p.1,
      properties_written ps,
      (
        run_bytes p.0,
        run_bytes p.1,
        texts.0,
        run_spelled p.0
            (omega (arith, lt, here, both, key)),
        run_spelled p.1 (omega (arith, lt, here, both, content)),
        refl,
      ),
      properties_joined ps texts.1 (omega (arith, lt, here)),
      refl,
    )

pub properties_spelled : (ps : List Property) → AreTexts ps → length ps < 2 ^ 63
    → length (block_bytes (length ps) (properties_written ps)) < 2 ^ 63
    → AreProperties ps (block_bytes (length ps) (properties_written ps))
properties_spelled [] texts few lt = (0, (refl, zero_written))
properties_spelled (p ∷ ps) texts few lt =
    let body = properties_written (p ∷ ps) in
    let inner : length body < 2 ^ 63 = omega (
      arith,
      lt,
      length-append (long_bytes (pos (suc (length ps))))
          (body ++ 0 ∷ []),
      length-append body (0 ∷ []),
    ) in (
      1,
      (
        p ∷ ps,
        [],
        long_bytes (pos (suc (length ps))),
        properties_written (p ∷ ps),
        0 ∷ [],
        omega arith,
        inl
            (count_written (suc (length ps)) few),
        properties_joined (p ∷ ps) texts inner,
        (refl, zero_written),
        sym
            (append-nil (p ∷ ps)),
        refl,
      ),
    )

-- ---- their order

texts_put : (p : Property) (ps : List Property) → IsUtf8 p.0 → AreTexts ps → AreTexts (put key_before p ps)
texts_put p [] text texts = (text, tt)
texts_put p (q ∷ ps) text texts =
    elim (key_before q p) as (λ b. AreTexts (cond b (q ∷ put key_before p ps) (p ∷ q ∷ ps))) [
      | true ↦ (texts.0, texts_put p ps text texts.1)
      | false ↦ (text, texts)
    ]

texts_sorted : (ps : List Property) → AreTexts ps → AreTexts (sorted key_before ps)
texts_sorted [] texts = tt
texts_sorted (p ∷ ps) texts = texts_put p (sorted key_before ps) texts.0 (texts_sorted ps texts.1)

texts_both : (ps qs : List Property) → AreTexts ps → AreTexts qs → AreTexts (ps ++ qs)
texts_both [] qs h k = k
texts_both (p ∷ ps) qs h k = (h.0, texts_both ps qs h.1 k)

pub texts_in_order : (schema : List ℕ) (ps : List Property) → AreTexts ps → AreTexts (in_order schema ps)
texts_in_order schema ps texts =
    texts_sorted (ps ++ (codec_key, null_codec) ∷ (schema_key, schema) ∷ [])
    (texts_both ps ((codec_key, null_codec) ∷ (schema_key, schema) ∷ []) texts (
      IsUtf8-from_ascii codec_key
          (search rules),
      (IsUtf8-from_ascii schema_key (search rules), tt),
    ))

-- ---- the last of equal keys

abbrev has_key : List ℕ → Property → Bool
has_key key p = bytes_eq p.0 key

only_same : (key : List ℕ) (found : Option (List ℕ)) (ps : List Property)
    → last_under key found ps ≡ last_under key found (filter (has_key key) ps)
only_same key found [] = refl
only_same key found (p ∷ ps) =
    let P : (b : Bool) → bytes_eq p.0 key ≡ b → last_under key (cond b (Some p.1) found) ps ≡ last_under key found
    (cond b (p ∷ filter (has_key key) ps) (filter (has_key key) ps)) =
    λ b. elim b as (λ v. bytes_eq p.0 key ≡ v → last_under key (cond v (Some p.1) found) ps ≡ last_under key found
    (cond v (p ∷ filter (has_key key) ps) (filter (has_key key) ps))) [
      | true ↦ λ h. only_same key (Some p.1) ps ∙ ap (λ (b : Bool). last_under key (cond b (Some p.1) found)
          (filter (has_key key) ps)) (sym h)
      | false ↦ λ h. only_same key found ps
    ] in
    P (bytes_eq p.0 key) refl

abbrev AllUnder : List ℕ → List Property → Type 0
AllUnder key ps = AllByRecursion (λ p. p.0 ≡ key) ps

filtered_under : (key : List ℕ) (ps : List Property) → AllUnder key (filter (has_key key) ps)
filtered_under key [] = tt
filtered_under key (p ∷ ps) =
    let P : (b : Bool) → bytes_eq p.0 key ≡ b
    → AllUnder key (cond b (p ∷ filter (has_key key) ps) (filter (has_key key) ps)) =
    λ b. elim b as (λ v. bytes_eq p.0 key ≡ v
    → AllUnder key (cond v (p ∷ filter (has_key key) ps) (filter (has_key key) ps))) [
      | true ↦ λ h. (same_bytes p.0 key h, filtered_under key ps)
      | false ↦ λ h. filtered_under key ps
    ] in
    P (bytes_eq p.0 key) refl

order : IsStrictWeakOrder key_before
order = ranks_by nat_list_cmp_total (λ (p : Property). p.0)

not_before : (p q : Property) → p.0 ≡ q.0 → key_before q p ≡ false
not_before p q e = subst (λ (k : List ℕ). is_lt (slice_cmp nat_cmp q.0 k) ≡ false) (sym e) (irreflexive key_before order
    q)

put_same : (key : List ℕ) (p : Property) (ps : List Property) → p.0 ≡ key → AllUnder key ps
    → put key_before p ps ≡ p ∷ ps
put_same key p [] e all = refl
put_same key p (q ∷ ps) e all = rw (not_before p q (e ∙ sym all.0)) refl

sorted_same : (key : List ℕ) (ps : List Property) → AllUnder key ps → sorted key_before ps ≡ ps
sorted_same key [] all = refl
sorted_same key (p ∷ ps) all = ap (put key_before p) (sorted_same key ps all.1) ∙ put_same key p ps all.0 all.1

last_in_order : (key : List ℕ) (ps : List Property) → last_under key None (sorted key_before ps) ≡ last_under key None
    ps
last_in_order key ps =
    only_same key None (sorted key_before ps)
    ∙ ap (last_under key None) (filter-sorted key_before order (has_key key) ps ∙ sorted_same key
    (filter (has_key key) ps) (filtered_under key ps))
    ∙ sym (only_same key None ps)

schema_last : (schema : List ℕ) (found : Option (List ℕ)) (ps : List Property)
    → last_under schema_key found (ps ++ (codec_key, null_codec) ∷ (schema_key, schema) ∷ []) ≡ Some schema
schema_last schema found [] = refl
schema_last schema found (p ∷ ps) = schema_last schema (cond (bytes_eq p.0 schema_key) (Some p.1) found) ps

codec_last : (schema : List ℕ) (found : Option (List ℕ)) (ps : List Property)
    → last_under codec_key found (ps ++ (codec_key, null_codec) ∷ (schema_key, schema) ∷ []) ≡ Some null_codec
codec_last schema found [] = refl
codec_last schema found (p ∷ ps) = codec_last schema (cond (bytes_eq p.0 codec_key) (Some p.1) found) ps

pub schema_there : (schema : List ℕ) (ps : List Property)
    → last_under schema_key None (in_order schema ps) ≡ Some schema
schema_there schema ps = last_in_order schema_key (ps ++ (codec_key, null_codec) ∷ (schema_key, schema) ∷ []) ∙
    schema_last schema None ps

pub no_codec : (schema : List ℕ) (ps : List Property) → IsUncompressed (last_under codec_key None (in_order schema ps))
no_codec schema ps = rw (last_in_order codec_key (ps ++ (codec_key, null_codec) ∷ (schema_key, schema) ∷ []) ∙
    codec_last schema None ps) refl

shown_len : (all : List declared.Property) → length (shown_properties all) ≡ length all
shown_len [] = refl
shown_len (p ∷ all) = ap suc (shown_len all)

pub header_made : (s : Tree) (schema sync : List ℕ) (ms : List Property) (all : List declared.Property)
    (header : List ℕ) → shown_properties all ≡ in_order schema ms → AreTexts ms → length all < 2 ^ 63
    → length header < 2 ^ 63 → length sync ≡ 16 → schema_of schema ≡ Ok s
    → header ≡ magic ++ (block_bytes (length all) (properties_written (shown_properties all)) ++ sync)
    → IsHeader (in_order schema ms) s sync header
header_made s schema sync ms all header is texts few lt sixteen named e =
    let ps = shown_properties all in
    let front = block_bytes (length all) (properties_written ps) in
    let inner : length front < 2 ^ 63 = omega (arith, lt, ap length e, length-append front sync) in
    let as_many : length ps ≡ length all = shown_len all in
    let spelled : AreProperties ps front = subst (λ (n : ℕ). AreProperties ps (block_bytes n (properties_written ps)))
    as_many (properties_spelled ps (subst AreTexts (sym is) (texts_in_order schema ms texts))
    (omega (arith, as_many)) (subst (λ (n : ℕ). length (block_bytes n (properties_written ps)) < 2 ^ 63)
    (sym as_many) inner)) in (
      schema,
      front,
      subst (λ (qs : List Property). AreProperties qs front) is spelled,
      schema_there schema ms,
      named,
      no_codec schema ms,
      sixteen,
      e,
    )

pub none_written : all_written (values_of []) ≡ []
unfolding all_written
none_written = refl

-- ---- objects

all_last : (vs : List Value) (v : Value) → all_written (values_of (vs ++ v ∷ [])) ≡ all_written (values_of vs) ++
    written v
unfolding all_written
all_last [] v = append-nil (written v)
all_last (w ∷ vs) v = ap (λ (t : List ℕ). written w ++ t) (all_last vs v) ∙ sym (append_assoc (written w)
    (all_written (values_of vs)) (written v))

pub pushed : (vs : List Value) (v : Value) (old new : List ℕ) → old ≡ all_written (values_of vs)
    → new ≡ old ++ written v → new ≡ all_written (values_of (vs ++ v ∷ []))
pushed vs v old new e f = f ∙ ap (λ (t : List ℕ). t ++ written v) e ∙ sym (all_last vs v)

objects_written : (s : Tree) (vs : List Value) → AreOf s vs → AllByRecursion IsCounted vs
    → AreJoined (Spells s) vs (all_written (values_of vs))
unfolding all_written
objects_written s [] are counted = refl
objects_written s (v ∷ vs) are counted = (
  written v,
  all_written (values_of vs),
  datum_written s v are.0.0 are.0.1 counted.0,
  objects_written s vs are.1 counted.1,
  refl,
)

pub counted_last : (vs : List Value) (v : Value) → AllByRecursion IsCounted vs → IsCounted v
    → AllByRecursion IsCounted (vs ++ v ∷ [])
counted_last [] v all one = (one, tt)
counted_last (w ∷ vs) v all one = (all.0, counted_last vs v all.1 one)

no_values : (vs : List Value) → length vs ≡ 0 → vs ≡ []
no_values [] e = refl
no_values (v ∷ vs) e = absurd (omega (arith, e))

-- ---- the file

pub empty_file : (ps : List Property) (s : Tree) (sync header : List ℕ) (vs : List Value) → IsHeader ps s sync header
    → length vs ≡ 0 → HoldsFile s vs header
empty_file ps s sync header vs is none = (
  ps,
  is.0,
  is.1,
  sync,
  [],
  is.2,
  is.3,
  is.4,
  is.5,
  is.6,
  (0, (no_values vs none, refl)),
  is.7 ∙ ap
      (λ (t : List ℕ). magic ++ (is.1 ++ t)) (sym (append-nil sync)),
)

regrouped : (front sync count size body : List ℕ) → ((((magic ++ (front ++ sync)) ++ count) ++ size) ++ body) ++ sync
    ≡ magic ++ (front ++ (sync ++ (count ++ (size ++ (body ++ (sync ++ []))))))
regrouped front sync count size body = rw (append-nil sync) (simp append_assoc)

-- a step of writing after the other
pub chained : (header count size body sync one two three all : List ℕ) → one ≡ header ++ count → two ≡ one ++ size
    → three ≡ two ++ body → all ≡ three ++ sync → all ≡ (((header ++ count) ++ size) ++ body) ++ sync
chained header count size body sync one two three all e f g h =
    h ∙ ap (λ (t : List ℕ). t ++ sync) (g ∙ ap (λ (t : List ℕ). t ++ body) (f ∙ ap (λ (t : List ℕ). t ++ size) e))

pub whole_file : (ps : List Property) (s : Tree) (sync header body bytes : List ℕ) (count size : ℕ) (vs : List Value)
    → IsHeader ps s sync header → count ≡ length vs → count < 2 ^ 63 → size ≡ length body → size < 2 ^ 63
    → body ≡ all_written (values_of vs) → AllByRecursion IsCounted vs → AreOf s vs
    → bytes ≡ (((header ++ long_bytes (pos count)) ++ long_bytes (pos size)) ++ body) ++ sync → HoldsFile s vs bytes
whole_file ps s sync header body bytes count size vs is many few len lt made each are e =
    let first = long_bytes (pos count) in
    let second = long_bytes (pos size) in
    let counted : IsLong first (pos (length vs)) = subst (λ (k : ℕ). IsLong first (pos k)) many
    (count_written count few) in
    let sized : IsLong second (pos (length body)) = subst (λ (k : ℕ). IsLong second (pos k)) len
    (count_written size lt) in
    let spelled : AreJoined (Spells s) vs body = subst (AreJoined (Spells s) vs) (sym made)
    (objects_written s vs are each) in (
      ps,
      is.0,
      is.1,
      sync,
      first ++ (second ++ (body ++ (sync ++ []))),
      is.2,
      is.3,
      is.4,
      is.5,
      is.6,
      (1, (vs, [], first, second, body, [], counted, sized, spelled, (refl, refl), sym (append-nil vs), refl)),
      e ∙ ap (λ (t : List ℕ). (((t ++ first) ++ second) ++ body) ++ sync) is.7 ∙ regrouped is.1 sync first second body,
    )

pub behind_header : (header count size body sync all : List ℕ) → all ≡ (((header ++ count) ++ size) ++ body) ++ sync
    → all ≡ header ++ (count ++ (size ++ (body ++ sync)))
behind_header header count size body sync all e = e ∙ simp append_assoc

pub if_ok : {X E : Type 0} (P Q : X → Type 0) (r : Result X E) → ((x : X) → P x → Q x) → IfOk r P → IfOk r Q
if_ok P Q (Ok x) turn h = turn x h
if_ok P Q (Err e) turn h = tt

pub has_metadata : (ps : List Property) (s : Tree) (sync header rest bytes : List ℕ) → IsHeader ps s sync header
    → bytes ≡ header ++ rest → HasMetadata ps bytes
has_metadata ps s sync header rest bytes is e = (
  is.1,
  sync ++ rest,
  is.2,
  e ∙ ap (λ (t : List ℕ). t ++ rest) is.7 ∙ append_assoc magic (is.1 ++ sync) rest ∙ ap
      (λ (t : List ℕ). magic ++ t) (append_assoc is.1 sync rest),
)

-- ---- the bytes themselves

pub header_again : (all : List declared.Property) (ps : List Property) (sync header : List ℕ)
    → shown_properties all ≡ ps
    → header ≡ magic ++ (block_bytes (length all) (properties_written (shown_properties all)) ++ sync)
    → header ≡ header_bytes ps sync
header_again all ps sync header shown made =
    made ∙ ap (λ (n : ℕ). magic ++ (block_bytes n (properties_written (shown_properties all)) ++ sync))
    (sym (shown_len all))
    ∙ ap (λ (qs : List Property). header_bytes qs sync) shown

pub header_alone : (ps : List Property) (sync : List ℕ) (vs : List Value) (header : List ℕ)
    → header ≡ header_bytes ps sync → length vs ≡ 0 → header ≡ file_bytes ps sync vs
unfolding file_bytes
header_alone ps sync vs header e none = rw (no_values vs none) (e ∙ sym (append-nil (header_bytes ps sync)))

some_blocks : (sync : List ℕ) (vs : List Value) → 0 < length vs
    → blocks_bytes sync vs ≡ long_bytes (pos (length vs)) ++ (run_bytes (all_written (values_of vs)) ++ sync)
some_blocks sync [] some = absurd (omega arith)
some_blocks sync (v ∷ vs) some = refl

pub file_written : (ps : List Property) (sync : List ℕ) (vs : List Value) (header own body bytes : List ℕ)
    (count size : ℕ) → header ≡ header_bytes ps sync → own ≡ sync → count ≡ length vs
    → body ≡ all_written (values_of vs)
    → 0 < count → size ≡ length body → bytes ≡ (((header ++ long_bytes (pos count)) ++ long_bytes (pos size)) ++ body)
    ++ own → bytes ≡ file_bytes ps sync vs
unfolding file_bytes
file_written ps sync vs header own body bytes count size made same many content some len e =
    let whole : bytes ≡ header ++ (long_bytes (pos count) ++ ((long_bytes (pos size) ++ body) ++ own)) =
    e ∙ simp append_assoc in
    whole ∙ rw (made, same, many, len, content) (ap (λ (t : List ℕ). header_bytes ps sync ++ t)
    (sym (some_blocks sync vs (omega (arith, many, some)))))
