-- The names of partition fields are names that Avro has, and tell the fields apart.
use Rattle.std.proofs.Common.{◌≡◌, ◌≢◌, ℕ, zero, suc, ◌<◌, ◌≤◌, ◌^◌, ◌/◌, ◌%◌, Bool, true, false, not, List, [], ◌∷◌}
use Rattle.std.proofs.Common.{◌++◌}
use Rattle.std.proofs.Common.{map, flat_map, chars, refl, sym, ap, subst, arith, ◌∙◌, nat_lt, nat_le, if◌then◌else◌}
use Rattle.std.proofs.Common.{◌==◌}
use Rattle.std.specs.Prelude.{ℤ, pos, negsuc, codes, encode_utf8}
use lib.Signed.{mag}
use Rattle.std.specs.Fmt.{signed_decimal, digits, digits_onto, digit_glyph}
use Rattle.std.specs.Char.{is_ascii_digit}
use Rattle.std.proofs.lemmas.Fmt.{signed_decimal_injective}
use Rattle.std.proofs.lemmas.List.Folds.{list_all-append}
use Rattle.std.proofs.lemmas.Str.{chars-IsAscii, encode_ascii}
use Rattle.std.proofs.lemmas.Slice.Eq.{bytes_eq-Decides}
use Rattle.std.proofs.lemmas.Bool.{leb-true, ltb-true, ltb-false, eqb-true, or_from, or_parts}
use Rattle.std.proofs.lemmas.Bool.{and_parts, and_right, false_from_ne_true, not-true}
use Rattle.std.proofs.lemmas.Nat.{mod_below}
use Rattle.std.proofs.lemmas.Bool.Decides.{Decides-int_eq}
use Rattle.std.specs.List.{AllByRecursion, IsDistinct, list_any, list_all}
use Rattle.std.specs.Ordering.{int_eq}
use Rattle.std.specs.Str.{bytes_eq, IsAscii}
use Rattle.ice_manifest.specs.Adding.{IsId}
use Rattle.ice_manifest.specs.PartitionNames.{is_in_names, spelled, before, avro_name, are_apart, naming_of}
use Rattle.ice_manifest.specs.PartitionNames.{numbered_name, field_name}
use Rattle.ice_manifest.proofs.WrittenRead.{is_filled}
use Rattle.ice_manifest.specs.NamesApart.{is_avro_name, own_names, KeepsNames, OwnWhereTheyDiffer, SpellsNames}
use Rattle.ice_manifest.specs.NamesApart.{TellsApart}
use Rattle.ice_meta.specs.declared.spec.PartitionField.{PartitionField}
use Rattle.ice_manifest.specs.declared.partition_names.Naming.TheVariants as by

-- ---- names that are apart

none_alike : (name : List ℕ) (names : List (List ℕ)) → list_any (bytes_eq name) names ≡ false
    → AllByRecursion (λ other. bytes_eq name other ≡ false) names
none_alike name [] h = tt
none_alike name (other ∷ names) h =
    let parts = or_parts (bytes_eq name other) (list_any (bytes_eq name) names) h in
    (parts.0, none_alike name names parts.1)

apart_distinct : (names : List (List ℕ)) → are_apart names ≡ true → IsDistinct bytes_eq names
unfolding IsDistinct
apart_distinct [] h = tt
apart_distinct ([] ∷ names) h = absurd cc
apart_distinct ((c ∷ cs) ∷ names) h =
    let parts = and_parts (not (list_any (bytes_eq (c ∷ cs)) names)) (are_apart names) h in
    (none_alike (c ∷ cs) names (not-true _ parts.0), apart_distinct names parts.1)

filled_apart : (names : List (List ℕ)) → are_apart names ≡ true → AllByRecursion (λ name. name ≢ []) names
filled_apart [] h = tt
filled_apart ([] ∷ names) h = absurd cc
filled_apart ((c ∷ cs) ∷ names) h =
    let parts = and_parts (not (list_any (bytes_eq (c ∷ cs)) names)) (are_apart names) h in
    ((λ e. absurd cc), filled_apart names parts.1)

alike_none : (name : List ℕ) (names : List (List ℕ)) → AllByRecursion (λ other. bytes_eq name other ≡ false) names
    → list_any (bytes_eq name) names ≡ false
alike_none name [] h = refl
alike_none name (other ∷ names) h = rw (h.0, alike_none name names h.1) refl

distinct_apart : (names : List (List ℕ)) → AllByRecursion (λ name. name ≢ []) names → IsDistinct bytes_eq names
    → are_apart names ≡ true
unfolding IsDistinct
distinct_apart [] filled distinct = refl
distinct_apart ([] ∷ names) filled distinct = absurd (filled.0 refl)
distinct_apart ((c ∷ cs) ∷ names) filled distinct =
    rw (alike_none (c ∷ cs) names distinct.0, distinct_apart names filled.1 distinct.1) refl

own_apart : (b : Bool) → (if b then by.Own else by.Numbered) ≡ by.Own → b ≡ true
own_apart true h = refl
own_apart false h = absurd cc

-- ---- numbers

pub few_digits : (id : ℤ) → IsId id → mag id < 2 ^ 63
few_digits (pos n) h = omega arith
few_digits (negsuc n) h = omega arith

other_number : (id other : ℤ) → IsId id → IsId other → int_eq id other ≡ false
    → bytes_eq (numbered_name id) (numbered_name other) ≡ false
other_number id other h k apart = false_from_ne_true _ (λ e.
    let same : numbered_name id ≡ numbered_name other =
    (bytes_eq-Decides (numbered_name id) (numbered_name other)).0 e in
    let digits_same : signed_decimal id ≡ signed_decimal other = cc in
    let one : id ≡ other = signed_decimal_injective id other (few_digits id h) (few_digits other k) digits_same in
    let equal : int_eq id other ≡ true = (Decides-int_eq id other).1 one in
    absurd cc)

others_numbers : (p : PartitionField) (ps : List PartitionField) → IsId p.field_id
    → AllByRecursion (λ (q : PartitionField). IsId q.field_id) ps
    → AllByRecursion (λ id. int_eq p.field_id id ≡ false) (map (λ (q : PartitionField). q.field_id) ps)
    → AllByRecursion (λ other. bytes_eq (numbered_name p.field_id) other ≡ false)
    (map (field_name by.Numbered) ps)
others_numbers p [] h ids apart = tt
others_numbers p (q ∷ ps) h ids apart =
    (other_number p.field_id q.field_id h ids.0 apart.0, others_numbers p ps h ids.1 apart.1)

numbered_apart : (ps : List PartitionField) → AllByRecursion (λ (p : PartitionField). IsId p.field_id) ps
    → IsDistinct int_eq (map (λ (p : PartitionField). p.field_id) ps)
    → IsDistinct bytes_eq (map (field_name by.Numbered) ps)
unfolding IsDistinct
numbered_apart [] ids apart = tt
numbered_apart (p ∷ ps) ids apart =
    (others_numbers p ps ids.0 ids.1 apart.0, numbered_apart ps ids.1 apart.1)

they_are : (ps : List PartitionField) → map (field_name by.Own) ps ≡ map (λ (p : PartitionField). avro_name p.name) ps
they_are [] = refl
they_are (p ∷ ps) = ap (λ (ns : List (List ℕ)). avro_name p.name ∷ ns) (they_are ps)

by_naming : (b : Bool) (ps : List PartitionField) → b ≡ are_apart (map (λ (p : PartitionField). avro_name p.name) ps)
    → AllByRecursion (λ (p : PartitionField). IsId p.field_id) ps
    → IsDistinct int_eq (map (λ (p : PartitionField). p.field_id) ps)
    → IsDistinct bytes_eq (map (field_name (if b then by.Own else by.Numbered)) ps)
by_naming true ps e ids apart = rw (they_are ps) (apart_distinct _ (sym e))
by_naming false ps e ids apart = numbered_apart ps ids apart

pub told_apart : TellsApart
told_apart ps ids apart = by_naming (are_apart (map (λ (p : PartitionField). avro_name p.name) ps)) ps refl ids apart

pub own_where_they_differ : OwnWhereTheyDiffer
own_where_they_differ ps = (
  λ e. let apart = own_apart (are_apart (own_names ps)) e in (filled_apart _ apart, apart_distinct _ apart),
  λ both. rw (distinct_apart (own_names ps) both.0 both.1) refl,
)

-- ---- names that Avro has

abbrev AllIn : List ℕ → Type 0
AllIn cs = list_all is_in_names cs ≡ true

either : (b : Bool) (xs ys : List ℕ) → (b ≡ true → AllIn xs) → (b ≡ false → AllIn ys) → AllIn (if b then xs else ys)
either true xs ys h k = h refl
either false xs ys h k = k refl

glyph_in : (d : ℕ) → d < 16 → is_in_names (digit_glyph true d) ≡ true
glyph_in zero h = refl
glyph_in (suc zero) h = refl
glyph_in (suc (suc zero)) h = refl
glyph_in (suc (suc (suc zero))) h = refl
glyph_in (suc (suc (suc (suc zero)))) h = refl
glyph_in (suc (suc (suc (suc (suc zero))))) h = refl
glyph_in (suc (suc (suc (suc (suc (suc zero)))))) h = refl
glyph_in (suc (suc (suc (suc (suc (suc (suc zero))))))) h = refl
glyph_in (suc (suc (suc (suc (suc (suc (suc (suc zero)))))))) h = refl
glyph_in (suc (suc (suc (suc (suc (suc (suc (suc (suc zero))))))))) h = refl
glyph_in (suc (suc (suc (suc (suc (suc (suc (suc (suc (suc zero)))))))))) h = refl
glyph_in (suc (suc (suc (suc (suc (suc (suc (suc (suc (suc (suc zero))))))))))) h = refl
glyph_in (suc (suc (suc (suc (suc (suc (suc (suc (suc (suc (suc (suc zero)))))))))))) h = refl
glyph_in (suc (suc (suc (suc (suc (suc (suc (suc (suc (suc (suc (suc (suc zero))))))))))))) h = refl
glyph_in (suc (suc (suc (suc (suc (suc (suc (suc (suc (suc (suc (suc (suc (suc zero)))))))))))))) h = refl
glyph_in (suc (suc (suc (suc (suc (suc (suc (suc (suc (suc (suc (suc (suc (suc (suc zero))))))))))))))) h = refl
glyph_in (suc (suc (suc (suc (suc (suc (suc (suc (suc (suc (suc (suc (suc (suc (suc (suc d)))))))))))))))) h =
    absurd (omega arith)

digits_in : (k n : ℕ) (acc : List ℕ) → AllIn acc → AllIn (digits_onto k 16 true n acc)
digits_in zero n acc h = h
digits_in (suc k) n acc h =
    let more : AllIn (digit_glyph true (n % 16) ∷ acc) = rw (glyph_in (n % 16) (mod_below n 16 (omega arith))) h in
    either (n / 16 == 0) (digit_glyph true (n % 16) ∷ acc) _ (λ _. more) (λ _. digits_in k (n / 16) _ more)

too_large : (c most : ℕ) → most < 128 → 128 ≤ c → nat_le c most ≡ false
too_large c most small large = false_from_ne_true _ (λ e. omega (arith, leb-true c most e, small, large))

not_in : (c : ℕ) → 128 ≤ c → is_in_names c ≡ false
not_in c large =
    let past : (most : ℕ) → most < 128 → nat_le c most ≡ false = λ most small. too_large c most small large in
    or_from _ _ (or_from _ _ (or_from _ _ (and_right (nat_le 48 c) _ (past 57 (omega arith)))
    (and_right (nat_le 65 c) _ (past 90 (omega arith)))) (and_right (nat_le 97 c) _ (past 122 (omega arith))))
    (false_from_ne_true _ (λ e. omega (arith, eqb-true c 95 e, large)))

in_ascii_by : (c : ℕ) (b : Bool) → nat_lt c 128 ≡ b → is_in_names c ≡ true → c < 128
in_ascii_by c true e h = ltb-true c 128 e
in_ascii_by c false e h = let none : is_in_names c ≡ false = not_in c (ltb-false c 128 e) in absurd cc

in_ascii : (c : ℕ) → is_in_names c ≡ true → c < 128
in_ascii c h = in_ascii_by c (nat_lt c 128) refl h

spelled_in : (c : ℕ) → AllIn (spelled c)
unfolding digits
spelled_in c = either (is_in_names c) (encode_utf8 c) _
    (λ is. rw (encode_ascii c (in_ascii c is), is) refl) (λ _. digits_in 64 c [] refl)

all_spelled : (cs : List ℕ) → AllIn (flat_map spelled cs)
all_spelled [] = refl
all_spelled (c ∷ cs) = list_all-append is_in_names (spelled c) (flat_map spelled cs)
    ∙ rw (spelled_in c, all_spelled cs) refl

-- the spelling of a character that is no digit, and what follows it
no_digit_first : (c : ℕ) (d : Bool) (rest : List ℕ) → is_in_names c ≡ d → is_ascii_digit c ≡ false → AllIn rest
    → is_avro_name ((if d then encode_utf8 c else codes "_x" ++ digits 16 true c) ++ rest) ≡ true
unfolding digits
no_digit_first c true rest e none h = rw (encode_ascii c (in_ascii c e), e, none, h) refl
no_digit_first c false rest e none h =
    list_all-append is_in_names (digits_onto 64 16 true c []) rest ∙ rw (digits_in 64 c [] refl, h) refl

front_in : (c : ℕ) (b : Bool) (rest : List ℕ) → is_ascii_digit c ≡ b → AllIn rest
    → is_avro_name ((if b then codes "_" else []) ++ (spelled c ++ rest)) ≡ true
front_in c true rest e h = list_all-append is_in_names (spelled c) rest ∙ rw (spelled_in c, h) refl
front_in c false rest e h = no_digit_first c (is_in_names c) rest refl e h

spelled_name : (cs : List ℕ) → ((before cs ++ flat_map spelled cs ≡ []) → ⊥)
    → is_avro_name (before cs ++ flat_map spelled cs) ≡ true
spelled_name [] h = absurd (h refl)
spelled_name (c ∷ cs) h = front_in c (is_ascii_digit c) (flat_map spelled cs) refl (all_spelled cs)

avro_named : (name : List ℕ) → ((avro_name name ≡ []) → ⊥) → is_avro_name (avro_name name) ≡ true
unfolding avro_name
avro_named name h = spelled_name (chars name) h

first_apart : (name : List ℕ) (names : List (List ℕ)) → are_apart (name ∷ names) ≡ true
    → ((name ≡ []) → ⊥) × (are_apart names ≡ true)
first_apart [] names h = absurd cc
first_apart (c ∷ cs) names h =
    (λ e. absurd cc, (and_parts (not (list_any (bytes_eq (c ∷ cs)) names)) (are_apart names) h).1)

each_named : (ps : List PartitionField) → are_apart (map (λ (p : PartitionField). avro_name p.name) ps) ≡ true
    → AllByRecursion (λ p. is_avro_name (field_name by.Own p) ≡ true) ps
each_named [] h = tt
each_named (p ∷ ps) h =
    let parts = first_apart (avro_name p.name) (map (λ (q : PartitionField). avro_name q.name) ps) h in
    (avro_named p.name parts.0, each_named ps parts.1)

pub spelled_names : SpellsNames
spelled_names ps own =
    subst (λ naming. AllByRecursion (λ p. is_avro_name (field_name naming p) ≡ true) ps) (sym own)
    (each_named ps (own_apart _ own))

-- no name is empty
filled_name : (name : List ℕ) → is_avro_name name ≡ true → is_filled name ≡ true
filled_name [] h = absurd cc
filled_name (c ∷ cs) h = refl

each_filled : (ps : List PartitionField) → are_apart (map (λ (p : PartitionField). avro_name p.name) ps) ≡ true
    → AllByRecursion (λ p. is_filled (field_name by.Own p) ≡ true) ps
each_filled [] h = tt
each_filled (p ∷ ps) h =
    let parts = first_apart (avro_name p.name) (map (λ (q : PartitionField). avro_name q.name) ps) h in
    (filled_name (avro_name p.name) (avro_named p.name parts.0), each_filled ps parts.1)

numbers_filled : (ps : List PartitionField) → AllByRecursion (λ p. is_filled (field_name by.Numbered p) ≡ true) ps
numbers_filled [] = tt
numbers_filled (p ∷ ps) = (refl, numbers_filled ps)

filled_by : (b : Bool) (ps : List PartitionField) → b ≡ are_apart (map (λ (p : PartitionField). avro_name p.name) ps)
    → AllByRecursion (λ p. is_filled (field_name (if b then by.Own else by.Numbered) p) ≡ true) ps
filled_by true ps e = each_filled ps (sym e)
filled_by false ps e = numbers_filled ps

pub names_filled : (ps : List PartitionField)
    → AllByRecursion (λ p. is_filled (field_name (naming_of ps) p) ≡ true) ps
names_filled ps = filled_by (are_apart (map (λ (p : PartitionField). avro_name p.name) ps)) ps refl

-- characters that Avro's names have are spelled as they are
stays : (cs : List ℕ) → AllIn cs → flat_map spelled cs ≡ cs
stays [] h = refl
stays (c ∷ cs) h =
    let parts = and_parts (is_in_names c) (list_all is_in_names cs) h in
    rw (parts.0, encode_ascii c (in_ascii c parts.0)) (ap (λ ds. c ∷ ds) (stays cs parts.1))

ascii : (cs : List ℕ) → AllIn cs → IsAscii cs
ascii [] h i = omega arith
ascii (c ∷ cs) h zero = in_ascii c (and_parts (is_in_names c) (list_all is_in_names cs) h).0
ascii (c ∷ cs) h (suc i) = ascii cs (and_parts (is_in_names c) (list_all is_in_names cs) h).1 i

nothing_before : (c : ℕ) (cs : List ℕ) → is_ascii_digit c ≡ false → before (c ∷ cs) ≡ []
nothing_before c cs none = rw none refl

pub kept_names : KeepsNames
unfolding avro_name
kept_names [] h = absurd cc
kept_names (c ∷ cs) h =
    let parts = and_parts (not (is_ascii_digit c)) (list_all is_in_names (c ∷ cs)) h in
    let same : chars (c ∷ cs) ≡ c ∷ cs = chars-IsAscii (c ∷ cs) (ascii (c ∷ cs) parts.1) in
    ap (λ ds. before ds ++ flat_map spelled ds) same
    ∙ ap (λ front. front ++ flat_map spelled (c ∷ cs)) (nothing_before c cs (not-true _ parts.0))
    ∙ stays (c ∷ cs) parts.1
