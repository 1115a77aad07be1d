-- What live entries give that are read one after the other.
use Rattle.std.proofs.Common.{◌≡◌, ℕ, ◌+◌, Bool, true, false, List, [], ◌∷◌, ◌++◌, map, Option, Some, Result, Ok}
use Rattle.std.proofs.Common.{Err, refl, sym, ap, ◌∙◌}
use Rattle.std.specs.List.{flat_map}
use Rattle.contract_words.specs.Outcome.{◌>>=◌}
use Rattle.avro_schema.specs.Tree.{Fields}
use Rattle.avro_file.specs.declared.fault.AvroFault.{AvroFault}
use Rattle.avro_file.specs.declared.object.Object.{Object}
use Rattle.avro_file.specs.Value.{Value}
use Rattle.avro_file.specs.Ahead.{Ahead}
use Rattle.avro_file.specs.Files.{Next, Shows}
use Rattle.ice_meta.specs.declared.spec.Spec.{Spec}
use Rattle.ice_manifest_fields.specs.declared.fault.ManifestFault.{ManifestFault}
use Rattle.ice_manifest_reading.specs.declared.row.Row.{Row}
use Rattle.ice_manifest_reading.specs.declared.entry.Entry.{Entry}
use Rattle.ice_manifest_reading.specs.declared.entry.Live.{Live}
use Rattle.ice_manifest_fields.specs.Naming.{in_manifest}
use Rattle.ice_manifest_reading.specs.Collecting.{given_of, given_behind, if_kept, behind}
use Rattle.ice_manifest_reading.specs.Manifests.{says_entry, kept, entries_ahead, entries_kept, kept_of}
use Rattle.ice_manifest_reading.specs.Telling.{told_of}
use Rattle.ice_manifest_fields.proofs.Joining.{joined, joined_err, joined_end}
use Rattle.ice_manifest_reading.proofs.Reading.{Is, next_entry, entry_fails, no_entry}
use Rattle.ice_manifest_reading.proofs.Reading.{entries_end}

joined_twice : {X E : Type 0} (front more : List X) (r : Result (List X) E)
    → joined front (joined more r) ≡ joined (front ++ more) r
unfolding joined
joined_twice {X} {E} [] more r = refl
joined_twice {X} {E} (x ∷ front) more r = rw (joined_twice front more r) refl

joined_ok : {X E : Type 0} (front xs : List X) → joined {E = E} front (Ok xs) ≡ Ok (front ++ xs)
unfolding joined
joined_ok {X} {E} [] xs = refl
joined_ok {X} {E} (y ∷ front) xs = rw (joined_ok {E = E} front xs) refl

one_more : {X : Type 0} (gives : Live → List X) (l : Live) (r : Result (List Live) ManifestFault)
    → given_of gives (r >>= λ ls. Ok (l ∷ ls)) ≡ joined (gives l) (given_of gives r)
one_more {X} gives l (Ok ls) = sym (joined_ok (gives l) (flat_map gives ls))
one_more {X} gives l (Err f) = sym (joined_err (gives l) f)

given_joined : {X : Type 0} (gives : Live → List X) (ls : List Live) (r : Result (List Live) ManifestFault)
    → given_of gives (joined ls r) ≡ joined (flat_map gives ls) (given_of gives r)
unfolding joined
given_joined {X} gives [] r = refl
given_joined {X} gives (l ∷ ls) r =
    one_more gives l (joined ls r) ∙ ap (joined (gives l)) (given_joined gives ls r)
    ∙ joined_twice (gives l) (flat_map gives ls) (given_of gives r)

-- ---- the objects of a manifest

next_ok : {X : Type 0} (gives : Live → List X) (row : Row) (spec : Spec) (fs : Fields) (k : ℕ) (front : List X)
    (now new : Ahead) (o : Object) (v : Value) (x : Option Live) → Next Shows now (Ok (Some o)) new → Is o v
    → says_entry row spec fs (k, v) ≡ Ok x
    → joined front (given_of gives (entries_ahead row spec fs k now)) ≡ joined (front ++ flat_map gives
    (kept (x ∷ []))) (given_of gives (entries_ahead row spec fs (k + 1) new))
unfolding joined
next_ok {X} gives row spec fs k front now new o v x h shown is =
    ap (λ (r : Result (List Live) ManifestFault). joined front (given_of gives r)) (next_entry row spec fs k [] now new
    o v x h shown is)
    ∙ ap (joined front) (given_joined gives (kept (x ∷ [])) (entries_ahead row spec fs (k + 1) new))
    ∙ joined_twice front (flat_map gives (kept (x ∷ []))) (given_of gives (entries_ahead row spec fs (k + 1) new))

next_err : {X : Type 0} (gives : Live → List X) (row : Row) (spec : Spec) (fs : Fields) (k : ℕ) (front : List X)
    (now new : Ahead) (o : Object) (v : Value) (f : ManifestFault) → Next Shows now (Ok (Some o)) new → Is o v
    → says_entry row spec fs (k, v) ≡ Err f
    → joined front (given_of gives (entries_ahead row spec fs k now)) ≡ Err f
unfolding joined
next_err {X} gives row spec fs k front now new o v f h shown is = ap (λ (r : Result (List Live) ManifestFault). joined
    front (given_of gives r)) (entry_fails row spec fs k [] now new o v f h shown is) ∙ joined_err front f

-- what an object said
behind_ok : {X : Type 0} (gives : Live → List X) (front found : List X) (r : Result (Option Live) ManifestFault)
    → given_behind gives front r ≡ Ok found
    → (x : Option Live) × (r ≡ Ok x) × (found ≡ front ++ flat_map gives (kept (x ∷ [])))
behind_ok {X} gives front found (Ok x) h = (x, refl, cc)
behind_ok {X} gives front found (Err f) h = absurd cc

behind_err : {X : Type 0} (gives : Live → List X) (front : List X) (r : Result (Option Live) ManifestFault)
    (f : ManifestFault) → given_behind gives front r ≡ Err f → r ≡ Err f
behind_err {X} gives front (Ok x) f h = absurd cc
behind_err {X} gives front (Err g) f h = let same : g ≡ f = cc in ap Err same

pub next_given : {X : Type 0} (gives : Live → List X) (row : Row) (spec : Spec) (fs : Fields) (k : ℕ)
    (front found : List X) (now new : Ahead) (o : Object) (v : Value) → Next Shows now (Ok (Some o)) new → Is o v
    → given_behind gives front (says_entry row spec fs (k, v)) ≡ Ok found
    → joined front (given_of gives (entries_ahead row spec fs k now)) ≡ joined found
    (given_of gives (entries_ahead row spec fs (k + 1) new))
next_given {X} gives row spec fs k front found now new o v h shown is =
    let said = behind_ok gives front found (says_entry row spec fs (k, v)) is in
    next_ok gives row spec fs k front now new o v said.0 h shown said.1 ∙ ap (λ (xs : List X). joined xs
    (given_of gives (entries_ahead row spec fs (k + 1) new))) (sym said.2)

pub given_fails : {X : Type 0} (gives : Live → List X) (row : Row) (spec : Spec) (fs : Fields) (k : ℕ) (front : List X)
    (now new : Ahead) (o : Object) (v : Value) (f : ManifestFault) → Next Shows now (Ok (Some o)) new → Is o v
    → given_behind gives front (says_entry row spec fs (k, v)) ≡ Err f
    → joined front (given_of gives (entries_ahead row spec fs k now)) ≡ Err f
given_fails {X} gives row spec fs k front now new o v f h shown is = next_err gives row spec fs k front now new o v f h
    shown (behind_err gives front (says_entry row spec fs (k, v)) f is)

pub none_given : {X : Type 0} (gives : Live → List X) (row : Row) (spec : Spec) (fs : Fields) (k : ℕ) (front : List X)
    (now new : Ahead) (x : Option Object) → Next Shows now (Ok x) new → ((o : Object) → x ≡ Some o → ⊥)
    → joined front (given_of gives (entries_ahead row spec fs k now)) ≡ Ok front
unfolding joined
none_given {X} gives row spec fs k front now new x h none = ap (λ (r : Result (List Live) ManifestFault). joined front
    (given_of gives r)) (no_entry row spec fs k [] now new x h none) ∙ joined_end front

pub given_end : {X : Type 0} (gives : Live → List X) (row : Row) (spec : Spec) (fs : Fields) (k : ℕ) (front : List X)
    (now new : Ahead) (f : AvroFault) → Next Shows now (Err f) new
    → joined front (given_of gives (entries_ahead row spec fs k now)) ≡ Err (in_manifest.of_container f)
unfolding joined
given_end {X} gives row spec fs k front now new f h = ap (λ (r : Result (List Live) ManifestFault). joined front
    (given_of gives r)) (entries_end row spec fs k [] now new f h) ∙ joined_err front (in_manifest.of_container f)

-- ---- entries that are kept, and what is told of entries

-- one more entry, if it is kept
one_kept : (keeps : Live → Bool) (l : Live) (ls : List Live) (b : Bool) → keeps l ≡ b
    → entries_kept keeps (l ∷ []) ++ entries_kept keeps ls ≡ entries_kept keeps (l ∷ ls)
one_kept keeps l ls true h = rw h refl
one_kept keeps l ls false h = rw h refl

each_kept : (keeps : Live → Bool) (ls : List Live)
    → flat_map (λ l. entries_kept keeps (l ∷ [])) ls ≡ entries_kept keeps ls
each_kept keeps [] = refl
each_kept keeps (l ∷ ls) = ap (λ (es : List Entry). entries_kept keeps (l ∷ []) ++ es) (each_kept keeps ls)
    ∙ one_kept keeps l ls (keeps l) refl

pub kept_given : (keeps : Live → Bool) (read : Result (List Live) ManifestFault)
    → given_of (λ l. entries_kept keeps (l ∷ [])) read ≡ kept_of keeps read
kept_given keeps (Ok found) = ap Ok (each_kept keeps found)
kept_given keeps (Err f) = refl

each_told : {T : Type 0} (tells : Live → T) (ls : List Live) → flat_map (λ l. tells l ∷ []) ls ≡ map tells ls
each_told {T} tells [] = refl
each_told {T} tells (l ∷ ls) = ap (λ (ts : List T). tells l ∷ ts) (each_told tells ls)

pub told_given : {T : Type 0} (tells : Live → T) (read : Result (List Live) ManifestFault)
    → given_of (λ l. tells l ∷ []) read ≡ told_of tells read
told_given {T} tells (Ok found) = ap Ok (each_told tells found)
told_given {T} tells (Err f) = refl

-- an entry is gathered if it is kept
pub kept_if : (keeps : Live → Bool) (l : Live) (b : Bool) → b ≡ keeps l
    → if_kept b l.entry ≡ entries_kept keeps (l ∷ [])
kept_if keeps l true h = rw (sym h) refl
kept_if keeps l false h = rw (sym h) refl

-- ---- what is read behind what was there before

pub behind_is : {X : Type 0} (front : List X) (read : Result (List X) ManifestFault)
    → behind front read ≡ joined front read
behind_is {X} front (Ok xs) = sym (joined_ok front xs)
behind_is {X} front (Err f) = sym (joined_err front f)

pub behind_none : {X : Type 0} (front : List X) (read found : Result (List X) ManifestFault) → front ≡ []
    → behind front read ≡ found → read ≡ found
behind_none {X} [] (Ok xs) found none is = is
behind_none {X} [] (Err f) found none is = is
behind_none {X} (x ∷ xs) read found none is = absurd cc
