-- What the reader answers is the first fault of the walk.
use Rattle.std.proofs.Common.{◌≡◌, ◌↔◌, ◌<◌, ◌≤◌, ℕ, zero, suc, Bool, true, false, List, [], ◌∷◌, Option, Some, None}
use Rattle.std.proofs.Common.{Result, Ok, Err, refl, sym, ap, arith}
use Rattle.std.specs.Prelude.{MatchResult, codes, nat_lt}
use Rattle.std.specs.Str.{is_utf8}
use Rattle.std.proofs.lemmas.Bool.{ltb-true, ltb-false}
use Rattle.serde_json.specs.Data as json
use Rattle.serde_json.specs.Data.{Data}
use Rattle.serde_json.specs.Read.{read}
use Rattle.avro_schema.specs.declared.fault.SchemaFault.{SchemaFault}
use Rattle.avro_schema.specs.declared.fault.SchemaFault.TheVariants.{NotJson}
use Rattle.avro_schema.specs.declared.attributes.Kind.{Kind}
use Rattle.avro_schema.specs.declared.attributes.Kind.TheVariants as kind
use Rattle.avro_schema.specs.declared.reading.Role.{Role}
use Rattle.avro_schema.specs.declared.reading.Role.TheVariants as role
use Rattle.contract_words.specs.Outcome.{◌>>=◌}
use Rattle.avro_schema.specs.Tree.{Tree, octets}
use Rattle.avro_schema.specs.Attributes.{text_in, kind_of, bytes_kind}
use Rattle.avro_schema.specs.Reading.{Seen, Read, asked, named, of_kind, object_at, text_at, node_at, counted, tree_at}
use Rattle.avro_schema.specs.Texts.{json_of, schema_of, most_nodes, most_levels}
use Rattle.avro_schema.specs.Inside.{kind_in, a_type}
use Rattle.avro_schema.proofs.Holding.{uses_kind, defines_kind, parts_kind}
use Rattle.avro_schema.proofs.Trace.{NoUse, NoDefinition}
use Rattle.avro_schema.proofs.Traced.{both_weaker, plain_type_no_use}
use Rattle.avro_schema.proofs.Whole.{tree_tells}
use Rattle.avro_schema_laws.specs.Walk.{Place, Stop, inside, in_kind, walk}
use Rattle.avro_schema_laws.specs.Sound.{is_type}
use Rattle.avro_schema_laws.specs.Faults.{IsJson, too_deep, IsFault, no_room, no_type, unknown, recursive}
use Rattle.avro_schema_laws.specs.Faults.{no_room_again, twice, no_field, id_twice, FirstFault, here, later}
use Rattle.avro_schema_laws.specs.Faults.{HasFirstFault}
use Rattle.avro_schema_laws.proofs.Passing.{Passes, Fails, fails_here, has_first, one_first, none_first}
use Rattle.avro_schema_laws.proofs.Stops.{type_kind, inside_kind, has_no_room, is_no_type}
use Rattle.avro_schema_laws.proofs.Matching.{Matches, matches_start, no_more, matches_plain}
use Rattle.avro_schema_laws.proofs.Closing.{both_hold, Done, done_leaf, Almost, no_name, finish}
use Rattle.avro_schema_laws.proofs.Naming.{now, has_room, plain_free, DoneAs, FailsAs, named_tells, of_word_tells}
use Rattle.avro_schema_laws.proofs.Naming.{enum_tells, fixed_tells}
use Rattle.avro_schema_laws.proofs.Parts.{in_union, Tells, array_tells, map_tells, union_tells, record_tells}

-- ---- one type

unnamed : (before stops : List Stop) (p : Place) (d : Data) (s : Seen) (r : Read Tree)
    → MatchResult r (DoneAs before p d stops) (FailsAs before p d stops)
    → MatchResult r (Almost before p d s stops) (FailsAs before p d stops)
unnamed before stops p d s r h = both_weaker r (DoneAs before p d stops) (Almost before p d s stops)
    (FailsAs before p d stops) (FailsAs before p d stops) (λ x k. no_name k) (λ e k. k) h

-- an object whose type text is a word or says `bytes`
bytes_tell : (n : ℕ) (before : List Stop) (p : Place) (d : Data) (s : Seen) (t : Tree) → kind_in d ≡ Some kind.Bytes
    → p.levels ≡ suc n → Matches before p.records s → 0 < s.left → DoneAs before p d [] (t, now s)
bytes_tell n before p d s t is levels m some =
    let unused : NoUse p.space d = λ name u. uses_kind p.space name d kind.Bytes is u in
    let undefined : NoDefinition p.space d = λ name h. defines_kind p.space d name kind.Bytes is h in
    done_leaf before p d (now s) (plain_free before p d (
      has_room before p s n levels m some,
      type_kind p.is_branch d
          kind.Bytes is,
    ) unused undefined) (parts_kind p.space d kind.Bytes is) (matches_plain before p d s m some unused
    undefined)

word_tells : (n : ℕ) (before : List Stop) (p : Place) (d : Data) (s : Seen) (word : List ℕ)
    → text_in (codes "type") d ≡ Some word → kind_of word ≡ kind.Word → p.levels ≡ suc n → Matches before p.records s
    → 0 < s.left → MatchResult (named n p.space word (now s)) (DoneAs before p d []) (FailsAs before p d [])
word_tells n before p d s word type says levels m some =
    let is : kind_in d ≡ Some kind.Word = rw (type, says) refl in
    named_tells n before p d s word levels m some (
      has_room before p s n levels m some,
      type_kind p.is_branch d
          kind.Word is,
    ) (λ name h. defines_kind p.space d name kind.Word is h) (parts_kind p.space d kind.Word is)
    (λ t h name u. plain_type_no_use p.space word name d t type h u) (λ none. a_type type says none)

of_kind_tells : (n : ℕ) → Tells n → (before : List Stop) (p : Place) (k : Kind) (word : List ℕ) (d : Data) (s : Seen)
    → text_in (codes "type") d ≡ Some word → kind_of word ≡ k → p.levels ≡ suc n → Matches before p.records s
    → 0 < s.left → MatchResult (of_kind (tree_at n) n p.space k word d (now s))
    (Almost before p d s (in_kind (walk n) p.records p.space (Some k) d))
    (FailsAs before p d (in_kind (walk n) p.records p.space (Some k) d))
of_kind_tells n h before p kind.Array word d s type says levels m some =
    unnamed before _ p d s _ (array_tells n h before p d s (rw (type, says) refl) levels m some)
of_kind_tells n h before p kind.Map word d s type says levels m some =
    unnamed before _ p d s _ (map_tells n h before p d s (rw (type, says) refl) levels m some)
of_kind_tells n h before p kind.Record word d s type says levels m some =
    record_tells n h before p d s (rw (type, says) refl) levels m some
of_kind_tells n h before p kind.Enum word d s type says levels m some =
    enum_tells n before p d s (rw (type, says) refl) levels m some
of_kind_tells n h before p kind.Fixed word d s type says levels m some =
    fixed_tells n before p d s (rw (type, says) refl) levels m some
of_kind_tells n h before p kind.Bytes word d s type says levels m some =
    no_name (bytes_tell n before p d s (octets (bytes_kind d)) (rw (type, says) refl) levels m some)
of_kind_tells n h before p kind.Word word d s type says levels m some =
    unnamed before [] p d s _ (word_tells n before p d s word type says levels m some)

object_tells : (n : ℕ) → Tells n → (before : List Stop) (p : Place) (d : Data) (s : Seen) (o : Option (List ℕ))
    → text_in (codes "type") d ≡ o → (o ≡ None → is_type p.is_branch d ≡ false) → p.levels ≡ suc n
    → Matches before p.records s → 0 < s.left
    → MatchResult (asked o >>= λ word. of_kind (tree_at n) n p.space (kind_of word) word d (now s))
    (Almost before p d s (inside (walk n) p.records p.space d))
    (FailsAs before p d (inside (walk n) p.records p.space d))
object_tells n h before p d s None type none levels m some = fails_here (is_no_type before p d (has_room before p s n
    levels m some) (none refl))
object_tells n h before p d s (Some word) type none levels m some =
    rw (inside_kind (walk n) p.records p.space d (kind_of word) (rw type refl))
    (of_kind_tells n h before p (kind_of word) word d s type refl levels m some)

node_tells : (n : ℕ) → Tells n → (before : List Stop) (p : Place) (at : Role) (d : Data) (s : Seen)
    → p.is_branch ≡ in_union at → p.levels ≡ suc n → Matches before p.records s → 0 < s.left
    → MatchResult (node_at (tree_at n) n at p.space d (now s))
    (Almost before p d s (inside (walk n) p.records p.space d))
    (FailsAs before p d (inside (walk n) p.records p.space d))
unfolding node_at text_at object_at
node_tells n h before p at json.null s is levels m some = fails_here (is_no_type before p json.null
    (has_room before p s n levels m some) refl)
node_tells n h before p at (json.boolean b) s is levels m some = fails_here (is_no_type before p (json.boolean b)
    (has_room before p s n levels m some) refl)
node_tells n h before p at (json.number k) s is levels m some = fails_here (is_no_type before p (json.number k)
    (has_room before p s n levels m some) refl)
node_tells n h before p at (json.string word) s is levels m some = unnamed before [] p (json.string word) s _
    (of_word_tells n before p s (kind_of word) word refl levels m some)
node_tells n h before p at (json.array ds) s is levels m some = unnamed before _ p (json.array ds) s _
    (union_tells n h before p at ds s is levels m some)
node_tells n h before p at (json.object ms) s is levels m some =
    object_tells n h before p (json.object ms) s (text_in (codes "type") (json.object ms)) refl (λ none. rw none refl)
    levels m some

-- ---- every type

counted_is : (s : Seen) → nat_lt 0 s.left ≡ true → counted s ≡ Ok (now s)
counted_is s h = rw h refl

tree_is : (n : ℕ) (at : Role) (space : List ℕ) (d : Data) (s : Seen) → nat_lt 0 s.left ≡ true
    → tree_at (suc n) at space d s ≡ node_at (tree_at n) n at space d (now s)
unfolding tree_at
tree_is n at space d s h = rw h refl

tree_full : (n : ℕ) (at : Role) (space : List ℕ) (d : Data) (s : Seen) → nat_lt 0 s.left ≡ false
    → tree_at (suc n) at space d s ≡ Err SchemaFault.TooBig
unfolding tree_at
tree_full n at space d s h = rw h refl

abbrev place_of : ℕ → Role → List (List ℕ) → List ℕ → Place
place_of n at records space = record { levels = n; is_branch = in_union at; records = records; space = space }

type_tells : (n : ℕ) → Tells n → (before : List Stop) (at : Role) (records : List (List ℕ)) (space : List ℕ) (d : Data)
    (s : Seen) (b : Bool) → nat_lt 0 s.left ≡ b → Matches before records s
    → MatchResult (tree_at (suc n) at space d s) (DoneAs before (place_of (suc n) at records space) d
    (inside (walk n) records space d)) (FailsAs before (place_of (suc n) at records space) d
    (inside (walk n) records space d))
type_tells n h before at records space d s true left m =
    let p = place_of (suc n) at records space in
    let some : 0 < s.left = ltb-true 0 s.left left in
    let took = tree_tells (suc n) at space d s in
    let walked : MatchResult (tree_at (suc n) at space d s) (Almost before p d s (inside (walk n) records space d))
    (FailsAs before p d (inside (walk n) records space d)) = rw (tree_is n at space d s left)
    (node_tells n h before p at d s refl refl m some) in
    both_weaker (tree_at (suc n) at space d s) _ _ _ _
    (λ x k. finish before (inside (walk n) records space d) p d s x m k.1.1 k.0) (λ e k. k)
    (both_hold _ _ _ _ (tree_at (suc n) at space d s) walked took)
type_tells n h before at records space d s false left m =
    let p = place_of (suc n) at records space in
    let none : s.left < 1 = let le : s.left ≤ 0 = ltb-false 0 s.left left in omega (arith, le) in
    rw (tree_full n at space d s left) (fails_here (has_no_room before p d (no_more before p s 1 1 m none)))

tells : (n : ℕ) → Tells n
unfolding walk tree_at
tells zero at records space d s before m = fails_here (has_no_room before (place_of zero at records space) d
    (too_deep (omega arith)))
tells (suc n) at records space d s before m = type_tells n (tells n) before at records space d s (nat_lt 0 s.left) refl
    m

-- ---- the whole schema

abbrev stops_of : Data → List Stop
stops_of d = walk most_levels false [] [] d

at_json : (text : List ℕ) (d : Data) → IsJson text d → json_of text ≡ Ok d
unfolding json_of
at_json text d h = rw (h.0, h.1) refl

schema_tells : (text : List ℕ) (d : Data) → IsJson text d
    → MatchResult (schema_of text) (λ t. Passes [] (stops_of d)) (Fails [] (stops_of d))
unfolding schema_of
schema_tells text d h =
    rw (at_json text d h) (both_then
    (tree_at most_levels role.Elsewhere [] d (record { names = []; left = most_nodes }))
    (tells most_levels role.Elsewhere [] [] d (record { names = []; left = most_nodes }) [] matches_start))
  where
    both_then : (r : Read Tree) → MatchResult r (λ x. Done [] (stops_of d) [] [] d x.1) (Fails [] (stops_of d))
        → MatchResult (r >>= λ t. Ok t.0) (λ t. Passes [] (stops_of d)) (Fails [] (stops_of d))
    both_then (Ok x) k = k.passes
    both_then (Err e) k = k

at_ok : {A E : Type 0} (r : Result A E) (x : A) (P : A → Type 0) (F : E → Type 0) → r ≡ Ok x → MatchResult r P F → P x
at_ok r x P F is h = rw is at h

at_err : {A E : Type 0} (r : Result A E) (e : E) (P : A → Type 0) (F : E → Type 0) → r ≡ Err e → MatchResult r P F → F e
at_err r e P F is h = rw is at h

schema_failed : (text : List ℕ) (d : Data) (e : SchemaFault) → IsJson text d → schema_of text ≡ Err e
    → Fails [] (stops_of d) e
schema_failed text d e j is = at_err (schema_of text) e (λ t. Passes [] (stops_of d)) (Fails [] (stops_of d)) is
    (schema_tells text d j)

first_told : (d : Data) (e : SchemaFault) (r : Result Tree SchemaFault)
    → MatchResult r (λ t. Passes [] (stops_of d)) (Fails [] (stops_of d)) → HasFirstFault d e → r ≡ Err e
first_told d e (Ok t) passes h = absurd (none_first [] (stops_of d) e passes h)
first_told d e (Err f) fails h = ap Err (sym (one_first [] (stops_of d) f e fails h))

pub schema_told : (text : List ℕ) (d : Data) (e : SchemaFault) → IsJson text d
    → (schema_of text ≡ Err e) ↔ HasFirstFault d e
schema_told text d e j = (
  λ is. has_first (schema_failed text d e j is),
  λ h. first_told d e (schema_of text) (schema_tells text d j) h,
)

taken : (d : Data) (r : Result Tree SchemaFault)
    → MatchResult r (λ t. Passes [] (stops_of d)) (Fails [] (stops_of d)) → ((e : SchemaFault) → HasFirstFault d e → ⊥)
    → (t : Tree) × (r ≡ Ok t)
taken d (Ok t) passes none = (t, refl)
taken d (Err f) fails none = absurd (none f (has_first fails))

pub schema_taken : (text : List ℕ) (d : Data) → IsJson text d → ((e : SchemaFault) → HasFirstFault d e → ⊥)
    → (t : Tree) × (schema_of text ≡ Ok t)
schema_taken text d j none = taken d (schema_of text) (schema_tells text d j) none

-- ---- texts that are no JSON

no_such : (before : List Stop) (s : Stop) (f : SchemaFault) → f ≡ NotJson → IsFault before s f → ⊥
no_such before s f e (no_room x) = absurd cc
no_such before s f e (no_type r n) = absurd cc
no_such before s f e (unknown k u n) = absurd cc
no_such before s f e (recursive k u a) = absurd cc
no_such before s f e (no_room_again k u m o of is x) = absurd cc
no_such before s f e (twice k m a) = absurd cc
no_such before s f e (no_field n) = absurd cc
no_such before s f e (id_twice k o a h) = absurd cc

never_first : (before stops : List Stop) (f : SchemaFault) → f ≡ NotJson → FirstFault before stops f → ⊥
never_first before stops f e (here {s} h) = no_such before s f e h
never_first before stops f e (later {more} {s} free h) = never_first (s ∷ before) more f e h

no_json : (text : List ℕ) (b : Bool) (o : Option Data) → is_utf8 text ≡ b → read text ≡ o
    → ((d : Data) → IsJson text d → ⊥) → json_of text ≡ Err NotJson
unfolding json_of
no_json text false o u r none = rw u refl
no_json text true None u r none = rw (u, r) refl
no_json text true (Some d) u r none = absurd (none d (u, r))

refused : (text : List ℕ) → json_of text ≡ Err NotJson → schema_of text ≡ Err NotJson
unfolding schema_of
refused text h = rw h refl

pub schema_no_json : (text : List ℕ) → (schema_of text ≡ Err NotJson) ↔ ((d : Data) → IsJson text d → ⊥)
schema_no_json text = (
  λ is d j. never_first [] (stops_of d) NotJson refl (has_first (schema_failed text d NotJson j is)),
  λ none. refused text (no_json text (is_utf8 text) (read text) refl refl none),
)
