-- Types without parts: texts and names that are used, and the definitions of enums and fixeds.
use Rattle.std.proofs.Common.{◌≡◌, ◌⊎◌, ◌<◌, ◌≤◌, ◌+◌, ◌-◌, ℕ, zero, suc, List, [], ◌∷◌, Bool, true, false, Option}
use Rattle.std.proofs.Common.{Some, None, refl, sym, ◌∙◌, arith}
use mathlib.Core.Logic.{inl, inr}
use Rattle.std.specs.Prelude.{MatchResult, codes, nat_lt, ◌&&◌, is_some}
use Rattle.std.proofs.lemmas.Bool.{ltb-true, ltb-false}
use Rattle.serde_json.specs.Data as json
use Rattle.serde_json.specs.Data.{Data}
use Rattle.avro_schema.specs.declared.fault.SchemaFault.{SchemaFault}
use Rattle.avro_schema.specs.declared.attributes.Kind.{Kind}
use Rattle.avro_schema.specs.declared.attributes.Kind.TheVariants as kind
use Rattle.avro_schema.specs.Tree.{Tree, symbols, fixed}
use Rattle.avro_schema.specs.Size.{left_after, below, height, nodes, depth}
use Rattle.avro_schema.specs.Names.{Entry, lookup, put, full}
use Rattle.avro_schema.specs.Attributes.{name_in, symbols_in, size_in, bytes_kind, plain, kind_of}
use Rattle.avro_schema.specs.Reading.{Seen, if_left, used, plain_or_used, named, if_new, defined, defines}
use Rattle.avro_schema.specs.Reading.{enum_at, fixed_at, of_word}
use Rattle.avro_schema.specs.Inside.{kind_in, Uses, a_text, Defines, an_enum, a_fixed}
use Rattle.avro_schema.specs.Order.{parts_in}
use Rattle.avro_schema.specs.Stands.{Meaning}
use Rattle.avro_schema.proofs.Recursion as recursion
use Rattle.avro_schema.proofs.Kept.{lookup-put_same}
use Rattle.avro_schema.proofs.Holding.{uses_no_definition, one_definition, parts_kind, defines_no_kind, parts_use}
use Rattle.avro_schema.proofs.Trace.{NoUse, NoDefinition, Closes}
use Rattle.avro_schema.proofs.Traced.{put_elsewhere, plain_no_use}
use Rattle.avro_schema.proofs.Known.{not_both, not_open, one_use}
use Rattle.avro_schema.proofs.Same.{some_is}
use Rattle.avro_schema_laws.specs.Walk.{Place, Stop, at_type}
use Rattle.avro_schema_laws.specs.Faults.{Met, NamesOf, IsTooBig, too_deep, IsSound}
use Rattle.avro_schema_laws.proofs.Passing.{Faultless, none_left, Fails, fails_here}
use Rattle.avro_schema_laws.proofs.Stops.{type_kind, Fine, type_free, is_no_type, is_unknown, is_recursive}
use Rattle.avro_schema_laws.proofs.Stops.{has_no_room_again, is_twice}
use Rattle.avro_schema_laws.proofs.Matching.{meaning, meaning_agrees, Matches, room, no_more, matches_plain}
use Rattle.avro_schema_laws.proofs.Matching.{matches_use, matches_open}
use Rattle.avro_schema_laws.proofs.Closing.{steps, asked_steps, Done, covers_none, done_leaf, Almost}
use Rattle.avro_schema_laws.proofs.Closing.{with_name}

-- a type is counted
abbrev pub now : Seen → Seen
now s = record s { left = s.left - 1 }

pub has_room : (before : List Stop) (p : Place) (s : Seen) (n : ℕ) → p.levels ≡ suc n → Matches before p.records s
    → 0 < s.left → IsTooBig before p 1 1 → ⊥
has_room before p s n levels m some = room before p s 1 1 m (omega (arith, some)) (omega (arith, levels))

pub plain_free : (before : List Stop) (p : Place) (d : Data) → IsSound before p d → NoUse p.space d
    → NoDefinition p.space d → Faultless before (at_type p d)
plain_free before p d sound unused undefined = type_free before p d sound (λ name u. absurd (unused name u))
    (λ name h met. undefined name h)

pub named_free : (before : List Stop) (p : Place) (d : Data) (s : Seen) (own : List ℕ) → Matches before p.records s
    → IsSound before p d → Defines p.space d own → lookup own s.names ≡ None → Faultless before (at_type p d)
named_free before p d s own m sound makes new =
    type_free before p d sound (λ name u. absurd (uses_no_definition p.space name d own u makes)) (λ name h met.
    again name h met)
  where
    again : (name : List ℕ) → Defines p.space d name → Met before name → ⊥
    again name h met = m.unmet own new (rw (one_definition p.space d own name makes h) met)

-- ---- names that are used

less_back : (l n m : ℕ) → left_after l n ≡ Some m → m + n ≡ l
less_back l zero m h = let k : l ≡ m = cc in omega (arith, k)
less_back zero (suc n) m h = absurd cc
less_back (suc l) (suc n) m h = let k : m + n ≡ l = less_back l n m h in omega (arith, k)

less_short : (l n : ℕ) → left_after l n ≡ None → l < n
less_short l zero h = absurd cc
less_short zero (suc n) h = omega arith
less_short (suc l) (suc n) h = let k : l < n = less_short l n h in omega (arith, k)

abbrev pub DoneAs : List Stop → Place → Data → List Stop → Tree × Seen → Type 0
DoneAs before p d stops x = Done before (at_type p d ∷ stops) p.records p.space d x.1

abbrev pub FailsAs : List Stop → Place → Data → List Stop → SchemaFault → Type 0
FailsAs before p d stops e = Fails before (at_type p d ∷ stops) e

use_free : (n : ℕ) (before : List Stop) (p : Place) (d : Data) (s : Seen) (name : List ℕ) (t : Tree) (left : ℕ)
    → p.levels ≡ suc n → Matches before p.records s → IsSound before p d → Uses p.space d name
    → lookup name s.names ≡ Some (Some t) → left + below t ≡ s.left - 1 → 0 < s.left → height t ≤ n
    → Faultless before (at_type p d)
use_free n before p d s name t left levels m sound u is fits some high =
    type_free before p d sound (λ other w. fine other (one_use p.space d name other u w)) (λ other h met.
    uses_no_definition p.space name d other u h)
  where
    fits_too : (names : Meaning) (v : Tree) → NamesOf before p.records names → names name ≡ Some v
        → IsTooBig before p (nodes v) (depth v) → ⊥
    fits_too names v of its x =
        let same : v ≡ t = some_is (names name) v t its (m.agrees names of name t is) in
        room before p s (nodes t) (depth t) m (omega (arith, fits, some)) (omega (arith, levels, high)) (rw same at x)

    fine : (other : List ℕ) → name ≡ other → Fine before p other
    fine other same = rw (← same) (record {
      met = m.met name (Some t) is;
      over = λ h. not_open (lookup name s.names) t (m.opened name h) is;
      fits = fits_too;
    })

if_left_tells : (n : ℕ) (before : List Stop) (p : Place) (d : Data) (s : Seen) (name : List ℕ) (t : Tree)
    (o : Option ℕ) (b : Bool) → p.levels ≡ suc n → Matches before p.records s → 0 < s.left → IsSound before p d
    → Uses p.space d name → lookup name s.names ≡ Some (Some t) → left_after (s.left - 1) (below t) ≡ o
    → nat_lt n (height t) ≡ b
    → MatchResult (if_left n t o (now s)) (DoneAs before p d []) (FailsAs before p d [])
if_left_tells n before p d s name t None b levels m some sound u is short high =
    let lt : s.left - 1 < below t = less_short (s.left - 1) (below t) short in
    let over : s.left < nodes t = omega (arith, lt, some) in
    let names = meaning s.names in
    fails_here (has_no_room_again before p d name names t sound u (m.met name (Some t) is)
    (λ h. not_open (lookup name s.names) t (m.opened name h) is) (m.names_of names (meaning_agrees s.names))
    (meaning_agrees s.names name t is) (no_more before p s (nodes t) (depth t) m over))
if_left_tells n before p d s name t (Some left) true levels m some sound u is fits high =
    let lt : n < height t = ltb-true n (height t) high in
    let names = meaning s.names in
    rw high (fails_here (has_no_room_again before p d name names t sound u (m.met name (Some t) is)
    (λ h. not_open (lookup name s.names) t (m.opened name h) is) (m.names_of names (meaning_agrees s.names))
    (meaning_agrees s.names name t is) (too_deep (omega (arith, lt, levels)))))
if_left_tells n before p d s name t (Some left) false levels m some sound u is fits high =
    let le : height t ≤ n = ltb-false n (height t) high in
    let eq : left + below t ≡ s.left - 1 = less_back (s.left - 1) (below t) left fits in
    rw high (done_leaf before p d (record s { left = left })
    (use_free n before p d s name t left levels m sound u is eq some le) (parts_use p.space name d u)
    (matches_use before p d name t s left m u is (omega (arith, eq, some))))

used_tells : (n : ℕ) (before : List Stop) (p : Place) (d : Data) (s : Seen) (name : List ℕ)
    (o : Option (Option Tree)) → p.levels ≡ suc n → Matches before p.records s → 0 < s.left → IsSound before p d
    → Uses p.space d name → lookup name s.names ≡ o
    → MatchResult (used n o (now s)) (DoneAs before p d []) (FailsAs before p d [])
used_tells n before p d s name None levels m some sound u is =
    fails_here (is_unknown before p d name sound u (m.unmet name is)
    (λ h. not_both (lookup name s.names) None is (m.opened name h)))
used_tells n before p d s name (Some None) levels m some sound u is =
    fails_here (is_recursive before p d name sound u (m.met name None is) (m.around name is))
used_tells n before p d s name (Some (Some t)) levels m some sound u is =
    if_left_tells n before p d s name t (left_after (s.left - 1) (below t)) (nat_lt n (height t)) levels m some sound u
    is refl refl

plain_or_used_tells : (n : ℕ) (before : List Stop) (p : Place) (d : Data) (s : Seen) (word : List ℕ) (o : Option Tree)
    → p.levels ≡ suc n → Matches before p.records s → 0 < s.left → IsSound before p d → NoDefinition p.space d
    → parts_in p.space d ≡ [] → ((t : Tree) → o ≡ Some t → NoUse p.space d)
    → (o ≡ None → Uses p.space d (full p.space word))
    → MatchResult (plain_or_used n o (full p.space word) (now s)) (DoneAs before p d []) (FailsAs before p d [])
plain_or_used_tells n before p d s word (Some t) levels m some sound undefined none unused uses =
    done_leaf before p d (now s) (plain_free before p d sound (unused t refl) undefined) none
    (matches_plain before p d s m some (unused t refl) undefined)
plain_or_used_tells n before p d s word None levels m some sound undefined none unused uses =
    used_tells n before p d s (full p.space word) (lookup (full p.space word) s.names) levels m some sound (uses refl)
    refl

pub named_tells : (n : ℕ) (before : List Stop) (p : Place) (d : Data) (s : Seen) (word : List ℕ)
    → p.levels ≡ suc n → Matches before p.records s → 0 < s.left → IsSound before p d → NoDefinition p.space d
    → parts_in p.space d ≡ [] → ((t : Tree) → plain word ≡ Some t → NoUse p.space d)
    → (plain word ≡ None → Uses p.space d (full p.space word))
    → MatchResult (named n p.space word (now s)) (DoneAs before p d []) (FailsAs before p d [])
unfolding named
named_tells n before p d s word levels m some sound undefined none unused uses =
    plain_or_used_tells n before p d s word (plain word) levels m some sound undefined none unused uses

-- ---- texts alone

bytes_plain : (word : List ℕ) → kind_of word ≡ kind.Bytes → plain word ≡ None → ⊥
bytes_plain word is none = let same : word ≡ codes "bytes" = recursion.bytes_text word is in
    let h : plain (codes "bytes") ≡ None = rw same at none in absurd cc

no_parts : (space word : List ℕ) → parts_in space (json.string word) ≡ []
unfolding parts_in
no_parts space word = refl

pub of_word_tells : (n : ℕ) (before : List Stop) (p : Place) (s : Seen) (k : Kind) (word : List ℕ) → kind_of word ≡ k
    → p.levels ≡ suc n → Matches before p.records s → 0 < s.left
    → MatchResult (of_word n p.space k word (now s)) (DoneAs before p (json.string word) [])
    (FailsAs before p (json.string word) [])
of_word_tells n before p s kind.Array word is levels m some = fails_here (is_no_type before p (json.string word)
    (has_room before p s n levels m some) (rw is refl))
of_word_tells n before p s kind.Map word is levels m some = fails_here (is_no_type before p (json.string word)
    (has_room before p s n levels m some) (rw is refl))
of_word_tells n before p s kind.Record word is levels m some = fails_here (is_no_type before p (json.string word)
    (has_room before p s n levels m some) (rw is refl))
of_word_tells n before p s kind.Enum word is levels m some = fails_here (is_no_type before p (json.string word)
    (has_room before p s n levels m some) (rw is refl))
of_word_tells n before p s kind.Fixed word is levels m some = fails_here (is_no_type before p (json.string word)
    (has_room before p s n levels m some) (rw is refl))
of_word_tells n before p s kind.Bytes word is levels m some =
    named_tells n before p (json.string word) s word levels m some (has_room before p s n levels m some, rw is refl)
    (λ name h. defines_no_kind p.space (json.string word) name refl h) (no_parts p.space word)
    (λ t h name u. plain_no_use p.space word name t h u) (λ none. absurd (bytes_plain word is none))
of_word_tells n before p s kind.Word word is levels m some =
    named_tells n before p (json.string word) s word levels m some (has_room before p s n levels m some, rw is refl)
    (λ name h. defines_no_kind p.space (json.string word) name refl h) (no_parts p.space word)
    (λ t h name u. plain_no_use p.space word name t h u) (λ none. a_text is none)

-- ---- enums and fixeds

either : (name own : List ℕ) (a b c : Option (Option Tree)) → (name ≡ own) ⊎ (a ≡ c) → (name ≡ own) ⊎ (b ≡ c)
    → (name ≡ own) ⊎ (a ≡ b)
either name own a b c (inl h) k = inl h
either name own a b c (inr h) (inl k) = inl k
either name own a b c (inr h) (inr k) = inr (h ∙ sym k)

closes_leaf : (own : List ℕ) (t : Tree) (es : List Entry) → Closes own t (put own None es) (put own (Some t) es)
closes_leaf own t es = (
  lookup-put_same own (Some t) es,
  λ name. either name own (lookup name (put own (Some t) es))
      (lookup name (put own None es)) (lookup name es) (put_elsewhere name own (Some t) es) (put_elsewhere name own None
      es),
)

-- a name that is defined is new, or the schema has it twice
if_new_tells : (before stops : List Stop) (p : Place) (d : Data) (s : Seen) (own : List ℕ) (x : Option Tree)
    (o : Option (Option Tree)) → Matches before p.records s → IsSound before p d → Defines p.space d own
    → lookup own s.names ≡ o
    → MatchResult (if_new o (record (now s) { names = put own x s.names }))
    (λ q. (lookup own s.names ≡ None) × (q ≡ record { names = put own x s.names; left = s.left - 1 }))
    (FailsAs before p d stops)
if_new_tells before stops p d s own x None m sound makes is = (is, refl)
if_new_tells before stops p d s own x (Some e) m sound makes is =
    fails_here (is_twice before p d own sound makes (m.met own e is))

pub defined_tells : (before stops : List Stop) (p : Place) (d : Data) (s : Seen) (own : List ℕ) (x : Option Tree)
    → Matches before p.records s → IsSound before p d → Defines p.space d own
    → MatchResult (defined own x (now s))
    (λ q. (lookup own s.names ≡ None) × (q ≡ record { names = put own x s.names; left = s.left - 1 }))
    (FailsAs before p d stops)
unfolding defined
defined_tells before stops p d s own x m sound makes =
    if_new_tells before stops p d s own x (lookup own s.names) m sound makes refl

-- a definition without parts
named_leaf : (before : List Stop) (p : Place) (d : Data) (s q : Seen) (own : List ℕ) (t : Tree)
    → Matches before p.records s → 0 < s.left → IsSound before p d → Defines p.space d own
    → parts_in p.space d ≡ [] → lookup own s.names ≡ None
    → q ≡ record { names = put own (Some t) s.names; left = s.left - 1 } → Almost before p d s [] (t, q)
named_leaf before p d s q own t m some sound makes none new is =
    rw is (with_name makes new (named_free before p d s own m sound makes new) (record {
      passes = none_left;
      matches = matches_open before p d own s m some makes new;
      covers = covers_none [] (parts_in p.space d) none;
    }) (closes_leaf own t s.names) refl)

pub both_there : {A B : Type 0} (o : Option A) (q : Option B) (x : A) (y : B) → o ≡ Some x → q ≡ Some y
    → (is_some o && is_some q) ≡ true
both_there o q x y h k = rw (h, k) refl

pub first_absent : {A B : Type 0} (o : Option A) (q : Option B) → o ≡ None → (is_some o && is_some q) ≡ false
first_absent o q h = rw h refl

pub second_absent : {A B : Type 0} (o : Option A) (q : Option B) → q ≡ None → (is_some o && is_some q) ≡ false
second_absent None q h = refl
second_absent (Some x) q h = rw h refl

pub enum_tells : (n : ℕ) (before : List Stop) (p : Place) (d : Data) (s : Seen) → kind_in d ≡ Some kind.Enum
    → p.levels ≡ suc n → Matches before p.records s → 0 < s.left
    → MatchResult (enum_at p.space d (now s)) (Almost before p d s []) (FailsAs before p d [])
unfolding enum_at
enum_tells n before p d s is levels m some =
    let type = type_kind p.is_branch d kind.Enum is in
    let free = has_room before p s n levels m some in
    asked_steps _ _ (name_in d) _
    (λ none. fails_here (is_no_type before p d free (type ∙ first_absent (name_in d) (symbols_in d) none)))
    (λ name named.
    asked_steps _ _ (symbols_in d) _
    (λ none. fails_here (is_no_type before p d free (type ∙ second_absent (name_in d) (symbols_in d) none)))
    (λ count given.
    let own = defines p.space name d in
    let sound : IsSound before p d = (free, type ∙ both_there (name_in d) (symbols_in d) name count named given) in
    steps _ _ (Almost before p d s []) (FailsAs before p d []) (defined own (Some (symbols count)) (now s)) _
    (defined_tells before [] p d s own (Some (symbols count)) m sound (an_enum is named)) (λ e h. h)
    (λ q h. named_leaf before p d s q own (symbols count) m some sound (an_enum is named)
    (parts_kind p.space d kind.Enum is) h.0 h.1)))

pub fixed_tells : (n : ℕ) (before : List Stop) (p : Place) (d : Data) (s : Seen) → kind_in d ≡ Some kind.Fixed
    → p.levels ≡ suc n → Matches before p.records s → 0 < s.left
    → MatchResult (fixed_at p.space d (now s)) (Almost before p d s []) (FailsAs before p d [])
unfolding fixed_at
fixed_tells n before p d s is levels m some =
    let type = type_kind p.is_branch d kind.Fixed is in
    let free = has_room before p s n levels m some in
    asked_steps _ _ (name_in d) _
    (λ none. fails_here (is_no_type before p d free (type ∙ first_absent (name_in d) (size_in d) none)))
    (λ name named.
    asked_steps _ _ (size_in d) _
    (λ none. fails_here (is_no_type before p d free (type ∙ second_absent (name_in d) (size_in d) none)))
    (λ size given.
    let own = defines p.space name d in
    let sound : IsSound before p d = (free, type ∙ both_there (name_in d) (size_in d) name size named given) in
    steps _ _ (Almost before p d s []) (FailsAs before p d [])
    (defined own (Some (fixed size (bytes_kind d))) (now s)) _
    (defined_tells before [] p d s own (Some (fixed size (bytes_kind d))) m sound (a_fixed is named)) (λ e h. h)
    (λ q h. named_leaf before p d s q own (fixed size (bytes_kind d)) m some sound (a_fixed is named)
    (parts_kind p.space d kind.Fixed is) h.0 h.1)))
