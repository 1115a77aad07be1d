-- What the reader does follows the rules of `Trace`.
use Rattle.std.proofs.Common.{◌≡◌, ◌⊎◌, ℕ, Bool, true, false, List, [], ◌∷◌, ◌++◌, Option, Some, None, Result, Ok, Err}
use Rattle.std.proofs.Common.{Ordering, Less, Equal, Greater, nat_cmp, refl, sym, ap, ◌∙◌}
use mathlib.Core.Logic.{inl, inr}
use Rattle.std.specs.Prelude.{MatchResult, ⊤, codes, nat_lt}
use Rattle.std.specs.Ordering.{match_ordering}
use Rattle.std.specs.Cmp.Lexicographic.{slice_cmp}
use Rattle.std.proofs.lemmas.Map.Lookups.{exact_bytes}
use Rattle.serde_json.specs.Data as json
use Rattle.serde_json.specs.Data.{Data, Items}
use Rattle.serde_json.specs.Find.{get, as_array}
use Rattle.avro_schema.specs.declared.fault.SchemaFault.{SchemaFault}
use Rattle.avro_schema.specs.declared.fault.SchemaFault.TheVariants.{UnknownType}
use Rattle.avro_schema.specs.declared.reading.Role.{Role}
use Rattle.avro_schema.specs.declared.reading.Role.TheVariants as role
use Rattle.avro_schema.specs.declared.attributes.Kind.{Kind}
use Rattle.avro_schema.specs.declared.attributes.Kind.TheVariants as kind
use Rattle.avro_schema.specs.declared.schema.BytesKind.TheVariants as of_bytes
use Rattle.contract_words.specs.Outcome.{◌>>=◌}
use Rattle.avro_schema.specs.Tree.{Tree, octets, symbols, fixed, union, array, map}
use Rattle.avro_schema.specs.Size.{left_after, below, height}
use Rattle.avro_schema.specs.View.{branches_of}
use Rattle.avro_schema.specs.Names.{Entry, lookup, put, full}
use Rattle.avro_schema.specs.Attributes.{name_in, id_in, symbols_in, size_in, array_kind, bytes_kind, plain, text_in}
use Rattle.avro_schema.specs.Attributes.{kind_of}
use Rattle.avro_schema.specs.Reading.{Seen, Reader, asked, if_left, used, plain_or_used, named, if_new, defined}
use Rattle.avro_schema.specs.Reading.{defines, each_at, branches_at, array_at, map_at, enum_at, fixed_at, of_word}
use Rattle.avro_schema.specs.Reading.{union_at}
use Rattle.avro_schema.specs.Inside.{kind_in, Uses, a_text, a_type, Defines, an_enum, a_fixed}
use Rattle.avro_schema.specs.Order.{branch_nodes, parts_in}
use Rattle.avro_schema.specs.Stands.{Meaning, Stands, plain_text, bytes_text, union_array, fixed_object, enum_object}
use Rattle.avro_schema.specs.Stands.{array_object, map_object, BranchesStand, no_branch, next_branch}
use Rattle.avro_schema.proofs.Kept.{New, lookup-put, lookup-put_same}
use Rattle.avro_schema.proofs.Recursion as recursion
use Rattle.avro_schema.proofs.Shapes.{before_branches, before_branches-push, before_branches-none}
use Rattle.avro_schema.proofs.Holding.{IsWord, IsNamed, uses_kind, defines_kind, defines_no_kind, parts_kind}
use Rattle.avro_schema.proofs.Holding.{parts_items, parts_values, one_kind}
use Rattle.avro_schema.proofs.Trace.{AllStand, all_next, NoUse, NoDefinition, NoIdTwice, Closes, Took, took_use}
use Rattle.avro_schema.proofs.Trace.{took_plain, took_named, TookAll, took_none, took_next, Failed, failed_other}
use Rattle.avro_schema.proofs.Trace.{failed_use, failed_name, failed_plain, FailedIn, failed_first, failed_later}

-- ---- results

pub both_bind : {A B E : Type 0} (P : A → Type 0) (F : E → Type 0) (Q : B → Type 0) (r : Result A E) (f : A
    → Result B E) → MatchResult r P F → ((x : A) → P x → MatchResult (f x) Q F) → MatchResult (r >>= f) Q F
both_bind P F Q (Ok x) f h k = k x h
both_bind P F Q (Err e) f h k = h

pub both_weaker : {A E : Type 0} (r : Result A E) (P Q : A → Type 0) (F G : E → Type 0) → ((x : A) → P x → Q x)
    → ((e : E) → F e → G e) → MatchResult r P F → MatchResult r Q G
both_weaker (Ok x) P Q F G f g h = f x h
both_weaker (Err e) P Q F G f g h = g e h

pub asked_tells : {A : Type 0} (F : SchemaFault → Type 0) → F UnknownType → (o : Option A)
    → MatchResult (asked o) (λ x. o ≡ Some x) F
asked_tells F h None = h
asked_tells F h (Some x) = refl

-- ---- what is read

-- a branch is no union
abbrev pub Single : Role → Data → Type 0
Single role.Branch d = as_array d ≡ None
Single role.Elsewhere d = ⊤

pub single : (at : Role) (d : Data) → as_array d ≡ None → Single at d
single role.Branch d h = h
single role.Elsewhere d h = tt

abbrev pub TookIt : List ℕ → Data → Seen → Tree × Seen → Type 0
TookIt space d s x = Took space d s.names x.0 x.1.names

abbrev pub TookAt : Role → List ℕ → Data → Seen → Tree × Seen → Type 0
TookAt at space d s x = Single at d × Took space d s.names x.0 x.1.names

abbrev pub FailedIt : List ℕ → Data → Seen → SchemaFault → Type 0
FailedIt space d s = Failed space d s.names

abbrev pub Tells : Reader → Type 0
Tells read = (at : Role) (space : List ℕ) (d : Data) (s : Seen)
    → MatchResult (read at space d s) (TookAt at space d s) (FailedIt space d s)

pub leaf : (space : List ℕ) (d : Data) (es : List Entry) (t : Tree) → parts_in space d ≡ [] → NoUse space d
    → NoDefinition space d → NoIdTwice d → ((names : Meaning) → Stands names space d t) → Took space d es t es
leaf space d es t none unused definition ids stands =
    let all : TookAll (parts_in space d) es [] es = rw none took_none in
    took_plain unused definition ids all (λ names _. stands names)

pub no_record : (d : Data) → (kind_in d ≡ Some kind.Record → ⊥) → NoIdTwice d
no_record d h = λ id ds is there twice. h is

-- ---- names

if_left_tells : (n : ℕ) (space name : List ℕ) (d : Data) (t : Tree) (o : Option ℕ) (b : Bool) (s : Seen)
    → nat_lt n (height t) ≡ b → Uses space d name → lookup name s.names ≡ Some (Some t)
    → MatchResult (if_left n t o s) (TookIt space d s) (FailedIt space d s)
if_left_tells n space name d t None b s h u l = failed_other tt
if_left_tells n space name d t (Some left) true s h u l = rw h (failed_other tt)
if_left_tells n space name d t (Some left) false s h u l = rw h (took_use u l)

used_tells : (n : ℕ) (space name : List ℕ) (d : Data) (o : Option (Option Tree)) (s : Seen) → Uses space d name
    → lookup name s.names ≡ o → MatchResult (used n o s) (TookIt space d s) (FailedIt space d s)
used_tells n space name d None s u l = failed_use refl u l
used_tells n space name d (Some None) s u l = failed_other tt
used_tells n space name d (Some (Some t)) s u l = if_left_tells n space name d t (left_after s.left (below t))
    (nat_lt n (height t)) s refl u l

plain_or_used_tells : (n : ℕ) (space word : List ℕ) (d : Data) (o : Option Tree) (s : Seen)
    → ((t : Tree) → o ≡ Some t → Took space d s.names t s.names) → (o ≡ None → Uses space d (full space word))
    → MatchResult (plain_or_used n o (full space word) s) (TookIt space d s) (FailedIt space d s)
plain_or_used_tells n space word d (Some t) s h u = h t refl
plain_or_used_tells n space word d None s h u = used_tells n space (full space word) d (lookup (full space word)
    s.names) s (u refl) refl

pub named_tells : (n : ℕ) (space word : List ℕ) (d : Data) (s : Seen)
    → ((t : Tree) → plain word ≡ Some t → Took space d s.names t s.names)
    → (plain word ≡ None → Uses space d (full space word))
    → MatchResult (named n space word s) (TookIt space d s) (FailedIt space d s)
unfolding named
named_tells n space word d s h u = plain_or_used_tells n space word d (plain word) s h u

pub plain_no_use : (space word name : List ℕ) (t : Tree) → plain word ≡ Some t → Uses space (json.string word) name → ⊥
plain_no_use space word name t p (a_text w none) = let e : None ≡ Some t = sym none ∙ p in absurd cc
plain_no_use space word name t p (a_type type w none) = absurd cc

pub plain_type_no_use : (space word name : List ℕ) (d : Data) (t : Tree) → text_in (codes "type") d ≡ Some word
    → plain word ≡ Some t → Uses space d name → ⊥
plain_type_no_use space word name d t type p (a_text w none) = absurd cc
plain_type_no_use space word name d t type p (a_type {word = other} own w none) =
    let e : Some other ≡ Some word = sym own ∙ type in
    let same : other ≡ word = cc in
    let f : None ≡ Some t = sym none ∙ ap plain same ∙ p in absurd cc

text_leaf : (space word : List ℕ) (es : List Entry) (t : Tree) → plain word ≡ Some t
    → ((names : Meaning) → Stands names space (json.string word) t) → Took space (json.string word) es t es
unfolding parts_in
text_leaf space word es t p stands = leaf space (json.string word) es t refl (λ name u. plain_no_use space word name t p
    u) (λ name h. defines_no_kind space (json.string word) name refl h) (no_record (json.string word) (λ h. absurd cc))
    stands

bytes_tell : (n : ℕ) (space : List ℕ) (s : Seen)
    → MatchResult (named n space (codes "bytes") s) (TookIt space (json.string (codes "bytes")) s)
    (FailedIt space (json.string (codes "bytes")) s)
unfolding named
bytes_tell n space s = text_leaf space (codes "bytes") s.names (octets of_bytes.Plain) refl (λ names. bytes_text)

pub of_word_tells : (n : ℕ) (space : List ℕ) (k : Kind) (word : List ℕ) (s : Seen) → kind_of word ≡ k
    → MatchResult (of_word n space k word s) (TookIt space (json.string word) s) (FailedIt space (json.string word) s)
of_word_tells n space kind.Array word s is = failed_other tt
of_word_tells n space kind.Map word s is = failed_other tt
of_word_tells n space kind.Record word s is = failed_other tt
of_word_tells n space kind.Enum word s is = failed_other tt
of_word_tells n space kind.Fixed word s is = failed_other tt
of_word_tells n space kind.Bytes word s is = rw (recursion.bytes_text word is) (bytes_tell n space s)
of_word_tells n space kind.Word word s is = named_tells n space word (json.string word) s (λ t p. text_leaf space word
    s.names t p (λ names. plain_text is p)) (λ none. a_text is none)

-- ---- definitions

or_same : (name own : List ℕ) (x : Option Tree) (a : Option (Option Tree)) (o : Ordering)
    → slice_cmp nat_cmp name own ≡ o → (name ≡ own) ⊎ (match_ordering o a (Some x) a ≡ a)
or_same name own x a Less h = inr refl
or_same name own x a Equal h = inl (exact_bytes name own h)
or_same name own x a Greater h = inr refl

pub put_elsewhere : (name own : List ℕ) (x : Option Tree) (es : List Entry)
    → (name ≡ own) ⊎ (lookup name (put own x es) ≡ lookup name es)
put_elsewhere name own x es = rw (lookup-put name own x es) (or_same name own x (lookup name es)
    (slice_cmp nat_cmp name own) refl)

pub closes : (own : List ℕ) (t : Tree) (es : List Entry) → Closes own t es (put own (Some t) es)
closes own t es = (lookup-put_same own (Some t) es, λ name. put_elsewhere name own (Some t) es)

either : (name own : List ℕ) (a b c : Option (Option Tree)) → (name ≡ own) ⊎ (a ≡ c) → (name ≡ own) ⊎ (b ≡ c)
    → (name ≡ own) ⊎ (a ≡ b)
either name own a b c (inl h) k = inl h
either name own a b c (inr h) (inl k) = inl k
either name own a b c (inr h) (inr k) = inr (h ∙ sym k)

closes_leaf : (own : List ℕ) (t : Tree) (es : List Entry) → Closes own t (put own None es) (put own (Some t) es)
closes_leaf own t es = (
  lookup-put_same own (Some t) es,
  λ name. either name own (lookup name (put own (Some t) es))
      (lookup name (put own None es)) (lookup name es) (put_elsewhere name own (Some t) es) (put_elsewhere name own None
      es),
)

if_new_tells : (space name : List ℕ) (d : Data) (x : Option Tree) (s : Seen) (o : Option (Option Tree))
    → Defines space d name → lookup name s.names ≡ o → MatchResult (if_new o (record s { names = put name x s.names }))
    (New name x s) (FailedIt space d s)
if_new_tells space name d x s None h l = (l, refl)
if_new_tells space name d x s (Some e) h l = failed_name refl h l

pub defined_tells : (space name : List ℕ) (d : Data) (x : Option Tree) (s : Seen) → Defines space d name
    → MatchResult (defined name x s) (New name x s) (FailedIt space d s)
unfolding defined
defined_tells space name d x s h = if_new_tells space name d x s (lookup name s.names) h refl

named_leaf : (space own : List ℕ) (d : Data) (s q : Seen) (t : Tree) → parts_in space d ≡ [] → Defines space d own
    → NoIdTwice d → New own (Some t) s q → ((names : Meaning) → Stands names space d t) → Took space d s.names t q.names
named_leaf space own d s q t none h ids new stands =
    let all : TookAll (parts_in space d) (put own None s.names) [] (put own None s.names) = rw none took_none in
    rw new.1 (took_named h new.0 ids all (closes_leaf own t s.names) (λ names _. stands names))

pub enum_tells : (space : List ℕ) (d : Data) (s : Seen) → kind_in d ≡ Some kind.Enum
    → MatchResult (enum_at space d s) (TookIt space d s) (FailedIt space d s)
unfolding enum_at
enum_tells space d s is =
    both_bind (λ name. name_in d ≡ Some name) _ _ (asked (name_in d)) _ (asked_tells _ (failed_other tt) (name_in d))
    (λ name named.
    both_bind (λ n. symbols_in d ≡ Some n) _ _ (asked (symbols_in d)) _ (asked_tells _ (failed_other tt) (symbols_in d))
    (λ n there.
    both_bind (New (defines space name d) (Some (symbols n)) s) _ _ (defined (defines space name d) (Some (symbols n))
    s) _ (defined_tells space (defines space name d) d (Some (symbols n)) s (an_enum is named)) (λ now new.
    named_leaf space (defines space name d) d s now (symbols n) (parts_kind space d kind.Enum is) (an_enum is named)
    (no_record d (λ h. let e : kind.Enum ≡ kind.Record = one_kind d kind.Enum kind.Record is h in absurd cc)) new
    (λ names. enum_object is named there))))

pub fixed_tells : (space : List ℕ) (d : Data) (s : Seen) → kind_in d ≡ Some kind.Fixed
    → MatchResult (fixed_at space d s) (TookIt space d s) (FailedIt space d s)
unfolding fixed_at
fixed_tells space d s is =
    both_bind (λ name. name_in d ≡ Some name) _ _ (asked (name_in d)) _ (asked_tells _ (failed_other tt) (name_in d))
    (λ name named.
    both_bind (λ n. size_in d ≡ Some n) _ _ (asked (size_in d)) _ (asked_tells _ (failed_other tt) (size_in d))
    (λ n there.
    both_bind (New (defines space name d) (Some (fixed n (bytes_kind d))) s) _ _ (defined (defines space name d)
    (Some (fixed n (bytes_kind d))) s) _ (defined_tells space (defines space name d) d
    (Some (fixed n (bytes_kind d))) s (a_fixed is named)) (λ now new.
    named_leaf space (defines space name d) d s now (fixed n (bytes_kind d)) (parts_kind space d kind.Fixed is)
    (a_fixed is named) (no_record d (λ h. let e : kind.Fixed ≡ kind.Record = one_kind d kind.Fixed kind.Record is
    h in absurd cc)) new (λ names. fixed_object is named there))))

-- ---- items and values

only_part : (names : Meaning) (space : List ℕ) (e : Data) (t : Tree) → AllStand names ((space, e) ∷ []) (t ∷ [])
    → Stands names space e t
only_part names space e t (all_next h rest) = h

-- a type of this kind, which has no name, with one part
one_part : (space : List ℕ) (d e : Data) (es fs : List Entry) (k : Kind) (t u : Tree) → kind_in d ≡ Some k
    → (IsWord k → ⊥) → (IsNamed k → ⊥) → parts_in space d ≡ (space, e) ∷ [] → Took space e es t fs
    → ((names : Meaning) → Stands names space e t → Stands names space d u) → Took space d es u fs
one_part space d e es fs k t u is word named parts took stands =
    let all : TookAll (parts_in space d) es (t ∷ []) fs = rw parts (took_next took took_none) in
    took_plain (λ name h. word (uses_kind space name d k is h)) (λ name h. named (defines_kind space d name k is h))
    (no_record d (λ h. named (let same : k ≡ kind.Record = one_kind d k kind.Record is h in rw same tt))) all
    (λ names h. stands names (only_part names space e t (rw parts at h)))

one_failed : (space : List ℕ) (d e : Data) (es : List Entry) (k : Kind) (fault : SchemaFault) → kind_in d ≡ Some k
    → (IsWord k → ⊥) → (IsNamed k → ⊥) → parts_in space d ≡ (space, e) ∷ [] → Failed space e es fault
    → Failed space d es fault
one_failed space d e es k fault is word named parts failed =
    let all : FailedIn (parts_in space d) es fault = rw parts (failed_first failed) in
    failed_plain (λ name h. word (uses_kind space name d k is h)) (λ name h. named (defines_kind space d name k is h))
    all

pub array_tells : (read : Reader) → Tells read → (space : List ℕ) (d : Data) (s : Seen) → kind_in d ≡ Some kind.Array
    → MatchResult (array_at read space d s) (TookIt space d s) (FailedIt space d s)
unfolding array_at
array_tells read h space d s is =
    both_bind (λ e. get (codes "items") d ≡ Some e) _ _ (asked (get (codes "items") d)) _
    (asked_tells _ (failed_other tt) (get (codes "items") d)) (λ e there.
    both_bind (λ x. Took space e s.names x.0 x.1.names) _ _ (read role.Elsewhere space e s) _
    (both_weaker (read role.Elsewhere space e s) (TookAt role.Elsewhere space e s) (TookIt space e s)
    (FailedIt space e s) (FailedIt space d s) (λ x p. p.1) (λ f p. one_failed space d e s.names kind.Array f is
    (λ z. z) (λ z. z) (parts_items space d e is there) p) (h role.Elsewhere space e s))
    (λ x p. one_part space d e s.names x.1.names kind.Array x.0 (array x.0 (id_in (codes "element-id") d)
    (array_kind d)) is (λ z. z) (λ z. z) (parts_items space d e is there) p (λ names q. array_object is there q)))

pub map_tells : (read : Reader) → Tells read → (space : List ℕ) (d : Data) (s : Seen) → kind_in d ≡ Some kind.Map
    → MatchResult (map_at read space d s) (TookIt space d s) (FailedIt space d s)
unfolding map_at
map_tells read h space d s is =
    both_bind (λ e. get (codes "values") d ≡ Some e) _ _ (asked (get (codes "values") d)) _
    (asked_tells _ (failed_other tt) (get (codes "values") d)) (λ e there.
    both_bind (λ x. Took space e s.names x.0 x.1.names) _ _ (read role.Elsewhere space e s) _
    (both_weaker (read role.Elsewhere space e s) (TookAt role.Elsewhere space e s) (TookIt space e s)
    (FailedIt space e s) (FailedIt space d s) (λ x p. p.1) (λ f p. one_failed space d e s.names kind.Map f is
    (λ z. z) (λ z. z) (parts_values space d e is there) p) (h role.Elsewhere space e s))
    (λ x p. one_part space d e s.names x.1.names kind.Map x.0 (map x.0) is (λ z. z) (λ z. z) (parts_values space d e is
    there) p (λ names q. map_object is there q)))

-- ---- branches

data BranchesTook : List ℕ → Items → List Entry → List Tree → List Tree → List Entry → Type 0 where
  branches_took : {space : List ℕ} {ds : Items} {es fs : List Entry} {front all ts : List Tree}
      → TookAll (branch_nodes space ds) es ts fs → branches_of all ≡ before_branches front (branches_of ts)
      → ((names : Meaning) → AllStand names (branch_nodes space ds) ts → BranchesStand names space ds (branches_of ts))
      → BranchesTook space ds es front all fs

next_stands : (names : Meaning) (space : List ℕ) (d : Data) (ds : Items) (t : Tree) (ts : List Tree) → as_array d ≡ None
    → ((names : Meaning) → AllStand names (branch_nodes space ds) ts → BranchesStand names space ds (branches_of ts))
    → AllStand names ((space, d) ∷ branch_nodes space ds) (t ∷ ts)
    → BranchesStand names space (json.item d ds) (branches_of (t ∷ ts))
next_stands names space d ds t ts alone so (all_next h rest) = next_branch alone h (so names rest)

branch_on : (space : List ℕ) (d : Data) (ds : Items) (es fs gs : List Entry) (front all : List Tree) (t : Tree)
    → as_array d ≡ None → Took space d es t fs → BranchesTook space ds fs (front ++ t ∷ []) all gs
    → BranchesTook space (json.item d ds) es front all gs
branch_on space d ds es fs gs front all t alone took (branches_took {ts} more same so) =
    branches_took (took_next took more) (same ∙ before_branches-push front t (branches_of ts))
    (λ names h. next_stands names space d ds t ts alone so h)

branches_tell : (read : Reader) → Tells read → (space : List ℕ) (front : List Tree) (ds : Items) (s : Seen)
    → MatchResult (branches_at (read role.Branch space) front ds s) (λ x. BranchesTook space ds s.names front x.0
    x.1.names) (FailedIn (branch_nodes space ds) s.names)
unfolding each_at
branches_tell read h space front json.no_items s = branches_took took_none (before_branches-none front)
    (λ names _. no_branch)
branches_tell read h space front (json.item d ds) s =
    both_bind (TookAt role.Branch space d s) _ _ (read role.Branch space d s) _
    (both_weaker (read role.Branch space d s) (TookAt role.Branch space d s) (TookAt role.Branch space d s)
    (FailedIt space d s) (FailedIn (branch_nodes space (json.item d ds)) s.names) (λ x p. p) (λ f p. failed_first p)
    (h role.Branch space d s)) (λ x took.
    both_weaker (branches_at (read role.Branch space) (front ++ x.0 ∷ []) ds x.1) (λ y. BranchesTook space ds x.1.names
    (front ++ x.0 ∷ []) y.0 y.1.names) (λ y. BranchesTook space (json.item d ds) s.names front y.0 y.1.names)
    (FailedIn (branch_nodes space ds) x.1.names) (FailedIn (branch_nodes space (json.item d ds)) s.names)
    (λ y p. branch_on space d ds s.names x.1.names y.1.names front y.0 x.0 took.0 took.1 p) (λ f p. failed_later took.1
    p)
    (branches_tell read h space (front ++ x.0 ∷ []) ds x.1))

pub union_no_use : (space name : List ℕ) (ds : Items) → Uses space (json.array ds) name → ⊥
union_no_use space name ds (a_type type w p) = absurd cc

union_took : (space : List ℕ) (ds : Items) (es fs : List Entry) (all : List Tree) → BranchesTook space ds es [] all fs
    → Took space (json.array ds) es (union (branches_of all)) fs
unfolding parts_in before_branches
union_took space ds es fs all (branches_took took same so) =
    took_plain (λ name u. union_no_use space name ds u) (λ name h. defines_no_kind space (json.array ds) name refl h)
    (no_record (json.array ds) (λ h. absurd cc)) took (λ names h. rw same (union_array (so names h)))

pub union_tells : (read : Reader) → Tells read → (at : Role) (space : List ℕ) (ds : Items) (s : Seen)
    → MatchResult (union_at read at space ds s) (TookAt at space (json.array ds) s) (FailedIt space (json.array ds) s)
unfolding union_at parts_in
union_tells read h role.Branch space ds s = failed_other tt
union_tells read h role.Elsewhere space ds s =
    both_bind (λ x. BranchesTook space ds s.names [] x.0 x.1.names) _ _ (branches_at (read role.Branch space) [] ds s) _
    (both_weaker (branches_at (read role.Branch space) [] ds s) (λ x. BranchesTook space ds s.names [] x.0 x.1.names)
    (λ x. BranchesTook space ds s.names [] x.0 x.1.names) (FailedIn (branch_nodes space ds) s.names)
    (FailedIt space (json.array ds) s) (λ x p. p)
    (λ f p. failed_plain (λ name u. union_no_use space name ds u) (λ name h. defines_no_kind space (json.array ds) name
    refl h) p) (branches_tell read h space [] ds s))
    (λ x p. (tt, union_took space ds s.names x.1.names x.0 p))
