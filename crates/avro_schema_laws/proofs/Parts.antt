-- Types with parts: arrays, maps, unions and records.
use Rattle.std.proofs.Common.{◌≡◌, ◌⊎◌, ◌<◌, ℕ, suc, List, [], ◌∷◌, ◌++◌, Bool, true, false, Option, Some, None, Ok}
use Rattle.std.proofs.Common.{refl, sym, ap, ◌∙◌}
use mathlib.Core.Logic.{inl, inr}
use Rattle.std.specs.Prelude.{MatchResult, codes, ℤ, ◌||◌, is_some, not}
use Rattle.std.specs.List.{list_any}
use Rattle.std.proofs.lemmas.List.Folds.{list_any-append}
use Rattle.std.proofs.lemmas.Bool.Decides.{Decides-int_eq}
use Rattle.serde_json.specs.Data as json
use Rattle.serde_json.specs.Data.{Data, Items}
use Rattle.serde_json.specs.Find.{get}
use Rattle.avro_schema.specs.declared.fault.SchemaFault.{SchemaFault}
use Rattle.avro_schema.specs.declared.attributes.Kind.TheVariants as kind
use Rattle.avro_schema.specs.declared.reading.Role.{Role}
use Rattle.avro_schema.specs.declared.reading.Role.TheVariants as role
use Rattle.contract_words.specs.Outcome.{◌>>=◌}
use Rattle.avro_schema.specs.Tree.{Tree, array, map, structure}
use Rattle.avro_schema.specs.View.{Part, fields_of}
use Rattle.avro_schema.specs.Names.{space_of}
use Rattle.avro_schema.specs.Attributes.{name_in, id_in, items_in, is_object, array_kind}
use Rattle.avro_schema.specs.Reading.{Seen, asked, has_id, fresh, each_at, branches_at, field_at, fields_at}
use Rattle.avro_schema.specs.Reading.{record_at, array_at, map_at, union_at, defined, defines, tree_at}
use Rattle.avro_schema.specs.Inside.{kind_in, Among, first, later, a_record}
use Rattle.avro_schema.specs.Order.{Node, parts_in, branch_nodes, field_nodes, first_part, later_part}
use Rattle.avro_schema.proofs.Known.{no_nth}
use Rattle.avro_schema.proofs.Holding.{uses_kind, defines_kind, defines_no_kind, parts_items}
use Rattle.avro_schema.proofs.Holding.{parts_values, parts_fields}
use Rattle.avro_schema.proofs.Ids.{Front, HeldBy, fresh_tells}
use Rattle.avro_schema.proofs.Trace.{NoUse, NoDefinition}
use Rattle.avro_schema.proofs.Traced.{both_weaker, union_no_use, closes}
use Rattle.avro_schema.proofs.Whole.{nodes_on}
use Rattle.avro_schema_laws.specs.Walk.{Place, Stop, at_type, at_field, if_there, in_branches, in_fields, in_kind, walk}
use Rattle.avro_schema_laws.specs.Sound.{is_type, is_field}
use Rattle.avro_schema_laws.specs.Faults.{IsSound}
use Rattle.avro_schema_laws.proofs.Passing.{passed, Faultless, none_left, passes_on, Fails, fails_here, fails_on}
use Rattle.avro_schema_laws.proofs.Passing.{fails_first, fails_second}
use Rattle.avro_schema_laws.proofs.Stops.{type_kind, field_free, is_no_type, is_no_field, has_id_twice}
use Rattle.avro_schema_laws.proofs.Matching.{Matches, matches_field, matches_plain, matches_open}
use Rattle.avro_schema_laws.proofs.Closing.{steps, asked_steps, CoversAll, covers_none, covers_behind, Done}
use Rattle.avro_schema_laws.proofs.Closing.{AllDone, done_both, done_type, Almost, with_name}
use Rattle.avro_schema_laws.proofs.Naming.{now, has_room, plain_free, named_free, DoneAs, FailsAs, defined_tells}
use Rattle.avro_schema_laws.proofs.Naming.{both_there}
use Rattle.avro_schema_laws.proofs.Naming.{first_absent, second_absent}

abbrev pub in_union : Role → Bool
in_union role.Branch = true
in_union role.Elsewhere = false

-- the reader does what the walk comes to, where so many levels may come
abbrev pub Tells : ℕ → Type 0
Tells n = (at : Role) (records : List (List ℕ)) (space : List ℕ) (d : Data) (s : Seen) (before : List Stop)
    → Matches before records s → MatchResult (tree_at n at space d s)
    (λ x. Done before (walk n (in_union at) records space d) records space d x.1)
    (Fails before (walk n (in_union at) records space d))

-- ---- items and values

only_part : (before stops : List Stop) (records : List (List ℕ)) (n : Node) (ns : List Node) (q : Seen)
    → ns ≡ n ∷ [] → Done before stops records n.0 n.1 q → AllDone before stops records ns q
only_part before stops records n ns q is h = rw is (record {
  passes = h.passes;
  matches = h.matches;
  covers = alone;
})
  where
    alone : CoversAll stops (n ∷ [])
    alone i m first_part = h.covers
    alone i m (later_part {i = j} nth) = absurd (no_nth j m [] refl nth)

part_tells : (n : ℕ) → Tells n → (before : List Stop) (p : Place) (d : Data) (s : Seen) (o : Option Data)
    (makes : Tree → Tree) → p.levels ≡ suc n → Matches before p.records s → 0 < s.left → NoUse p.space d
    → NoDefinition p.space d → is_type p.is_branch d ≡ is_some o
    → ((e : Data) → o ≡ Some e → parts_in p.space d ≡ (p.space, e) ∷ [])
    → MatchResult (asked o >>= λ e. tree_at n role.Elsewhere p.space e (now s) >>= λ x. Ok (makes x.0, x.1))
    (DoneAs before p d (if_there (walk n false p.records p.space) o))
    (FailsAs before p d (if_there (walk n false p.records p.space) o))
part_tells n h before p d s None makes levels m some unused undefined type parts =
    fails_here (is_no_type before p d (has_room before p s n levels m some) type)
part_tells n h before p d s (Some e) makes levels m some unused undefined type parts =
    let sound : IsSound before p d = (has_room before p s n levels m some, type) in
    let free : Faultless before (at_type p d) = plain_free before p d sound unused undefined in
    steps _ _ _ _ (tree_at n role.Elsewhere p.space e (now s)) _
    (h role.Elsewhere p.records p.space e (now s) (at_type p d ∷ before) (matches_plain before p d s m some unused
    undefined)) (λ f k. fails_on free k) (λ x k. done_type before (walk n false p.records p.space e) p d x.1 free
    (only_part (at_type p d ∷ before) (walk n false p.records p.space e) p.records (p.space, e) (parts_in p.space d) x.1
    (parts e refl) k))

pub array_tells : (n : ℕ) → Tells n → (before : List Stop) (p : Place) (d : Data) (s : Seen)
    → kind_in d ≡ Some kind.Array → p.levels ≡ suc n → Matches before p.records s → 0 < s.left
    → MatchResult (array_at (tree_at n) p.space d (now s))
    (DoneAs before p d (in_kind (walk n) p.records p.space (Some kind.Array) d))
    (FailsAs before p d (in_kind (walk n) p.records p.space (Some kind.Array) d))
unfolding array_at
array_tells n h before p d s is levels m some =
    part_tells n h before p d s (get (codes "items") d) (λ t. array t (id_in (codes "element-id") d) (array_kind d))
    levels m some (λ name u. uses_kind p.space name d kind.Array is u)
    (λ name k. defines_kind p.space d name kind.Array is k) (type_kind p.is_branch d kind.Array is)
    (λ e e_there. parts_items p.space d e is e_there)

pub map_tells : (n : ℕ) → Tells n → (before : List Stop) (p : Place) (d : Data) (s : Seen)
    → kind_in d ≡ Some kind.Map → p.levels ≡ suc n → Matches before p.records s → 0 < s.left
    → MatchResult (map_at (tree_at n) p.space d (now s))
    (DoneAs before p d (in_kind (walk n) p.records p.space (Some kind.Map) d))
    (FailsAs before p d (in_kind (walk n) p.records p.space (Some kind.Map) d))
unfolding map_at
map_tells n h before p d s is levels m some =
    part_tells n h before p d s (get (codes "values") d) map levels m some
    (λ name u. uses_kind p.space name d kind.Map is u) (λ name k. defines_kind p.space d name kind.Map is k)
    (type_kind p.is_branch d kind.Map is) (λ e e_there. parts_values p.space d e is e_there)

-- ---- branches

none_done : (before : List Stop) (records : List (List ℕ)) (s : Seen) → Matches before records s
    → AllDone before [] records [] s
none_done before records s m = record {
  passes = none_left;
  matches = m;
  covers = covers_none [] [] refl;
}

branches_tell : (n : ℕ) → Tells n → (records : List (List ℕ)) (space : List ℕ) (front : List Tree) (ds : Items)
    (s : Seen) (before : List Stop) → Matches before records s
    → MatchResult (branches_at (tree_at n role.Branch space) front ds s)
    (λ x. AllDone before (in_branches (walk n true records space) ds) records (branch_nodes space ds) x.1)
    (Fails before (in_branches (walk n true records space) ds))
unfolding each_at
branches_tell n h records space front json.no_items s before m = none_done before records s m
branches_tell n h records space front (json.item d ds) s before m =
    steps _ _ _ _ (tree_at n role.Branch space d s) _ (h role.Branch records space d s before m)
    (λ e k. fails_first before (walk n true records space d) (in_branches (walk n true records space) ds) e k)
    (λ x one. both_weaker (branches_at (tree_at n role.Branch space) (front ++ x.0 ∷ []) ds x.1) _ _ _ _
    (λ y rest. done_both before (walk n true records space d) (in_branches (walk n true records space) ds) records
    (space, d) (branch_nodes space ds) x.1 y.1 one rest)
    (λ e k. fails_second before (walk n true records space d) (in_branches (walk n true records space) ds) e one.passes
    k)
    (branches_tell n h records space (front ++ x.0 ∷ []) ds x.1 (passed before (walk n true records space d))
    one.matches))

pub union_tells : (n : ℕ) → Tells n → (before : List Stop) (p : Place) (at : Role) (ds : Items) (s : Seen)
    → p.is_branch ≡ in_union at → p.levels ≡ suc n → Matches before p.records s → 0 < s.left
    → MatchResult (union_at (tree_at n) at p.space ds (now s))
    (DoneAs before p (json.array ds) (in_branches (walk n true p.records p.space) ds))
    (FailsAs before p (json.array ds) (in_branches (walk n true p.records p.space) ds))
unfolding union_at parts_in
union_tells n h before p role.Branch ds s is levels m some =
    fails_here (is_no_type before p (json.array ds) (has_room before p s n levels m some) (ap not is))
union_tells n h before p role.Elsewhere ds s is levels m some =
    let unused : NoUse p.space (json.array ds) = λ name u. union_no_use p.space name ds u in
    let undefined : NoDefinition p.space (json.array ds) = λ name k. defines_no_kind p.space (json.array ds) name refl k
    in
    let sound : IsSound before p (json.array ds) = (has_room before p s n levels m some, ap not is) in
    let free : Faultless before (at_type p (json.array ds)) = plain_free before p (json.array ds) sound unused undefined
    in
    steps _ _ _ _ (branches_at (tree_at n role.Branch p.space) [] ds (now s)) _
    (branches_tell n h p.records p.space [] ds (now s) (at_type p (json.array ds) ∷ before)
    (matches_plain before p (json.array ds) s m some unused undefined)) (λ e k. fails_on free k)
    (λ x k. done_type before (in_branches (walk n true p.records p.space) ds) p (json.array ds) x.1 free k)

-- ---- the ids of fields

abbrev SameIds : List Part → Items → Type 0
SameIds front fields = ((id : ℤ) → Front id front → HeldBy id fields)
    × ((id : ℤ) → HeldBy id fields → Front id front)

or_cases : (a b : Bool) → (a || b) ≡ true → (a ≡ true) ⊎ (b ≡ true)
or_cases true b h = inl refl
or_cases false b h = inr h

or_first : (a b : Bool) → a ≡ true → (a || b) ≡ true
or_first true b h = refl
or_first false b h = absurd cc

or_second : (a b : Bool) → b ≡ true → (a || b) ≡ true
or_second true b h = refl
or_second false b h = h

has_own : (id : ℤ) (o : Option ℤ) (t : Tree) → o ≡ Some id → has_id id (o, t) ≡ true
has_own id o t is = rw is ((Decides-int_eq id id).1 refl)

own_has : (id : ℤ) (o : Option ℤ) (t : Tree) → has_id id (o, t) ≡ true → o ≡ Some id
own_has id None t h = absurd cc
own_has id (Some x) t h = ap Some ((Decides-int_eq x id).0 h)

none_held : (f : Data) (fs : Items) → fs ≡ json.no_items → Among f fs → ⊥
none_held f fs e first = absurd cc
none_held f fs e (later a) = absurd cc

no_ids : SameIds [] json.no_items
no_ids = (λ id h. let no : false ≡ true = h in absurd cc, λ id h. absurd (none_held h.0 json.no_items refl h.1.0))

ids_on : (front : List Part) (fields : Items) (f : Data) (q : Part) → q.0 ≡ id_in (codes "field-id") f
    → SameIds front fields → SameIds (front ++ q ∷ []) (json.item f fields)
ids_on front fields f q is same = (
  λ id h. held id (or_cases (list_any (has_id id) front) (has_id id q || false)
      (sym (list_any-append (has_id id) front (q ∷ [])) ∙ h)),
  λ id h. list_any-append (has_id id) front (q ∷ []) ∙ had id h.0 h.1.0 h.1.1,
)
  where
    held : (id : ℤ) → (list_any (has_id id) front ≡ true) ⊎ ((has_id id q || false) ≡ true)
        → HeldBy id (json.item f fields)
    held id (inl h) = let r = same.0 id h in (r.0, (later r.1.0, r.1.1))
    held id (inr h) = own id (or_cases (has_id id q) false h)
      where
        own : (id : ℤ) → (has_id id q ≡ true) ⊎ (false ≡ true) → HeldBy id (json.item f fields)
        own id (inl k) = (f, (first, sym is ∙ own_has id q.0 q.1 k))
        own id (inr k) = absurd cc

    had : (id : ℤ) (g : Data) → Among g (json.item f fields) → id_in (codes "field-id") g ≡ Some id
        → (list_any (has_id id) front || (has_id id q || false)) ≡ true
    had id g first own = or_second (list_any (has_id id) front) (has_id id q || false) (or_first (has_id id q) false
        (has_own id q.0 q.1 (is ∙ own)))
    had id g (later among) own = or_first (list_any (has_id id) front) (has_id id q || false) (same.1 id (
      g,
      (
        among,
        own,
      ),
    ))

-- ---- fields

record FieldDone (before : List Stop) (records : List (List ℕ)) (space : List ℕ) (n : ℕ) (fields : Items) (f : Data)
    (x : Part × Seen) : Type 0 where
  pub type : Data
  pub is : get (codes "type") f ≡ Some type
  pub id : x.0.0 ≡ id_in (codes "field-id") f
  pub free : Faultless before (at_field fields f)
  pub done : Done (at_field fields f ∷ before) (walk n false records space type) records space type x.1

field_tells : (n : ℕ) → Tells n → (records : List (List ℕ)) (space : List ℕ) (front : List Part) (fields : Items)
    (f : Data) (s : Seen) (before : List Stop) → Matches before records s → SameIds front fields
    → MatchResult (field_at (tree_at n role.Elsewhere space) front f s) (FieldDone before records space n fields f)
    (Fails before (at_field fields f ∷ if_there (walk n false records space) (get (codes "type") f)))
unfolding field_at
field_tells n h records space front fields f s before m ids =
    asked_steps _ _ (name_in f) _
    (λ none. fails_here (is_no_field before fields f (first_absent (name_in f) (get (codes "type") f) none)))
    (λ name named.
    asked_steps _ _ (get (codes "type") f) _
    (λ none. fails_here (is_no_field before fields f (second_absent (name_in f) (get (codes "type") f) none)))
    (λ type typed.
    let sound : is_field f ≡ true = both_there (name_in f) (get (codes "type") f) name type named typed in
    steps _ _ _ _ (fresh (id_in (codes "field-id") f) front) _ (fresh_tells f (id_in (codes "field-id") f) front refl)
    (λ e had. let g = ids.0 had.0 had.1.1.1 in rw had.1.0 (fails_here (has_id_twice before fields f g.0 had.0 sound
    had.1.1.0 g.1.0 g.1.1))) (λ id new.
    let free : Faultless before (at_field fields f) = field_free before fields f sound (λ g id own among other. new.1 id
    own (ids.1 id (g, (among, other)))) in
    steps _ _ _ _ (tree_at n role.Elsewhere space type s) _
    (h role.Elsewhere records space type s (at_field fields f ∷ before) (matches_field before records s fields f m))
    (λ e k. rw typed (fails_on free k)) (λ x k. record {
      type = type;
      is = typed;
      id = new.0;
      free = free;
      done = k;
    }))))

field_on : (n : ℕ) (records : List (List ℕ)) (space : List ℕ) (fields : Items) (f : Data) (fs : Items)
    (before : List Stop) (x : Part × Seen) (q : Seen) → (one : FieldDone before records space n fields f x)
    → AllDone (passed (at_field fields f ∷ before) (walk n false records space one.type))
    (in_fields (walk n false records space) (json.item f fields) fs) records (field_nodes space fs) q
    → AllDone before (in_fields (walk n false records space) fields (json.item f fs)) records
    (field_nodes space (json.item f fs)) q
field_on n records space fields f fs before x q one rest =
    let both = done_both (at_field fields f ∷ before) (walk n false records space one.type)
    (in_fields (walk n false records space) (json.item f fields) fs) records (space, one.type) (field_nodes space fs)
    x.1 q one.done rest in
    rw (nodes_on space f one.type fs one.is, one.is) (record {
      passes = passes_on one.free both.passes;
      matches = both.matches;
      covers = covers_behind (at_field fields f) _ _ both.covers;
    })

fields_fail : (n : ℕ) (records : List (List ℕ)) (space : List ℕ) (fields : Items) (f : Data) (fs : Items)
    (before : List Stop) (x : Part × Seen) (e : SchemaFault) → (one : FieldDone before records space n fields f x)
    → Fails (passed (at_field fields f ∷ before) (walk n false records space one.type))
    (in_fields (walk n false records space) (json.item f fields) fs) e
    → Fails before (in_fields (walk n false records space) fields (json.item f fs)) e
fields_fail n records space fields f fs before x e one rest =
    rw one.is (fails_on one.free (fails_second (at_field fields f ∷ before) (walk n false records space one.type)
    (in_fields (walk n false records space) (json.item f fields) fs) e one.done.passes rest))

fields_tell : (n : ℕ) → Tells n → (records : List (List ℕ)) (space : List ℕ) (front : List Part) (fields : Items)
    (fs : Items) (s : Seen) (before : List Stop) → Matches before records s → SameIds front fields
    → MatchResult (fields_at (tree_at n role.Elsewhere space) front fs s)
    (λ x. AllDone before (in_fields (walk n false records space) fields fs) records (field_nodes space fs) x.1)
    (Fails before (in_fields (walk n false records space) fields fs))
unfolding each_at
fields_tell n h records space front fields json.no_items s before m ids = none_done before records s m
fields_tell n h records space front fields (json.item f fs) s before m ids =
    steps _ _ _ _ (field_at (tree_at n role.Elsewhere space) front f s) _
    (field_tells n h records space front fields f s before m ids) (λ e k. fails_first before
    (at_field fields f ∷ if_there (walk n false records space) (get (codes "type") f))
    (in_fields (walk n false records space) (json.item f fields) fs) e k) (λ x one.
    both_weaker (fields_at (tree_at n role.Elsewhere space) (front ++ x.0 ∷ []) fs x.1) _ _ _ _
    (λ y rest. field_on n records space fields f fs before x y.1 one rest)
    (λ e k. fields_fail n records space fields f fs before x e one k)
    (fields_tell n h records space (front ++ x.0 ∷ []) (json.item f fields) fs x.1
    (passed (at_field fields f ∷ before) (walk n false records space one.type)) one.done.matches
    (ids_on front fields f x.0 one.id ids)))

-- ---- records

fields_inside : (n : ℕ) (p : Place) (d : Data) (name : List ℕ) (fs : Items) → name_in d ≡ Some name
    → items_in is_object (codes "fields") d ≡ Some fs
    → in_kind (walk n) p.records p.space (Some kind.Record) d ≡ in_fields
    (walk n false (defines p.space name d ∷ p.records) (space_of (defines p.space name d))) json.no_items fs
fields_inside n p d name fs named listed = rw (named, listed) refl

pub record_tells : (n : ℕ) → Tells n → (before : List Stop) (p : Place) (d : Data) (s : Seen)
    → kind_in d ≡ Some kind.Record → p.levels ≡ suc n → Matches before p.records s → 0 < s.left
    → MatchResult (record_at (tree_at n) p.space d (now s))
    (Almost before p d s (in_kind (walk n) p.records p.space (Some kind.Record) d))
    (FailsAs before p d (in_kind (walk n) p.records p.space (Some kind.Record) d))
unfolding record_at
record_tells n h before p d s is levels m some =
    let type = type_kind p.is_branch d kind.Record is in
    let given = items_in is_object (codes "fields") d in
    asked_steps _ _ (name_in d) _ (λ none. fails_here (is_no_type before p d (has_room before p s n levels m some)
    (type ∙ first_absent (name_in d) given none))) (λ name named.
    asked_steps _ _ given _ (λ none. fails_here (is_no_type before p d (has_room before p s n levels m some)
    (type ∙ second_absent (name_in d) given none))) (λ fs listed.
    let own = defines p.space name d in
    let sound : IsSound before p d = (
      has_room before p s n levels m some,
      type ∙ both_there (name_in d) given name fs
          named listed,
    ) in
    rw (fields_inside n p d name fs named listed) (
    steps _ _ _ _ (defined own None (now s)) _ (defined_tells before (in_fields (walk n false (own ∷ p.records)
    (space_of own)) json.no_items fs) p d s own None m sound (a_record is named)) (λ e k. k) (λ opened new.
    let free : Faultless before (at_type p d) = named_free before p d s own m sound (a_record is named) new.0 in
    let start : Matches (at_type p d ∷ before) (own ∷ p.records) opened =
    rw new.1 (matches_open before p d own s m some (a_record is named) new.0) in
    steps _ _ _ _ (fields_at (tree_at n role.Elsewhere (space_of own)) [] fs opened) _
    (fields_tell n h (own ∷ p.records) (space_of own) [] json.no_items fs opened (at_type p d ∷ before) start no_ids)
    (λ e k. fails_on free k) (λ x k. with_name (a_record is named) new.0 free
    (rw (parts_fields p.space name d fs is named listed) k)
    (closes own (structure (fields_of x.0)) x.1.names) refl)))))
