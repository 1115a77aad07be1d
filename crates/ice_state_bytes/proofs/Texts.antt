-- The texts that a container's objects hold are UTF-8.
use Rattle.std.proofs.Common.{◌≡◌, ◌++◌, ℕ, zero, suc, ℤ, Bool, true, false, List, [], ◌∷◌, Option, Some, None, IfSome}
use Rattle.std.proofs.Common.{Ok, refl, sym, subst, length, nat_le, if◌then◌else◌}
use Rattle.std.specs.List.{AllByRecursion}
use Rattle.std.specs.Option.{option_eq}
use Rattle.std.specs.Ordering.{int_eq}
use Rattle.std.specs.Str.{IsUtf8}
use Rattle.std.proofs.lemmas.Str.{is_utf8-from_IsUtf8}
use Rattle.avro_schema.specs.Tree.{Tree, null, boolean, int, long, float, double, symbols, octets, string, fixed}
use Rattle.avro_schema.specs.Tree.{structure, array, map, union, Fields, no_fields, field, Branches, no_branches}
use Rattle.avro_schema.specs.Tree.{branch}
use Rattle.avro_file.specs.Value.{Value, nothing, text, fields}
use Rattle.avro_file.specs.Value.{chosen, Values, no_values, value, values_of}
use Rattle.avro_file.specs.Spelling.{AreJoined, Spells, SpellsBranch, SpellsFields}
use Rattle.avro_file.specs.Holding.{HoldsBlocks}
use Rattle.avro_file.specs.Picking.{Picked, Typed, present, bare, field_value, field_with, of_branch}
use Rattle.avro_file.specs.Picking.{pick, unless_absent, unless_null}
use Rattle.ice_manifest_fields.specs.declared.fault.FieldFault.TheVariants.{OutOfRange}
use Rattle.ice_manifest_fields.specs.Fields.{asked, at, if_there, optional_path, optional_text, path_at, record_at}
use Rattle.ice_manifest_fields.specs.Fields.{record_of, short_path, text_of, there}
use Rattle.ice_manifest_reading.proofs.Guards.{ok_is, passed, went_on}
use Rattle.ice_state_sections.specs.Entries.{is_path}

-- the texts of a value's fields, and of the branch that it chose
abbrev mutual
  pub HasTexts : Value → Type 0
  HasTexts (text s) = IsUtf8 s
  HasTexts (fields vs) = HaveTexts vs
  HasTexts (chosen n v) = HasTexts v
  HasTexts v = Unit {0}

  pub HaveTexts : Values → Type 0
  HaveTexts no_values = Unit {0}
  HaveTexts (value v vs) = HasTexts v × HaveTexts vs

-- ---- what bytes spell

mutual
  pub spelled : (t : Tree) (v : Value) (bytes : List ℕ) → Spells t v bytes → HasTexts v
  spelled null v bytes is = subst HasTexts (sym is.0) tt
  spelled boolean v bytes is = subst HasTexts (sym is.1) tt
  spelled long v bytes is = subst HasTexts (sym is.1) tt
  spelled int v bytes is = subst HasTexts (sym is.1) tt
  spelled float v bytes is = subst HasTexts (sym is.0) tt
  spelled double v bytes is = subst HasTexts (sym is.0) tt
  spelled (symbols n) v bytes is = subst HasTexts (sym is.1) tt
  spelled (octets kind) v bytes is = subst HasTexts (sym is.1) tt
  spelled string v bytes is = subst HasTexts (sym is.1) is.2
  spelled (fixed n kind) v bytes is = subst HasTexts (sym is.0) tt
  spelled (structure fs) v bytes is = subst HasTexts (sym is.1) (fields_spelled fs is.0 bytes is.2)
  spelled (array s id kind) v bytes is = subst HasTexts (sym is.1) tt
  spelled (map s) v bytes is = subst HasTexts (sym is.1) tt
  spelled (union bs) v bytes is = subst HasTexts (sym is.4) (branch_spelled bs is.0 is.1 is.3 is.6)

  fields_spelled : (fs : Fields) (vs : List Value) (bytes : List ℕ) → SpellsFields fs vs bytes
      → HaveTexts (values_of vs)
  fields_spelled no_fields vs bytes is = subst (λ (ws : List Value). HaveTexts (values_of ws)) (sym is.0) tt
  fields_spelled (field id s fs) vs bytes is =
      subst (λ (ws : List Value). HaveTexts (values_of ws)) (sym is.4)
      (spelled s is.0 is.2 is.5, fields_spelled fs is.1 is.3 is.6)

  branch_spelled : (bs : Branches) (n : ℕ) (v : Value) (bytes : List ℕ) → SpellsBranch bs n v bytes → HasTexts v
  branch_spelled no_branches n v bytes is = absurd is
  branch_spelled (branch s bs) zero v bytes is = spelled s v bytes is
  branch_spelled (branch s bs) (suc n) v bytes is = branch_spelled bs n v bytes is

joined_spelled : (s : Tree) (vs : List Value) (bytes : List ℕ) → AreJoined (Spells s) vs bytes
    → AllByRecursion HasTexts vs
joined_spelled s [] bytes is = tt
joined_spelled s (v ∷ vs) bytes is = (spelled s v is.0 is.2, joined_spelled s vs is.1 is.3)

all_both : (xs ys : List Value) → AllByRecursion HasTexts xs → AllByRecursion HasTexts ys
    → AllByRecursion HasTexts (xs ++ ys)
all_both [] ys all more = more
all_both (x ∷ xs) ys all more = (all.0, all_both xs ys all.1 more)

pub held : (s : Tree) (sync : List ℕ) (blocks : ℕ) (vs : List Value) (bytes : List ℕ)
    → HoldsBlocks s sync blocks vs bytes → AllByRecursion HasTexts vs
held s sync zero vs bytes is = subst (AllByRecursion HasTexts) (sym is.0) tt
held s sync (suc blocks) vs bytes is =
    subst (AllByRecursion HasTexts) (sym is.10)
    (all_both is.0 is.1 (joined_spelled s is.0 is.4 is.8) (held s sync blocks is.1 is.5 is.9))

-- ---- what stands at a field

abbrev IsGood : Typed → Type 0
IsGood x = HasTexts x.1

either_good : (b : Bool) (x : Typed) (o : Option Typed) → IsGood x → IfSome o IsGood
    → IfSome (if b then Some x else o) IsGood
either_good true x o is other = is
either_good false x o is other = other

field_good : (id : ℤ) (fs : Fields) (vs : Values) → HaveTexts vs → IfSome (field_value id fs vs) IsGood
field_good id no_fields vs all = tt
field_good id (field own t fs) no_values all = tt
field_good id (field own t fs) (value v vs) all =
    either_good (option_eq int_eq own (Some id)) (t, v) (field_value id fs vs) all.0 (field_good id fs vs all.1)

branch_good : (bs : Branches) (n : ℕ) (v : Value) → HasTexts v → IfSome (of_branch bs n v) IsGood
branch_good no_branches n v is = tt
branch_good (branch t bs) zero v is = is
branch_good (branch t bs) (suc n) v is = branch_good bs n v is

bare_good : (t : Tree) (v : Value) → HasTexts v → IfSome (bare (t, v)) IsGood
bare_good (union bs) (chosen n v) is = branch_good bs n v is
bare_good t v is = is

with_good : (id : ℤ) (t : Tree) (v : Value) → HasTexts v → IfSome (field_with id (t, v)) IsGood
with_good id (structure fs) (fields vs) is = field_good id fs vs is
with_good id t v is = tt

abbrev IsPicked : Picked → Type 0
IsPicked p = IfSome (there p) IsGood

present_good : (t : Tree) (v : Value) → HasTexts v → IsPicked (unless_null present (t, v))
present_good t nothing is = tt
present_good t v is = is

itself_good : (o : Option Typed) → IfSome o IsGood → IsPicked (unless_absent (unless_null present) o)
itself_good None is = tt
itself_good (Some (t, v)) is = present_good t v is

pick_good : (o : Option Typed) → IfSome o IsGood → IsPicked (unless_absent (pick []) o)
pick_good None is = tt
pick_good (Some (t, v)) is = itself_good (bare (t, v)) (bare_good t v is)

inner_good : (id : ℤ) (t : Tree) (v : Value) → HasTexts v
    → IsPicked (unless_null (λ y. unless_absent (pick []) (field_with id y)) (t, v))
inner_good id t nothing is = tt
inner_good id t v is = pick_good (field_with id (t, v)) (with_good id t v is)

outer_good : (id : ℤ) (o : Option Typed) → IfSome o IsGood
    → IsPicked (unless_absent (unless_null (λ y. unless_absent (pick []) (field_with id y))) o)
outer_good id None is = tt
outer_good id (Some (t, v)) is = inner_good id t v is

at_good : (id : ℤ) (x : Typed) → HasTexts x.1 → IfSome (there (at id x)) IsGood
at_good id (t, v) is = outer_good id (bare (t, v)) (bare_good t v is)

-- ---- paths and records

text_good : (o : Option Typed) (s : List ℕ) → IfSome o IsGood → text_of o ≡ Some s → IsUtf8 s
text_good None s is h = absurd cc
text_good (Some (t, text r)) s is h = let same : r ≡ s = cc in subst IsUtf8 same is
text_good (Some (t, v)) s is h = absurd cc

record_good : (o : Option Typed) (y : Typed) → IfSome o IsGood → record_of o ≡ Some y → HasTexts y.1
record_good None y is h = absurd cc
record_good (Some (structure fs, fields vs)) y is h =
    let same : (structure fs, fields vs) ≡ y = cc in subst (λ (z : Typed). HasTexts z.1) same is
record_good (Some x) y is h = absurd cc

asked_is : {A : Type 0} (id : ℤ) (o : Option A) (x : A) → asked id o ≡ Ok x → o ≡ Some x
asked_is id None x h = absurd cc
asked_is id (Some y) x h = cc

pub record_at_good : (id : ℤ) (x y : Typed) → HasTexts x.1 → record_at id x ≡ Ok y → HasTexts y.1
record_at_good id x y is h =
    record_good (there (at id x)) y (at_good id x is) (asked_is id (record_of (there (at id x))) y h)

short_is : (id : ℤ) (s p : List ℕ) → IsUtf8 s → short_path id s ≡ Ok p → is_path p ≡ true
short_is id s p is h =
    let q = passed (nat_le (length s) 65535) (OutOfRange id) (Ok s) p h in
    let same : s ≡ p = ok_is s p q.1 in
    let both : is_path s ≡ true = rw (q.0, is_utf8-from_IsUtf8 s is) refl in
    subst (λ (r : List ℕ). is_path r ≡ true) same both

pub path_at_good : (id : ℤ) (x : Typed) (p : List ℕ) → HasTexts x.1 → path_at id x ≡ Ok p → is_path p ≡ true
unfolding path_at
path_at_good id x p is h =
    let s = went_on (asked id (text_of (there (at id x)))) (short_path id) p h in
    let is_text = asked_is id (text_of (there (at id x))) s.0 s.1 in
    short_is id s.0 p (text_good (there (at id x)) s.0 (at_good id x is) is_text) s.2

if_there_good : (id : ℤ) (o : Option (List ℕ)) (r : Option (List ℕ)) → IfSome o IsUtf8
    → if_there (short_path id) o ≡ Ok r → IfSome r (λ p. is_path p ≡ true)
if_there_good id None r is h =
    let same : None ≡ r = ok_is None r h in subst (λ (q : Option (List ℕ)). IfSome q (λ p. is_path p ≡ true)) same tt
if_there_good id (Some s) r is h =
    let p = went_on (short_path id s) (λ y. Ok (Some y)) r h in
    let same : Some p.0 ≡ r = ok_is (Some p.0) r p.2 in
    subst (λ (q : Option (List ℕ)). IfSome q (λ p. is_path p ≡ true)) same (short_is id s p.0 is p.1)

text_some : (o : Option Typed) → IfSome o IsGood → IfSome (text_of o) IsUtf8
text_some None is = tt
text_some (Some (t, text r)) is = is
text_some (Some (t, v)) is = tt

pub optional_path_good : (id : ℤ) (x : Typed) (r : Option (List ℕ)) → HasTexts x.1 → optional_path id x ≡ Ok r
    → IfSome r (λ p. is_path p ≡ true)
unfolding optional_path
optional_path_good id x r is h =
    if_there_good id (optional_text id x) r (text_some (there (at id x)) (at_good id x is)) h
