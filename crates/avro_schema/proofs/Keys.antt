-- The names that were met, beside the map that holds them.
use Rattle.std.proofs.Common.{◌≡◌, ℕ, List, [], ◌∷◌, Option, Some, None, option_map, Ordering, Less, Equal, Greater}
use Rattle.std.proofs.Common.{nat_cmp, is_eq, cond, true, false, refl, sym, ap, ◌∙◌}
use Rattle.std.specs.Cmp.Lexicographic.{slice_cmp}
use Rattle.std.specs.Map.{lookup}
use Rattle.std.specs.Ordering.{match_ordering}
use Rattle.std.specs.BTreeMap.{insert_entry, is_at}
use Rattle.avro_schema.specs.declared.full_name.FullName.{FullName}
use Rattle.avro_schema.specs.declared.schema.Schema.{Schema}
use Rattle.avro_schema.specs.Tree.{Tree}
use Rattle.avro_schema.specs.View.{tree}
use Rattle.avro_schema.specs.Names.{Entry, put, name_order}
use Rattle.avro_schema.specs.Names as names
use Rattle.avro_schema.specs.Joined.{joined}
use Rattle.avro_schema.specs.Met.{entries}
use Rattle.avro_schema.proofs.Parts.{same_test}
use Rattle.std.specs.Option.{is_some}
use Rattle.std.specs.Prelude.{Ok, Err, Result}
use Rattle.avro_schema.specs.declared.fault.SchemaFault.{SchemaFault}
use Rattle.avro_schema.specs.Reading.{Seen, if_new, defined}
use Rattle.avro_schema.specs.declared.fault.SchemaFault.TheVariants.{NameTwice}

abbrev pub Held : Type 0
Held = FullName × Option Schema

found_or : (o : Ordering) (v : Option Schema) (rest : Option (Option Schema)) (d : Option (Option Tree))
    → option_map (λ (x : Option Schema). option_map tree x) rest ≡ d
    → option_map (λ (x : Option Schema). option_map tree x) (cond (is_eq o) (Some v) rest) ≡ match_ordering o d
    (Some (option_map tree v)) d
found_or Less v rest d e = e
found_or Equal v rest d e = refl
found_or Greater v rest d e = e

pub entries-lookup : (name : List ℕ) (es : List Held)
    → option_map (λ (x : Option Schema). option_map tree x)
    (lookup (is_at (λ (k : FullName). name_order name (joined k))) es) ≡ names.lookup name (entries es)
entries-lookup name [] = refl
entries-lookup name (e ∷ es) = rw (same_test name (joined e.0)) (found_or (slice_cmp nat_cmp name
    (joined e.0)) e.1 _ _ (entries-lookup name es))

entries-match_ordering : (o : Ordering) (a b c : List Held)
    → entries (match_ordering o a b c) ≡ match_ordering o (entries a) (entries b) (entries c)
entries-match_ordering Less a b c = refl
entries-match_ordering Equal a b c = refl
entries-match_ordering Greater a b c = refl

pub entries-insert_entry : (es : List Held) (k : FullName) (v : Option Schema)
    → entries (insert_entry (λ (x : FullName) (y : FullName). name_order (joined x) (joined y)) es k v) ≡ put
    (joined k) (option_map tree v) (entries es)
entries-insert_entry [] k v = refl
entries-insert_entry (e ∷ es) k v = entries-match_ordering (name_order (joined k) (joined e.0)) _ _ _ ∙ rw
    (entries-insert_entry es k v) refl

-- ---- what a definition finds

if_there : (o : Option (Option Schema)) (n : Option (Option Tree)) (s : Seen)
    → option_map (λ (x : Option Schema). option_map tree x) o ≡ n → is_some o ≡ true → if_new n s ≡ Err NameTwice
if_there None n s e h = absurd cc
if_there (Some x) n s e h = rw (sym e) refl

if_absent : (o : Option (Option Schema)) (n : Option (Option Tree)) (s : Seen)
    → option_map (λ (x : Option Schema). option_map tree x) o ≡ n → is_some o ≡ false → if_new n s ≡ Ok s
if_absent None n s e h = rw (sym e) refl
if_absent (Some x) n s e h = absurd cc

pub name_there : (name : List ℕ) (x : Option Tree) (es : List Held) (left : ℕ)
    → is_some (lookup (is_at (λ (k : FullName). name_order name (joined k))) es) ≡ true
    → defined name x (record { names = entries es; left = left }) ≡ Err NameTwice
unfolding defined
name_there name x es left h = if_there _ _ _ (entries-lookup name es) h

pub name_new : (name : List ℕ) (x : Option Tree) (es : List Held) (left : ℕ)
    → is_some (lookup (is_at (λ (k : FullName). name_order name (joined k))) es) ≡ false
    → defined name x (record { names = entries es; left = left }) ≡ Ok (record {
      names = put name x (entries es);
      left = left;
    })
unfolding defined
name_new name x es left h = if_absent _ _ _ (entries-lookup name es) h

abbrev pub with_names : ℕ → List Entry → Result Seen SchemaFault
with_names left es = Ok (record { names = es; left = left })

pub with_names_is : {es fs : List Entry} (left : ℕ) → es ≡ fs → with_names left es ≡ with_names left fs
with_names_is left e = ap (with_names left) e

pub found : (name : List ℕ) (es : List Held) (o : Option (Option Schema))
    → o ≡ lookup (is_at (λ (k : FullName). name_order name (joined k))) es
    → names.lookup name (entries es) ≡ option_map (λ (x : Option Schema). option_map tree x) o
found name es o e = sym (entries-lookup name es) ∙ ap (λ (y : Option (Option Schema)). option_map
    (λ (x : Option Schema). option_map tree x) y) (sym e)
