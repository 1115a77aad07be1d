-- A bundle's files by their paths, as its map has them.
use Rattle.std.proofs.Common.{◌≡◌, ℕ, Bool, true, false, List, [], ◌∷◌, refl, ap, sym, Option, Some, None, Vec, map}
use Rattle.std.proofs.Common.{string_bytes, cond, is_some, slice_get, option_map}
use Rattle.std.specs.Prelude.{String}
use Rattle.std.specs.Prelude.{Ok, Err}
use Rattle.std.specs.Map.{lookup}
use Rattle.std.specs.String.{string_eq}
use Rattle.std.specs.HashMap.{HashMap, get_by}
use Rattle.std.proofs.lemmas.List.{map-append}
use Rattle.indexmap.specs.IndexMap.{insert_entry}
use Rattle.indexmap.proofs.CallerLemmas.{insert_entry-new}
use Rattle.icescan_text.specs.declared.fault.RunFault.TheVariants as fault
use Rattle.std.specs.Str.{bytes_eq}
use Rattle.icescan_files.specs.Bundles.{File, bytes_at, first_path, added}

-- a map's entry, as contracts see it
abbrev pub seen : {Y Z : Type 0} → String Y × Vec ℕ Z → File
seen f = record { path = string_bytes f.0; bytes = f.1.items }

abbrev pub is_path : {Y : Type 0} → List ℕ → String Y → Bool
is_path q k = bytes_eq q (string_bytes k)

look_step : {Z : Type 0} (b : Bool) (v : Vec ℕ Z) (found : Option (Vec ℕ Z)) (rest : Option (List ℕ))
    → rest ≡ option_map (λ v. v.items) found
    → cond b (Some v.items) rest ≡ option_map (λ v. v.items) (cond b (Some v) found)
look_step true v found rest h = refl
look_step false v found rest h = h

-- the bytes at a path are those of the map's entry
pub bytes_seen : {Y Z : Type 0} (q : List ℕ) (es : List (String Y × Vec ℕ Z))
    → bytes_at (map seen es) q ≡ option_map (λ v. v.items) (lookup (is_path q) es)
bytes_seen q [] = refl
bytes_seen q (e ∷ es) = look_step (is_path q e.0) e.1 (lookup (is_path q) es) (bytes_at (map seen es) q)
    (bytes_seen q es)

pub is_some_map : {A B : Type 0} (f : A → B) (o : Option A) → is_some (option_map f o) ≡ is_some o
is_some_map f None = refl
is_some_map f (Some x) = refl

pub none_from : {A : Type 0} (o : Option A) → is_some o ≡ false → o ≡ None
none_from None h = refl
none_from (Some x) h = absurd cc

pub first_seen : {Y Z : Type 0} (es : List (String Y × Vec ℕ Z)) (k : String Y) (v : Vec ℕ Z)
    → Some (k, v) ≡ slice_get es 0 → Some (string_bytes k) ≡ first_path (map seen es)
first_seen [] k v h = absurd cc
first_seen (e ∷ es) k v h = let p : (k, v) ≡ e = cc in ap (λ p. Some (string_bytes p.0)) p

-- a file at a path that the map has is none of the bundle's
pub added_twice : {Y Z : Type 0} (n : ℕ) (es : List (String Y × Vec ℕ Z)) (file : File)
    → true ≡ is_some (lookup (is_path file.path) es) → added n (map seen es) (Some file) ≡ Err (fault.Bundle n)
added_twice n es file h = rw (bytes_seen file.path es, is_some_map, ← h) refl

-- a file at a new path stands behind the others
pub added_new : {Y Z S : Type 0} (n : ℕ) (m : HashMap (String Y) (Vec ℕ Z) S) (k : String Y) (v : Vec ℕ Z)
    → false ≡ is_some (get_by (is_path (string_bytes k)) m)
    → added n (map seen m.entries) (Some (seen (k, v))) ≡ Ok (map seen (insert_entry string_eq m.entries k v))
added_new n m k v h =
    let none = none_from (get_by (is_path (string_bytes k)) m) (sym h) in
    rw (bytes_seen (string_bytes k) m.entries, is_some_map, ← h, insert_entry-new string_eq m k v none, map-append) refl
