-- The paths of the files that a commit adds are different.
use Rattle.std.proofs.Common.{◌≡◌, ◌<◌, ◌+◌, ◌-◌, ◌^◌, ℕ, Bool, true, false, cond, List, ◌∷◌, ◌++◌, refl, sym, ◌∙◌, ap}
use Rattle.std.proofs.Common.{arith}
use Rattle.std.specs.Prelude.{codes, nat_lt, slice_get, Some}
use Rattle.std.specs.Fmt.{decimal}
use Rattle.std.proofs.lemmas.Fmt.{decimal_injective}
use Rattle.std.proofs.lemmas.List.{append_cancel_left, append_cancel_right}
use Rattle.uuid.specs.Text.{by_index, hex_digit, lower, nibble}
use Rattle.ice_meta.specs.declared.table.Table.{Table}
use Rattle.ice_catalog_changes.specs.declared.change.Ids.{Ids}
use Rattle.ice_catalog_changes.specs.NewFiles.{uuid_text}
use Rattle.ice_catalog_versions.specs.Adding.{list_name, list_path, manifest_name, manifest_path}

same_names : (location a b : List ℕ) → location ++ codes "/metadata/" ++ a ≡ location ++ codes "/metadata/" ++ b → a ≡ b
same_names location a b e = append_cancel_left (location ++ codes "/metadata/") a b e

pub same_numbers : (t : Table) (ids : Ids) (m n : ℕ) → m < 2 ^ 64 → n < 2 ^ 64
    → manifest_path t ids m ≡ manifest_path t ids n → m ≡ n
unfolding manifest_path
same_numbers t ids m n few less e =
    let names = same_names t.location (manifest_name ids m) (manifest_name ids n) e in
    let front = uuid_text ids ++ codes "-m" in
    decimal_injective m n few less (append_cancel_left front (decimal m) (decimal n)
    (append_cancel_right (front ++ decimal m) (front ++ decimal n) (codes ".avro") names))

-- a list's name begins with an s, which is no digit of a uuid
digit_below : (d : ℕ) → d < 16 → hex_digit lower d < 115
digit_below d h = here (nat_lt d 10) refl where
  here : (b : Bool) → nat_lt d 10 ≡ b → cond b (48 + d) (lower + d - 10) < 115
  here true e = omega (arith, h)
  here false e = omega (arith, h)

nibble_below : (uuid : List ℕ) → nibble uuid 0 < 16
nibble_below uuid = omega arith

first : (ids : Ids) → (rest : List ℕ) × (uuid_text ids ≡ hex_digit lower (nibble ids.uuid 0) ∷ rest)
unfolding by_index
first ids = (_, refl)

pub no_list : (t : Table) (ids : Ids) (m : ℕ) → manifest_path t ids m ≡ list_path t ids → ⊥
unfolding manifest_path list_path
no_list t ids m e =
    let names = same_names t.location (manifest_name ids m) (list_name ids) e in
    let start = first ids in
    let digit : slice_get (manifest_name ids m) 0 ≡ Some (hex_digit lower (nibble ids.uuid 0)) =
    ap (λ text. slice_get (text ++ codes "-m" ++ decimal m ++ codes ".avro") 0) start.1 in
    let letter : slice_get (manifest_name ids m) 0 ≡ Some 115 = ap (λ text. slice_get text 0) names in
    let both : Some (hex_digit lower (nibble ids.uuid 0)) ≡ Some 115 = sym digit ∙ letter in
    let same : hex_digit lower (nibble ids.uuid 0) ≡ 115 = cc in
    let below = digit_below (nibble ids.uuid 0) (nibble_below ids.uuid) in
    absurd (omega (arith, same, below))
