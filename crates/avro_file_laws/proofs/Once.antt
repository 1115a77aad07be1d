-- A header has one reading.
use Rattle.std.proofs.Common.{◌≡◌, ℕ, suc, ◌+◌, List, ◌++◌, length, Option, Some, None, Ok, refl, sym, ap, ◌∙◌}
use Rattle.std.proofs.Common.{append_assoc, arith}
use Rattle.std.proofs.lemmas.List.{append_cancel_left}
use Rattle.avro_schema.specs.Tree.{Tree}
use Rattle.avro_schema.specs.Texts.{schema_of}
use Rattle.avro_file_parts.specs.Parts.{Position, run_at}
use Rattle.avro_file.specs.Reading.{blocks_at}
use Rattle.avro_file.specs.Header.{Property, property_at, schema_key, last_under, IsProperty, AreProperties}
use Rattle.avro_file.specs.Files.{magic}
use Rattle.avro_file.specs.Writers.{IsHeader}
use Rattle.avro_file.proofs.Steps.{ok_is}
use Rattle.avro_file.proofs.Taken.{counts}
use Rattle.avro_file.proofs.Again.{run_again, blocks_again}
use Rattle.avro_file.proofs.Properties.{no_items}
use Rattle.avro_file.proofs.Metadata.{property_again}

abbrev size : List Property → ℕ
size ps = length ps + counts no_items ps

-- Reading is bound by a limit of items. Here it is as many as both readings need.
properties_once : (ps qs : List Property) (front back rest more : List ℕ) → AreProperties ps front
    → AreProperties qs back → front ++ rest ≡ back ++ more → (ps ≡ qs) × (rest ≡ more)
properties_once ps qs front back rest more a b e =
    let turns : ℕ = suc (a.0 + b.0) in
    let p : Position = record { bytes = front ++ rest; left = size qs + size ps } in
    let q : Position = record { bytes = rest; left = size qs } in
    let r : Position = record { bytes = more; left = size ps } in
    let one : blocks_at property_at turns p ≡ Ok (ps, q) = blocks_again property_at IsProperty no_items property_again
    a.0 turns ps front p q (omega arith) a.1 refl refl in
    let two : blocks_at property_at turns p ≡ Ok (qs, r) = blocks_again property_at IsProperty no_items property_again
    b.0 turns qs back p r (omega arith) b.1 e (omega arith) in
    let left : List Property × Position = (ps, q) in
    let right : List Property × Position = (qs, r) in
    let same : left ≡ right = ok_is left right (sym one ∙ two) in
    (ap (λ (x : List Property × Position). x.0) same, ap (λ (x : List Property × Position). x.1.bytes) same)

parted_once : (xs ys us vs : List ℕ) → length xs ≡ length ys → xs ++ us ≡ ys ++ vs → (xs ≡ ys) × (us ≡ vs)
parted_once xs ys us vs n e =
    let left : List ℕ × List ℕ = (xs, us) in
    let right : List ℕ × List ℕ = (ys, vs) in
    let same : left ≡ right = ok_is left right (sym (run_again xs us) ∙ ap (λ (k : ℕ). run_at k (xs ++ us)) n ∙ ap
    (λ (t : List ℕ). run_at (length ys) t) e ∙ run_again ys vs) in
    (ap (λ (x : List ℕ × List ℕ). x.0) same, ap (λ (x : List ℕ × List ℕ). x.1) same)

some_is : (x y : List ℕ) (found : Option (List ℕ)) → found ≡ Some x → found ≡ Some y → x ≡ y
some_is x y found e f = cc

-- where the metadata and the marker stand
pub header_parts : (header front sync rest : List ℕ) → header ≡ magic ++ (front ++ sync)
    → header ++ rest ≡ magic ++ (front ++ (sync ++ rest))
header_parts header front sync rest e = rw e (simp append_assoc)

pub header_once : (ps qs : List Property) (s t : Tree) (sync mark header other rest more : List ℕ)
    → IsHeader ps s sync header → IsHeader qs t mark other → header ++ rest ≡ other ++ more
    → (s ≡ t) × (sync ≡ mark) × (rest ≡ more)
header_once ps qs s t sync mark header other rest more a b e =
    let tails : a.1 ++ (sync ++ rest) ≡ b.1 ++ (mark ++ more) = append_cancel_left magic (a.1 ++ (sync ++ rest))
    (b.1 ++ (mark ++ more)) (sym (header_parts header a.1 sync rest a.7) ∙ e ∙ header_parts other b.1 mark more b.7) in
    let metadata = properties_once ps qs a.1 b.1 (sync ++ rest) (mark ++ more) a.2 b.2 tails in
    let marker = parted_once sync mark rest more (a.6 ∙ sym b.6) metadata.1 in
    let text : a.0 ≡ b.0 = some_is a.0 b.0 (last_under schema_key None ps) a.3
    (ap (λ (xs : List Property). last_under schema_key None xs) metadata.0 ∙ b.3) in
    (ok_is s t (sym a.4 ∙ ap schema_of text ∙ b.4), marker.0, marker.1)
