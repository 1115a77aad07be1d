-- A file holds one list of data at most, whatever their sizes.
use Rattle.std.proofs.Common.{◌≡◌, ◌≢◌, ℕ, zero, suc, ◌+◌, pos, List, [], ◌∷◌, ◌++◌, length, Option, Some, None, Ok}
use Rattle.std.proofs.Common.{refl, sym, ap, subst, ◌∙◌, arith}
use Rattle.std.proofs.lemmas.List.{append_cancel_left}
use Rattle.avro_schema.specs.Tree.{Tree}
use Rattle.avro_schema.specs.Texts.{schema_of}
use Rattle.avro_file.specs.Value.{Value}
use Rattle.avro_file_parts.specs.Parts.{Position, run_at}
use Rattle.avro_file.specs.Reading.{blocks_at, datum_at}
use Rattle.avro_file.specs.Spelling.{AreJoined, Spells, item_count}
use Rattle.avro_file_parts.specs.Heads.{BlockHead, head_at}
use Rattle.avro_file.specs.Holding.{HoldsBlocks}
use Rattle.avro_file.specs.Header.{Property, property_at, schema_key, last_under, IsProperty, AreProperties}
use Rattle.avro_file.specs.Files.{magic, HoldsFile}
use Rattle.avro_file.proofs.Steps.{ok_is}
use Rattle.avro_file.proofs.Taken.{counts}
use Rattle.avro_file.proofs.Again.{run_again, blocks_again, datum_again}
use Rattle.avro_file.proofs.Loop.{long_len}
use Rattle.avro_file.proofs.Properties.{no_items}
use Rattle.avro_file.proofs.Metadata.{property_again}
use Rattle.avro_file.proofs.Held.{head_again, some_bytes}

-- Reading is bound by a limit of items. Here it is as many as both readings need.

-- ---- objects

value_once : (s : Tree) (v w : Value) (front back rest more : List ℕ) → Spells s v front → Spells s w back
    → front ++ rest ≡ back ++ more → (v ≡ w) × (rest ≡ more)
value_once s v w front back rest more a b e =
    let p : Position = record { bytes = front ++ rest; left = item_count w + item_count v } in
    let q : Position = record { bytes = rest; left = item_count w } in
    let r : Position = record { bytes = more; left = item_count v } in
    let one : datum_at s p ≡ Ok (v, q) = datum_again s v front p q a refl refl in
    let other : datum_at s p ≡ Ok (w, r) = datum_again s w back p r b e (omega arith) in
    let left : Value × Position = (v, q) in
    let right : Value × Position = (w, r) in
    let same : left ≡ right = ok_is left right (sym one ∙ other) in
    (ap (λ (x : Value × Position). x.0) same, ap (λ (x : Value × Position). x.1.bytes) same)

joined_once : (s : Tree) (vs ws : List Value) (body other : List ℕ) → length vs ≡ length ws
    → AreJoined (Spells s) vs body → AreJoined (Spells s) ws other → body ≡ other → vs ≡ ws
joined_once s [] [] body other n a b e = refl
joined_once s [] (w ∷ ws) body other n a b e = absurd (omega (arith, n))
joined_once s (v ∷ vs) [] body other n a b e = absurd (omega (arith, n))
joined_once s (v ∷ vs) (w ∷ ws) body other n a b e =
    let first = value_once s v w a.0 b.0 a.1 b.1 a.2 b.2 (sym a.4 ∙ e ∙ b.4) in
    let others = joined_once s vs ws a.1 b.1 (omega (arith, n)) a.3 b.3 first.1 in
    ap (λ (x : Value). x ∷ vs) first.0 ∙ ap (λ (xs : List Value). w ∷ xs) others

-- ---- blocks

some_block : (s : Tree) (sync : List ℕ) (blocks : ℕ) (vs : List Value) (bytes : List ℕ)
    → HoldsBlocks s sync (suc blocks) vs bytes → bytes ≢ []
some_block s sync blocks vs bytes is = rw is.11 (some_bytes is.2 (is.3 ++ (is.4 ++ (sync ++ is.5)))
    (long_len is.2 (pos (length is.0)) is.6))

blocks_once : (s : Tree) (sync : List ℕ) → length sync ≡ 16 → (m n : ℕ) (vs ws : List Value) (bytes other : List ℕ)
    → HoldsBlocks s sync m vs bytes → HoldsBlocks s sync n ws other → bytes ≡ other → vs ≡ ws
blocks_once s sync sixteen zero zero vs ws bytes other a b e = a.0 ∙ sym b.0
blocks_once s sync sixteen zero (suc n) vs ws bytes other a b e = absurd (some_block s sync n ws other b (sym e ∙ a.1))
blocks_once s sync sixteen (suc m) zero vs ws bytes other a b e = absurd (some_block s sync m vs bytes a (e ∙ b.1))
blocks_once s sync sixteen (suc m) (suc n) vs ws bytes other a b e =
    let left : BlockHead = record { count = length a.0; content = a.4; rest = a.5 } in
    let right : BlockHead = record { count = length b.0; content = b.4; rest = b.5 } in
    let one : head_at sync bytes ≡ Ok left = head_again sync a.2 a.3 a.4 a.5 bytes (length a.0) sixteen a.6 a.7 a.11 in
    let two : head_at sync bytes ≡ Ok right = head_again sync b.2 b.3 b.4 b.5 bytes (length b.0) sixteen b.6 b.7
    (e ∙ b.11) in
    let same : left ≡ right = ok_is left right (sym one ∙ two) in
    let here = joined_once s a.0 b.0 a.4 b.4 (ap (λ (h : BlockHead). h.count) same) a.8 b.8
    (ap (λ (h : BlockHead). h.content) same) in
    let after = blocks_once s sync sixteen m n a.1 b.1 a.5 b.5 a.9 b.9 (ap (λ (h : BlockHead). h.rest) same) in
    a.10 ∙ ap (λ (xs : List Value). xs ++ a.1) here ∙ ap (λ (xs : List Value). b.0 ++ xs) after ∙ sym b.10

-- ---- the header

abbrev size : List Property → ℕ
size ps = length ps + counts no_items ps

properties_once : (ps qs : List Property) (front back rest more : List ℕ) → AreProperties ps front
    → AreProperties qs back → front ++ rest ≡ back ++ more → (ps ≡ qs) × (rest ≡ more)
properties_once ps qs front back rest more a b e =
    let turns : ℕ = suc (a.0 + b.0) in
    let p : Position = record { bytes = front ++ rest; left = size qs + size ps } in
    let q : Position = record { bytes = rest; left = size qs } in
    let r : Position = record { bytes = more; left = size ps } in
    let one : blocks_at property_at turns p ≡ Ok (ps, q) = blocks_again property_at IsProperty no_items property_again
    a.0 turns ps front p q (omega arith) a.1 refl refl in
    let two : blocks_at property_at turns p ≡ Ok (qs, r) = blocks_again property_at IsProperty no_items property_again
    b.0 turns qs back p r (omega arith) b.1 e (omega arith) in
    let left : List Property × Position = (ps, q) in
    let right : List Property × Position = (qs, r) in
    let same : left ≡ right = ok_is left right (sym one ∙ two) in
    (ap (λ (x : List Property × Position). x.0) same, ap (λ (x : List Property × Position). x.1.bytes) same)

parted_once : (xs ys us vs : List ℕ) → length xs ≡ length ys → xs ++ us ≡ ys ++ vs → (xs ≡ ys) × (us ≡ vs)
parted_once xs ys us vs n e =
    let left : List ℕ × List ℕ = (xs, us) in
    let right : List ℕ × List ℕ = (ys, vs) in
    let same : left ≡ right = ok_is left right (sym (run_again xs us) ∙ ap (λ (k : ℕ). run_at k (xs ++ us)) n ∙ ap
    (λ (t : List ℕ). run_at (length ys) t) e ∙ run_again ys vs) in
    (ap (λ (x : List ℕ × List ℕ). x.0) same, ap (λ (x : List ℕ × List ℕ). x.1) same)

some_is : (x y : List ℕ) (found : Option (List ℕ)) → found ≡ Some x → found ≡ Some y → x ≡ y
some_is x y found e f = cc

-- ---- whole files

pub one_list : (s t : Tree) (bytes : List ℕ) (vs ws : List Value) → HoldsFile s vs bytes → HoldsFile t ws bytes
    → (s ≡ t) × (vs ≡ ws)
one_list s t bytes vs ws a b =
    let tails : a.2 ++ (a.3 ++ a.4) ≡ b.2 ++ (b.3 ++ b.4) = append_cancel_left magic (a.2 ++ (a.3 ++ a.4))
    (b.2 ++ (b.3 ++ b.4)) (sym a.11 ∙ b.11) in
    let metadata = properties_once a.0 b.0 a.2 b.2 (a.3 ++ a.4) (b.3 ++ b.4) a.5 b.5 tails in
    let marker = parted_once a.3 b.3 a.4 b.4 (a.9 ∙ sym b.9) metadata.1 in
    let text : a.1 ≡ b.1 = some_is a.1 b.1 (last_under schema_key None a.0) a.6
    (ap (λ (ps : List Property). last_under schema_key None ps) metadata.0 ∙ b.6) in
    let schema : s ≡ t = ok_is s t (sym a.7 ∙ ap schema_of text ∙ b.7) in
    let of_one_schema : HoldsBlocks s b.3 b.10.0 ws b.4 = subst (λ (x : Tree). HoldsBlocks x b.3 b.10.0 ws b.4)
    (sym schema) b.10.1 in
    let of_one_marker : HoldsBlocks s a.3 b.10.0 ws b.4 = subst (λ (sync : List ℕ). HoldsBlocks s sync b.10.0 ws b.4)
    (sym marker.0) of_one_schema in
    (schema, blocks_once s a.3 a.9 a.10.0 b.10.0 vs ws a.4 b.4 a.10.1 of_one_marker marker.1)
