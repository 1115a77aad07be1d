-- What a value is that stands at the front of bytes, by its type.
use Rattle.std.proofs.Common.{◌≡◌, ℕ, suc, ℤ, pos, negsuc, Bool, List, length}
use Rattle.std.proofs.Common.{Result, Ok, Err, sym, ap, subst}
use Rattle.contract_words.specs.Outcome.{◌>>=◌}
use Rattle.avro_schema.specs.Tree.{Tree, null, boolean, int, long, float, double, symbols, octets, string, fixed}
use Rattle.avro_schema.specs.Tree.{structure, array, map, union}
use Rattle.avro_schema.specs.declared.schema.BytesKind.{BytesKind}
use Rattle.avro_file_parts.specs.declared.refusal.Refusal.{Refusal}
use Rattle.avro_file_parts.specs.Parts.{Position, Read, boolean_at, run_at, bytes_at, string_at, symbol_at}
use Rattle.avro_file_parts.specs.Number.{long_at, int_at}
use Rattle.avro_file.specs.Value.{Value, nothing, truth, small, whole, single, twice, symbol, text, run, raw, fields}
use Rattle.avro_file.specs.Value.{Values, items, entries, Entries, chosen, values_of, entries_of, Pair}
use Rattle.avro_file.specs.Reading.{leaf, blocks_at, entry_at, datum_at, fields_at, branch_at, chosen_by}
use Rattle.avro_file.specs.Blocks.{max_items, StandsAt}
use Rattle.avro_file.proofs.Steps.{bind_ok, ok_is}
use Rattle.avro_file_picked.proofs.Values.{stood}

-- ---- the values of a type

-- each value that a type makes is seen as this
abbrev pub Makes : {B : Type 0} → (Value → B) → B → Tree → Type 0
Makes see b null = see nothing ≡ b
Makes see b boolean = (x : Bool) → see (truth x) ≡ b
Makes see b int = (z : ℤ) → see (small z) ≡ b
Makes see b long = (z : ℤ) → see (whole z) ≡ b
Makes see b float = (s : List ℕ) → see (single s) ≡ b
Makes see b double = (s : List ℕ) → see (twice s) ≡ b
Makes see b (symbols n) = (k : ℕ) → see (symbol k) ≡ b
Makes see b (octets kind) = (s : List ℕ) → see (run s) ≡ b
Makes see b string = (s : List ℕ) → see (text s) ≡ b
Makes see b (fixed n kind) = (s : List ℕ) → see (raw s) ≡ b
Makes see b (structure fs) = (vs : Values) → see (fields vs) ≡ b
Makes see b (array t id kind) = (vs : Values) → see (items vs) ≡ b
Makes see b (map t) = (es : Entries) → see (entries es) ≡ b
Makes see b (union bs) = (n : ℕ) (v : Value) → see (chosen n v) ≡ b

abbrev made_of : {A : Type 0} → (A → Value) → (A → Position) → A → Read Value
made_of make rest x = Ok (make x, rest x)

made_seen : {A B : Type 0} (see : Value → B) (b : B) (r : Result A Refusal) (make : A → Value) (rest : A → Position)
    (v : Value) (q : Position) → ((x : A) → see (make x) ≡ b) → (r >>= made_of make rest) ≡ Ok (v, q) → see v ≡ b
made_seen {A} {B} see b (Ok x) make rest v q some e =
    let same : make x ≡ v = ap (λ (y : Value × Position). y.0) (ok_is (make x, rest x) (v, q) e) in
    subst (λ (w : Value). see w ≡ b) same (some x)
made_seen see b (Err f) make rest v q some e = absurd cc

leaf_seen : {A B : Type 0} (see : Value → B) (b : B) (make : A → Value) (left : ℕ) (r : Result (A × List ℕ) Refusal)
    (v : Value) (q : Position) → ((x : A) → see (make x) ≡ b) → leaf make left r ≡ Ok (v, q) → see v ≡ b
leaf_seen {A} {B} see b make left r v q some e =
    made_seen see b r (λ (x : A × List ℕ). make x.0) (λ (x : A × List ℕ). record { bytes = x.1; left = left }) v q
    (λ x. some x.0) e

chosen_seen : {B : Type 0} (see : Value → B) (b : B) (read : ℕ → Position → Read Value) (z : ℤ) (p : Position)
    (v : Value) (q : Position) → ((n : ℕ) (w : Value) → see (chosen n w) ≡ b) → chosen_by read z p ≡ Ok (v, q)
    → see v ≡ b
chosen_seen see b read (pos n) p v q some e =
    made_seen see b (read n p) (λ (x : Value × Position). chosen n x.0) (λ (x : Value × Position). x.1) v q
    (λ x. some n x.0) e
chosen_seen see b read (negsuc n) p v q some e = absurd cc

read_seen : {B : Type 0} (see : Value → B) (b : B) (t : Tree) (p : Position) (v : Value) (q : Position)
    → Makes see b t → datum_at t p ≡ Ok (v, q) → see v ≡ b
unfolding datum_at
read_seen see b null p v q makes e =
    let here : Result Position Refusal = Ok p in
    made_seen see b here (λ (x : Position). nothing) (λ (x : Position). x) v q (λ x. makes) e
read_seen see b boolean p v q makes e = leaf_seen see b truth p.left (boolean_at p.bytes) v q makes e
read_seen see b int p v q makes e = leaf_seen see b small p.left (int_at p.bytes) v q makes e
read_seen see b long p v q makes e = leaf_seen see b whole p.left (long_at p.bytes) v q makes e
read_seen see b float p v q makes e = leaf_seen see b single p.left (run_at 4 p.bytes) v q makes e
read_seen see b double p v q makes e = leaf_seen see b twice p.left (run_at 8 p.bytes) v q makes e
read_seen see b (symbols n) p v q makes e = leaf_seen see b symbol p.left (symbol_at n p.bytes) v q makes e
read_seen see b (octets kind) p v q makes e = leaf_seen see b run p.left (bytes_at p.bytes) v q makes e
read_seen see b string p v q makes e = leaf_seen see b text p.left (string_at p.bytes) v q makes e
read_seen see b (fixed n kind) p v q makes e = leaf_seen see b raw p.left (run_at n p.bytes) v q makes e
read_seen see b (structure fs) p v q makes e =
    made_seen see b (fields_at fs p) (λ (x : List Value × Position). fields (values_of x.0))
    (λ (x : List Value × Position). x.1) v q (λ x. makes (values_of x.0)) e
read_seen see b (array t id kind) p v q makes e =
    made_seen see b (blocks_at (datum_at t) (suc (length p.bytes)) p)
    (λ (x : List Value × Position). items (values_of x.0)) (λ (x : List Value × Position). x.1) v q
    (λ x. makes (values_of x.0)) e
read_seen see b (map t) p v q makes e =
    made_seen see b (blocks_at (entry_at (datum_at t)) (suc (length p.bytes)) p)
    (λ (x : List Pair × Position). entries (entries_of x.0)) (λ (x : List Pair × Position). x.1) v q
    (λ x. makes (entries_of x.0)) e
read_seen see b (union bs) p v q makes e =
    let n = bind_ok (long_at p.bytes) (λ n. chosen_by (branch_at bs) n.0 (record { bytes = n.1; left = p.left })) (v, q)
    e in
    chosen_seen see b (branch_at bs) n.0.0 (record { bytes = n.0.1; left = p.left }) v q makes n.2

-- what stands at the front of bytes is seen as each value of its type is
pub stands_seen : {B : Type 0} (see : Value → B) (b : B) (t : Tree) (bytes : List ℕ) (v : Value) → Makes see b t
    → StandsAt t bytes v → see v ≡ b
stands_seen see b t bytes v makes stands =
    let read = stood t bytes v stands in
    read_seen see b t (record { bytes = bytes; left = max_items }) v read.0 makes read.1

-- ---- leaves

-- the leaf that was read
leaf_taken : {A : Type 0} (make : A → Value) (left : ℕ) (r : Result (A × List ℕ) Refusal) (v : Value) (q : Position)
    → leaf make left r ≡ Ok (v, q) → (x : A × List ℕ) × (r ≡ Ok x) × (v ≡ make x.0)
leaf_taken {A} make left r v q e =
    let a = bind_ok r (λ x. Ok (make x.0, record { bytes = x.1; left = left })) (v, q) e in
    let same = ok_is (make a.0.0, record { bytes = a.0.1; left = left }) (v, q) a.2 in
    (a.0, a.1, sym (ap (λ (y : Value × Position). y.0) same))

pub boolean_stands : (bytes : List ℕ) (v : Value) → StandsAt boolean bytes v
    → (x : Bool × List ℕ) × (boolean_at bytes ≡ Ok x) × (v ≡ truth x.0)
unfolding datum_at
boolean_stands bytes v stands =
    let read = stood boolean bytes v stands in leaf_taken truth max_items (boolean_at bytes) v read.0 read.1

pub int_stands : (bytes : List ℕ) (v : Value) → StandsAt int bytes v
    → (x : ℤ × List ℕ) × (int_at bytes ≡ Ok x) × (v ≡ small x.0)
unfolding datum_at
int_stands bytes v stands =
    let read = stood int bytes v stands in leaf_taken small max_items (int_at bytes) v read.0 read.1

pub long_stands : (bytes : List ℕ) (v : Value) → StandsAt long bytes v
    → (x : ℤ × List ℕ) × (long_at bytes ≡ Ok x) × (v ≡ whole x.0)
unfolding datum_at
long_stands bytes v stands =
    let read = stood long bytes v stands in leaf_taken whole max_items (long_at bytes) v read.0 read.1

pub string_stands : (bytes : List ℕ) (v : Value) → StandsAt string bytes v
    → (x : List ℕ × List ℕ) × (string_at bytes ≡ Ok x) × (v ≡ text x.0)
unfolding datum_at
string_stands bytes v stands =
    let read = stood string bytes v stands in leaf_taken text max_items (string_at bytes) v read.0 read.1

pub octets_stand : (kind : BytesKind) (bytes : List ℕ) (v : Value) → StandsAt (octets kind) bytes v
    → (x : List ℕ × List ℕ) × (bytes_at bytes ≡ Ok x) × (v ≡ run x.0)
unfolding datum_at
octets_stand kind bytes v stands =
    let read = stood (octets kind) bytes v stands in leaf_taken run max_items (bytes_at bytes) v read.0 read.1
