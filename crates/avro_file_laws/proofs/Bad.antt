-- How the parts of a value are refused that hold no others.
use Rattle.std.proofs.Common.{◌≡◌, ℕ, zero, suc, ◌+◌, ◌^◌, ◌<◌, ◌≤◌, ℤ, pos, negsuc, Bool, true, false, cond, ltb, List}
use Rattle.std.proofs.Common.{[], ◌∷◌, ◌++◌, length, take, drop, Ok, Err, ◌⊎◌, inl, inr, refl, sym, ap, subst, ◌∙◌}
use Rattle.std.proofs.Common.{append_assoc, arith}
use Rattle.std.specs.Str.{is_utf8, IsUtf8}
use Rattle.std.proofs.lemmas.Bool.{ltb-true, ltb-false, lt-ltb}
use Rattle.std.proofs.lemmas.Str.{is_utf8-from_IsUtf8, IsUtf8-from_is_utf8}
use Rattle.avro_file_parts.specs.declared.refusal.Refusal.{Refusal}
use Rattle.avro_file_parts.specs.declared.refusal.Refusal.TheVariants as refusal
use Rattle.avro_file_parts.specs.Number.{IsLong, IsInt, signed_of, number_at, long_at, int_at}
use Rattle.avro_file_parts.specs.Parts.{boolean_at, run_at, run_of, bytes_at, string_at, symbol_of, symbol_at}
use Rattle.avro_file.specs.declared.fault.AvroFault.{AvroFault}
use Rattle.avro_file.specs.declared.fault.AvroFault.TheVariants as fault
use Rattle.avro_file.specs.Spelling.{IsRun}
use Rattle.avro_file.specs.Blocks.{fault_of, inside}
use Rattle.avro_file.proofs.Steps.{bind_ok, either, ok_is}
use Rattle.avro_file.proofs.Taken.{Front, long_takes, bytes_take, number_takes}
use Rattle.avro_file.proofs.Again.{long_again, bytes_again}
use Rattle.avro_file_laws.specs.Parts.{Part, a_long, an_int, a_symbol, a_branch, a_count, a_length, some_bytes, a_text}
use Rattle.avro_file_laws.specs.Parts.{a_truth, a_block_number, the_marker, StandsWrong, IsNatural, IsPosition, EndsIn}
use Rattle.avro_file_laws.specs.Parts.{IsWrong}
use Rattle.avro_file_laws.specs.Coming.{Coming, IsFirst, ComesInRun}
use Rattle.avro_file_laws.proofs.Numbers.{which_way, groups_again, err_is, bind_err, NumberErr, long_err, long_fails}
use Rattle.avro_file_laws.proofs.Numbers.{int_err, int_fails}

-- which refusal a fault is that is told of a part
abbrev pub refusal_of : AvroFault → Refusal
refusal_of fault.NotAvro = refusal.Memory
refusal_of (fault.Codec name) = refusal.Memory
refusal_of (fault.Truncated n) = refusal.Memory
refusal_of fault.BadNumber = refusal.BadNumber
refusal_of fault.BadUnion = refusal.BadUnion
refusal_of fault.BadUtf8 = refusal.BadUtf8
refusal_of fault.BadSync = refusal.BadSync
refusal_of fault.BlockSize = refusal.BlockSize
refusal_of (fault.Schema e) = refusal.Memory
refusal_of fault.Memory = refusal.Memory
refusal_of fault.BadBoolean = refusal.BadBoolean
refusal_of fault.TooManyItems = refusal.TooManyItems

-- the bytes hold no such part, of which this is the refusal
abbrev pub Bad : ℕ → Part → List ℕ → Refusal → Type 0
Bad items part bytes e = (EndsIn part bytes × (e ≡ refusal.Short (length bytes)))
    ⊎ ((f : AvroFault) × (e ≡ refusal_of f) × IsWrong items part bytes f)

-- what is told of a part is named by the refusal
abbrev Named : AvroFault → Type 0
Named f = (total : ℕ) → (fault_of total (refusal_of f) ≡ f) × (inside (refusal_of f) ≡ refusal_of f)

named : (f g : AvroFault) → f ≡ g → Named g → Named f
named f g e n = rw e n

pub wrong_named : (items : ℕ) (part : Part) (bytes : List ℕ) (f : AvroFault) → IsWrong items part bytes f → Named f
wrong_named items a_long bytes f h = named f fault.BadNumber h.0 (λ total. (refl, refl))
wrong_named items an_int bytes f h = named f fault.BadNumber h.0 (λ total. (refl, refl))
wrong_named items (a_symbol n) bytes f h = named f fault.BadNumber h.0 (λ total. (refl, refl))
wrong_named items (a_branch n) bytes f (inl h) = named f fault.BadNumber h.0 (λ total. (refl, refl))
wrong_named items (a_branch n) bytes f (inr h) = named f fault.BadUnion h.0 (λ total. (refl, refl))
wrong_named items a_count bytes f (inl h) = named f fault.BadNumber h.0 (λ total. (refl, refl))
wrong_named items a_count bytes f (inr h) = named f fault.TooManyItems h.0 (λ total. (refl, refl))
wrong_named items a_length bytes f h = named f fault.BadNumber h.0 (λ total. (refl, refl))
wrong_named items (some_bytes n) bytes f h = absurd h
wrong_named items (a_text n) bytes f h = named f fault.BadUtf8 h.0 (λ total. (refl, refl))
wrong_named items a_truth bytes f h = named f fault.BadBoolean h.0 (λ total. (refl, refl))
wrong_named items a_block_number bytes f (inl h) = named f fault.BadNumber h.0 (λ total. (refl, refl))
wrong_named items a_block_number bytes f (inr h) = named f fault.BlockSize h.0 (λ total. (refl, refl))
wrong_named items (the_marker sync) bytes f h = named f fault.BadSync h.0 (λ total. (refl, refl))

-- the refusal of a fault
pub refusal_is : (e d : Refusal) (f g : AvroFault) → e ≡ refusal_of f → f ≡ g → refusal_of g ≡ d → e ≡ d
refusal_is e d f g h k m = h ∙ ap refusal_of k ∙ m

-- ---- numbers

pub bad_long : (items : ℕ) (bytes : List ℕ) (e : Refusal) → NumberErr (2 ^ 64) bytes e → Bad items a_long bytes e
bad_long items bytes e (inl h) = inl h
bad_long items bytes e (inr h) = inr (fault.BadNumber, h.0, (refl, h.1))

pub long_is_bad : (items : ℕ) (bytes : List ℕ) (e : Refusal) → Bad items a_long bytes e → NumberErr (2 ^ 64) bytes e
long_is_bad items bytes e (inl h) = inl h
long_is_bad items bytes e (inr h) = inr (refusal_is e refusal.BadNumber h.0 fault.BadNumber h.1 h.2.0 refl, h.2.1)

pub bad_int : (items : ℕ) (bytes : List ℕ) (e : Refusal) → NumberErr (2 ^ 32) bytes e → Bad items an_int bytes e
bad_int items bytes e (inl h) = inl h
bad_int items bytes e (inr h) = inr (fault.BadNumber, h.0, (refl, h.1))

pub int_is_bad : (items : ℕ) (bytes : List ℕ) (e : Refusal) → Bad items an_int bytes e → NumberErr (2 ^ 32) bytes e
int_is_bad items bytes e (inl h) = inl h
int_is_bad items bytes e (inr h) = inr (refusal_is e refusal.BadNumber h.0 fault.BadNumber h.1 h.2.0 refl, h.2.1)

-- ---- runs of so many bytes

pub run_err : (items n : ℕ) (bytes : List ℕ) (e : Refusal) → run_at n bytes ≡ Err e → (length bytes < n) ×
    (e ≡ refusal.Short (length bytes))
unfolding run_at
run_err items n bytes e h =
    elim (either (ltb (length bytes) n) (Err (refusal.Short (length bytes))) (Ok (take n bytes, drop n bytes)) (Err e)
    h) [
      | inl k ↦ (ltb-true _ _ k.0, sym (err_is {A = List ℕ × List ℕ} (refusal.Short (length bytes)) e k.1))
      | inr k ↦ absurd (let m = k.1 in cc)
    ]

pub run_short : (n : ℕ) (bytes : List ℕ) → length bytes < n → run_at n bytes ≡ Err (refusal.Short (length bytes))
unfolding run_at
run_short n bytes lt = rw (lt-ltb _ _ lt) refl

pub run_fails : (items n : ℕ) (bytes : List ℕ) (e : Refusal) → Bad items (some_bytes n) bytes e → run_at n bytes ≡ Err e
run_fails items n bytes e (inl h) = run_short n bytes h.0 ∙ ap (λ (y : Refusal). Err y) (sym h.1)
run_fails items n bytes e (inr h) = absurd h.2

-- ---- truth values

pub truth_err : (items : ℕ) (bytes : List ℕ) (e : Refusal) → boolean_at bytes ≡ Err e → Bad items a_truth bytes e
unfolding boolean_at
truth_err items [] e h = inl (refl, sym (err_is (refusal.Short 0) e h))
truth_err items (zero ∷ bytes) e h = absurd cc
truth_err items (suc zero ∷ bytes) e h = absurd cc
truth_err items (suc (suc b) ∷ bytes) e h =
    inr (fault.BadBoolean, sym (err_is refusal.BadBoolean e h), (refl, suc (suc b), bytes, omega arith, refl))

no_truth : (b : ℕ) (rest : List ℕ) → 2 ≤ b → boolean_at (b ∷ rest) ≡ Err refusal.BadBoolean
unfolding boolean_at
no_truth zero rest le = absurd (omega arith)
no_truth (suc zero) rest le = absurd (omega arith)
no_truth (suc (suc b)) rest le = refl

no_byte : boolean_at [] ≡ Err (refusal.Short 0)
unfolding boolean_at
no_byte = refl

pub truth_fails : (items : ℕ) (bytes : List ℕ) (e : Refusal) → Bad items a_truth bytes e → boolean_at bytes ≡ Err e
truth_fails items bytes e (inl h) = rw (h.1, h.0) no_byte
truth_fails items bytes e (inr h) =
    rw (h.2.4, refusal_is e refusal.BadBoolean h.0 fault.BadBoolean h.1 h.2.0 refl) (no_truth h.2.1 h.2.2 h.2.3)

-- ---- positions of symbols

int_takes : (bytes : List ℕ) (x : ℤ × List ℕ) → int_at bytes ≡ Ok x → Front (λ z t. IsInt t z) bytes x
unfolding int_at
int_takes bytes x e =
    let a = bind_ok (number_at (2 ^ 32) bytes) (λ y. Ok (signed_of y.0, y.1)) x e in
    let n = number_takes (2 ^ 32) bytes a.0 a.1 in
    let made : ℤ × List ℕ = (signed_of a.0.0, a.0.1) in
    subst (Front (λ z t. IsInt t z) bytes) (ok_is made x a.2) (record {
      front = n.front;
      spelled = (a.0.0, n.spelled, refl);
      parts = n.parts;
    })

int_again : (bytes : List ℕ) (z : ℤ) (rest : List ℕ) → IsInt bytes z → int_at (bytes ++ rest) ≡ Ok (z, rest)
unfolding int_at number_at
int_again bytes z rest is = rw (groups_again 10 bytes is.0 rest is.1.0 is.1.1, lt-ltb _ _ is.1.2, is.2) refl

pos_is : (k m : ℕ) → pos k ≡ pos m → k ≡ m
pos_is k m e = cc

no_pos : (k m : ℕ) → negsuc k ≡ pos m → ⊥
no_pos k m e = absurd cc

no_position : (count k : ℕ) → count ≤ k → IsPosition count (pos k) → ⊥
no_position count k le h = omega (arith, pos_is k h.0 h.1, h.2)

symbol_of_err : (n : ℕ) (z : ℤ) (rest : List ℕ) (e : Refusal) → symbol_of n (z, rest) ≡ Err e
    → (e ≡ refusal.BadNumber) × (IsPosition n z → ⊥)
symbol_of_err n (pos k) rest e h =
    elim (either (ltb k n) (Ok (k, rest)) (Err refusal.BadNumber) (Err e) h) [
      | inl g ↦ absurd (let m = g.1 in cc)
      | inr g ↦ (sym (err_is {A = ℕ × List ℕ} refusal.BadNumber e g.1), no_position n k (ltb-false _ _ g.0))
    ]
symbol_of_err n (negsuc k) rest e h = (sym (err_is {A = ℕ × List ℕ} refusal.BadNumber e h), λ g. no_pos k g.0 g.1)

symbol_of_fails : (n : ℕ) (z : ℤ) (rest : List ℕ) → (IsPosition n z → ⊥)
    → symbol_of n (z, rest) ≡ Err refusal.BadNumber
symbol_of_fails n (pos k) rest not =
    elim (which_way (ltb k n)) [
      | inl g ↦ absurd (not (k, refl, ltb-true _ _ g))
      | inr g ↦ rw g refl
    ]
symbol_of_fails n (negsuc k) rest not = refl

pub symbol_err : (items n : ℕ) (bytes : List ℕ) (e : Refusal) → symbol_at n bytes ≡ Err e
    → Bad items (a_symbol n) bytes e
unfolding symbol_at
symbol_err items n bytes e h =
    elim (bind_err (int_at bytes) (symbol_of n) e h) [
      | inl g ↦
          elim (int_err bytes e g) [
            | inl k ↦ inl k
            | inr k ↦ inr (fault.BadNumber, k.0, (refl, inl k.1))
          ]
      | inr g ↦
          let t = int_takes bytes g.0 g.1 in
          let s = symbol_of_err n g.0.0 g.0.1 e g.2 in
          inr (fault.BadNumber, s.0, (refl, inr (g.0.0, t.front, g.0.1, t.spelled, s.1, t.parts)))
    ]

symbol_stops : (n : ℕ) (bytes : List ℕ) (e : Refusal) → int_at bytes ≡ Err e → symbol_at n bytes ≡ Err e
unfolding symbol_at
symbol_stops n bytes e h = rw h refl

symbol_wrong : (n : ℕ) (bytes : List ℕ) → StandsWrong IsInt (IsPosition n) bytes
    → symbol_at n bytes ≡ Err refusal.BadNumber
unfolding symbol_at
symbol_wrong n bytes h = rw (h.5, int_again h.1 h.0 h.2 h.3) (symbol_of_fails n h.0 h.2 h.4)

pub symbol_fails : (items n : ℕ) (bytes : List ℕ) (e : Refusal) → Bad items (a_symbol n) bytes e
    → symbol_at n bytes ≡ Err e
symbol_fails items n bytes e (inl h) = symbol_stops n bytes e (int_fails bytes e (inl h))
symbol_fails items n bytes e (inr h) =
    let is : e ≡ refusal.BadNumber = refusal_is e refusal.BadNumber h.0 fault.BadNumber h.1 h.2.0 refl in
    elim h.2.1 [
      | inl k ↦ symbol_stops n bytes e (int_fails bytes e (inr (is, k)))
      | inr k ↦ symbol_wrong n bytes k ∙ ap (λ (y : Refusal). Err y) (sym is)
    ]

-- ---- where reading stops

-- behind some bytes comes a part that the others do not hold, and no more items than so many were counted
pub record Found (Comes : Coming) (base most : ℕ) (bytes : List ℕ) (e : Refusal) : Type 0 where
  pub items : ℕ
  pub part : Part
  pub front : List ℕ
  pub rest : List ℕ
  pub comes : Comes items front part
  pub few : base + items ≤ most
  pub bad : Bad (base + items) part rest e
  pub parts : bytes ≡ front ++ rest

-- the first part
pub first_found : (first : Part) (base most : ℕ) (bytes : List ℕ) (e : Refusal) → base ≤ most → Bad base first bytes e
    → Found (IsFirst first) base most bytes e
first_found first base most bytes e le bad = record {
  items = 0;
  part = first;
  front = [];
  rest = bytes;
  comes = (refl, refl, refl);
  few = omega arith;
  bad = subst (λ (k : ℕ). Bad k first bytes e) (omega arith) bad;
  parts = refl;
}

pub first_is_bad : (first : Part) (base items : ℕ) (part : Part) (front rest bytes : List ℕ) (e : Refusal)
    → IsFirst first items front part → Bad (base + items) part rest e → bytes ≡ front ++ rest → Bad base first bytes e
first_is_bad first base items part front rest bytes e is bad parts =
    let same : bytes ≡ rest = parts ∙ ap (λ (t : List ℕ). t ++ rest) is.1 in
    let none : base + items ≡ base = omega (arith, is.0) in
    rw same (subst (λ (k : ℕ). Bad k first rest e) none (subst (λ (p : Part). Bad (base + items) p rest e) is.2 bad))

-- ---- runs of bytes

run_of_found : (content : ℕ → Part) → ((n : ℕ) (bytes : List ℕ) → length bytes < n → EndsIn (content n) bytes)
    → (base most : ℕ) → base ≤ most → (z : ℤ) (bytes front rest : List ℕ) (e : Refusal) → IsLong front z
    → bytes ≡ front ++ rest → run_of z rest ≡ Err e → Found (ComesInRun content) base most bytes e
run_of_found content ends base most le (pos n) bytes front rest e is parts h =
    let r = run_err 0 n rest e h in
    record {
      items = 0;
      part = content n;
      front = front;
      rest = rest;
      comes = inr (n, refl, is, refl);
      few = omega arith;
      bad = inl (ends n rest r.0, r.1);
      parts = parts;
    }
run_of_found content ends base most le (negsuc n) bytes front rest e is parts h =
    record {
      items = 0;
      part = a_length;
      front = [];
      rest = bytes;
      comes = inl (refl, refl, refl);
      few = omega arith;
      bad = inr (
        fault.BadNumber,
        sym (err_is {A = List ℕ × List ℕ} refusal.BadNumber e h),
        (refl, inr (negsuc n, front, rest, is, (λ g. no_pos n g.0 g.1), parts)),
      );
      parts = refl;
    }

length_found : (content : ℕ → Part) (base most : ℕ) → base ≤ most → (bytes : List ℕ) (e : Refusal)
    → NumberErr (2 ^ 64) bytes e → Found (ComesInRun content) base most bytes e
length_found content base most le bytes e (inl h) = record {
  items = 0;
  part = a_length;
  front = [];
  rest = bytes;
  comes = inl (refl, refl, refl);
  few = omega arith;
  bad = inl h;
  parts = refl;
}
length_found content base most le bytes e (inr h) = record {
  items = 0;
  part = a_length;
  front = [];
  rest = bytes;
  comes = inl (refl, refl, refl);
  few = omega arith;
  bad = inr (fault.BadNumber, h.0, (refl, inl h.1));
  parts = refl;
}

run_found : (content : ℕ → Part) → ((n : ℕ) (bytes : List ℕ) → length bytes < n → EndsIn (content n) bytes)
    → (base most : ℕ) → base ≤ most → (bytes : List ℕ) (e : Refusal) → bytes_at bytes ≡ Err e
    → Found (ComesInRun content) base most bytes e
unfolding bytes_at
run_found content ends base most le bytes e h =
    elim (bind_err (long_at bytes) (λ n. run_of n.0 n.1) e h) [
      | inl g ↦ length_found content base most le bytes e (long_err bytes e g)
      | inr g ↦
          let t = long_takes bytes g.0 g.1 in
          run_of_found content ends base most le g.0.0 bytes t.front g.0.1 e t.spelled t.parts g.2
    ]

pub bytes_err : (base most : ℕ) → base ≤ most → (bytes : List ℕ) (e : Refusal) → bytes_at bytes ≡ Err e
    → Found (ComesInRun some_bytes) base most bytes e
bytes_err = run_found some_bytes (λ n bytes lt. lt)

no_text : (base most : ℕ) (bytes s rest : List ℕ) (e : Refusal) → base ≤ most → Front IsRun bytes (s, rest)
    → (IsUtf8 s → ⊥) → e ≡ refusal.BadUtf8 → Found (ComesInRun a_text) base most bytes e
no_text base most bytes s rest e le t not is = record {
  items = 0;
  part = a_text (length s);
  front = t.spelled.0;
  rest = s ++ rest;
  comes = inr (length s, refl, t.spelled.1, refl);
  few = omega arith;
  bad = inr (fault.BadUtf8, is, (refl, s, rest, refl, not, refl));
  parts = t.parts ∙ ap (λ (x : List ℕ). x ++ rest) t.spelled.2 ∙ append_assoc t.spelled.0 s rest;
}

not_true : (b : Bool) → b ≡ false → b ≡ true → ⊥
not_true b e f = absurd cc

pub string_err : (base most : ℕ) → base ≤ most → (bytes : List ℕ) (e : Refusal) → string_at bytes ≡ Err e
    → Found (ComesInRun a_text) base most bytes e
unfolding string_at
string_err base most le bytes e h =
    elim (bind_err (bytes_at bytes) (λ found. cond (is_utf8 found.0) (Ok found) (Err refusal.BadUtf8)) e h) [
      | inl g ↦ run_found a_text (λ n rest lt. lt) base most le bytes e g
      | inr g ↦
          elim (either (is_utf8 g.0.0) (Ok g.0) (Err refusal.BadUtf8) (Err e) g.2) [
            | inl k ↦ absurd (let m = k.1 in cc)
            | inr k ↦ no_text base most bytes g.0.0 g.0.1 e le (bytes_take bytes g.0 g.1)
                (λ u. not_true (is_utf8 g.0.0) k.0 (is_utf8-from_IsUtf8 g.0.0 u))
                (sym (err_is {A = List ℕ × List ℕ} refusal.BadUtf8 e k.1))
          ]
    ]

-- ---- runs that fail

bytes_stop : (bytes : List ℕ) (e : Refusal) → long_at bytes ≡ Err e → bytes_at bytes ≡ Err e
unfolding bytes_at
bytes_stop bytes e h = rw h refl

negative_run : (z : ℤ) (rest : List ℕ) → (IsNatural z → ⊥) → run_of z rest ≡ Err refusal.BadNumber
negative_run (pos n) rest not = absurd (not (n, refl))
negative_run (negsuc n) rest not = refl

length_wrong : (bytes : List ℕ) → StandsWrong IsLong IsNatural bytes → bytes_at bytes ≡ Err refusal.BadNumber
unfolding bytes_at
length_wrong bytes h = rw (h.5, long_again h.1 h.0 h.2 h.3) (negative_run h.0 h.2 h.4)

length_fails : (items : ℕ) (bytes : List ℕ) (e : Refusal) → Bad items a_length bytes e → bytes_at bytes ≡ Err e
length_fails items bytes e (inl h) = bytes_stop bytes e (long_fails bytes e (inl h))
length_fails items bytes e (inr h) =
    let is : e ≡ refusal.BadNumber = refusal_is e refusal.BadNumber h.0 fault.BadNumber h.1 h.2.0 refl in
    elim h.2.1 [
      | inl k ↦ bytes_stop bytes e (long_fails bytes e (inr (is, k)))
      | inr k ↦ length_wrong bytes k ∙ ap (λ (y : Refusal). Err y) (sym is)
    ]

content_short : (front rest : List ℕ) (n : ℕ) (e : Refusal) → IsLong front (pos n) → run_at n rest ≡ Err e
    → bytes_at (front ++ rest) ≡ Err e
unfolding bytes_at
content_short front rest n e is h = rw (long_again front (pos n) rest is) h

run_comes : (base items : ℕ) (part : Part) (front rest bytes : List ℕ) (e : Refusal)
    → ComesInRun some_bytes items front part → Bad (base + items) part rest e → bytes ≡ front ++ rest
    → bytes_at bytes ≡ Err e
run_comes base items part front rest bytes e (inl is) bad parts =
    length_fails base bytes e (first_is_bad a_length base items part front rest bytes e is bad parts)
run_comes base items part front rest bytes e (inr is) bad parts =
    rw parts (content_short front rest is.0 e is.2 (run_fails (base + items) is.0 rest e
    (subst (λ (p : Part). Bad (base + items) p rest e) is.3 bad)))

pub bytes_fail : (base most : ℕ) (bytes : List ℕ) (e : Refusal) → Found (ComesInRun some_bytes) base most bytes e
    → bytes_at bytes ≡ Err e
bytes_fail base most bytes e f = run_comes base f.items f.part f.front f.rest bytes e f.comes f.bad f.parts

string_stops : (bytes : List ℕ) (e : Refusal) → bytes_at bytes ≡ Err e → string_at bytes ≡ Err e
unfolding string_at
string_stops bytes e h = rw h refl

string_wrong : (bytes s rest : List ℕ) → bytes_at bytes ≡ Ok (s, rest) → (IsUtf8 s → ⊥)
    → string_at bytes ≡ Err refusal.BadUtf8
unfolding string_at
string_wrong bytes s rest h not =
    elim (which_way (is_utf8 s)) [
      | inl g ↦ absurd (not (IsUtf8-from_is_utf8 s g))
      | inr g ↦ rw (h, g) refl
    ]

text_fails : (items n : ℕ) (front rest bytes : List ℕ) (e : Refusal) → IsLong front (pos n) → bytes ≡ front ++ rest
    → Bad items (a_text n) rest e → string_at bytes ≡ Err e
text_fails items n front rest bytes e is parts (inl h) =
    string_stops bytes e (rw parts (content_short front rest n e is (run_short n rest h.0 ∙ ap (λ (y : Refusal). Err y)
    (sym h.1))))
text_fails items n front rest bytes e is parts (inr h) =
    let s = h.2.1 in
    let run : IsRun s (front ++ s) = (front, subst (λ (k : ℕ). IsLong front (pos k)) (sym h.2.3) is, refl) in
    let all : bytes ≡ (front ++ s) ++ h.2.2 = parts ∙ ap (λ (t : List ℕ). front ++ t) h.2.5 ∙ sym
    (append_assoc front s h.2.2) in
    string_wrong bytes s h.2.2 (rw all (bytes_again s (front ++ s) h.2.2 run)) h.2.4 ∙ ap (λ (y : Refusal). Err y)
    (sym (refusal_is e refusal.BadUtf8 h.0 fault.BadUtf8 h.1 h.2.0 refl))

pub string_comes : (base items : ℕ) (part : Part) (front rest bytes : List ℕ) (e : Refusal)
    → ComesInRun a_text items front part → Bad (base + items) part rest e → bytes ≡ front ++ rest
    → string_at bytes ≡ Err e
string_comes base items part front rest bytes e (inl is) bad parts =
    string_stops bytes e (length_fails base bytes e (first_is_bad a_length base items part front rest bytes e is bad
    parts))
string_comes base items part front rest bytes e (inr is) bad parts =
    text_fails (base + items) is.0 front rest bytes e is.2 parts (subst (λ (p : Part). Bad (base + items) p rest e)
    is.3 bad)
