-- Reading by places in the bytes.
use Rattle.std.proofs.Common.{◌≡◌, ◌≢◌, ℕ, zero, suc, ◌+◌, ◌-◌, ◌/◌, ◌%◌, ◌^◌, ◌<◌, ◌≤◌, ℤ, pos, negsuc, false}
use Rattle.std.proofs.Common.{ltb, List, ◌∷◌, ◌++◌, length, get_or, take, drop, Option, Some, None, IfSome, Result, Ok}
use Rattle.std.proofs.Common.{Err, refl, sym, ap, ◌∙◌, add-one, arith}
use Rattle.std.proofs.lemmas.Bool.{eq-eqb, ne_eqb, lt-ltb, le-ltb}
use Rattle.std.specs.Str.{IsUtf8}
use Rattle.std.proofs.lemmas.Str.{is_utf8-from_IsUtf8}
use Rattle.std.proofs.lemmas.List.{length-drop, length-append}
use Rattle.std.proofs.Math.Seq.{drop-append_seam}
use Rattle.avro_file_parts.specs.declared.refusal.Refusal.{Refusal}
use Rattle.avro_file_parts.specs.Number.{number_at, long_at, int_at, signed_of}
use Rattle.avro_file_parts.specs.Parts.{Read, behind, boolean_at, run_at, bytes_at, string_at, symbol_at}
use Rattle.avro_file.specs.Reading.{leaf}
use Rattle.avro_file_parts.specs.Parts.{count_at}
use Rattle.avro_file.specs.Reading.{blocks_at, entry_at, datum_at, fields_at, branch_at}
use Rattle.avro_file.specs.Blocks.{max_items, object_at}
use Rattle.avro_file.specs.Ending.{standing, EndsWith, Ends, EndsCounted}
use Rattle.avro_file_parts.proofs.Groups.{narrow_found, tenth_place}
use Rattle.avro_file_parts.proofs.Groups.{times_one}
use Rattle.avro_file_parts.proofs.NumberPlaces.{at_place, drop_drop, GroupsUpTo, no_groups, last_fits, found}
use Rattle.avro_file_parts.proofs.NumberPlaces.{to_end}
use Rattle.avro_file.proofs.Taken.{number_takes}
use Rattle.avro_file.proofs.Loop.{long_len}
use Rattle.avro_file.proofs.Steps.{ok_is}
use Rattle.avro_file.proofs.Behind.{behind_ok, structure_ends, array_ends, map_ends, chosen_ends, object_ends}
use Rattle.avro_file.proofs.Views.{branch_trees, branch_there}
use Rattle.avro_schema.specs.declared.schema.Schema.{Schema}
use Rattle.avro_schema.specs.Tree.{Tree, null, boolean, int, long, float, double, symbols, octets, string, fixed}
use Rattle.avro_schema.specs.Tree.{structure, array, union, Fields, map as of_keys}
use Rattle.avro_schema.specs.View.{tree}
use Rattle.avro_file.specs.Value.{Value}
use Rattle.avro_file.specs.Value as value

-- what follows a front of the bytes at a place
behind_front : (bytes : List ℕ) (at : ℕ) (front rest : List ℕ) → drop at bytes ≡ front ++ rest
    → rest ≡ drop (at + length front) bytes
behind_front bytes at front rest e = sym (drop-append_seam front rest) ∙ ap (drop (length front)) (sym e) ∙ drop_drop
    (length front) at bytes

-- ---- numbers

long_found : (bytes : List ℕ) (at n end : ℕ) → number_at (2 ^ 64) (drop at bytes) ≡ Ok (n, drop end bytes)
    → behind (long_at (drop at bytes)) ≡ Ok (drop end bytes)
unfolding long_at
long_found bytes at n end e = rw e refl

int_found : (bytes : List ℕ) (at n end : ℕ) → number_at (2 ^ 64) (drop at bytes) ≡ Ok (n, drop end bytes) → n < 2 ^ 32
    → behind (int_at (drop at bytes)) ≡ Ok (drop end bytes)
unfolding int_at
int_found bytes at n end e lt = rw (narrow_found (drop at bytes) n (drop end bytes) e lt) refl

pub long_ends : (bytes : List ℕ) (at i here : ℕ) → GroupsUpTo bytes at i here → i < 9 → here < length bytes
    → get_or bytes here 0 < 128 → Ends long_at bytes at (here + 1)
long_ends bytes at i here g lt there small = (
  omega (arith, g.place),
  omega arith,
  long_found bytes at _ (here + 1) (found bytes at i here g there small
      (omega (arith, last_fits g.low i (get_or bytes here 0) 9 g.below small lt))),
)

pub int_ends : (bytes : List ℕ) (at i here : ℕ) → GroupsUpTo bytes at i here → i < 4 → here < length bytes
    → get_or bytes here 0 < 128 → Ends int_at bytes at (here + 1)
int_ends bytes at i here g lt there small =
    let fits = last_fits g.low i (get_or bytes here 0) 4 g.below small lt in (
      omega (arith, g.place),
      omega arith,
      int_found bytes at _ (here + 1) (found bytes at i here g there small
          (omega (arith, fits))) (omega (arith, fits)),
    )

-- the tenth group has one bit
pub tenth_ends : (bytes : List ℕ) (at i here : ℕ) → GroupsUpTo bytes at i here → 9 ≤ i → here < length bytes
    → get_or bytes here 0 < 2 → Ends long_at bytes at (here + 1)
tenth_ends bytes at i here g le there small =
    let nine : i ≡ 9 = omega (arith, g.most) in
    let full : 128 ^ i ≡ 2 ^ 63 = tenth_place (128 ^ i) i nine refl in
    let some = times_one (128 ^ i) (get_or bytes here 0) (omega arith) in (
      omega (arith, g.place),
      omega arith,
      long_found bytes at _ (here + 1) (found bytes at i here g there (omega arith)
          (omega (arith, full, some, g.below))),
    )

pub short_long : (bytes : List ℕ) (at : ℕ) → at < length bytes → get_or bytes at 0 < 128
    → Ends long_at bytes at (at + 1)
short_long bytes at lt small = long_ends bytes at 0 at (no_groups bytes at (omega (arith, lt))) (omega arith) lt small

pub short_int : (bytes : List ℕ) (at : ℕ) → at < length bytes → get_or bytes at 0 < 128 → Ends int_at bytes at (at + 1)
short_int bytes at lt small = int_ends bytes at 0 at (no_groups bytes at (omega (arith, lt))) (omega arith) lt small

-- where a number ends, by what is left behind it
pub number_ends : (bytes : List ℕ) (at n : ℕ) (rest : List ℕ)
    → number_at (2 ^ 64) (take (length bytes - at) (drop at bytes)) ≡ Ok (n, rest)
    → (length rest ≤ length bytes) × EndsWith (number_at (2 ^ 64)) bytes at n (length bytes - length rest)
number_ends bytes at n rest h =
    let e : number_at (2 ^ 64) (drop at bytes) ≡ Ok (n, rest) = rw (to_end bytes at) at h in
    let t = number_takes (2 ^ 64) (drop at bytes) (n, rest) e in
    let some = long_len t.front (signed_of n) (n, t.spelled, refl) in
    let all : length bytes - at ≡ length t.front + length rest = sym (length-drop at bytes) ∙ ap length t.parts ∙
    length-append t.front rest in
    let end : length bytes - length rest ≡ at + length t.front = omega (arith, some, all) in (
      omega (arith, some, all),
      (
        omega (arith, some, all),
        omega arith,
        rw end (e ∙ ap (λ (r : List ℕ). Ok (n, r))
            (behind_front bytes at t.front rest t.parts)),
      ),
    )

even : (n : ℕ) → n % 2 ≡ 0 → signed_of n ≡ pos (n / 2)
even n e = rw (eq-eqb (n % 2) 0 e) refl

odd : (n : ℕ) → n % 2 ≢ 0 → signed_of n ≡ negsuc (n / 2)
odd n e = rw (ne_eqb (n % 2) 0 e) refl

-- ---- values that hold no others

run_found : (n at : ℕ) (bytes : List ℕ) → n ≤ length bytes - at
    → run_at n (drop at bytes) ≡ Ok (take n (drop at bytes), drop (at + n) bytes)
unfolding run_at
run_found n at bytes le =
    let fits : ltb (length (drop at bytes)) n ≡ false = le-ltb _ _ (omega (arith, length-drop at bytes, le)) in
    rw fits (ap (λ (r : List ℕ). Ok (take n (drop at bytes), r)) (drop_drop n at bytes))

pub run_ends : (n at : ℕ) (bytes : List ℕ) → at ≤ length bytes → n ≤ length bytes - at
    → Ends (run_at n) bytes at (at + n)
run_ends n at bytes inside le = (omega arith, omega (arith, inside, le), rw (run_found n at bytes le) refl)

pub bytes_found : (bytes : List ℕ) (at n start : ℕ) → EndsWith (number_at (2 ^ 64)) bytes at n start → n % 2 ≡ 0
    → n / 2 ≤ length bytes - start
    → EndsWith bytes_at bytes at (take (start + n / 2 - start) (drop start bytes)) (start + n / 2)
unfolding bytes_at long_at
bytes_found bytes at n start e is le =
    let len : start + n / 2 - start ≡ n / 2 = omega arith in
    (omega (arith, e.0), omega (arith, e.1, le), rw (e.2, even n is, len) (run_found (n / 2) start bytes le))

pub bytes_end_there : (bytes : List ℕ) (at : ℕ) (run : List ℕ) (end : ℕ) → EndsWith bytes_at bytes at run end
    → Ends bytes_at bytes at end
bytes_end_there bytes at run end e = (omega (arith, e.0), e.1, rw e.2 refl)

pub text_ends : (bytes : List ℕ) (at : ℕ) (run : List ℕ) (end : ℕ) → EndsWith bytes_at bytes at run end → IsUtf8 run
    → Ends string_at bytes at end
unfolding string_at
text_ends bytes at run end e is = (omega (arith, e.0), e.1, rw (e.2, is_utf8-from_IsUtf8 run is) refl)

pub symbol_ends : (bytes : List ℕ) (count at n end : ℕ) → EndsWith (number_at (2 ^ 64)) bytes at n end → n < 2 ^ 32
    → n % 2 ≡ 0 → n / 2 < count → Ends (symbol_at count) bytes at end
unfolding symbol_at int_at
symbol_ends bytes count at n end e fits is lt = (
  omega (arith, e.0),
  e.1,
  rw (
    narrow_found (drop at bytes) n
        (drop end bytes) e.2 fits,
    even n is,
    lt-ltb _ _ lt,
  ) refl,
)

truth_there : (b : ℕ) (rest : List ℕ) → b < 2 → behind (boolean_at (b ∷ rest)) ≡ Ok rest
unfolding boolean_at
truth_there zero rest lt = refl
truth_there (suc zero) rest lt = refl
truth_there (suc (suc b)) rest lt = absurd (omega (arith, lt))

pub truth_ends : (bytes : List ℕ) (at : ℕ) → at < length bytes → get_or bytes at 0 < 2
    → Ends boolean_at bytes at (at + 1)
truth_ends bytes at lt small = (
  omega arith,
  omega (arith, lt),
  rw (at_place bytes at lt)
      (truth_there (get_or bytes at 0) (drop (at + 1) bytes) small),
)

-- ---- the count of a block

pub count_ends : (bytes : List ℕ) (at n end : ℕ) → EndsWith (number_at (2 ^ 64)) bytes at n end → n % 2 ≡ 0
    → (at < end) × (end ≤ length bytes) × ((left : ℕ) → n / 2 ≤ left → count_at (standing bytes at left) ≡ Ok
    (n / 2, standing bytes end (left - n / 2)))
unfolding count_at long_at
count_ends bytes at n end e is = (e.0, e.1, λ left le. rw (e.2, even n is, le-ltb _ _ le) refl)

long_there : (bytes : List ℕ) (at end : ℕ) → Ends long_at bytes at end
    → (z : ℤ) × (long_at (drop at bytes) ≡ Ok (z, drop end bytes))
long_there bytes at end e = behind_ok (long_at (drop at bytes)) (drop end bytes) e.2

long_is : (bytes : List ℕ) (at n end : ℕ) → EndsWith (number_at (2 ^ 64)) bytes at n end
    → long_at (drop at bytes) ≡ Ok (signed_of n, drop end bytes)
unfolding long_at
long_is bytes at n end e = rw e.2 refl

pub negative_count_ends : (bytes : List ℕ) (at n size end : ℕ) → EndsWith (number_at (2 ^ 64)) bytes at n size
    → n % 2 ≢ 0 → Ends long_at bytes size end
    → (at < end) × (end ≤ length bytes) × ((left : ℕ) → n / 2 + 1 ≤ left → count_at (standing bytes at left) ≡ Ok
    (n / 2 + 1, standing bytes end (left - (n / 2 + 1))))
unfolding count_at
negative_count_ends bytes at n size end e is s =
    let there = long_there bytes size end s in (
      omega (arith, e.0, s.0),
      s.1,
      λ left le. let fits : ltb left (suc (n / 2)) ≡ false =
          le-ltb _ _ (omega (arith, le)) in rw (long_is bytes at n size e, odd n is, fits, there.1, add-one) refl,
    )

-- ---- one way or none

pub some_weaker : {A : Type 0} (o : Option A) (P Q : A → Type 0) → ((x : A) → P x → Q x) → IfSome o P → IfSome o Q
some_weaker (Some x) P Q f h = f x h
some_weaker None P Q f h = h

leaf_behind : {A : Type 0} (make : A → Value) (left : ℕ) (read : Result (A × List ℕ) Refusal) (rest : List ℕ)
    → behind read ≡ Ok rest → behind (leaf make left read) ≡ Ok (record { bytes = rest; left = left })
leaf_behind make left (Ok x) rest e = ap (λ (r : List ℕ). Ok (record { bytes = r; left = left })) (ok_is x.1 rest e)
leaf_behind make left (Err f) rest e = absurd cc

-- a value that holds no others, wherever it ends
abbrev pub EndsSomewhere : Tree → List ℕ → ℕ → Option ℕ → Type 0
EndsSomewhere s bytes at found = IfSome found (λ end. (left : ℕ) → EndsCounted (datum_at s) bytes at left end left)

pub boolean_somewhere : (bytes : List ℕ) (at : ℕ) (o : Option ℕ) → IfSome o (λ end. Ends boolean_at bytes at end)
    → EndsSomewhere boolean bytes at o
unfolding datum_at
boolean_somewhere bytes at o h = some_weaker o _ _ (λ end e left. (
  e.1,
  leaf_behind value.truth left
      (boolean_at (drop at bytes)) (drop end bytes) e.2,
)) h

pub int_somewhere : (bytes : List ℕ) (at : ℕ) (o : Option ℕ) → IfSome o (λ end. Ends int_at bytes at end)
    → EndsSomewhere int bytes at o
unfolding datum_at
int_somewhere bytes at o h = some_weaker o _ _ (λ end e left. (
  e.1,
  leaf_behind value.small left
      (int_at (drop at bytes)) (drop end bytes) e.2,
)) h

pub long_somewhere : (bytes : List ℕ) (at : ℕ) (o : Option ℕ) → IfSome o (λ end. Ends long_at bytes at end)
    → EndsSomewhere long bytes at o
unfolding datum_at
long_somewhere bytes at o h = some_weaker o _ _ (λ end e left. (
  e.1,
  leaf_behind value.whole left
      (long_at (drop at bytes)) (drop end bytes) e.2,
)) h

pub float_somewhere : (bytes : List ℕ) (at : ℕ) (o : Option ℕ) → IfSome o (λ end. Ends (run_at 4) bytes at end)
    → EndsSomewhere float bytes at o
unfolding datum_at
float_somewhere bytes at o h = some_weaker o _ _ (λ end e left. (
  e.1,
  leaf_behind value.single left
      (run_at 4 (drop at bytes)) (drop end bytes) e.2,
)) h

pub double_somewhere : (bytes : List ℕ) (at : ℕ) (o : Option ℕ) → IfSome o (λ end. Ends (run_at 8) bytes at end)
    → EndsSomewhere double bytes at o
unfolding datum_at
double_somewhere bytes at o h = some_weaker o _ _ (λ end e left. (
  e.1,
  leaf_behind value.twice left
      (run_at 8 (drop at bytes)) (drop end bytes) e.2,
)) h

pub fixed_somewhere : (n : ℕ) (kind : _) (bytes : List ℕ) (at : ℕ) (o : Option ℕ)
    → IfSome o (λ end. Ends (run_at n) bytes at end) → EndsSomewhere (fixed n kind) bytes at o
unfolding datum_at
fixed_somewhere n kind bytes at o h = some_weaker o _ _
    (λ end e left. (e.1, leaf_behind value.raw left (run_at n (drop at bytes)) (drop end bytes) e.2)) h

pub octets_somewhere : (kind : _) (bytes : List ℕ) (at : ℕ) (o : Option ℕ)
    → IfSome o (λ end. Ends bytes_at bytes at end) → EndsSomewhere (octets kind) bytes at o
unfolding datum_at
octets_somewhere kind bytes at o h = some_weaker o _ _
    (λ end e left. (e.1, leaf_behind value.run left (bytes_at (drop at bytes)) (drop end bytes) e.2)) h

pub string_somewhere : (bytes : List ℕ) (at : ℕ) (o : Option ℕ) → IfSome o (λ end. Ends string_at bytes at end)
    → EndsSomewhere string bytes at o
unfolding datum_at
string_somewhere bytes at o h = some_weaker o _ _ (λ end e left. (
  e.1,
  leaf_behind value.text left
      (string_at (drop at bytes)) (drop end bytes) e.2,
)) h

pub symbols_somewhere : (n : ℕ) (bytes : List ℕ) (at : ℕ) (o : Option ℕ)
    → IfSome o (λ end. Ends (symbol_at n) bytes at end) → EndsSomewhere (symbols n) bytes at o
unfolding datum_at
symbols_somewhere n bytes at o h = some_weaker o _ _ (λ end e left. (
  e.1,
  leaf_behind value.symbol left
      (symbol_at n (drop at bytes)) (drop end bytes) e.2,
)) h

pub null_somewhere : (bytes : List ℕ) (at left : ℕ) → at ≤ length bytes
    → EndsCounted (datum_at null) bytes at left at left
unfolding datum_at
null_somewhere bytes at left le = (le, refl)

-- ---- values that hold others

pub structure_ends_there : (fs : Fields) (bytes : List ℕ) (at left after : ℕ) (o : Option ℕ)
    → IfSome o (λ end. EndsCounted (fields_at fs) bytes at left end after)
    → IfSome o (λ end. EndsCounted (datum_at (structure fs)) bytes at left end after)
structure_ends_there fs bytes at left after o h = some_weaker o _ _
    (λ end e. (e.0, structure_ends fs (standing bytes at left) ∙ e.1)) h

pub array_ends_there : (s : Tree) (id : Option ℤ) (kind : _) (bytes : List ℕ) (at left after : ℕ) (o : Option ℕ)
    → IfSome o (λ end. EndsCounted (blocks_at (datum_at s) (suc (length (drop at bytes)))) bytes at left end after)
    → IfSome o (λ end. EndsCounted (datum_at (array s id kind)) bytes at left end after)
array_ends_there s id kind bytes at left after o h = some_weaker o _ _
    (λ end e. (e.0, array_ends s id kind (standing bytes at left) ∙ e.1)) h

pub map_ends_there : (s : Tree) (bytes : List ℕ) (at left after : ℕ) (o : Option ℕ)
    → IfSome o (λ end. EndsCounted (blocks_at (entry_at (datum_at s)) (suc (length (drop at bytes)))) bytes at left end
    after) → IfSome o (λ end. EndsCounted (datum_at (of_keys s)) bytes at left end after)
map_ends_there s bytes at left after o h = some_weaker o _ _
    (λ end e. (e.0, map_ends s (standing bytes at left) ∙ e.1)) h

chosen_there : (ss : List Schema) (bytes : List ℕ) (at n start left : ℕ) (d : Schema)
    → EndsWith (number_at (2 ^ 64)) bytes at n start → n % 2 ≡ 0 → n / 2 < length ss
    → behind (datum_at (union (branch_trees ss)) (standing bytes at left)) ≡ behind
    (datum_at (tree (get_or ss (n / 2) d)) (standing bytes start left))
unfolding datum_at
chosen_there ss bytes at n start left d e is lt =
    rw (long_is bytes at n start e, even n is) (chosen_ends (branch_at (branch_trees ss)) (n / 2)
    (standing bytes start left) ∙ ap (λ (r : Read Value). behind r) (branch_there ss (n / 2) d
    (standing bytes start left) lt))

pub union_ends_there : (ss : List Schema) (bytes : List ℕ) (at n start left after : ℕ) (d : Schema) (o : Option ℕ)
    → EndsWith (number_at (2 ^ 64)) bytes at n start → n % 2 ≡ 0 → n / 2 < length ss
    → IfSome o (λ end. EndsCounted (datum_at (tree (get_or ss (n / 2) d))) bytes start left end after)
    → IfSome o (λ end. EndsCounted (datum_at (union (branch_trees ss))) bytes at left end after)
union_ends_there ss bytes at n start left after d o e is lt h = some_weaker o _ _
    (λ end f. (f.0, chosen_there ss bytes at n start left d e is lt ∙ f.1)) h

-- ---- objects

pub object_passed : (s : Tree) (block : List ℕ) (end left : ℕ) → EndsCounted (datum_at s) block 0 max_items end left
    → behind (object_at s block) ≡ Ok (take (length block - end) (drop end block))
object_passed s block end left e = rw (to_end block end) (object_ends s block (standing block end left) e.1)
