-- Digits and the bytes that they name.
use Rattle.std.proofs.Common.{◌≡◌, ℕ, ◌<◌, ◌≤◌, List, Bool, true, false, IsTrue, arith, refl, sym, ap, ◌∙◌}
use Rattle.std.proofs.Common.{Option, Some, None, Result, Ok, Err, ◌+◌, ◌*◌, ◌%◌, length, take, drop, get_or}
use Rattle.std.proofs.Common.{slice_index, slice_set}
use Rattle.std.proofs.lemmas.Bool.{false≢true}
use Rattle.std.proofs.lemmas.Bool.Decides.{nat_tests}
use borrow.Author.Tests.{eqb-true}
use Rattle.std.proofs.lemmas.List.Folds.{list_all_at}
use Rattle.std.proofs.lemmas.List.Sums.{list_all-from_AllPass}
use Rattle.std.proofs.lemmas.Option.{none-some}
use Rattle.std.specs.List.{list_all, range_with_len}
use Rattle.std.proofs.lemmas.List.FromFn.{get_or-range_with_len}
use Rattle.std.specs.Prelude.{◌/◌, ◌-◌, ◌==◌, ◌&&◌, ◌||◌, not, nat_lt, bit_and}
use Rattle.std.specs.Result.{result_ok}
use Rattle.hex.specs.Hex.{decode_of, decode_pairs, digit_or_error, hex_digit_value, is_hex_digit, pair_value, ◌>>=◌}
use Rattle.hex.specs.declared.error.FromHexError.{FromHexError}
use Rattle.hex.proofs.HexLemmas.{decode_of-even, decode_of-odd, decode_of-ok}
use Rattle.hex.proofs.Pairs.{decode_done, decode_step, prepend}
use Rattle.icescan_files.specs.Bundles.{byte_of, byte_with, bytes_of}

true_unless : (b : Bool) → (b ≡ false → ⊥) → b ≡ true
true_unless true other = refl
true_unless false other = absurd (other refl)

-- the byte of two digits, worked out at once
abbrev pub at_once : ℕ → ℕ
at_once both = bit_and both 3855 + bit_and (both / 64) 257 * 9

abbrev pub of_values : ℕ → ℕ
of_values values = values % 16 * 16 + values / 256

-- it is that byte, for each two that are digits
is_some_of : Option ℕ → ℕ → Bool
is_some_of (Some v) n = v == n
is_some_of None n = false

abbrev works : ℕ → ℕ → Bool
works high low = not (is_hex_digit high && is_hex_digit low)
    || (is_some_of (byte_of high low) (of_values (at_once (high + low * 256)))
    && nat_lt (at_once (high + low * 256)) 4096)

all_work : list_all (λ high. list_all (works high) (range_with_len 48 55)) (range_with_len 48 55) ≡ true
unfolding is_some_of
all_work = refl

in_range : (p : ℕ → Bool) (c : ℕ) → 48 ≤ c → c < 103 → list_all p (range_with_len 48 55) ≡ true → p c ≡ true
in_range p c low high all =
    let same : get_or (range_with_len 48 55) (c - 48) 0 ≡ c =
    get_or-range_with_len 48 55 (c - 48) 0 (omega arith) ∙ omega arith in
    true_unless _ (λ bad. false≢true (sym (list_all_at p (range_with_len 48 55) (c - 48) 0 (omega arith) (rw same bad))
    ∙ all))

digit_range : (c : ℕ) → IsTrue (is_hex_digit c) → (48 ≤ c) × (c < 103)
digit_range c digit = grind (arith, nat_tests)

some_is : (found : Option ℕ) (n : ℕ) → is_some_of found n ≡ true → Some n ≡ found
unfolding is_some_of
some_is (Some v) n same = ap Some (sym (eqb-true v n same))
some_is None n same = absurd (false≢true same)

both_true : (a b : Bool) → (a && b) ≡ true → (a ≡ true) × (b ≡ true)
both_true true b h = (refl, h)
both_true false b h = absurd (false≢true h)

pub both_at_once : (high low : ℕ) → IsTrue (is_hex_digit high) → IsTrue (is_hex_digit low)
    → (Some (of_values (at_once (high + low * 256))) ≡ byte_of high low) × (at_once (high + low * 256) < 4096)
both_at_once high low first second =
    let h = digit_range high first in
    let l = digit_range low second in
    let row = in_range (λ c. list_all (works c) (range_with_len 48 55)) high h.0 h.1 all_work in
    let cell : works high low ≡ true = in_range (works high) low l.0 l.1 row in
    let worked = rw (first, second) at cell in
    let parts = both_true _ _ worked in
    (some_is _ _ parts.0, grind (arith, nat_tests, parts.1))

-- two digits that have a value are a pair that reads, wherever they stand
some_pair : (high low : Option ℕ) (a b i j v : ℕ) → Some v ≡ byte_with high low
    → (digit_or_error a i high >>= λ h. digit_or_error b j low >>= λ l. Ok (h * 16 + l)) ≡ Ok v
some_pair (Some h) (Some l) a b i j v same = cc
some_pair (Some h) None a b i j v same = absurd (none-some _ (sym same))
some_pair None low a b i j v same = absurd (none-some _ (sym same))

pub pair_read : (a b i v : ℕ) → Some v ≡ byte_of a b → pair_value a b i ≡ Ok v
pair_read a b i v same = some_pair (hex_digit_value a) (hex_digit_value b) a b i (i + 1) v same

-- one byte more is read
pub one_more : (digits room : List ℕ) (at v : ℕ) → 2 * at + 1 < length digits → at < length room
    → Some v ≡ byte_of (slice_index digits (2 * at)) (slice_index digits (2 * at + 1))
    → decode_pairs 0 digits ≡ prepend (take at room) (decode_pairs (2 * at) (drop (2 * at) digits))
    → decode_pairs 0 digits
    ≡ prepend (take (at + 1) (slice_set room at v)) (decode_pairs (2 * (at + 1)) (drop (2 * (at + 1)) digits))
one_more digits room at v fits under same inv =
    let read = pair_read (slice_index digits (2 * at)) (slice_index digits (2 * at + 1)) (2 * at) v same in
    decode_step digits room at v fits under read inv

-- all of them are read
pub all_are_read : (digits room : List ℕ) (at : ℕ) → length room ≤ at → length digits ≡ 2 * length room
    → decode_pairs 0 digits ≡ prepend (take at room) (decode_pairs (2 * at) (drop (2 * at) digits))
    → Some room ≡ bytes_of digits
unfolding bytes_of
all_are_read digits room at end fits inv =
    sym (ap result_ok (decode_of-even digits (omega (arith, fits))
    ∙ decode_done digits room at end (omega (arith, fits, end)) inv))

-- digits of which one has no other name nothing
pub odd_names_nothing : (digits : List ℕ) → length digits % 2 ≡ 1 → bytes_of digits ≡ None
unfolding bytes_of
odd_names_nothing digits odd = ap result_ok (decode_of-odd digits odd)

-- nor do bytes of which one is no digit
none_decoded : (digits : List ℕ) (decoded : Result (List ℕ) FromHexError) → decode_of digits ≡ decoded
    → list_all is_hex_digit digits ≡ false → result_ok decoded ≡ None
none_decoded digits (Ok bytes) is other =
    absurd (false≢true (sym other ∙ list_all-from_AllPass is_hex_digit digits (decode_of-ok digits bytes is).1))
none_decoded digits (Err e) is other = refl

pub others_name_nothing : (digits : List ℕ) → list_all is_hex_digit digits ≡ false → bytes_of digits ≡ None
unfolding bytes_of
others_name_nothing digits other = none_decoded digits (decode_of digits) refl other
