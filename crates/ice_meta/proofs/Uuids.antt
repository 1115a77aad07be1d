-- A uuid that was read from a text is read again from its hyphenated text.
use Rattle.std.proofs.Common.{◌≡◌, ℕ, ◌+◌, ◌*◌, ◌<◌, ◌==◌, ◌&&◌, Bool, true, false, List, length, get_or, take, drop}
use Rattle.std.proofs.Common.{All, Option, None, Some, if◌then◌else◌, inl, refl, sym, arith}
use Rattle.std.proofs.lemmas.Bool.{eqb-true}
use Rattle.std.proofs.lemmas.Bool.Decides.{nat_tests}
use Rattle.std.proofs.lemmas.List.Sums.{AllPass-from_list_all}
use Rattle.std.specs.List.{list_all}
use Rattle.uuid.specs.Text.{by_index, byte_of_digits, digits_of, has_hyphens, has_urn_prefix, hyphenated_text}
use Rattle.uuid.specs.Text.{is_hex_digit, lower, parsed, parsed_simple, parsed_hyphenated}
use Rattle.uuid.specs.Text.{parsed_braced, parsed_urn, value_of}
use Rattle.uuid.proofs.RoundTrips.{parses_hyphenated}
use Rattle.uuid.proofs.TextLemmas.{all_fit, by_index_at, by_index_length}

-- sixteen bytes
record IsUuid (u : List ℕ) : Type 0 where
  pub long : length u ≡ 16
  pub bytes : All (λ b. b < 256) u

both : (a b : Bool) → (a && b) ≡ true → (a ≡ true) × (b ≡ true)
both true b e = (refl, e)
both false b e = absurd cc

digit_small : (c : ℕ) → is_hex_digit c ≡ true → value_of c < 16
digit_small c is = grind (arith, nat_tests)

byte_small : (hex : List ℕ) → length hex ≡ 32 → list_all is_hex_digit hex ≡ true → (j : ℕ) → j < 16
    → byte_of_digits hex j < 256
byte_small hex long all j within =
    let pass = AllPass-from_list_all is_hex_digit hex all in
    let high = digit_small (get_or hex (2 * j) 0) (pass (2 * j) 0 (omega arith)) in
    let low = digit_small (get_or hex (2 * j + 1) 0) (pass (2 * j + 1) 0 (omega arith)) in
    omega arith

digits_give : (hex : List ℕ) → length hex ≡ 32 → list_all is_hex_digit hex ≡ true
    → IsUuid (by_index 16 (byte_of_digits hex))
digits_give hex long all = record {
  long = by_index_length 16 (byte_of_digits hex);
  bytes = all_fit (by_index 16 (byte_of_digits hex)) (λ j within.
      let here : j < 16 = rw (by_index_length 16 (byte_of_digits hex)) at within in
      rw (by_index_at 16 (byte_of_digits hex) j 0 here) (byte_small hex long all j here));
}

-- ---- each form

simple_gives : (s u : List ℕ) → parsed_simple s ≡ Some u → IsUuid u
simple_gives s u e = here ((length s == 32) && list_all is_hex_digit s) refl e
  where
    here : (b : Bool) → ((length s == 32) && list_all is_hex_digit s) ≡ b
        → (if b then Some (by_index 16 (byte_of_digits s)) else None) ≡ Some u → IsUuid u
    here true is now =
        let same : by_index 16 (byte_of_digits s) ≡ u = cc in
        let p = both (length s == 32) (list_all is_hex_digit s) is in
        rw (← same) (digits_give s (eqb-true (length s) 32 p.0) p.1)
    here false is now = absurd cc

-- what passes a test
passed : (b : Bool) (o : Option (List ℕ)) (u : List ℕ) → (if b then o else None) ≡ Some u → o ≡ Some u
passed true o u e = e
passed false o u e = absurd cc

either : (b : Bool) (o p : Option (List ℕ)) (u : List ℕ) → (if b then o else p) ≡ Some u → (o ≡ Some u → IsUuid u)
    → (p ≡ Some u → IsUuid u) → IsUuid u
either true o p u e first second = first e
either false o p u e first second = second e

hyphenated_gives : (s u : List ℕ) → parsed_hyphenated s ≡ Some u → IsUuid u
hyphenated_gives s u e = simple_gives (digits_of s) u (passed ((length s == 36) && has_hyphens s) _ u e)

braced_gives : (s u : List ℕ) → parsed_braced s ≡ Some u → IsUuid u
braced_gives s u e = hyphenated_gives (take 36 (drop 1 s)) u (passed _ _ u e)

urn_gives : (s u : List ℕ) → parsed_urn s ≡ Some u → IsUuid u
urn_gives s u e = hyphenated_gives (drop 9 s) u (passed ((length s == 45) && has_urn_prefix s) _ u e)

text_gives : (s u : List ℕ) → parsed s ≡ Some u → IsUuid u
text_gives s u e =
    either (length s == 32) (parsed_simple s) _ u e (simple_gives s u) (λ e1.
    either (length s == 36) (parsed_hyphenated s) _ u e1 (hyphenated_gives s u) (λ e2.
    either (length s == 38) (parsed_braced s) _ u e2 (braced_gives s u) (λ e3.
    urn_gives s u (passed (length s == 45) (parsed_urn s) u e3))))

pub reads_again : (s u : List ℕ) → parsed s ≡ Some u → parsed (hyphenated_text lower u) ≡ Some u
reads_again s u e =
    let is = text_gives s u e in
    sym (parses_hyphenated lower u (inl refl) is.long is.bytes)
