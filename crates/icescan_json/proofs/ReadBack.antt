-- What is read of the text of a value that has no float and whose numbers fit 64 bits.
use Rattle.std.proofs.Common.{◌≡◌, suc, ◌≤◌, pos, negsuc, [], ◌++◌}
use Rattle.std.proofs.Common.{Some, option_map, option_and_then, refl, sym, ap, ◌∙◌, arith, append-nil}
use Rattle.json.specs.Lex.{tokens}
use Rattle.json.specs.Json as json
use Rattle.json.specs.Tree as tree
use Rattle.json.specs.Print.{IsNumber}
use Rattle.json.proofs.Printed.Decimals.{IsNumber-decimal, IsNumber-signed_decimal}
use Rattle.json.proofs.Printed.Tokens.{tokens-print}
use Rattle.json.proofs.Printed.Trees.{value-json_tokens, ArePrintable-json_tokens}
use Rattle.serde_json.specs.Data.{Num, unsigned, negative, float, Data, null, boolean, number, string, array, object}
use Rattle.serde_json.specs.Data.{Items, no_items, item, Members, no_members, member, put, depth, items_depth}
use Rattle.serde_json.specs.Data.{members_depth}
use Rattle.serde_json.specs.Read.{read, number_of, of_json, of_items, of_members, max_depth}
use Rattle.serde_json.specs.Written.{number_text, outline, items_outline, members_outline, compact_text}
use Rattle.serde_json.proofs.Numbers.{number_of-decimal, number_of-negative}
use Rattle.serde_json.proofs.Texts.{print-outline}
use Rattle.icescan_json.specs.Told.{by_key, items_by_key, members_by_key, Fits, FitsItems, FitsMembers, FitsNum}

number_is : (n : Num) → FitsNum n → IsNumber (number_text n)
number_is (unsigned n) h = IsNumber-decimal n h
number_is (negative (pos n)) h = absurd h
number_is (negative (negsuc n)) h = IsNumber-signed_decimal (negsuc n) h
number_is (float x) h = absurd h

mutual
  numbers : (d : Data) → Fits d → tree.HasNumbers (outline d)
  numbers null h = tt
  numbers (boolean truth) h = tt
  numbers (number n) h = number_is n h
  numbers (string s) h = tt
  numbers (array ds) h = items_numbers ds h
  numbers (object ms) h = members_numbers ms h

  items_numbers : (ds : Items) → FitsItems ds → tree.ItemsHaveNumbers (items_outline ds)
  items_numbers no_items h = tt
  items_numbers (item d ds) h = (numbers d h.0, items_numbers ds h.1)

  members_numbers : (ms : Members) → FitsMembers ms → tree.MembersHaveNumbers (members_outline ms)
  members_numbers no_members h = tt
  members_numbers (member key d ms) h = (numbers d h.0, members_numbers ms h.1)

mutual
  deep : (d : Data) → tree.depth (outline d) ≡ depth d
  deep null = refl
  deep (boolean truth) = refl
  deep (number n) = refl
  deep (string s) = refl
  deep (array ds) = ap suc (items_deep ds)
  deep (object ms) = ap suc (members_deep ms)

  items_deep : (ds : Items) → tree.items_depth (items_outline ds) ≡ items_depth ds
  items_deep no_items = refl
  items_deep (item d ds) = rw (deep d, items_deep ds) refl

  members_deep : (ms : Members) → tree.members_depth (members_outline ms) ≡ members_depth ms
  members_deep no_members = refl
  members_deep (member key d ms) = rw (deep d, members_deep ms) refl

read_number : (n : Num) → FitsNum n → number_of (number_text n) ≡ Some n
read_number (unsigned n) h = number_of-decimal n h
read_number (negative (pos n)) h = absurd h
read_number (negative (negsuc n)) h = number_of-negative n h
read_number (float x) h = absurd h

mutual
  data_of : (d : Data) → Fits d → of_json (outline d) ≡ Some (by_key d)
  data_of null h = refl
  data_of (boolean truth) h = refl
  data_of (number n) h = ap (option_map number) (read_number n h)
  data_of (string s) h = refl
  data_of (array ds) h = ap (option_map array) (items_of_outline ds h)
  data_of (object ms) h = ap (option_map object) (members_of_outline ms no_members h)

  items_of_outline : (ds : Items) → FitsItems ds → of_items (items_outline ds) ≡ Some (items_by_key ds)
  items_of_outline no_items h = refl
  items_of_outline (item d ds) h = rw (data_of d h.0, items_of_outline ds h.1) refl

  members_of_outline : (ms : Members) (found : Members) → FitsMembers ms → of_members (members_outline ms) found
      ≡ Some (members_by_key ms found)
  members_of_outline no_members found h = refl
  members_of_outline (member key d ms) found h =
      rw (data_of d h.0) (members_of_outline ms (put key (by_key d) found) h.1)

pub reads_back : (d : Data) → Fits d → depth d ≤ max_depth → read (compact_text d) ≡ Some (by_key d)
reads_back d fits shallow =
    let ts = tree.json_tokens (outline d) in
    let printable = ArePrintable-json_tokens (outline d) (numbers d fits) in
    let same : tokens (compact_text d) ≡ ts ++ [] =
    ap tokens (sym (print-outline d)) ∙ tokens-print ts printable ∙ sym (append-nil ts) in
    ap (λ l. option_and_then of_json (option_and_then (λ p. json.if_last p.0 p.1) (json.value max_depth l))) same
    ∙ ap (λ o. option_and_then of_json (option_and_then (λ p. json.if_last p.0 p.1) o))
    (value-json_tokens (outline d) max_depth [] (omega (arith, deep d)))
    ∙ data_of d fits
