-- Parts that are put one behind the other read back one behind the other.
use Rattle.std.proofs.Common.{◌≡◌, ℕ, suc, ◌+◌, ◌^◌, ◌<◌, ◌≤◌, Bool, true, false, List, [], ◌∷◌, ◌++◌, length, ℤ, Ok}
use Rattle.std.proofs.Common.{Option, Some, None, refl, sym, ap, ◌∙◌, append_assoc, arith, cond, add-zero, pos, negsuc}
use Rattle.std.proofs.Common.{FitsSigned, w32, to_z, of_z, get_or, take, subst}
use Rattle.std.proofs.lemmas.Bool.{lt-ltb}
use Rattle.std.proofs.lemmas.Int.{to_z-of_z}
use Rattle.std.specs.Int.{Width}
use Rattle.std.specs.Str.{is_utf8}
use Rattle.std.proofs.lemmas.List.{append-nil, length-append, take_more, take_all}
use Rattle.contract_words.specs.Outcome.{◌>>=◌}
use Rattle.avro_file_parts.specs.Number.{number_at, long_at}
use Rattle.ice_value.specs.Bounds.{fits_int}
use Rattle.ice_state_envelopes.specs.Written.{Puts, counted_run_at}
use Rattle.ice_state_sections.specs.Parts.{Read, part, made, number, long, run, int, truth, text, optional, behind}
use Rattle.ice_state_sections.specs.Written.{Adds}

-- a reader that gives the same
pub same : {A : Type 0} {read other : List ℕ → Read A} {x : A} {a b : List ℕ}
    → ((s : List ℕ) → other s ≡ read s) → Adds read x a b → Adds other x a b
same h p = record { puts = (p.puts.0, p.puts.1, λ rest. h (p.puts.0 ++ rest) ∙ p.puts.2 rest) }

-- nothing more
pub done : {A : Type 0} {x : A} {a : List ℕ} → Adds (λ s. Ok (x, s)) x a a
done {A} {x} {a} = record { puts = ([], sym (append-nil a), λ rest. refl) }

-- a part, and another behind it
pub then : {A B : Type 0} {read : List ℕ → Read A} (next : A × List ℕ → Read B) {x : A} {y : B} {a b c : List ℕ}
    → Adds read x a b → Adds (λ s. next (x, s)) y b c → Adds (λ s. read s >>= next) y a c
then {A} {B} {read} next {x} {y} {a} {b} {c} p q =
    let s = p.puts.0 in
    let t = q.puts.0 in
    let last : c ≡ a ++ (s ++ t) = q.puts.1 ∙ ap (λ (w : List ℕ). w ++ t) p.puts.1 ∙ append_assoc a s t in
    let again : (rest : List ℕ) → (read ((s ++ t) ++ rest) >>= next) ≡ Ok (y, rest) = λ rest.
    ap (λ (w : List ℕ). read w >>= next) (append_assoc s t rest)
    ∙ ap (λ (r : Read A). r >>= next) (p.puts.2 (t ++ rest)) ∙ q.puts.2 rest in
    record { puts = (s ++ t, last, again) }

-- a value of which another is made
pub then_made : {A B : Type 0} (f : A → B) {read : List ℕ → Read A} {x : A} {a b : List ℕ}
    → Adds read x a b → Adds (λ s. made f (read s)) (f x) a b
then_made f p = then (λ x. Ok (f x.0, x.1)) p done

-- ---- the parts

pub a_number : (n : ℕ) (a b : List ℕ) → Puts (number_at (2 ^ 64)) n a b → Adds number n a b
unfolding number
a_number n a b p = record { puts = (p.0, p.1, λ rest. ap part (p.2 rest)) }

pub a_long : (z : ℤ) (a b : List ℕ) → Puts long_at z a b → Adds long z a b
unfolding long
a_long z a b p = record { puts = (p.0, p.1, λ rest. ap part (p.2 rest)) }

pub a_run : (bytes a b : List ℕ) → Puts counted_run_at bytes a b → Adds run bytes a b
unfolding run
a_run bytes a b p = record { puts = (p.0, p.1, λ rest. ap part (p.2 rest)) }

-- a number with a sign, by its bits
pub again : (w : Width) (read : List ℕ → Read ℤ) (z : ℤ) (a b : List ℕ) → FitsSigned w z
    → Adds read (to_z w (of_z w z)) a b → Adds read z a b
again w read z a b fits p = subst (λ (y : ℤ). Adds read y a b) (to_z-of_z w z fits) p

pub int_fits : (z : ℤ) → FitsSigned w32 z → fits_int z ≡ true
int_fits (pos n) h = lt-ltb n 0x8000_0000 h.sfits
int_fits (negsuc n) h = lt-ltb n 0x8000_0000 h.sfits

pub an_int : (z : ℤ) (a b : List ℕ) → fits_int z ≡ true → Adds long z a b → Adds int z a b
unfolding int
an_int z a b h p = record { puts = (p.puts.0, p.puts.1, λ rest. rw (p.puts.2 rest, h) refl) }

pub a_text : (s a b : List ℕ) → is_utf8 s ≡ true → Adds run s a b → Adds text s a b
unfolding text
a_text s a b h p = record { puts = (p.puts.0, p.puts.1, λ rest. rw (p.puts.2 rest, h) refl) }

-- the number of a truth
abbrev pub number_of : Bool → ℕ
number_of true = 1
number_of false = 0

pub a_truth : (v : Bool) (a b : List ℕ) → Adds number (number_of v) a b → Adds truth v a b
unfolding truth
a_truth true a b p = record { puts = (p.puts.0, p.puts.1, λ rest. rw (p.puts.2 rest) refl) }
a_truth false a b p = record { puts = (p.puts.0, p.puts.1, λ rest. rw (p.puts.2 rest) refl) }

-- ---- a number for what it is, and what it has

pub kind_alone : {B : Type 0} (whole : List ℕ → Read B) (of : ℕ → List ℕ → Read B) (code : ℕ) (y : B) (a b : List ℕ)
    → ((s : List ℕ) → whole s ≡ (number s >>= λ c. of c.0 c.1)) → ((s : List ℕ) → of code s ≡ Ok (y, s))
    → Adds number code a b → Adds whole y a b
kind_alone whole of code y a b h k p =
    record { puts = (p.puts.0, p.puts.1, λ rest. h (p.puts.0 ++ rest) ∙ rw (p.puts.2 rest) (k rest)) }

pub kind_with : {A B : Type 0} (whole : List ℕ → Read B) (of : ℕ → List ℕ → Read B) (code : ℕ)
    (read : List ℕ → Read A) (x : A) (y : B) (a b c : List ℕ)
    → ((s : List ℕ) → whole s ≡ (number s >>= λ k. of k.0 k.1))
    → ((s rest : List ℕ) → read s ≡ Ok (x, rest) → of code s ≡ Ok (y, rest))
    → Adds number code a b → Adds read x b c → Adds whole y a c
kind_with {A} {B} whole of code read x y a b c h k p q =
    let r : Adds (of code) y b c = record {
      puts =
          (q.puts.0, q.puts.1, λ rest. k (q.puts.0 ++ rest) rest (q.puts.2 rest));
    } in
    let whole_is : Adds (λ s. number s >>= λ k. of k.0 k.1) y a c = then (λ k. of k.0 k.1) p r in
    same h whole_is

-- ---- values that may be missing

-- behind the truth
abbrev pub optional_from : {A : Type 0} → (List ℕ → Read A) → Bool × List ℕ → Read (Option A)
optional_from read there = cond there.0 (made Some (read there.1)) (Ok (None, there.1))

pub some_added : {A : Type 0} (read : List ℕ → Read A) (x : A) (a b c : List ℕ)
    → Adds truth true a b → Adds read x b c → Adds (optional read) (Some x) a c
some_added read x a b c p q = then (optional_from read) p (then_made Some q)

pub none_added : {A : Type 0} (read : List ℕ → Read A) (a b : List ℕ) → Adds truth false a b
    → Adds (optional read) None a b
none_added read a b p = then (optional_from read) p done

-- ---- so many values

-- the values so far are those of the front, and what is read goes on behind them
pub record Goes {A : Type 0} (read : List A → List ℕ → Read A) (front : List A) (old new : List ℕ) : Type 0 where
  pub bytes : List ℕ
  pub last : new ≡ old ++ bytes
  pub again : (m : ℕ) (rest : List ℕ) → behind read (m + length front) [] (bytes ++ rest) ≡ behind read m front rest

pub none_yet : {A : Type 0} (read : List A → List ℕ → Read A) (a : List ℕ) → Goes read [] a a
none_yet read a = record {
  bytes = [];
  last = sym (append-nil a);
  again =
      λ m rest. ap (λ (n : ℕ). behind read n [] rest) (add-zero m);
}

pub one_more : {A : Type 0} (read : List A → List ℕ → Read A) (front : List A) (x : A) (a b c : List ℕ)
    → Goes read front a b → Adds (read front) x b c → Goes read (front ++ x ∷ []) a c
unfolding behind
one_more {A} read front x a b c g p =
    let s = g.bytes in
    let t = p.puts.0 in
    record {
      bytes = s ++ t;
      last = p.puts.1 ∙ ap (λ (w : List ℕ). w ++ t) g.last ∙ append_assoc a s t;
      again = λ m rest.
          let k : m + length (front ++ x ∷ []) ≡ suc m + length front = omega (arith, length-append front (x ∷ [])) in
          let here : behind read (suc m) front (t ++ rest) ≡ behind read m (front ++ x ∷ []) rest =
          rw (p.puts.2 rest) refl in
          ap (λ (n : ℕ). behind read n [] ((s ++ t) ++ rest)) k
          ∙ ap (behind read (suc m + length front) []) (append_assoc s t rest) ∙ g.again (suc m) (t ++ rest) ∙ here;
    }

pub all_added : {A : Type 0} (read : List A → List ℕ → Read A) (xs : List A) (a b : List ℕ) (n : ℕ) → n ≡ length xs
    → Goes read xs a b → Adds (behind read n []) xs a b
unfolding behind
all_added {A} read xs a b n e g =
    let k : n ≡ 0 + length xs = omega arith in
    record { puts = (g.bytes, g.last, λ rest. ap (λ (m : ℕ). behind read m [] (g.bytes ++ rest)) k ∙ g.again 0 rest) }

-- the next value of a list
pub goes_further : {A : Type 0} (read : List A → List ℕ → Read A) (xs : List A) (i : ℕ) (x : A) (a b c : List ℕ)
    → i < length xs → x ≡ get_or xs i x → Goes read (take i xs) a b → Adds (read (take i xs)) x b c
    → Goes read (take (i + 1) xs) a c
goes_further {A} read xs i x a b c lt is g p =
    let e : take (i + 1) xs ≡ take i xs ++ x ∷ [] = take_more xs i x lt
    ∙ ap (λ (y : A). take i xs ++ y ∷ []) (sym is) in
    subst (λ (l : List A). Goes read l a c) (sym e) (one_more read (take i xs) x a b c g p)

-- all values of a list
pub goes_all : {A : Type 0} (read : List A → List ℕ → Read A) (xs : List A) (i : ℕ) (a b : List ℕ)
    → length xs ≤ i → Goes read (take i xs) a b → Adds (behind read (length xs) []) xs a b
goes_all {A} read xs i a b le g =
    all_added read xs a b (length xs) refl (subst (λ (l : List A). Goes read l a b) (take_all i xs le) g)
