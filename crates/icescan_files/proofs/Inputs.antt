-- What a reader had left, where a front of it was read, and the bundle that it makes.
use Rattle.std.proofs.Common.{◌≢◌, ◌⊎◌, inl, inr}
use Rattle.std.specs.Prelude.{Result, Ok, Err, IfOk, IfErr}
use Rattle.contract_words.specs.Outcome.{Gives}
use Rattle.icescan_text.specs.declared.fault.RunFault.{RunFault}
use Rattle.icescan_text.specs.declared.fault.RunFault.TheVariants as run
use Rattle.std.proofs.Common.{◌≡◌, ℕ, ◌+◌, List, [], ◌++◌, Option, Some, None, append_assoc, drop, take, refl, sym, ◌∙◌, ap}
use Rattle.std.proofs.Math.Seq.{take-add}
use Rattle.std.proofs.lemmas.List.{append-nil}
use Rattle.std.specs.Io.KnownBytes.{Consumes, IsAtEnd, Keeps}
use Rattle.icescan_files.specs.Bundles.{File, IsInput, NoBundle, bundle_of}

-- there is a text that it had left
pub input_is : (a : Option (List ℕ)) → (text : List ℕ) × IsInput a text
input_is None = ([], tt)
input_is (Some xs) = (xs, refl)

-- it goes on with some rest
pub input_goes_on : (a b : Option (List ℕ)) (text : List ℕ) → Consumes a b text → (rest : List ℕ)
    × IsInput a (text ++ rest)
input_goes_on None b text h = ([], tt)
input_goes_on (Some xs) None text h = absurd h
input_goes_on (Some xs) (Some ys) text h = (ys, sym h)

-- at its end it is the whole
pub input_ends : (a b : Option (List ℕ)) (text : List ℕ) → Consumes a b text → IsAtEnd b → IsInput a text
input_ends None b text h e = tt
input_ends (Some xs) None text h e = absurd h
input_ends (Some xs) (Some ys) text h e = sym (h ∙ ap (λ l. text ++ l) e ∙ append-nil text)

is_memory : (e : RunFault) → (e ≡ run.Memory) ⊎ (e ≢ run.Memory)
is_memory run.Memory = inl refl
is_memory e = inr (λ h. cc)

no_bundle : (text : List ℕ) (e : RunFault) → (e ≡ run.Memory) ⊎ (e ≢ run.Memory)
    → (e ≢ run.Memory → bundle_of text ≡ Err e) → NoBundle text e
no_bundle text e (inl m) h = inr (inl m)
no_bundle text e (inr m) h = inr (inr (h m))

-- memory ran out, or the text is no bundle
pub refused_text : (text : List ℕ) (e : RunFault) → (e ≢ run.Memory → bundle_of text ≡ Err e) → NoBundle text e
refused_text text e h = no_bundle text e (is_memory e) h

-- the bundle of a text
pub bundle_found : (left : Option (List ℕ)) (text : List ℕ) (read : Result (List File) RunFault)
    (r : Result (List File) RunFault) → IsInput left text → bundle_of text ≡ read → Gives run.Memory (λ b. b) r read
    → IfOk r (λ b. (text : List ℕ) × IsInput left text × (bundle_of text ≡ Ok b))
bundle_found left text read (Ok b) i e h = (text, i, e ∙ h)
bundle_found left text read (Err f) i e h = tt

pub bundle_refused : (left : Option (List ℕ)) (text : List ℕ) (read : Result (List File) RunFault)
    (r : Result (List File) RunFault) → IsInput left text → bundle_of text ≡ read → Gives run.Memory (λ b. b) r read
    → IfErr r (λ e. (text : List ℕ) × IsInput left text × NoBundle text e)
bundle_refused left text read (Ok b) i e h = tt
bundle_refused left text read (Err f) i e h = (text, i, refused_text text f (λ m. e ∙ h m))

-- what was read, and n bytes behind it
pub read_grows : (a b c : Option (List ℕ)) (xs ys : List ℕ) (f n : ℕ) → take f ys ≡ take f xs
    → Consumes a b (take f xs) → Consumes b c (take n (drop f ys)) → Consumes a c (take (f + n) ys)
read_grows None b c xs ys f n front before read = tt
read_grows (Some x) None c xs ys f n front before read = absurd before
read_grows (Some x) (Some y) None xs ys f n front before read = absurd read
read_grows (Some x) (Some y) (Some z) xs ys f n front before read =
    let more = take n (drop f ys) in
    before ∙ ap (λ l. l ++ y) (sym front) ∙ ap (λ l. take f ys ++ l) read ∙ sym (append_assoc (take f ys) more z)
    ∙ ap (λ l. l ++ z) (sym (take-add f n ys))

-- what was read, where nothing more is
pub read_stays : (a b c : Option (List ℕ)) (xs ys : List ℕ) (f : ℕ) → take f ys ≡ take f xs → Consumes a b (take f xs)
    → Keeps b c → Consumes a c (take f ys)
read_stays None b c xs ys f front before kept = tt
read_stays (Some x) None c xs ys f front before kept = absurd before
read_stays (Some x) (Some y) None xs ys f front before kept = absurd kept
read_stays (Some x) (Some y) (Some z) xs ys f front before kept =
    before ∙ ap (λ l. l ++ y) (sym front) ∙ ap (λ l. take f ys ++ l) (sym kept)
