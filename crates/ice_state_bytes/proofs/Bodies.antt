-- The sections of bodies that say a content.
use Rattle.std.proofs.Common.{◌≡◌, ◌++◌, ◌∙◌, ◌+◌, ◌<◌, ℕ, zero, suc, List, [], ◌∷◌, refl, sym, ap, arith, length}
use Rattle.std.proofs.Common.{append_assoc, get_or, slice_get, subst, take}
use Rattle.std.proofs.Common.{length-append, replicate, Option, Some, None, Result, Ok}
use Rattle.std.proofs.lemmas.List.{length-take, take_more}
use Rattle.contract_words.specs.Outcome.{◌>>=◌}
use Rattle.ice_state.specs.Contents.{Content, with_row}
use Rattle.ice_state.specs.Readings.{Reading}
use Rattle.std.specs.Option.{option_and_then}
use Rattle.ice_state.specs.Specs.{spec_of}
use Rattle.ice_state.specs.Scans.{Scanned, spec_at}
use Rattle.ice_state_sections.specs.Sections.{section_at}
use Rattle.ice_meta.specs.declared.spec.Spec.{Spec}
use Rattle.ice_manifest_reading.specs.declared.row.Row.{Row}
use Rattle.ice_state_bytes.specs.Faults.{said}
use Rattle.ice_state_bytes.specs.declared.fault.StateFault.{StateFault}
use Rattle.ice_state_bytes.specs.Bodies.{AreSaid, IsSaid, sections_of}
use Rattle.ice_state_bytes.specs.States.{reading_at, with_sections}

with_row-behind : (done c : Content) (n : ℕ) (r : Reading) → length done ≡ n
    → with_row (done ++ None ∷ c) n r ≡ done ++ Some r ∷ c
with_row-behind [] c zero r is = refl
with_row-behind [] c (suc n) r is = absurd (omega arith)
with_row-behind (s ∷ done) c zero r is = absurd (omega arith)
with_row-behind (s ∷ done) c (suc n) r is = ap (λ x. s ∷ x) (with_row-behind done c n r (omega arith))

length-behind : (done : Content) (s : Option Reading) (n : ℕ) → length done ≡ n → length (done ++ s ∷ []) ≡ suc n
length-behind done s n is = omega (arith, length-append done (s ∷ []))

pub bodies_say : (scan : Scanned) (c : Content) (bodies : List (Option (List ℕ))) (done : Content) (n : ℕ)
    → length done ≡ n → AreSaid scan n c bodies
    → with_sections scan (done ++ replicate (length c) None) (sections_of n bodies) ≡ Ok (done ++ c)
bodies_say scan [] [] done n is all = refl
bodies_say scan [] (b ∷ bodies) done n is all = absurd all
bodies_say scan (s ∷ c) [] done n is all = absurd all
bodies_say scan (None ∷ c) (Some b ∷ bodies) done n is all = absurd all.0
bodies_say scan (Some r ∷ c) (None ∷ bodies) done n is all = absurd all.0
bodies_say scan (None ∷ c) (None ∷ bodies) done n is all =
    simp append_assoc at (bodies_say scan c bodies (done ++ None ∷ []) (suc n) (length-behind done None n is) all.1)
bodies_say scan (Some r ∷ c) (Some b ∷ bodies) done n is all =
    let rest = simp append_assoc at
    (bodies_say scan c bodies (done ++ Some r ∷ []) (suc n) (length-behind done (Some r) n is) all.1) in
    let before = done ++ None ∷ replicate (length c) None in
    ap (λ (m : Result Reading StateFault). m >>= λ r. with_sections scan (with_row before n r)
    (sections_of (suc n) bodies)) all.0
    ∙ ap (λ (x : Content). with_sections scan x (sections_of (suc n) bodies))
    (with_row-behind done (replicate (length c) None) n r is)
    ∙ rest

-- ---- one more

said_behind : (scan : Scanned) (n : ℕ) (c : Content) (bodies : List (Option (List ℕ))) (s : Option Reading)
    (b : Option (List ℕ)) → AreSaid scan n c bodies → IsSaid scan (n + length c) s b
    → AreSaid scan n (c ++ s ∷ []) (bodies ++ b ∷ [])
said_behind scan n [] [] s b all one = (subst (λ m. IsSaid scan m s b) (n_zero n) one, tt) where
  n_zero : (m : ℕ) → m + 0 ≡ m
  n_zero m = omega arith
said_behind scan n [] (x ∷ bodies) s b all one = absurd all
said_behind scan n (x ∷ c) [] s b all one = absurd all
said_behind scan n (x ∷ c) (y ∷ bodies) s b all one =
    let same : n + suc (length c) ≡ suc n + length c = omega arith in
    (all.0, said_behind scan (suc n) c bodies s b all.1 (subst (λ m. IsSaid scan m s b) same one))

pub said_more : (scan : Scanned) (c : Content) (bodies new : List (Option (List ℕ))) (i : ℕ) (b : Option (List ℕ))
    → i < length c → AreSaid scan 0 (take i c) bodies → IsSaid scan i (get_or c i None) b → new ≡ bodies ++ b ∷ []
    → AreSaid scan 0 (take (i + 1) c) new
said_more scan c bodies new i b low all one is =
    let front : length (take i c) ≡ i = omega (arith, length-take i c) in
    let same : 0 + length (take i c) ≡ i = omega arith in
    let more = said_behind scan 0 (take i c) bodies (get_or c i None) b all
    (subst (λ m. IsSaid scan m (get_or c i None) b) (sym same) one) in
    subst (λ (x : Content). AreSaid scan 0 x new) (sym (take_more c i None low))
    (subst (λ (x : List (Option (List ℕ))). AreSaid scan 0 (take i c ++ get_or c i None ∷ []) x) (sym is) more)

-- ---- their sections

behind_sections : (n : ℕ) (xs : List (Option (List ℕ))) (b : List ℕ)
    → sections_of n (xs ++ Some b ∷ []) ≡ sections_of n xs ++ (n + length xs, b) ∷ []
behind_sections n [] b = let same : n ≡ n + 0 = omega arith in ap (λ m. (m, b) ∷ []) same
behind_sections n (None ∷ xs) b =
    let same : suc n + length xs ≡ n + suc (length xs) = omega arith in
    behind_sections (suc n) xs b ∙ ap (λ m. sections_of (suc n) xs ++ (m, b) ∷ []) same
behind_sections n (Some x ∷ xs) b =
    let same : suc n + length xs ≡ n + suc (length xs) = omega arith in
    ap (λ ps. (n, x) ∷ ps) (behind_sections (suc n) xs b ∙ ap (λ m. sections_of (suc n) xs ++ (m, b) ∷ []) same)

behind_none : (n : ℕ) (xs : List (Option (List ℕ))) → sections_of n (xs ++ None ∷ []) ≡ sections_of n xs
behind_none n [] = refl
behind_none n (None ∷ xs) = behind_none (suc n) xs
behind_none n (Some x ∷ xs) = ap (λ ps. (n, x) ∷ ps) (behind_none (suc n) xs)

pub sections_more : (xs : List (Option (List ℕ))) (i : ℕ) (b : List ℕ) → i < length xs → get_or xs i None ≡ Some b
    → sections_of 0 (take (i + 1) xs) ≡ sections_of 0 (take i xs) ++ (i, b) ∷ []
sections_more xs i b low is =
    let front : length (take i xs) ≡ i = omega (arith, length-take i xs) in
    let same : 0 + length (take i xs) ≡ i = omega arith in
    ap (sections_of 0) (take_more xs i None low ∙ ap (λ (o : Option (List ℕ)). take i xs ++ o ∷ []) is)
    ∙ behind_sections 0 (take i xs) b ∙ ap (λ m. sections_of 0 (take i xs) ++ (m, b) ∷ []) same

pub sections_same : (xs : List (Option (List ℕ))) (i : ℕ) → i < length xs → get_or xs i None ≡ None
    → sections_of 0 (take (i + 1) xs) ≡ sections_of 0 (take i xs)
sections_same xs i low is =
    ap (sections_of 0) (take_more xs i None low ∙ ap (λ (o : Option (List ℕ)). take i xs ++ o ∷ []) is)
    ∙ behind_none 0 (take i xs)

-- ---- rows of a list

pub said_length : (scan : Scanned) (n : ℕ) (c : Content) (bodies : List (Option (List ℕ))) → AreSaid scan n c bodies
    → length bodies ≡ length c
said_length scan n [] [] all = refl
said_length scan n [] (b ∷ bodies) all = absurd all
said_length scan n (s ∷ c) [] all = absurd all
said_length scan n (s ∷ c) (b ∷ bodies) all = ap suc (said_length scan (suc n) c bodies all.1)

pub at_none : {A : Type 0} (xs : List (Option A)) (i : ℕ) (x : Option A) → i < length xs → x ≡ get_or xs i x
    → get_or xs i None ≡ x
at_none {A} [] i x low is = absurd (omega arith)
at_none {A} (y ∷ xs) zero x low is = sym is
at_none {A} (y ∷ xs) (suc i) x low is = at_none xs i x (omega arith) is

pub get_at : {A : Type 0} (xs : List A) (i : ℕ) (x : A) → i < length xs → x ≡ get_or xs i x → slice_get xs i ≡ Some x
get_at {A} [] i x low is = absurd (omega arith)
get_at {A} (y ∷ xs) zero x low is = ap Some (sym is)
get_at {A} (y ∷ xs) (suc i) x low is = get_at xs i x (omega arith) is

pub slot_at : {A : Type 0} (c : List (Option A)) (i : ℕ) (r : A) → get_or c i None ≡ Some r
    → slice_get c i ≡ Some (Some r)
slot_at {A} [] i r is = absurd cc
slot_at {A} (s ∷ c) zero r is = ap Some is
slot_at {A} (s ∷ c) (suc i) r is = slot_at c i r is

pub same_spec : (scan : Scanned) (i : ℕ) (row : Row) (spec : Spec) → slice_get scan.wanted i ≡ Some row
    → spec_at scan i ≡ Some spec → spec_of scan.specs row.spec_id ≡ Some spec
same_spec scan i row spec at is =
    ap (option_and_then (λ (r : Row). spec_of scan.specs r.spec_id)) (sym at) ∙ is

-- what a section says, by the row and its spec
pub reading_is : (scan : Scanned) (i : ℕ) (row : Row) (spec : Spec) (body : List ℕ) → slice_get scan.wanted i ≡ Some row
    → spec_at scan i ≡ Some spec → reading_at scan (i, body) ≡ said (section_at row spec body)
unfolding reading_at
reading_is scan i row spec body at is = rw (at, same_spec scan i row spec at is) refl
