-- Lines that share what stands in lists.
use Rattle.std.proofs.Common.{◌≡◌, ◌<◌, ◌∙◌, ℕ, zero, suc, List, [], ◌∷◌, ◌++◌, length, replicate, get_or, refl, sym}
use Rattle.std.proofs.Common.{ap}
use Rattle.std.proofs.Common.{subst, arith, Some}
use Rattle.std.specs.List.{slice_get}
use Rattle.std.proofs.lemmas.List.{map-append, length-map}
use Rattle.ice_state.specs.PlaceLists.{LinePlaces, no_places, GainsLine}
use Rattle.ice_state.specs.SharedPlaces.{line_in, lines_in, AreIn}

-- ---- lines without places

abbrev pub none : List LinePlaces
none = no_places ∷ []

pub none_in : (n : ℕ) → AreIn none (replicate n 0)
none_in zero = tt
none_in (suc n) = (omega arith, none_in n)

pub none_are : (n : ℕ) → lines_in none (replicate n 0) ≡ replicate n no_places
none_are zero = refl
none_are (suc n) = ap (λ ls. no_places ∷ ls) (none_are n)

-- ---- a line

found : (lists : List LinePlaces) (n : ℕ) → n < length lists → slice_get lists n ≡ Some (line_in lists n)
found [] n l = absurd (omega arith)
found (x ∷ xs) zero l = refl
found (x ∷ xs) (suc n) l = found xs n (omega arith)

pub is_in : (lists : List LinePlaces) (lines : List ℕ) (i d : ℕ) → AreIn lists lines → i < length lines
    → get_or lines i d < length lists
is_in lists [] i d all l = absurd (omega arith)
is_in lists (n ∷ ns) zero d all l = all.0
is_in lists (n ∷ ns) (suc i) d all l = is_in lists ns i d all.1 (omega arith)

pub line_found : (lists : List LinePlaces) (lines : List ℕ) (i d : ℕ) → AreIn lists lines → i < length lines
    → slice_get lists (get_or lines i d) ≡ slice_get (lines_in lists lines) i
line_found lists [] i d all l = absurd (omega arith)
line_found lists (n ∷ ns) zero d all l = found lists n all.0
line_found lists (n ∷ ns) (suc i) d all l = line_found lists ns i d all.1 (omega arith)

pub line_is : (lists : List LinePlaces) (lines : List ℕ) (i d : ℕ) → i < length lines
    → line_in lists (get_or lines i d) ≡ line_in (lines_in lists lines) i
line_is lists [] i d l = absurd (omega arith)
line_is lists (n ∷ ns) zero d l = refl
line_is lists (n ∷ ns) (suc i) d l = line_is lists ns i d (omega arith)

-- the table has so many lines
pub has_lines : (lists : List LinePlaces) (lines : List ℕ) (all : List LinePlaces) → lines_in lists lines ≡ all
    → length lines ≡ length all
has_lines lists lines all is = sym (length-map lines (line_in lists)) ∙ ap length is

-- ---- one more

old_line : (lists : List LinePlaces) (l : LinePlaces) (n : ℕ) → n < length lists
    → line_in (lists ++ l ∷ []) n ≡ line_in lists n
old_line [] l n h = absurd (omega arith)
old_line (x ∷ xs) l zero h = refl
old_line (x ∷ xs) l (suc n) h = old_line xs l n (omega arith)

new_line : (lists : List LinePlaces) (l : LinePlaces) → line_in (lists ++ l ∷ []) (length lists) ≡ l
new_line [] l = refl
new_line (x ∷ xs) l = new_line xs l

one_longer : (lists : List LinePlaces) (l : LinePlaces) → length (lists ++ l ∷ []) ≡ suc (length lists)
one_longer [] l = refl
one_longer (x ∷ xs) l = ap suc (one_longer xs l)

pub still_in : (lists : List LinePlaces) (l : LinePlaces) (lines : List ℕ) → AreIn lists lines
    → AreIn (lists ++ l ∷ []) lines
still_in lists l [] all = tt
still_in lists l (n ∷ ns) all = let long = one_longer lists l in
    (omega (arith, long, all.0), still_in lists l ns all.1)

pub still_are : (lists : List LinePlaces) (l : LinePlaces) (lines : List ℕ) → AreIn lists lines
    → lines_in (lists ++ l ∷ []) lines ≡ lines_in lists lines
still_are lists l [] all = refl
still_are lists l (n ∷ ns) all = λ i. old_line lists l n all.0 i ∷ still_are lists l ns all.1 i

pub in_more : (lists : List LinePlaces) (lines : List ℕ) (n : ℕ) → AreIn lists lines → n < length lists
    → AreIn lists (lines ++ n ∷ [])
in_more lists [] n all l = (l, tt)
in_more lists (m ∷ ms) n all l = (all.0, in_more lists ms n all.1 l)

-- so many lines more that have one list
pub in_many_more : (lists : List LinePlaces) (lines : List ℕ) (n many : ℕ) → AreIn lists lines → n < length lists
    → AreIn lists (lines ++ replicate many n)
in_many_more lists [] n zero all l = tt
in_many_more lists [] n (suc many) all l = (l, in_many_more lists [] n many all l)
in_many_more lists (m ∷ ms) n many all l = (all.0, in_many_more lists ms n many all.1 l)

one_list : (lists : List LinePlaces) (n many : ℕ) → lines_in lists (replicate many n) ≡ replicate many (line_in lists n)
one_list lists n zero = refl
one_list lists n (suc many) = ap (λ ls. line_in lists n ∷ ls) (one_list lists n many)

pub are_many_more : (lists : List LinePlaces) (lines : List ℕ) (n many : ℕ)
    → lines_in lists (lines ++ replicate many n) ≡ lines_in lists lines ++ replicate many (line_in lists n)
are_many_more lists lines n many = map-append (line_in lists) lines (replicate many n)
    ∙ ap (λ ls. lines_in lists lines ++ ls) (one_list lists n many)

-- the table with one list more, and maybe one line more that has it
pub record HasMore (lists news known : List LinePlaces) (lines of_positions of_equalities : List ℕ) : Type 0 where
  pub still : AreIn news lines
  pub same : lines_in news lines ≡ known
  pub whole : AreIn news (lines ++ length lists ∷ [])
  pub gains : GainsLine known (lines_in news (lines ++ length lists ∷ [])) of_positions of_equalities

pub has_more : (lists news known : List LinePlaces) (lines of_positions of_equalities : List ℕ)
    → lines_in lists lines ≡ known → AreIn lists lines → GainsLine lists news of_positions of_equalities
    → HasMore lists news known lines of_positions of_equalities
has_more lists news known lines of_positions of_equalities is within gained =
    let l = gained.line in
    let P : List LinePlaces → Type 0 = λ ns. HasMore lists ns known lines of_positions of_equalities in
    let long = one_longer lists l in
    let same : lines_in (lists ++ l ∷ []) lines ≡ known = still_are lists l lines within ∙ is in
    subst P (sym gained.added) record {
      still = still_in lists l lines within;
      same = same;
      whole = in_more (lists ++ l ∷ []) lines (length lists) (still_in lists l lines within) (omega (arith, long));
      gains = record {
        line = l;
        added = map-append (line_in (lists ++ l ∷ [])) lines (length lists ∷ [])
            ∙ (λ i. same i ++ new_line lists l i ∷ []);
        positions = gained.positions;
        equalities = gained.equalities;
      };
    }
