-- Nothing is told of two lines exactly where the same is known of their files, so likeness passes from one to the next.
use Rattle.std.proofs.Common.{◌≡◌, ◌⊎◌, ℕ, ℤ, Bool, true, false, List, [], ◌∷◌, ◌++◌, map, refl, sym, ap, subst, ◌∙◌}
use Rattle.std.proofs.Common.{inl, inr, Option, Some, None}
use Rattle.std.specs.Bool.{Decides}
use Rattle.std.specs.Cmp.Lexicographic.{pointwise, slice_cmp}
use Rattle.std.specs.Option.{option_eq}
use Rattle.std.specs.Ordering.{int_eq, nat_cmp}
use Rattle.std.specs.Str.{bytes_eq}
use Rattle.std.specs.declared.cmp.Ordering.{Ordering}
use Rattle.std.specs.declared.cmp.Ordering.TheVariants.{Less, Equal, Greater}
use Rattle.std.proofs.lemmas.Bool.Decides.{Decides-and, Decides-eqb, Decides-int_eq, Decides-like}
use Rattle.std.proofs.lemmas.Cmp.{nat_list_cmp_total, tied_itself}
use Rattle.std.proofs.lemmas.Slice.Eq.{bytes_eq-Decides, slice_eq-Decides}
use Rattle.ice_manifest_reading.specs.declared.entry.Entry.{Entry}
use Rattle.ice_state.specs.Lines.{OwnedLine}
use Rattle.ice_value.specs.Equality.{tuple_decides}
use Rattle.ice_value.specs.declared.cell.Cell.{Cell}
use Rattle.icescan_changes.specs.Changes.{altered, file_changes, file_path, files_told, line_changes, lines_told}
use Rattle.icescan_changes.specs.Files.{same_file, same_ids, same_place, same_size}
use Rattle.icescan_changes.specs.Meanings.{AreAlike, IsByPath, after, changes_of, line_of, told_of}
use Rattle.icescan_changes.specs.Walks.{by_order, walked}
use Rattle.icescan_changes.specs.declared.changes.Change.{Change}
use Rattle.icescan_changes.specs.declared.changes.Change.TheVariants as change
use Rattle.icescan_changes.specs.declared.changes.FileChange.{FileChange}
use Rattle.icescan_changes.specs.declared.changes.FileChange.TheVariants as file
use Rattle.icescan_changes.proofs.Telling.{altered_alike, applied, each_path, line_itself}

-- ---- files

-- what is compared of a file
record Parts : Type 0 where
  number : ℕ
  path : List ℕ
  spec_id : ℤ
  tuple : List Cell
  rows : ℤ
  bytes : ℤ
  ids : List ℤ
  referenced : Option (List ℕ)

abbrev parts : Entry → Parts
parts x = record {
  number = x.sequence_number;
  path = x.file.path;
  spec_id = x.spec_id;
  tuple = x.file.tuple;
  rows = x.file.record_count;
  bytes = x.file.file_size;
  ids = x.file.equality_ids;
  referenced = x.file.referenced;
}

named_decides : (p q : Option (List ℕ)) → Decides (option_eq bytes_eq p q) (p ≡ q)
named_decides None None = (λ h. refl, λ h. refl)
named_decides None (Some q) = (λ h. cc, λ h. cc)
named_decides (Some p) None = (λ h. cc, λ h. cc)
named_decides (Some p) (Some q) = Decides-like _ (λ h. ap Some h) (λ h. cc) (bytes_eq-Decides p q)

ids_decide : (xs ys : List ℤ) → Decides (pointwise int_eq xs ys) (xs ≡ ys)
ids_decide xs ys = slice_eq-Decides Decides-int_eq xs ys (pointwise int_eq xs ys) refl

module _ (x y : Entry) where
  abbrev OnePlace : Type 0
  OnePlace = ((x.file.path ≡ y.file.path) × (x.spec_id ≡ y.spec_id)) × (x.file.tuple ≡ y.file.tuple)

  abbrev OneSize : Type 0
  OneSize = (x.file.record_count ≡ y.file.record_count) × (x.file.file_size ≡ y.file.file_size)

  abbrev OneIds : Type 0
  OneIds = (x.file.equality_ids ≡ y.file.equality_ids) × (x.file.referenced ≡ y.file.referenced)

  place_decides : Decides (same_place x y) OnePlace
  place_decides = Decides-and _ _ (Decides-and _ _ (bytes_eq-Decides x.file.path y.file.path)
      (Decides-int_eq x.spec_id y.spec_id)) (tuple_decides x.file.tuple y.file.tuple)

  size_decides : Decides (same_size x y) OneSize
  size_decides = Decides-and _ _ (Decides-int_eq x.file.record_count y.file.record_count)
      (Decides-int_eq x.file.file_size y.file.file_size)

  ids_are : Decides (same_ids x y) OneIds
  ids_are = Decides-and _ _ (ids_decide x.file.equality_ids y.file.equality_ids)
      (named_decides x.file.referenced y.file.referenced)

  abbrev OneFile : Type 0
  OneFile = (((x.sequence_number ≡ y.sequence_number) × OnePlace) × OneSize) × OneIds

  all_decide : Decides (same_file x y) OneFile
  all_decide = Decides-and _ _ (Decides-and _ _ (Decides-and _ _ (Decides-eqb x.sequence_number y.sequence_number)
      place_decides) size_decides) ids_are

  joined : OneFile → parts x ≡ parts y
  joined h = rw (h.0.0.0, h.0.0.1.0.0, h.0.0.1.0.1, h.0.0.1.1, h.0.1.0, h.0.1.1, h.1.0, h.1.1) refl

  apart : parts x ≡ parts y → OneFile
  apart e =
      let number : x.sequence_number ≡ y.sequence_number = ap (λ (p : Parts). p.number) e in
      let path : x.file.path ≡ y.file.path = ap (λ (p : Parts). p.path) e in
      let spec : x.spec_id ≡ y.spec_id = ap (λ (p : Parts). p.spec_id) e in
      let tuple : x.file.tuple ≡ y.file.tuple = ap (λ (p : Parts). p.tuple) e in
      let rows : x.file.record_count ≡ y.file.record_count = ap (λ (p : Parts). p.rows) e in
      let bytes : x.file.file_size ≡ y.file.file_size = ap (λ (p : Parts). p.bytes) e in
      let ids : x.file.equality_ids ≡ y.file.equality_ids = ap (λ (p : Parts). p.ids) e in
      let named : x.file.referenced ≡ y.file.referenced = ap (λ (p : Parts). p.referenced) e in
      (((number, ((path, spec), tuple)), (rows, bytes)), (ids, named))

  file_decides : Decides (same_file x y) (parts x ≡ parts y)
  file_decides = Decides-like (same_file x y) joined apart all_decide

-- ---- delete files

abbrev walk : List Entry → List Entry → List FileChange
walk xs ys = walked file_path file.Removed file.Added files_told xs ys

-- the first step of a walk, where the order of the first paths is known
stepped : (x y : Entry) (xs ys : List Entry) (o : Ordering) → slice_cmp nat_cmp x.file.path y.file.path ≡ o
    → walk (x ∷ xs) (y ∷ ys) ≡ by_order o (file.Removed x ∷ []) (files_told x y) (file.Added y ∷ [])
    ++ by_order o (walk xs (y ∷ ys)) (walk xs ys) (walk (x ∷ xs) ys)
stepped x y xs ys o is = rw is refl

files_alike : (xs ys : List Entry) → file_changes xs ys ≡ [] → map parts xs ≡ map parts ys
files_alike [] [] h = refl
files_alike [] (y ∷ ys) h = absurd cc
files_alike (x ∷ xs) [] h = absurd cc
files_alike (x ∷ xs) (y ∷ ys) h =
    cases (files_alike xs ys) (slice_cmp nat_cmp x.file.path y.file.path) refl where
      told_same : (walk xs ys ≡ [] → map parts xs ≡ map parts ys) → (t : Bool) → same_file x y ≡ t
          → files_told x y ++ walk xs ys ≡ [] → map parts (x ∷ xs) ≡ map parts (y ∷ ys)
      told_same next true is k =
          let none : walk xs ys ≡ [] = rw is at k in
          rw ((file_decides x y).0 is, next none) refl
      told_same next false is k =
          let clash : (file.Removed x ∷ file.Added y ∷ []) ++ walk xs ys ≡ [] = rw is at k in
          absurd cc

      cases : (walk xs ys ≡ [] → map parts xs ≡ map parts ys) → (o : Ordering)
          → slice_cmp nat_cmp x.file.path y.file.path ≡ o → map parts (x ∷ xs) ≡ map parts (y ∷ ys)
      cases next Less is = let clash = sym (stepped x y xs ys Less is) ∙ h in absurd cc
      cases next Equal is =
          told_same next (same_file x y) refl (sym (stepped x y xs ys Equal is) ∙ h)
      cases next Greater is = let clash = sym (stepped x y xs ys Greater is) ∙ h in absurd cc

alike_files : (xs ys : List Entry) → map parts xs ≡ map parts ys → file_changes xs ys ≡ []
alike_files [] [] h = refl
alike_files [] (y ∷ ys) h = absurd cc
alike_files (x ∷ xs) [] h = absurd cc
alike_files (x ∷ xs) (y ∷ ys) h =
    let first : parts x ≡ parts y = cc in
    let rest : map parts xs ≡ map parts ys = cc in
    let path : x.file.path ≡ y.file.path = ap (λ (p : Parts). p.path) first in
    let tied : slice_cmp nat_cmp x.file.path y.file.path ≡ Equal =
    subst (λ (q : List ℕ). slice_cmp nat_cmp q y.file.path ≡ Equal) (sym path)
    (tied_itself nat_list_cmp_total y.file.path) in
    let same : same_file x y ≡ true = (file_decides x y).1 first in
    let none : walk xs ys ≡ [] = alike_files xs ys rest in
    stepped x y xs ys Equal tied ∙ rw (same, none) refl

-- ---- lines

none_altered : (b : OwnedLine) (ps es : List FileChange) → altered b ps es ≡ [] → (ps ≡ []) × (es ≡ [])
none_altered b [] [] h = (refl, refl)
none_altered b [] (e ∷ es) h = absurd cc
none_altered b (p ∷ ps) es h = absurd cc

record LineParts : Type 0 where
  file : Parts
  positions : List Parts
  equalities : List Parts

abbrev line_parts : OwnedLine → LineParts
line_parts l = record {
  file = parts l.file;
  positions = map parts l.positions;
  equalities = map parts l.equalities;
}

told_altered : (a b : OwnedLine) → same_file a.file b.file ≡ true
    → lines_told a b ≡ altered b (file_changes a.positions b.positions) (file_changes a.equalities b.equalities)
told_altered a b is = rw is refl

told_both : (a b : OwnedLine) → same_file a.file b.file ≡ false
    → lines_told a b ≡ change.Removed a ∷ change.Added b ∷ []
told_both a b is = rw is refl

lines_alike : (a b : OwnedLine) → lines_told a b ≡ [] → line_parts a ≡ line_parts b
lines_alike a b h = cases (same_file a.file b.file) refl where
  cases : (t : Bool) → same_file a.file b.file ≡ t → line_parts a ≡ line_parts b
  cases true is =
      let none = none_altered b (file_changes a.positions b.positions) (file_changes a.equalities b.equalities)
      (sym (told_altered a b is) ∙ h) in
      rw (
        (file_decides a.file b.file).0 is,
        files_alike a.positions b.positions none.0,
        files_alike a.equalities b.equalities none.1,
      ) refl
  cases false is = let clash = sym (told_both a b is) ∙ h in absurd cc

alike_lines : (a b : OwnedLine) → line_parts a ≡ line_parts b → lines_told a b ≡ []
alike_lines a b e =
    let one : parts a.file ≡ parts b.file = ap (λ (l : LineParts). l.file) e in
    let positions : map parts a.positions ≡ map parts b.positions = ap (λ (l : LineParts). l.positions) e in
    let equalities : map parts a.equalities ≡ map parts b.equalities = ap (λ (l : LineParts). l.equalities) e in
    told_altered a b ((file_decides a.file b.file).1 one)
    ∙ rw (alike_files a.positions b.positions positions, alike_files a.equalities b.equalities equalities) refl

parts_of : (a b : OwnedLine) → (a ≡ b) ⊎ (lines_told a b ≡ []) → line_parts a ≡ line_parts b
parts_of a b (inl is) = ap line_parts is
parts_of a b (inr none) = lines_alike a b none

-- ---- lines that a plan may have

alike_both : (x y z : Option OwnedLine) → AreAlike x z → AreAlike y z → AreAlike x y
alike_both None None z h k = tt
alike_both None (Some b) None h k = absurd k
alike_both None (Some b) (Some c) h k = absurd h
alike_both (Some a) None None h k = absurd h
alike_both (Some a) None (Some c) h k = absurd k
alike_both (Some a) (Some b) None h k = absurd h
alike_both (Some a) (Some b) (Some c) h k = inr (alike_lines a b (parts_of a c h ∙ sym (parts_of b c k)))

both_after : (a b c : OwnedLine) → (a ≡ b) ⊎ (lines_told a b ≡ []) → (t : Bool) → same_file b.file c.file ≡ t
    → AreAlike (after (lines_told b c) (Some a)) (Some c)
both_after a b c h true is =
    let P : List Change → Type 0 = λ cs. AreAlike (after cs (Some a)) (Some c) in
    subst P (sym (told_altered b c is)) (altered_alike a c (file_changes b.positions c.positions)
    (file_changes b.equalities c.equalities)
    (λ e. alike_lines a c (parts_of a b h ∙ lines_alike b c (told_altered b c is ∙ e))))
both_after a b c h false is =
    let P : List Change → Type 0 = λ cs. AreAlike (after cs (Some a)) (Some c) in
    subst P (sym (told_both b c is)) (inl refl)

-- what is told of two lines makes the second also of a line like the first
after_alike : (x y z : Option OwnedLine) → AreAlike x y → AreAlike (after (told_of y z) x) z
after_alike None None None h = tt
after_alike None None (Some c) h = inl refl
after_alike None (Some b) z h = absurd h
after_alike (Some a) None z h = absurd h
after_alike (Some a) (Some b) None h = tt
after_alike (Some a) (Some b) (Some c) h = both_after a b c h (same_file b.file c.file) refl

pub composed : (first second third : List OwnedLine) (path : List ℕ) → IsByPath first → IsByPath second
    → IsByPath third → AreAlike
    (after (changes_of (line_changes second third) path)
    (after (changes_of (line_changes first second) path) (line_of first path)))
    (after (changes_of (line_changes first third) path) (line_of first path))
composed first second third path h k l =
    let once = after (changes_of (line_changes first second) path) (line_of first path) in
    let P : List Change → Type 0 = λ cs. AreAlike (after cs once) (line_of third path) in
    alike_both _ _ (line_of third path)
    (subst P (sym (each_path second third path k l))
    (after_alike once (line_of second path) (line_of third path) (applied first second path h k)))
    (applied first third path h l)

-- ---- where nothing is told

alike_untold : (x y : Option OwnedLine) → AreAlike x y → told_of x y ≡ []
alike_untold None None h = refl
alike_untold None (Some b) h = absurd h
alike_untold (Some a) None h = absurd h
alike_untold (Some a) (Some b) (inl is) = subst (λ (l : OwnedLine). lines_told a l ≡ []) is (line_itself a)
alike_untold (Some a) (Some b) (inr none) = none

untold_alike : (x y : Option OwnedLine) → told_of x y ≡ [] → AreAlike x y
untold_alike None None h = tt
untold_alike None (Some b) h = absurd cc
untold_alike (Some a) None h = absurd cc
untold_alike (Some a) (Some b) h = inr h

pub untold : (earlier later : List OwnedLine) (path : List ℕ) → IsByPath earlier → IsByPath later
    → changes_of (line_changes earlier later) path ≡ [] → AreAlike (line_of earlier path) (line_of later path)
untold earlier later path h k none =
    untold_alike (line_of earlier path) (line_of later path) (sym (each_path earlier later path h k) ∙ none)

pub told_nothing : (earlier later : List OwnedLine) (path : List ℕ) → IsByPath earlier → IsByPath later
    → AreAlike (line_of earlier path) (line_of later path) → changes_of (line_changes earlier later) path ≡ []
told_nothing earlier later path h k alike =
    each_path earlier later path h k ∙ alike_untold (line_of earlier path) (line_of later path) alike
