-- Entries that are read are ones that the manifest of the row may have.
use Rattle.std.proofs.Common.{◌≡◌, ◌<◌, ℕ, zero, suc, ℤ, Option, Bool, true, false, ◌&&◌, cond, eqb, List, [], ◌∷◌}
use Rattle.std.proofs.Common.{◌++◌, length, get_or, take, append_assoc, Result, Ok, Err, refl, ap, sym, subst, ◌∙◌}
use Rattle.std.proofs.Common.{arith, ◌≤◌, Some, None}
use Rattle.std.specs.List.{AllByRecursion}
use Rattle.std.proofs.lemmas.Bool.{leb-true}
use Rattle.ice_value.specs.declared.file_content.FileContent.{FileContent}
use Rattle.ice_value.specs.declared.file_content.FileContent.TheVariants as holds
use Rattle.std.specs.Prelude.{IfOk, IfSome}
use Rattle.std.specs.Global.{Vec}
use Rattle.std.proofs.lemmas.List.{append-nil}
use Rattle.std.proofs.lemmas.Result.{IfOk-weaker}
use Rattle.contract_words.specs.Outcome.{◌>>=◌, Gives}
use Rattle.ice_meta.specs.declared.spec.Spec.{Spec}
use Rattle.ice_meta.specs.Partitioning.{is_unpartitioned}
use Rattle.ice_manifest_fields.specs.declared.fault.ManifestFault.{ManifestFault}
use Rattle.ice_manifest_reading.specs.declared.row.Row.{Row}
use Rattle.ice_manifest_reading.specs.declared.data_file.DataFile.{DataFile}
use Rattle.ice_manifest_reading.specs.declared.entry.Entry.{Entry}
use Rattle.ice_state_sections.specs.declared.section_fault.SectionFault.{SectionFault}
use Rattle.ice_state_sections.specs.declared.section_fault.SectionFault.TheVariants.{NoSection, NotOfRow, Memory}
use Rattle.ice_state_sections.specs.Parts.{Read, number, optional, behind}
use Rattle.ice_state_sections.specs.Files.{file}
use Rattle.ice_state_sections.specs.Faults.{fault}
use Rattle.ice_state_sections.specs.Entries.{Known, known, fits, are_behind, AreOfRow, snapshot, sequence, checked}
use Rattle.ice_state_sections.specs.Entries.{entry_behind, entry, entries, reference_fits, HasShortPaths}
use Rattle.ice_state_sections.proofs.EntriesAdded.{both}
use Rattle.ice_state_sections.specs.Sections.{alone, given, section_at, found}

-- what holds of a value that is read last
if_ok_then : {A B : Type 0} (r : Result A SectionFault) (next : A → Result B SectionFault) (Q : A → Type 0)
    (P : B → Type 0) → IfOk r Q → ((x : A) → Q x → IfOk (next x) P) → IfOk (r >>= next) P
if_ok_then (Ok x) next Q P q h = h x q
if_ok_then (Err e) next Q P q h = tt

any_then : {A B : Type 0} (r : Result A SectionFault) (next : A → Result B SectionFault) (P : B → Type 0)
    → ((x : A) → IfOk (next x) P) → IfOk (r >>= next) P
any_then (Ok x) next P h = h x
any_then (Err e) next P h = tt

-- the same of each value, as a record
record Always {A : Type 0} (P : A → Type 0) (r : Result A SectionFault) : Type 0 where
  said : IfOk r P

always_then : {A B : Type 0} (P : B → Type 0) (r : Result A SectionFault) (next : A → Result B SectionFault)
    → ((x : A) → Always P (next x)) → Always P (r >>= next)
always_then {A} {B} P r next h = record { said = any_then r next P (λ x. (h x).said) }

if_cond : {A : Type 0} (b : Bool) (x y : Result A SectionFault) (P : A → Type 0) → IfOk x P → IfOk y P
    → IfOk (cond b x y) P
if_cond true x y P p q = p
if_cond false x y P p q = q

-- ---- one entry

abbrev read_as : Entry → List ℕ → Read Entry
read_as e rest = Ok (e, rest)

checked_by : (row : Row) (spec : Spec) (before : Known) (e : Entry) (rest : List ℕ) (b : Bool)
    → fits row spec before e ≡ b
    → IfOk (cond b (read_as e rest) (Err NotOfRow)) (λ x. fits row spec before x.0 ≡ true)
checked_by row spec before e rest true h = h
checked_by row spec before e rest false h = tt

checked_fits : (row : Row) (spec : Spec) (before : Known) (e : Entry) (rest : List ℕ)
    → IfOk (checked row spec before e rest) (λ x. fits row spec before x.0 ≡ true)
checked_fits row spec before e rest = checked_by row spec before e rest (fits row spec before e) refl

entry_fits : (row : Row) (spec : Spec) (before : Known) (bytes : List ℕ)
    → IfOk (entry_behind row spec before bytes) (λ x. fits row spec before x.0 ≡ true)
unfolding entry_behind
entry_fits row spec before bytes =
    let P : Entry × List ℕ → Type 0 = λ x. fits row spec before x.0 ≡ true in
    let always : Always P (entry_behind row spec before bytes) =
    always_then P (number bytes) _ (λ (position : ℕ × List ℕ).
    always_then P (snapshot before.snapshot_id position.1) _ (λ (of : ℤ × List ℕ).
    always_then P (sequence of.1) _ (λ (commit : ℕ × List ℕ).
    always_then P (optional sequence commit.1) _ (λ (added : Option ℕ × List ℕ).
    always_then P (file (length spec.fields) before.path added.1) _ (λ (said : DataFile × List ℕ). record {
      said = checked_fits row spec before (record {
        position = position.0;
        spec_id = row.spec_id;
        unpartitioned = is_unpartitioned spec;
        snapshot_id = of.0;
        sequence_number = commit.0;
        file_sequence_number = added.0;
        file = said.0;
      }) said.1;
    }))))) in
    always.said

-- ---- all entries

-- entries that were read behind those of the front
abbrev ReadBehind : Row → Spec → List Entry → List Entry × List ℕ → Type 0
ReadBehind row spec front x = (es : List Entry) × (x.0 ≡ front ++ es) × (are_behind row spec front es ≡ true)

one_more : (row : Row) (spec : Spec) (front : List Entry) (e : Entry) (x : List Entry × List ℕ)
    → fits row spec (known row front) e ≡ true → ReadBehind row spec (front ++ e ∷ []) x → ReadBehind row spec front x
unfolding are_behind
one_more row spec front e x h w = (e ∷ w.0, w.1 ∙ append_assoc front (e ∷ []) w.0, rw (h, w.2) refl)

read_behind : (row : Row) (spec : Spec) (n : ℕ) (front : List Entry) (bytes : List ℕ)
    → IfOk (behind (entry row spec) n front bytes) (ReadBehind row spec front)
unfolding behind are_behind
read_behind row spec zero front bytes = ([], sym (append-nil front), refl)
read_behind row spec (suc n) front bytes =
    if_ok_then (entry row spec front bytes) _ (λ x. fits row spec (known row front) x.0 ≡ true) _
    (entry_fits row spec (known row front) bytes)
    (λ x h. IfOk-weaker (behind (entry row spec) n (front ++ x.0 ∷ []) x.1) _ _
    (λ y w. one_more row spec front x.0 y h w)
    (read_behind row spec n (front ++ x.0 ∷ []) x.1))

entries_of_row : (row : Row) (spec : Spec) (bytes : List ℕ) → IfOk (entries row spec bytes) (λ x. AreOfRow row spec x.0)
unfolding entries
entries_of_row row spec bytes = any_then (number bytes) _ _ (λ count.
    IfOk-weaker (behind (entry row spec) count.0 [] count.1) (ReadBehind row spec []) (λ x. AreOfRow row spec x.0)
    (λ x w. subst (λ (es : List Entry). are_behind row spec [] es ≡ true) (sym w.1) w.2)
    (read_behind row spec count.0 [] count.1))

-- ---- a section

abbrev GivesOfRow : Row → Spec → Result (List Entry) ManifestFault → Type 0
GivesOfRow row spec found = IfOk found (AreOfRow row spec)

alone_is : {A : Type 0} (r : Read A) (P : A → Type 0) → IfOk r (λ x. P x.0) → IfOk (alone r) P
alone_is {A} (Ok x) P h = if_cond (eqb (length x.1) 0) (Ok x.0) (Err NoSection) P h tt
alone_is {A} (Err e) P h = tt

given_of_row : (row : Row) (spec : Spec) (kind : ℕ) (rest : List ℕ)
    → IfOk (given row spec kind rest) (λ x. GivesOfRow row spec x.0)
given_of_row row spec kind rest =
    let P : Result (List Entry) ManifestFault × List ℕ → Type 0 = λ x. GivesOfRow row spec x.0 in
    if_cond (eqb kind 0) _ _ P
    (if_ok_then (entries row spec rest) _ (λ x. AreOfRow row spec x.0) P (entries_of_row row spec rest) (λ x h. h))
    (if_cond (eqb kind 1) _ _ P (any_then (fault rest) _ P (λ x. tt)) tt)

section_of_row : (row : Row) (spec : Spec) (bytes : List ℕ) → IfOk (section_at row spec bytes) (GivesOfRow row spec)
unfolding section_at
section_of_row row spec bytes = any_then (number bytes) _ _ (λ kind.
    alone_is (given row spec kind.0 kind.1) (GivesOfRow row spec) (given_of_row row spec kind.0 kind.1))

found_of_row : (row : Row) (spec : Spec) (x : Result (Vec Entry) ManifestFault) → GivesOfRow row spec (found x)
    → IfOk x (λ es. AreOfRow row spec es.items)
found_of_row row spec (Ok es) h = h
found_of_row row spec (Err f) h = tt

pub read_of_row : (row : Row) (spec : Spec) (bytes : List ℕ)
    (r : Result (Result (Vec Entry) ManifestFault) SectionFault) → Gives Memory found r (section_at row spec bytes)
    → IfOk r (λ x. IfOk x (λ es. AreOfRow row spec es.items))
read_of_row row spec bytes (Ok x) h = found_of_row row spec x
    (subst (λ (s : Result (Result (List Entry) ManifestFault) SectionFault). IfOk s (GivesOfRow row spec)) h
    (section_of_row row spec bytes))
read_of_row row spec bytes (Err e) h = tt

-- ---- entries that the manifest can't have

and_false : (b : Bool) → (b && false) ≡ false
and_false true = refl
and_false false = refl

pub not_behind : (row : Row) (spec : Spec) (front es : List Entry) (i : ℕ) (e : Entry) → i < length es
    → e ≡ get_or es i e
    → fits row spec (known row (front ++ take i es)) e ≡ false → are_behind row spec front es ≡ false
unfolding are_behind
not_behind row spec front [] i e lt is h = absurd (omega arith)
not_behind row spec front (x ∷ xs) zero e lt is h =
    let here : fits row spec (known row front) x ≡ false =
    ap (fits row spec (known row front)) (sym is)
    ∙ ap (λ (f : List Entry). fits row spec (known row f) e) (sym (append-nil front)) ∙ h in
    rw here refl
not_behind row spec front (x ∷ xs) (suc i) e lt is h =
    let later : are_behind row spec (front ++ x ∷ []) xs ≡ false =
    not_behind row spec (front ++ x ∷ []) xs i e (omega arith) is
    (ap (λ (f : List Entry). fits row spec (known row f) e) (append_assoc front (x ∷ []) (take i xs)) ∙ h) in
    rw later (and_false _)

pub not_of_row : (row : Row) (spec : Spec) (es : List Entry) (i : ℕ) (e : Entry) → i < length es → e ≡ get_or es i e
    → fits row spec (known row (take i es)) e ≡ false → AreOfRow row spec es → ⊥
not_of_row row spec es i e lt is h of_row =
    let never : are_behind row spec [] es ≡ false = not_behind row spec [] es i e lt is h in
    absurd cc

-- ---- their paths are short

reference_short : (content : FileContent) (o : Option (List ℕ)) → reference_fits content o ≡ true
    → IfSome o (λ path. length path ≤ 65535)
reference_short content None h = tt
reference_short holds.Data (Some path) h = absurd cc
reference_short holds.PositionDeletes (Some path) h = leb-true _ _ (both _ _ h).0
reference_short holds.EqualityDeletes (Some path) h = absurd cc

fitting_short : (row : Row) (spec : Spec) (before : Known) (e : Entry) → fits row spec before e ≡ true → HasShortPaths e
unfolding fits
fitting_short row spec before e h =
    let f = both _ _ (both _ _ h).1 in
    let own = both _ _ (both _ _ f.0).0 in
    (leb-true _ _ (both _ _ own.1).0, reference_short e.file.content e.file.referenced f.1)

all_short : (row : Row) (spec : Spec) (front es : List Entry) → are_behind row spec front es ≡ true
    → AllByRecursion HasShortPaths es
unfolding are_behind
all_short row spec front [] h = tt
all_short row spec front (e ∷ es) h =
    let b = both _ _ h in
    (fitting_short row spec (known row front) e b.0, all_short row spec (front ++ e ∷ []) es b.1)

given_short : (row : Row) (spec : Spec) (x : Result (Vec Entry) ManifestFault) → IfOk x (λ es. AreOfRow row spec es.items)
    → IfOk x (λ es. AllByRecursion HasShortPaths es.items)
given_short row spec (Ok es) h = all_short row spec [] es.items h
given_short row spec (Err f) h = tt

pub read_short : (row : Row) (spec : Spec) (r : Result (Result (Vec Entry) ManifestFault) SectionFault)
    → IfOk r (λ x. IfOk x (λ es. AreOfRow row spec es.items))
    → IfOk r (λ x. IfOk x (λ es. AllByRecursion HasShortPaths es.items))
read_short row spec (Ok x) h = given_short row spec x h
read_short row spec (Err e) h = tt
