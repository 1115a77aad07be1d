-- The tasks of a plan.
use Rattle.std.proofs.Common.{◌≡◌, ℕ, zero, suc, ◌+◌, ◌<◌, ◌≤◌, List, [], ◌∷◌, ◌++◌, length, slice_get, Some}
use Rattle.std.proofs.Common.{arith, refl, sym, subst, ap, ap₂, ◌∙◌, append_assoc, map, option_map, Bool, get_or}
use Rattle.std.specs.List.{concat}
use Rattle.std.specs.Prelude.{codes, nat_lt}
use Rattle.std.specs.Fmt.{decimal}
use Rattle.std.proofs.lemmas.List.{length-map}
use Rattle.serde_json.specs.Written.{comma_if, compact_text}
use Rattle.ice_manifest_reading.specs.declared.entry.Entry.{Entry}
use Rattle.ice_state.specs.PlaceLists.{LinePlaces}
use Rattle.ice_state.specs.PlacedFiles.{ArePlaced, PlanPlaces}
use Rattle.icescan_print.specs.Ranges.{range_text}
use Rattle.icescan_print.proofs.RangeTexts.{range_all}
use Rattle.icescan_json.specs.declared.types.SpecTypes.{SpecTypes}
use Rattle.icescan_forms.specs.Pieces.{each_from}
use Rattle.icescan_json.specs.Named.{moved, narrowed, rank}
use Rattle.icescan_json.specs.PlanJson.{data_json}
use Rattle.icescan_json.specs.Texts.{deletes_text, front_text, listed_tasks, plan_text, references_text, task_texts}
use Rattle.icescan_json.specs.Texts.{tasks_text, with_commas}
use Rattle.icescan_forms.proofs.Each.{each_append}
use Rattle.icescan_forms.proofs.Lists.{from_zero, there}
use Rattle.icescan_json.proofs.Marks.{line_at, line_moved}

-- the texts of what some things refer to
each_mapped : {X Y : Type 0} (f : X → Y) (text : Y → List ℕ) (n : ℕ) (xs : List X)
    → each_from (λ _ y. text y) n (map f xs) ≡ each_from (λ _ x. text (f x)) n xs
each_mapped f text n [] = refl
each_mapped f text n (x ∷ xs) =
    ap (λ rest. comma_if (nat_lt 0 n) ++ (text (f x) ++ rest)) (each_mapped f text (suc n) xs)

both_parts : (ps es : List ℕ) → 0 < length ps + length es → references_text (ps ++ es)
    ≡ codes ",\"delete-file-references\":[" ++ (each_from (λ _ i. decimal i) 0 ps
    ++ (each_from (λ _ i. decimal i) (length ps) es ++ codes "]"))
both_parts [] [] h = absurd (omega arith)
both_parts [] (e ∷ es) h = refl
both_parts (p ∷ ps) es h =
    let firsts = each_from (λ _ i. decimal i) 0 (p ∷ ps) in
    let rest = each_from (λ _ i. decimal i) (length (p ∷ ps)) es in
    let both : each_from (λ _ i. decimal i) 0 ((p ∷ ps) ++ es) ≡ firsts ++ rest =
    each_append (λ _ i. decimal i) 0 (p ∷ ps) es
    ∙ ap (λ n. firsts ++ each_from (λ _ i. decimal i) n es) (from_zero (length (p ∷ ps))) in
    ap (λ t. codes ",\"delete-file-references\":[" ++ (t ++ codes "]")) both
    ∙ ap (λ t. codes ",\"delete-file-references\":[" ++ t) (append_assoc firsts rest (codes "]"))

-- the references of a task, each at the rank of its place
pub references_split : (marks : List Bool) (ps es : List ℕ) → 0 < length ps + length es
    → references_text (map (rank marks) ps ++ map (rank marks) es)
    ≡ codes ",\"delete-file-references\":[" ++ (each_from (λ _ n. decimal (rank marks n)) 0 ps
    ++ (each_from (λ _ n. decimal (rank marks n)) (length ps) es ++ codes "]"))
references_split marks ps es some =
    let ranked = map (rank marks) ps in
    let others = map (rank marks) es in
    let many = length-map ps (rank marks) in
    let firsts = each_mapped (rank marks) decimal 0 ps in
    let rest : each_from (λ _ i. decimal i) (length ranked) others
    ≡ each_from (λ _ n. decimal (rank marks n)) (length ps) es =
    ap (λ n. each_from (λ _ i. decimal i) n others) many ∙ each_mapped (rank marks) decimal (length ps) es in
    both_parts ranked others (omega (arith, some, many, length-map es (rank marks)))
    ∙ ap₂ (λ (a b : List ℕ). codes ",\"delete-file-references\":[" ++ (a ++ (b ++ codes "]"))) firsts rest

some_is : {X : Type 0} (x y : X) → Some x ≡ Some y → y ≡ x
some_is x y h = cc

length_commas : (n : ℕ) (ts : List (List ℕ)) → length (with_commas n ts) ≡ length ts
length_commas n [] = refl
length_commas n (t ∷ ts) = ap suc (length_commas (suc n) ts)

commas_at : (n : ℕ) (ts : List (List ℕ)) (i : ℕ) (t : List ℕ) → slice_get ts i ≡ Some t
    → slice_get (with_commas n ts) i ≡ Some (comma_if (nat_lt 0 (n + i)) ++ t)
commas_at n [] i t h = absurd cc
commas_at n (x ∷ ts) zero t h =
    let e : x ≡ t = cc in
    let z : n ≡ n + 0 = omega arith in
    ap (λ l. Some (comma_if (nat_lt 0 n) ++ l)) e ∙ ap (λ (j : ℕ). Some (comma_if (nat_lt 0 j) ++ t)) z
commas_at n (x ∷ ts) (suc i) t h =
    let z : suc n + i ≡ n + suc i = omega arith in
    subst (λ (j : ℕ). slice_get (with_commas (suc n) ts) i ≡ Some (comma_if (nat_lt 0 j) ++ t)) z
    (commas_at (suc n) ts i t h)

commas_joined : (n : ℕ) (ts : List (List ℕ)) → concat (with_commas n ts) ≡ each_from (λ _ t. t) n ts
commas_joined n [] = refl
commas_joined n (t ∷ ts) = ap (λ l. (comma_if (nat_lt 0 n) ++ t) ++ l) (commas_joined (suc n) ts)
    ∙ append_assoc (comma_if (nat_lt 0 n)) t (each_from (λ _ t. t) (suc n) ts)

module _ (types : List SpecTypes) (residual : List ℕ) where
  task_at : (xs : List Entry) (lines : List LinePlaces) (i : ℕ) (x : Entry) (ps es : List ℕ) (text : List ℕ)
      → slice_get xs i ≡ Some x → option_map (λ (line : LinePlaces). line.positions) (slice_get lines i) ≡ Some ps
      → option_map (λ (line : LinePlaces). line.equalities) (slice_get lines i) ≡ Some es
      → slice_get (task_texts types residual xs lines) i ≡ Some text → text ≡ codes "{\"data-file\":"
      ++ (compact_text (data_json types x) ++ (references_text (ps ++ es)
      ++ (codes ",\"residual-filter\":" ++ (residual ++ codes "}"))))
  task_at [] lines i x ps es text at p e is = absurd cc
  task_at (y ∷ ys) [] i x ps es text at p e is = absurd cc
  task_at (y ∷ ys) (line ∷ lines) zero x ps es text at p e is =
      rw (some_is _ _ is, some_is _ _ at, some_is _ _ p, some_is _ _ e) refl
  task_at (y ∷ ys) (line ∷ lines) (suc i) x ps es text at p e is = task_at ys lines i x ps es text at p e is

  -- the task at a place, whose references are the ranks of the places there
  pub task_moved : (marks : List Bool) (xs : List Entry) (lines : List LinePlaces) (i : ℕ) (x : Entry)
      (ps es : List ℕ) (text : List ℕ)
      → slice_get xs i ≡ Some x → option_map (λ (line : LinePlaces). line.positions) (slice_get lines i) ≡ Some ps
      → option_map (λ (line : LinePlaces). line.equalities) (slice_get lines i) ≡ Some es
      → slice_get (task_texts types residual xs (map (moved marks) lines)) i ≡ Some text → text
      ≡ codes "{\"data-file\":" ++ (compact_text (data_json types x)
      ++ (references_text (map (rank marks) ps ++ map (rank marks) es)
      ++ (codes ",\"residual-filter\":" ++ (residual ++ codes "}"))))
  task_moved marks xs lines i x ps es text at p e is =
      let there = line_moved marks lines i _ (line_at lines i ps es p e) in
      task_at xs (map (moved marks) lines) i x (map (rank marks) ps) (map (rank marks) es) text at
      (ap (option_map (λ (line : LinePlaces). line.positions)) there)
      (ap (option_map (λ (line : LinePlaces). line.equalities)) there) is

  as_many : (xs : List Entry) (lines : List LinePlaces) → length lines ≡ length xs
      → length (task_texts types residual xs lines) ≡ length xs
  as_many [] lines h = refl
  as_many (x ∷ xs) [] h = absurd (omega arith)
  as_many (x ∷ xs) (line ∷ lines) h = ap suc (as_many xs lines (omega arith))

  -- there is a task for each data file
  pub length_tasks : (marks : List Bool) (xs : List Entry) (lines : List LinePlaces) → length lines ≡ length xs
      → length (task_texts types residual xs (map (moved marks) lines)) ≡ length xs
  length_tasks marks xs lines h = as_many xs (map (moved marks) lines) (length-map lines (moved marks) ∙ h)

  -- so many are listed
  pub length_listed : (marks : List Bool) (p : PlanPlaces) → ArePlaced p
      → length (listed_tasks types residual (narrowed marks p)) ≡ length p.files
  length_listed marks p placed = length_commas 0 (task_texts types residual p.files (map (moved marks) p.places))
      ∙ length_tasks marks p.files p.places placed.each

  -- what is listed at a place is its task, after a comma where it isn't the first
  pub listed_at : (marks : List Bool) (p : PlanPlaces) (i : ℕ) (text : List ℕ) → ArePlaced p → i < length p.files
      → slice_get (listed_tasks types residual (narrowed marks p)) i ≡ Some text
      → (task : List ℕ) × (slice_get (task_texts types residual p.files (map (moved marks) p.places)) i ≡ Some task)
      × (text ≡ comma_if (nat_lt 0 i) ++ task)
  listed_at marks p i text placed l at =
      let tasks = task_texts types residual p.files (map (moved marks) p.places) in
      let many : length tasks ≡ length p.files = length_tasks marks p.files p.places placed.each in
      let task = get_or tasks i [] in
      let is = there tasks i [] (omega (arith, l, many)) in
      let stands = subst (λ (j : ℕ). slice_get (with_commas 0 tasks) i ≡ Some (comma_if (nat_lt 0 j) ++ task))
      (from_zero i) (commas_at 0 tasks i task is) in
      (task, is, some_is _ _ (sym stands ∙ at))

  -- all that is listed, one behind the other
  pub tasks_joined : (p : PlanPlaces) → concat (listed_tasks types residual p) ≡ tasks_text types residual p
  tasks_joined p = commas_joined 0 (task_texts types residual p.files p.places)

  pub tasks_whole : (p : PlanPlaces) (n : ℕ) → length (listed_tasks types residual p) ≤ n
      → range_text (listed_tasks types residual p) 0 n ≡ tasks_text types residual p
  tasks_whole p n l = range_all (listed_tasks types residual p) n l ∙ tasks_joined p

  -- a plan is what stands before its tasks, and these
  pub plan_cut : (p : PlanPlaces) → plan_text types residual p
      ≡ front_text types p.deletes ++ (tasks_text types residual p ++ codes "]}\n")
  plan_cut p =
      let deletes = deletes_text types p.deletes in
      let rest = tasks_text types residual p ++ codes "]}\n" in
      sym (append_assoc (codes "{\"status\":\"completed\",\"delete-files\":[")
      (deletes ++ codes "],\"file-scan-tasks\":[") rest
      ∙ ap (λ l. codes "{\"status\":\"completed\",\"delete-files\":[" ++ l)
      (append_assoc deletes (codes "],\"file-scan-tasks\":[") rest))
