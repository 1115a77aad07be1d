-- Places of values, and where field paths lead.
use Rattle.std.proofs.Common.{◌≡◌, ◌≤◌, ◌<◌, ◌-◌, ℕ, zero, suc, ℤ, List, [], ◌∷◌, ◌++◌, length, take, drop, get_or}
use Rattle.std.proofs.Common.{map, Option, Some, None, IfSome, Ok, refl, sym, ap, subst, ◌∙◌, arith, Vec, Global}
use Rattle.std.proofs.Math.Seq.{take_all}
use Rattle.std.proofs.Math.ListN.{drop_of_length-le}
use Rattle.std.proofs.lemmas.List.{append-nil, length-drop}
use Rattle.avro_schema.specs.Tree.{Tree}
use Rattle.avro_schema.specs.View.{tree}
use Rattle.avro_file_parts.specs.Parts.{Position}
use Rattle.avro_file.specs.Value.{Value}
use Rattle.avro_file.specs.Reading.{datum_at}
use Rattle.avro_file.specs.Ending.{standing, EndsCounted}
use Rattle.avro_file.specs.Blocks.{max_items, StandsAt}
use Rattle.avro_file.specs.Picking.{Picked, pick}
use Rattle.avro_file_picked.specs.declared.found.Found.{Found}
use Rattle.avro_file_picked.specs.declared.row.Lead.{Lead}
use Rattle.avro_file_picked.specs.declared.row.Step.{Step}
use Rattle.avro_file_picked.specs.Finding.{IsMet}
use Rattle.avro_file_picked.specs.Rows.{row, trees_of, AreAlike, Stand, place_at, IsLedTo, IsLead, AreLeads}
use Rattle.avro_file_picked.specs.Placing.{nth_field_path}
use Rattle.avro_file_picked.proofs.Values.{stood}
use Rattle.avro_file_picked.proofs.FieldPaths.{one_end}
use Rattle.avro_file_picked.proofs.Rows.{joined, stand_alike, alike_many}
use Rattle.avro_file.proofs.Behind.{behind_ok}

-- no place is behind the bytes
pub place_inside : (ts : List Tree) (places bytes : List ℕ) (at left end after k : ℕ) → at ≤ length bytes
    → Stand ts places bytes at left end after → place_at places end k ≤ length bytes
place_inside [] [] bytes at left end after k le h = omega (arith, le, h.0)
place_inside [] (a ∷ places) bytes at left end after k le h = absurd h
place_inside (t ∷ ts) [] bytes at left end after k le h = absurd h
place_inside (t ∷ ts) (a ∷ places) bytes at left end after zero le h = omega (arith, le, h.2)
place_inside (t ∷ ts) (a ∷ places) bytes at left end after (suc k) le h =
    place_inside ts places bytes h.0 h.1 end after k h.3.0 h.4

pub place_there : (places : List ℕ) (end k d : ℕ) → k < length places → place_at places end k ≡ get_or places k d
place_there [] end k d lt = absurd (omega arith)
place_there (a ∷ places) end zero d lt = refl
place_there (a ∷ places) end (suc k) d lt = place_there places end k d (omega arith)

pub place_behind : (places : List ℕ) (end k : ℕ) → length places ≤ k → place_at places end k ≡ end
place_behind [] end k le = refl
place_behind (a ∷ places) end zero le = absurd (omega arith)
place_behind (a ∷ places) end (suc k) le = place_behind places end k (omega arith)

-- ---- the lists of a layout

pub leads_on : (t : Tree) (field_paths : List (Vec ℤ Global)) (leads : List (Option Lead)) (field_path : Vec ℤ Global)
    (lead : Option Lead) → AreLeads t field_paths leads → IsLead t field_path.items lead
    → IfSome lead (λ l. l.passed ≤ length field_path.items)
    → AreLeads t (field_paths ++ field_path ∷ []) (leads ++ lead ∷ [])
leads_on t [] [] field_path lead h is fits = (is, fits, tt)
leads_on t [] (l ∷ leads) field_path lead h is fits = absurd h
leads_on t (w ∷ field_paths) [] field_path lead h is fits = absurd h
leads_on t (w ∷ field_paths) (l ∷ leads) field_path lead h is fits =
    (h.0, h.1, leads_on t field_paths leads field_path lead h.2 is fits)

pub leads_many : (t : Tree) (field_paths : List (Vec ℤ Global)) (leads : List (Option Lead))
    → AreLeads t field_paths leads
    → length field_paths ≡ length leads
leads_many t [] [] h = refl
leads_many t [] (l ∷ leads) h = absurd h
leads_many t (w ∷ field_paths) [] h = absurd h
leads_many t (w ∷ field_paths) (l ∷ leads) h = ap suc (leads_many t field_paths leads h.2)

abbrev ids_of : List (Vec ℤ Global) → List (List ℤ)
ids_of field_paths = map (λ field_path. field_path.items) field_paths

pub nth_lead : (t : Tree) (field_paths : List (Vec ℤ Global)) (leads : List (Option Lead)) (k : ℕ) (e : Option Lead)
    → AreLeads t field_paths leads → k < length field_paths
    → IsLead t (nth_field_path (ids_of field_paths) k) (get_or leads k e)
    × IfSome (get_or leads k e) (λ l. l.passed ≤ length (nth_field_path (ids_of field_paths) k))
nth_lead t [] leads k e h lt = absurd (omega arith)
nth_lead t (w ∷ field_paths) [] k e h lt = absurd h
nth_lead t (w ∷ field_paths) (l ∷ leads) zero e h lt = (h.0, h.1)
nth_lead t (w ∷ field_paths) (l ∷ leads) (suc k) e h lt = nth_lead t field_paths leads k e h.2 (omega arith)

pub field_paths_many : (field_paths : List (Vec ℤ Global)) → length (ids_of field_paths) ≡ length field_paths
field_paths_many [] = refl
field_paths_many (w ∷ field_paths) = ap suc (field_paths_many field_paths)

pub nth_is : (field_paths : List (Vec ℤ Global)) (k : ℕ) (d : Vec ℤ Global) → k < length field_paths
    → nth_field_path (map (λ field_path. field_path.items) field_paths) k ≡ (get_or field_paths k d).items
nth_is [] k d lt = absurd (omega arith)
nth_is (w ∷ field_paths) zero d lt = refl
nth_is (w ∷ field_paths) (suc k) d lt = nth_is field_paths k d (omega arith)

many : (steps : List Step) → length (trees_of steps) ≡ length steps
many [] = refl
many (s ∷ steps) = ap suc (many steps)

pub steps_many : (steps : List Step) (ts : List Tree) → AreAlike (trees_of steps) ts → length steps ≡ length ts
steps_many steps ts alike = sym (many steps) ∙ alike_many (trees_of steps) ts alike

-- places that were all written anew
pub written : (news olds : List ℕ) (n : ℕ) → n ≡ length olds → length news ≡ length olds
    → take n (news ++ drop (length news) olds) ≡ news
written news olds n is same =
    let none : drop (length news) olds ≡ [] = drop_of_length-le olds (omega (arith, same)) in
    rw none (ap (λ (xs : List ℕ). take n xs) (append-nil news) ∙ take_all n news (omega (arith, is, same)))

-- a row that began without steps
pub row_begun : (steps news : List Step) (ts : List Tree) → steps ≡ []
    → ((us : List Tree) → AreAlike (trees_of steps) us → AreAlike (trees_of news) (us ++ ts))
    → AreAlike (trees_of news) ts
row_begun steps news ts is h = h [] (subst (λ (ss : List Step). AreAlike (trees_of ss) []) (sym is) tt)

-- ---- from the object to a value in it

pub to_the_end : {A : Type 0} (n : ℕ) (xs : List A) → take (length xs - n) (drop n xs) ≡ drop n xs
to_the_end n xs = take_all (length xs - n) (drop n xs) (omega (arith, length-drop n xs))

-- what is led to from the object's places
pub led_to : (t : Tree) (field_path : List ℤ) (lead : Option Lead) (places bytes : List ℕ) (end left : ℕ) (v : Value)
    → IsLead t field_path lead → Stand (row t) places bytes 0 max_items end left → StandsAt t bytes v
    → IsLedTo lead field_path places end bytes (pick field_path (t, v))
led_to t field_path lead places bytes end left v is stand there =
    let read = stood t bytes v there in
    let e = joined t places bytes 0 max_items end left (omega arith) stand in
    let w = behind_ok (datum_at t (standing bytes 0 max_items)) (standing bytes end left) e.1 in
    let here = one_end (datum_at t (standing bytes 0 max_items)) v w.0 read.0 (standing bytes end left) read.1 w.1 in
    is bytes 0 max_items end left places v (omega arith) (omega arith) stand
    (read.1 ∙ ap (λ (p : Position). Ok (v, p)) here)

pub ends_there : (t : Tree) (ts : List Tree) (places bytes : List ℕ) (end : ℕ) → AreAlike ts (row t)
    → (left : ℕ) × Stand ts places bytes 0 max_items end left
    → (left : ℕ) × EndsCounted (datum_at t) bytes 0 max_items end left
ends_there t ts places bytes end alike h = (
  h.0,
  joined t places bytes 0 max_items end h.0 (omega arith)
      (stand_alike ts (row t) places bytes 0 max_items end h.0 alike h.1),
)

pub found_there : (t : Tree) (field_path there : List ℤ) (lead : Lead) (places bytes block : List ℕ)
    (end left start : ℕ)
    (v : Value) (r : Option Found) → IsLead t field_path (Some lead) → Stand (row t) places bytes 0 max_items end left
    → StandsAt t bytes v → there ≡ field_path → block ≡ bytes → start ≡ place_at places end lead.step
    → ((x : Value) → StandsAt (tree lead.schema.now) (drop start block) x
    → IsMet r (pick (drop lead.passed there) (tree lead.schema.now, x))) → IsMet r (pick field_path (t, v))
found_there t field_path there lead places bytes block end left start v r is stand here same alike place on =
    let led = led_to t field_path (Some lead) places bytes end left v is stand here in
    let stands : StandsAt (tree lead.schema.now) (drop start block) led.0 =
    subst (λ (xs : List ℕ). StandsAt (tree lead.schema.now) xs led.0) (sym (ap (λ (b : List ℕ). drop start b) alike
    ∙ ap (λ (n : ℕ). drop n bytes) place)) led.2 in
    subst (λ (m : Picked). IsMet r m) (sym led.3) (subst (λ (w : List ℤ). IsMet r (pick (drop lead.passed w)
    (tree lead.schema.now, led.0))) same (on led.0 stands))

pub some_fits : (lead : Option Lead) (field_path there : List ℤ) (most : ℕ) → field_path ≡ there
    → IfSome lead (λ l. (l.step ≤ most) × (l.passed ≤ length field_path)) → IfSome lead (λ l. l.passed ≤ length there)
some_fits (Some l) field_path there most is h = omega (arith, h.1, ap length is)
some_fits None field_path there most is h = h
