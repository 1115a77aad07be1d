-- Where the objects of a block are at fault.
use Rattle.std.proofs.Common.{◌≡◌, ◌≢◌, ℕ, zero, suc, ◌+◌, ◌<◌, List, [], ◌∷◌, ◌++◌, length, Option, Some, Result, Ok}
use Rattle.std.proofs.Common.{Err, ◌⊎◌, inl, inr, refl, sym, ap, subst, ◌∙◌, append_assoc, arith}
use Rattle.avro_schema.specs.Tree.{Tree}
use Rattle.avro_file_parts.specs.declared.refusal.Refusal.{Refusal}
use Rattle.avro_file_parts.specs.declared.refusal.Refusal.TheVariants as refusal
use Rattle.avro_file_parts.specs.Parts.{Position}
use Rattle.avro_file.specs.declared.fault.AvroFault.{AvroFault}
use Rattle.avro_file.specs.declared.fault.AvroFault.TheVariants as fault
use Rattle.avro_file.specs.declared.fault.AvroFault.TheVariants.{BlockSize}
use Rattle.avro_file.specs.Value.{Value}
use Rattle.avro_file.specs.Reading.{datum_at}
use Rattle.avro_file.specs.Spelling.{AreJoined, Spells}
use Rattle.avro_file.specs.Blocks.{fault_of, inside, refused, max_items, object_at, Run, stopped, preceded, object_then}
use Rattle.avro_file.specs.Blocks.{objects_run}
use Rattle.avro_file.specs.Holding.{AreWithinLimits}
use Rattle.avro_file.proofs.Held.{object_held}
use Rattle.avro_file_laws.specs.Parts.{Part, EndsIn, IsWrong}
use Rattle.avro_file_laws.specs.Coming.{Comes}
use Rattle.avro_file_laws.specs.Faults.{IsObjectAtFault}
use Rattle.avro_file_laws.proofs.Longest.{object_again}
use Rattle.avro_file_laws.proofs.Numbers.{bind_err, err_is}
use Rattle.avro_file_laws.proofs.Bad.{Bad, refusal_of, wrong_named, Found}
use Rattle.avro_file_laws.proofs.ValueStops.{datum_stops}
use Rattle.avro_file_laws.proofs.ValueFails.{datum_fails}

-- ---- one object

pub refused_err : {A E F : Type 0} (f : E → F) (r : Result A E) (d : F) → refused f r ≡ Err d
    → (e : E) × (r ≡ Err e) × (d ≡ f e)
refused_err f (Ok x) d h = absurd (let m = h in cc)
refused_err {A} f (Err e) d h = (e, refl, sym (err_is {A = A} (f e) d h))

abbrev whole_block : List ℕ → Position
whole_block block = record { bytes = block; left = max_items }

abbrev How : ℕ → Part → List ℕ → AvroFault → Type 0
How items part rest f = (EndsIn part rest × (f ≡ fault.BlockSize)) ⊎ IsWrong items part rest f

told : (total items : ℕ) (part : Part) (rest : List ℕ) (d : Refusal) → Bad items part rest d
    → How items part rest (fault_of total (inside d))
told total items part rest d (inl h) = inl (h.0, ap (λ (e : Refusal). fault_of total (inside e)) h.1)
told total items part rest d (inr h) =
    let names = wrong_named items part rest h.0 h.2 total in
    let same : h.0 ≡ fault_of total (inside d) = sym (ap (λ (e : Refusal). fault_of total (inside e)) h.1 ∙ ap
    (fault_of total) names.1 ∙ names.0) in
    inr (subst (IsWrong items part rest) same h.2)

object_stops : (s : Tree) (total : ℕ) (block : List ℕ) (d : Refusal) → datum_at s (whole_block block) ≡ Err d
    → IsObjectAtFault s block (fault_of total (inside d))
object_stops s total block d h =
    let f = datum_stops s d 0 (whole_block block) (omega arith) h in
    let none : 0 + f.items ≡ f.items = omega arith in (
      f.items,
      f.part,
      f.front,
      f.rest,
      f.comes,
      omega (arith, f.few),
      told total f.items f.part f.rest d (subst (λ (k : ℕ). Bad k f.part f.rest d) none f.bad),
      f.parts,
    )

pub object_at_fault : (s : Tree) (total : ℕ) (block : List ℕ) (e : Refusal) → object_at s block ≡ Err e
    → IsObjectAtFault s block (fault_of total e)
unfolding object_at
object_at_fault s total block e h =
    elim (bind_err (refused inside (datum_at s (whole_block block))) (λ x. Ok (x.0, x.1.bytes)) e h) [
      | inl g ↦
          let r = refused_err inside (datum_at s (whole_block block)) e g in
          subst (λ (y : Refusal). IsObjectAtFault s block (fault_of total y)) (sym r.2) (object_stops s total block r.0
          r.1)
      | inr g ↦ absurd (let m = g.2 in cc)
    ]

datum_refused : (s : Tree) (block : List ℕ) (d : Refusal) → datum_at s (whole_block block) ≡ Err d
    → object_at s block ≡ Err (inside d)
unfolding object_at
datum_refused s block d h = rw h refl

how_told : (items total : ℕ) (part : Part) (rest : List ℕ) (f : AvroFault) → How items part rest f
    → (d : Refusal) × Bad items part rest d × (fault_of total (inside d) ≡ f)
how_told items total part rest f (inl h) = (refusal.Short (length rest), inl (h.0, refl), sym h.1)
how_told items total part rest f (inr h) =
    let names = wrong_named items part rest f h total in
    (refusal_of f, inr (f, refl, h), ap (fault_of total) names.1 ∙ names.0)

pub object_refused : (s : Tree) (total : ℕ) (block : List ℕ) (f : AvroFault) → IsObjectAtFault s block f
    → (e : Refusal) × (object_at s block ≡ Err e) × (fault_of total e ≡ f)
object_refused s total block f is =
    let t = how_told is.0 total is.1 is.3 f is.6 in
    let none : is.0 ≡ 0 + is.0 = omega arith in
    let found : Found (Comes s) 0 max_items block t.0 = record {
      items = is.0;
      part = is.1;
      front = is.2;
      rest = is.3;
      comes = is.4;
      few = omega (arith, is.5);
      bad = subst (λ (k : ℕ). Bad k is.1 is.3 t.0) none t.1;
      parts = is.7;
    } in
    (inside t.0, datum_refused s block t.0 (datum_fails s t.0 0 (whole_block block) (omega arith) found), t.2)

-- ---- the objects of a block

abbrev pub ends_so : List Value → AvroFault → Run
ends_so vs f = record { found = vs; ending = Some f }

pub run_is : (r : Run) (vs : List Value) (f : AvroFault) → r ≡ ends_so vs f → (r.found ≡ vs) × (r.ending ≡ Some f)
run_is r vs f e = (ap (λ (q : Run). q.found) e, ap (λ (q : Run). q.ending) e)

some_is : (f g : AvroFault) → ◌≡◌ {A = Option AvroFault} (Some f) (Some g) → f ≡ g
some_is f g e = cc

-- all objects are whole and fill the block, and the fault comes behind
pub record AllWhole (s : Tree) (after : Run) (n : ℕ) (block : List ℕ) (vs : List Value) (f : AvroFault) : Type 0 where
  pub here : List Value
  pub as_many : length here ≡ n
  pub spelled : AreJoined (Spells s) here block
  pub limits : AreWithinLimits here
  pub all : vs ≡ here ++ after.found
  pub ends : after.ending ≡ Some f

-- the fault comes in the block, behind these data
pub record InBlock (s : Tree) (n : ℕ) (block : List ℕ) (vs : List Value) (f : AvroFault) : Type 0 where
  pub body : List ℕ
  pub others : List ℕ
  pub spelled : AreJoined (Spells s) vs body
  pub limits : AreWithinLimits vs
  pub parts : block ≡ body ++ others
  pub how : ((length vs < n) × IsObjectAtFault s others f) ⊎ ((length vs ≡ n) × (others ≢ [])
      × (f ≡ BlockSize))

later_fault : (s : Tree) (n : ℕ) (vs : List Value) (v : Value) (others : List ℕ) (f : AvroFault)
    → ((length vs < n) × IsObjectAtFault s others f) ⊎ ((length vs ≡ n) × (others ≢ []) × (f ≡ fault.BlockSize))
    → ((length (v ∷ vs) < suc n) × IsObjectAtFault s others f) ⊎ ((length (v ∷ vs) ≡ suc n) × (others ≢ []) ×
    (f ≡ fault.BlockSize))
later_fault s n vs v others f (inl h) = inl (omega (arith, h.0), h.1)
later_fault s n vs v others f (inr h) = inr (ap suc h.0, h.1, h.2)

one_more : (s : Tree) (after : Run) (n : ℕ) (block rest : List ℕ) (v : Value) (vs ws : List Value) (f : AvroFault)
    → ((front : List ℕ) × Spells s v front × (block ≡ front ++ rest) × AreWithinLimits (v ∷ [])) → ws ≡ v ∷ vs
    → AllWhole s after n rest vs f ⊎ InBlock s n rest vs f → AllWhole s after (suc n) block ws f ⊎ InBlock s (suc n)
    block ws f
one_more s after n block rest v vs ws f o same (inl h) = inl (record {
  here = v ∷ h.here;
  as_many = ap suc h.as_many;
  spelled = (o.0, rest, o.1, h.spelled, o.2);
  limits = (o.3.0, h.limits);
  all = same ∙ ap (λ (us : List Value). v ∷ us) h.all;
  ends = h.ends;
})
one_more s after n block rest v vs ws f o same (inr h) =
    let made : InBlock s (suc n) block (v ∷ vs) f = record {
      body = o.0 ++ h.body;
      others = h.others;
      spelled = (o.0, h.body, o.1, h.spelled, refl);
      limits = (o.3.0, h.limits);
      parts = o.2 ∙ ap (λ (t : List ℕ). o.0 ++ t) h.parts ∙ sym (append_assoc o.0 h.body h.others);
      how = later_fault s n vs v h.others f h.how;
    } in
    inr (subst (λ (us : List Value). InBlock s (suc n) block us f) (sym same) made)

abbrev Ends : Tree → Run → ℕ → List ℕ → List Value → AvroFault → Type 0
Ends s after n block vs f = AllWhole s after n block vs f ⊎ InBlock s n block vs f

nothing_before : (s : Tree) (n : ℕ) (block : List ℕ) (vs : List Value) (f g : AvroFault) → stopped g ≡ ends_so vs f
    → ((0 < n) × IsObjectAtFault s block g) ⊎ ((0 ≡ n) × (block ≢ []) × (g ≡ fault.BlockSize))
    → InBlock s n block vs f
nothing_before s n block vs f g e is =
    let r = run_is (stopped g) vs f e in
    let same : g ≡ f = some_is g f r.1 in
    let made : InBlock s n block [] g = record {
      body = [];
      others = block;
      spelled = refl;
      limits = tt;
      parts = refl;
      how = is;
    } in
    subst (λ (us : List Value). InBlock s n block us f) r.0 (subst (InBlock s n block []) same made)

object_ends : (s : Tree) (total : ℕ) (after : Run) (n : ℕ) (block : List ℕ) (vs : List Value) (f : AvroFault)
    (r : Result (Value × List ℕ) Refusal) → object_at s block ≡ r → ((rest : List ℕ) (us : List Value)
    → objects_run s total after n rest ≡ ends_so us f → Ends s after n rest us f)
    → object_then total (objects_run s total after n) r ≡ ends_so vs f → Ends s after (suc n) block vs f
object_ends s total after n block vs f (Err e) is more h = inr (nothing_before s (suc n) block vs f (fault_of total e) h
    (inl (omega arith, object_at_fault s total block e is)))
object_ends s total after n block vs f (Ok x) is more h =
    let o = object_held s block x is in
    let run = objects_run s total after n x.1 in
    let r = run_is (preceded x.0 run) vs f h in
    let same : run ≡ ends_so run.found f = ap (λ (d : Option AvroFault). record { found = run.found; ending = d }) r.1
    in
    one_more s after n block x.1 x.0 run.found vs f (o.0, o.1, o.2, (o.3, tt)) (sym r.0) (more x.1 run.found same)

pub objects_end : (s : Tree) (total : ℕ) (after : Run) (n : ℕ) (block : List ℕ) (vs : List Value) (f : AvroFault)
    → objects_run s total after n block ≡ ends_so vs f → Ends s after n block vs f
unfolding objects_run
objects_end s total after zero [] vs f h =
    let r = run_is after vs f h in
    inl (record { here = []; as_many = refl; spelled = refl; limits = tt; all = sym r.0; ends = r.1 })
objects_end s total after zero (b ∷ block) vs f h = inr (nothing_before s zero (b ∷ block) vs f fault.BlockSize h
    (inr (refl, (λ e. cc), refl)))
objects_end s total after (suc n) block vs f h = object_ends s total after n block vs f (object_at s block) refl
    (λ rest us k. objects_end s total after n rest us f k) h

-- ---- and so it ends

none_counted : (s : Tree) (total : ℕ) (after : Run) (others : List ℕ) → others ≢ []
    → objects_run s total after 0 others ≡ stopped fault.BlockSize
unfolding objects_run
none_counted s total after [] some = absurd (some refl)
none_counted s total after (b ∷ others) some = refl

first_refused : (s : Tree) (total : ℕ) (after : Run) (n : ℕ) (others : List ℕ) (e : Refusal)
    → object_at s others ≡ Err e → objects_run s total after (suc n) others ≡ stopped (fault_of total e)
unfolding objects_run
first_refused s total after n others e h = rw h refl

here_ends : (s : Tree) (total : ℕ) (after : Run) (n : ℕ) (others : List ℕ) (f : AvroFault)
    → ((0 < n) × IsObjectAtFault s others f) ⊎ ((0 ≡ n) × (others ≢ []) × (f ≡ fault.BlockSize))
    → objects_run s total after n others ≡ ends_so [] f
here_ends s total after zero others f (inl h) = absurd (omega (arith, h.0))
here_ends s total after (suc n) others f (inl h) =
    let r = object_refused s total others f h.1 in
    first_refused s total after n others r.0 r.1 ∙ ap stopped r.2
here_ends s total after zero others f (inr h) = none_counted s total after others h.1 ∙ ap stopped (sym h.2)
here_ends s total after (suc n) others f (inr h) = absurd (omega (arith, h.0))

fewer : (s : Tree) (n : ℕ) (vs : List Value) (v : Value) (others : List ℕ) (f : AvroFault)
    → ((length (v ∷ vs) < suc n) × IsObjectAtFault s others f) ⊎ ((length (v ∷ vs) ≡ suc n) × (others ≢ []) ×
    (f ≡ fault.BlockSize))
    → ((length vs < n) × IsObjectAtFault s others f) ⊎ ((length vs ≡ n) × (others ≢ []) × (f ≡ fault.BlockSize))
fewer s n vs v others f (inl h) = inl (omega (arith, h.0), h.1)
fewer s n vs v others f (inr h) = inr (omega (arith, h.0), h.1, h.2)

some_counted : (s : Tree) (vs : List Value) (v : Value) (others : List ℕ) (f : AvroFault)
    → ((length (v ∷ vs) < 0) × IsObjectAtFault s others f) ⊎ ((length (v ∷ vs) ≡ 0) × (others ≢ []) ×
    (f ≡ fault.BlockSize)) → ⊥
some_counted s vs v others f (inl h) = omega (arith, h.0)
some_counted s vs v others f (inr h) = omega (arith, h.0)

pub block_ends : (s : Tree) (total : ℕ) (after : Run) (n : ℕ) (vs : List Value) (body others : List ℕ) (f : AvroFault)
    → AreJoined (Spells s) vs body → AreWithinLimits vs
    → ((length vs < n) × IsObjectAtFault s others f) ⊎ ((length vs ≡ n) × (others ≢ []) × (f ≡ fault.BlockSize))
    → objects_run s total after n (body ++ others) ≡ ends_so vs f
unfolding objects_run
block_ends s total after n [] body others f is few how = rw is (here_ends s total after n others f how)
block_ends s total after zero (v ∷ vs) body others f is few how = absurd (some_counted s vs v others f how)
block_ends s total after (suc n) (v ∷ vs) body others f is few how =
    let more = block_ends s total after n vs is.1 others f is.3 few.1 (fewer s n vs v others f how) in
    let regrouped : body ++ others ≡ is.0 ++ (is.1 ++ others) = ap (λ (t : List ℕ). t ++ others) is.4 ∙ append_assoc
    is.0 is.1 others in
    rw (regrouped, object_again s v is.0 (is.1 ++ others) is.2 few.0) (ap (preceded v) more)
