-- The items of a list that are still to come.
use Rattle.std.proofs.Common.{◌≡◌, ◌<◌, ◌+◌, ◌-◌, ℕ, zero, suc, ℤ, List, [], ◌∷◌, ◌++◌, length, Option, Result, Ok, Err}
use Rattle.std.proofs.Common.{refl, sym, ap, subst, ◌∙◌}
use Rattle.std.proofs.Common.{arith}
use Rattle.contract_words.specs.Outcome.{◌>>=◌}
use Rattle.avro_schema.specs.declared.schema.ArrayKind.{ArrayKind}
use Rattle.avro_schema.specs.Tree.{Tree, array}
use Rattle.avro_file_parts.specs.declared.refusal.Refusal.{Refusal}
use Rattle.avro_file_parts.specs.Parts.{Position, Read, count_at}
use Rattle.avro_file.specs.Value.{Value, items, values_of}
use Rattle.avro_file.specs.Reading.{datum_at, values_at, blocks_at}
use Rattle.avro_file.specs.Blocks.{max_items, StandsAt}
use Rattle.avro_file.proofs.Steps.{bind_ok, ok_is}
use Rattle.avro_file.proofs.Taken.{count_takes}
use Rattle.avro_file_picked.proofs.Values.{stood}
use Rattle.std.proofs.Common.{Some}
use Rattle.avro_schema.specs.declared.schema.Schema.{Schema}
use Rattle.avro_schema.specs.View.{tree}
use Rattle.avro_file.specs.Picking.{Typed}
use Rattle.ice_manifest_fields.specs.declared.fault.FieldFault.{FieldFault}
use Rattle.ice_manifest_fields.specs.Each.{each}
use Rattle.ice_manifest_fields.specs.Fields.{items_as}
use Rattle.ice_manifest_fields.specs.Naming.{Naming, told}
use Rattle.ice_manifest_fields.proofs.Joining.{joined, item_here, item_stops, item_fails, no_item}
use Rattle.ice_manifest_values.specs.declared.items.ItemsAhead.{ItemsAhead}
use Rattle.ice_manifest_values.specs.declared.standing.Standing.{Standing}
use Rattle.ice_manifest_values.specs.InPlace.{Stands, AreAhead, NextItem, rest_at}

list_ahead : (t : Tree) (turns : ℕ) (p : Position) (y : List Value × Position) → blocks_at (datum_at t) turns p ≡ Ok y
    → rest_at t 0 turns p ≡ Ok y
unfolding values_at
list_ahead t turns p y e = rw e refl

-- all items of a list are to come
pub all_ahead : (t : Tree) (id : Option ℤ) (kind : ArrayKind) (bytes : List ℕ) (v : Value)
    → StandsAt (array t id kind) bytes v
    → (vs : List Value) × (v ≡ items (values_of vs)) × ((turns : ℕ) × (end : Position)
    × (rest_at t 0 turns (record { bytes = bytes; left = max_items }) ≡ Ok (vs, end)))
unfolding datum_at values_at
all_ahead t id kind bytes v at =
    let read = stood (array t id kind) bytes v at in
    let here : Position = record { bytes = bytes; left = max_items } in
    let taken = bind_ok (blocks_at (datum_at t) (suc (length bytes)) here) (λ x. Ok (items (values_of x.0), x.1))
    (v, read.0) read.1 in
    let same = ok_is (items (values_of taken.0.0), taken.0.1) (v, read.0) taken.2 in (
      taken.0.0,
      sym (ap (λ (y : Value × Position). y.0) same),
      (suc (length bytes), taken.0.1, list_ahead t (suc (length bytes)) here taken.0 taken.1),
    )

-- what is read of the items up to here, before which others are still to come
abbrev pub SoFar : {X : Type 0} → (Typed → Result X FieldFault) → ItemsAhead → ItemsAhead → List X → Type 0
SoFar {X} says start here front = (vs : List Value) → AreAhead start vs → (ws : List Value) × AreAhead here ws
    × (here.schema.now ≡ start.schema.now)
    × (joined front (each says (items_as (tree start.schema.now) (values_of ws)))
    ≡ each says (items_as (tree start.schema.now) (values_of vs)))

pub none_so_far : {X : Type 0} (says : Typed → Result X FieldFault) (start : ItemsAhead) → SoFar says start start []
unfolding joined
none_so_far {X} says start = λ vs ahead. (vs, ahead, refl, refl)

one_more : {X : Type 0} (says : Typed → Result X FieldFault) (t : Tree) (front : List X) (ws others : List Value)
    (v : Value) (x : X) → ws ≡ v ∷ others → says (t, v) ≡ Ok x
    → joined front (each says (items_as t (values_of ws)))
    ≡ joined (front ++ x ∷ []) (each says (items_as t (values_of others)))
one_more {X} says t front ws others v x is said =
    rw is (item_here says front (t, v) (items_as t (values_of others)) x said)

pub more_so_far : {X : Type 0} (says : Typed → Result X FieldFault) (start here new : ItemsAhead) (item : Standing)
    (front : List X) (x : X) → ((vs : List Value) → AreAhead here vs → NextItem here vs (Some item) new)
    → ((v : Value) → Stands item v → Ok x ≡ says (tree item.schema.now, v)) → SoFar says start here front
    → SoFar says start new (front ++ x ∷ [])
more_so_far {X} says start here new item front x next said so_far = λ vs ahead.
    let s = so_far vs ahead in
    let n = next s.0 s.1 in
    let of : item.schema.now ≡ start.schema.now = n.5 ∙ s.2 in
    let one = ap (λ (u : Schema). says (tree u, n.0)) (sym of) ∙ sym (said n.0 n.3) in
    (n.1, n.4, n.6 ∙ s.2, sym (one_more says (tree start.schema.now) front s.0 n.1 n.0 x n.2 one) ∙ s.3)

stops_here : {X : Type 0} (says : Typed → Result X FieldFault) (t : Tree) (front : List X) (ws others : List Value)
    (v : Value) (f : FieldFault) → ws ≡ v ∷ others → says (t, v) ≡ Err f
    → joined front (each says (items_as t (values_of ws))) ≡ Err f
stops_here {X} says t front ws others v f is said =
    rw is (item_stops says front (t, v) (items_as t (values_of others)) f said)

pub stops_so_far : {X : Type 0} (says : Typed → Result X FieldFault) (start here new : ItemsAhead) (item : Standing)
    (front : List X) (f : FieldFault) → ((vs : List Value) → AreAhead here vs → NextItem here vs (Some item) new)
    → ((v : Value) → Stands item v → Err f ≡ says (tree item.schema.now, v)) → SoFar says start here front
    → (vs : List Value) → AreAhead start vs → each says (items_as (tree start.schema.now) (values_of vs)) ≡ Err f
stops_so_far {X} says start here new item front f next said so_far = λ vs ahead.
    let s = so_far vs ahead in
    let n = next s.0 s.1 in
    let of : item.schema.now ≡ start.schema.now = n.5 ∙ s.2 in
    let one = ap (λ (u : Schema). says (tree u, n.0)) (sym of) ∙ sym (said n.0 n.3) in
    sym s.3 ∙ stops_here says (tree start.schema.now) front s.0 n.1 n.0 f n.2 one

fails_here : {X E : Type 0} (named : Naming E) (says : Typed → Result X FieldFault) (t : Tree) (front : List X)
    (ws others : List Value) (v : Value) (e : E) → ws ≡ v ∷ others → told named (says (t, v)) ≡ Err e
    → told named (joined front (each says (items_as t (values_of ws)))) ≡ Err e
fails_here {X} {E} named says t front ws others v e is said =
    rw is (item_fails named says front (t, v) (items_as t (values_of others)) e said)

-- the same, where the fault has the file's name
pub fails_so_far : {X E : Type 0} (named : Naming E) (says : Typed → Result X FieldFault)
    (start here new : ItemsAhead) (item : Standing) (front : List X) (e : E)
    → ((vs : List Value) → AreAhead here vs → NextItem here vs (Some item) new)
    → ((v : Value) → Stands item v → told named (says (tree item.schema.now, v)) ≡ Err e) → SoFar says start here front
    → (vs : List Value) → AreAhead start vs
    → told named (each says (items_as (tree start.schema.now) (values_of vs))) ≡ Err e
fails_so_far {X} {E} named says start here new item front e next said so_far = λ vs ahead.
    let s = so_far vs ahead in
    let n = next s.0 s.1 in
    let of : item.schema.now ≡ start.schema.now = n.5 ∙ s.2 in
    let one = subst (λ (u : Schema). told named (says (tree u, n.0)) ≡ Err e) of (said n.0 n.3) in
    ap (told named) (sym s.3) ∙ fails_here named says (tree start.schema.now) front s.0 n.1 n.0 e n.2 one

all_here : {X : Type 0} (says : Typed → Result X FieldFault) (t : Tree) (front : List X) (ws : List Value) → ws ≡ []
    → joined front (each says (items_as t (values_of ws))) ≡ Ok front
all_here {X} says t front ws is = rw is (no_item says front)

pub all_so_far : {X : Type 0} (says : Typed → Result X FieldFault) (start here : ItemsAhead) (front : List X)
    → ((vs : List Value) → AreAhead here vs → vs ≡ []) → SoFar says start here front
    → (vs : List Value) → AreAhead start vs → each says (items_as (tree start.schema.now) (values_of vs)) ≡ Ok front
all_so_far {X} says start here front done so_far = λ vs ahead.
    let s = so_far vs ahead in
    sym s.3 ∙ all_here says (tree start.schema.now) front s.0 (done s.0 s.1)

nothing_in_front : {A : Type 0} (r : Read (List A)) (y : List A × Position)
    → (r >>= λ x. Ok ([] ++ x.0, x.1)) ≡ Ok y → r ≡ Ok y
nothing_in_front {A} (Ok x) y e = e
nothing_in_front {A} (Err f) y e = absurd cc

no_turns : (t : Tree) (p : Position) (y : List Value × Position) → rest_at t 0 0 p ≡ Ok y → ⊥
unfolding values_at blocks_at
no_turns t p y e = absurd cc

entered : (t : Tree) (turns n : ℕ) (p q : Position) (y : List Value × Position) → rest_at t 0 (suc turns) p ≡ Ok y
    → count_at p ≡ Ok (suc n, q) → rest_at t (suc n) turns q ≡ Ok y
unfolding values_at blocks_at
entered t turns n p q y e here = nothing_in_front _ y (rw here at e)

-- the block whose count stands here
pub block_ahead : (t : Tree) (turns count : ℕ) (p q : Position) (y : List Value × Position)
    → rest_at t 0 turns p ≡ Ok y → count_at p ≡ Ok (count, q) → 0 < count
    → (fewer : ℕ) × (rest_at t count fewer q ≡ Ok y)
block_ahead t zero count p q y e here some = absurd (no_turns t p y e)
block_ahead t (suc turns) zero p q y e here some = absurd (omega arith)
block_ahead t (suc turns) (suc n) p q y e here some = (turns, entered t turns n p q y e here)

-- no item is left where a block is empty
pub none_ahead : (t : Tree) (turns : ℕ) (p q : Position) (y : List Value × Position)
    → rest_at t 0 turns p ≡ Ok y → count_at p ≡ Ok (0, q) → y.0 ≡ []
unfolding values_at blocks_at
none_ahead t zero p q y e here = absurd (no_turns t p y e)
none_ahead t (suc turns) p q y e here =
    let done : Ok ([], q) ≡ Ok y = rw here at e in sym (ap (λ (z : List Value × Position). z.0) (ok_is ([], q) y done))

pub never_fails : (t : Tree) (turns : ℕ) (p : Position) (y : List Value × Position) (f : Refusal)
    → rest_at t 0 turns p ≡ Ok y → count_at p ≡ Err f → ⊥
unfolding values_at blocks_at
never_fails t zero p y f e here = absurd (no_turns t p y e)
never_fails t (suc turns) p y f e here = let fails : Err f ≡ Ok y = rw here at e in absurd cc

-- a count is taken off what is left
pub counted_off : (p q : Position) (n : ℕ) → count_at p ≡ Ok (n, q) → p.left ≡ q.left + n
counted_off p q n e = let t = count_takes p (n, q) e in t.left

both_read : (t : Tree) (n turns : ℕ) (p q : Position) (xs ys : List Value) (end : Position)
    → values_at (datum_at t) n p ≡ Ok (xs, q) → blocks_at (datum_at t) turns q ≡ Ok (ys, end)
    → rest_at t n turns p ≡ Ok (xs ++ ys, end)
both_read t n turns p q xs ys end here after = rw (here, after) refl

-- the first item, and those behind it
pub record FirstItem (t : Tree) (n turns : ℕ) (p : Position) (vs : List Value) (end : Position) : Type 0 where
  pub first : Value
  pub others : List Value
  pub behind : Position
  pub is : vs ≡ first ∷ others
  pub read : datum_at t p ≡ Ok (first, behind)
  pub more : rest_at t (n - 1) turns behind ≡ Ok (others, end)

pub first_item : (t : Tree) (n turns : ℕ) (p : Position) (vs : List Value) (end : Position) → 0 < n
    → rest_at t n turns p ≡ Ok (vs, end) → FirstItem t n turns p vs end
unfolding values_at
first_item t zero turns p vs end some e = absurd (omega arith)
first_item t (suc n) turns p vs end some e =
    let a = bind_ok (values_at (datum_at t) (suc n) p) (λ here. blocks_at (datum_at t) turns here.1 >>= λ after.
    Ok (here.0 ++ after.0, after.1)) (vs, end) e in
    let b = bind_ok (blocks_at (datum_at t) turns a.0.1) (λ after. Ok (a.0.0 ++ after.0, after.1)) (vs, end) a.2 in
    let c = bind_ok (datum_at t p) (λ first. values_at (datum_at t) n first.1 >>= λ others.
    Ok (first.0 ∷ others.0, others.1)) a.0 a.1 in
    let d = bind_ok (values_at (datum_at t) n c.0.1) (λ others. Ok (c.0.0 ∷ others.0, others.1)) a.0 c.2 in
    let here = ok_is (c.0.0 ∷ d.0.0, d.0.1) a.0 d.2 in
    let all = ok_is (a.0.0 ++ b.0.0, b.0.1) (vs, end) b.2 in
    let last : b.0.1 ≡ end = ap (λ (y : List Value × Position). y.1) all in
    let one_less : n ≡ suc n - 1 = omega arith in
    let blocks : blocks_at (datum_at t) turns d.0.1 ≡ Ok b.0 =
    ap (λ (y : List Value × Position). blocks_at (datum_at t) turns y.1) here ∙ b.1 in
    record {
      first = c.0.0;
      others = d.0.0 ++ b.0.0;
      behind = c.0.1;
      is = sym (ap (λ (y : List Value × Position). y.0) all) ∙ ap (λ (y : List Value × Position). y.0 ++ b.0.0)
          (sym here);
      read = c.1;
      more = subst (λ (k : ℕ). rest_at t k turns c.0.1 ≡ Ok (d.0.0 ++ b.0.0, end)) one_less
          (both_read t n turns c.0.1 d.0.1 d.0.0 b.0.0 b.0.1 d.1 blocks
          ∙ ap (λ (q : Position). Ok (d.0.0 ++ b.0.0, q)) last);
    }
