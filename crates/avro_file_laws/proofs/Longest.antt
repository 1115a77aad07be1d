-- What fronts of a file hold is what it gives.
use Rattle.std.proofs.Common.{◌≡◌, ◌≢◌, ℕ, zero, suc, ◌-◌, ◌^◌, ◌<◌, ◌≤◌, pos, List, [], ◌∷◌, ◌++◌, length, Option, Ok}
use Rattle.std.proofs.Common.{◌⊎◌, inl, inr, ◌↔◌, refl, sym, ap, subst, ◌∙◌, append_assoc, length-append, arith}
use Rattle.avro_schema.specs.Tree.{Tree}
use Rattle.avro_file.specs.declared.fault.AvroFault.{AvroFault}
use Rattle.avro_file_parts.specs.Number.{IsLong}
use Rattle.avro_file_parts.specs.Parts.{Position}
use Rattle.avro_file_parts.specs.Heads.{BlockHead, head_at}
use Rattle.avro_file.specs.Value.{Value}
use Rattle.avro_file.specs.Reading.{datum_at}
use Rattle.avro_file.specs.Spelling.{AreJoined, Spells, item_count}
use Rattle.avro_file.specs.Blocks.{max_items, object_at, Run, objects_run, blocks_run}
use Rattle.avro_file.specs.Holding.{HoldsBlocks, AreWithinLimits}
use Rattle.avro_file.specs.Ahead.{running}
use Rattle.avro_file.specs.Files.{Opened, opened_at}
use Rattle.avro_file.specs.Fronts.{BlockBegins, FrontHolds, FrontHoldsFile}
use Rattle.avro_file.proofs.Again.{datum_again}
use Rattle.avro_file.proofs.Loop.{long_len}
use Rattle.avro_file.proofs.Heads.{head_shorter}
use Rattle.avro_file.proofs.Held.{head_again, objects_again, joined_run, limits-left, some_bytes}
use Rattle.avro_file.proofs.Fronts.{file_front}
use Rattle.avro_file_laws.specs.Fronts.{IsFrontOf, Opens}
use Rattle.avro_file_laws.proofs.Once.{header_once}
use Rattle.avro_file_laws.proofs.Begun.{opened_begins, begins_opened}

-- ---- what a front holds is given

pub object_again : (s : Tree) (v : Value) (front rest : List ℕ) → Spells s v front → item_count v ≤ max_items
    → object_at s (front ++ rest) ≡ Ok (v, rest)
unfolding object_at
object_again s v front rest is few =
    let q : Position = record { bytes = rest; left = max_items - item_count v } in
    let p : Position = record { bytes = front ++ rest; left = max_items } in
    let found : datum_at s p ≡ Ok (v, q) = datum_again s v front p q is refl (omega arith) in
    rw found refl

objects_begin : (s : Tree) (total : ℕ) (after : Run) (n : ℕ) (vs : List Value) (body others : List ℕ) → length vs ≤ n
    → AreJoined (Spells s) vs body → AreWithinLimits vs
    → IsFrontOf vs (objects_run s total after n (body ++ others)).found
unfolding objects_run
objects_begin s total after n [] body others le is few = ((objects_run s total after n (body ++ others)).found, refl)
objects_begin s total after zero (v ∷ vs) body others le is few = absurd (omega arith)
objects_begin s total after (suc n) (v ∷ vs) body others le is few =
    let more = objects_begin s total after n vs is.1 others (omega arith) is.3 few.1 in
    let regrouped : body ++ others ≡ is.0 ++ (is.1 ++ others) = ap (λ (t : List ℕ). t ++ others) is.4 ∙ append_assoc
    is.0 is.1 others in
    rw (regrouped, object_again s v is.0 (is.1 ++ others) is.2 few.0) (more.0, ap (λ (ws : List Value). v ∷ ws) more.1)

-- a run goes on in a block whose head is read
pub entered : (s : Tree) (sync : List ℕ) (total turns : ℕ) (bytes : List ℕ) (h : BlockHead) → bytes ≢ []
    → length bytes ≤ turns → head_at sync bytes ≡ Ok h
    → (fewer : ℕ) × (length h.rest ≤ fewer) × (blocks_run s sync total turns bytes ≡ objects_run s total
    (blocks_run s sync total fewer h.rest) h.count h.content)
unfolding blocks_run
entered s sync total turns [] h some le e = absurd (some refl)
entered s sync total zero (b ∷ bytes) h some le e = absurd (omega arith)
entered s sync total (suc turns) (b ∷ bytes) h some le e =
    let less = head_shorter sync (b ∷ bytes) h e in
    (turns, omega arith, rw e refl)

block_begins : (s : Tree) (sync : List ℕ) (total : ℕ) → length sync ≡ 16 → (turns : ℕ) (vs : List Value)
    (bytes : List ℕ) → BlockBegins s sync vs bytes → AreWithinLimits vs → length bytes ≤ turns
    → IsFrontOf vs (blocks_run s sync total turns bytes).found
block_begins s sync total sixteen turns vs bytes is few le =
    let content = is.3 ++ is.4 in
    let h : BlockHead = record { count = is.0; content = content; rest = is.5 } in
    let head : head_at sync bytes ≡ Ok h = head_again sync is.1 is.2 content is.5 bytes is.0 sixteen is.6 is.8 is.10 in
    let some : bytes ≢ [] = rw is.10 (some_bytes is.1 (is.2 ++ (content ++ (sync ++ is.5))) (long_len is.1 (pos is.0)
    is.6)) in
    let more = entered s sync total turns bytes h some le head in
    rw more.2 (objects_begin s total (blocks_run s sync total more.0 is.5) is.0 vs is.3 is.4 is.7 is.9 few)

rest_begins : (s : Tree) (sync : List ℕ) (total : ℕ) → length sync ≡ 16 → (turns : ℕ) (vs : List Value)
    (bytes : List ℕ) → (vs ≡ []) ⊎ BlockBegins s sync vs bytes → AreWithinLimits vs → length bytes ≤ turns
    → IsFrontOf vs (blocks_run s sync total turns bytes).found
rest_begins s sync total sixteen turns vs bytes (inl none) few le =
    ((blocks_run s sync total turns bytes).found, rw none refl)
rest_begins s sync total sixteen turns vs bytes (inr is) few le = block_begins s sync total sixteen turns vs bytes is
    few le

joined_fronts : (here now then after others : List Value) → here ≡ now ++ then
    → now ++ ((then ++ after) ++ others) ≡ (here ++ after) ++ others
joined_fronts here now then after others e = rw e (simp append_assoc)

five_parts : (bytes front count size body sync more rest : List ℕ) → bytes ≡ front ++ rest
    → front ≡ count ++ (size ++ (body ++ (sync ++ more)))
    → bytes ≡ count ++ (size ++ (body ++ (sync ++ (more ++ rest))))
five_parts bytes front count size body sync more rest e f = rw (e, f) (simp append_assoc)

blocks_begin : (s : Tree) (sync : List ℕ) (total : ℕ) → length sync ≡ 16 → (blocks turns : ℕ)
    (here after : List Value) (front rest bytes : List ℕ) → HoldsBlocks s sync blocks here front
    → (after ≡ []) ⊎ BlockBegins s sync after rest → AreWithinLimits here → AreWithinLimits after
    → bytes ≡ front ++ rest → length bytes ≤ turns
    → IsFrontOf (here ++ after) (blocks_run s sync total turns bytes).found
blocks_begin s sync total sixteen zero turns here after front rest bytes is begins few limits e le =
    let same : bytes ≡ rest = e ∙ ap (λ (t : List ℕ). t ++ rest) is.1 in
    rw (is.0, same) (rest_begins s sync total sixteen turns after rest begins limits (omega (arith, ap length same)))
blocks_begin s sync total sixteen (suc blocks) turns here after front rest bytes is begins few limits e le =
    let more = is.5 ++ rest in
    let h : BlockHead = record { count = length is.0; content = is.4; rest = more } in
    let parts = five_parts bytes front is.2 is.3 is.4 sync is.5 rest e is.11 in
    let head : head_at sync bytes ≡ Ok h = head_again sync is.2 is.3 is.4 more bytes (length is.0) sixteen is.6 is.7
    parts in
    let some : bytes ≢ [] = rw parts (some_bytes is.2 (is.3 ++ (is.4 ++ (sync ++ more))) (long_len is.2
    (pos (length is.0)) is.6)) in
    let few-parts = limits-left is.0 is.1 (rw is.10 at few) in
    let enter = entered s sync total turns bytes h some le head in
    let run = blocks_run s sync total enter.0 more in
    let others = blocks_begin s sync total sixteen blocks enter.0 is.1 after is.5 rest more is.9 begins few-parts.1
    limits refl enter.1 in
    let objects : objects_run s total run (length is.0) is.4 ≡ joined_run is.0 run = objects_again s total run is.0
    is.4 is.8 few-parts.0 in (
      others.0,
      ap (λ (r : Run). r.found) (enter.2 ∙ objects) ∙ ap (λ (ws : List Value). is.0 ++ ws) others.1 ∙ joined_fronts here
          is.0 is.1 after others.0 is.10,
    )

-- ---- fronts of what is held

split : {A : Type 0} (xs ys us vs : List A) → xs ++ ys ≡ us ++ vs → ((d : List A) × (us ≡ xs ++ d) × (ys ≡ d ++ vs)) ⊎
    ((d : List A) × (xs ≡ us ++ d) × (vs ≡ d ++ ys))
split [] ys us vs e = inl (us, refl, e)
split (x ∷ xs) ys [] vs e = inr (x ∷ xs, refl, sym e)
split {A} (x ∷ xs) ys (u ∷ us) vs e =
    let first : x ≡ u = cc in
    let others : xs ++ ys ≡ us ++ vs = cc in
    elim (split xs ys us vs others) [
      | inl h ↦ inl (h.0, ap (λ (t : List A). u ∷ t) h.1 ∙ ap (λ (y : A). y ∷ (xs ++ h.0)) (sym first), h.2)
      | inr h ↦ inr (h.0, ap (λ (t : List A). x ∷ t) h.1 ∙ ap (λ (y : A). y ∷ (us ++ h.0)) first, h.2)
    ]

pub joined_parts : {A : Type 0} (P : A → List ℕ → Type 0) (us vs : List A) (body : List ℕ) → AreJoined P (us ++ vs) body
    → (front : List ℕ) × (back : List ℕ) × AreJoined P us front × AreJoined P vs back × (body ≡ front ++ back)
joined_parts P [] vs body is = ([], body, refl, is, refl)
joined_parts P (u ∷ us) vs body is =
    let more = joined_parts P us vs is.1 is.3 in (
      is.0 ++ more.0,
      more.1,
      (is.0, more.0, is.2, more.2, refl),
      more.3,
      is.4 ∙ ap (λ (t : List ℕ). is.0 ++ t) more.4 ∙ sym (append_assoc is.0 more.0 more.1),
    )

-- a block begins with each front of what it begins with
begins_less : (s : Tree) (sync : List ℕ) (vs ws more : List Value) (bytes : List ℕ) → vs ≡ ws ++ more
    → BlockBegins s sync vs bytes → BlockBegins s sync ws bytes
begins_less s sync vs ws more bytes e is =
    let t = joined_parts (Spells s) ws more is.3 (subst (λ (us : List Value). AreJoined (Spells s) us is.3) e is.9) in
    let content : is.3 ++ is.4 ≡ t.0 ++ (t.1 ++ is.4) = ap (λ (x : List ℕ). x ++ is.4) t.4 ∙ append_assoc t.0 t.1 is.4
    in (
      is.0,
      is.1,
      is.2,
      t.0,
      t.1 ++ is.4,
      is.5,
      is.6,
      omega (arith, is.7, ap length e, length-append ws more),
      subst (λ (c : List ℕ). IsLong is.2 (pos (length c))) content is.8,
      t.2,
      is.10 ∙ ap (λ (c : List ℕ). is.1 ++ (is.2 ++ (c ++ (sync ++ is.5)))) content,
    )

rest_less : (s : Tree) (sync : List ℕ) (vs ws more : List Value) (bytes : List ℕ) → vs ≡ ws ++ more
    → (vs ≡ []) ⊎ BlockBegins s sync vs bytes → (ws ≡ []) ⊎ BlockBegins s sync ws bytes
rest_less s sync vs [] more bytes e is = inl refl
rest_less s sync vs (w ∷ ws) more bytes e (inl none) = absurd cc
rest_less s sync vs (w ∷ ws) more bytes e (inr is) = inr (begins_less s sync vs (w ∷ ws) more bytes e is)

prepended : (bytes count size body sync more rest front behind : List ℕ)
    → bytes ≡ count ++ (size ++ (body ++ (sync ++ (more ++ rest)))) → more ++ rest ≡ front ++ behind
    → bytes ≡ (count ++ (size ++ (body ++ (sync ++ front)))) ++ behind
prepended bytes count size body sync more rest front behind e f = rw (e, f) (simp append_assoc)

held_less : (s : Tree) (sync : List ℕ) (blocks : ℕ) (here after ws more : List Value) (front rest bytes : List ℕ)
    → HoldsBlocks s sync blocks here front → (after ≡ []) ⊎ BlockBegins s sync after rest
    → here ++ after ≡ ws ++ more → bytes ≡ front ++ rest → FrontHolds s sync ws bytes
held_less s sync zero here after ws more front rest bytes is begins e f =
    let same : after ≡ ws ++ more = ap (λ (t : List Value). t ++ after) (sym is.0) ∙ e in
    let all : bytes ≡ rest = f ∙ ap (λ (t : List ℕ). t ++ rest) is.1 in
    ([], ws, [], rest, (0, (refl, refl)), rest_less s sync after ws more rest same begins, refl, all)
held_less s sync (suc blocks) here after ws more front rest bytes is begins e f =
    let parts = five_parts bytes front is.2 is.3 is.4 sync is.5 rest f is.11 in
    let all : is.0 ++ (is.1 ++ after) ≡ ws ++ more = sym (append_assoc is.0 is.1 after) ∙ ap
    (λ (t : List Value). t ++ after) (sym is.10) ∙ e in
    elim (split is.0 (is.1 ++ after) ws more all) [
      | inl d ↦
          let m = held_less s sync blocks is.1 after d.0 more is.5 rest (is.5 ++ rest) is.9 begins d.2 refl in (
            is.0 ++ m.0,
            m.1,
            is.2 ++ (is.3 ++ (is.4 ++ (sync ++ m.2))),
            m.3,
            (suc m.4.0, (is.0, m.0, is.2, is.3, is.4, m.2, is.6, is.7, is.8, m.4.1, refl, refl)),
            m.5,
            d.1 ∙ ap (λ (t : List Value). is.0 ++ t) m.6 ∙ sym (append_assoc is.0 m.0 m.1),
            prepended bytes is.2 is.3 is.4 sync is.5 rest m.2 m.3 parts m.7,
          )
      | inr d ↦
          let t = joined_parts (Spells s) ws d.0 is.4 (subst (λ (us : List Value). AreJoined (Spells s) us is.4) d.1
          is.8) in
          let block : BlockBegins s sync ws bytes = (
            length is.0,
            is.2,
            is.3,
            t.0,
            t.1,
            is.5 ++ rest,
            is.6,
            omega (arith, ap length d.1, length-append ws d.0),
            subst (λ (c : List ℕ). IsLong is.3 (pos (length c))) t.4 is.7,
            t.2,
            parts ∙ ap (λ (c : List ℕ). is.2 ++ (is.3 ++ (c ++ (sync ++ (is.5 ++ rest))))) t.4,
          ) in
          ([], ws, [], bytes, (0, (refl, refl)), inr block, refl, refl)
    ]

-- ---- whole files

pub file_less : (s : Tree) (vs ws : List Value) (bytes : List ℕ) → IsFrontOf ws vs → FrontHoldsFile s vs bytes
    → FrontHoldsFile s ws bytes
file_less s vs ws bytes front is =
    let h = is.5 in (
      is.0,
      is.1,
      is.2,
      is.3,
      is.4,
      held_less s is.1 h.4.0 h.0 h.1 ws front.0 h.2 h.3 is.3 h.4.1 h.5 (sym h.6 ∙ front.1) h.7,
      is.6,
    )

found_are : (vs ws : List Value) (e f : Option AvroFault) → running vs e ≡ running ws f → vs ≡ ws
found_are vs ws e f h = cc

front_of : (found vs ws us others : List Value) → found ≡ vs → found ≡ us ++ others → ws ≡ us → vs ≡ ws ++ others
front_of found vs ws us others e f g = rw g (sym e ∙ f)

pub front_given : (bytes : List ℕ) (o : Opened) (vs ws : List Value) (ending : Option AvroFault)
    → opened_at bytes ≡ Ok o → o.ahead ≡ running vs ending → FrontHoldsFile o.schema ws bytes → AreWithinLimits ws
    → IsFrontOf ws vs
front_given bytes o vs ws ending e g is few =
    let b = opened_begins bytes o e in
    let once = header_once is.0 b.properties o.schema o.schema is.1 b.sync is.2 b.header is.3 b.rest is.4 b.is_header
    (sym is.6 ∙ b.parts) in
    let h : FrontHolds o.schema b.sync ws b.rest = subst (λ (x : List ℕ). FrontHolds o.schema x ws b.rest) once.1
    (subst (FrontHolds o.schema is.1 ws) once.2 is.5) in
    let run = blocks_run o.schema b.sync (length bytes) (length b.rest) b.rest in
    let found : run.found ≡ vs = found_are run.found vs run.ending ending (sym b.ahead ∙ g) in
    let limits = limits-left h.0 h.1 (rw h.6 at few) in
    let begins = blocks_begin o.schema b.sync (length bytes) b.is_header.6 h.4.0 (length b.rest) h.0 h.1 h.2 h.3 b.rest
    h.4.1 h.5 limits.0 limits.1 h.7 (omega arith) in
    (begins.0, front_of run.found vs ws (h.0 ++ h.1) begins.0 found begins.1 h.6)

pub given_front : (bytes : List ℕ) (o : Opened) (vs ws : List Value) (ending : Option AvroFault)
    → opened_at bytes ≡ Ok o → o.ahead ≡ running vs ending → IsFrontOf ws vs
    → FrontHoldsFile o.schema ws bytes × AreWithinLimits ws
given_front bytes o vs ws ending e g front =
    let all = file_front bytes o vs ending e g in
    (file_less o.schema vs ws bytes front all.0, (limits-left ws front.0 (rw front.1 at all.1)).0)

pub longest : (bytes : List ℕ) (o : Opened) (vs ws : List Value) (ending : Option AvroFault)
    → opened_at bytes ≡ Ok o → o.ahead ≡ running vs ending → IsFrontOf ws vs ↔ (FrontHoldsFile o.schema ws bytes ×
    AreWithinLimits ws)
longest bytes o vs ws ending e g =
    (given_front bytes o vs ws ending e g, λ h. front_given bytes o vs ws ending e g h.0 h.1)

opens_front : (s : Tree) (bytes : List ℕ) → Opens s bytes → FrontHoldsFile s [] bytes
opens_front s bytes is =
    let b = opened_begins bytes is.0 is.1 in
    let run = blocks_run is.0.schema b.sync (length bytes) (length b.rest) b.rest in
    let all = given_front bytes is.0 run.found [] run.ending is.1 b.ahead (run.found, refl) in
    subst (λ (t : Tree). FrontHoldsFile t [] bytes) is.2 all.0

pub opens : (s : Tree) (bytes : List ℕ) → length bytes < 2 ^ 64 → Opens s bytes ↔ FrontHoldsFile s [] bytes
opens s bytes short = (opens_front s bytes, λ h. begins_opened h.0 s h.1 h.2 h.3 bytes short h.4 h.6)
