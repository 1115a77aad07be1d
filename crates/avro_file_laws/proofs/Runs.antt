-- Where the blocks of a file are at fault.
use Rattle.std.proofs.Common.{◌≡◌, ◌≢◌, ℕ, zero, suc, ◌≤◌, pos, List, [], ◌∷◌, ◌++◌, length, Option, Some, Result, Ok}
use Rattle.std.proofs.Common.{Err, ◌⊎◌, inl, inr, refl, sym, ap, subst, ◌∙◌, append_assoc, arith}
use Rattle.avro_schema.specs.Tree.{Tree}
use Rattle.avro_file_parts.specs.declared.refusal.Refusal.{Refusal}
use Rattle.avro_file_parts.specs.Number.{IsLong}
use Rattle.avro_file_parts.specs.Heads.{BlockHead, head_at}
use Rattle.avro_file.specs.declared.fault.AvroFault.{AvroFault}
use Rattle.avro_file.specs.Value.{Value}
use Rattle.avro_file.specs.Blocks.{fault_of, Run, stopped, objects_run, head_then, blocks_run}
use Rattle.avro_file.specs.Holding.{HoldsBlocks, Holds, AreWithinLimits}
use Rattle.avro_file.proofs.Loop.{long_len}
use Rattle.avro_file.proofs.Heads.{head_takes, head_shorter}
use Rattle.avro_file.proofs.Held.{head_again, objects_again, joined_run, limits-left, limits-both, some_bytes}
use Rattle.avro_file_laws.specs.Faults.{IsBlockAtFault}
use Rattle.avro_file_laws.proofs.Longest.{entered}
use Rattle.avro_file_laws.proofs.Objects.{ends_so, run_is, AllWhole, InBlock, objects_end, block_ends}

some_is : (f g : AvroFault) → ◌≡◌ {A = Option AvroFault} (Some f) (Some g) → f ≡ g
some_is f g e = cc

-- a head is refused
abbrev pub HeadStops : List ℕ → ℕ → List ℕ → AvroFault → Type 0
HeadStops sync total bytes f = (e : Refusal) × (head_at sync bytes ≡ Err e) × (fault_of total e ≡ f)

-- what is at fault behind whole blocks
abbrev pub Follows : Tree → List ℕ → ℕ → List Value → List ℕ → AvroFault → Type 0
Follows s sync total after rest f = ((after ≡ []) × (rest ≢ []) × HeadStops sync total rest f)
    ⊎ IsBlockAtFault s sync after rest f

pub record RunStops (s : Tree) (sync : List ℕ) (total : ℕ) (vs : List Value) (bytes : List ℕ)
    (f : AvroFault) : Type 0 where
  pub here : List Value
  pub after : List Value
  pub front : List ℕ
  pub rest : List ℕ
  pub held : Holds s sync here front
  pub limits : AreWithinLimits vs
  pub all : vs ≡ here ++ after
  pub follows : Follows s sync total after rest f
  pub parts : bytes ≡ front ++ rest

-- ---- a run that ends so

at_once : (s : Tree) (sync : List ℕ) (total : ℕ) (vs : List Value) (bytes : List ℕ) (e : Refusal) (f : AvroFault)
    → bytes ≢ [] → head_at sync bytes ≡ Err e → stopped (fault_of total e) ≡ ends_so vs f
    → RunStops s sync total vs bytes f
at_once s sync total vs bytes e f some h same =
    let r = run_is (stopped (fault_of total e)) vs f same in
    record {
      here = [];
      after = [];
      front = [];
      rest = bytes;
      held = (0, (refl, refl));
      limits = subst AreWithinLimits r.0 tt;
      all = sym r.0;
      follows = inl (refl, some, (e, h, some_is (fault_of total e) f r.1));
      parts = refl;
    }

in_block : (s : Tree) (sync : List ℕ) (total : ℕ) (vs : List Value) (bytes : List ℕ) (h : BlockHead) (f : AvroFault)
    → head_at sync bytes ≡ Ok h → InBlock s h.count h.content vs f → RunStops s sync total vs bytes f
in_block s sync total vs bytes h f e is =
    let t = head_takes sync bytes h e in
    let size : IsLong t.size (pos (length (is.body ++ is.others))) = subst (λ (c : List ℕ). IsLong t.size
    (pos (length c))) is.parts t.size_is in
    let parts : bytes ≡ t.count ++ (t.size ++ ((is.body ++ is.others) ++ (sync ++ h.rest))) = t.parts ∙ ap
    (λ (c : List ℕ). t.count ++ (t.size ++ (c ++ (sync ++ h.rest)))) is.parts in
    let block : IsBlockAtFault s sync vs bytes f =
    (h.count, t.count, t.size, is.body, is.others, h.rest, t.count_is, size, is.spelled, parts, is.how) in
    record {
      here = [];
      after = vs;
      front = [];
      rest = bytes;
      held = (0, (refl, refl));
      limits = is.limits;
      all = refl;
      follows = inr block;
      parts = refl;
    }

six_parts : (bytes count size content sync front rest behind : List ℕ)
    → bytes ≡ count ++ (size ++ (content ++ (sync ++ behind))) → behind ≡ front ++ rest
    → bytes ≡ (count ++ (size ++ (content ++ (sync ++ front)))) ++ rest
six_parts bytes count size content sync front rest behind e f = rw (e, f) (simp append_assoc)

later_block : (s : Tree) (sync : List ℕ) (total : ℕ) (vs : List Value) (bytes : List ℕ) (h : BlockHead) (after : Run)
    (f : AvroFault) → head_at sync bytes ≡ Ok h → AllWhole s after h.count h.content vs f
    → RunStops s sync total after.found h.rest f → RunStops s sync total vs bytes f
later_block s sync total vs bytes h after f e is more =
    let t = head_takes sync bytes h e in
    let count : IsLong t.count (pos (length is.here)) = subst (λ (k : ℕ). IsLong t.count (pos k)) (sym is.as_many)
    t.count_is in
    let held : HoldsBlocks s sync (suc more.held.0) (is.here ++ more.here)
    (t.count ++ (t.size ++ (h.content ++ (sync ++ more.front)))) = (
      is.here,
      more.here,
      t.count,
      t.size,
      h.content,
      more.front,
      count,
      t.size_is,
      is.spelled,
      more.held.1,
      refl,
      refl,
    ) in
    record {
      here = is.here ++ more.here;
      after = more.after;
      front = t.count ++ (t.size ++ (h.content ++ (sync ++ more.front)));
      rest = more.rest;
      held = (suc more.held.0, held);
      limits = subst AreWithinLimits (sym is.all) (limits-both is.here after.found is.limits more.limits);
      all = is.all ∙ ap (λ (ws : List Value). is.here ++ ws) more.all ∙ sym (append_assoc is.here more.here more.after);
      follows = more.follows;
      parts = six_parts bytes t.count t.size h.content sync more.front more.rest h.rest t.parts more.parts;
    }

after_head : (s : Tree) (sync : List ℕ) (total : ℕ) (vs : List Value) (bytes : List ℕ) (others : List ℕ → Run)
    (f : AvroFault) (r : Result BlockHead Refusal) → bytes ≢ [] → head_at sync bytes ≡ r
    → ((h : BlockHead) (us : List Value) → head_at sync bytes ≡ Ok h → others h.rest ≡ ends_so us f
    → RunStops s sync total us h.rest f)
    → head_then s total others r ≡ ends_so vs f → RunStops s sync total vs bytes f
after_head s sync total vs bytes others f (Err e) some is more h = at_once s sync total vs bytes e f some is h
after_head s sync total vs bytes others f (Ok b) some is more h =
    let after = others b.rest in
    elim (objects_end s total after b.count b.content vs f h) [
      | inl k ↦
          let same : after ≡ ends_so after.found f = ap (λ (d : Option AvroFault). record {
            found = after.found;
            ending = d;
          }) k.ends in
          later_block s sync total vs bytes b after f is k (more b after.found is same)
      | inr k ↦ in_block s sync total vs bytes b f is k
    ]

pub run_stops : (s : Tree) (sync : List ℕ) (total turns : ℕ) (vs : List Value) (bytes : List ℕ) (f : AvroFault)
    → length bytes ≤ turns → blocks_run s sync total turns bytes ≡ ends_so vs f → RunStops s sync total vs bytes f
unfolding blocks_run
run_stops s sync total turns vs [] f le h = absurd (let r = ap (λ (q : Run). q.ending) h in cc)
run_stops s sync total zero vs (b ∷ bytes) f le h = absurd (omega arith)
run_stops s sync total (suc turns) vs (b ∷ bytes) f le h =
    after_head s sync total vs (b ∷ bytes) (blocks_run s sync total turns) f (head_at sync (b ∷ bytes)) (λ e. cc) refl
    (λ k us is same.
    let less = head_shorter sync (b ∷ bytes) k is in
    run_stops s sync total turns us k.rest f (omega (arith, le, less)) same) h

-- ---- and so it ends

head_ends : (s : Tree) (sync : List ℕ) (total turns : ℕ) (bytes : List ℕ) (f : AvroFault) → length bytes ≤ turns
    → bytes ≢ [] → HeadStops sync total bytes f → blocks_run s sync total turns bytes ≡ ends_so [] f
unfolding blocks_run
head_ends s sync total turns [] f le some is = absurd (some refl)
head_ends s sync total zero (b ∷ bytes) f le some is = absurd (omega arith)
head_ends s sync total (suc turns) (b ∷ bytes) f le some is = rw is.1 (ap stopped is.2)

rest_ends : (s : Tree) (sync : List ℕ) (total turns : ℕ) (vs : List Value) (bytes : List ℕ) (f : AvroFault)
    → length sync ≡ 16 → length bytes ≤ turns → AreWithinLimits vs → Follows s sync total vs bytes f
    → blocks_run s sync total turns bytes ≡ ends_so vs f
rest_ends s sync total turns vs bytes f sixteen le few (inl is) =
    head_ends s sync total turns bytes f le is.1 is.2 ∙ ap (λ (us : List Value). ends_so us f) (sym is.0)
rest_ends s sync total turns vs bytes f sixteen le few (inr is) =
    let content = is.3 ++ is.4 in
    let h : BlockHead = record { count = is.0; content = content; rest = is.5 } in
    let head : head_at sync bytes ≡ Ok h = head_again sync is.1 is.2 content is.5 bytes is.0 sixteen is.6 is.7 is.9 in
    let some : bytes ≢ [] = rw is.9 (some_bytes is.1 (is.2 ++ (content ++ (sync ++ is.5))) (long_len is.1 (pos is.0)
    is.6)) in
    let more = entered s sync total turns bytes h some le head in
    more.2 ∙ block_ends s total (blocks_run s sync total more.0 is.5) is.0 vs is.3 is.4 f is.8 few is.10

five_parts : (bytes front count size body sync more rest : List ℕ) → bytes ≡ front ++ rest
    → front ≡ count ++ (size ++ (body ++ (sync ++ more)))
    → bytes ≡ count ++ (size ++ (body ++ (sync ++ (more ++ rest))))
five_parts bytes front count size body sync more rest e f = rw (e, f) (simp append_assoc)

held_ends : (s : Tree) (sync : List ℕ) (total blocks turns : ℕ) (here after : List Value) (front rest bytes : List ℕ)
    (f : AvroFault) → length sync ≡ 16 → HoldsBlocks s sync blocks here front → AreWithinLimits here
    → AreWithinLimits after → Follows s sync total after rest f → bytes ≡ front ++ rest → length bytes ≤ turns
    → blocks_run s sync total turns bytes ≡ ends_so (here ++ after) f
held_ends s sync total zero turns here after front rest bytes f sixteen is few limits follows e le =
    let same : bytes ≡ rest = e ∙ ap (λ (t : List ℕ). t ++ rest) is.1 in
    rw (is.0, same) (rest_ends s sync total turns after rest f sixteen (omega (arith, le, ap length same)) limits
    follows)
held_ends s sync total (suc blocks) turns here after front rest bytes f sixteen is few limits follows e le =
    let more = is.5 ++ rest in
    let h : BlockHead = record { count = length is.0; content = is.4; rest = more } in
    let parts = five_parts bytes front is.2 is.3 is.4 sync is.5 rest e is.11 in
    let head : head_at sync bytes ≡ Ok h = head_again sync is.2 is.3 is.4 more bytes (length is.0) sixteen is.6 is.7
    parts in
    let some : bytes ≢ [] = rw parts (some_bytes is.2 (is.3 ++ (is.4 ++ (sync ++ more))) (long_len is.2
    (pos (length is.0)) is.6)) in
    let few-parts = limits-left is.0 is.1 (rw is.10 at few) in
    let enter = entered s sync total turns bytes h some le head in
    let run = blocks_run s sync total enter.0 more in
    let others : run ≡ ends_so (is.1 ++ after) f = held_ends s sync total blocks enter.0 is.1 after is.5 rest more f
    sixteen is.9 few-parts.1 limits follows refl enter.1 in
    let objects : objects_run s total run (length is.0) is.4 ≡ joined_run is.0 run = objects_again s total run is.0
    is.4 is.8 few-parts.0 in
    let joined : is.0 ++ (is.1 ++ after) ≡ here ++ after = rw is.10 (simp append_assoc) in
    enter.2 ∙ objects ∙ ap (joined_run is.0) others ∙ ap (λ (us : List Value). ends_so us f) joined

pub run_ends : (s : Tree) (sync : List ℕ) (total turns : ℕ) (vs : List Value) (bytes : List ℕ) (f : AvroFault)
    → length sync ≡ 16 → length bytes ≤ turns → RunStops s sync total vs bytes f
    → blocks_run s sync total turns bytes ≡ ends_so vs f
run_ends s sync total turns vs bytes f sixteen le is =
    let limits = limits-left is.here is.after (rw is.all at is.limits) in
    held_ends s sync total is.held.0 turns is.here is.after is.front is.rest bytes f sixteen is.held.1 limits.0 limits.1
    is.follows is.parts le ∙ ap (λ (us : List Value). ends_so us f) (sym is.all)
