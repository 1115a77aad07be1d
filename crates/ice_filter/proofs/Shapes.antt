-- What is read as parts is what is read as written filters, without their parentheses; and the parts are those of a
-- filter.
use Rattle.std.proofs.Common.{◌≡◌, ℕ, suc, ◌+◌, ◌*◌, ◌<◌, ◌≤◌, Bool, true, false, cond, nat_lt, List, [], ◌∷◌, ◌++◌}
use Rattle.std.proofs.Common.{length, map, Option, None, Some, Result, Ok, Err, refl, sym, ◌∙◌, ap, arith, rules}
use Rattle.std.specs.Option.{option_and_then}
use Rattle.contract_words.specs.Outcome.{◌>>=◌}
use Rattle.ice_filter.specs.declared.fault.FilterFault.{FilterFault}
use Rattle.ice_filter.specs.declared.fault.FilterFault.TheVariants.{TooBig}
use Rattle.ice_filter.specs.declared.token.Token.{Token}
use Rattle.ice_filter.specs.declared.token.Token.TheVariants as token
use Rattle.ice_filter.specs.declared.predicate.Predicate.{Predicate}
use Rattle.ice_filter.specs.declared.predicate.Progress.TheVariants as progress
use Rattle.ice_filter.specs.declared.parts.Part.{Part}
use Rattle.ice_filter.specs.declared.parts.Part.TheVariants as part
use Rattle.ice_filter.specs.declared.parser.Pending.{Pending}
use Rattle.ice_filter.specs.declared.parser.Place.{Place}
use Rattle.ice_filter.specs.declared.parser.Place.TheVariants.{Wants, After, Inside}
use Rattle.ice_filter.specs.Grammar.{Written, Limits, limits, bare, Reads}
use Rattle.ice_filter.specs.Trees.{Tree, read_part, read_parts, tree_of, operands_after, operands_after_part}
use Rattle.ice_filter.specs.Trees.{operands_after_operand, operands_after_operator, is_filter, most_operands}
use Rattle.ice_filter.specs.Trees as trees
use Rattle.ice_filter.specs.Lexing.{tokens_of}
use Rattle.ice_filter.specs.Parsing.{Act, State, Read, joined, joined_and, opened, began, held, anded, ored, at_unit}
use Rattle.ice_filter.specs.Parsing.{
  closed,
  after_unit,
  moved,
  predicate_step,
  step,
  step_at,
  ended,
  finish,
  outcome,
  start,
}
use Rattle.ice_filter.specs.Parsing.{none, add_part, parsed, mapped, filter_of}
use Rattle.ice_filter.specs.Parsing as parsing
use Rattle.ice_filter.specs.Rebuilding.{put}
use Rattle.ice_filter.specs.Rebuilding as written
use Rattle.ice_filter.proofs.Halts.{ReadsWritten, reads_written}

-- ---- reading two ways at once

-- what is made of each act in one way shows what is made of it in the other
abbrev pub Commutes : {R S : Type 0} → (R → Act → R) → (S → Act → S) → (R → S) → Type 0
Commutes {R} add plus h = (r : R) (a : Act) → h (add r a) ≡ plus (h r) a

abbrev pub shown : {R S : Type 0} → (R → S) → State R → State S
shown h s = record { place = s.place; now = s.now; outer = s.outer; read = h s.read; predicates = s.predicates }

chosen_same : {R S : Type 0} (h : R → S) (b : Bool) (x y : R) (z w : S) → h x ≡ z → h y ≡ w
    → h (cond b x y) ≡ cond b z w
chosen_same h true x y z w e f = e
chosen_same h false x y z w e f = f

and_same : {R S : Type 0} (add : R → Act → R) (plus : S → Act → S) (h : R → S) → Commutes add plus h
    → (p : Pending) (r : R) → h (joined_and add p r) ≡ joined_and plus p (h r)
unfolding joined_and
and_same add plus h c p r = chosen_same h p.both (add r parsing.both) r (plus (h r) parsing.both) (h r)
    (c r parsing.both) refl

or_same : {R S : Type 0} (add : R → Act → R) (plus : S → Act → S) (h : R → S) → Commutes add plus h
    → (p : Pending) (r : R) → h (joined add p r) ≡ joined plus p (h r)
unfolding joined
or_same add plus h c p r =
    let e : h (joined_and add p r) ≡ joined_and plus p (h r) = and_same add plus h c p r in
    chosen_same h p.either (add (joined_and add p r) parsing.either) (joined_and add p r)
    (plus (joined_and plus p (h r)) parsing.either) (joined_and plus p (h r))
    (c (joined_and add p r) parsing.either ∙ ap (λ x. plus x parsing.either) e) e

limited_same : {R S : Type 0} (h : R → S) (b : Bool) (s : State R)
    → mapped (shown h) (cond b (Ok s) (Err TooBig)) ≡ cond b (Ok (shown h s)) (Err TooBig)
limited_same h true s = refl
limited_same h false s = refl

held_same : {R S : Type 0} (add : R → Act → R) (plus : S → Act → S) (h : R → S) → Commutes add plus h
    → (s : State R) (a : Act) → mapped (shown h) (held add s a) ≡ held plus (shown h s) a
unfolding held
held_same add plus h c s a = rw (c s.read a) refl

unit_same : {R S : Type 0} (add : R → Act → R) (plus : S → Act → S) (h : R → S) → Commutes add plus h
    → (m : Limits) (at : ℕ) (s : State R) (t : Token) → mapped (shown h) (at_unit add m at s t) ≡ at_unit plus m at
    (shown h s) t
unfolding at_unit opened began
unit_same add plus h c m at s token.Open = limited_same h (nat_lt (length s.outer) m.groups) _
unit_same add plus h c m at s (token.Truth b) = held_same add plus h c s (parsing.truth b)
unit_same add plus h c m at s (token.Name n) = limited_same h (nat_lt s.predicates m.predicates) _
unit_same add plus h c m at s _ = refl

closed_same : {R S : Type 0} (add : R → Act → R) (plus : S → Act → S) (h : R → S) → Commutes add plus h
    → (at : ℕ) (s : State R) (ps : List Pending) → mapped (shown h) (closed add at s ps) ≡ closed plus at (shown h s) ps
unfolding closed
closed_same add plus h c at s [] = refl
closed_same add plus h c at s (p ∷ ps) = rw (
  c (joined add s.now s.read) parsing.group,
  or_same add plus h c s.now
      s.read,
) refl

after_same : {R S : Type 0} (add : R → Act → R) (plus : S → Act → S) (h : R → S) → Commutes add plus h
    → (at : ℕ) (s : State R) (t : Token) → mapped (shown h) (after_unit add at s t) ≡ after_unit plus at (shown h s) t
unfolding after_unit anded ored
after_same add plus h c at s token.And = rw (and_same add plus h c s.now s.read) refl
after_same add plus h c at s token.Or = rw (or_same add plus h c s.now s.read) refl
after_same add plus h c at s token.Close = closed_same add plus h c at s s.outer
after_same add plus h c at s _ = refl

moved_same : {R S : Type 0} (add : R → Act → R) (plus : S → Act → S) (h : R → S) → Commutes add plus h
    → (s : State R) (r : Read) → mapped (shown h) (moved add s r) ≡ moved plus (shown h s) r
unfolding moved
moved_same add plus h c s (Ok (progress.Going p)) = refl
moved_same add plus h c s (Ok (progress.Done l)) = held_same add plus h c s (parsing.predicate l)
moved_same add plus h c s (Err e) = refl

step_same : {R S : Type 0} (add : R → Act → R) (plus : S → Act → S) (h : R → S) → Commutes add plus h
    → (m : Limits) (at : ℕ) (s : State R) (place : Place) (t : Token)
    → mapped (shown h) (step_at add m at s place t) ≡ step_at plus m at (shown h s) place t
unfolding step_at
step_same add plus h c m at s Wants t = unit_same add plus h c m at s t
step_same add plus h c m at s After t = after_same add plus h c at s t
step_same add plus h c m at s (Inside p) t = moved_same add plus h c (record s { place = Wants })
    (predicate_step m.literals at p t)

ended_same : {R S : Type 0} (add : R → Act → R) (plus : S → Act → S) (h : R → S) → Commutes add plus h
    → (end : ℕ) (s : State R) (place : Place) (ps : List Pending)
    → mapped h (ended add end s place ps) ≡ ended plus end (shown h s) place ps
unfolding ended
ended_same add plus h c end s After [] = ap Ok (or_same add plus h c s.now s.read)
ended_same add plus h c end s After (p ∷ ps) = refl
ended_same add plus h c end s Wants ps = refl
ended_same add plus h c end s (Inside l) ps = refl

bound_same : {R S : Type 0} (h : R → S) (r : Result (State R) FilterFault) (q : Result (State S) FilterFault)
    (f : State R → Result R FilterFault) (g : State S → Result S FilterFault)
    → mapped (shown h) r ≡ q → ((s : State R) → mapped h (f s) ≡ g (shown h s)) → mapped h (r >>= f) ≡ (q >>= g)
bound_same h (Ok s) q f g e k = rw (← e) (k s)
bound_same h (Err x) q f g e k = rw (← e) refl

pub outcome_same : {R S : Type 0} (add : R → Act → R) (plus : S → Act → S) (h : R → S) → Commutes add plus h
    → (m : Limits) (end : ℕ) (ts : List (ℕ × Token)) (s : State R)
    → mapped h (outcome add m end s ts) ≡ outcome plus m end (shown h s) ts
unfolding outcome finish step
outcome_same add plus h c m end [] s = ended_same add plus h c end s s.place s.outer
outcome_same add plus h c m end (t ∷ ts) s =
    bound_same h (step_at add m t.0 s s.place t.1) (step_at plus m t.0 (shown h s) s.place t.1)
    (λ next. outcome add m end next ts) (λ next. outcome plus m end next ts)
    (step_same add plus h c m t.0 s s.place t.1) (λ next. outcome_same add plus h c m end ts next)

-- ---- filters without their parentheses

add_tree : List (Tree Predicate) → Act → List (Tree Predicate)
add_tree ts (parsing.truth b) = trees.truth b ∷ ts
add_tree ts (parsing.predicate l) = trees.predicate l ∷ ts
add_tree ts parsing.group = ts
add_tree ts parsing.both = trees.both (trees.top (trees.rest ts)) (trees.top ts) ∷ trees.rest (trees.rest ts)
add_tree ts parsing.either = trees.either (trees.top (trees.rest ts)) (trees.top ts) ∷ trees.rest (trees.rest ts)

bare_top : (ts : List Written) → bare (written.top ts) ≡ trees.top (map bare ts)
bare_top [] = refl
bare_top (t ∷ ts) = refl

bare_below : (ts : List Written) → map bare (written.below ts) ≡ trees.rest (map bare ts)
bare_below [] = refl
bare_below (t ∷ ts) = refl

bares : Commutes put add_tree (map bare)
unfolding add_tree
bares ts (parsing.truth b) = refl
bares ts (parsing.predicate l) = refl
bares [] parsing.group = refl
bares (t ∷ ts) parsing.group = refl
bares ts parsing.both = rw (bare_top (written.below ts), bare_top ts, bare_below (written.below ts), bare_below ts) refl
bares ts parsing.either = rw (bare_top (written.below ts), bare_top ts, bare_below (written.below ts), bare_below ts)
    refl

add_snoc : (ts : List (Tree Predicate)) (ps : List (Part Predicate)) (p : Part Predicate)
    → read_parts ts (ps ++ p ∷ []) ≡ read_part (read_parts ts ps) p
add_snoc ts [] p = refl
add_snoc ts (q ∷ ps) p = add_snoc (read_part ts q) ps p

parts_shown : Commutes add_part add_tree (read_parts [])
unfolding add_tree
parts_shown ps (parsing.truth true) = add_snoc [] ps part.True
parts_shown ps (parsing.truth false) = add_snoc [] ps part.False
parts_shown ps (parsing.predicate l) = add_snoc [] ps (part.Predicate l)
parts_shown ps parsing.group = refl
parts_shown ps parsing.both = add_snoc [] ps part.And
parts_shown ps parsing.either = add_snoc [] ps part.Or

-- both ways of reading show the same
tree_reads : (m : Limits) (end : ℕ) (ts : List (ℕ × Token)) (r : Result (List Written) FilterFault)
    (q : Result (List (Part Predicate)) FilterFault) → mapped (map bare) r ≡ mapped (read_parts []) q
    → ReadsWritten m end ts r → Reads m end ts (mapped tree_of q)
tree_reads m end ts (Ok ws) (Ok ps) e h =
    let same : map bare ws ≡ read_parts [] ps = cc in
    (written.top ws, (h.0, h.1, sym (bare_top ws ∙ ap trees.top same)))
tree_reads m end ts (Ok ws) (Err f) e h = absurd cc
tree_reads m end ts (Err f) (Ok ps) e h = absurd cc
tree_reads m end ts (Err f) (Err g) e h = let same : f ≡ g = cc in rw same at h

-- what a text is, in the words of the grammar
pub text_reads : (text : List ℕ) → Reads limits (length text) (tokens_of text) (filter_of text)
text_reads text =
    let one = outcome_same put add_tree (map bare) bares limits (length text) (tokens_of text) (start []) in
    let two = outcome_same add_part add_tree (read_parts []) parts_shown limits (length text) (tokens_of text)
    (start []) in
    tree_reads limits (length text) (tokens_of text) (outcome put limits (length text) (start []) (tokens_of text))
    (parsed text) (one ∙ sym two) (reads_written limits (length text) (tokens_of text) (omega arith))

-- ---- the parts of a filter

one : Bool → ℕ
one true = 1
one false = 0

pending_in : Pending → ℕ
pending_in p = one p.either + one p.both

pending_around : List Pending → ℕ
pending_around [] = 0
pending_around (p ∷ ps) = pending_in p + pending_around ps

operands_at : Place → ℕ
operands_at After = 1
operands_at _ = 0

-- as many operands wait as the open filters have
record Counted (s : State (List (Part Predicate))) : Type 0 where
  counted : operands_after 0 s.read ≡ Some (operands_at s.place + (pending_in s.now + pending_around s.outer))
  deep : length s.outer ≤ 32

then_snoc : (o : Option ℕ) (f : ℕ → Option ℕ) (g : ℕ → Option ℕ) (h : ℕ → Option ℕ)
    → ((n : ℕ) → h n ≡ option_and_then g (f n)) → option_and_then h o ≡ option_and_then g (option_and_then f o)
then_snoc None f g h e = refl
then_snoc (Some n) f g h e = e n

ends_some : (o : Option ℕ) → option_and_then (λ m. Some m) o ≡ o
ends_some None = refl
ends_some (Some n) = refl

after_snoc : (n : ℕ) (ps : List (Part Predicate)) (p : Part Predicate)
    → operands_after n (ps ++ p ∷ []) ≡ option_and_then (λ k. operands_after_part k p) (operands_after n ps)
after_snoc n [] p = ends_some (operands_after_part n p)
after_snoc n (q ∷ ps) p = then_snoc (operands_after_part n q) (λ m. operands_after m ps) (λ k. operands_after_part k p)
    (λ m. operands_after m (ps ++ p ∷ [])) (λ m. after_snoc m ps p)

-- operands before and behind a part
after_part : (ps : List (Part Predicate)) (p : Part Predicate) (n : ℕ) → operands_after 0 ps ≡ Some n
    → operands_after 0 (ps ++ p ∷ []) ≡ operands_after_part n p
after_part ps p n e = after_snoc 0 ps p ∙ ap (option_and_then (λ k. operands_after_part k p)) e

less_is : (a n : ℕ) → a < n → nat_lt a n ≡ true
less_is a n h = search (rules, h)

operand_added : (n k : ℕ) → n < 67 → n + 1 ≡ k → operands_after_operand n ≡ Some k
operand_added n k lt e = let t : nat_lt n 67 ≡ true = less_is n 67 lt in rw (t, e) refl

operator_added : (n k j : ℕ) → n ≡ suc (suc j) → suc j ≡ k → operands_after_operator n ≡ Some k
operator_added n k j e f = rw (e, f) refl

one_most : (b : Bool) → one b ≤ 1
unfolding one
one_most true = omega arith
one_most false = omega arith

few_pending : (p : Pending) → pending_in p ≤ 2
unfolding pending_in
few_pending p = omega (arith, one_most p.either, one_most p.both)

few_around : (ps : List Pending) → pending_around ps ≤ 2 * length ps
unfolding pending_around
few_around [] = omega arith
few_around (p ∷ ps) = omega (arith, few_pending p, few_around ps)

-- an operand's part
operand_part : (s : State (List (Part Predicate))) (p : Part Predicate)
    → ((n : ℕ) → operands_after_part n p ≡ operands_after_operand n) → length s.outer ≤ 32
    → operands_after 0 s.read ≡ Some (pending_in s.now + pending_around s.outer)
    → operands_after 0 (s.read ++ p ∷ []) ≡ Some (1 + (pending_in s.now + pending_around s.outer))
operand_part s p is deep e =
    let n = pending_in s.now + pending_around s.outer in
    after_part s.read p n e ∙ is n ∙ operand_added n (1 + n) (omega (
      arith,
      few_pending s.now,
      few_around s.outer,
      deep,
    )) (omega arith)

-- the operands of `and`, of `or` are one
and_counted : (e b : Bool) (ps : List (Part Predicate)) (n : ℕ) → operands_after 0 ps ≡ Some (1 + ((one e + one b) + n))
    → operands_after 0 (joined_and add_part (record { either = e; both = b }) ps) ≡ Some (1 + ((one e + 0) + n))
unfolding joined_and one
and_counted e false ps n h = h
and_counted e true ps n h =
    after_part ps part.And (1 + ((one e + 1) + n)) h ∙ operator_added (1 + ((one e + 1) + n)) (1 + ((one e + 0) + n))
    (one e + n) (omega arith) (omega arith)

or_counted : (e b : Bool) (ps : List (Part Predicate)) (n : ℕ) → operands_after 0 ps ≡ Some (1 + ((one e + one b) + n))
    → operands_after 0 (joined add_part (record { either = e; both = b }) ps) ≡ Some (1 + n)
unfolding joined one
or_counted false b ps n h = and_counted false b ps n h ∙ ap Some (omega arith)
or_counted true b ps n h =
    let k = and_counted true b ps n h in
    let js = joined_and add_part (record { either = true; both = b }) ps in
    after_part js part.Or (1 + ((1 + 0) + n)) k ∙ operator_added (1 + ((1 + 0) + n)) (1 + n) n (omega arith)
    (omega arith)

CountedAfter : Result (State (List (Part Predicate))) FilterFault → Type 0
CountedAfter (Ok q) = Counted q
CountedAfter (Err e) = Unit {0}

counted_if : (q : State (List (Part Predicate))) (b : Bool) → (b ≡ true → Counted q)
    → CountedAfter (cond b (Ok q) (Err TooBig))
unfolding CountedAfter
counted_if q true h = h refl
counted_if q false h = tt

less_of : (a n : ℕ) → nat_lt a n ≡ true → a < n
less_of a n e = search (rules, e)

unit_counted : (m : Limits) (at : ℕ) (s : State (List (Part Predicate))) (t : Token) → m.groups ≤ 32
    → length s.outer ≤ 32
    → operands_after 0 s.read ≡ Some (pending_in s.now + pending_around s.outer)
    → CountedAfter (at_unit add_part m at s t)
unfolding at_unit opened began held CountedAfter pending_around operands_at one pending_in
unit_counted m at s token.Open most deep h =
    counted_if (record { place = Wants; now = none; outer = s.now ∷ s.outer; read = s.read; predicates = s.predicates })
    (nat_lt (length s.outer) m.groups)
    (λ e. record {
      counted = h ∙ ap Some (omega arith);
      deep = omega (arith, less_of (length s.outer) m.groups e, most);
    })
unit_counted m at s (token.Truth true) most deep h = record {
  counted = operand_part s part.True (λ n. refl) deep h;
  deep = deep;
}
unit_counted m at s (token.Truth false) most deep h = record {
  counted = operand_part s part.False (λ n. refl) deep h;
  deep = deep;
}
unit_counted m at s (token.Name x) most deep h =
    counted_if _ (nat_lt s.predicates m.predicates) (λ e. record { counted = h ∙ ap Some (omega arith); deep = deep })
unit_counted m at s _ most deep h = tt

closed_counted : (at : ℕ) (s : State (List (Part Predicate))) (ps : List Pending) → length ps ≤ 32
    → operands_after 0 s.read ≡ Some (1 + (pending_in s.now + pending_around ps))
    → CountedAfter (closed add_part at s ps)
unfolding closed CountedAfter pending_around operands_at pending_in
closed_counted at s [] deep h = tt
closed_counted at s (p ∷ ps) deep h = record {
  counted = or_counted s.now.either s.now.both s.read
      (pending_in p + pending_around ps) h;
  deep = omega (arith, deep);
}

after_counted : (at : ℕ) (s : State (List (Part Predicate))) (t : Token) → length s.outer ≤ 32
    → operands_after 0 s.read ≡ Some (1 + (pending_in s.now + pending_around s.outer))
    → CountedAfter (after_unit add_part at s t)
unfolding after_unit anded ored CountedAfter operands_at pending_in one
after_counted at s token.And deep h = record {
  counted = and_counted s.now.either s.now.both s.read
      (pending_around s.outer) h ∙ ap Some (omega arith);
  deep = deep;
}
after_counted at s token.Or deep h = record {
  counted = or_counted s.now.either s.now.both s.read
      (pending_around s.outer) h ∙ ap Some (omega arith);
  deep = deep;
}
after_counted at s token.Close deep h = closed_counted at s s.outer deep h
after_counted at s _ deep h = tt

moved_counted : (s : State (List (Part Predicate))) (r : Read) → length s.outer ≤ 32
    → operands_after 0 s.read ≡ Some (pending_in s.now + pending_around s.outer) → CountedAfter (moved add_part s r)
unfolding moved held CountedAfter operands_at
moved_counted s (Ok (progress.Going p)) deep h = record { counted = h ∙ ap Some (omega arith); deep = deep }
moved_counted s (Ok (progress.Done l)) deep h = record {
  counted = operand_part s (part.Predicate l) (λ n. refl) deep h;
  deep = deep;
}
moved_counted s (Err e) deep h = tt

step_counted : (m : Limits) (at : ℕ) (s : State (List (Part Predicate))) (place : Place) (t : Token) → m.groups ≤ 32
    → length s.outer ≤ 32 → operands_after 0 s.read ≡ Some (operands_at place + (pending_in s.now + pending_around
    s.outer)) → CountedAfter (step_at add_part m at s place t)
unfolding step_at operands_at
step_counted m at s Wants t most deep h = unit_counted m at s t most deep (h ∙ ap Some (omega arith))
step_counted m at s After t most deep h = after_counted at s t deep h
step_counted m at s (Inside p) t most deep h = moved_counted (record s { place = Wants })
    (predicate_step m.literals at p t)
    deep (h ∙ ap Some (omega arith))

ended_counted : (end : ℕ) (s : State (List (Part Predicate))) (place : Place) (ps : List Pending)
    (out : List (Part Predicate))
    → operands_after 0 s.read ≡ Some (operands_at place + (pending_in s.now + pending_around ps))
    → ended add_part end s place ps ≡ Ok out → is_filter out ≡ true
unfolding ended operands_at pending_around pending_in
ended_counted end s After [] out h e =
    let k : operands_after 0 (joined add_part s.now s.read) ≡ Some 1 = or_counted s.now.either s.now.both s.read 0 h in
    let same : joined add_part s.now s.read ≡ out = cc in
    let j : operands_after 0 out ≡ Some 1 = rw same at k in
    rw j refl
ended_counted end s After (p ∷ ps) out h e = absurd cc
ended_counted end s Wants ps out h e = absurd cc
ended_counted end s (Inside l) ps out h e = absurd cc

Filters : Limits → ℕ → List (ℕ × Token) → Type 0
Filters m end ts = (s : State (List (Part Predicate))) (out : List (Part Predicate)) → Counted s
    → outcome add_part m end s ts ≡ Ok out → is_filter out ≡ true

next_filter : (m : Limits) (end : ℕ) (ts : List (ℕ × Token)) (r : Result (State (List (Part Predicate))) FilterFault)
    (out : List (Part Predicate)) → Filters m end ts → CountedAfter r
    → (r >>= λ next. outcome add_part m end next ts) ≡ Ok out → is_filter out ≡ true
unfolding Filters CountedAfter
next_filter m end ts (Ok q) out later h e = later q out h e
next_filter m end ts (Err f) out later h e = absurd cc

are_filters : (m : Limits) (end : ℕ) → m.groups ≤ 32 → (ts : List (ℕ × Token)) → Filters m end ts
unfolding Filters outcome finish step
are_filters m end most [] s out h e = ended_counted end s s.place s.outer out h.counted e
are_filters m end most (x ∷ ts) s out h e = next_filter m end ts (step_at add_part m x.0 s s.place x.1) out
    (are_filters m end most ts) (step_counted m x.0 s s.place x.1 most h.deep h.counted) e

-- what is read is a filter
pub parsed_filter : (text : List ℕ) (out : List (Part Predicate)) → parsed text ≡ Ok out → is_filter out ≡ true
unfolding Filters operands_at pending_around pending_in one
parsed_filter text out e = are_filters limits (length text) (omega arith) (tokens_of text) (start []) out
    (record { counted = refl; deep = omega arith }) e
