-- What is read is kept as the parts of its tree.
use Rattle.std.proofs.Common.{◌≡◌, ◌≢◌, ℕ, suc, ◌+◌, ◌<◌, Bool, true, false, cond, nat_lt, List, [], ◌∷◌, ◌++◌}
use Rattle.std.proofs.Common.{length, Option, Some, None, Result, Ok, Err, refl, sym, ap, ◌∙◌, append_assoc, arith}
use Rattle.std.specs.Option.{option_and_then}
use Rattle.std.proofs.lemmas.Bool.{ltb-true}
use Rattle.std.proofs.lemmas.List.{append-nil}
use Rattle.contract_words.specs.Outcome.{◌>>=◌}
use Rattle.ice_filter.specs.declared.fault.FilterFault.{FilterFault}
use Rattle.ice_filter.specs.declared.fault.FilterFault.TheVariants.{TooBig}
use Rattle.ice_filter.specs.declared.predicate.Predicate.{Predicate}
use Rattle.ice_filter.specs.declared.predicate.Progress.TheVariants as progress
use Rattle.ice_filter.specs.declared.parser.Pending.{Pending}
use Rattle.ice_filter.specs.declared.parser.Place.{Place}
use Rattle.ice_filter.specs.declared.parser.Place.TheVariants.{Wants, After, Inside}
use Rattle.ice_filter.specs.declared.parts.Part.{Part}
use Rattle.ice_filter.specs.declared.parts.Part.TheVariants as part
use Rattle.ice_filter.specs.declared.token.Token.{Token}
use Rattle.ice_filter.specs.declared.token.Token.TheVariants as token
use Rattle.ice_filter.specs.Grammar.{Limits, limits}
use Rattle.ice_filter.specs.Lexing.{tokens_of}
use Rattle.ice_filter.specs.Parsing.{State, Act, Read, add_part, joined, joined_and, opened, began, held, anded, ored}
use Rattle.ice_filter.specs.Parsing.{at_unit, closed, after_unit, moved, predicate_step, step, step_at, ended, finish}
use Rattle.ice_filter.specs.Parsing.{outcome, start, parsed, mapped, filter_of}
use Rattle.ice_filter.specs.Parsing as parsing
use Rattle.ice_filter.specs.Trees.{Tree, truth, predicate, parts_of, read_part, read_parts, tree_of}
use Rattle.ice_filter.specs.Trees.{operands_after_operand, operands_after_part, operands_after}
use Rattle.ice_filter.specs.Trees.{is_one_filter, is_filter, most_operands, top}
use Rattle.ice_filter.proofs.Shapes.{parsed_filter}

-- ---- the parts of the trees that wait are what was read

-- the parts of trees that wait, of which the last stands first
abbrev parts_in : {L : Type 0} → List (Tree L) → List (Part L)
parts_in [] = []
parts_in (t ∷ ts) = parts_in ts ++ parts_of t

abbrev IsKept : {L : Type 0} → List (Tree L) → List (Tree L) → List (Part L) → ℕ → Type 0
IsKept before after parts n = (parts_in after ≡ parts_in before ++ parts) × (length after ≡ n)

operand_kept : {L : Type 0} (ts : List (Tree L)) (t : Tree L) (p : Part L) (m : ℕ) (b : Bool)
    → nat_lt (length ts) most_operands ≡ b → parts_of t ≡ p ∷ [] → operands_after_operand (length ts) ≡ Some m
    → IsKept ts (t ∷ ts) (p ∷ []) m
operand_kept ts t p m true e k h =
    let same : length ts + 1 ≡ m = let some : Some (length ts + 1) ≡ Some m = rw e at h in cc in
    (ap (λ z. parts_in ts ++ z) k, omega arith)
operand_kept ts t p m false e k h = let none : None ≡ Some m = rw e at h in absurd (cc)

part_kept : {L : Type 0} (ts : List (Tree L)) (p : Part L) (m : ℕ) → operands_after_part (length ts) p ≡ Some m
    → IsKept ts (read_part ts p) (p ∷ []) m
part_kept ts part.True m h = operand_kept ts (truth true) part.True m (nat_lt (length ts) most_operands) refl refl h
part_kept ts part.False m h = operand_kept ts (truth false) part.False m (nat_lt (length ts) most_operands) refl refl h
part_kept ts (part.Predicate l) m h = operand_kept ts (predicate l) (part.Predicate l) m
    (nat_lt (length ts) most_operands) refl refl h
part_kept [] part.And m h = absurd (cc)
part_kept (t ∷ []) part.And m h = absurd (cc)
part_kept (t ∷ u ∷ ts) part.And m h =
    let count : suc (length ts) ≡ m = cc in (
      rw (
        append_assoc (parts_in ts ++ parts_of u) (parts_of t) (part.And ∷ []),
        append_assoc (parts_in ts) (parts_of u) (parts_of t ++ part.And ∷ []),
      ) refl,
      count,
    )
part_kept [] part.Or m h = absurd (cc)
part_kept (t ∷ []) part.Or m h = absurd (cc)
part_kept (t ∷ u ∷ ts) part.Or m h =
    let count : suc (length ts) ≡ m = cc in (
      rw (
        append_assoc (parts_in ts ++ parts_of u) (parts_of t) (part.Or ∷ []),
        append_assoc (parts_in ts) (parts_of u) (parts_of t ++ part.Or ∷ []),
      ) refl,
      count,
    )

more_kept : {L : Type 0} (ts : List (Tree L)) (p : Part L) (ps : List (Part L)) (n : ℕ) (o : Option ℕ)
    → operands_after_part (length ts) p ≡ o → option_and_then (λ m. operands_after m ps) o ≡ Some n
    → ((us : List (Tree L)) → operands_after (length us) ps ≡ Some n → IsKept us (read_parts us ps) ps n)
    → IsKept ts (read_parts (read_part ts p) ps) (p ∷ ps) n
more_kept ts p ps n None e h later = absurd (cc)
more_kept ts p ps n (Some m) e h later =
    let k = part_kept ts p m e in
    let go : operands_after (length (read_part ts p)) ps ≡ Some n = rw k.1 h in
    let r = later (read_part ts p) go in
    (r.0 ∙ ap (λ z. z ++ ps) k.0 ∙ append_assoc (parts_in ts) (p ∷ []) ps, r.1)

all_kept : {L : Type 0} (ps : List (Part L)) (ts : List (Tree L)) (n : ℕ) → operands_after (length ts) ps ≡ Some n
    → IsKept ts (read_parts ts ps) ps n
all_kept [] ts n h = let count : length ts ≡ n = cc in (sym (append-nil (parts_in ts)), count)
all_kept (p ∷ ps) ts n h =
    more_kept ts p ps n (operands_after_part (length ts) p) refl h (λ us k. all_kept ps us n k)

one_kept : {L : Type 0} (ts : List (Tree L)) (ps : List (Part L)) (n : ℕ) → n < 2 → IsKept [] ts ps n → ps ≢ []
    → parts_of (top ts) ≡ ps
one_kept [] ps n small h some = absurd (some (sym h.0))
one_kept (t ∷ []) ps n small h some = h.0
one_kept (t ∷ u ∷ ts) ps n small h some = absurd (omega (arith, h.1))

tree_by : {L : Type 0} (ps : List (Part L)) (o : Option ℕ) → operands_after 0 ps ≡ o → is_one_filter o ≡ true → ps ≢ []
    → parts_of (tree_of ps) ≡ ps
tree_by ps None e h some = absurd (cc)
tree_by ps (Some n) e h some = one_kept (read_parts [] ps) ps n (ltb-true n 2 h) (all_kept ps [] n e) some

pub parts_of_tree : {L : Type 0} (ps : List (Part L)) → is_filter ps ≡ true → ps ≢ [] → parts_of (tree_of ps) ≡ ps
parts_of_tree ps h some = tree_by ps (operands_after 0 ps) refl h some

-- ---- something is read

abbrev Parts : Type 0
Parts = List (Part Predicate)

-- behind an operand something was read
abbrev HasSome : Place → Parts → Type 0
HasSome After ps = ps ≢ []
HasSome _ ps = Unit {0}

abbrev IsSome : Result (State Parts) FilterFault → Type 0
IsSome (Ok s) = HasSome s.place s.read
IsSome (Err e) = Unit {0}

pushed : (ps : Parts) (p : Part Predicate) → ps ++ p ∷ [] ≢ []
pushed [] p e = absurd (cc)
pushed (q ∷ ps) p e = absurd (cc)

joined_and_some : (p : Pending) (b : Bool) (ps : Parts) → p.both ≡ b → ps ≢ [] → joined_and add_part p ps ≢ []
unfolding joined_and
joined_and_some p true ps e h = rw e (pushed ps part.And)
joined_and_some p false ps e h = rw e h

joined_some : (p : Pending) (b : Bool) (ps : Parts) → p.either ≡ b → ps ≢ [] → joined add_part p ps ≢ []
unfolding joined joined_and
joined_some p true ps e h = rw e (pushed (joined_and add_part p ps) part.Or)
joined_some p false ps e h = rw e (joined_and_some p p.both ps refl h)

truth_some : (ps : Parts) (b : Bool) → add_part ps (parsing.truth b) ≢ []
truth_some ps true = pushed ps part.True
truth_some ps false = pushed ps part.False

held_some : (s : State Parts) (a : Act) → add_part s.read a ≢ [] → IsSome (held add_part s a)
unfolding held
held_some s a h = h

limited_some : (b : Bool) (s : State Parts) → HasSome s.place s.read → IsSome (cond b (Ok s) (Err TooBig))
limited_some true s h = h
limited_some false s h = tt

unit_some : (m : Limits) (at : ℕ) (s : State Parts) (t : Token) → IsSome (at_unit add_part m at s t)
unfolding at_unit opened began
unit_some m at s token.Open = limited_some (nat_lt (length s.outer) m.groups) _ tt
unit_some m at s (token.Truth b) = held_some s (parsing.truth b) (truth_some s.read b)
unit_some m at s (token.Name n) = limited_some (nat_lt s.predicates m.predicates) _ tt
unit_some m at s _ = tt

closed_some : (at : ℕ) (s : State Parts) (ps : List Pending) → s.read ≢ [] → IsSome (closed add_part at s ps)
unfolding closed
closed_some at s [] h = tt
closed_some at s (p ∷ ps) h = joined_some s.now s.now.either s.read refl h

after_some : (at : ℕ) (s : State Parts) (t : Token) → s.read ≢ [] → IsSome (after_unit add_part at s t)
unfolding after_unit anded ored
after_some at s token.And h = tt
after_some at s token.Or h = tt
after_some at s token.Close h = closed_some at s s.outer h
after_some at s _ h = tt

moved_some : (s : State Parts) (r : Read) → IsSome (moved add_part s r)
unfolding moved
moved_some s (Ok (progress.Going p)) = tt
moved_some s (Ok (progress.Done l)) = held_some s (parsing.predicate l) (pushed s.read (part.Predicate l))
moved_some s (Err e) = tt

step_some : (m : Limits) (at : ℕ) (s : State Parts) (place : Place) (t : Token) → HasSome place s.read
    → IsSome (step_at add_part m at s place t)
unfolding step_at
step_some m at s Wants t h = unit_some m at s t
step_some m at s After t h = after_some at s t h
step_some m at s (Inside p) t h = moved_some (record s { place = Wants }) (predicate_step m.literals at p t)

ended_some : (end : ℕ) (s : State Parts) (place : Place) (ps : List Pending) (out : Parts) → HasSome place s.read
    → ended add_part end s place ps ≡ Ok out → out ≢ []
unfolding ended
ended_some end s After [] out h e empty =
    let same : joined add_part s.now s.read ≡ out = cc in
    joined_some s.now s.now.either s.read refl h (same ∙ empty)
ended_some end s After (p ∷ ps) out h e empty = absurd (cc)
ended_some end s Wants ps out h e empty = absurd (cc)
ended_some end s (Inside l) ps out h e empty = absurd (cc)

bound_some : (r : Result (State Parts) FilterFault) (f : State Parts → Result Parts FilterFault) (out : Parts)
    → IsSome r → ((s : State Parts) → HasSome s.place s.read → f s ≡ Ok out → out ≢ []) → (r >>= f) ≡ Ok out → out ≢ []
bound_some (Ok s) f out h later e = later s h e
bound_some (Err x) f out h later e = absurd (cc)

outcome_some : (m : Limits) (end : ℕ) (ts : List (ℕ × Token)) (s : State Parts) (out : Parts) → HasSome s.place s.read
    → outcome add_part m end s ts ≡ Ok out → out ≢ []
unfolding outcome finish step
outcome_some m end [] s out h e = ended_some end s s.place s.outer out h e
outcome_some m end (t ∷ ts) s out h e = bound_some (step_at add_part m t.0 s s.place t.1)
    (λ next. outcome add_part m end next ts) out (step_some m t.0 s s.place t.1 h)
    (λ next k go. outcome_some m end ts next out k go) e

parsed_some : (text : List ℕ) (out : Parts) → parsed text ≡ Ok out → out ≢ []
parsed_some text out e = outcome_some limits (length text) (tokens_of text) (start []) out tt e

kept_by : (text : List ℕ) (r : Result Parts FilterFault) → parsed text ≡ r → r ≡ mapped parts_of (mapped tree_of r)
kept_by text (Ok out) e = ap Ok (sym (parts_of_tree out (parsed_filter text out e) (parsed_some text out e)))
kept_by text (Err x) e = refl

pub kept : (text : List ℕ) → parsed text ≡ mapped parts_of (filter_of text)
kept text = kept_by text (parsed text) refl
