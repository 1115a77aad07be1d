-- What is in the grammar is read: the tokens of a filter lead to it.
use Rattle.std.proofs.Common.{◌≡◌, ℕ, ◌+◌, ◌-◌, ◌<◌, ◌≤◌, Bool, true, false, nat_lt, List, [], ◌∷◌, ◌++◌, length}
use Rattle.std.proofs.Common.{flat_map, Some, Ok, refl, append_assoc, arith, rules}
use Rattle.std.proofs.lemmas.List.{append-nil, length-append}
use Rattle.ice_filter.specs.declared.token.Token.{Token}
use Rattle.ice_filter.specs.declared.token.Token.TheVariants as token
use Rattle.ice_filter.specs.declared.predicate.Predicate.{Predicate}
use Rattle.ice_filter.specs.declared.predicate.Column.{Column}
use Rattle.ice_filter.specs.declared.predicate.Choices.{Choices}
use Rattle.ice_filter.specs.declared.predicate.Literal.{Literal}
use Rattle.ice_filter.specs.declared.predicate.Literal.TheVariants as literal
use Rattle.ice_filter.specs.declared.predicate.Question.{Question}
use Rattle.ice_filter.specs.declared.predicate.Question.TheVariants as question
use Rattle.ice_filter.specs.declared.predicate.Partial.{Partial}
use Rattle.ice_filter.specs.declared.predicate.Partial.TheVariants as partial
use Rattle.ice_filter.specs.declared.parser.Pending.{Pending}
use Rattle.ice_filter.specs.declared.parser.Place.TheVariants.{Wants, After, Inside}
use Rattle.ice_filter.specs.Grammar.{Written, truth, predicate, group, both, either, Limits, Level, unit, conj, filter}
use Rattle.ice_filter.specs.Grammar.{
  Stands,
  tokens_in,
  predicate_tokens,
  question_tokens,
  literal_token,
  in_tokens,
  dotted,
}
use Rattle.ice_filter.specs.Grammar.{listed, predicates_in, IsShort, IsShallow, IsWithin}
use Rattle.ice_filter.specs.Rebuilding.{Reading, put}
use Rattle.ice_filter.specs.Parsing.{literal_of, behind_column, behind_dot, compared, behind_not, behind_in, chosen}
use Rattle.ice_filter.specs.Parsing.{behind_listed, chosen_too, behind_is, behind_is_not, behind_starts, begun}
use Rattle.ice_filter.specs.Parsing.{
  predicate_step,
  joined,
  joined_and,
  opened,
  began,
  held,
  anded,
  ored,
  at_unit,
  closed,
}
use Rattle.ice_filter.specs.Parsing.{after_unit, moved, step, step_at, ended, finish, start, none}

-- The tokens of a text without their offsets, as a list of tokens with any offsets. Walking goes through them.
abbrev pub Walks : Limits → Reading → List Token → Reading → Type 0
Walks m s [] q = s ≡ q
Walks m s (t ∷ ts) q = (next : Reading) × ((at : ℕ) → step put m at s t ≡ Ok next) × Walks m next ts q

pub join : (m : Limits) (s q r : Reading) (ts us : List Token) → Walks m s ts q → Walks m q us r
    → Walks m s (ts ++ us) r
join m s q r [] us h k = rw h k
join m s q r (t ∷ ts) us h k = (h.0, h.1, join m h.0 q r ts us h.2 k)

one : (m : Limits) (s q : Reading) (t : Token) → ((at : ℕ) → step put m at s t ≡ Ok q) → Walks m s (t ∷ []) q
one m s q t h = (q, h, refl)

-- ---- a predicate

-- a state in a predicate
abbrev In : Reading → Partial → Reading
In s p = record s { place = Inside p }

abbrev Done : Reading → Predicate → Reading
Done s l = record s { place = After; read = predicate l ∷ s.read }

more_names : (m : Limits) (s : Reading) (first : List ℕ) (front more : List (List ℕ))
    → Walks m (In s (partial.Column (record { first = first; more = front }))) (flat_map dotted more)
    (In s (partial.Column (record { first = first; more = front ++ more })))
unfolding step step_at predicate_step behind_column behind_dot moved
more_names m s first front [] = rw (append-nil front) refl
more_names m s first front (n ∷ more) =
    let c : Column = record { first = first; more = front } in
    let k : (front ++ n ∷ []) ++ more ≡ front ++ n ∷ more = append_assoc front (n ∷ []) more in
    let later = more_names m s first (front ++ n ∷ []) more in (
      In s (partial.Dot c),
      λ at. refl,
      (
        In s (partial.Column (record { first = first; more = front ++ n ∷ [] })),
        λ at.
            refl,
        rw k at later,
      ),
    )

takes_literal : (l : Literal) → literal_of (literal_token l) ≡ Some l
unfolding literal_of
takes_literal (literal.Truth b) = refl
takes_literal (literal.Number n) = refl
takes_literal (literal.Text t) = refl
takes_literal (literal.Bytes b) = refl

room : (a n : ℕ) → a < n → nat_lt a n ≡ true
room a n h = search (rules, h)

more_literals : (m : Limits) (s : Reading) (c : Column) (n : Bool) (first : Literal) (front more : List Literal)
    → length front + length more < m.literals
    → Walks m (In s (partial.Listed c n (record { first = first; more = front }))) (flat_map listed more)
    (In s (partial.Listed c n (record { first = first; more = front ++ more })))
unfolding step step_at predicate_step behind_listed chosen_too moved
more_literals m s c n first front [] h = rw (append-nil front) refl
more_literals m s c n first front (l ∷ more) h =
    let ls : Choices = record { first = first; more = front } in
    let k : (front ++ l ∷ []) ++ more ≡ front ++ l ∷ more = append_assoc front (l ∷ []) more in
    let e : nat_lt (length front + 1) m.literals ≡ true = room (length front + 1) m.literals (omega arith) in
    let later = more_literals m s c n first (front ++ l ∷ []) more (simp length-append (omega arith)) in (
      In s (partial.Comma c n ls),
      λ at. refl,
      (
        In s (partial.Listed c n (record { first = first; more = front ++ l ∷ [] })),
        λ at. rw (takes_literal l, e)
            refl,
        rw k at later,
      ),
    )

in_words : (m : Limits) (s : Reading) (c : Column) (n : Bool)
    → Walks m (In s (partial.Column c)) (in_tokens n ++ token.Open ∷ []) (In s (partial.Open c n))
unfolding step step_at predicate_step behind_column behind_not behind_in moved
in_words m s c false = (In s (partial.In c false), λ at. refl, (In s (partial.Open c false), λ at. refl, refl))
in_words m s c true = (
  In s (partial.Not c),
  λ at. refl,
  (
    In s (partial.In c true),
    λ at. refl,
    (In s (partial.Open c true), λ at. refl, refl),
  ),
)

asks : (m : Limits) (s : Reading) (c : Column) (q : Question) → IsShort m.literals q
    → Walks m (In s (partial.Column c)) (question_tokens q) (Done s (record { column = c; question = q }))
unfolding step step_at predicate_step behind_column compared behind_is behind_is_not behind_starts begun moved held
    chosen
    behind_listed
asks m s c (question.Compare sign l) h = (
  In s (partial.Sign c sign),
  λ at. refl,
  (Done s (record { column = c; question = question.Compare sign l }), λ at. rw (takes_literal l) refl, refl),
)
asks m s c question.Missing h = (
  In s (partial.Is c),
  λ at. refl,
  (Done s (record { column = c; question = question.Missing }), λ at. refl, refl),
)
asks m s c question.Present h = (
  In s (partial.Is c),
  λ at. refl,
  (
    In s (partial.IsNot c),
    λ at. refl,
    (Done s (record { column = c; question = question.Present }), λ at. refl, refl),
  ),
)
asks m s c (question.Begins l) h = (
  In s (partial.Starts c),
  λ at. refl,
  (
    In s (partial.With c),
    λ at. refl,
    (Done s (record { column = c; question = question.Begins l }), λ at. rw (takes_literal l) refl, refl),
  ),
)
asks m s c (question.Among n ls) h =
    let fits : length ls.more < m.literals = h in
    let listing : Reading = In s (partial.Listed c n ls) in
    let first : Reading = In s (partial.Listed c n (record { first = ls.first; more = [] })) in
    let opened : Reading = In s (partial.Open c n) in
    let done : Reading = Done s (record { column = c; question = question.Among n ls }) in
    let begin : Walks m opened (literal_token ls.first ∷ []) first = (
      first,
      λ at. rw (takes_literal ls.first) refl,
      refl,
    ) in
    let rest : Walks m first (flat_map listed ls.more) listing = more_literals m s c n ls.first [] ls.more
    (omega arith) in
    let close : Walks m listing (token.Close ∷ []) done = (done, λ at. refl, refl) in
    let tail : List Token = flat_map listed ls.more ++ token.Close ∷ [] in
    let ended : Walks m first tail done = join m first listing done (flat_map listed ls.more) (token.Close ∷ []) rest
    close in
    let items : Walks m opened (literal_token ls.first ∷ tail) done = join m opened first done (literal_token ls.first ∷
    []) tail begin ended in
    let all : Walks m (In s (partial.Column c)) ((in_tokens n ++ token.Open ∷ []) ++ (literal_token ls.first ∷ tail))
    done = join m (In s (partial.Column c)) opened done (in_tokens n ++ token.Open ∷ []) (literal_token ls.first ∷
    tail) (in_words m s c n) items in
    let k : (in_tokens n ++ token.Open ∷ []) ++ (literal_token ls.first ∷ tail) ≡ in_tokens n ++ token.Open ∷
    (literal_token ls.first ∷ tail) = append_assoc (in_tokens n) (token.Open ∷ []) (literal_token ls.first ∷
    tail) in
    rw k at all

-- the walk through a whole predicate
predicate_walk : (m : Limits) (s : Reading) (l : Predicate) → s.place ≡ Wants → IsShort m.literals l.question
    → s.predicates < m.predicates → Walks m s (predicate_tokens l) (Done (record s { predicates = s.predicates + 1 }) l)
unfolding step step_at at_unit began
predicate_walk m s l p short some =
    let e : nat_lt s.predicates m.predicates ≡ true = room s.predicates m.predicates some in
    let s1 : Reading = record s { predicates = s.predicates + 1 } in
    let begin : Walks m s (token.Name l.column.first ∷ [])
    (In s1 (partial.Column (record { first = l.column.first; more = [] }))) =
    (In s1 (partial.Column (record { first = l.column.first; more = [] })), λ at. rw (p, e) refl, refl) in
    let at_first : Reading = In s1 (partial.Column (record { first = l.column.first; more = [] })) in
    let at_column : Reading = In s1 (partial.Column l.column) in
    let done : Reading = Done s1 l in
    let names : Walks m at_first (flat_map dotted l.column.more) at_column = more_names m s1 l.column.first []
    l.column.more in
    let asked : Walks m at_column (question_tokens l.question) done = asks m s1 l.column l.question short in
    let behind : Walks m at_first (flat_map dotted l.column.more ++ question_tokens l.question) done = join m at_first
    at_column done (flat_map dotted l.column.more) (question_tokens l.question) names asked in
    join m s at_first done (token.Name l.column.first ∷ []) (flat_map dotted l.column.more ++ question_tokens
    l.question) begin behind

-- ---- a filter

-- what an open filter and its operands are once a filter was read in it
abbrev pub Ended : Type 0
Ended = Pending × List Written

abbrev pub conj_ends : Written → Pending → List Written → Ended
conj_ends (both a u) p ts = (record { either = p.either; both = true }, u ∷ a ∷ ts)
conj_ends t p ts = (p, t ∷ ts)

abbrev pub ends : Written → Pending → List Written → Ended
ends (either a c) p ts = conj_ends c (record { either = true; both = false }) (a ∷ ts)
ends t p ts = conj_ends t p ts

and_joins : (c : Written) (e : Bool) (ts : List Written)
    → joined_and put (conj_ends c (record { either = e; both = false }) ts).0
    (conj_ends c (record { either = e; both = false }) ts).1 ≡ c ∷ ts
unfolding joined_and
and_joins (truth b) e ts = refl
and_joins (predicate l) e ts = refl
and_joins (group t) e ts = refl
and_joins (both s t) e ts = refl
and_joins (either s t) e ts = refl

keeps_either : (c : Written) (e : Bool) (ts : List Written)
    → (conj_ends c (record { either = e; both = false }) ts).0.either ≡ e
keeps_either (truth b) e ts = refl
keeps_either (predicate l) e ts = refl
keeps_either (group t) e ts = refl
keeps_either (both s t) e ts = refl
keeps_either (either s t) e ts = refl

or_joins_conj : (c : Written) (ts : List Written) → joined put (conj_ends c none ts).0 (conj_ends c none ts).1 ≡ c ∷ ts
unfolding joined joined_and
or_joins_conj (truth b) ts = refl
or_joins_conj (predicate l) ts = refl
or_joins_conj (group t) ts = refl
or_joins_conj (both s t) ts = refl
or_joins_conj (either s t) ts = refl

or_joins_more : (c a : Written) (ts : List Written)
    → joined put (conj_ends c (record { either = true; both = false }) (a ∷ ts)).0
    (conj_ends c (record { either = true; both = false }) (a ∷ ts)).1 ≡ either a c ∷ ts
unfolding joined joined_and
or_joins_more (truth b) a ts = refl
or_joins_more (predicate l) a ts = refl
or_joins_more (group t) a ts = refl
or_joins_more (both s t) a ts = refl
or_joins_more (either s t) a ts = refl

or_joins : (t : Written) (ts : List Written) → joined put (ends t none ts).0 (ends t none ts).1 ≡ t ∷ ts
or_joins (truth b) ts = or_joins_conj (truth b) ts
or_joins (predicate l) ts = or_joins_conj (predicate l) ts
or_joins (group t) ts = or_joins_conj (group t) ts
or_joins (both s t) ts = or_joins_conj (both s t) ts
or_joins (either a c) ts = or_joins_more c a ts

conj_as_ends : (t : Written) (p : Pending) (ts : List Written) → Stands conj t → ends t p ts ≡ conj_ends t p ts
conj_as_ends (truth b) p ts h = refl
conj_as_ends (predicate l) p ts h = refl
conj_as_ends (group t) p ts h = refl
conj_as_ends (both s t) p ts h = refl
conj_as_ends (either s t) p ts h = absurd h

unit_as_ends : (t : Written) (p : Pending) (ts : List Written) → Stands unit t → ends t p ts ≡ (p, t ∷ ts)
unit_as_ends (truth b) p ts h = refl
unit_as_ends (predicate l) p ts h = refl
unit_as_ends (group t) p ts h = refl
unit_as_ends (both s t) p ts h = absurd h
unit_as_ends (either s t) p ts h = absurd h

abbrev Before : Pending → List Pending → List Written → ℕ → Reading
Before p ps ts n = record { place = Wants; now = p; outer = ps; read = ts; predicates = n }

abbrev pub Behind : Ended → List Pending → ℕ → Reading
Behind e ps n = record { place = After; now = e.0; outer = ps; read = e.1; predicates = n }

-- no operand of the same level stands before
abbrev Clear : Level → Pending → Type 0
Clear unit p = Unit {0}
Clear conj p = p.both ≡ false
Clear filter p = p ≡ none

abbrev Walk : Limits → Written → Level → Type 0
Walk m t l = (p : Pending) (ps : List Pending) (ts : List Written) (n g : ℕ) → Stands l t → Clear l p
    → n + predicates_in t ≤ m.predicates → g + length ps ≡ m.groups → IsShallow g m.literals t
    → Walks m (Before p ps ts n) (tokens_in t) (Behind (ends t p ts) ps (n + predicates_in t))

truth_walk : (m : Limits) (b : Bool) (l : Level) → Walk m (truth b) l
unfolding step step_at at_unit held
truth_walk m b l p ps ts n g stands clear few room shallow =
    let e : n + 0 ≡ n = omega arith in
    rw e (one m (Before p ps ts n) (Behind (p, truth b ∷ ts) ps n) (token.Truth b) (λ at. refl))

group_walk : (m : Limits) (t : Written) (l : Level) → Walk m t filter → Walk m (group t) l
unfolding step step_at at_unit opened after_unit closed
group_walk m t l inner p ps ts n g stands clear few room_left shallow =
    let e : nat_lt (length ps) m.groups ≡ true = room (length ps) m.groups (omega (arith, shallow.0)) in
    let begin : Walks m (Before p ps ts n) (token.Open ∷ []) (Before none (p ∷ ps) ts n) = one m (Before p ps ts n)
    (Before none (p ∷ ps) ts n) token.Open (λ at. rw e refl) in
    let inside : Reading = Behind (ends t none ts) (p ∷ ps) (n + predicates_in t) in
    let after : Reading = Behind (p, group t ∷ ts) ps (n + predicates_in t) in
    let middle : Walks m (Before none (p ∷ ps) ts n) (tokens_in t) inside = inner none (p ∷ ps) ts n (g - 1) stands refl
    few (omega (arith, shallow.0)) shallow.1 in
    let close : Walks m inside (token.Close ∷ []) after = one m inside after token.Close (λ at. rw (or_joins t ts)
    refl) in
    let behind : Walks m (Before none (p ∷ ps) ts n) (tokens_in t ++ token.Close ∷ []) after =
    join m (Before none (p ∷ ps) ts n) inside after (tokens_in t) (token.Close ∷ []) middle close in
    join m (Before p ps ts n) (Before none (p ∷ ps) ts n) after (token.Open ∷ []) (tokens_in t ++ token.Close ∷ [])
    begin behind

both_walk : (m : Limits) (a u : Written) → Walk m a conj → Walk m u unit
    → (e : Bool) (ps : List Pending) (ts : List Written) (n g : ℕ) → Stands conj a → Stands unit u
    → n + (predicates_in a + predicates_in u) ≤ m.predicates → g + length ps ≡ m.groups → IsShallow g m.literals a
    → IsShallow g m.literals u
    → Walks m (Before (record { either = e; both = false }) ps ts n) (tokens_in a ++ token.And ∷ tokens_in u)
    (Behind (record { either = e; both = true }, u ∷ a ∷ ts) ps (n + (predicates_in a + predicates_in u)))
unfolding step step_at after_unit anded
both_walk m a u left right e ps ts n g sa su few room_left ha hu =
    let p : Pending = record { either = e; both = false } in
    let q : Pending = record { either = e; both = true } in
    let s0 : Reading = Before p ps ts n in
    let s1 : Reading = Behind (conj_ends a p ts) ps (n + predicates_in a) in
    let s2 : Reading = Before q ps (a ∷ ts) (n + predicates_in a) in
    let s3 : Reading = Behind (q, u ∷ a ∷ ts) ps (n + (predicates_in a + predicates_in u)) in
    let first : Walks m s0 (tokens_in a) s1 = rw (conj_as_ends a p ts sa) at (left p ps ts n g sa refl (omega arith)
    room_left ha) in
    let sign : Walks m s1 (token.And ∷ []) s2 = one m s1 s2 token.And (λ at. rw (and_joins a e ts, keeps_either a e ts)
    refl) in
    let more : n + predicates_in a + predicates_in u ≡ n + (predicates_in a + predicates_in u) = omega arith in
    let second : Walks m s2 (tokens_in u) s3 = rw (unit_as_ends u q (a ∷ ts) su, more) at
    (right q ps (a ∷ ts) (n + predicates_in a) g su tt (omega arith) room_left hu) in
    join m s0 s1 s3 (tokens_in a) (token.And ∷ tokens_in u) first (join m s1 s2 s3 (token.And ∷ []) (tokens_in u) sign
    second)

either_walk : (m : Limits) (a c : Written) → Walk m a filter → Walk m c conj
    → (ps : List Pending) (ts : List Written) (n g : ℕ) → Stands filter a → Stands conj c
    → n + (predicates_in a + predicates_in c) ≤ m.predicates → g + length ps ≡ m.groups → IsShallow g m.literals a
    → IsShallow g m.literals c
    → Walks m (Before none ps ts n) (tokens_in a ++ token.Or ∷ tokens_in c)
    (Behind (conj_ends c (record { either = true; both = false }) (a ∷ ts)) ps
    (n + (predicates_in a + predicates_in c)))
unfolding step step_at after_unit ored
either_walk m a c left right ps ts n g sa sc few room_left ha hc =
    let q : Pending = record { either = true; both = false } in
    let s0 : Reading = Before none ps ts n in
    let s1 : Reading = Behind (ends a none ts) ps (n + predicates_in a) in
    let s2 : Reading = Before q ps (a ∷ ts) (n + predicates_in a) in
    let s3 : Reading = Behind (conj_ends c q (a ∷ ts)) ps (n + (predicates_in a + predicates_in c)) in
    let first : Walks m s0 (tokens_in a) s1 = left none ps ts n g sa refl (omega arith) room_left ha in
    let sign : Walks m s1 (token.Or ∷ []) s2 = one m s1 s2 token.Or (λ at. rw (or_joins a ts) refl) in
    let more : n + predicates_in a + predicates_in c ≡ n + (predicates_in a + predicates_in c) = omega arith in
    let second : Walks m s2 (tokens_in c) s3 = rw (conj_as_ends c q (a ∷ ts) sc, more) at
    (right q ps (a ∷ ts) (n + predicates_in a) g sc refl (omega arith) room_left hc) in
    join m s0 s1 s3 (tokens_in a) (token.Or ∷ tokens_in c) first (join m s1 s2 s3 (token.Or ∷ []) (tokens_in c) sign
    second)

walk : (m : Limits) (t : Written) (l : Level) → Walk m t l
walk m (truth b) l = truth_walk m b l
walk m (predicate x) l = λ p ps ts n g stands clear few room_left shallow. predicate_walk m
    (Before p ps ts n) x refl shallow
    (omega arith)
walk m (group t) l = group_walk m t l (walk m t filter)
walk m (both a u) unit = λ p ps ts n g stands clear few room_left shallow. absurd stands
walk m (both a u) conj = λ p ps ts n g stands clear few room_left shallow.
    let k : record { either = p.either; both = false } ≡ p = rw (← clear) refl in
    let all = both_walk m a u (walk m a conj) (walk m u unit) p.either ps ts n g stands.0 stands.1 few room_left
    shallow.0 shallow.1 in
    rw k at all
walk m (both a u) filter = λ p ps ts n g stands clear few room_left shallow.
    rw clear (both_walk m a u (walk m a conj) (walk m u unit) false ps ts n g stands.0 stands.1 few room_left shallow.0
    shallow.1)
walk m (either a c) unit = λ p ps ts n g stands clear few room_left shallow. absurd stands
walk m (either a c) conj = λ p ps ts n g stands clear few room_left shallow. absurd stands
walk m (either a c) filter = λ p ps ts n g stands clear few room_left shallow.
    rw clear (either_walk m a c (walk m a filter) (walk m c conj) ps ts n g stands.0 stands.1 few room_left shallow.0
    shallow.1)

-- a filter within the limits is walked through
pub filter_walk : (m : Limits) (t : Written) → Stands filter t → IsWithin m t
    → Walks m (start []) (tokens_in t) (Behind (ends t none []) [] (predicates_in t))
filter_walk m t stands within =
    let e : 0 + predicates_in t ≡ predicates_in t = omega arith in
    let w : Walks m (start []) (tokens_in t)
    (Behind (ends t none []) [] (0 + predicates_in t)) = walk m t filter none [] []
    0 m.groups stands refl (omega (arith, within.few)) (omega arith) within.shallow in
    rw e at w

-- and there the reading ends with it
pub filter_ends : (end : ℕ) (t : Written) → finish put end (Behind (ends t none []) [] (predicates_in t)) ≡ Ok (t ∷ [])
unfolding finish ended
filter_ends end t = rw (or_joins t []) refl
