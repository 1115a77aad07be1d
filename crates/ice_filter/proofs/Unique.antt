-- A text is one thing alone: one filter, or one refusal.
use Rattle.std.proofs.Common.{◌≡◌, ℕ, List, [], ◌∷◌, ◌++◌, Result, Ok, Err, inl, inr, ◌⊎◌, refl, sym, ◌∙◌, ap}
use Rattle.std.proofs.Common.{append_assoc, arith}
use Rattle.std.proofs.lemmas.List.{append-nil}
use Rattle.ice_filter.specs.declared.fault.FilterFault.{FilterFault}
use Rattle.ice_filter.specs.declared.fault.FilterFault.TheVariants.{Syntax, TooBig, NoSuchColumn, WrongLiteral}
use Rattle.ice_filter.specs.declared.fault.FilterFault.TheVariants.{NotComparable, Memory}
use Rattle.ice_filter.specs.declared.token.Token.{Token}
use Rattle.ice_filter.specs.declared.token.Token.TheVariants as token
use Rattle.ice_filter.specs.declared.predicate.Predicate.{Predicate}
use Rattle.ice_filter.specs.Trees.{Tree}
use Rattle.ice_filter.specs.Grammar.{Written, truth, predicate, group, both, either, unit, conj, filter, Stands, Says}
use Rattle.ice_filter.specs.Grammar.{tokens_in, predicates_in, bare, IsWithin, Limits, limits, Begins, BeginsWithin}
use Rattle.ice_filter.specs.Grammar.{IsInLimits, IsMisplaced, PassesLimit, Reads, words}
use Rattle.ice_filter.specs.Parsing.{finish, start, none}
use Rattle.ice_filter.specs.Rebuilding.{Reading, put}
use Rattle.ice_filter.proofs.Complete.{Walks, Behind, ends, filter_walk, filter_ends}
use Rattle.ice_filter.proofs.Steps.{IsUp}
use Rattle.ice_filter.proofs.Halts.{apart, roomy, roomy_up, roomy_within, shallow_more}

-- ---- one filter

same_end : (p q : Reading) (t u : Written) → p ≡ q → finish put 0 p ≡ Ok (t ∷ []) → finish put 0 q ≡ Ok (u ∷ []) → t ≡ u
same_end p q t u e f g = let same : finish put 0 p ≡ finish put 0 q = ap (λ x. finish put 0 x) e in cc

within_both : (m : Limits) (t u : Written) → IsWithin m t → IsUp m (roomy m u) → IsWithin (roomy m u) t
within_both m t u h up = record {
  few = omega (arith, h.few, up.predicates);
  shallow = shallow_more t m.groups
      (roomy m u).groups m.literals (roomy m u).literals up.groups up.literals h.shallow;
}

pub one_filter : (ts : List Token) (t u : Written) → Says ts t → Says ts u → t ≡ u
one_filter ts t u h k =
    let m : Limits = roomy limits t in
    let n : Limits = roomy m u in
    let wt : Walks n (start []) (tokens_in t) (Behind (ends t none []) [] (predicates_in t)) = filter_walk n t h.stands
    (within_both m t u (roomy_within limits t) (roomy_up m u)) in
    let wu : Walks n (start []) (tokens_in u) (Behind (ends u none []) [] (predicates_in u)) = filter_walk n u k.stands
    (roomy_within m u) in
    let vt : Walks n (start []) ts (Behind (ends t none []) [] (predicates_in t)) = rw h.spelled wt in
    let vu : Walks n (start []) (ts ++ []) (Behind (ends u none []) [] (predicates_in u)) = rw
    (append-nil ts, k.spelled)
    wu in
    same_end (Behind (ends t none []) [] (predicates_in t)) (Behind (ends u none []) [] (predicates_in u)) t u
    (apart n ts [] (start []) (Behind (ends t none []) [] (predicates_in t))
    (Behind (ends u none []) [] (predicates_in u))
    vt vu) (filter_ends 0 t) (filter_ends 0 u)

stands_up : (t : Written) → Stands unit t → Stands conj t × Stands filter t
stands_up (truth b) h = (h, h)
stands_up (predicate l) h = (h, h)
stands_up (group t) h = (h, h)
stands_up (both s t) h = absurd h
stands_up (either s t) h = absurd h

-- `and` binds closer than `or`
pub and_is_closer : (a b c t : Written) → Stands unit a → Stands unit b → Stands unit c
    → Says (tokens_in a ++ token.Or ∷ (tokens_in b ++ token.And ∷ tokens_in c)) t → t ≡ either a (both b c)
and_is_closer a b c t ha hb hc says =
    one_filter (tokens_in a ++ token.Or ∷ (tokens_in b ++ token.And ∷ tokens_in c)) t (either a (both b c)) says
    (record { stands = ((stands_up a ha).1, ((stands_up b hb).0, hc)); spelled = refl })

-- ---- one refusal

-- two places in one list
abbrev Places : {A : Type 0} → List A → A → List A → A → Type 0
Places {A} f x g y = (((f ≡ g) × (x ≡ y)) ⊎ ((k : List A) × (g ≡ f ++ x ∷ k))) ⊎ ((k : List A) × (f ≡ g ++ y ∷ k))

further : {A : Type 0} (a b : A) (f g : List A) (x y : A) → a ≡ b → Places f x g y → Places (a ∷ f) x (b ∷ g) y
further a b f g x y e (inl (inl h)) = inl (inl (ap (λ z. z ∷ f) e ∙ ap (λ z. b ∷ z) h.0, h.1))
further a b f g x y e (inl (inr h)) = inl (inr (h.0, ap (λ z. z ∷ g) (sym e) ∙ ap (λ z. a ∷ z) h.1))
further a b f g x y e (inr h) = inr (h.0, ap (λ z. z ∷ f) e ∙ ap (λ z. b ∷ z) h.1)

places : {A : Type 0} (f g r s : List A) (x y : A) → f ++ x ∷ r ≡ g ++ y ∷ s → Places f x g y
places [] [] r s x y e = inl (inl (refl, cc))
places [] (b ∷ g) r s x y e = inl (inr (g, let h : x ≡ b = cc in ap (λ z. z ∷ g) (sym h)))
places (a ∷ f) [] r s x y e = inr (f, let h : a ≡ y = cc in ap (λ z. z ∷ f) h)
places (a ∷ f) (b ∷ g) r s x y e = let h : a ≡ b = cc in let t : f ++ x ∷ r ≡ g ++ y ∷ s = cc in further a b f g x y h
    (places f g r s x y t)

begins_front : (p q : List Token) → Begins (p ++ q) → Begins p
begins_front p q b = (q ++ b.0, b.1, record { stands = b.2.stands; spelled = sym (append_assoc p q b.0) ∙ b.2.spelled })

within_front : (m : Limits) (p q : List Token) → BeginsWithin m (p ++ q) → BeginsWithin m p
within_front m p q b = (
  q ++ b.0,
  b.1,
  (
    record {
      stands = b.2.0.stands;
      spelled = sym (append_assoc p q b.0) ∙
          b.2.0.spelled;
    },
    b.2.1,
  ),
)

before_last : {A : Type 0} (p b : List A) (z c : A) (zs : List A) → p ++ z ∷ zs ≡ b ++ c ∷ []
    → (k : List A) × (b ≡ p ++ k)
before_last [] b z c zs e = (b, refl)
before_last (a ∷ []) [] z c zs e = absurd cc
before_last (a ∷ d ∷ p) [] z c zs e = absurd cc
before_last (a ∷ p) (d ∷ b) z c zs e =
    let h : d ≡ a = cc in
    let t : p ++ z ∷ zs ≡ b ++ c ∷ [] = cc in
    let r = before_last p b z c zs t in
    (r.0, ap (λ x. x ∷ b) h ∙ ap (λ x. a ∷ x) r.1)

limits_front : (m : Limits) (p q : List Token) → IsInLimits m (p ++ q) → IsInLimits m p
limits_front m p q (inl b) = inl (within_front m p q b)
limits_front m p [] (inr b) = inr (b.0, (sym (append-nil p) ∙ b.1.0, b.1.1))
limits_front m p (z ∷ zs) (inr b) =
    let r = before_last p b.0 z token.Comma zs b.1.0 in
    inl (within_front m p r.0 (rw r.1 at b.1.1))

words_split : (f r : List (ℕ × Token)) (x : ℕ × Token) → words (f ++ x ∷ r) ≡ (words f ++ x.1 ∷ []) ++ words r
words_split [] r x = refl
words_split (a ∷ f) r x = ap (λ (w : List Token). a.1 ∷ w) (words_split f r x)

-- a token that cannot stand is not in front of what begins a filter
not_in_front : (m : Limits) (ts : List (ℕ × Token)) (at : ℕ) (h : IsMisplaced m ts at) (g k : List (ℕ × Token))
    → g ≡ h.front ++ (at, h.next) ∷ k → Begins (words g) → ⊥
not_in_front m ts at h g k e b =
    let w : words g ≡ (words h.front ++ h.next ∷ []) ++ words k = rw e (words_split h.front k (at, h.next)) in
    h.misplaced (begins_front (words h.front ++ h.next ∷ []) (words k) (rw w at b))

not_in_limits : (m : Limits) (ts : List (ℕ × Token)) (h : PassesLimit m ts) (g k : List (ℕ × Token))
    → g ≡ h.front ++ (h.at, h.next) ∷ k → IsInLimits m (words g) → ⊥
not_in_limits m ts h g k e b =
    let w : words g ≡ (words h.front ++ h.next ∷ []) ++ words k = rw e (words_split h.front k (h.at, h.next)) in
    h.over (limits_front m (words h.front ++ h.next ∷ []) (words k) (rw w at b))

words_snoc : (f : List (ℕ × Token)) (x : ℕ × Token) → words (f ++ x ∷ []) ≡ words f ++ x.1 ∷ []
words_snoc [] x = refl
words_snoc (a ∷ f) x = ap (λ (w : List Token). a.1 ∷ w) (words_snoc f x)

two_misplaced : (m : Limits) (ts : List (ℕ × Token)) (a b : ℕ) (h : IsMisplaced m ts a) (k : IsMisplaced m ts b)
    → Places h.front (a, h.next) k.front (b, k.next) → a ≡ b
two_misplaced m ts a b h k (inl (inl e)) = ap (λ x. x.0) e.1
two_misplaced m ts a b h k (inl (inr e)) = absurd (not_in_front m ts a h k.front e.0 e.1 k.begins)
two_misplaced m ts a b h k (inr e) = absurd (not_in_front m ts b k h.front e.0 e.1 h.begins)

misplaced_or_big : (m : Limits) (ts : List (ℕ × Token)) (a : ℕ) (h : IsMisplaced m ts a) (k : PassesLimit m ts)
    → Places h.front (a, h.next) k.front (k.at, k.next) → ⊥
misplaced_or_big m ts a h k (inl (inl e)) =
    let n : h.next ≡ k.next = ap (λ x. x.1) e.1 in
    h.misplaced (rw (e.0, n) k.begins)
misplaced_or_big m ts a h k (inl (inr e)) =
    not_in_front m ts a h (k.front ++ (k.at, k.next) ∷ []) (e.0 ++ (k.at, k.next) ∷ [])
    (rw e.1 (append_assoc h.front ((a, h.next) ∷ e.0) ((k.at, k.next) ∷ [])))
    (rw (words_snoc k.front (k.at, k.next)) k.begins)
misplaced_or_big m ts a h k (inr e) = not_in_limits m ts k h.front e.0 e.1 h.fits

says_begins : (ts : List Token) (t : Written) → Says ts t → Begins ts
says_begins ts t h = ([], t, record { stands = h.stands; spelled = append-nil ts ∙ h.spelled })

says_within : (m : Limits) (ts : List Token) (t : Written) → Says ts t → IsWithin m t → IsInLimits m ts
says_within m ts t h w = inl ([], t, (record { stands = h.stands; spelled = append-nil ts ∙ h.spelled }, w))

pub one_reading : (m : Limits) (end : ℕ) (ts : List (ℕ × Token)) (r q : Result (Tree Predicate) FilterFault)
    → Reads m end ts r → Reads m end ts q → r ≡ q
one_reading m end ts (Ok f) (Ok g) h k = let e : h.0 ≡ k.0 = one_filter (words ts) h.0 k.0 h.1.0 k.1.0 in
    ap Ok (h.1.2 ∙ ap bare e ∙ sym k.1.2)
one_reading m end ts (Ok f) (Err (Syntax b)) h (inl k) = absurd (not_in_front m ts b k ts k.rest k.split
    (says_begins (words ts) h.0 h.1.0))
one_reading m end ts (Ok f) (Err (Syntax b)) h (inr k) = absurd (k.1.unfinished h.0 h.1.0)
one_reading m end ts (Ok f) (Err TooBig) h k = absurd (not_in_limits m ts k ts k.rest k.split (says_within m (words ts)
    h.0 h.1.0 h.1.1))
one_reading m end ts (Err (Syntax a)) (Ok f) (inl h) k = absurd (not_in_front m ts a h ts h.rest h.split
    (says_begins (words ts) k.0 k.1.0))
one_reading m end ts (Err (Syntax a)) (Ok f) (inr h) k = absurd (h.1.unfinished k.0 k.1.0)
one_reading m end ts (Err TooBig) (Ok f) h k = absurd (not_in_limits m ts h ts h.rest h.split (says_within m (words ts)
    k.0 k.1.0 k.1.1))
one_reading m end ts (Err (Syntax a)) (Err (Syntax b)) (inl h) (inl k) =
    ap (λ (x : ℕ). Err (Syntax x)) (two_misplaced m ts a b h k (places h.front k.front h.rest k.rest (a, h.next)
    (b, k.next) (sym h.split ∙ k.split)))
one_reading m end ts (Err (Syntax a)) (Err (Syntax b)) (inl h) (inr k) = absurd (not_in_front m ts a h ts h.rest h.split
    k.1.begins)
one_reading m end ts (Err (Syntax a)) (Err (Syntax b)) (inr h) (inl k) = absurd (not_in_front m ts b k ts k.rest k.split
    h.1.begins)
one_reading m end ts (Err (Syntax a)) (Err (Syntax b)) (inr h) (inr k) = ap (λ (x : ℕ). Err (Syntax x)) (h.0 ∙ sym k.0)
one_reading m end ts (Err (Syntax a)) (Err TooBig) (inl h) k =
    absurd (misplaced_or_big m ts a h k (places h.front k.front h.rest k.rest (a, h.next) (k.at, k.next)
    (sym h.split ∙ k.split)))
one_reading m end ts (Err (Syntax a)) (Err TooBig) (inr h) k = absurd (not_in_limits m ts k ts k.rest k.split h.1.fits)
one_reading m end ts (Err TooBig) (Err (Syntax b)) h (inl k) =
    absurd (misplaced_or_big m ts b k h (places k.front h.front k.rest h.rest (b, k.next) (h.at, h.next)
    (sym k.split ∙ h.split)))
one_reading m end ts (Err TooBig) (Err (Syntax b)) h (inr k) = absurd (not_in_limits m ts h ts h.rest h.split k.1.fits)
one_reading m end ts (Err TooBig) (Err TooBig) h k = refl
one_reading m end ts (Err NoSuchColumn) q h k = absurd h
one_reading m end ts (Err WrongLiteral) q h k = absurd h
one_reading m end ts (Err NotComparable) q h k = absurd h
one_reading m end ts (Err Memory) q h k = absurd h
one_reading m end ts (Ok f) (Err NoSuchColumn) h k = absurd k
one_reading m end ts (Ok f) (Err WrongLiteral) h k = absurd k
one_reading m end ts (Ok f) (Err NotComparable) h k = absurd k
one_reading m end ts (Ok f) (Err Memory) h k = absurd k
one_reading m end ts (Err (Syntax a)) (Err NoSuchColumn) h k = absurd k
one_reading m end ts (Err (Syntax a)) (Err WrongLiteral) h k = absurd k
one_reading m end ts (Err (Syntax a)) (Err NotComparable) h k = absurd k
one_reading m end ts (Err (Syntax a)) (Err Memory) h k = absurd k
one_reading m end ts (Err TooBig) (Err NoSuchColumn) h k = absurd k
one_reading m end ts (Err TooBig) (Err WrongLiteral) h k = absurd k
one_reading m end ts (Err TooBig) (Err NotComparable) h k = absurd k
one_reading m end ts (Err TooBig) (Err Memory) h k = absurd k
