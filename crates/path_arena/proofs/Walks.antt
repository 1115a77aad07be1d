-- A number that is put where a string's walk ends is on that walk, and the other walks stay.
use Rattle.std.proofs.Common.{◌≡◌, Bool, true, false, not, ◌≢◌, ℕ, zero, suc, ◌+◌, ◌-◌, ◌<◌, ◌≤◌, ◌==◌}
use Rattle.std.proofs.Common.{if◌then◌else◌, ◌⊎◌, inl, inr, List, [], ◌∷◌, ◌++◌, length, set, slice_index_or, refl, sym}
use Rattle.std.proofs.Common.{ap, ◌∙◌, subst, arith, length-append, length-set, get_or-set_same, get_or-set_other}
use Rattle.std.proofs.lemmas.List.{get_or_default}
use Rattle.path_arena.specs.declared.index.Node.{Node}
use Rattle.path_arena.specs.declared.index.Link.{Link}
use Rattle.path_arena.specs.declared.index.Link.TheVariants.{Top, Below}
use Rattle.path_arena.specs.Hashing.{hash_of}
use Rattle.path_arena.specs.Trees.{hashes_of, no_node, Trees, turns_right, bucket, top_link, side, link_below, onward}
use Rattle.path_arena.specs.Trees.{walk, led_to}
use Rattle.path_arena.specs.Trees.{Reaches, LieOnWalks, KeepsLinks, Stands, Takes, EndsAt, IsIndex}

pub length-hashes : (ns : List Node) → length (hashes_of ns) ≡ length ns
length-hashes [] = refl
length-hashes (n ∷ ns) = ap suc (length-hashes ns)

pub hashes_push : (ns : List Node) (n : Node) → hashes_of (ns ++ n ∷ []) ≡ hashes_of ns ++ n.hash ∷ []
hashes_push [] n = refl
hashes_push (k ∷ ns) n = ap (λ hs. k.hash ∷ hs) (hashes_push ns n)

pub hash_index : (ns : List Node) (i : ℕ) → slice_index_or (hashes_of ns) i 0 ≡ (slice_index_or ns i no_node).hash
hash_index [] i = refl
hash_index (n ∷ ns) zero = refl
hash_index (n ∷ ns) (suc i) = hash_index ns i

-- a node's links change, and not its hash
pub hashes_set : (ns : List Node) (i : ℕ) (n : Node) → n.hash ≡ (slice_index_or ns i no_node).hash
    → hashes_of (set ns i n) ≡ hashes_of ns
hashes_set [] i n e = refl
hashes_set (k ∷ ns) zero n e = ap (λ h. h ∷ hashes_of ns) e
hashes_set (k ∷ ns) (suc i) n e = ap (λ hs. k.hash ∷ hs) (hashes_set ns i n e)

pub at_push : {X : Type 0} (d x : X) (xs : List X) (i : ℕ) → i < length xs
    → slice_index_or (xs ++ x ∷ []) i d ≡ slice_index_or xs i d
at_push d x [] i lt = absurd (omega arith)
at_push d x (y ∷ ys) zero lt = refl
at_push d x (y ∷ ys) (suc i) lt = at_push d x ys i (omega arith)

pub at_last : {X : Type 0} (d x : X) (xs : List X) (i : ℕ) → i ≡ length xs → slice_index_or (xs ++ x ∷ []) i d ≡ x
at_last d x [] zero e = refl
at_last d x [] (suc i) e = absurd (omega arith)
at_last d x (y ∷ ys) zero e = absurd (omega arith)
at_last d x (y ∷ ys) (suc i) e = at_last d x ys i (omega arith)

-- a node without links is as good as none
pub push_none : (right : Bool) (ns : List Node) (n : Node) (i : ℕ) → n.left ≡ 0 → n.right ≡ 0
    → side right (slice_index_or (ns ++ n ∷ []) i no_node) ≡ side right (slice_index_or ns i no_node)
push_none true [] n zero l r = r
push_none false [] n zero l r = l
push_none right [] n (suc i) l r = refl
push_none right (k ∷ ns) n zero l r = refl
push_none right (k ∷ ns) n (suc i) l r = push_none right ns n i l r

pub below_or_same : (k n : ℕ) → k < n + 1 → (k < n) ⊎ (k ≡ n)
below_or_same zero zero lt = inr refl
below_or_same zero (suc n) lt = inl (omega arith)
below_or_same (suc k) zero lt = absurd (omega arith)
below_or_same (suc k) (suc n) lt =
    elim (below_or_same k n (omega arith)) [ inl h ↦ inl (omega arith) | inr e ↦ inr (ap suc e) ]

pub same_or_not : (a b : ℕ) → (a ≡ b) ⊎ (a ≢ b)
same_or_not zero zero = inl refl
same_or_not zero (suc b) = inr (λ e. absurd (omega arith))
same_or_not (suc a) zero = inr (λ e. absurd (omega arith))
same_or_not (suc a) (suc b) = elim (same_or_not a b) [ inl e ↦ inl (ap suc e) | inr ne ↦ inr (λ e. ne (omega arith)) ]

-- what was read of a number
pub node_read : (tops : List ℕ) (ns : List Node) (i : ℕ) (n : Node) (right : Bool) → i < length ns
    → n ≡ slice_index_or ns i n → IsIndex tops ns
    → (side right n ≤ length ns) × (0 < side right n → i + 1 < side right n)
node_read tops ns i n right lt e w =
    let same : slice_index_or ns i no_node ≡ n = sym (e ∙ get_or_default ns i n no_node lt) in
    subst (λ k. (side right k ≤ length ns) × (0 < side right k → i + 1 < side right k)) same
    (w.nodes_lead i right, w.later i right)

-- one step from a link
onward_kept : (t u : Trees) (right : Bool) (a b : ℕ) → KeepsLinks t u → (0 < a → b ≡ a) → 0 < onward t right a
    → onward u right b ≡ onward t right a
onward_kept t u right zero b k e more = absurd (omega arith)
onward_kept t u right (suc a) b k e more = ap (onward u right) (e (omega arith)) ∙ k.below a right more

-- where a walk is at a number it stays
pub walk_kept : (t u : Trees) (s : List ℕ) (d : ℕ) → KeepsLinks t u → 0 < walk t s d → walk u s d ≡ walk t s d
walk_kept t u s zero k more = k.tops (hash_of s) more
walk_kept t u s (suc d) k more =
    onward_kept t u (turns_right s d) (walk t s d) (walk u s d) k (walk_kept t u s d k) more

pub reaches_kept : (t u : Trees) (s : List ℕ) (i : ℕ) → KeepsLinks t u → Reaches t s i → Reaches u s i
reaches_kept t u s i k r = (r.0, walk_kept t u s r.0 k (omega (arith, r.1)) ∙ r.1)

pub walks_kept : (t u : Trees) (ss : List (List ℕ)) → KeepsLinks t u → LieOnWalks t ss → LieOnWalks u ss
walks_kept t u ss k w i lt = reaches_kept t u (slice_index_or ss i []) i k (w i lt)

-- the same links, whatever places there are
pub walks_same : (t u : Trees) (ss : List (List ℕ)) → u.tops ≡ t.tops → u.nodes ≡ t.nodes → LieOnWalks t ss
    → LieOnWalks u ss
walks_same t u ss tops nodes =
    walks_kept t u ss (record {
      tops = λ hash _. ap (λ l. slice_index_or l (bucket (length l) hash) 0) tops;
      below = λ i right _. ap (λ l. side right (slice_index_or l i no_node)) nodes;
    })

-- a string more, which its walk comes to
pub walks_push : (t u : Trees) (ss : List (List ℕ)) (s : List ℕ) (n : ℕ) → n ≡ length ss → KeepsLinks t u
    → Reaches u s n → LieOnWalks t ss → LieOnWalks u (ss ++ s ∷ [])
walks_push t u ss s n e k r w i lt =
    elim (below_or_same i (length ss) (omega (arith, lt, length-append ss (s ∷ [])))) [
      | inl low ↦ subst (λ l. Reaches u l i) (sym (at_push [] s ss i low))
          (reaches_kept t u (slice_index_or ss i []) i k (w i low))
      | inr same ↦ subst (λ (p : List ℕ × ℕ). Reaches u p.0 p.1) (λ j. (
        sym (at_last [] s ss i same) j,
        (e ∙ sym same) j,
      )) r
    ]

-- a walk that has ended stays so
pub walk_over : (t : Trees) (s : List ℕ) (d e : ℕ) → walk t s d ≡ 0 → d ≤ e → walk t s e ≡ 0
walk_over t s d zero w le = let none : zero ≡ d = omega arith in ap (walk t s) none ∙ w
walk_over t s d (suc e) w le = elim (below_or_same d (suc e) (omega arith)) [
  | inl low ↦ ap (onward t (turns_right s e)) (walk_over t s d e w (omega arith))
  | inr same ↦ ap (walk t s) (sym same) ∙ w
]

-- a walk on its way to its end: the link that it took last, and where that leads
pub record Goes (t : Trees) (s : List ℕ) (depth : ℕ) (link : Link) (next : ℕ) : Type 0 where
  pub here : next ≡ walk t s depth
  pub led : next ≡ led_to t (hash_of s) link
  pub stands : Stands t link
  pub taken : Takes t s link
  pub within : next ≤ length t.nodes
  pub later : 0 < next → depth < next

pub goes_first : (t : Trees) (s : List ℕ) (next : ℕ) → next ≡ top_link t (hash_of s) → next ≤ length t.nodes
    → Goes t s 0 Top next
goes_first t s next e le = record {
  here = e;
  led = e;
  stands = tt;
  taken = tt;
  within = le;
  later = λ more. omega arith;
}

pub onward_at : (t : Trees) (right : Bool) (link i : ℕ) → link ≡ i + 1 → onward t right link ≡ link_below t i right
onward_at t right link i e = let one : link ≡ suc i = omega arith in ap (onward t right) one

pub goes_on : (t : Trees) (s : List ℕ) (depth next further : ℕ) (link : Link) (right : Bool)
    → Goes t s depth link next → 0 < next → right ≡ turns_right s depth
    → further ≡ link_below t (next - 1) right → further ≤ length t.nodes → (0 < further → next < further)
    → Goes t s (depth + 1) (Below (next - 1) right) further
goes_on t s depth next further link right g more turn e le later =
    let one : depth + 1 ≡ suc depth = omega arith in
    let at : walk t s depth ≡ next - 1 + 1 = sym g.here ∙ omega arith in
    record {
      here = e ∙ ap (link_below t (next - 1)) turn
          ∙ sym (onward_at t (turns_right s depth) (walk t s depth) (next - 1) at) ∙ ap (walk t s) (sym one);
      led = e;
      stands = omega (arith, g.within);
      taken = (depth, at, sym turn);
      within = le;
      later = λ any. omega (arith, later any, g.later more);
    }

pub goes_over : (t : Trees) (s : List ℕ) (depth next : ℕ) (link : Link) → Goes t s depth link next → next ≤ 0
    → EndsAt t s link
goes_over t s depth next link g none = record {
  stands = g.stands;
  empty = sym g.led ∙ omega arith;
  taken = g.taken;
}

-- the walk of a string comes to the number that was put where it ended
pub put_reached : (t u : Trees) (s : List ℕ) (link : Link) (i : ℕ) → EndsAt t s link → KeepsLinks t u
    → led_to u (hash_of s) link ≡ i + 1 → Reaches u s i
put_reached t u s Top i w k e = (0, e)
put_reached t u s (Below j right) i w k e =
    let d = w.taken.0 in
    let at : walk u s d ≡ j + 1 = walk_kept t u s d k (omega (arith, w.taken.1)) ∙ w.taken.1 in
    (suc d, ap (λ r. onward u r (walk u s d)) w.taken.2 ∙ onward_at u right (walk u s d) j at ∙ e)

-- where one node's link has changed, each link is as it was, or is that one
data Changed (ns : List Node) (id : ℕ) (right : Bool) (last : ℕ) (i : ℕ) (r : Bool) (link : ℕ) : Type 0 where
  Same : link ≡ side r (slice_index_or ns i no_node) → Changed ns id right last i r link
  New : i ≡ id → r ≡ right → link ≡ last → Changed ns id right last i r link

other_side : (right r : Bool) (m n : Node) (last : ℕ) → side right m ≡ last → side (not right) m ≡ side (not right) n
    → (side r m ≡ side r n) ⊎ ((r ≡ right) × (side r m ≡ last))
other_side true true m n last e o = inr (refl, e)
other_side true false m n last e o = inl o
other_side false true m n last e o = inl o
other_side false false m n last e o = inr (refl, e)

module _ (tops : List ℕ) (ns : List Node) (id : ℕ) (right : Bool) (m n : Node) (last : ℕ) (lt : id < length ns)
    (led : side right m ≡ last) (other : side (not right) m ≡ side (not right) (slice_index_or ns id no_node))
    (left : n.left ≡ 0) (none : n.right ≡ 0) where
  abbrev ns' : List Node
  ns' = set ns id m ++ n ∷ []

  changed_at : (i : ℕ) (r : Bool) → Changed ns id right last i r (side r (slice_index_or ns' i no_node))
  changed_at i r = elim (same_or_not i id) [
    | inl same ↦
        let at : slice_index_or (set ns id m) i no_node ≡ m =
        ap (λ k. slice_index_or (set ns id m) k no_node) same ∙ get_or-set_same ns id m no_node lt in
        elim (other_side right r m (slice_index_or ns id no_node) last led other) [
          | inl e ↦ Same (push_none r (set ns id m) n i left none ∙ ap (side r) at ∙ e
              ∙ ap (λ k. side r (slice_index_or ns k no_node)) (sym same))
          | inr e ↦ New same e.0 (push_none r (set ns id m) n i left none ∙ ap (side r) at ∙ e.1)
        ]
    | inr apart ↦ Same (push_none r (set ns id m) n i left none
        ∙ ap (side r) (get_or-set_other ns id i m no_node apart))
  ]

  pub below_index : last ≡ length ns + 1 → IsIndex tops ns → IsIndex tops ns'
  below_index e w =
      let count : length ns' ≡ length ns + 1 = omega (
        arith,
        length-append (set ns id m) (n ∷ []),
        length-set ns id m,
      ) in
      record {
        tops_lead = λ b. omega (arith, w.tops_lead b, count);
        nodes_lead = λ i r. elim (changed_at i r) [
          | Same s ↦ omega (arith, s, w.nodes_lead i r, count)
          | New a b s ↦ omega (arith, s, e, count)
        ];
        later = λ i r more. elim (changed_at i r) [
          | Same s ↦ omega (arith, s, more, w.later i r (omega (arith, s, more)))
          | New a b s ↦ omega (arith, s, e, a, lt)
        ];
      }

  pub below_keeps : (i : ℕ) (r : Bool) → side right (slice_index_or ns id no_node) ≡ 0
      → 0 < side r (slice_index_or ns i no_node)
      → side r (slice_index_or ns' i no_node) ≡ side r (slice_index_or ns i no_node)
  below_keeps i r empty more = elim (changed_at i r) [
    | Same s ↦ s
    | New a b s ↦ let none : side r (slice_index_or ns i no_node) ≡ 0 =
        (λ j. side (b j) (slice_index_or ns (a j) no_node)) ∙ empty in absurd (omega arith)
  ]

  pub below_led : side right (slice_index_or ns' id no_node) ≡ last
  below_led = push_none right (set ns id m) n id left none ∙ ap (side right) (get_or-set_same ns id m no_node lt) ∙ led

  pub below_hashes : m.hash ≡ (slice_index_or ns id no_node).hash → hashes_of ns' ≡ hashes_of ns ++ n.hash ∷ []
  below_hashes e = hashes_push (set ns id m) n ∙ ap (λ hs. hs ++ n.hash ∷ []) (hashes_set ns id m e)

module _ (tops : List ℕ) (ns : List Node) (bucket last : ℕ) (n : Node) (lt : bucket < length tops)
    (left : n.left ≡ 0) (none : n.right ≡ 0) where
  abbrev tops' : List ℕ
  tops' = set tops bucket last

  pub top_index : last ≡ length ns + 1 → IsIndex tops ns → IsIndex tops' (ns ++ n ∷ [])
  top_index e w =
      let count = length-append ns (n ∷ []) in
      record {
        tops_lead = λ b. elim (same_or_not b bucket) [
          | inl same ↦ omega (
            arith,
            ap (λ k. slice_index_or tops' k 0) same,
            get_or-set_same tops bucket last 0 lt,
            e,
            count,
          )
          | inr apart ↦ omega (arith, get_or-set_other tops bucket b last 0 apart, w.tops_lead b, count)
        ];
        nodes_lead = λ i r. omega (arith, push_none r ns n i left none, w.nodes_lead i r, count);
        later = λ i r more. let same = push_none r ns n i left none in
            omega (arith, same, more, w.later i r (omega (arith, same, more)));
      }

  pub top_keeps : (b : ℕ) → slice_index_or tops bucket 0 ≡ 0 → 0 < slice_index_or tops b 0
      → slice_index_or tops' b 0 ≡ slice_index_or tops b 0
  top_keeps b empty more = elim (same_or_not b bucket) [
    | inl same ↦ absurd (omega (arith, ap (λ k. slice_index_or tops k 0) same, empty, more))
    | inr apart ↦ get_or-set_other tops bucket b last 0 apart
  ]

room_go : (m x r : ℕ) (y : Bool) → (m == 0) ≡ y → (if y then 0 else x) ≡ r → 0 < r → (0 < m) × (x ≡ r)
room_go m x r true t e lt = absurd (omega (arith, e, lt))
room_go zero x r false t e lt = cc
room_go (suc m) x r false t e lt = (omega arith, e)

-- where there are places, there are buckets
pub room_is : (m x r : ℕ) → (if m == 0 then 0 else x) ≡ r → 0 < r → (0 < m) × (x ≡ r)
room_is m x r e lt = room_go m x r (m == 0) refl e lt
