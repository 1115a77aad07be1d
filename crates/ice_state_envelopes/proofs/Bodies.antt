-- Sections in rising order are known by their bodies: so the laws of the union are those of what a row has.
use Rattle.std.proofs.Common.{◌≡◌, ℕ, suc, ◌<◌, ◌⊎◌, List, [], ◌∷◌, Option, Some, None}
use Rattle.std.proofs.Common.{inl, inr, refl, sym, ap, ◌∙◌, arith}
use Rattle.std.proofs.lemmas.Bool.{eq-eqb, ne_eqb, cases_order, cases_eq}
use Rattle.ice_state_envelopes.specs.Envelopes.{Part, Rise}
use Rattle.ice_state_envelopes.specs.Joins.{put, union, body_at, or_else, AgreeAt}
use Rattle.ice_state_envelopes.proofs.Rising.{rise_weaker}
use Rattle.ice_state_envelopes.proofs.Unions.{put_behind, put_before, put_at, union_rises}

-- ---- options

pub or_else-none : (o : Option (List ℕ)) → or_else o None ≡ o
or_else-none None = refl
or_else-none (Some x) = refl

pub or_else-assoc : (o p q : Option (List ℕ)) → or_else (or_else o p) q ≡ or_else o (or_else p q)
or_else-assoc None p q = refl
or_else-assoc (Some x) p q = refl

or_else-same : (o : Option (List ℕ)) → or_else o o ≡ o
or_else-same None = refl
or_else-same (Some x) = refl

or_else-comm : (o p : Option (List ℕ)) → AgreeAt o p → or_else o p ≡ or_else p o
or_else-comm None None h = refl
or_else-comm None (Some y) h = refl
or_else-comm (Some x) None h = refl
or_else-comm (Some x) (Some y) h = ap (λ (z : List ℕ). Some z) h

-- ---- what a row has

body_here : (row : ℕ) (p : Part) (ps : List Part) → p.0 ≡ row → body_at row (p ∷ ps) ≡ Some p.1
body_here row p ps e = rw (eq-eqb p.0 row e) refl

body_behind : (row : ℕ) (p : Part) (ps : List Part) → (p.0 ≡ row → ⊥) → body_at row (p ∷ ps) ≡ body_at row ps
body_behind row p ps ne = rw (ne_eqb p.0 row ne) refl

pub body_none : (row from end : ℕ) (ps : List Part) → row < from → Rise from end ps → body_at row ps ≡ None
body_none row from end [] lt rise = refl
body_none row from end (p ∷ ps) lt rise =
    body_behind row p ps (λ e. omega (arith, lt, rise.0, e)) ∙
    body_none row (suc p.0) end ps (omega (arith, lt, rise.0)) rise.2

-- a section that is put gives its body to its row, where that has none
body_put : (row : ℕ) (q : Part) (from end : ℕ) (ps : List Part) → Rise from end ps
    → body_at row (put q ps) ≡ or_else (body_at row ps) (body_at row (q ∷ []))
body_put row q from end [] rise = refl
body_put row q from end (p ∷ ps) rise = elim (cases_order p.0 q.0) [
  | inl e ↦ rw (put_at q p ps e) (at_same (cases_eq p.0 row) e)
  | inr (inl below) ↦ rw (put_behind q p ps below) (further (cases_eq p.0 row) (body_put row q (suc p.0) end ps rise.2))
  | inr (inr above) ↦ rw (put_before q p ps above) (front (cases_eq q.0 row) above)
] where
  at_same : ((p.0 ≡ row) ⊎ (p.0 ≡ row → ⊥)) → p.0 ≡ q.0
      → body_at row (p ∷ ps) ≡ or_else (body_at row (p ∷ ps)) (body_at row (q ∷ []))
  at_same (inl is) e = rw (body_here row p ps is) refl
  at_same (inr not) e =
      let none : body_at row (q ∷ []) ≡ None = body_behind row q [] (λ is. not (e ∙ is)) in
      rw none (sym (or_else-none (body_at row (p ∷ ps))))

  further : ((p.0 ≡ row) ⊎ (p.0 ≡ row → ⊥))
      → body_at row (put q ps) ≡ or_else (body_at row ps) (body_at row (q ∷ []))
      → body_at row (p ∷ put q ps) ≡ or_else (body_at row (p ∷ ps)) (body_at row (q ∷ []))
  further (inl is) rest = rw (body_here row p (put q ps) is, body_here row p ps is) refl
  further (inr not) rest = rw (body_behind row p (put q ps) not, body_behind row p ps not) rest

  front : ((q.0 ≡ row) ⊎ (q.0 ≡ row → ⊥)) → q.0 < p.0
      → body_at row (q ∷ p ∷ ps) ≡ or_else (body_at row (p ∷ ps)) (body_at row (q ∷ []))
  front (inl is) above =
      let none : body_at row (p ∷ ps) ≡ None = body_none row p.0 end (p ∷ ps) (omega (arith, above, is))
      (omega arith, rise.1, rise.2) in
      rw none refl
  front (inr not) above =
      let none : body_at row (q ∷ []) ≡ None = body_behind row q [] not in
      body_behind row q (p ∷ ps) not ∙ sym (ap (or_else (body_at row (p ∷ ps))) none ∙ or_else-none (body_at row (p ∷
      ps)))

pub body_union : (from end row : ℕ) (ps qs : List Part) → Rise from end ps → Rise from end qs
    → body_at row (union ps qs) ≡ or_else (body_at row ps) (body_at row qs)
body_union from end row ps [] rise rise' = sym (or_else-none (body_at row ps))
body_union from end row ps (q ∷ qs) rise rise' =
    let left = rise_weaker from (suc q.0) end qs (omega (arith, rise'.0)) rise'.2 in
    body_put row q from end (union ps qs) (union_rises from end ps qs rise left) ∙
    ap (λ o. or_else o (body_at row (q ∷ []))) (body_union from end row ps qs rise left) ∙
    or_else-assoc (body_at row ps) (body_at row qs) (body_at row (q ∷ [])) ∙
    ap (or_else (body_at row ps)) (last (cases_eq q.0 row))
  where
    last : ((q.0 ≡ row) ⊎ (q.0 ≡ row → ⊥))
        → or_else (body_at row qs) (body_at row (q ∷ [])) ≡ body_at row (q ∷ qs)
    last (inl is) =
        let none : body_at row qs ≡ None = body_none row (suc q.0) end qs (omega (arith, is)) rise'.2 in
        rw (none, body_here row q [] is) refl
    last (inr not) =
        rw (body_behind row q [] not, body_behind row q qs not) (or_else-none (body_at row qs))

-- ---- rising sections with the same bodies are the same

none_is_some : (x : List ℕ) (o : Option (List ℕ)) → o ≡ None → o ≡ Some x → ⊥
none_is_some x o e f = absurd cc

some_is : (x y : List ℕ) (o : Option (List ℕ)) → o ≡ Some x → o ≡ Some y → x ≡ y
some_is x y o e f = cc

pub same_sections : (from end : ℕ) (ps qs : List Part) → Rise from end ps → Rise from end qs
    → ((row : ℕ) → body_at row ps ≡ body_at row qs) → ps ≡ qs
same_sections from end [] [] rise rise' same = refl
same_sections from end [] (q ∷ qs) rise rise' same =
    absurd (none_is_some q.1 (body_at q.0 (q ∷ qs)) (sym (same q.0)) (body_here q.0 q qs refl))
same_sections from end (p ∷ ps) [] rise rise' same =
    absurd (none_is_some p.1 (body_at p.0 (p ∷ ps)) (same p.0) (body_here p.0 p ps refl))
same_sections from end (p ∷ ps) (q ∷ qs) rise rise' same = elim (cases_order p.0 q.0) [
  | inl e ↦ both e (λ further rest. same_sections (suc p.0) end ps qs rise.2 further rest)
  | inr (inl below) ↦ absurd (none_is_some p.1 (body_at p.0 (q ∷ qs))
      (body_none p.0 q.0 end (q ∷ qs) below (omega arith, rise'.1, rise'.2))
      (sym (same p.0) ∙ body_here p.0 p ps refl))
  | inr (inr above) ↦ absurd (none_is_some q.1 (body_at q.0 (p ∷ ps))
      (body_none q.0 p.0 end (p ∷ ps) above (omega arith, rise.1, rise.2)) (same q.0 ∙ body_here q.0 q qs refl))
] where
  tails : p.0 ≡ q.0 → (row : ℕ) → ((p.0 ≡ row) ⊎ (p.0 ≡ row → ⊥)) → body_at row ps ≡ body_at row qs
  tails e row (inl is) = body_none row (suc p.0) end ps (omega (arith, is)) rise.2 ∙
      sym (body_none row (suc q.0) end qs (omega (arith, is, e)) rise'.2)
  tails e row (inr not) = sym (body_behind row p ps not) ∙ same row ∙
      body_behind row q qs (λ is. not (e ∙ is))

  both : p.0 ≡ q.0
      → (Rise (suc p.0) end qs → ((row : ℕ) → body_at row ps ≡ body_at row qs) → ps ≡ qs) → p ∷ ps ≡ q ∷ qs
  both e again =
      let body : p.1 ≡ q.1 = some_is p.1 q.1 (body_at q.0 (q ∷ qs))
      (sym (same q.0) ∙ body_here q.0 p ps e) (body_here q.0 q qs refl) in
      let further : Rise (suc p.0) end qs = rise_weaker (suc p.0) (suc q.0) end qs (omega (arith, e)) rise'.2 in
      let rest : ps ≡ qs = again further (λ row. tails e row (cases_eq p.0 row)) in
      let first : p ≡ q = ap (λ (n : ℕ). (n, p.1)) e ∙ ap (λ (b : List ℕ). (q.0, b)) body in
      ap (λ (x : Part). x ∷ ps) first ∙ ap (λ (xs : List Part). q ∷ xs) rest

-- ---- the laws of the union

pub union-assoc : (end : ℕ) (ps qs rs : List Part) → Rise 0 end ps → Rise 0 end qs → Rise 0 end rs
    → union (union ps qs) rs ≡ union ps (union qs rs)
union-assoc end ps qs rs a b c =
    let ab = union_rises 0 end ps qs a b in
    let bc = union_rises 0 end qs rs b c in
    same_sections 0 end (union (union ps qs) rs) (union ps (union qs rs)) (union_rises 0 end (union ps qs) rs ab c)
    (union_rises 0 end ps (union qs rs) a bc) (λ row.
    body_union 0 end row (union ps qs) rs ab c ∙
    ap (λ o. or_else o (body_at row rs)) (body_union 0 end row ps qs a b) ∙
    or_else-assoc (body_at row ps) (body_at row qs) (body_at row rs) ∙
    sym (body_union 0 end row ps (union qs rs) a bc ∙
    ap (or_else (body_at row ps)) (body_union 0 end row qs rs b c)))

pub union-idem : (end : ℕ) (ps : List Part) → Rise 0 end ps → union ps ps ≡ ps
union-idem end ps a = same_sections 0 end (union ps ps) ps (union_rises 0 end ps ps a a) a
    (λ row. body_union 0 end row ps ps a a ∙ or_else-same (body_at row ps))

pub union-comm : (end : ℕ) (ps qs : List Part) → Rise 0 end ps → Rise 0 end qs
    → ((row : ℕ) → AgreeAt (body_at row ps) (body_at row qs)) → union ps qs ≡ union qs ps
union-comm end ps qs a b agree = same_sections 0 end (union ps qs) (union qs ps) (union_rises 0 end ps qs a b)
    (union_rises 0 end qs ps b a) (λ row. body_union 0 end row ps qs a b ∙
    or_else-comm (body_at row ps) (body_at row qs) (agree row) ∙ sym (body_union 0 end row qs ps b a))
