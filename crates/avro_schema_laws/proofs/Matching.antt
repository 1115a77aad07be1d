-- What the reader carries along, against the stops before.
use Rattle.std.proofs.Common.{◌≡◌, ◌⊎◌, ◌<◌, ◌≤◌, ℕ, suc, ◌+◌, ◌-◌, List, [], ◌∷◌, Option, Some, None, refl, sym, ap}
use Rattle.std.proofs.Common.{◌∙◌, arith}
use mathlib.Core.Logic.{inl, inr}
use Rattle.serde_json.specs.Data.{Data, Items}
use Rattle.avro_schema.specs.Tree.{Tree}
use Rattle.avro_schema.specs.Size.{nodes}
use Rattle.avro_schema.specs.Names.{Entry, lookup, put}
use Rattle.avro_schema.specs.Reading.{Seen}
use Rattle.avro_schema.specs.Inside.{Uses, Defines}
use Rattle.avro_schema.specs.Stands.{Meaning, Stands}
use Rattle.avro_schema.specs.Texts.{most_nodes}
use Rattle.avro_schema.proofs.Kept.{lookup-put_same}
use Rattle.avro_schema.proofs.Holding.{uses_no_definition, one_definition}
use Rattle.avro_schema.proofs.Trace.{NoUse, NoDefinition, Closes}
use Rattle.avro_schema.proofs.Traced.{put_elsewhere}
use Rattle.avro_schema.proofs.Known.{Stays, not_both, not_open, name_is, known_outside, unknown_outside, Agrees}
use Rattle.avro_schema.proofs.Known.{agrees_before, one_use}
use Rattle.avro_schema.proofs.Same.{agrees_open, some_is}
use Rattle.avro_schema_laws.specs.Walk.{Place, Stop, at_type, at_field}
use Rattle.avro_schema_laws.specs.Faults.{OneOf, first_one, later_one, Met, NamesOf, Takes, nothing, a_use, no_use}
use Rattle.avro_schema_laws.specs.Faults.{no_node}
use Rattle.avro_schema_laws.specs.Faults.{IsTooBig, too_deep, too_many}
use Rattle.avro_schema_laws.proofs.Passing.{none_of}

-- ---- how many nodes

takes_use : (name other : List ℕ) (t v : Tree) (k l : ℕ) (names : Meaning) → name ≡ other → names name ≡ Some t
    → names other ≡ Some v → k ≡ l → nodes t + k ≡ nodes v + l
takes_use name other t v k l names same is its e =
    let f : t ≡ v = some_is (names name) t v is (ap names same ∙ its) in rw (f, e) refl

pub takes_same : {names : Meaning} {before : List Stop} (n m : ℕ) → Takes names before n → Takes names before m → n ≡ m
takes_same n m nothing nothing = refl
takes_same {names} n m (a_use {p} {d} {name} {t} {n = k} u is h) (a_use {name = other} {t = v} {n = l} w its j) =
    let same : name ≡ other = one_use p.space d name other u w in
    takes_use name other t v k l names same is its (takes_same k l h j)
takes_same n m (a_use {name} u is h) (no_use none j) = absurd (none name u)
takes_same n m (no_use none h) (a_use {name} u is j) = absurd (none name u)
takes_same n m (no_use {n = k} none h) (no_use {n = l} other j) = ap suc (takes_same k l h j)
takes_same n m (no_node h) (no_node j) = takes_same n m h j

-- ---- names

pub met_on : (s : Stop) (before : List Stop) (name : List ℕ) → Met before name → Met (s ∷ before) name
met_on s before name m = (m.0, m.1, later_one m.2, m.3)

pub met_type : (p : Place) (d : Data) (before : List Stop) (name : List ℕ) → Met (at_type p d ∷ before) name
    → Defines p.space d name ⊎ Met before name
met_type p d before name m = at m.0 m.1 m.2 m.3
  where
    at : (q : Place) (e : Data) → OneOf (at_type q e) (at_type p d ∷ before) → Defines q.space e name
        → Defines p.space d name ⊎ Met before name
    at q e first_one h = inl h
    at q e (later_one o) h = inr (q, e, o, h)

pub met_field : (fs : Items) (f : Data) (before : List Stop) (name : List ℕ) → Met (at_field fs f ∷ before) name
    → Met before name
met_field fs f before name m = at m.0 m.1 m.2 m.3
  where
    at : (q : Place) (e : Data) → OneOf (at_type q e) (at_field fs f ∷ before) → Defines q.space e name
        → Met before name
    at q e (later_one o) h = (q, e, o, h)

abbrev pub closed_tree : Option (Option Tree) → Option Tree
closed_tree None = None
closed_tree (Some x) = x

abbrev pub meaning : List Entry → Meaning
meaning fs = λ name. closed_tree (lookup name fs)

pub meaning_agrees : (fs : List Entry) → Agrees (meaning fs) fs
meaning_agrees fs = λ name t h. rw h refl

pub opens : (own : List ℕ) (es : List Entry) → lookup own es ≡ None → Stays es (put own None es)
opens own es new name x h = at (put_elsewhere name own None es)
  where
    at : (name ≡ own) ⊎ (lookup name (put own None es) ≡ lookup name es) → lookup name (put own None es) ≡ Some x
    at (inl same) = absurd (not_both (lookup name es) x (name_is name own es None same new) h)
    at (inr e) = e ∙ h

-- ---- the state

pub record Matches (before : List Stop) (records : List (List ℕ)) (s : Seen) : Type 0 where
  pub unmet : (name : List ℕ) → lookup name s.names ≡ None → Met before name → ⊥
  pub met : (name : List ℕ) (x : Option Tree) → lookup name s.names ≡ Some x → Met before name
  pub around : (name : List ℕ) → lookup name s.names ≡ Some None → OneOf name records
  pub opened : (name : List ℕ) → OneOf name records → lookup name s.names ≡ Some None
  pub agrees : (names : Meaning) → NamesOf before records names → Agrees names s.names
  pub names_of : (names : Meaning) → Agrees names s.names → NamesOf before records names
  pub taken : (names : Meaning) → Agrees names s.names
      → (n : ℕ) × ((Takes names before n) × (n + s.left ≡ most_nodes))

pub matches_start : Matches [] [] (record { names = []; left = most_nodes })
matches_start = record {
  unmet = λ name h m. none_of (at_type m.0 m.1) [] refl m.2;
  met = λ name x h. let e : None ≡ Some x = h in absurd cc;
  around = λ name h. let e : None ≡ Some None = h in absurd cc;
  opened = λ name h. absurd (none_of name [] refl h);
  agrees = λ names h name t k. let e : None ≡ Some (Some t) = k in absurd cc;
  names_of = λ names h p d name one makes over. absurd (none_of (at_type p d) [] refl one);
  taken = λ names h. (0, (nothing, refl));
}

-- so much still fits
pub room : (before : List Stop) (p : Place) (s : Seen) (more levels : ℕ) → Matches before p.records s
    → more ≤ s.left → levels ≤ p.levels → IsTooBig before p more levels → ⊥
room before p s more levels m fits high (too_deep lt) = absurd (omega (arith, high, lt))
room before p s more levels m fits high (too_many {names} {n} of takes lt) =
    let t = m.taken names (m.agrees names of) in
    let same : t.0 ≡ n = takes_same t.0 n t.1.0 takes in
    let k : t.0 + s.left ≡ 10000 = t.1.1 in
    let l : 10000 < n + more = lt in
    absurd (omega (arith, same, k, l, fits))

pub no_more : (before : List Stop) (p : Place) (s : Seen) (more levels : ℕ) → Matches before p.records s
    → s.left < more → IsTooBig before p more levels
no_more before p s more levels m lt =
    let names = meaning s.names in
    let t = m.taken names (meaning_agrees s.names) in
    let k : t.0 + s.left ≡ 10000 = t.1.1 in
    let l : 10000 < t.0 + more = omega (arith, k, lt) in
    too_many (m.names_of names (meaning_agrees s.names)) t.1.0 l

-- ---- one stop on

pub matches_field : (before : List Stop) (records : List (List ℕ)) (s : Seen) (fs : Items) (f : Data)
    → Matches before records s → Matches (at_field fs f ∷ before) records s
matches_field before records s fs f m = record {
  unmet = λ name h k. m.unmet name h (met_field fs f before name k);
  met = λ name x h. met_on (at_field fs f) before name (m.met name x h);
  around = m.around;
  opened = m.opened;
  agrees = λ names of. m.agrees names (λ p d name one makes over. of p d name (later_one one) makes over);
  names_of = λ names agree. behind names (m.names_of names agree);
  taken = λ names agree. let t = m.taken names agree in (t.0, (no_node t.1.0, t.1.1));
}
  where
    behind : (names : Meaning) → NamesOf before records names → NamesOf (at_field fs f ∷ before) records names
    behind names of p d name (later_one one) makes over = of p d name one makes over

pub matches_plain : (before : List Stop) (p : Place) (d : Data) (s : Seen) → Matches before p.records s → 0 < s.left
    → NoUse p.space d → NoDefinition p.space d
    → Matches (at_type p d ∷ before) p.records (record s { left = s.left - 1 })
matches_plain before p d s m some unused undefined = record {
  unmet = λ name h k. new name h (met_type p d before name k);
  met = λ name x h. met_on (at_type p d) before name (m.met name x h);
  around = m.around;
  opened = m.opened;
  agrees = λ names of. m.agrees names (λ q e name one makes over. of q e name (later_one one) makes over);
  names_of = λ names agree. behind names (m.names_of names agree);
  taken = λ names agree.
      let t = m.taken names agree in
      let k : t.0 + s.left ≡ most_nodes = t.1.1 in (suc t.0, (no_use unused t.1.0, omega (arith, k, some)));
}
  where
    new : (name : List ℕ) → lookup name s.names ≡ None → Defines p.space d name ⊎ Met before name → ⊥
    new name h (inl makes) = undefined name makes
    new name h (inr k) = m.unmet name h k

    behind : (names : Meaning) → NamesOf before p.records names → NamesOf (at_type p d ∷ before) p.records names
    behind names of q e name first_one makes over = absurd (undefined name makes)
    behind names of q e name (later_one one) makes over = of q e name one makes over

pub matches_use : (before : List Stop) (p : Place) (d : Data) (name : List ℕ) (t : Tree) (s : Seen) (left : ℕ)
    → Matches before p.records s → Uses p.space d name → lookup name s.names ≡ Some (Some t)
    → left + nodes t ≡ s.left → Matches (at_type p d ∷ before) p.records (record s { left = left })
matches_use before p d used t s left m u is fits = record {
  unmet = λ name h k. new name h (met_type p d before name k);
  met = λ name x h. met_on (at_type p d) before name (m.met name x h);
  around = m.around;
  opened = m.opened;
  agrees = λ names of. m.agrees names (λ q e name one makes over. of q e name (later_one one) makes over);
  names_of = λ names agree. behind names (m.names_of names agree);
  taken = λ names agree.
      let r = m.taken names agree in
      let k : r.0 + s.left ≡ most_nodes = r.1.1 in
      (nodes t + r.0, (a_use u (agree used t is) r.1.0, omega (arith, k, fits)));
}
  where
    new : (name : List ℕ) → lookup name s.names ≡ None → Defines p.space d name ⊎ Met before name → ⊥
    new name h (inl makes) = uses_no_definition p.space used d name u makes
    new name h (inr k) = m.unmet name h k

    behind : (names : Meaning) → NamesOf before p.records names → NamesOf (at_type p d ∷ before) p.records names
    behind names of q e name first_one makes over = absurd (uses_no_definition p.space used d name u makes)
    behind names of q e name (later_one one) makes over = of q e name one makes over

-- ---- definitions

pub matches_open : (before : List Stop) (p : Place) (d : Data) (own : List ℕ) (s : Seen) → Matches before p.records s
    → 0 < s.left → Defines p.space d own → lookup own s.names ≡ None
    → Matches (at_type p d ∷ before) (own ∷ p.records) (record { names = put own None s.names; left = s.left - 1 })
matches_open before p d own s m some made fresh = record {
  unmet = λ name h k. new name (unknown_outside own name s.names h) (met_type p d before name k);
  met = λ name x h. known name x (known_outside own name s.names x h);
  around = λ name h. inner name (known_outside own name s.names None h);
  opened = λ name one. was name one;
  agrees = λ names of. agrees_open names own s.names (m.agrees names (outer names of));
  names_of = λ names agree. behind names (m.names_of names (back names agree));
  taken = λ names agree.
      let t = m.taken names (back names agree) in
      let k : t.0 + s.left ≡ most_nodes = t.1.1 in
      (suc t.0, (no_use (λ name u. uses_no_definition p.space name d own u made) t.1.0, omega (arith, k, some)));
}
  where
    new : (name : List ℕ) → (name ≡ own → ⊥) × (lookup name s.names ≡ None) → Defines p.space d name ⊎ Met before name
        → ⊥
    new name h (inl makes) = h.0 (one_definition p.space d name own makes made)
    new name h (inr k) = m.unmet name h.1 k

    known : (name : List ℕ) (x : Option Tree) → (name ≡ own) ⊎ (lookup name s.names ≡ Some x)
        → Met (at_type p d ∷ before) name
    known name x (inl same) = (p, d, first_one, rw same made)
    known name x (inr h) = met_on (at_type p d) before name (m.met name x h)

    inner : (name : List ℕ) → (name ≡ own) ⊎ (lookup name s.names ≡ Some None) → OneOf name (own ∷ p.records)
    inner name (inl same) = rw same first_one
    inner name (inr h) = later_one (m.around name h)

    was : (name : List ℕ) → OneOf name (own ∷ p.records) → lookup name (put own None s.names) ≡ Some None
    was name first_one = lookup-put_same own None s.names
    was name (later_one one) = opens own s.names fresh name None (m.opened name one)

    back : (names : Meaning) → Agrees names (put own None s.names) → Agrees names s.names
    back names agree = agrees_before names s.names (put own None s.names) (opens own s.names fresh) agree

    apart : (name : List ℕ) → Met before name → (OneOf name p.records → ⊥) → OneOf name (own ∷ p.records) → ⊥
    apart name met over first_one = m.unmet own fresh met
    apart name met over (later_one one) = over one

    outer : (names : Meaning) → NamesOf (at_type p d ∷ before) (own ∷ p.records) names → NamesOf before p.records names
    outer names of q e name one makes over = of q e name (later_one one) makes (λ h. apart name (q, e, one, makes) over
        h)

    behind : (names : Meaning) → NamesOf before p.records names
        → NamesOf (at_type p d ∷ before) (own ∷ p.records) names
    behind names of q e name first_one makes over =
        absurd (over (rw (one_definition p.space d name own makes made) first_one))
    behind names of q e name (later_one one) makes over = of q e name one makes (λ h. over (later_one h))

closed_known : (own name : List ℕ) (t : Tree) (fs gs : List Entry) (x : Option Tree) → Closes own t fs gs
    → lookup name gs ≡ Some x → (name ≡ own) ⊎ (lookup name fs ≡ Some x)
closed_known own name t fs gs x closed h = at (closed.1 name)
  where
    at : (name ≡ own) ⊎ (lookup name gs ≡ lookup name fs) → (name ≡ own) ⊎ (lookup name fs ≡ Some x)
    at (inl same) = inl same
    at (inr e) = inr (sym e ∙ h)

-- a definition is over
pub matches_close : (before : List Stop) (records : List (List ℕ)) (own : List ℕ) (t : Tree) (q g : Seen)
    → Matches before (own ∷ records) q → Closes own t q.names g.names → g.left ≡ q.left → (OneOf own records → ⊥)
    → ((names : Meaning) → NamesOf before records names → Agrees names g.names)
    → ((names : Meaning) (p : Place) (d : Data) → Agrees names g.names → OneOf (at_type p d) before
    → Defines p.space d own → Stands names p.space d t) → Matches before records g
matches_close before records own t q g m closed left outside agree stands = record {
  unmet = λ name h k. m.unmet name (still name h (closed.1 name)) k;
  met = λ name x h. known name x (closed_known own name t q.names g.names x closed h);
  around = λ name h. inner name h (closed_known own name t q.names g.names None closed h);
  opened = λ name one. was name one (closed.1 name);
  agrees = agree;
  names_of = λ names h. names_too names h;
  taken = λ names h.
      let r = m.taken names (inside names h) in
      let k : r.0 + q.left ≡ most_nodes = r.1.1 in
      (r.0, (r.1.0, omega (arith, k, left)));
}
  where
    own_open : lookup own q.names ≡ Some None
    own_open = m.opened own first_one

    still : (name : List ℕ) → lookup name g.names ≡ None → (name ≡ own) ⊎ (lookup name g.names ≡ lookup name q.names)
        → lookup name q.names ≡ None
    still name h (inl same) = absurd (not_both (lookup name g.names) (Some t) h (name_is name own g.names
        (Some (Some t)) same closed.0))
    still name h (inr e) = sym e ∙ h

    known : (name : List ℕ) (x : Option Tree) → (name ≡ own) ⊎ (lookup name q.names ≡ Some x) → Met before name
    known name x (inl same) = rw same (m.met own None own_open)
    known name x (inr h) = m.met name x h

    around_own : (name : List ℕ) → lookup name q.names ≡ Some None → OneOf name (own ∷ records)
    around_own name h = m.around name h

    behind : (name : List ℕ) → lookup name g.names ≡ Some None → OneOf name (own ∷ records) → OneOf name records
    behind name h first_one = absurd (not_open (lookup own g.names) t h closed.0)
    behind name h (later_one one) = one

    inner : (name : List ℕ) → lookup name g.names ≡ Some None → (name ≡ own) ⊎ (lookup name q.names ≡ Some None)
        → OneOf name records
    inner name h (inl same) = absurd (not_open (lookup name g.names) t h (name_is name own g.names (Some (Some t)) same
        closed.0))
    inner name h (inr k) = behind name h (around_own name k)

    was : (name : List ℕ) → OneOf name records → (name ≡ own) ⊎ (lookup name g.names ≡ lookup name q.names)
        → lookup name g.names ≡ Some None
    was name one (inl same) = absurd (outside (rw same at one))
    was name one (inr e) = e ∙ m.opened name (later_one one)

    shut : (name : List ℕ) (u : Tree) → lookup name q.names ≡ Some (Some u)
        → (name ≡ own) ⊎ (lookup name g.names ≡ lookup name q.names) → lookup name g.names ≡ Some (Some u)
    shut name u h (inl same) = absurd (not_open (lookup name q.names) u (name_is name own q.names (Some None) same
        own_open) h)
    shut name u h (inr e) = e ∙ h

    inside : (names : Meaning) → Agrees names g.names → Agrees names q.names
    inside names h = λ name u k. h name u (shut name u k (closed.1 name))

    own_out : (name : List ℕ) → lookup name g.names ≡ lookup name q.names → (OneOf name records → ⊥)
        → OneOf name (own ∷ records) → ⊥
    own_out name e over first_one = not_open (lookup own g.names) t (e ∙ own_open) closed.0
    own_out name e over (later_one one) = over one

    of_name : (names : Meaning) (p : Place) (d : Data) (name : List ℕ) → Agrees names g.names
        → OneOf (at_type p d) before → Defines p.space d name → (OneOf name records → ⊥)
        → (name ≡ own) ⊎ (lookup name g.names ≡ lookup name q.names)
        → (u : Tree) × ((names name ≡ Some u) × Stands names p.space d u)
    of_name names p d name h one makes over (inl same) = (
      t,
      (
        h name t (name_is name own g.names (Some (Some t)) same
            closed.0),
        stands names p d h one (rw same at makes),
      ),
    )
    of_name names p d name h one makes over (inr e) = m.names_of names (inside names h) p d name one makes
        (λ r. own_out name e over r)

    names_too : (names : Meaning) → Agrees names g.names → NamesOf before records names
    names_too names h p d name one makes over = of_name names p d name h one makes over (closed.1 name)
