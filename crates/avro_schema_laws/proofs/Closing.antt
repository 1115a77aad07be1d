-- What holds of a walk through a type that the reader took.
use Rattle.std.proofs.Common.{◌≡◌, ◌⊎◌, ◌++◌, ℕ, List, [], ◌∷◌, Option, Some, None, Result, Ok, Err, refl}
use mathlib.Core.Logic.{inl, inr}
use Rattle.std.specs.Prelude.{MatchResult}
use Rattle.serde_json.specs.Data.{Data}
use Rattle.avro_schema.specs.declared.fault.SchemaFault.{SchemaFault}
use Rattle.avro_schema.specs.declared.fault.SchemaFault.TheVariants.{UnknownType}
use Rattle.contract_words.specs.Outcome.{◌>>=◌}
use Rattle.avro_schema.specs.Tree.{Tree}
use Rattle.avro_schema.specs.Names.{lookup}
use Rattle.avro_schema.specs.Reading.{Seen, asked}
use Rattle.avro_schema.specs.Inside.{Defines}
use Rattle.avro_schema.specs.Order.{Node, parts_in, Nth, first_part, later_part, At, root, below}
use Rattle.avro_schema.specs.Stands.{Meaning, Stands}
use Rattle.avro_schema.proofs.Trace.{Took, Closes}
use Rattle.avro_schema.proofs.Known.{not_both, no_nth, Agrees, took_new, took_stands}
use Rattle.avro_schema.proofs.Same.{Complete, took_same}
use Rattle.avro_schema_laws.specs.Walk.{Place, Stop, at_type}
use Rattle.avro_schema_laws.specs.Faults.{OneOf, first_one, later_one, Met, NamesOf}
use Rattle.avro_schema_laws.proofs.Passing.{passed, passed_both, Faultless, Passes, none_left, passes_on, passes_both}
use Rattle.avro_schema_laws.proofs.Passing.{none_of, still_passed, is_passed, passed_cases, one_first_both}
use Rattle.avro_schema_laws.proofs.Passing.{one_second_both}
use Rattle.avro_schema_laws.proofs.Stops.{not_again}
use Rattle.avro_schema_laws.proofs.Matching.{met_on, Matches, matches_close}

-- ---- results in steps

pub steps : {A B E : Type 0} (P : A → Type 0) (G : E → Type 0) (Q : B → Type 0) (F : E → Type 0) (r : Result A E)
    (f : A → Result B E) → MatchResult r P G → ((e : E) → G e → F e) → ((x : A) → P x → MatchResult (f x) Q F)
    → MatchResult (r >>= f) Q F
steps P G Q F (Ok x) f h g k = k x h
steps P G Q F (Err e) f h g k = g e h

pub asked_steps : {A B : Type 0} (Q : B → Type 0) (F : SchemaFault → Type 0) (o : Option A)
    (f : A → Result B SchemaFault) → (o ≡ None → F UnknownType) → ((x : A) → o ≡ Some x → MatchResult (f x) Q F)
    → MatchResult (asked o >>= f) Q F
asked_steps Q F None f h k = h refl
asked_steps Q F (Some x) f h k = k x refl

pub both_hold : {A E : Type 0} (P Q : A → Type 0) (F G : E → Type 0) (r : Result A E) → MatchResult r P F
    → MatchResult r Q G → MatchResult r (λ x. P x × Q x) F
both_hold P Q F G (Ok x) h k = (h, k)
both_hold P Q F G (Err e) h k = h

-- ---- the walk comes to all types

abbrev pub Covers : List Stop → List ℕ → Data → Type 0
Covers stops space d = (place last : List ℕ) (e : Data) → At place space d last e
    → (p : Place) × ((p.space ≡ last) × OneOf (at_type p e) stops)

abbrev pub CoversAll : List Stop → List Node → Type 0
CoversAll stops ns = (i : ℕ) (n : Node) → Nth i n ns → Covers stops n.0 n.1

pub covers_type : (p : Place) (space : List ℕ) (d : Data) (stops : List Stop) → p.space ≡ space
    → CoversAll stops (parts_in space d) → Covers (at_type p d ∷ stops) space d
covers_type p space d stops is all place last e root = (p, (is, first_one))
covers_type p space d stops is all place last e (below {i} {place = more} {n} nth at) =
    let r = all i n nth more last e at in (r.0, (r.1.0, later_one r.1.1))

pub covers_none : (stops : List Stop) (ns : List Node) → ns ≡ [] → CoversAll stops ns
covers_none stops ns is i n nth = absurd (no_nth i n ns is nth)

covers_first : (one other : List Stop) (space : List ℕ) (d : Data) → Covers one space d
    → Covers (one ++ other) space d
covers_first one other space d all place last e at = let r = all place last e at in
    (r.0, (r.1.0, one_first_both (at_type r.0 e) one other r.1.1))

covers_second : (one other : List Stop) (space : List ℕ) (d : Data) → Covers other space d
    → Covers (one ++ other) space d
covers_second one other space d all place last e at = let r = all place last e at in
    (r.0, (r.1.0, one_second_both (at_type r.0 e) one other r.1.1))

pub covers_both : (one other : List Stop) (n : Node) (ns : List Node) → Covers one n.0 n.1 → CoversAll other ns
    → CoversAll (one ++ other) (n ∷ ns)
covers_both one other n ns h all i m first_part = covers_first one other n.0 n.1 h
covers_both one other n ns h all i m (later_part {i = j} nth) = covers_second one other m.0 m.1 (all j m nth)

pub covers_behind : (s : Stop) (stops : List Stop) (ns : List Node) → CoversAll stops ns → CoversAll (s ∷ stops) ns
covers_behind s stops ns all i n nth place last e at = let r = all i n nth place last e at in
    (r.0, (r.1.0, later_one r.1.1))

-- ---- walks that were taken

pub record Done (before stops : List Stop) (records : List (List ℕ)) (space : List ℕ) (d : Data) (q : Seen) : Type 0
  where
    pub passes : Passes before stops
    pub matches : Matches (passed before stops) records q
    pub covers : Covers stops space d

pub record AllDone (before stops : List Stop) (records : List (List ℕ)) (ns : List Node) (q : Seen) : Type 0 where
  pub passes : Passes before stops
  pub matches : Matches (passed before stops) records q
  pub covers : CoversAll stops ns

pub done_both : (before one other : List Stop) (records : List (List ℕ)) (n : Node) (ns : List Node) (q g : Seen)
    → Done before one records n.0 n.1 q → AllDone (passed before one) other records ns g
    → AllDone before (one ++ other) records (n ∷ ns) g
done_both before one other records n ns q g h k = record {
  passes = passes_both before one other h.passes k.passes;
  matches = rw (passed_both before one other) k.matches;
  covers = covers_both one other n ns h.covers k.covers;
}

-- a type that has no name, and the parts in it
pub done_type : (before stops : List Stop) (p : Place) (d : Data) (q : Seen) → Faultless before (at_type p d)
    → AllDone (at_type p d ∷ before) stops p.records (parts_in p.space d) q
    → Done before (at_type p d ∷ stops) p.records p.space d q
done_type before stops p d q free h = record {
  passes = passes_on free h.passes;
  matches = h.matches;
  covers = covers_type p p.space d stops refl h.covers;
}

pub done_leaf : (before : List Stop) (p : Place) (d : Data) (q : Seen) → Faultless before (at_type p d)
    → parts_in p.space d ≡ [] → Matches (at_type p d ∷ before) p.records q
    → Done before (at_type p d ∷ []) p.records p.space d q
done_leaf before p d q free none m = record {
  passes = passes_on free none_left;
  matches = m;
  covers = covers_type p p.space d [] refl (covers_none [] (parts_in p.space d) none);
}

-- ---- definitions

never_again : (before stops : List Stop) (name : List ℕ) (p : Place) (d : Data) → Passes before stops
    → Met before name → OneOf (at_type p d) stops → Defines p.space d name → ⊥
never_again before stops name p d none_left met one makes = none_of (at_type p d) [] refl one
never_again before stops name p d (passes_on free rest) met first_one makes = not_again before p d name free makes met
never_again before stops name p d (passes_on {more} {s} free rest) met (later_one one) makes =
    never_again (s ∷ before) more name p d rest (met_on s before name met) one makes

-- a type as it was taken, before its own definition is over
pub data Almost (before : List Stop) (p : Place) (d : Data) (s : Seen) (stops : List Stop) (x : Tree × Seen) : Type 0
  where
    no_name : Done before (at_type p d ∷ stops) p.records p.space d x.1 → Almost before p d s stops x
    with_name : {own : List ℕ} {q : Seen} → Defines p.space d own → lookup own s.names ≡ None
        → Faultless before (at_type p d)
        → AllDone (at_type p d ∷ before) stops (own ∷ p.records) (parts_in p.space d) q
        → Closes own x.0 q.names x.1.names → x.1.left ≡ q.left → Almost before p d s stops x

own_stands : (before stops : List Stop) (p q : Place) (d e : Data) (s : Seen) (x : Tree × Seen) (own : List ℕ)
    (names : Meaning) → Matches before p.records s → lookup own s.names ≡ None → Defines p.space d own
    → Passes (at_type p d ∷ before) stops → Took p.space d s.names x.0 x.1.names → Agrees names x.1.names
    → OneOf (at_type q e) (at_type p d ∷ before) ⊎ OneOf (at_type q e) stops → Defines q.space e own
    → Stands names q.space e x.0
own_stands before stops p q d e s x own names m new makes passes took agree (inl first_one) own_too =
    took_stands took names agree
own_stands before stops p q d e s x own names m new makes passes took agree (inl (later_one one)) own_too =
    absurd (m.unmet own new (q, e, one, own_too))
own_stands before stops p q d e s x own names m new makes passes took agree (inr one) own_too =
    absurd (never_again (at_type p d ∷ before) stops own q e passes (p, d, first_one, makes) one own_too)

pub finish : (before stops : List Stop) (p : Place) (d : Data) (s : Seen) (x : Tree × Seen) → Matches before p.records s
    → Took p.space d s.names x.0 x.1.names → Almost before p d s stops x
    → Done before (at_type p d ∷ stops) p.records p.space d x.1
finish before stops p d s x m took (no_name h) = h
finish before stops p d s x m took (with_name {own} {q} makes new free all closed left) = record {
  passes = passes_on free all.passes;
  matches = matches_close (passed (at_type p d ∷ before) stops) p.records own x.0 q x.1 all.matches closed left
      (λ h. not_both (lookup own s.names) None new (m.opened own h)) (λ names of. agrees names of)
      (λ names r e agree one own_too. own_stands before stops p r d e s x own names m new makes all.passes took agree
      (passed_cases (at_type r e) (at_type p d ∷ before) stops one) own_too);
  covers = covers;
}
  where
    covers : Covers (at_type p d ∷ stops) p.space d
    covers = covers_type p p.space d stops refl all.covers

    outer : (names : Meaning) → NamesOf (passed (at_type p d ∷ before) stops) p.records names
        → NamesOf before p.records names
    outer names of r e name one own_too over = of r e name (still_passed (at_type r e) (at_type p d ∷ before) stops
        (later_one one)) own_too over

    complete : (names : Meaning) → NamesOf (passed (at_type p d ∷ before) stops) p.records names
        → Complete names p.space d
    complete names of place last name e at own_too =
        let r = covers place last e at in
        let h = of r.0 e name (is_passed (at_type r.0 e) before (at_type p d ∷ stops) r.1.1) (rw r.1.0 own_too)
        (λ inner. not_both (lookup name s.names) None (took_new took place last e name at own_too)
        (m.opened name inner)) in
        (h.0, (h.1.0, rw r.1.0 at h.1.1))

    agrees : (names : Meaning) → NamesOf (passed (at_type p d ∷ before) stops) p.records names
        → Agrees names x.1.names
    agrees names of = (took_same took names (complete names of) (m.agrees names (outer names of))).1
