-- Marks.
use Rattle.std.proofs.Common.{◌≡◌, ℕ, ◌==◌, ◌&&◌, Bool, true, false, List, [], ◌∷◌, refl, sym, ap, cond, Some}
use Rattle.std.proofs.lemmas.Bool.{eqb-true}
use Rattle.ice_filter.specs.declared.token.Comparison.TheVariants.{Less, AtMost, Greater, AtLeast, Equal, NotEqual}
use Rattle.ice_filter.specs.declared.token.Token.{Token}
use Rattle.ice_filter.specs.declared.token.Token.TheVariants as token
use Rattle.ice_filter.specs.Lexing.{Sized, is_equals, second_is, mark_at, front_at}
use Rattle.ice_filter_laws.specs.Spelling.{Spells, Fits}
use Rattle.ice_filter_laws.proofs.Passing.{Stops}
use Rattle.ice_filter_laws.proofs.Reading.{IsRead, Reading, IsFound, IsFoundIfGood}

abbrev pub no_byte : ℕ → Bool
no_byte b = false

pub open_read : Reading no_byte (40 ∷ []) token.Open
unfolding front_at mark_at
open_read = record { read = λ rest h. (refl, refl, λ f. refl); longer = λ next rest e. absurd (cc) }

pub close_read : Reading no_byte (41 ∷ []) token.Close
unfolding front_at mark_at
close_read = record { read = λ rest h. (refl, refl, λ f. refl); longer = λ next rest e. absurd (cc) }

pub comma_read : Reading no_byte (44 ∷ []) token.Comma
unfolding front_at mark_at
comma_read = record { read = λ rest h. (refl, refl, λ f. refl); longer = λ next rest e. absurd (cc) }

pub dot_read : Reading no_byte (46 ∷ []) token.Dot
unfolding front_at mark_at
dot_read = record { read = λ rest h. (refl, refl, λ f. refl); longer = λ next rest e. absurd (cc) }

pub equal_read : Reading no_byte (61 ∷ []) (token.Sign Equal)
unfolding front_at mark_at
equal_read = record { read = λ rest h. (refl, refl, λ f. refl); longer = λ next rest e. absurd (cc) }

pub not_equal_read : Reading no_byte (33 ∷ 61 ∷ []) (token.Sign NotEqual)
unfolding front_at mark_at
not_equal_read = record { read = λ rest h. (refl, refl, λ f. refl); longer = λ next rest e. absurd (cc) }

pub at_most_read : Reading no_byte (60 ∷ 61 ∷ []) (token.Sign AtMost)
unfolding front_at mark_at
at_most_read = record { read = λ rest h. (refl, refl, λ f. refl); longer = λ next rest e. absurd (cc) }

pub at_least_read : Reading no_byte (62 ∷ 61 ∷ []) (token.Sign AtLeast)
unfolding front_at mark_at
at_least_read = record { read = λ rest h. (refl, refl, λ f. refl); longer = λ next rest e. absurd (cc) }

less_alone : (rest : List ℕ) → Stops is_equals rest → IsRead (60 ∷ []) (token.Sign Less) rest
unfolding front_at mark_at
less_alone [] h = (refl, refl, λ f. refl)
less_alone (c ∷ cs) h = (refl, rw h refl, λ f. rw h refl)

pub less_read : Reading is_equals (60 ∷ []) (token.Sign Less)
less_read = record {
  read = less_alone;
  longer = λ next rest e. ([], token.Sign AtMost, ap (λ (c : ℕ). Some (60 ∷ c ∷ [])) (sym (eqb-true next 61 e)));
}

greater_alone : (rest : List ℕ) → Stops is_equals rest → IsRead (62 ∷ []) (token.Sign Greater) rest
unfolding front_at mark_at
greater_alone [] h = (refl, refl, λ f. refl)
greater_alone (c ∷ cs) h = (refl, rw h refl, λ f. rw h refl)

pub greater_read : Reading is_equals (62 ∷ []) (token.Sign Greater)
greater_read = record {
  read = greater_alone;
  longer = λ next rest e. ([], token.Sign AtLeast, ap (λ (c : ℕ). Some (62 ∷ c ∷ [])) (sym (eqb-true next 61 e)));
}

-- ---- what is found

pub stops_at_once : (rest : List ℕ) → Stops no_byte rest
stops_at_once [] = tt
stops_at_once (c ∷ cs) = refl

-- a mark of one byte
one : (b q : ℕ) (bs : List ℕ) (t : Token) (on : ℕ → Bool) → (b == q) ≡ true → Spells (q ∷ []) t → Fits t
    → Reading on (q ∷ []) t → Stops on bs → IsFound (b ∷ bs) (t, 1)
one b q bs t on e h f r s = record {
  spelling = q ∷ [];
  rest = bs;
  split = ap (λ x. x ∷ bs) (eqb-true b q e);
  size = refl;
  spelled = h;
  fits = f;
  on = on;
  reading = r;
  stops = s;
}

-- a mark of two bytes, the second =
two : (b q : ℕ) (bs : List ℕ) (t : Token) → (b == q) ≡ true → second_is is_equals (b ∷ bs) ≡ true
    → Spells (q ∷ 61 ∷ []) t → Fits t → Reading no_byte (q ∷ 61 ∷ []) t → IsFound (b ∷ bs) (t, 2)
two b q [] t e k h f r = absurd (cc)
two b q (c ∷ cs) t e k h f r =
    let same : b ≡ q = eqb-true b q e in
    let equals : c ≡ 61 = eqb-true c 61 k in
    record {
      spelling = q ∷ 61 ∷ [];
      rest = cs;
      split = rw (same, equals) refl;
      size = refl;
      spelled = h;
      fits = f;
      on = no_byte;
      reading = r;
      stops = stops_at_once cs;
    }

alone : (b : ℕ) (bs : List ℕ) → second_is is_equals (b ∷ bs) ≡ false → Stops is_equals bs
alone b [] e = tt
alone b (c ∷ cs) e = e

less_by : (b : ℕ) (bs : List ℕ) (t : Bool) → (b == 60) ≡ true → second_is is_equals (b ∷ bs) ≡ t
    → IsFound (b ∷ bs) (cond t (token.Sign AtMost, 2) (token.Sign Less, 1))
less_by b bs true e k = two b 60 bs (token.Sign AtMost) e k refl tt at_most_read
less_by b bs false e k = one b 60 bs (token.Sign Less) is_equals e refl tt less_read (alone b bs k)

greater_by : (b : ℕ) (bs : List ℕ) (t : Bool) → (b == 62) ≡ true → second_is is_equals (b ∷ bs) ≡ t
    → IsFound (b ∷ bs) (cond t (token.Sign AtLeast, 2) (token.Sign Greater, 1))
greater_by b bs true e k = two b 62 bs (token.Sign AtLeast) e k refl tt at_least_read
greater_by b bs false e k = one b 62 bs (token.Sign Greater) is_equals e refl tt greater_read (alone b bs k)

differs_by : (b : ℕ) (bs : List ℕ) (t u : Bool) → (b == 33) ≡ t → second_is is_equals (b ∷ bs) ≡ u
    → IsFoundIfGood (b ∷ bs) (cond (t && u) (token.Sign NotEqual, 2) (token.Bad, 1))
differs_by b bs true true e k good = two b 33 bs (token.Sign NotEqual) e k refl tt not_equal_read
differs_by b bs true false e k good = absurd (good refl)
differs_by b bs false u e k good = absurd (good refl)

abbrev last : ℕ → List ℕ → Sized
last b bs = cond (b == 33 && second_is is_equals (b ∷ bs)) (token.Sign NotEqual, 2) (token.Bad, 1)

mark_by : (b : ℕ) (bs : List ℕ) (t u v w x y z : Bool) → (b == 40) ≡ t → (b == 41) ≡ u → (b == 44) ≡ v
    → (b == 46) ≡ w → (b == 61) ≡ x → (b == 60) ≡ y → (b == 62) ≡ z
    → IsFoundIfGood (b ∷ bs) (mark_at b (b ∷ bs))
unfolding mark_at
mark_by b bs true u v w x y z et eu ev ew ex ey ez good = rw et (one b 40 bs token.Open no_byte et refl tt open_read
    (stops_at_once bs))
mark_by b bs false true v w x y z et eu ev ew ex ey ez good = rw (et, eu) (one b 41 bs token.Close no_byte eu refl tt
    close_read (stops_at_once bs))
mark_by b bs false false true w x y z et eu ev ew ex ey ez good = rw (et, eu, ev) (one b 44 bs token.Comma no_byte ev
    refl tt comma_read (stops_at_once bs))
mark_by b bs false false false true x y z et eu ev ew ex ey ez good = rw (et, eu, ev, ew) (one b 46 bs token.Dot no_byte
    ew refl tt dot_read (stops_at_once bs))
mark_by b bs false false false false true y z et eu ev ew ex ey ez good = rw (et, eu, ev, ew, ex) (one b 61 bs
    (token.Sign Equal) no_byte ex refl tt equal_read (stops_at_once bs))
mark_by b bs false false false false false true z et eu ev ew ex ey ez good = rw (et, eu, ev, ew, ex, ey) (less_by b bs
    (second_is is_equals (b ∷ bs)) ey refl)
mark_by b bs false false false false false false true et eu ev ew ex ey ez good = rw (et, eu, ev, ew, ex, ey, ez)
    (greater_by b bs (second_is is_equals (b ∷ bs)) ez refl)
mark_by b bs false false false false false false false et eu ev ew ex ey ez good =
    let h : (last b bs).0 ≡ token.Bad → ⊥ = rw (et, eu, ev, ew, ex, ey, ez) at good in
    rw (et, eu, ev, ew, ex, ey, ez) (differs_by b bs (b == 33) (second_is is_equals (b ∷ bs)) refl refl h)

pub mark_found : (b : ℕ) (bs : List ℕ) → IsFoundIfGood (b ∷ bs) (mark_at b (b ∷ bs))
mark_found b bs = mark_by b bs (b == 40) (b == 41) (b == 44) (b == 46) (b == 61) (b == 60) (b == 62) refl refl refl refl
    refl refl refl
