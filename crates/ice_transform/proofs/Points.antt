-- The first code points of a text.
use Rattle.std.proofs.Common.{◌≡◌, ℕ, zero, suc, ◌+◌, ◌/◌, ◌%◌, ◌<◌, ◌≤◌, Bool, true, false, ◌&&◌, cond, ltb, List, []}
use Rattle.std.proofs.Common.{◌∷◌, ◌++◌, length, take, refl, ap, arith, sym, ◌∙◌}
use Rattle.std.specs.Str.{continuation_len, IsUtf8, IsCharBoundary, chars}
use Rattle.std.proofs.Math.Utf8.{encode, encodes, scalar, scalars}
use Rattle.std.proofs.lemmas.Bool.Decides.{nat_tests}
use Rattle.std.proofs.lemmas.Str.{IsCharBoundary-from_take, chars-encodes}
use Rattle.ice_transform.specs.Cuts.{points_from, first_points, ends_points, has_points}

-- a lead byte, and as many bytes as it says
Point : List ℕ → Type 0
Point xs = (b : ℕ) × (bs : List ℕ) × (xs ≡ b ∷ bs) × (length bs ≡ continuation_len b)

one_more : (b : ℕ) → 192 ≤ b → b < 224 → 1 ≡ continuation_len b
one_more b h l = grind (arith, nat_tests)

two_more : (b : ℕ) → 224 ≤ b → b < 240 → 2 ≡ continuation_len b
two_more b h l = grind (arith, nat_tests)

three_more : (b : ℕ) → 240 ≤ b → 3 ≡ continuation_len b
three_more b h = grind (arith, nat_tests)

low : (c n : ℕ) → ltb c n ≡ true → c < n
low c n h = grind (arith, nat_tests)

high : (c n : ℕ) → ltb c n ≡ false → n ≤ c
high c n h = grind (arith, nat_tests)

encode_point : (c : ℕ) → Point (encode c)
unfolding encode Point
encode_point c = go (ltb c 128) refl (ltb c 2048) refl (ltb c 65536) refl where
  after : ℕ → ℕ
  after bits = 128 + bits % 64

  go : (x : Bool) → ltb c 128 ≡ x → (y : Bool) → ltb c 2048 ≡ y → (z : Bool) → ltb c 65536 ≡ z →
      Point (cond x (c ∷ []) (cond y ((192 + c / 64) ∷ (128 + c % 64) ∷ [])
      (cond z ((224 + c / 4096) ∷ (128 + c / 64 % 64) ∷ (128 + c % 64) ∷ [])
      ((240 + c / 262144) ∷ (128 + c / 4096 % 64) ∷ (128 + c / 64 % 64) ∷ (128 + c % 64) ∷ []))))
  go true p y q z r = (c, [], refl, (rw p refl))
  go false p true q z r = let l = low c 2048 q in let h = high c 128 p in
      (192 + c / 64, _, refl, one_more (192 + c / 64) (omega arith) (omega arith))
  go false p false q true r = let l = low c 65536 r in (
    224 + c / 4096,
    _,
    refl,
    two_more (224 + c / 4096) (omega arith)
        (omega arith),
  )
  go false p false q false r = (240 + c / 262144, _, refl, three_more (240 + c / 262144) (omega arith))

pass_open : (w : ℕ) (bs rest : List ℕ) → points_from w (length bs) (bs ++ rest) ≡ bs ++ points_from w 0 rest
pass_open w [] rest = refl
pass_open w (b ∷ bs) rest = ap (λ x. b ∷ x) (pass_open w bs rest)

point_ahead : (w c : ℕ) (rest : List ℕ) → points_from (suc w) 0 (encode c ++ rest) ≡ encode c ++ points_from w 0 rest
unfolding Point
point_ahead w c rest =
    let s = encode_point c in
    ap (λ xs. points_from (suc w) 0 (xs ++ rest)) s.2
    ∙ ap (λ k. s.0 ∷ points_from w k (s.1 ++ rest)) (sym s.3)
    ∙ ap (λ l. s.0 ∷ l) (pass_open w s.1 rest)
    ∙ ap (λ xs. xs ++ points_from w 0 rest) (sym s.2)

none_left : (s : List ℕ) → points_from 0 0 s ≡ []
none_left [] = refl
none_left (b ∷ s) = refl

-- the first code points, written
pub points-encodes : (w : ℕ) (cs : List ℕ) → first_points w (encodes cs) ≡ encodes (take w cs)
points-encodes zero cs = none_left (encodes cs)
points-encodes (suc w) [] = refl
points-encodes (suc w) (c ∷ cs) = point_ahead w c (encodes cs) ∙ ap (λ l. encode c ++ l) (points-encodes w cs)

and_parts : (a b : Bool) → (a && b) ≡ true → (a ≡ true) × (b ≡ true)
and_parts true b h = (refl, h)
and_parts false b h = absurd cc

scalars-take : (w : ℕ) (cs : List ℕ) → scalars cs ≡ true → scalars (take w cs) ≡ true
scalars-take zero cs h = refl
scalars-take (suc w) [] h = refl
scalars-take (suc w) (c ∷ cs) h =
    let p = and_parts (scalar c) (scalars cs) h in
    let r = scalars-take w cs p.1 in
    rw (p.0, r) refl

-- the first code points of a text are a text
pub points_IsUtf8 : (w : ℕ) (bs : List ℕ) → IsUtf8 bs → IsUtf8 (first_points w bs)
points_IsUtf8 w bs u = (take w u.0, (scalars-take w u.0 u.1.0, sym (points-encodes w u.0) ∙ ap (first_points w) u.1.1))

-- a text may be cut behind its first code points
pub cut_boundary : (bs : List ℕ) (w i : ℕ) → IsUtf8 bs → i ≤ length bs → take i bs ≡ first_points w bs
    → IsCharBoundary bs i
cut_boundary bs w i u le e =
    let front : IsUtf8 (take i bs) = (
      take w u.0,
      (
        scalars-take w u.0 u.1.0,
        sym (points-encodes w u.0) ∙ ap
            (first_points w) u.1.1 ∙ sym e,
      ),
    ) in
    IsCharBoundary-from_take bs i u le front

ends_open : (w : ℕ) (bs rest : List ℕ) → ends_points w (length bs) (bs ++ rest) ≡ ends_points w 0 rest
ends_open w [] rest = refl
ends_open zero (b ∷ bs) rest = ends_open zero bs rest
ends_open (suc w) (b ∷ bs) rest = ends_open (suc w) bs rest

ends_ahead : (w c : ℕ) (rest : List ℕ) → ends_points (suc w) 0 (encode c ++ rest) ≡ ends_points w 0 rest
unfolding Point
ends_ahead w c rest =
    let s = encode_point c in
    ap (λ xs. ends_points (suc w) 0 (xs ++ rest)) s.2
    ∙ ap (λ k. ends_points w k (s.1 ++ rest)) (sym s.3)
    ∙ ends_open w s.1 rest

ends_within : (w : ℕ) (cs : List ℕ) → ends_points w 0 (encodes cs) ≡ true → w ≤ length cs
ends_within zero cs h = omega arith
ends_within (suc w) [] h = absurd cc
ends_within (suc w) (c ∷ cs) h = let r = ends_within w cs (sym (ends_ahead w c (encodes cs)) ∙ h) in omega arith

ends_there : (w : ℕ) (cs : List ℕ) → w ≤ length cs → ends_points w 0 (encodes cs) ≡ true
ends_there zero cs h = refl
ends_there (suc w) [] h = absurd (omega arith)
ends_there (suc w) (c ∷ cs) h = ends_ahead w c (encodes cs) ∙ ends_there w cs (omega arith)

-- the words, of a text
pub points_of_text : (w : ℕ) (text : List ℕ) → IsUtf8 text → first_points w text ≡ encodes (take w (chars text))
points_of_text w text u =
    let back : chars text ≡ u.0 = ap chars (sym u.1.1) ∙ chars-encodes u.0 u.1.0 in
    ap (first_points w) (sym u.1.1) ∙ points-encodes w u.0 ∙ ap (λ cs. encodes (take w cs)) (sym back)

pub text_has_points : (w : ℕ) (text : List ℕ) → IsUtf8 text
    → ((has_points w text ≡ true) → w ≤ length (chars text)) × (w ≤ length (chars text) → has_points w text ≡ true)
text_has_points w text u =
    let back : chars text ≡ u.0 = ap chars (sym u.1.1) ∙ chars-encodes u.0 u.1.0 in (
      λ h. rw back (ends_within w u.0 (ap (has_points w) u.1.1 ∙ h)),
      λ h. ap (has_points w) (sym u.1.1) ∙ ends_there w
          u.0 (rw back at h),
    )
