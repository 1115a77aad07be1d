-- Strings for which room was made are taken in, one after another.
use Rattle.std.proofs.Common.{◌≡◌, ℕ, zero, suc, ◌+◌, ◌≤◌, ◌⊎◌, inl, inr, Bool, true, false, ◌||◌}
use Rattle.std.proofs.Common.{if◌then◌else◌}
use Rattle.std.proofs.Common.{List, [], ◌∷◌, ◌++◌, length, refl, sym, ap, ◌∙◌, subst, arith, append-nil, append_assoc}
use Rattle.std.proofs.Common.{length-append}
use Rattle.std.specs.Prelude.{Result, Ok, Err, IsOk, OnOk}
use Rattle.std.specs.List.{AllByRecursion}
use Rattle.std.specs.Str.{bytes_eq}
use Rattle.std.specs.Cmp.Lexicographic.{same_text, other_text}
use Rattle.path_arena.specs.Strings.{Kept}
use Rattle.path_arena.specs.Arena.{Has, HasNot, HasRoom, Interned}
use Rattle.path_arena.specs.Runs.{has, new_to, bytes_of, Answers, Run, HasRoomFor}

either : (b : Bool) → (b ≡ true) ⊎ (b ≡ false)
either true = inl refl
either false = inr refl

left_false : (a b : Bool) → (a || b) ≡ false → a ≡ false
left_false true b e = e
left_false false b e = refl

right_false : (a b : Bool) → (a || b) ≡ false → b ≡ false
right_false true b e = cc
right_false false b e = e

right_true : (a b : Bool) → a ≡ false → (a || b) ≡ true → b ≡ true
right_true a b off e = sym (ap (λ c. c || b) off) ∙ e

has_yes : (ss : List (List ℕ)) (t : List ℕ) → has ss t ≡ true → Has ss t
has_yes [] t e = cc
has_yes (s ∷ ss) t e = elim (either (bytes_eq s t)) [
  | inl same ↦ (0, omega arith, same_text s t (sym same))
  | inr other ↦ let w = has_yes ss t (right_true (bytes_eq s t) (has ss t) other e) in
      (suc w.0, omega (arith, w.1), w.2)
]

has_no : (ss : List (List ℕ)) (t : List ℕ) → has ss t ≡ false → HasNot ss t
has_no [] t e i lt = absurd (omega arith)
has_no (s ∷ ss) t e zero lt = other_text s t (sym (left_false (bytes_eq s t) (has ss t) e))
has_no (s ∷ ss) t e (suc i) lt = has_no ss t (right_false (bytes_eq s t) (has ss t) e) i (omega arith)

new_known : (ss : List (List ℕ)) (t : List ℕ) (ts : List (List ℕ)) → has ss t ≡ true → new_to ss (t ∷ ts) ≡ new_to ss ts
new_known ss t ts e = ap (λ b. if b then new_to ss ts else t ∷ new_to (ss ++ t ∷ []) ts) e

new_first : (ss : List (List ℕ)) (t : List ℕ) (ts : List (List ℕ)) → has ss t ≡ false
    → new_to ss (t ∷ ts) ≡ t ∷ new_to (ss ++ t ∷ []) ts
new_first ss t ts e = ap (λ b. if b then new_to ss ts else t ∷ new_to (ss ++ t ∷ []) ts) e

on_ok : {A E : Type 0} {P : Type 0} (r : Result A E) → OnOk r P → IsOk r → P
on_ok (Ok a) p i = p
on_ok (Err e) p i = cc

put_last : (ss : List (List ℕ)) (s : List ℕ) (ts : List (List ℕ)) → HasNot ss s → Interned ss s ts → ts ≡ ss ++ s ∷ []
put_last ss s ts new w = elim w [ inl old ↦ absurd (new old.0.0 old.0.1 old.0.2) | inr last ↦ last.1 ]

room_known : (a b : Kept) (s : List ℕ) (ss : List (List ℕ)) → b ≡ a → has a.strings s ≡ true → HasRoomFor a (s ∷ ss)
    → HasRoomFor b ss
room_known a b s ss same e w =
    let less = new_known a.strings s ss e in
    subst (λ k. HasRoomFor k ss) (sym same) (
      omega (arith, w.0, ap length less),
      omega (arith, w.1, ap bytes_of less),
      omega (arith, w.2, ap length less),
      w.3.1,
    )

room_first : (a : Kept) (s : List ℕ) (ss : List (List ℕ)) → has a.strings s ≡ false → HasRoomFor a (s ∷ ss)
    → HasRoom a s
room_first a s ss e w =
    let more = new_first a.strings s ss e in (
      omega (arith, w.0, ap length more),
      omega (arith, w.1, ap bytes_of more),
      w.3.0,
      omega (arith, w.2, ap length more),
    )

room_rest : (a b : Kept) (s : List ℕ) (ss : List (List ℕ)) → has a.strings s ≡ false → b.strings ≡ a.strings ++ s ∷ []
    → a.ids ≤ b.ids + 1 → a.bytes ≤ b.bytes + length s → HasRoomFor a (s ∷ ss) → HasRoomFor b ss
room_rest a b s ss e last ids bytes w =
    let more = new_first a.strings s ss e in
    let rest : new_to b.strings ss ≡ new_to (a.strings ++ s ∷ []) ss = ap (λ l. new_to l ss) last in
    let long = ap length last in let one = length-append a.strings (s ∷ []) in (
      omega (arith, w.0, ap length more, ap length rest, ids),
      omega (arith, w.1, ap bytes_of more, ap bytes_of rest, bytes),
      omega (arith, w.2, ap length more, ap length rest, long, one),
      w.3.1,
    )

pub reserved : (a c : Kept) (ss : List (List ℕ)) (answers : Answers) → Run a ss answers c
    → HasRoomFor a ss
    → AllByRecursion IsOk answers × (c.strings ≡ a.strings ++ new_to a.strings ss)
reserved a c [] [] run w = (tt, ap Kept.strings run ∙ sym (append-nil a.strings))
reserved a c [] (answer ∷ answers) run w = absurd run
reserved a c (s ∷ ss) [] run w = absurd run
reserved a c (s ∷ ss) (answer ∷ answers) run w =
    let b = run.0 in let step = run.1 in elim (either (has a.strings s)) [
      | inl old ↦
          let known = step.1 (has_yes a.strings s old) in
          let rest = reserved b c ss answers run.2 (room_known a b s ss known.1 old w) in
          let same = ap Kept.strings known.1 in (
            (known.0, rest.0),
            rest.1 ∙ (λ i. same i ++ new_to (same i) ss)
                ∙ ap (λ l. a.strings ++ l) (sym (new_known a.strings s ss old)),
          )
      | inr new ↦
          let ok = step.2 (room_first a s ss new w) in
          let last = put_last a.strings s b.strings (has_no a.strings s new) (on_ok answer step.0 ok) in
          let rest = reserved b c ss answers run.2 (room_rest a b s ss new last step.3.0 step.3.1 w) in (
            (ok, rest.0),
            rest.1 ∙ (λ i. last i ++ new_to (last i) ss)
                ∙ append_assoc a.strings (s ∷ []) (new_to (a.strings ++ s ∷ []) ss)
                ∙ ap (λ l. a.strings ++ l) (sym (new_first a.strings s ss new)),
          )
    ]
