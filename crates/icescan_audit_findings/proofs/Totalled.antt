-- Totals of live files, and those of a summary that are false.
use Rattle.std.proofs.Common.{◌≡◌, ◌≢◌, ℕ, ℤ, pos, ◌+◌, ◌<◌, Bool, true, false, List, [], ◌∷◌, ◌++◌, length, drop}
use Rattle.std.proofs.Common.{get_or, ◌∙◌, refl, sym, ap, subst, add-one, arith, inl, inr, Decides}
use Rattle.std.specs.Prelude.{◌+ℤ◌}
use Rattle.std.specs.List.{Contains}
use Rattle.std.specs.Ordering.{int_eq}
use Rattle.std.proofs.Math.IntN.{+ℤ_assoc}
use Rattle.std.proofs.Math.Seq.{drop-cons}
use Rattle.std.proofs.lemmas.Int.{ints}
use Rattle.std.proofs.lemmas.Bool.Decides.{Decides-int_eq}
use Rattle.icescan_audit_findings.specs.declared.repeats.LiveFile.{LiveFile}
use Rattle.icescan_audit_findings.specs.declared.totals.FalseTotal.{FalseTotal}
use Rattle.icescan_audit_findings.specs.declared.totals.SaidTotal.{SaidTotal}
use Rattle.icescan_audit_findings.specs.declared.totals.Total.{Total}
use Rattle.icescan_audit_findings.specs.Totals.{IsFalse, false_total, false_totals, false_where, file_adds, total_of}
use Rattle.icescan_audit_findings.proofs.Members.{at_head, first_or_behind, from_flat, in_flat, in_none}

step_of : (xs : List LiveFile) (i : ℕ) (x : LiveFile) → i < length xs → x ≡ get_or xs i x
    → drop i xs ≡ x ∷ drop (i + 1) xs
step_of xs i x lt is = drop-cons xs i x lt ∙ rw (← is, add-one) refl

-- one file more
pub more_counted : (total : Total) (xs : List LiveFile) (i : ℕ) (x : LiveFile) (sum all : ℤ) → i < length xs
    → x ≡ get_or xs i x → sum +ℤ total_of total (drop i xs) ≡ all
    → (sum +ℤ file_adds total x) +ℤ total_of total (drop (i + 1) xs) ≡ all
more_counted total xs i x sum all lt is h =
    +ℤ_assoc sum (file_adds total x) (total_of total (drop (i + 1) xs)) ∙ (rw (step_of xs i x lt is) at h)

-- some files and then others
pub both_counted : (total : Total) (xs ys : List LiveFile) → total_of total (xs ++ ys)
    ≡ total_of total xs +ℤ total_of total ys
both_counted total [] ys =
    let sum : total_of total ys ≡ pos 0 +ℤ total_of total ys = omega (arith, ints) in
    sum
both_counted total (x ∷ xs) ys =
    ap (λ (z : ℤ). file_adds total x +ℤ z) (both_counted total xs ys)
    ∙ sym (+ℤ_assoc (file_adds total x) (total_of total xs) (total_of total ys))

-- ---- what is told as false

abbrev false_of : SaidTotal → ℤ → FalseTotal
false_of said counted = record { total = said.total; said = said.number; counted = counted }

told_where : (b : Bool) (said : SaidTotal) (counted : ℤ) (x : FalseTotal)
    → Decides b (pos said.number ≡ counted) → Contains (false_where b said counted) x
    → (false_of said counted ≡ x) × (pos said.number ≢ counted)
told_where true said counted x d c = absurd (in_none x c)
told_where false said counted x d c = elim (first_or_behind (false_of said counted) x [] c) as
    (λ _. (false_of said counted ≡ x) × (pos said.number ≢ counted)) [
      | inl same ↦ (same, λ e. (let bad : false ≡ true = d.1 e in absurd cc))
      | inr m ↦ absurd (in_none x m)
    ]

there_where : (b : Bool) (said : SaidTotal) (counted : ℤ) → Decides b (pos said.number ≡ counted)
    → pos said.number ≢ counted → Contains (false_where b said counted) (false_of said counted)
there_where true said counted d other = absurd (other (d.0 refl))
there_where false said counted d other = at_head (false_of said counted) []

pub from_false : (files : List LiveFile) (said : List SaidTotal) (x : FalseTotal)
    → Contains (false_totals files said) x → IsFalse files said x
from_false files said x c =
    let one = from_flat (false_total files) said x c in
    let s = one.0 in
    let counted = total_of s.total files in
    let told = told_where (int_eq (pos s.number) counted) s counted x (Decides-int_eq (pos s.number) counted) one.2 in
    subst (λ (y : FalseTotal). IsFalse files said y) told.0
    (record { is_said = one.1; is_counted = refl; other = told.1 })

pub to_false : (files : List LiveFile) (said : List SaidTotal) (x : FalseTotal) → IsFalse files said x
    → Contains (false_totals files said) x
to_false files said x h =
    let s : SaidTotal = record { total = x.total; number = x.said } in
    let counted = total_of x.total files in
    let same : false_of s counted ≡ x = ap (false_of s) (sym h.is_counted) in
    let other = subst (λ (z : ℤ). pos x.said ≢ z) h.is_counted h.other in
    in_flat (false_total files) said s x h.is_said
    (subst (λ (y : FalseTotal). Contains (false_total files s) y) same
    (there_where (int_eq (pos x.said) counted) s counted (Decides-int_eq (pos x.said) counted) other))
