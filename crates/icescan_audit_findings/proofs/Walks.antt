-- Steps of the loops.
use Rattle.std.proofs.Common.{◌≡◌, ℕ, ◌<◌, ◌≤◌, ◌⊎◌, inl, inr, List, [], ◌∷◌, length, drop, refl, min, Bool}
use Rattle.std.proofs.Common.{true, false, nat_lt, arith}
use Rattle.std.proofs.lemmas.Bool.{ltb-true, ltb-false}
use Rattle.ice_value.specs.declared.cell.Cell.{Cell}
use Rattle.ice_value.specs.declared.file_bounds.Summary.{Summary}
use Rattle.ice_meta.specs.declared.spec.PartitionField.{PartitionField}
use Rattle.ice_manifest_fields.proofs.Steps.{end_of}
use Rattle.icescan_audit_findings.specs.declared.limits.FieldLimits.{FieldLimits}
use Rattle.icescan_audit_findings.specs.Coverage.{limits_in, outside, unbounded}
use Rattle.icescan_audit_findings.specs.FieldFlaws.{fields_flaws}
use Rattle.icescan_audit_findings.specs.declared.fields.SourceField.{SourceField}
use Rattle.ice_value.specs.declared.file_bounds.FileBounds.{FileBounds}

-- one of two lists ends where both are counted to the end of the shorter
pub some_end : (a b i : ℕ) → min a b ≤ i → (a ≤ i) ⊎ (b ≤ i)
some_end a b i h = go (nat_lt i a) refl where
  go : (t : Bool) → nat_lt i a ≡ t → (a ≤ i) ⊎ (b ≤ i)
  go true e = inr (let above : i < a = ltb-true i a e in omega arith)
  go false e = inl (ltb-false i a e)

no_more : (fs : List PartitionField) (ss : List Summary) → (fs ≡ []) ⊎ (ss ≡ []) → limits_in fs ss ≡ []
no_more [] ss h = refl
no_more (f ∷ fs) [] h = refl
no_more (f ∷ fs) (s ∷ ss) (inl h) = absurd cc
no_more (f ∷ fs) (s ∷ ss) (inr h) = absurd cc

pub limits_end : (fs : List PartitionField) (ss : List Summary) (i : ℕ) → (length fs ≤ i) ⊎ (length ss ≤ i)
    → limits_in (drop i fs) (drop i ss) ≡ []
limits_end fs ss i (inl h) = no_more (drop i fs) (drop i ss) (inl (end_of fs i h))
limits_end fs ss i (inr h) = no_more (drop i fs) (drop i ss) (inr (end_of ss i h))

none_outside : (ls : List FieldLimits) (ps : List Cell) → (ls ≡ []) ⊎ (ps ≡ []) → outside ls ps ≡ []
none_outside [] ps h = refl
none_outside (l ∷ ls) [] h = refl
none_outside (l ∷ ls) (p ∷ ps) (inl h) = absurd cc
none_outside (l ∷ ls) (p ∷ ps) (inr h) = absurd cc

pub outside_end : (ls : List FieldLimits) (ps : List Cell) (i : ℕ) → (length ls ≤ i) ⊎ (length ps ≤ i)
    → outside (drop i ls) (drop i ps) ≡ []
outside_end ls ps i (inl h) = none_outside (drop i ls) (drop i ps) (inl (end_of ls i h))
outside_end ls ps i (inr h) = none_outside (drop i ls) (drop i ps) (inr (end_of ps i h))

none_unbounded : (ls : List FieldLimits) (ps : List Cell) → (ls ≡ []) ⊎ (ps ≡ []) → unbounded ls ps ≡ []
none_unbounded [] ps h = refl
none_unbounded (l ∷ ls) [] h = refl
none_unbounded (l ∷ ls) (p ∷ ps) (inl h) = absurd cc
none_unbounded (l ∷ ls) (p ∷ ps) (inr h) = absurd cc

pub unbounded_end : (ls : List FieldLimits) (ps : List Cell) (i : ℕ) → (length ls ≤ i) ⊎ (length ps ≤ i)
    → unbounded (drop i ls) (drop i ps) ≡ []
unbounded_end ls ps i (inl h) = none_unbounded (drop i ls) (drop i ps) (inl (end_of ls i h))
unbounded_end ls ps i (inr h) = none_unbounded (drop i ls) (drop i ps) (inr (end_of ps i h))

none_flawed : (file : FileBounds) (fs : List SourceField) (ps : List Cell) → (fs ≡ []) ⊎ (ps ≡ [])
    → fields_flaws file fs ps ≡ []
none_flawed file [] ps h = refl
none_flawed file (f ∷ fs) [] h = refl
none_flawed file (f ∷ fs) (p ∷ ps) (inl h) = absurd cc
none_flawed file (f ∷ fs) (p ∷ ps) (inr h) = absurd cc

pub fields_end : (file : FileBounds) (fs : List SourceField) (ps : List Cell) (i : ℕ)
    → (length fs ≤ i) ⊎ (length ps ≤ i) → fields_flaws file (drop i fs) (drop i ps) ≡ []
fields_end file fs ps i (inl h) = none_flawed file (drop i fs) (drop i ps) (inl (end_of fs i h))
fields_end file fs ps i (inr h) = none_flawed file (drop i fs) (drop i ps) (inr (end_of ps i h))
