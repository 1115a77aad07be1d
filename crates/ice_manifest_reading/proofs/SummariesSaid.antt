-- What a record says as a summary, by what stands at its fields.
use Rattle.std.proofs.Common.{◌≡◌, ℕ, ℤ, pos, Bool, List, [], ◌∷◌, Option, Some, None, Result, Ok, Err, refl, sym, ap}
use Rattle.std.proofs.Common.{◌∙◌, inl, inr}
use Rattle.contract_words.specs.Outcome.{◌>>=◌}
use Rattle.avro_file.specs.Picking.{Typed, Picked, pick}
use Rattle.avro_file_picked.specs.Guides.{AreAsked}
use Rattle.ice_value.specs.declared.file_bounds.Summary.{Summary}
use Rattle.ice_manifest_fields.specs.declared.fault.FieldFault.{FieldFault}
use Rattle.ice_manifest_fields.specs.Fields.{at, there, asked, record_of, truth_of, binary_of}
use Rattle.ice_manifest_fields.specs.Fields.{truth_at, optional_truth, optional_binary}
use Rattle.ice_manifest_fields.specs.Naming.{in_list, lists_field, told}
use Rattle.ice_manifest_values.proofs.Itself.{RecordMet, record_met}
use Rattle.ice_manifest_reading.specs.Lists.{summary_in, summary_of}
use Rattle.ice_manifest_layouts.specs.RowsFound.{summary_ids}
use Rattle.ice_manifest_reading.specs.SummaryFieldPaths.{summary_field_paths}

abbrev summary : Bool → Option Bool → Option (List ℕ) → Option (List ℕ) → Summary
summary b n l u = record { contains_null = b; contains_nan = n; lower = l; upper = u }

abbrev with_others : Typed → Bool → Result Summary FieldFault
with_others x b =
    Ok (summary b (optional_truth (pos 518) x) (optional_binary (pos 510) x) (optional_binary (pos 511) x))

pub summary_made : (x : Typed) (b : Bool) (n : Option Bool) (l u : Option (List ℕ)) → Ok b ≡ truth_at (pos 509) x
    → n ≡ optional_truth (pos 518) x → l ≡ optional_binary (pos 510) x → u ≡ optional_binary (pos 511) x
    → told in_list (summary_in x) ≡ Ok (record { contains_null = b; contains_nan = n; lower = l; upper = u })
unfolding summary_in
summary_made x b n l u is nan low high =
    ap (λ (r : Result Bool FieldFault). told in_list (r >>= with_others x)) (sym is)
    ∙ sym (ap (λ (m : Option Bool). Ok (summary b m l u)) nan
    ∙ ap (λ (m : Option (List ℕ)). Ok (summary b (optional_truth (pos 518) x) m u)) low
    ∙ ap (λ (m : Option (List ℕ)). Ok (summary b (optional_truth (pos 518) x) (optional_binary (pos 510) x) m)) high)

pub summary_without_null : (x : Typed) (f : FieldFault) → Err f ≡ truth_at (pos 509) x
    → told in_list (summary_in x) ≡ Err (lists_field f)
unfolding summary_in
summary_without_null x f is = ap (λ (r : Result Bool FieldFault). told in_list (r >>= with_others x)) (sym is)

-- ---- an item of a list

pub all_asked : AreAsked summary_field_paths summary_ids
all_asked = (refl, (refl, (refl, (refl, tt))))

pub null_asked : (field_paths : List (List ℤ)) → AreAsked field_paths summary_ids → AreAsked field_paths (pos 509 ∷ [])
null_asked field_paths asked = (asked.0, tt)

pub nan_asked : (field_paths : List (List ℤ)) → AreAsked field_paths summary_ids → AreAsked field_paths (pos 518 ∷ [])
nan_asked field_paths asked = (asked.1.0, tt)

pub lower_asked : (field_paths : List (List ℤ)) → AreAsked field_paths summary_ids → AreAsked field_paths (pos 510 ∷ [])
lower_asked field_paths asked = (asked.1.1.0, tt)

pub upper_asked : (field_paths : List (List ℤ)) → AreAsked field_paths summary_ids → AreAsked field_paths (pos 511 ∷ [])
upper_asked field_paths asked = asked.1.1.1

abbrev summarized : Picked → Picked → Picked → Picked → Result Summary FieldFault
summarized b n l u = asked (pos 509) (truth_of (there b)) >>= λ holds. Ok (summary holds (truth_of (there n))
    (binary_of (there l)) (binary_of (there u)))

summarized_at : (x : Typed)
    → summary_in x ≡ summarized (at (pos 509) x) (at (pos 518) x) (at (pos 510) x) (at (pos 511) x)
unfolding summary_in
summarized_at x = refl

summarized_same : (x y : Typed) → ((id : ℤ) → at id y ≡ at id x) → summary_in x ≡ summary_in y
summarized_same x y same = summarized_at x
    ∙ ap (λ (p : Picked). summarized p (at (pos 518) x) (at (pos 510) x) (at (pos 511) x)) (sym (same (pos 509)))
    ∙ ap (λ (p : Picked). summarized (at (pos 509) y) p (at (pos 510) x) (at (pos 511) x)) (sym (same (pos 518)))
    ∙ ap (λ (p : Picked). summarized (at (pos 509) y) (at (pos 518) y) p (at (pos 511) x)) (sym (same (pos 510)))
    ∙ ap (λ (p : Picked). summarized (at (pos 509) y) (at (pos 518) y) (at (pos 510) y) p) (sym (same (pos 511)))
    ∙ sym (summarized_at y)

summarized_by : (y x : Typed) → record_of (there (pick [] y)) ≡ Some x → RecordMet y → summary_of y ≡ summary_in y
unfolding summary_of
summarized_by y x is (inl r) = ap (λ (o : Option Typed). asked (pos 508) o >>= summary_in) r.1
    ∙ summarized_same r.0 y r.2
summarized_by y x is (inr r) = let e : None ≡ Some x = sym r.0 ∙ is in absurd cc

-- where the item is a record, what it says stands at its own fields
pub summary_itself : (y x : Typed) → record_of (there (pick [] y)) ≡ Some x → summary_of y ≡ summary_in y
summary_itself y x is = summarized_by y x is (record_met y)
