-- The first of several reasons.
use Rattle.std.proofs.Common.{◌≡◌, ℕ, zero, suc, List, [], ◌∷◌, take, refl, ap, ◌∙◌}
use Rattle.std.specs.Prelude.{Option, None, Some, slice_get}
use Rattle.std.specs.List.{AllByRecursion}
use Rattle.std.specs.Option.{option_or}
use Rattle.ice_catalog_changes.specs.declared.change.Commit.{Commit}
use Rattle.ice_catalog_changes.specs.declared.fault.PrepareFault.{PrepareFault}
use Rattle.ice_catalog_versions.specs.Refusals.{base_bad, path_taken, sorted_paths, first_reason, reasons, refusal}
use Rattle.ice_catalog_versions.specs.States.{State}

first_none : (reason : Option PrepareFault) (rs : List (Option PrepareFault)) → first_reason (reason ∷ rs) ≡ None
    → (reason ≡ None) × (first_reason rs ≡ None)
first_none None rs h = (refl, h)
first_none (Some f) rs h = absurd cc

all_none : (rs : List (Option PrepareFault)) → first_reason rs ≡ None → AllByRecursion (λ r. r ≡ None) rs
all_none [] h = tt
all_none (r ∷ rs) h = let parts = first_none r rs h in (parts.0, all_none rs parts.1)

-- where a commit isn't refused, no reason stands
pub none_stand : (s : State) (c : Commit) → refusal s c ≡ None → AllByRecursion (λ r. r ≡ None) (reasons s c)
unfolding refusal
none_stand s c h = all_none (reasons s c) h

-- the first that stands, at a place
stops_at : (n : ℕ) (rs : List (Option PrepareFault)) (f : PrepareFault) → AllByRecursion (λ r. r ≡ None) (take n rs)
    → slice_get rs n ≡ Some (Some f) → first_reason rs ≡ Some f
stops_at n [] f h e = absurd cc
stops_at zero (r ∷ rs) f h e = let same : r ≡ Some f = cc in ap (λ v. first_reason (v ∷ rs)) same
stops_at (suc n) (r ∷ rs) f h e = ap (λ v. first_reason (v ∷ rs)) h.0 ∙ stops_at n rs f h.1 e

pub refused_at : (n : ℕ) (s : State) (c : Commit) (f : PrepareFault)
    → AllByRecursion (λ r. r ≡ None) (take n (reasons s c)) → slice_get (reasons s c) n ≡ Some (Some f)
    → refusal s c ≡ Some f
unfolding refusal
refused_at n s c f h e = stops_at n (reasons s c) f h e

all_pass : (rs : List (Option PrepareFault)) → AllByRecursion (λ r. r ≡ None) rs → first_reason rs ≡ None
all_pass [] h = refl
all_pass (r ∷ rs) h = ap (λ v. first_reason (v ∷ rs)) h.0 ∙ all_pass rs h.1

pub not_refused : (s : State) (c : Commit) → AllByRecursion (λ r. r ≡ None) (reasons s c) → refusal s c ≡ None
unfolding refusal
not_refused s c h = all_pass (reasons s c) h

-- two reasons that are asked as one
pub both_none : (a b : Option PrepareFault) → option_or a b ≡ None → (a ≡ None) × (b ≡ None)
both_none None b h = (refl, h)
both_none (Some f) b h = absurd cc

pub refused_by : (s : State) (c : Commit) (f : PrepareFault) → AllByRecursion (λ r. r ≡ None) (take 7 (reasons s c))
    → option_or (base_bad s.world s.metadata.table) (path_taken s.world s.metadata.table (sorted_paths c.change)) ≡ Some
    f → refusal s c ≡ Some f
refused_by s c f h e = here (base_bad s.world s.metadata.table) refl e where
  here : (o : Option PrepareFault) → base_bad s.world s.metadata.table ≡ o
      → option_or o (path_taken s.world s.metadata.table (sorted_paths c.change)) ≡ Some f → refusal s c ≡ Some f
  here None was now = refused_at 8 s c f (
    h.0,
    (h.1.0, (h.1.1.0, (h.1.1.1.0, (h.1.1.1.1.0, (h.1.1.1.1.1.0, (h.1.1.1.1.1.1.0, (was, tt))))))),
  ) (ap Some now)
  here (Some g) was now = refused_at 7 s c f h (ap Some (was ∙ now))
