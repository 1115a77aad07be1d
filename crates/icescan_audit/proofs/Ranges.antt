-- What is read of some rows, and of others behind them.
use Rattle.std.proofs.Common.{◌≡◌, ℕ, List, [], ◌∷◌, ◌++◌, refl, sym, ap, subst, ◌∙◌, arith}
use Rattle.std.proofs.Common.{Option, inl, inr, add_assoc, append_assoc}
use Rattle.std.proofs.lemmas.List.{length-append}
use Rattle.std.specs.Prelude.{Result, Ok, Err}
use Rattle.contract_words.specs.Outcome.{◌>>=◌}
use Rattle.icescan_audit_findings.specs.declared.basis.Basis.{Basis}
use Rattle.ice_desk.specs.Given.{Giving}
use Rattle.ice_desk.specs.Wanted.{paths_of}
use Rattle.ice_desk.specs.Worlds.{EndsAt}
use Rattle.ice_manifest_reading.specs.declared.row.Row.{Row}
use Rattle.ice_state.specs.Contents.{World}
use Rattle.icescan_text.proofs.Steps.{first_ends, step}
use Rattle.icescan_text.specs.Reads.{MayEnd}
use Rattle.icescan_text.specs.declared.fault.RunFault.{RunFault}
use Rattle.icescan_audit.specs.AnyFiles.{IsReadOf}
use Rattle.icescan_audit.specs.Audits.{joined, nothing, row_audit, rows_audit}
use Rattle.icescan_audit.specs.Readings.{ReadsRows}
use Rattle.icescan_audit.specs.declared.audit.Reading.{Reading}
use Rattle.icescan_audit.proofs.Steps.{join_nothing, later_row_ends}

joined_more : (a b c : Reading) → joined a (joined b c) ≡ joined (joined a b) c
joined_more a b c = simp (add_assoc, append_assoc)

-- ---- over files that tell their world

none_first : (r : Result Reading RunFault) → r ≡ (r >>= λ b. Ok (joined nothing b))
none_first (Ok b) = ap Ok (sym (join_nothing b))
none_first (Err e) = refl

one_first : (x y z : Result Reading RunFault)
    → (x >>= λ a. ((y >>= λ b. (z >>= λ c. Ok (joined b c))) >>= λ bc. Ok (joined a bc)))
    ≡ ((x >>= λ a. (y >>= λ b. Ok (joined a b))) >>= λ ab. (z >>= λ c. Ok (joined ab c)))
one_first (Err e) y z = refl
one_first (Ok a) (Err e) z = refl
one_first (Ok a) (Ok b) (Err e) = refl
one_first (Ok a) (Ok b) (Ok c) = ap Ok (joined_more a b c)

module _ (world : World) (basis : Basis) where
  -- what is read of them is read of the first ones, and then of the others
  parted : (xs ys : List Row) → rows_audit world basis (xs ++ ys)
      ≡ (rows_audit world basis xs >>= λ a. (rows_audit world basis ys >>= λ b. Ok (joined a b)))
  unfolding rows_audit
  parted [] ys = none_first (rows_audit world basis ys)
  parted (row ∷ xs) ys =
      ap (λ (found : Result Reading RunFault). row_audit world basis row >>= λ a. (found >>= λ bc. Ok (joined a bc)))
      (parted xs ys)
      ∙ one_first (row_audit world basis row) (rows_audit world basis xs) (rows_audit world basis ys)

  both_audited : (xs ys : List Row) (a b : Reading) → rows_audit world basis xs ≡ Ok a
      → rows_audit world basis ys ≡ Ok b → rows_audit world basis (xs ++ ys) ≡ Ok (joined a b)
  both_audited xs ys a b is has = parted xs ys ∙ rw (is, has) refl

  module _ (f : List ℕ → Type 0) where
    in_first : (xs ys : List Row) (path : List ℕ) → EndsAt world f (paths_of xs) path
        → EndsAt world f (paths_of (xs ++ ys)) path
    in_first [] ys path h = absurd h
    in_first (row ∷ xs) ys path (inl h) = inl h
    in_first (row ∷ xs) ys path (inr h) = inr (h.0, in_first xs ys path h.1)

    first_refuses : (xs ys : List Row) (e : RunFault)
        → MayEnd (rows_audit world basis xs) (EndsAt world f (paths_of xs)) ⊥ e
        → MayEnd (rows_audit world basis (xs ++ ys)) (EndsAt world f (paths_of (xs ++ ys))) ⊥ e
    first_refuses xs ys e h =
        subst (λ found. MayEnd found (EndsAt world f (paths_of (xs ++ ys))) ⊥ e) (sym (parted xs ys))
        (first_ends (EndsAt world f (paths_of (xs ++ ys))) ⊥ (EndsAt world f (paths_of xs))
        (rows_audit world basis xs) _ e (in_first xs ys) h)

    others_refuse : (xs ys : List Row) (read : Reading) (e : RunFault) → rows_audit world basis xs ≡ Ok read
        → MayEnd (rows_audit world basis ys) (EndsAt world f (paths_of ys)) ⊥ e
        → MayEnd (rows_audit world basis (xs ++ ys)) (EndsAt world f (paths_of (xs ++ ys))) ⊥ e
    unfolding rows_audit
    others_refuse [] ys read e is h = h
    others_refuse (row ∷ xs) ys read e is h =
        let one = step (row_audit world basis row) _ read is in
        let two = step (rows_audit world basis xs) _ read one.2 in
        later_row_ends f world basis row (xs ++ ys) one.0 e one.1 (others_refuse xs ys two.0 e two.1 h)

-- ---- over any files

both_read : (gives : Giving) (basis : Basis) (xs ys : List Row) (a b : Reading) → IsReadOf gives basis xs a
    → IsReadOf gives basis ys b
    → IsReadOf gives basis (xs ++ ys) (joined a b)
both_read gives basis [] ys a b none has =
    subst (IsReadOf gives basis ys) (sym (join_nothing b) ∙ ap (λ (x : Reading). joined x b) (sym none)) has
both_read gives basis (row ∷ xs) ys a b (first, others, one, rest, is) has = (
  first,
  joined others b,
  one,
  both_read gives basis xs ys others b rest has,
  ap (λ (x : Reading). joined x b) is ∙ sym (joined_more first others b),
)

-- ---- the answers for both

module _ (told : Option World) (f : List ℕ → Type 0) (gives : Giving) (basis : Basis) (rows xs ys : List Row)
    (whole : rows ≡ xs ++ ys) where
  pub refused_first : (e : RunFault) → ReadsRows told f gives basis xs (Err e)
      → ReadsRows told f gives basis rows (Err e)
  refused_first e r = subst (λ rs. ReadsRows told f gives basis rs (Err e)) (sym whole) (record {
    found = λ world is. tt;
    refused = λ world is. first_refuses world basis f xs ys e (r.refused world is);
    write = r.write;
    read = tt;
    stops = r.stops;
    few = tt;
  })

  pub refused_behind : (a : Reading) (e : RunFault) → ReadsRows told f gives basis xs (Ok a)
      → ReadsRows told f gives basis ys (Err e) → ReadsRows told f gives basis rows (Err e)
  refused_behind a e first r = subst (λ rs. ReadsRows told f gives basis rs (Err e)) (sym whole) (record {
    found = λ world is. tt;
    refused = λ world is. others_refuse world basis f xs ys a e (first.found world is) (r.refused world is);
    write = r.write;
    read = tt;
    stops = r.stops;
    few = tt;
  })

  pub reads_both : (a b : Reading) → ReadsRows told f gives basis xs (Ok a) → ReadsRows told f gives basis ys (Ok b)
      → ReadsRows told f gives basis rows (Ok (joined a b))
  reads_both a b first others = subst (λ rs. ReadsRows told f gives basis rs (Ok (joined a b))) (sym whole) (record {
    found = λ world is. both_audited world basis xs ys a b (first.found world is) (others.found world is);
    refused = λ world is. tt;
    write = λ is. absurd cc;
    read = both_read gives basis xs ys a b first.read others.read;
    stops = tt;
    few = (
      omega (arith, length-append xs ys, first.few.0, others.few.0),
      omega (arith, length-append xs ys, first.few.1, others.few.1),
    );
  })
