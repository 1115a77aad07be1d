-- How often a path was counted, in a map whose keys are byte strings.
use Rattle.std.proofs.Common.{◌≡◌, ℕ, ◌+◌, Bool, true, false, cond, List, Option, Some, Vec, Global}
use Rattle.std.proofs.Common.{refl, sym, ap, ◌∙◌, subst, arith, BuildHasherDefault, FoldHasher}
use Rattle.std.specs.Prelude.{unwrap_or}
use Rattle.std.specs.HashMap as hash
use Rattle.std.specs.HashMap.{HashMap}
use Rattle.std.specs.Cmp.Lexicographic.{nat_list_eq_equiv}
use Rattle.std.specs.Map.{AreApart, IsKeyTest, KeepsOthers, lookup}
use Rattle.std.specs.Str.{bytes_eq}
use Rattle.std.proofs.lemmas.Slice.Eq.{bytes_eq-Decides}
use Rattle.icescan_explain.specs.Applying.{times_in}
use Rattle.icescan_explain.specs.declared.applied.Applied.{Applied}

apart : (bs cs ks : List ℕ) → bytes_eq bs cs ≡ false → bytes_eq bs ks ≡ true → bytes_eq cs ks ≡ false
apart bs cs ks n y = nat_list_eq_equiv.symm cs ks ∙ sym (nat_list_eq_equiv.congr bs ks cs y) ∙ n

module _ {K : Type 0} (eq : K → K → Bool) (test : K → Bool) where
  other_entries : {X : Type 0} (old new : List (K × X)) → KeepsOthers eq test old new → (other : K → Bool)
      → IsKeyTest eq other → AreApart test other → lookup other new ≡ lookup other old
  unfolding KeepsOthers
  other_entries old new h = h

abbrev pub Keyed : Type 0
Keyed = HashMap (Vec ℕ Global) ℕ (BuildHasherDefault FoldHasher)

abbrev pub same : Vec ℕ Global → Vec ℕ Global → Bool
same x y = bytes_eq x.items y.items

abbrev pub at_bytes : Keyed → List ℕ → Option ℕ
at_bytes m bs = hash.get_by (λ k. bytes_eq bs k.items) m

-- what a map has at any bytes, where it has something new at some
pub updates : (bs : List ℕ) (m n : Keyed) (w : Option ℕ)
    → hash.UpdatesBy same (λ k. bytes_eq bs k.items) m n w
    → (cs : List ℕ) → at_bytes n cs ≡ cond (bytes_eq cs bs) w (at_bytes m cs)
updates bs m n w h cs = go (bytes_eq bs cs) refl where
  turned : bytes_eq cs bs ≡ bytes_eq bs cs
  turned = nat_list_eq_equiv.symm cs bs

  go : (b : Bool) → bytes_eq bs cs ≡ b → at_bytes n cs ≡ cond (bytes_eq cs bs) w (at_bytes m cs)
  go true e = let same : bs ≡ cs = (bytes_eq-Decides bs cs).0 e in
      rw (turned, e) (subst (λ q. at_bytes n q ≡ w) same h.1)
  go false e = rw (turned, e)
      (other_entries _ _ _ _ h.3 _ (λ x y. nat_list_eq_equiv.congr cs x.items y.items)
      (λ k. apart bs cs k.items e))

pub more : (bs : List ℕ) (n : ℕ) (a b : Applied)
    → hash.UpdatesBy same (λ k. bytes_eq bs k.items) a.counts b.counts (Some (times_in a bs + n))
    → (cs : List ℕ) → times_in b cs ≡ times_in a cs + cond (bytes_eq cs bs) n 0
more bs n a b h cs = go (bytes_eq cs bs) refl where
  has : at_bytes b.counts cs ≡ cond (bytes_eq cs bs) (Some (times_in a bs + n)) (at_bytes a.counts cs)
  has = updates bs a.counts b.counts (Some (times_in a bs + n)) h cs

  go : (t : Bool) → bytes_eq cs bs ≡ t → times_in b cs ≡ times_in a cs + cond t n 0
  go true e =
      let same : cs ≡ bs = (bytes_eq-Decides cs bs).0 e in
      let there : at_bytes b.counts cs ≡ Some (times_in a bs + n) = rw e at has in
      ap (λ o. unwrap_or o 0) there ∙ ap (λ q. times_in a q + n) (sym same)
  go false e =
      let there : at_bytes b.counts cs ≡ at_bytes a.counts cs = rw e at has in
      ap (λ o. unwrap_or o 0) there ∙ omega arith
