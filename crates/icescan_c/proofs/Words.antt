-- The machine values of a `Handle`. Assumes `Logic`.
use Rattle.std.proofs.Common.{◌≡◌, ℕ, List, [], ◌∷◌, ◌++◌, refl, subst, lit<}
use mathlib.Core.Bool.{true, ◌&&◌}
use lib.Dec.{T}
use seplogic.Ra.Ura.{Ura}
use mir.Syntax.{impl, tnil, dnil}
use mir.Raw.{raw as bare}
use mir.Val.{Val, vptr, vnull, vstruct, of_list, has_ty, WT}
use base.Fraction.{full_share}
use base.Logic.{ent, guard, guard_i, id⊢, never, fst∗, snd∗, via}
use contract.Monad.{fact_use}
use types.Logic.{Logic, sem}
use types.Kit.{Item, Goal, Seq, Step, step, given, ‵, ◌$◌, move, drop, fsplit, fjoin, fpick, feq_i, feq_l, learn, use1}
use denote.RattleType.{RattleType}
use denote.Builtin.{RawPtr}
use denote.Memory.{lone}
use denote.RawPtr.{Ptr, block_ptr, null_ptr, ptr_val, in_a_block, lies_at, Testable}
use denote.Param.{layout}
use Rattle.core.proofs.alloc.Calls.{Al, handle_tells}
use Rattle.core.proofs.cell.Inside.{Good}
use Rattle.std.proofs.GlobalToken.{dealloc_token-Testable}
use Rattle.std.specs.declared.alloc.Global.{Global}
use Rattle.std.specs.declared.option.Option.{Option}
use Rattle.std.specs.declared.option.Option.TheVariants.{None, Some}
use Rattle.std.specs.contracts.alloc.Global as heap
use Rattle.std.proofs.alloc.Global.TheLaws as heap_laws
use Rattle.std.specs.contracts.impls.GlobalAllocator.TheImpl.{ghosts}
use Rattle.std_alloc.specs.Box.Ownership.{box_owns}
use Rattle.std_alloc.proofs.ResultValues.{and_tt}
use Rattle.icescan_c.specs.Handles.{held_at}
use Rattle.icescan_c.specs.contracts.held.Held as held
use Rattle.icescan_c.specs.contracts.handle.Handle as handle
use Rattle.icescan_c.proofs.Values.{both, two_in}

abbrev pub R : RattleType
R = held.the_row

abbrev pub Z : RattleType
Z = heap.the_row

abbrev al : Al
al = record { row = Z; laws = heap_laws.the_row_laws; g = ghosts; d = impl [] tnil dnil; drops = impl [] tnil dnil }

pub null_good : (h : Val) → Good (layout Z) h → T (has_ty (layout Z) h && true) × WT (both vnull h)
null_good h fits = (and_tt (has_ty (layout Z) h) fits.0, (record { fits = lit< tt }, (fits.1, tt)))

module _ {M : Type 1} {𝓤 : Ura M} (𝓛 : Logic 𝓤) where
  tested : (a : Global) (p : Ptr) (x : R.Denot)
      → ent 𝓤 (sem 𝓛 (box_owns (ghosts.dealloc_token a) R p x))
      (guard 𝓤 (Testable p) (sem 𝓛 (box_owns (ghosts.dealloc_token a) R p x)))
  tested a p x = fact_use 𝓤 (Testable p)
      (via 𝓤 _ (snd∗ 𝓤 (sem 𝓛 (lies_at R full_share p x)) (sem 𝓛 (ghosts.dealloc_token a (bare (lone R.mir)) p)))
      (dealloc_token-Testable 𝓛 a (bare (lone R.mir)) p))
      (guard_i 𝓤 (Testable p) (sem 𝓛 (box_owns (ghosts.dealloc_token a) R p x)))

-- null, or a box
module _ {M : Type 1} {𝓤 : Ura M} {𝓛 : Logic 𝓤} {K : Type 0} {Γ : List (Item 𝓤)} {G : Goal 𝓤 𝓛.H} where
  held_out : K → (a : Global) (p : Ptr) (s : Option R.Denot)
      → (s ≡ None → p ≡ null_ptr → Seq K 𝓛 Γ G)
      → ((b o : ℕ) (x : R.Denot) → s ≡ Some x → p ≡ block_ptr b o → Testable (block_ptr b o)
      → Seq K 𝓛 (‵ (box_owns (ghosts.dealloc_token a) R (block_ptr b o) x) ∷ Γ) G)
      → Seq K 𝓛 (‵ (held_at a p s) ∷ Γ) G
  held_out t a p None none one = feq_l t (λ e. none refl e)
  held_out t a p (Some x) none one =
      in_a_block t p (λ q. box_owns (ghosts.dealloc_token a) R q x)
      (fst∗ 𝓤 (never 𝓤) (sem 𝓛 (ghosts.dealloc_token a (bare (lone R.mir)) null_ptr))) (λ b o e.
      use1 𝓛 (given (Testable (block_ptr b o)) (‵ (box_owns (ghosts.dealloc_token a) R (block_ptr b o) x)))
      (tested 𝓛 a (block_ptr b o) x) $ learn t (λ may. one b o x refl e may))

module _ {M : Type 1} {𝓤 : Ura M} {𝓛 : Logic 𝓤} {K : Type 0} {Γ : List (Item 𝓤)} {G : Goal 𝓤 𝓛.H} where
  pub handle_out : K → (d : handle.the_row.Denot) (vs : List Val)
      → ((h : Val) → d.held ≡ None → vs ≡ both vnull h ∷ [] → Good (layout Z) h
      → Seq K 𝓛 (‵ (Z.own_val d.alloc (h ∷ [])) ∷ Γ) G)
      → ((b o : ℕ) (h : Val) (x : R.Denot) → d.held ≡ Some x → vs ≡ both (vptr b o) h ∷ [] → Good (layout Z) h
      → Testable (block_ptr b o)
      → Seq K 𝓛 (‵ (box_owns (ghosts.dealloc_token d.alloc) R (block_ptr b o) x) ∷ ‵
      (Z.own_val d.alloc (h ∷ [])) ∷ Γ) G)
      → Seq K 𝓛 (‵ (handle.the_row.own_val d vs) ∷ Γ) G
  handle_out t d vs none one =
      fsplit t $ fpick t (λ vss. fsplit t
      $ feq_l t (λ ev. fsplit t
      $ feq_l t (λ ep. fsplit t
      $ handle_tells al t d.alloc vss.1.0 (λ h ea fits. move t (1 ∷ []) $ drop t $ move t (1 ∷ []) $
      let words : (p : Ptr) → d.at ≡ p
      → vs ≡ vstruct (of_list (ptr_val p ∷ h ∷ [])) ∷ [] = λ p e. subst
      (λ (p : Ptr). vs ≡ vstruct (of_list (ptr_val p ∷ h ∷ [])) ∷ []) e
      (subst (λ (ws : List Val). vs ≡ vstruct (of_list (ptr_val d.at ∷ (ws ++ []))) ∷ []) ea
      (subst (λ (ps : List Val). vs ≡ vstruct (of_list (ps ++ (vss.1.0 ++ []))) ∷ []) ep ev)) in
      held_out t d.alloc d.at d.held (λ s e. none h s (words null_ptr e) fits)
      (λ b o x s e may. one b o h x s (words (block_ptr b o) e) fits may)))))

  pub null_in : K → (h : Val) (a : Global)
      → Step K 𝓛 (‵ (handle.the_row.own_val (record { at = null_ptr; alloc = a; held = None })
      (both vnull h ∷ [])) ∷ Γ) G (‵ (Z.own_val a (h ∷ [])) ∷ Γ) G
  null_in t h a = step (λ s.
      feq_i t (List Val) (vnull ∷ []) (vnull ∷ []) refl $ two_in RawPtr Z null_ptr a t vnull h
      $ feq_i t Ptr null_ptr null_ptr refl $ move t (1 ∷ 0 ∷ []) $ fjoin t $
      use1 𝓛 (‵ (handle.the_row.own_val (record { at = null_ptr; alloc = a; held = None }) (both vnull h ∷ [])))
      (id⊢ 𝓤 _) $ s)
