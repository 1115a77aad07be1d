-- A call of `copied`, which fills slots with a copy of the items. Assumes `Logic`.
use mathlib.Core.Path.{◌≡◌, refl, sym, ap, ◌∙◌}
use Prim.Native.Nat.{ℕ}
use mathlib.Core.List.{List, [], ◌∷◌}
use lib.ListN.{length}
use seplogic.Ra.Ura.{Ura}
use mir.Syntax.{Dict, named}
use mir.Val.{Val}
use base.Logic.{SProp, ent, sep, ex, guard, emp, id⊢}
use base.Fml.{Lft, Share, ftrue, fsep, flft}
use prog.Memory.{Memory}
use prog.Routine.{Routine}
use types.Logic.{Logic, sem}
use contract.BorrowLft.{◌⊑◌}
use contract.Monad.{Fun, fact, fact_i}
use types.Kit.{‵, raw, ◌⊛◌, some, later, ◌$◌, ◌∵◌, !, qed, move, keep, drop, use0, use1, split, split3, join, pick}
use types.Kit.{rewrite, fjoin, check, show, await, updating, now, done}
use denote.RattleType.{RattleType}
use denote.Param.{copied}
use denote.RawPtr.{block_ptr}
use denote.Ref.{Bor}
use denote.Slice.{ShrSlice, shr_slice_vals}
use denote.Steps.{only, heard, nothing}
use denote.Triple.Spec.{triple_of}
use denote.Triple.Statement.{Contract}
use Rattle.core.specs.Mem.Slots.{slots_items, slots_filled, slots_ptr, slots_len}
use Rattle.core.specs.Mem.Slots.Ownership.{Filled}
use Rattle.core.specs.declared.clone.Clone.{Ghosts}
use Rattle.core.proofs.slots.Opens.{words_val, row_val}
use Rattle.std_alloc.proofs.VecSteps.El.{El, el_x}
use Rattle.std_alloc.proofs.vec.Spares.{Row, Row-seen}
use Rattle.path_arena.specs.contracts.block.copied as CP

module _ (E : El) (g₀ : Ghosts (el_x E)) (d₀ : Dict) {M : Type 1} {𝓤 : Ura M} (𝓛 : Logic 𝓤) (at_mem : Memory
    → SProp 𝓤) (run : Routine → Fun 𝓤) where
  open 𝓛 use {H, A}

  abbrev pub Copied : Contract 𝓤
  Copied = triple_of 𝓛 (CP.signature E.row) (CP.spec E.row g₀ d₀ 𝓛 at_mem run)

  abbrev Items : Lft → RattleType
  Items κ = ShrSlice (named 0) κ (copied 0 E.row)

  module _ (κ κT : Lft) (q qT : Share) (out : κ ⊑ κT) (r : (Row E).Denot) (b o n : ℕ)
      (items : Bor (List (el_x E))) where
    abbrev pub at_copied : Copied.Ghost
    at_copied = (
      (
        (κ, (κT, tt)),
        (q, (qT, tt)),
        (out, tt),
        (r, (items, tt)),
        (row_val b o n ∷ [], (shr_slice_vals items, tt)),
      ),
      tt,
    )

    abbrev pub Made : (Row E).Denot → Type 0
    Made d = (slots_ptr d ≡ slots_ptr r) × (slots_len d ≡ slots_len r) × (slots_items d ≡ items.now) ×
        Filled (slots_filled d) 0 (slots_len d)

    pub Copied-goes : κT ⊑ E.row.lives → slots_len r ≡ length items.now
        → ent 𝓤 (sep 𝓤 (sem 𝓛 ((Row E).own_val r (row_val b o n ∷ [])))
        (sep 𝓤 (sem 𝓛 ((Items κ).own_val items (shr_slice_vals items))) (sep 𝓤 (A.lft κ q) (A.lft κT qT))))
        (Copied.pre at_copied)
    Copied-goes le long =
        qed 𝓛 (‵ ((Row E).own_val r (row_val b o n ∷ [])) ∷ ‵ ((Items κ).own_val items (shr_slice_vals items)) ∷ ‵
        (flft κ q) ∷ ‵ (flft κT qT) ∷ []) ∵
        use0 𝓛 (raw (fact 𝓤 (slots_len r ≡ length items.now))) (fact_i 𝓤 (slots_len r ≡ length items.now)
        (emp 𝓤) long) $
        use0 𝓛 (raw (fact 𝓤 (κT ⊑ E.row.lives))) (fact_i 𝓤 (κT ⊑ E.row.lives) (emp 𝓤) le) $ join ! $
        -- [the facts; the row; the items; the tokens]
        nothing ! $ move ! (3 ∷ 0 ∷ []) $ fjoin ! $ move ! (2 ∷ 0 ∷ []) $ fjoin ! $
        -- [what is owned; the facts; the tokens]
        nothing ! $ move ! (4 ∷ 0 ∷ []) $ join ! $ move ! (3 ∷ 0 ∷ []) $ join ! $ move ! (0 ∷ 1 ∷ 2 ∷ []) $ join ! $
        join ! $ done !

    pub Copied-gives : (v : Val) → slots_ptr r ≡ block_ptr b o → slots_len r ≡ n → ent 𝓤 (Copied.post at_copied v)
        (H.⇛ (ex 𝓤 (λ (d : (Row E).Denot). guard 𝓤 ((v ≡ row_val b o n) ×
        Made d) (sep 𝓤 (sem 𝓛 ((Row E).own_val d (row_val b o n ∷ []))) (sep 𝓤 (A.lft κ q) (A.lft κT qT))))))
    Copied-gives v at_r long_r =
        qed 𝓛 (raw (Copied.post at_copied v) ∷ []) ∵ updating ! $
        use1 𝓛 (later
        (some (λ (d : (Row E).Denot). ((‵ (flft κ q) ⊛ ‵ (flft κT qT) ⊛ ‵ ftrue) ⊛ ‵ ((Row E).own_val d (v ∷ [])))
        ⊛ some (λ (ws : Unit {0} × (Unit {0} × Unit {0})). ‵ (fsep ftrue (fsep ftrue ftrue)) ⊛ raw
        (fact 𝓤 (Made d)))))) (id⊢ 𝓤 _) $ await ! tt $ pick ! (λ d.
        split ! $ move ! (1 ∷ []) $ pick ! (λ ws. split ! $ drop ! $ heard ! (Made d) (λ is. split ! $ split3 ! $
        move ! (3 ∷ []) $ Row-seen E ! d (v ∷ []) (λ b' o' at e fn.
        let same : row_val b' o' (slots_len d) ≡ row_val b o n = λ i. words_val ((sym at ∙ is.0 ∙ at_r) i) ((is.1
        ∙ long_r) i) in
        rewrite ! 0 (λ (u : Val). ‵ ((Row E).own_val d (u ∷ []))) same refl $ now ! $
        show ! (λ (x : (Row E).Denot). guard 𝓤 ((v ≡ row_val b o n) ×
        Made x) (sep 𝓤 (sem 𝓛 ((Row E).own_val x (row_val b o n ∷ []))) (sep 𝓤 (A.lft κ q) (A.lft κT qT)))) d $
        check ! (ap only e ∙ same, is) $ keep ! (0 ∷ 1 ∷ 2 ∷ []) $ done !))))
