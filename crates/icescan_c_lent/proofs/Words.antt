-- The machine value of a pointer and a count. Assumes `Logic`.
use Rattle.std.proofs.Common.{ℕ, ◌<◌, ◌^◌, List, [], ◌∷◌, refl, w64}
use mir.Val.{Val, vint, vstruct, vcons, vnil}
use seplogic.Ra.Ura.{Ura}
use types.Logic.{Logic}
use types.Kit.{Item, Goal, Step, step, ◌$◌, ‵, move, fjoin, fpack, feq_i, flt_i}
use denote.RattleType.{RattleType, Valss}
use denote.Builtin.{RawPtr, usize}
use denote.RawPtr.{Ptr, ptr_val}
use denote.Steps.{nothing}
use denote.Struct.Struct.{Shape, Struct, within}

abbrev shape : Shape
shape = record { name = []; args = []; types = []; fields = RawPtr ∷ usize ∷ [] }

abbrev pub Words : RattleType
Words = Struct shape

abbrev pub words : Ptr → ℕ → Val
words p n = vstruct (vcons (ptr_val p) (vcons (vint w64 n) vnil))

module _ {M : Type 1} {𝓤 : Ura M} {𝓛 : Logic 𝓤} {K : Type 0} {Γ : List (Item 𝓤)} {G : Goal 𝓤 𝓛.H} where
  pub words_in : K → (p : Ptr) (n : ℕ) → n < 2 ^ 64
      → Step K 𝓛 (‵ (Words.own_val (p, (n, tt)) (words p n ∷ [])) ∷ Γ) G Γ G
  words_in t p n fits = step (λ s.
      flt_i t n (2 ^ 64) fits $ feq_i t (List Val) (vint w64 n ∷ []) (vint w64 n ∷ []) refl $ fjoin t $
      nothing t $ move t (1 ∷ 0 ∷ []) $ fjoin t $
      feq_i t (List Val) (ptr_val p ∷ []) (ptr_val p ∷ []) refl $ fjoin t $
      feq_i t (List Val) (words p n ∷ []) (words p n ∷ []) refl $ fjoin t $
      fpack t (Valss (RawPtr ∷ usize ∷ [])) (within shape (p, (n, tt)) (words p n ∷ []))
      (ptr_val p ∷ [], (vint w64 n ∷ [], tt)) $ s)
