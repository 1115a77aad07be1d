-- `over` takes a slice apart: where it begins, how long it is, and what it lends. Assumes `Logic`.
use Rattle.std.proofs.Common.{ℕ, ◌<◌, ◌^◌, [], ◌∷◌, length, refl}
use mir.Syntax.{named}
use base.Logic.{id⊢}
use base.Fml.{Lft, ftrue, flft}
use types.Kit.{‵, ◌⊛◌, ◌$◌, ◌∵◌, !, qed, move, keep, drop, use1, split, join, fsplit, fjoin, feq_i, fpack, suffices}
use types.Kit.{frame, done}
use types.Part.{whole, sub, agg}
use types.Run.{stop, fld, hop, from, addr, of_opd, and_then, no_more, returns, enter}
use types.ByLocal.{alloc_all, pass_all, free_all, look_at, look_in_at, get, get_in, sets}
use denote.Exit.{yes}
use denote.Builtin.{u8, SliceRefOf}
use denote.Opens.{unhide}
use denote.RawPtr.{block_ptr}
use denote.Signature.{plain}
use denote.Slice.{ShrSlice, shr_slice_vals, shr_slice_Tells}
use denote.Steps.{nothing}
use denote.Triple.Walked.{says, Stays, stay_dropped, ends_at, Goes-dropped}
use Rattle.std.specs.Prelude.{Some}
use Rattle.std.proofs.raw_atomic.Walks.{proved}
use Rattle.icescan_c_lent.specs.Lending.{lie_for}
use Rattle.icescan_c_lent.proofs.Words.{words, words_in}
use Rattle.icescan_c_lent.specs.contracts.lent.Bytes as lent
use Rattle.icescan_c_lent.specs.contracts.lent.Bytes.over as f
use Rattle.icescan_c_lent.proofs.lent.Bytes.over.Statement.{statement}
use Rattle.icescan_c_lent.proofs.lent.Bytes.over.Code as code

abbrev stayed : Stays f.ended.signature.params f.ended.kept
stayed = (stay_dropped (SliceRefOf (0 ∷ []) tt (plain (λ _. u8)) (λ _. tt)) yes, tt)

pub over_spec : {M : Type 1} → statement M
over_spec 𝓤 𝓛 𝓜 𝓡 wired =
    let c = f.clauses 𝓛 𝓜.mem 𝓡.returns in
    proved 𝓛 f.ended stayed c 𝓜 𝓡
    (Goes-dropped 𝓛 1 (SliceRefOf (0 ∷ []) tt (plain (λ _. u8)) (λ _. tt)) yes (λ κs x w. refl), tt)
    f.Key.name code.function (code.unfolded 𝓤 𝓛.H 𝓜 𝓡 wired)
    (λ κs. (shr_slice_vals, tt)) (λ κs. (shr_slice_Tells (named 0) κs.0 u8, tt)) (λ κs qs bounds a _ are.
    let κ = κs.0 in let b = a.0.ref_ptr.0 in let o = a.0.ref_ptr.1 in let xs = a.0.now in let n = length xs in
    let fits : n < 2 ^ 64 = are.0.0.1.0 in let made : lent.the_row.Denot =
    record { at = block_ptr b o; len = n; bytes = Some xs } in
    qed 𝓛 (((‵ (flft κ qs.0) ⊛ ‵ ftrue) ⊛ ‵ ((ShrSlice (named 0) κ u8).own_val a.0 (shr_slice_vals a.0)) ⊛ ‵ ftrue) ∷
    ‵ ftrue ∷ []) ∵
    split ! $ split ! $ move ! (2 ∷ []) $ split ! $ keep ! (0 ∷ 2 ∷ []) $ fsplit ! $ drop ! $
    enter ! _ _ _ _ _ $ alloc_all ! (λ l. pass_all ! refl ((tt, (tt, (record { fits = fits }, tt))), tt) $
    sets ! (addr ! (from ! (fld ! refl (hop ! (look_in_at ! 1 (sub ! 0 refl (whole !))) (stop !))))) refl (tt, tt) $
    sets ! (of_opd ! (get_in ! (fld ! refl (stop !)) (sub ! 1 refl (whole !)))) refl (tt, record { fits = fits }) $
    sets ! (agg ! (and_then ! (get ! refl) (and_then ! (get ! refl) (no_more !)))) refl
    (tt, (tt, (record { fits = fits }, tt))) $
    unhide ! $ fpack ! Lft (λ (ι : Lft). lie_for u8 (block_ptr b o) xs ι) κ $ feq_i ! ℕ n n refl $ fjoin ! $
    words_in ! (block_ptr b o) n fits $ fjoin ! $
    use1 𝓛 (‵ (lent.the_row.own_val made (words (block_ptr b o) n ∷ []))) (id⊢ 𝓤 _) $
    returns ! (look_at ! 0 refl) $ free_all ! refl $ keep ! (1 ∷ 0 ∷ []) $
    suffices ! _ (ends_at 𝓛 f.ended stayed c ((κs, qs, bounds, a, (shr_slice_vals a.0, tt)), tt)
    (words (block_ptr b o) n) made (tt, tt) (tt, tt)) $ says ! (refl, refl) $
    nothing ! $ move ! (1 ∷ 0 ∷ []) $ join ! $ frame ! $ nothing ! $ nothing ! $ fjoin ! $ done !))
