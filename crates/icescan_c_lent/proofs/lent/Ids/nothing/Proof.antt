-- `nothing` puts null and 0 together. Assumes `Logic`.
use Rattle.std.proofs.Common.{ℕ, List, [], ◌∷◌, refl, lit<, ℤ}
use base.Logic.{id⊢}
use base.Fml.{Lft, ftrue}
use types.Kit.{‵, raw, ◌$◌, ◌∵◌, !, qed, drop, keep, use1, fjoin, feq_i, fpack, suffices, done}
use types.Part.{agg}
use types.Run.{lit, and_then, no_more, returns, enter}
use types.ByLocal.{alloc_all, pass_all, free_all, look_at, sets}
use denote.Builtin.{i32}
use denote.RawPtr.{null_ptr}
use denote.Steps.{nothing as no_item}
use denote.Triple.Entry.{on_entry}
use denote.Triple.Walked.{says, Stays, ends_at}
use Rattle.std.specs.Prelude.{Some}
use Rattle.std.proofs.raw_atomic.Walks.{proved}
use Rattle.icescan_c_lent.specs.Lending.{lie_for}
use Rattle.icescan_c_lent.proofs.Words.{words, words_in}
use Rattle.icescan_c_lent.specs.contracts.lent.Ids as lent
use Rattle.icescan_c_lent.specs.contracts.lent.Ids.nothing as f
use Rattle.icescan_c_lent.proofs.lent.Ids.nothing.Statement.{statement}
use Rattle.icescan_c_lent.proofs.lent.Ids.nothing.Code as code

abbrev stayed : Stays f.ended.signature.params f.ended.kept
stayed = tt

pub nothing_spec : {M : Type 1} → statement M
nothing_spec 𝓤 𝓛 𝓜 𝓡 wired =
    let c = f.clauses 𝓛 𝓜.mem 𝓡.returns in
    proved 𝓛 f.ended stayed c 𝓜 𝓡 tt f.Key.name code.function (code.unfolded 𝓤 𝓛.H 𝓜 𝓡 wired)
    (λ κs. tt) (λ κs. tt) (λ κs qs bounds a _ are.
    let made : lent.the_row.Denot = record { at = null_ptr; len = 0; ids = Some [] } in
    qed 𝓛 (raw (on_entry 𝓛 f.signature κs qs a tt) ∷ ‵ ftrue ∷ []) ∵ drop ! $ drop ! $
    enter ! _ _ _ _ _ $ alloc_all ! (λ l. pass_all ! refl tt $
    sets ! (agg ! (and_then ! (lit ! tt) (and_then ! (lit ! tt) (no_more !)))) refl
    (tt, (record { fits = lit< tt }, (record { fits = lit< tt }, tt))) $
    feq_i ! (List ℤ) [] [] refl $ fpack ! Lft (λ (ι : Lft). lie_for i32 null_ptr [] ι) [] $ feq_i ! ℕ 0 0 refl
    $ fjoin ! $
    words_in ! null_ptr 0 (lit< tt) $ fjoin ! $
    use1 𝓛 (‵ (lent.the_row.own_val made (words null_ptr 0 ∷ []))) (id⊢ 𝓤 _) $
    returns ! (look_at ! 0 refl) $ free_all ! refl $ keep ! (0 ∷ []) $
    suffices ! _ (ends_at 𝓛 f.ended stayed c ((κs, qs, bounds, a, tt), tt) (words null_ptr 0) made tt tt) $
    says ! (refl, refl) $ no_item ! $ no_item ! $ done !))
