-- `append` makes slots of the room behind the items, has them filled, and puts them back as items. Assumes `Logic`.
use mathlib.Core.Path.{◌≡◌, refl, sym, ap, subst, ◌∙◌}
use mathlib.Core.Bool.{false}
use Prim.Native.Nat.{ℕ, ◌+◌, ◌*◌, ◌<◌, ◌≤◌, ◌^◌}
use native.Mathlib.Omega.{arith}
use mathlib.Core.List.{List, [], ◌∷◌, ◌++◌, map}
use lib.ListN.{length, take, drop as drop_l, replicate, length-append, length-replicate, length-map}
use base.Fraction.{full_share}
use mir.Syntax.{Fn, Args, a_type, dcons, dnil, named, w64, ty_array}
use mir.MapTy.{inst_fn}
use mir.Val.{Val, vptr, vint, vunit}
use base.Logic.{SProp, emp, never, id⊢}
use base.Fml.{ftrue, fat, froom, flft}
use prog.Wp.{Env, WpFn}
use types.SemTy.{cells}
use contract.BorrowLft.{◌⊑◌}
use contract.Monad.{fact, fact_i}
use contract.Running.{tables}
use types.Kit.{‵, raw, ◌⊛◌, some, given, later, prop, at_ret, ◌$◌, ◌∵◌, !, qed, by, move, keep, use0, use1, use2}
use types.Kit.{use3, split, split3, join, pick, learn, rewrite, regoal, fsplit, fsplit3, fjoin, fjoin3, feq_i, flt_l}
use types.Kit.{flt_i, await}
use types.Part.{whole, sub}
use types.Run.{stop, fld, bin, size_word, unit_lit, of_opd, no_more, and_then, first, blocks, exec, returns, enter}
use types.ByLocal.{alloc_all, pass_all, free_all, look_at, get, get_in, sets, is, take_at, give_at, lands_as}
use types.ByLocal.{lands_last, env}
use denote.RattleType.{RattleType, owns}
use denote.Builtin.{usize, SliceRefOf}
use denote.Index.{row, whole_in}
use denote.Memory.{mem}
use denote.Param.{bounded, copied, layout}
use denote.Plain.{uint_Tells}
use denote.RawPtr.{Ptr, block_ptr, in_a_block}
use denote.Ref.{mut_Tells}
use denote.Signature.{plain, types_at}
use denote.Slice.{ShrSlice, slice_val, shr_slice_Tells}
use denote.Steps.{heard, nothing, opens, closes}
use denote.Triple.Call.{calls_at, calls_at_last}
use denote.Triple.Walked.{Stays, stay_dropped, stay_ref, walk_of, Goes-dropped, Goes-ref}
use Rattle.core.proofs.alloc.Shapes.{after}
use Rattle.core.proofs.atomic.Steps.{fm}
use Rattle.core.proofs.slots.Opens.{row_val}
use Rattle.core.proofs.slots.Places.{to_row}
use Rattle.core.proofs.slots.Runs.{of_space}
use Rattle.core.proofs.slots.Slots.from_raw_parts.Met as from_raw
use Rattle.core.proofs.slots.Slots.into_raw_parts.Met as into_raw
use Rattle.core.specs.Mem.Slots.{slots_items, slots_filled, slots_ptr, slots_len}
use Rattle.std_alloc.proofs.VecSteps.El as vec
use Rattle.std_alloc.proofs.vec.Blocks.{el, all}
use Rattle.std_alloc.proofs.vec.Spares.{Row, From, at_from, Made, from_goes, from_gives, Into, at_into, Into-goes}
use Rattle.std_alloc.proofs.vec.Spares.{Into-gives, parts_typed}
use Rattle.std.specs.Prelude.{Some}
use Rattle.std.proofs.mem.Param.{El, R, el_x, elτ}
use Rattle.std.proofs.ptr.Rows.{times_below}
use Rattle.std.proofs.RcSteps.{word, word-Good}
use Rattle.std.proofs.raw_atomic.Walks.{proved_at, leaves}
use Rattle.path_arena.specs.Places.{filled}
use Rattle.path_arena.specs.Ownership.{slots, cells_own}
use Rattle.path_arena.proofs.Appends as fills
use Rattle.path_arena.proofs.Layouts.{uncapped}
use Rattle.path_arena.proofs.Memory.{Cr, Bs, sz, Place, word_had, Around, run_out, run_in, of_cells, to_room}
use Rattle.path_arena.proofs.Places.{length-filled, room_behind, fill_behind}
use Rattle.path_arena.proofs.block.copied.Met as filling
use Rattle.path_arena.specs.contracts.block.Cells as C-type
use Rattle.path_arena.specs.contracts.block.Base as B-type
use Rattle.path_arena.specs.contracts.block.Cells.append.{ended, clauses}
use Rattle.path_arena.specs.contracts.block.Cells.append.Key.{name as #self}
use Rattle.path_arena.proofs.block.Cells.append.Statement.{statement}
use Rattle.path_arena.proofs.block.Cells.append.Code as compiled

pub append_spec : {M : Type 1} → statement M
append_spec 𝓤 𝓛 𝓜 𝓡 wired T L copy' g₀ d₀ met =
    let H = 𝓛.H in
    let E : El = record { row = T; laws = L } in
    let V : vec.El = record { row = T; laws = L; al = vec.no_al } in
    let Y : RattleType = copied 0 T in
    let En₀ = ended T g₀ d₀ in
    let c = clauses T g₀ d₀ 𝓛 𝓜.mem 𝓡.returns in
    let args : Args = bounded (a_type ∷ []) (T, tt) (dcons d₀ dnil) in
    let fn : Fn = inst_fn args compiled.function in
    let stays : Stays En₀.signature.params En₀.kept = (
      stay_ref (0 ∷ []) tt (plain (λ _. C-type.the_row Y)),
      (
        stay_dropped (plain (λ _. B-type.the_row Y)) En₀.kept.1.0,
        (
          stay_dropped (plain (λ _. usize)) En₀.kept.1.1.0,
          (stay_dropped (SliceRefOf (1 ∷ []) tt (plain (λ _. Y)) (λ _. tt)) En₀.kept.1.1.1.0, tt),
        ),
      ),
    ) in
    let C = (tables 𝓤 H 𝓜 𝓡 𝓡.env).C in
    let Λ = (tables 𝓤 H 𝓜 𝓡 𝓡.env).Λ in
    proved_at 𝓛 En₀ stays c 𝓜 𝓡 (
      Goes-ref 𝓛 3 0 tt (plain (λ _. C-type.the_row Y)),
      (
        Goes-dropped 𝓛 3 (plain (λ _. B-type.the_row Y)) En₀.kept.1.0 (λ κs x f. refl),
        (
          Goes-dropped 𝓛 3 (plain (λ _. usize)) En₀.kept.1.1.0 (λ κs x f. refl),
          (
            Goes-dropped 𝓛 3 (SliceRefOf (1 ∷ []) tt (plain (λ _. Y)) (λ _. tt)) En₀.kept.1.1.1.0 (λ κs x f. refl),
            tt,
          ),
        ),
      ),
    ) (#self args) fn (compiled.unfolded 𝓤 H 𝓜 𝓡 wired (T, tt) d₀) (λ z are.
    let Post : Val → SProp 𝓤 = (walk_of 𝓛 En₀ stays c).post z in
    let a = z.0.3 in let vss = z.0.4 in
    let κ₀ = z.0.0.0 in let κ₁ = z.0.0.1.0 in let κ₂ = z.0.0.1.1.0 in let q₀ = z.0.1.0 in let q₁ = z.0.1.1.0 in
    let q₂ = z.0.1.1.1.0 in
    let d = a.0.now in let rb = a.0.ref_ptr.0 in let ro = a.0.ref_ptr.1 in
    let base = a.1.0 in let at : ℕ = a.1.1.0 in let items = a.1.1.1.0 in let xs = items.now in let n : ℕ = length xs in
    let cs = filled d.items d.room in
    let Asked : Type 0 = (base.ptr ≡ d.at) × (at ≡ length d.items) × (at + n ≤ d.room) in
    let fits_at = are.1.1.0.1 in let room = are.1.1.1.0.0.1 in let fits_n = room.0 in let wide = room.1 in
    let e0 = mut_Tells (named 0) κ₀ (C-type.the_row Y) a.0 vss.0 are.0 in
    let e2 = uint_Tells w64 at vss.1.1.0 are.1.1.0 in
    let e3 = shr_slice_Tells (named 1) κ₁ Y items vss.1.1.1.0 are.1.1.1.0 in
    qed 𝓛 (((‵ (flft κ₀ q₀) ⊛ ‵ (flft κ₁ q₁) ⊛ ‵ (flft κ₂ q₂) ⊛ ‵ ftrue) ⊛ ‵
    (owns (types_at En₀.signature.params z.0.0) a vss)) ∷ (raw (fact 𝓤 (κ₂ ⊑ T.lives)) ⊛ raw (fact 𝓤 Asked)) ∷ []) ∵
    move ! (1 ∷ []) $ split ! $ heard ! (κ₂ ⊑ T.lives) (λ le. heard ! Asked (λ asked.
    split ! $ split3 ! $ move ! (3 ∷ []) $ fsplit3 ! $ fsplit3 ! $ move ! (4 ∷ []) $ fsplit ! $ move ! (1 ∷ []) $
    fsplit ! $ move ! (6 ∷ []) $
    word_had ! base.ptr vss.1.0 (λ e1.
    -- [obs; the borrow; its token; the items; their token; the token of T]
    keep ! (4 ∷ 5 ∷ 6 ∷ 0 ∷ 7 ∷ 8 ∷ []) $
    rewrite ! 3 (λ (us : List Val). ‵ ((ShrSlice (named 1) κ₁ Y).own_val items us)) e3 refl $
    let long_cs : length cs ≡ d.room = length-filled d.items d.room d.fits in
    let within : at + n ≤ length cs = omega (arith, asked.2, long_cs) in
    let new : (Cr E).Denot = record {
      mark = d.mark;
      at = d.at;
      items = d.items ++ xs;
      room = d.room;
      fits = omega (arith, asked.1, asked.2, length-append d.items xs);
    } in
    let grown : take at cs ++ (map Some xs ++ drop_l (at + n) cs) ≡ filled new.items new.room =
    fill_behind d.items xs d.room at asked.1 asked.2 in
    let long_new : length (filled new.items new.room) ≡ length cs = length-filled new.items new.room new.fits
    ∙ sym long_cs in
    regoal ! (λ (us : List Val). prop (WpFn 𝓤 H C Λ fn us Post)) (λ i. e0 i ++ (e1 i ++ (e2 i ++ (e3 i ++ [])))) refl $
    enter ! C Λ fn (vptr rb ro ∷ word base.ptr ∷ vint w64 at ∷ slice_val items.ref_ptr n ∷ []) Post $
    alloc_all ! (λ l. pass_all ! refl (
      (tt, tt),
      (
        word-Good [] base.ptr,
        (
          (tt, record { fits = fits_at }),
          ((tt, (tt, (record { fits = fits_n }, tt))), tt),
        ),
      ),
    ) $
    let En : Env 𝓤 H = env fn.locals l in
    opens ! tt (Cr E) {h = d} rb ro (λ vs. move ! (1 ∷ []) $ fsplit ! $ move ! (1 ∷ []) $
    in_a_block ! d.at (λ p. cells_own (R E) p cs) (id⊢ 𝓤 (never 𝓤)) (λ b o e. fsplit ! $ flt_l ! (λ small.
    let s = sz E in let dst : ℕ = at * s + o in
    let far : at * s < 2 ^ 64 = omega (arith, times_below at (length cs) s (2 ^ 63) (omega arith) small) in
    take_at ! 2 $ rewrite ! 0 (λ (p : Ptr). ‵ (fat full_share (layout (Bs E)) (l 2) 0 (word p))) (asked.0 ∙ e) refl $
    give_at ! 2 $ first ! $ blocks ! $
    sets ! (is ! (bin ! (get ! refl) (size_word !) (record {
      fits =
          subst (λ (k : ℕ). k < 2 ^ 64) (sym (uncapped at s far)) far;
    })) (ap (vint w64) (uncapped at s far))) refl (
      tt,
      record { fits = far },
    ) $
    sets ! (bin ! (get_in ! (fld ! refl (stop !)) (sub ! 0 refl (whole !))) (get ! refl) tt) refl (tt, tt) $
    sets ! (of_opd ! (get_in ! (fld ! refl (stop !)) (sub ! 1 refl (whole !)))) refl (tt, record { fits = fits_n }) $
    -- [the places; the mark; its cell; the open borrow; obs; auth; the items; their token; the token of T]
    use1 𝓛 (‵ (slots (R E) b dst (take n (drop_l at cs))) ⊛ ‵ (Around E 𝓛 b o cs at n))
    (run_out E 𝓛 b o cs at n within) $ split ! $
    rewrite ! 0 (λ (ps : List (Place E)). ‵ (slots (R E) b dst ps))
    (room_behind d.items d.room at n asked.1 asked.2) refl $
    use1 𝓛 (‵ (froom (ty_array (elτ E) n) b dst)) (to_room E 𝓛 b n dst) $
    use1 𝓛 (‵ (all V b dst xs (replicate n false))) (of_space (el V) 𝓛 b dst n xs refl) $
    move ! (9 ∷ []) $ split ! $ move ! (2 ∷ 0 ∷ []) $
    let y = at_from V 𝓛 𝓜.mem 𝓡.returns κ₂ q₂ b dst n xs (replicate n false) in
    use2 𝓛 (raw ((From V 𝓛 𝓜.mem 𝓡.returns).pre y)) (from_goes V 𝓛 𝓜.mem 𝓡.returns κ₂ q₂ b dst n xs
    (replicate n false) le refl (sym (length-replicate n false)) fits_n wide) $
    calls_at ! (fm 𝓛 𝓜 𝓡) (From V 𝓛 𝓜.mem 𝓡.returns)
    (from_raw.met 𝓤 𝓛 𝓜 𝓡 (compiled.calls-core::slots::Slots::from_raw_parts 𝓡.env wired) T L) y
    (and_then ! (get ! refl) (and_then ! (get ! refl) (no_more !))) (λ v.
    use1 𝓛 (later (some (λ (r : (Row V).Denot). given ((v ≡ row_val b dst n) ×
    Made V 𝓛 𝓜.mem 𝓡.returns κ₂ q₂ b dst n xs (replicate n false) r) (‵ ((Row V).own_val r (row_val b dst n ∷ []))
    ⊛ ‵ (flft κ₂ q₂))))) (from_gives V 𝓛 𝓜.mem 𝓡.returns κ₂ q₂ b dst n xs (replicate n false) v) $
    await ! tt $
    pick ! (λ r. learn ! (λ made. split ! $ lands_as ! (made.0) refl (tt, (tt, (record { fits = fits_n }, tt))) $
    sets ! (of_opd ! (get ! refl)) refl (tt, (tt, (record { fits = fits_n }, tt))) $
    move ! (10 ∷ 1 ∷ []) $ join ! $ move ! (1 ∷ 9 ∷ 0 ∷ []) $
    let yc = fills.at_copied V g₀ d₀ 𝓛 𝓜.mem 𝓡.returns κ₁ κ₂ q₁ q₂ z.0.2.1.0 r b dst n items in
    use3 𝓛 (raw ((fills.Copied V g₀ d₀ 𝓛 𝓜.mem 𝓡.returns).pre yc))
    (fills.Copied-goes V g₀ d₀ 𝓛 𝓜.mem 𝓡.returns κ₁ κ₂ q₁ q₂ z.0.2.1.0 r b dst n items le made.1.1) $
    calls_at ! (fm 𝓛 𝓜 𝓡) (fills.Copied V g₀ d₀ 𝓛 𝓜.mem 𝓡.returns)
    (filling.met 𝓤 𝓛 𝓜 𝓡 (compiled.calls-path_arena::block::copied 𝓡.env wired) T L copy' g₀ d₀ met) yc
    (and_then ! (get ! refl) (and_then ! (get ! refl) (no_more !))) (λ v₁.
    use1 𝓛 (later (some (λ (x : (Row V).Denot). given ((v₁ ≡ row_val b dst n) ×
    fills.Made V g₀ d₀ 𝓛 𝓜.mem 𝓡.returns κ₁ κ₂ q₁ q₂ z.0.2.1.0 r b dst n items x)
    (‵ ((Row V).own_val x (row_val b dst n ∷ [])) ⊛ ‵ (flft κ₁ q₁) ⊛ ‵ (flft κ₂ q₂)))))
    (fills.Copied-gives V g₀ d₀ 𝓛 𝓜.mem 𝓡.returns κ₁ κ₂ q₁ q₂ z.0.2.1.0 r b dst n items v₁ made.1.0
    made.1.1) $
    await ! tt $ pick ! (λ x. learn ! (λ full.
    let len_x : slots_len x ≡ n = full.1.1 ∙ made.1.1 in let at_x : slots_ptr x ≡ block_ptr b dst = full.1.0
    ∙ made.1.0 in
    let fits_x : slots_len x < 2 ^ 64 = subst (λ (k : ℕ). k < 2 ^ 64) (sym len_x) fits_n in
    split3 ! $
    lands_as ! (full.0 ∙ ap (λ (k : ℕ). row_val b dst k) (sym len_x)) refl (
      tt,
      (tt, (record { fits = fits_x }, tt)),
    ) $
    rewrite ! 0 (λ (k : ℕ). ‵ ((Row V).own_val x (row_val b dst k ∷ []))) (sym len_x) refl $ move ! (0 ∷ 2 ∷ []) $
    let yi = at_into V 𝓛 𝓜.mem 𝓡.returns κ₂ q₂ x b dst in
    use2 𝓛 (raw ((Into V 𝓛 𝓜.mem 𝓡.returns).pre yi)) (Into-goes V 𝓛 𝓜.mem 𝓡.returns κ₂ q₂ x b dst le) $
    calls_at_last ! (fm 𝓛 𝓜 𝓡) (Into V 𝓛 𝓜.mem 𝓡.returns)
    (into_raw.met 𝓤 𝓛 𝓜 𝓡 (compiled.calls-core::slots::Slots::into_raw_parts 𝓡.env wired) T L) yi
    (and_then ! (get ! refl) (no_more !)) (λ v₂.
    use1 𝓛 (later (given (v₂ ≡ row_val b dst (slots_len x)) (‵ (all V b dst (slots_items x) (slots_filled x)) ⊛ ‵
    (flft κ₂ q₂)))) (Into-gives V 𝓛 𝓜.mem 𝓡.returns κ₂ q₂ x b dst v₂ at_x) $
    await ! tt $ learn ! (λ back. split ! $ lands_last ! refl (parts_typed v₂ b dst (slots_len x) back fits_x) $
    exec ! C Λ En (after 1 fn.body) (at_ret En Post) $ sets ! (of_opd ! (unit_lit !)) refl (tt, tt) $
    -- [the slots; two tokens; nothing; the other places; the mark; its cell; the open borrow; obs; auth]
    rewrite ! 0 (λ (ys : List (el_x E)). ‵ (all V b dst ys (slots_filled x))) full.1.2 refl $
    use1 𝓛 (‵ (row (R E) full_share xs b dst)) (to_row (el V) 𝓛 b xs (slots_filled x) dst (sym x.ok.1
    ∙ len_x) (λ k lt. full.1.3 k (omega arith) (omega (arith, x.ok.1)))) $
    use1 𝓛 (‵ (cells (mem (R E)) xs b dst)) (whole_in 𝓛 (R E) xs b dst) $
    use1 𝓛 (‵ (slots (R E) b dst (map Some xs))) (of_cells E 𝓛 b xs dst) $ move ! (0 ∷ 4 ∷ []) $
    use2 𝓛 (‵ (slots (R E) b o (take at cs ++ (map Some xs ++ drop_l (at + n) cs)))) (run_in E 𝓛 b o cs at n within
    (map Some xs) (omega (arith, length-map xs Some))) $
    rewrite ! 0 (λ (ps : List (Place E)). ‵ (slots (R E) b o ps)) grown refl $
    flt_i ! (length (filled new.items new.room) * s) (2 ^ 63) (subst (λ (k : ℕ). k * s < 2 ^ 63) (sym long_new) small) $
    fjoin ! $
    rewrite ! 0 (λ (p : Ptr). ‵ (cells_own (R E) p (filled new.items new.room))) (sym e) refl $
    move ! (4 ∷ 0 ∷ []) $ fjoin ! $ move ! (4 ∷ 0 ∷ 5 ∷ 6 ∷ 7 ∷ []) $ closes ! tt (Cr E) new vs rb ro $
    returns ! (look_at ! 0 refl) $ free_all ! refl $
    feq_i ! (List Val) vss.0 (vptr rb ro ∷ []) e0 $ fjoin3 ! $ nothing ! $ nothing ! $ fjoin ! $ nothing ! $ fjoin ! $
    nothing ! $ fjoin ! $ move ! (1 ∷ 0 ∷ []) $ fjoin ! $
    let Given : Type 0 = (new.at ≡ d.at) × (new.items ≡ d.items ++ xs) × (new.room ≡ d.room) in
    feq_i ! (List Val) (vunit ∷ []) (vunit ∷ []) refl $
    use0 𝓛 (raw (fact 𝓤 Given)) (fact_i 𝓤 Given (emp 𝓤) (refl, refl, refl)) $
    move ! (4 ∷ 6 ∷ []) $ join ! $ move ! (5 ∷ 0 ∷ []) $ join ! $ move ! (4 ∷ 0 ∷ []) $ join ! $
    move ! (0 ∷ 3 ∷ 2 ∷ 1 ∷ []) $
    by ! (leaves 𝓛 En₀ stays c z vunit tt (new, (tt, (tt, (tt, tt)))) (tt, (tt, (tt, (tt, tt)))))))))))))))))))))
