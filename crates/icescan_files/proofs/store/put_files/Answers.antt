use Rattle.std.proofs.Common.{◌∷◌, [], ◌++◌, Some, ap, subst, sym, take, ◌∙◌}
use Rattle.std.proofs.lemmas.Option.{slice_get-get_or}
use Rattle.std.proofs.lemmas.Result.{err_from_is_err_and}
use Rattle.icescan_files.specs.Disks.{ArePlaced, Extends, IsPlacedAt, NotPlacedAt, StopsPlacing}
use Rattle.icescan_files.specs.Stores.{PutsAll, WereFree}
use Rattle.icescan_files.proofs.Placed.{extends_as, extends_then, not_placed_at_as, parted, placed_at_as}
use Rattle.icescan_files.proofs.Placed.{placed_last, stops_next}
use Rattle.icescan_files.proofs.Stored.{free_next, puts_next, take_next}
use Rattle.icescan_files.proofs.store.put_files.Goals as goal

pub files-preserved : goal.files-preserved
files-preserved g c =
    let old = g.S.Store.files c.args.store.now in
    let new = g.S.Store.files c.create_new.new.self in
    let before = g.S.Store.events c.args.store.now in
    let mid = g.S.Store.events c.files.store in
    let end = g.S.Store.events c.create_new.new.self in
    let names = g.S.Store.names c.args.store.now in
    let names' = g.S.Store.names c.files.store in
    let front = take c.files.file-index c.args.files.now in
    let f = c.file-item.result in
    let at = slice_get-get_or c.args.files.now c.files.file-index _ c.files-test.true ∙ ap Some (sym c.file-item.is) in
    let next = sym (take_next c.args.files.now c.files.file-index f at) in
    let puts = rw (c.as_str.ensures, c.as_slice.ensures) at c.in_ok-create_new.ensures.puts in
    let lacks = rw c.as_str.ensures at c.in_ok-create_new.ensures.free in
    let placed = rw (c.as_str.ensures, c.as_slice.ensures) at c.in_ok-create_new.ensures.placed in
    let at_names : Extends mid end (IsPlacedAt names f.0 f.1) =
    extends_as mid end (IsPlacedAt names' f.0 f.1) (IsPlacedAt names f.0 f.1) placed
    (λ m p. placed_at_as names names' c.files.invariant.4 f.0 f.1 m p) in
    let all : Extends before end (ArePlaced names (front ++ f ∷ [])) =
    extends_then before mid end (ArePlaced names front) (IsPlacedAt names f.0 f.1) (ArePlaced names (front ++ f ∷ []))
    c.files.invariant.3 at_names (λ m n p q. placed_last names front f m n p q) in (
      subst (λ l. PutsAll old new l) next (puts_next old _ new _ f c.files.invariant.0 puts),
      subst (λ l. WereFree old l) next (free_next old _ _ f c.files.invariant.0 c.files.invariant.1 lacks),
      λ may. c.files.invariant.2 (c.in_ok-create_new.ensures.still may),
      subst (λ l. Extends before end (ArePlaced names l)) next all,
      λ path name aside h. c.files.invariant.4 path name aside (c.in_ok-create_new.ensures.named path name aside h),
    )

pub returns-in_err-create_new-clause-unplaced : goal.returns-in_err-create_new-clause-unplaced
returns-in_err-create_new-clause-unplaced g c =
    let p = err_from_is_err_and c.from_residual.result c.from_residual.ensures.1 in
    let fault = c.in_err-create_new.field-0.0 in
    let before = g.S.Store.events c.args.store.now in
    let mid = g.S.Store.events c.files.store in
    let end = g.S.Store.events c.create_new.new.self in
    let names = g.S.Store.names c.args.store.now in
    let names' = g.S.Store.names c.files.store in
    let files = c.args.files.now in
    let front = take c.files.file-index files in
    let f = c.file-item.result in
    let at = slice_get-get_or files c.files.file-index _ c.files-test.true ∙ ap Some (sym c.file-item.is) in
    let parts = parted files c.files.file-index f at in
    let last = rw (c.as_str.ensures, c.as_slice.ensures) at c.in_err-create_new.ensures.unplaced in
    let stops : Extends before end (StopsPlacing names files fault) =
    extends_then before mid end (ArePlaced names front) (NotPlacedAt names' f.0 f.1 fault)
    (StopsPlacing names files fault) c.files.invariant.3 last (λ m n h k.
    subst (λ l. StopsPlacing names l fault (m ++ n)) parts.1 (stops_next names front f parts.0 fault m n h
    (not_placed_at_as names names' c.files.invariant.4 f.0 f.1 fault n k))) in
    rw (p.1, p.2) stops
