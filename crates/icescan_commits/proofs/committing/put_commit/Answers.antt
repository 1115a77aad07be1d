use Rattle.std.proofs.Common.{ℕ, List, inl, inr, refl}
use Rattle.std.proofs.lemmas.Result.{err_from_is_err_and}
use Rattle.icescan_files.specs.declared.store.StoreFault.TheVariants as store
use Rattle.icescan_commits.proofs.OnDisk.{beaten, commit_placed, file_stops, metadata_stops}
use Rattle.icescan_files.proofs.Placed.{extends_as, extends_by_none, stops_at_once}
use Rattle.icescan_files.proofs.Stored.{all_front, free_next, puts_next}
use Rattle.icescan_commits.proofs.Stored.{added_is, text_is}
use Rattle.icescan_commits.proofs.committing.put_commit.Goals as goal

pub returns-in-Err-There-clause-front : goal.returns-in-Err-There-clause-front
returns-in-Err-There-clause-front g c = λ x writes.
    let same = added_is c.args.prepared.now x c.files.result.now writes c.files.ensures in
    rw c.in-Err-There.ensures.none (all_front _ _ x.added (rw same at c.in-Ok.ensures.all))

pub returns-in-Err-Failed-clause-front : goal.returns-in-Err-Failed-clause-front
returns-in-Err-Failed-clause-front g c = λ x writes.
    let same = added_is c.args.prepared.now x c.files.result.now writes c.files.ensures in
    rw c.in-Err-Failed.ensures.none (all_front _ _ x.added (rw same at c.in-Ok.ensures.all))

pub returns-in-Err-Memory-create_new-clause-front : goal.returns-in-Err-Memory-create_new-clause-front
returns-in-Err-Memory-create_new-clause-front g c = λ x writes.
    let same = added_is c.args.prepared.now x c.files.result.now writes c.files.ensures in
    rw c.in-Err-Memory-create_new.ensures.none (all_front _ _ x.added (rw same at c.in-Ok.ensures.all))

pub returns-in-Ok-create_new-clause-all : goal.returns-in-Ok-create_new-clause-all
returns-in-Ok-create_new-clause-all g c = λ x writes.
    let bytes = c.in_ok-metadata.metadata.items in
    let says = text_is c.args.prepared.now x c.version.result.now _ bytes writes c.version.ensures c.metadata.ensures
    c.in_ok-metadata.ensures.read_back c.in_ok-metadata.ensures.text in
    let same = added_is c.args.prepared.now x c.files.result.now writes c.files.ensures in
    let all = rw same at c.in-Ok.ensures.all in
    let free = rw same at c.in-Ok.ensures.free in
    let f : List ℕ × List ℕ = (c.args.out.now, bytes) in
    let puts = rw (c.as_str-2.ensures, c.deref.ensures.value) at c.in-Ok-create_new.ensures.puts in
    let lacks = rw c.as_str-2.ensures at c.in-Ok-create_new.ensures.free in (
      bytes,
      says,
      puts_next _ _ _ x.added f all puts,
      free_next _ _ x.added f all free lacks,
    )

pub returns-in_err-place-clause-unplaced : goal.returns-in_err-place-clause-unplaced
returns-in_err-place-clause-unplaced g c =
    let p = err_from_is_err_and c.from_residual.result c.from_residual.ensures.1 in
    λ x writes. rw (p.1, p.2) (extends_by_none (g.S.Store.events c.args.store.now) _ (inl refl))

pub returns-in_err-metadata-clause-unplaced : goal.returns-in_err-metadata-clause-unplaced
returns-in_err-metadata-clause-unplaced g c =
    let p = err_from_is_err_and c.from_residual-in_err-metadata.result c.from_residual-in_err-metadata.ensures.1 in
    λ x writes. rw (p.1, p.2) (extends_by_none (g.S.Store.events c.args.store.now) _ (inl refl))

pub returns-then-has_no_place-clause-unplaced : goal.returns-then-has_no_place-clause-unplaced
returns-then-has_no_place-clause-unplaced g c = λ x writes.
    let bytes = c.in_ok-metadata.metadata.items in
    let says = text_is c.args.prepared.now x c.version.result.now _ bytes writes c.version.ensures c.metadata.ensures
    c.in_ok-metadata.ensures.read_back c.in_ok-metadata.ensures.text in
    let stops = stops_at_once (g.S.Store.names c.args.store.now) x.added (c.args.out.now, bytes) in
    extends_by_none (g.S.Store.events c.args.store.now) _ (store.Failed, (bytes, says, stops))

pub returns-in-Err-Memory-clause-unplaced : goal.returns-in-Err-Memory-clause-unplaced
returns-in-Err-Memory-clause-unplaced g c = λ x writes.
    let bytes = c.in_ok-metadata.metadata.items in
    let says = text_is c.args.prepared.now x c.version.result.now _ bytes writes c.version.ensures c.metadata.ensures
    c.in_ok-metadata.ensures.read_back c.in_ok-metadata.ensures.text in
    let same = added_is c.args.prepared.now x c.files.result.now writes c.files.ensures in
    let before = g.S.Store.events c.args.store.now in
    let put = g.S.Store.events c.put_files.new.store in
    let names = g.S.Store.names c.args.store.now in
    let stops = file_stops names x c.args.out.now bytes c.files.result.now same says before put store.Memory
    (rw c.in-Err-Memory.field-0-is at c.in-Err-Memory.ensures.unplaced) in
    extends_as before put _ _ stops (λ m h. inr h)

pub returns-in-Err-clause-unplaced : goal.returns-in-Err-clause-unplaced
returns-in-Err-clause-unplaced g c = λ x writes.
    let bytes = c.in_ok-metadata.metadata.items in
    let says = text_is c.args.prepared.now x c.version.result.now _ bytes writes c.version.ensures c.metadata.ensures
    c.in_ok-metadata.ensures.read_back c.in_ok-metadata.ensures.text in
    let same = added_is c.args.prepared.now x c.files.result.now writes c.files.ensures in
    let before = g.S.Store.events c.args.store.now in
    let put = g.S.Store.events c.put_files.new.store in
    let names = g.S.Store.names c.args.store.now in
    let stops = file_stops names x c.args.out.now bytes c.files.result.now same says before put c.in-Err.field-0
    c.in-Err.ensures.unplaced in
    extends_as before put _ _ stops (λ m h. (c.in-Err.field-0, h))

pub returns-in-Err-There-clause-unplaced : goal.returns-in-Err-There-clause-unplaced
returns-in-Err-There-clause-unplaced g c = λ x writes.
    let bytes = c.in_ok-metadata.metadata.items in
    let says = text_is c.args.prepared.now x c.version.result.now _ bytes writes c.version.ensures c.metadata.ensures
    c.in_ok-metadata.ensures.read_back c.in_ok-metadata.ensures.text in
    let same = added_is c.args.prepared.now x c.files.result.now writes c.files.ensures in
    let before = g.S.Store.events c.args.store.now in
    let put = g.S.Store.events c.put_files.new.store in
    let names = g.S.Store.names c.args.store.now in
    let end = g.S.Store.events c.create_new.new.self in
    let names' = g.S.Store.names c.put_files.new.store in
    let last = rw (c.as_str-2.ensures, c.deref.ensures.value, c.in-Err-There.field-0-is) at
    c.in-Err-There.ensures.unplaced in
    beaten names x c.args.out.now bytes c.files.result.now same says before put names'
    c.in-Ok.ensures.named end c.in-Ok.ensures.placed last

pub returns-in-Err-Failed-clause-unplaced : goal.returns-in-Err-Failed-clause-unplaced
returns-in-Err-Failed-clause-unplaced g c = λ x writes.
    let bytes = c.in_ok-metadata.metadata.items in
    let says = text_is c.args.prepared.now x c.version.result.now _ bytes writes c.version.ensures c.metadata.ensures
    c.in_ok-metadata.ensures.read_back c.in_ok-metadata.ensures.text in
    let same = added_is c.args.prepared.now x c.files.result.now writes c.files.ensures in
    let before = g.S.Store.events c.args.store.now in
    let put = g.S.Store.events c.put_files.new.store in
    let names = g.S.Store.names c.args.store.now in
    let end = g.S.Store.events c.create_new.new.self in
    let names' = g.S.Store.names c.put_files.new.store in
    let last = rw (c.as_str-2.ensures, c.deref.ensures.value, c.in-Err-Failed.field-0-is) at
    c.in-Err-Failed.ensures.unplaced in
    let stops = metadata_stops names x c.args.out.now bytes c.files.result.now same says before put names'
    c.in-Ok.ensures.named end c.in-Ok.ensures.placed store.Failed last in
    extends_as before end _ _ stops (λ m h. (store.Failed, h))

pub returns-in-Err-Memory-create_new-clause-unplaced : goal.returns-in-Err-Memory-create_new-clause-unplaced
returns-in-Err-Memory-create_new-clause-unplaced g c = λ x writes.
    let bytes = c.in_ok-metadata.metadata.items in
    let says = text_is c.args.prepared.now x c.version.result.now _ bytes writes c.version.ensures c.metadata.ensures
    c.in_ok-metadata.ensures.read_back c.in_ok-metadata.ensures.text in
    let same = added_is c.args.prepared.now x c.files.result.now writes c.files.ensures in
    let before = g.S.Store.events c.args.store.now in
    let put = g.S.Store.events c.put_files.new.store in
    let names = g.S.Store.names c.args.store.now in
    let end = g.S.Store.events c.create_new.new.self in
    let names' = g.S.Store.names c.put_files.new.store in
    let last = rw (c.as_str-2.ensures, c.deref.ensures.value, c.in-Err-Memory-create_new.field-0-is) at
    c.in-Err-Memory-create_new.ensures.unplaced in
    let stops = metadata_stops names x c.args.out.now bytes c.files.result.now same says before put names'
    c.in-Ok.ensures.named end c.in-Ok.ensures.placed store.Memory last in
    extends_as before end _ _ stops (λ m h. inr h)

pub returns-in-Ok-create_new-clause-placed : goal.returns-in-Ok-create_new-clause-placed
returns-in-Ok-create_new-clause-placed g c = λ x writes.
    let bytes = c.in_ok-metadata.metadata.items in
    let says = text_is c.args.prepared.now x c.version.result.now _ bytes writes c.version.ensures c.metadata.ensures
    c.in_ok-metadata.ensures.read_back c.in_ok-metadata.ensures.text in
    let same = added_is c.args.prepared.now x c.files.result.now writes c.files.ensures in
    let before = g.S.Store.events c.args.store.now in
    let put = g.S.Store.events c.put_files.new.store in
    let names = g.S.Store.names c.args.store.now in
    let end = g.S.Store.events c.create_new.new.self in
    let names' = g.S.Store.names c.put_files.new.store in
    let last = rw (c.as_str-2.ensures, c.deref.ensures.value) at c.in-Ok-create_new.ensures.placed in
    commit_placed names x c.args.out.now bytes c.files.result.now same says before put names'
    c.in-Ok.ensures.named end c.in-Ok.ensures.placed last
