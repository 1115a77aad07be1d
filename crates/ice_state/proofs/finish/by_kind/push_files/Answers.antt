use Rattle.std.proofs.Common.{◌≡◌, ◌∙◌, ◌+◌, ◌++◌, ◌∷◌, [], List, append-nil, append_assoc, ap, arith, get_or, subst}
use Rattle.std.proofs.Common.{sym, take}
use Rattle.std.proofs.lemmas.List.{map-append, take_all, take_more}
use Rattle.ice_state_entries.specs.declared.entries.EntryNumber.TheVariants.{Record}
use Rattle.ice_manifest_reading.specs.declared.entry.Entry.{Entry}
use Rattle.ice_state.specs.declared.kept.segments.FileNumber.{FileNumber}
use Rattle.ice_state.specs.ByKind.{HasFilesOf}
use Rattle.ice_state.specs.Segments.{entry_at, entries_at}
use Rattle.ice_state.proofs.finish.by_kind.push_files.Goals as goal

pub files-init : goal.files-init
files-init c = λ xs has.
    subst (λ (ys : List Entry). HasFilesOf c.args.entries.now ys c.args.found.now) (sym (append-nil xs)) has

pub files-preserved : goal.files-preserved
files-preserved c = λ xs has.
    let kept = c.args.entries.now in
    let files = c.args.files.now in
    let i = c.files.file-index in
    let d : FileNumber = record { segment = 0; number = Record 0 } in
    let old = entries_at kept (take i files) in
    let more : old ++ entry_at kept (get_or files i d) ∷ [] ≡ entries_at kept (take (i + 1) files) =
    sym (ap (entries_at kept) (take_more files i d c.files-test.true)
    ∙ map-append (entry_at kept) (take i files) (get_or files i d ∷ [])) in
    subst (λ (ys : List Entry). HasFilesOf kept ys c.push.new.self)
    (append_assoc xs old (entry_at kept (get_or files i d) ∷ []) ∙ ap (λ ys. xs ++ ys) more)
    (c.in_ok-push.ensures (xs ++ old) (c.files.invariant xs has))

pub returns : goal.returns
returns c = λ xs has.
    let kept = c.args.entries.now in
    let files = c.args.files.now in
    subst (λ (ys : List FileNumber). HasFilesOf kept (xs ++ entries_at kept ys) c.files.found)
    (take_all c.files.file-index files (omega (arith, c.files-test.false))) (c.files.invariant xs has)
