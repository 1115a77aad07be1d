use Rattle.std.proofs.Common.{◌≡◌, ◌∙◌, ap, get_or, length, List, Ok, Err, Result, Some, slice_get, subst, sym}
use Rattle.std.proofs.lemmas.Result.{err_from_is_err_and}
use Rattle.contract_words.specs.Outcome.{◌>>=◌}
use Rattle.ice_manifest_reading.specs.declared.entry.Entry.{Entry}
use Rattle.ice_manifest_reading.specs.declared.row.Row.{Row}
use Rattle.ice_state.specs.Contents.{with_row}
use Rattle.ice_state.specs.Readings.{Reading, Good, Bad}
use Rattle.ice_state_sections.specs.Sections.{section_at}
use Rattle.ice_state_bytes.specs.declared.fault.StateFault.{StateFault}
use Rattle.ice_state_bytes.specs.Faults.{of_section, said}
use Rattle.ice_state_bytes.specs.OfScans.{IsOfScan}
use Rattle.ice_state_bytes.proofs.Bodies.{get_at, reading_is}
use Rattle.ice_state_bytes.proofs.OfScans.{put_of_scan}
use Rattle.ice_state_bytes.proofs.Rows.{length-with_row}
use Rattle.ice_state_bytes.proofs.reading.put_section.Goals as goal

pub returns-in_err-entries-clause-exact : goal.returns-in_err-entries-clause-exact
returns-in_err-entries-clause-exact c =
    let p = err_from_is_err_and c.from_residual.result c.from_residual.ensures.1 in
    let scan = c.args.scan.now in
    let state = c.args.state.now in
    let i = c.args.section.now.row in
    let row = c.index-wanted-i.result in
    let spec = c.spec.result.now in
    let body = c.args.section.now.body.now in
    let at : slice_get scan.wanted i ≡ Some row = get_at scan.wanted i row c.requires.row
    (c.index-wanted-i.is ∙ ap (λ (rs : List Row). get_or rs i row) c.wanted.ensures) in
    let put = λ (m : Result Reading StateFault). m >>= λ r. Ok (with_row state i r) in
    rw (p.1, p.2) (λ other. ap put (reading_is scan i row spec body at c.spec.ensures
    ∙ ap said (c.in_err-entries.ensures.found (λ is. other (ap of_section is)))))

pub put_entries-requires-clause-short : goal.put_entries-requires-clause-short
put_entries-requires-clause-short c =
    let short = rw c.in-Ok.is at c.in_ok-entries.ensures.short in rw c.deref.ensures.value short

pub returns-in_ok-put_entries-in-Ok-clause-of_scan : goal.returns-in_ok-put_entries-in-Ok-clause-of_scan
returns-in_ok-put_entries-in-Ok-clause-of_scan c =
    ap length c.in_ok-put_entries-in-Ok.ensures.ok
    ∙ length-with_row c.args.state.now c.args.section.now.row (Good c.deref.result.now) ∙ c.requires.of_scan

pub returns-in_ok-put_entries-in-Ok-clause-honest : goal.returns-in_ok-put_entries-in-Ok-clause-honest
returns-in_ok-put_entries-in-Ok-clause-honest c =
    let scan = c.args.scan.now in
    let state = c.args.state.now in
    let i = c.args.section.now.row in
    let row = c.index-wanted-i.result in
    let spec = c.spec.result.now in
    let at : slice_get scan.wanted i ≡ Some row = get_at scan.wanted i row c.requires.row
    (c.index-wanted-i.is ∙ ap (λ (rs : List Row). get_or rs i row) c.wanted.ensures) in
    let of_row = rw c.in-Ok.is at c.in_ok-entries.ensures.of_row in
    λ of. subst (IsOfScan scan) (sym c.in_ok-put_entries-in-Ok.ensures.ok)
    (put_of_scan scan state i (Good c.deref.result.now) row spec at c.spec.ensures (rw c.deref.ensures.value of_row) of)

pub returns-in_ok-put_entries-in-Ok-clause-exact : goal.returns-in_ok-put_entries-in-Ok-clause-exact
returns-in_ok-put_entries-in-Ok-clause-exact c =
    let scan = c.args.scan.now in
    let state = c.args.state.now in
    let i = c.args.section.now.row in
    let row = c.index-wanted-i.result in
    let spec = c.spec.result.now in
    let body = c.args.section.now.body.now in
    let at : slice_get scan.wanted i ≡ Some row = get_at scan.wanted i row c.requires.row
    (c.index-wanted-i.is ∙ ap (λ (rs : List Row). get_or rs i row) c.wanted.ensures) in
    let put = λ (m : Result Reading StateFault). m >>= λ r. Ok (with_row state i r) in
    let given : section_at row spec body ≡ Ok (Ok c.in-Ok.entries.items) =
    rw c.in-Ok.is at c.in_ok-entries.ensures.found in
    ap put (reading_is scan i row spec body at c.spec.ensures ∙ ap said given)
    ∙ ap (λ (es : List Entry). Ok (with_row state i (Good es))) (sym c.deref.ensures.value)
    ∙ ap Ok (sym c.in_ok-put_entries-in-Ok.ensures.ok)

pub returns-in-Err-clause-of_scan : goal.returns-in-Err-clause-of_scan
returns-in-Err-clause-of_scan c =
    ap length c.put_fault.ensures.row
    ∙ length-with_row c.args.state.now c.args.section.now.row (Bad c.in-Err.fault) ∙ c.requires.of_scan

pub returns-in-Err-clause-honest : goal.returns-in-Err-clause-honest
returns-in-Err-clause-honest c =
    let scan = c.args.scan.now in
    let state = c.args.state.now in
    let i = c.args.section.now.row in
    let row = c.index-wanted-i.result in
    let spec = c.spec.result.now in
    let at : slice_get scan.wanted i ≡ Some row = get_at scan.wanted i row c.requires.row
    (c.index-wanted-i.is ∙ ap (λ (rs : List Row). get_or rs i row) c.wanted.ensures) in
    λ of. subst (IsOfScan scan) (sym c.put_fault.ensures.row)
    (put_of_scan scan state i (Bad c.in-Err.fault) row spec at c.spec.ensures tt of)

pub returns-in-Err-clause-exact : goal.returns-in-Err-clause-exact
returns-in-Err-clause-exact c =
    let scan = c.args.scan.now in
    let state = c.args.state.now in
    let i = c.args.section.now.row in
    let row = c.index-wanted-i.result in
    let spec = c.spec.result.now in
    let body = c.args.section.now.body.now in
    let at : slice_get scan.wanted i ≡ Some row = get_at scan.wanted i row c.requires.row
    (c.index-wanted-i.is ∙ ap (λ (rs : List Row). get_or rs i row) c.wanted.ensures) in
    let put = λ (m : Result Reading StateFault). m >>= λ r. Ok (with_row state i r) in
    let given : section_at row spec body ≡ Ok (Err c.in-Err.fault) =
    rw c.in-Err.is at c.in_ok-entries.ensures.found in
    ap put (reading_is scan i row spec body at c.spec.ensures ∙ ap said given) ∙ ap Ok (sym c.put_fault.ensures.row)
