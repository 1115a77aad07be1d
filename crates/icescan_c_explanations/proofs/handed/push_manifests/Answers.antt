use Rattle.std.proofs.Common.{◌≡◌, ◌++◌, ap, sym, subst, refl, append-nil}
use Rattle.std.specs.FinMap.{get}
use Rattle.std.specs.Prelude.{Err, OnOk}
use Rattle.ice_state.specs.Contents.{World}
use Rattle.icescan_requests.specs.Plans.{selected_rows}
use Rattle.icescan_c_explanations.specs.Handed.{manifests_for}
use Rattle.icescan_c_explanations.proofs.Endings.{ends, on_ok}
use Rattle.icescan_c_explanations.proofs.handed.push_manifests.Goals as goal

pub returns-in-Ok : goal.returns-in-Ok
returns-in-Ok c =
    let found = c.in-Ok.ensures.found (λ path. get c.args.files.now path) refl in
    subst (λ r. OnOk c.push_wanted.result (c.push_wanted.new.paths ≡ c.args.paths.now ++ manifests_for r)) (sym found)
    c.push_wanted.ensures

pub returns-in-Err : goal.returns-in-Err
returns-in-Err c =
    let world : World = λ path. get c.args.files.now path in
    let found = selected_rows world c.args.metadata.now c.args.request.now in
    on_ok c.pass_memory.result (λ memory.
    let none = ends found _ _ c.in-Err.fault (c.in-Err.ensures.refused world refl)
    (λ path is. c.in-Err.ensures.device path (ap Err is)) (λ is. c.in-Err.ensures.write (ap Err is)) memory in
    rw none (sym (append-nil c.args.paths.now))) c.pass_memory.ensures
