use Rattle.std.proofs.Common.{◌++◌, subst, List, append_assoc, sym}
use Rattle.std.specs.List.Sorted.{IsPermutation}
use Rattle.std.proofs.lemmas.List.Sorted.{IsPermutation-append_right}
use Rattle.std.proofs.lemmas.Result.{IfOk-weaker}
use Rattle.ice_manifest_reading.specs.declared.entry.Entry.{Entry}
use Rattle.ice_state.proofs.DeletesKept.{deletes_moved}
use Rattle.ice_state.proofs.kept.deletes.KeptDeletes.with.Goals as goal

pub returns : goal.returns
returns c = λ kept xs ys are its.
    let front = c.in_ok-both.ensures kept xs its.first are its.index in
    let same : IsPermutation ((xs ++ its.first) ++ its.others) (xs ++ ys) =
    subst (λ (zs : List Entry). IsPermutation zs (xs ++ ys)) (sym (append_assoc xs its.first its.others))
    (IsPermutation-append_right xs (its.first ++ its.others) ys its.parts) in
    IfOk-weaker c.with_files.result _ _
    (λ d more. deletes_moved kept ((xs ++ its.first) ++ its.others) (xs ++ ys) d same more)
    (c.with_files.ensures kept (xs ++ its.first) its.others front its.files its.waiting)
