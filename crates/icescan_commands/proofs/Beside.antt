-- What is written beside an answer.
use Rattle.std.proofs.Common.{◌≡◌, ℕ, List, [], ◌++◌, Option, None, Some, refl, ap, ◌∙◌, append_assoc}
use Rattle.std.specs.Prelude.{Result, Ok, Err, OnErr, OnOk}
use Rattle.std.proofs.lemmas.List.Elements.{All-append, All-nil}
use Rattle.icescan_progress.proofs.Plain.{nothing_plain}
use Rattle.icescan_progress.specs.Hints.{AppendsPlain, IsPlain}
use Rattle.icescan_text.specs.declared.fault.RunFault.{RunFault}
use Rattle.icescan_words.specs.declared.command.Command.{Command}
use Rattle.icescan_words.specs.declared.command.Command.TheVariants as command
use Rattle.icescan_commands.specs.Runs.{WroteBeside, ended}

-- nothing was
pub none_beside : {A : Type 0} (r : Result A RunFault) (o : Option (List ℕ)) → OnOk r (o ≡ o)
none_beside (Ok x) o = refl
none_beside (Err e) o = tt

pub still_same : {A E : Type 0} (r : Result A RunFault) (errors : E) → OnErr r (errors ≡ errors)
still_same (Ok x) errors = tt
still_same (Err e) errors = refl

pub on_err_as : (P : Type 0) (r : Result Unit RunFault) (counted : Result ℕ RunFault) → ended counted ≡ r → OnErr r P
    → OnErr counted P
on_err_as P r (Ok n) is h = tt
on_err_as P (Ok x) (Err e) is h = absurd cc
on_err_as P (Err f) (Err e) is h = h

-- one text without control characters after another
pub plain_then : (a b c : Option (List ℕ)) → AppendsPlain a b → AppendsPlain b c → AppendsPlain a c
plain_then None b c h k = ([], All-nil IsPlain, tt)
plain_then (Some x) None c h k = absurd (let no = h.2 in cc)
plain_then (Some x) (Some y) c h k =
    let front = h.2 in
    let both : y ++ k.0 ≡ x ++ (h.0 ++ k.0) = let is : y ≡ x ++ h.0 = cc in ap (λ z. z ++ k.0) is ∙ append_assoc x h.0 k.0 in
    (h.0 ++ k.0, All-append IsPlain h.0 k.0 h.1 k.1, k.2 ∙ ap Some both)

pub beside_nothing : (asked : Result Command RunFault) (o : Option (List ℕ)) → WroteBeside asked o o
beside_nothing (Err fault) o = refl
beside_nothing (Ok (command.ListPlan lists form)) o = refl
beside_nothing (Ok (command.Plan from request form workers path)) o = refl
beside_nothing (Ok (command.Commit from request)) o = refl
beside_nothing (Ok (command.Show from form path)) o = refl
beside_nothing (Ok (command.Locate folder told)) o = refl
beside_nothing (Ok (command.Columns from of form path)) o = refl
beside_nothing (Ok (command.Audit from of form workers path)) o = refl
beside_nothing (Ok (command.AuditAll from form workers path)) o = refl
beside_nothing (Ok (command.Explain from request form workers path)) o = refl
beside_nothing (Ok (command.Relaxed what from request form workers path)) o = nothing_plain o
beside_nothing (Ok (command.Changes from request form workers path)) o = refl
beside_nothing (Ok (command.Reachable from part form path)) o = refl
beside_nothing (Ok (command.Orphans place older form path)) o = refl
beside_nothing (Ok (command.Take from asked share workers path)) o = nothing_plain o
beside_nothing (Ok (command.Join states)) o = refl
beside_nothing (Ok (command.Finish from asked states form workers path)) o = nothing_plain o
beside_nothing (Ok (command.Drill drill)) o = refl
beside_nothing (Ok (command.Text text)) o = refl

same_plain : (o o' : Option (List ℕ)) → o' ≡ o → AppendsPlain o o'
same_plain o o' is = rw is (nothing_plain o)

pub beside_plain : (asked : Result Command RunFault) (o o' : Option (List ℕ)) → WroteBeside asked o o'
    → AppendsPlain o o'
beside_plain (Err fault) o o' h = same_plain o o' h
beside_plain (Ok (command.ListPlan lists form)) o o' h = same_plain o o' h
beside_plain (Ok (command.Plan from request form workers path)) o o' h = same_plain o o' h
beside_plain (Ok (command.Commit from request)) o o' h = same_plain o o' h
beside_plain (Ok (command.Show from form path)) o o' h = same_plain o o' h
beside_plain (Ok (command.Locate folder told)) o o' h = same_plain o o' h
beside_plain (Ok (command.Columns from of form path)) o o' h = same_plain o o' h
beside_plain (Ok (command.Audit from of form workers path)) o o' h = same_plain o o' h
beside_plain (Ok (command.AuditAll from form workers path)) o o' h = same_plain o o' h
beside_plain (Ok (command.Explain from request form workers path)) o o' h = same_plain o o' h
beside_plain (Ok (command.Relaxed what from request form workers path)) o o' h = h
beside_plain (Ok (command.Changes from request form workers path)) o o' h = same_plain o o' h
beside_plain (Ok (command.Reachable from part form path)) o o' h = same_plain o o' h
beside_plain (Ok (command.Orphans place older form path)) o o' h = same_plain o o' h
beside_plain (Ok (command.Take from asked share workers path)) o o' h = h
beside_plain (Ok (command.Join states)) o o' h = same_plain o o' h
beside_plain (Ok (command.Finish from asked states form workers path)) o o' h = h
beside_plain (Ok (command.Drill drill)) o o' h = same_plain o o' h
beside_plain (Ok (command.Text text)) o o' h = same_plain o o' h
