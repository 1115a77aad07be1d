-- The plan of a manifest list, of which no types are known.
use Rattle.std.proofs.Common.{◌≡◌, ℕ, List, [], refl}
use Rattle.std.specs.Prelude.{Ok}
use Rattle.icescan_requests.specs.ListPlans.{list_answer}
use Rattle.ice_state.specs.Contents.{World}
use Rattle.ice_state.specs.Lines.{OwnedLine}
use Rattle.icescan_text.specs.Reads.{MayEnd}
use Rattle.icescan_text.specs.declared.fault.RunFault.{RunFault}
use Rattle.icescan_text.proofs.Steps.{first_ends}
use Rattle.icescan_json.specs.Expressions.{every_row_text}
use Rattle.icescan_json.specs.JsonAnswers.{typed_list_answer}

pub refused_listed : (world : World) (list : List ℕ) (r : List ℕ → Type 0) (e : RunFault)
    → MayEnd (list_answer world list) r ⊥ e → MayEnd (typed_list_answer world list) r ⊥ e
unfolding typed_list_answer
refused_listed world list r e h = first_ends r ⊥ r (list_answer world list) _ e (λ p m. m) h

pub plan_listed : (world : World) (list : List ℕ) (plan : List OwnedLine) → list_answer world list ≡ Ok plan
    → typed_list_answer world list ≡ Ok (record { types = []; residual = every_row_text; plan = plan })
unfolding typed_list_answer
plan_listed world list plan h = rw h refl
