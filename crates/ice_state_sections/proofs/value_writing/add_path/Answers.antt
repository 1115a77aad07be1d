use Rattle.std.proofs.Common.{◌≡◌, ◌≤◌, ◌-◌, ℕ, List, length, take, drop, subst, ap, ◌∙◌}
use Rattle.ice_state_sections.specs.Parts.{run}
use Rattle.ice_state_sections.specs.Written.{Adds}
use Rattle.ice_state_sections.proofs.ValuesAdded.{path_added}
use Rattle.ice_state_sections.proofs.value_writing.add_path.Goals as goal

pub returns : goal.returns
returns c =
    let known = c.args.known.now in
    let path = c.args.path.now in
    let n = c.shared_front-front.result in
    let m = c.shared_back-back.result in
    let rest = c.split_at-2.result.1.now in
    let known_is = c.split_at.ensures.back in
    let path_is = c.split_at-2.ensures.back in
    let within : m ≤ length (drop n known) =
    subst (λ (l : List ℕ). m ≤ length l) known_is c.shared_back-back.ensures.known in
    let of_known : drop (length (drop n known) - m) (drop n known) ≡ drop (length rest - m) rest =
    subst (λ (l : List ℕ). drop (length l - m) l ≡ drop (length rest - m) rest) known_is
    c.shared_back-back.ensures.same in
    let back : drop (length (drop n known) - m) (drop n known) ≡ drop (length (drop n path) - m) (drop n path) =
    of_known ∙ ap (λ (l : List ℕ). drop (length l - m) l) path_is in
    let own = c.split_at-3.ensures.front ∙ ap (λ (l : List ℕ). take (length l - m) l) path_is in
    let put = subst (λ (l : List ℕ). Adds run l c.in_ok-bytes-2.bytes.items c.in_ok-add_run.field-0.items) own
    c.in_ok-add_run.ensures in
    path_added known path n m _ _ _ _ c.shared_front-front.ensures.known c.shared_front-front.ensures.same within back
    c.in_ok-bytes.ensures c.in_ok-bytes-2.ensures put
