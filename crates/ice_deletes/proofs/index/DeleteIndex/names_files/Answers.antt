use Rattle.std.proofs.Common.{◌≡◌, ◌∙◌, ◌==◌, ℕ, List, ap, arith, length, not, rules, subst, sym, vec_len}
use Rattle.std.proofs.lemmas.Grind.{common_steps}
use Rattle.std.specs.List.{list_any}
use Rattle.ice_value.specs.Applying.{DeleteKey}
use Rattle.ice_deletes.specs.declared.group.Group.TheVariants.{Referenced}
use Rattle.ice_deletes.specs.Groups.{is_in}
use Rattle.ice_deletes.proofs.Unnamed.{names_if_any}
use Rattle.ice_deletes.proofs.index.DeleteIndex.names_files.Goals as goal

pub returns : goal.returns
returns c =
    let P : List (ℕ × DeleteKey) → Type 0 = λ es. not c.is_empty.result ≡ list_any (λ e. is_in Referenced e.1) es in
    let files = c.self.inside.referenced.deletes in
    let many : vec_len files ≡ length files.items = first_of (search rules, grind (arith, common_steps)) in
    subst P c.self.view_is (ap not (c.is_empty.ensures ∙ ap (λ n. n == 0) many)
    ∙ sym (names_if_any c.self.inside c.self.invariant))
