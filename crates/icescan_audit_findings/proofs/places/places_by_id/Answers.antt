use Rattle.std.proofs.lemmas.List.Sorted.{Contains-permutation}
use Rattle.icescan_audit_findings.proofs.places.places_by_id.Goals as goal

pub returns : goal.returns
returns c = λ k d low. Contains-permutation c.in_ok-places.places.items c.sort_by_key.new.self.items _
    c.in_ok-sort_by_key.ensures.permutation (c.in_ok-places.ensures k d low)
