use Rattle.std.proofs.Common.{ℕ, map, sym, subst}
use Rattle.ice_state_envelopes.specs.Envelopes.{Rise, shown}
use Rattle.ice_state_envelopes.proofs.Unions.{union_rises}
use Rattle.ice_state_envelopes.proofs.envelope.Envelope.join.Goals as goal

pub invariant_of-result : goal.invariant_of-result
invariant_of-result c =
    let other : Rise 0 c.self.inside.rows (map shown c.other.inside.sections.items) =
    subst (λ (n : ℕ). Rise 0 n (map shown c.other.inside.sections.items)) (sym c.if-self-other.false)
    c.other.invariant.1 in (
      c.self.invariant.0,
      rw (c.in_ok-sections.ensures, c.deref.ensures.value, c.deref-2.ensures.value)
          (union_rises 0 c.self.inside.rows (map shown c.self.inside.sections.items)
          (map shown c.other.inside.sections.items) c.self.invariant.1 other),
    )
