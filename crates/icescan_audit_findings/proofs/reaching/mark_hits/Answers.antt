use Rattle.std.proofs.Common.{arith, ◌++◌, List, ℕ}
use Rattle.std.specs.List.{Contains}
use Rattle.std.proofs.lemmas.List.Elements.{Contains-append_left, Contains-append_right}
use Rattle.ice_deletes.specs.Found.{lent}
use Rattle.ice_deletes.specs.declared.index.Hits.{Hits}
use Rattle.icescan_audit_findings.proofs.reaching.mark_hits.Goals as goal

module _ (h : Hits) (n : ℕ) where
  abbrev three : List ℕ
  three = h.positions.now ++ h.referenced.now ++ h.equalities.now

  abbrev two : List ℕ
  two = h.positions.now ++ h.referenced.now

  in_two : Contains two n → Contains (lent h) n
  in_two m = Contains-append_left three h.everywhere.now n (Contains-append_left two h.equalities.now n m)

  first : Contains h.positions.now n → Contains (lent h) n
  first m = in_two (Contains-append_left h.positions.now h.referenced.now n m)

  second : Contains h.referenced.now n → Contains (lent h) n
  second m = in_two (Contains-append_right h.positions.now h.referenced.now n m)

  third : Contains h.equalities.now n → Contains (lent h) n
  third m = Contains-append_left three h.everywhere.now n (Contains-append_right two h.equalities.now n m)

  fourth : Contains h.everywhere.now n → Contains (lent h) n
  fourth m = Contains-append_right three h.everywhere.now n m

pub mark-requires : goal.mark-requires
mark-requires c = λ n m. c.requires n (first c.args.hits.now n m)

pub mark-requires-2 : goal.mark-requires-2
mark-requires-2 c = λ n m. omega (arith, c.requires n (second c.args.hits.now n m), c.mark.ensures.many)

pub mark-requires-3 : goal.mark-requires-3
mark-requires-3 c = λ n m.
    omega (arith, c.requires n (third c.args.hits.now n m), c.mark.ensures.many, c.mark-2.ensures.many)

pub mark-requires-4 : goal.mark-requires-4
mark-requires-4 c = λ n m. omega (
  arith,
  c.requires n (fourth c.args.hits.now n m),
  c.mark.ensures.many,
  c.mark-2.ensures.many,
  c.mark-3.ensures.many,
)
