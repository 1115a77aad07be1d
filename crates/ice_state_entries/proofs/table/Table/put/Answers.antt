use Rattle.std.proofs.Common.{◌≡◌, ◌≢◌, ◌<◌, List, ℕ, [], ◌∷◌, ◌++◌, length, get_or, ap, sym, ◌∙◌, arith, inl, inr}
use Rattle.path_arena.specs.Arena.{string}
use Rattle.ice_state_entries.specs.declared.entries.EntryNumber.TheVariants.{Record as First}
use Rattle.ice_state_entries.specs.Own.{Own}
use Rattle.ice_state_entries.specs.Tables.{Rows, row_at, with_paths, with_their_paths}
use Rattle.ice_state_entries.proofs.Rows.{length-with_paths, with_paths-at, with_paths-push, with_their_paths-new}
use Rattle.ice_state_entries.proofs.table.Table.put.Goals as goal

pub returns-then-place-len-clause-ok : goal.returns-then-place-len-clause-ok
returns-then-place-len-clause-ok c =
    let t = c.self.inside in let ps = t.paths in let rs = t.records.items in let cs = t.clashes.items in
    let path = c.args.path.now in let own = c.args.own in let many = c.self.invariant.as_many in
    let count = ap (λ (rows : Rows). length rows.records) c.self.view_is in
    let new : c.in_ok-id.id ≡ length ps =
    omega (arith, many, c.reserve.ensures.len, c.len.ensures, c.if-place-len.true, c.place.ensures) in
    let paths : c.intern.new.self ≡ ps ++ path ∷ [] = c.in_ok-id.ensures.new new in
    let records : c.push_reserved.new.self.items ≡ rs ++ own ∷ [] =
    c.push_reserved.ensures.items ∙ ap (λ (xs : List Own). xs ++ own ∷ []) c.reserve.ensures.items in
    let first =
    (λ i. with_paths (paths i) (records i)) ∙ with_paths-push ps rs path own many
    ∙ ap (λ (rows : Rows). rows.records ++ (path, own) ∷ []) c.self.view_is in
    let further =
    ap (λ (xs : List (List ℕ)). with_their_paths xs cs) paths ∙ with_their_paths-new ps path cs c.self.invariant.known
    ∙ ap (λ (rows : Rows). rows.clashes) c.self.view_is in inr (
      omega (arith, new, many, c.place-then-place-len.ensures, length-with_paths ps rs many, count),
      λ i. record { records = first i; clashes = further i },
    )

pub returns-then-is_same-clause-ok : goal.returns-then-is_same-clause-ok
returns-then-is_same-clause-ok c =
    let t = c.self.inside in let ps = t.paths in let rs = t.records.items in let cs = t.clashes.items in
    let own = c.args.own in let many = c.self.invariant.as_many in let id = c.in_ok-id.id in
    let count = ap (λ (rows : Rows). length rows.records) c.self.view_is in
    let known : id ≢ length ps = λ same. absurd (omega (
      arith,
      same,
      many,
      c.reserve.ensures.len,
      c.len.ensures,
      c.if-place-len.false,
      c.place.ensures,
    )) in
    let paths : c.intern.new.self ≡ ps = c.in_ok-id.ensures.known known in
    let lt : id < length rs =
    omega (arith, many, c.in_ok-id.ensures.id.0, ap (λ (xs : List (List ℕ)). length xs) paths) in
    let records : c.reserve.new.self.items ≡ rs = c.reserve.ensures.items in
    let path = sym (ap (λ (xs : List (List ℕ)). string xs id) paths) ∙ c.in_ok-id.ensures.id.1 in
    let same : get_or rs id c.index.result.now ≡ own =
    sym (c.index.ensures ∙ (λ i. get_or (records i) (c.place-2.ensures i) c.index.result.now))
    ∙ c.is_same.ensures c.if-is_same.true in inl (
      omega (arith, lt, count, length-with_paths ps rs many, c.place-then-is_same.ensures),
      ap (λ n. row_at c.args.self.now (First n)) c.place-then-is_same.ensures
          ∙ ap (λ rows. row_at rows (First id)) (sym c.self.view_is)
          ∙ with_paths-at ps rs id c.index.result.now many lt ∙ (λ i. (path i, same i)),
      (λ i. record { records = with_paths (paths i) (records i); clashes = with_their_paths (paths i) cs })
          ∙ c.self.view_is,
    )
