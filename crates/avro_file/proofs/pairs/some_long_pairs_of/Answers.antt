use Rattle.std.proofs.Common.{◌≡◌, ◌∷◌, ◌++◌, [], rules}
use Rattle.std.proofs.lemmas.Result.{err_from_is_err_and}
use Rattle.std.proofs.lemmas.List.{map_push}
use Rattle.std.proofs.lemmas.Int.{to_z-of_z}
use mir.Syntax.{w32, w64}
use mir.Val.{to_z, of_z}
use Rattle.avro_schema.specs.Tree.{long}
use Rattle.avro_file_parts.specs.Place.{position_of}
use Rattle.avro_file.specs.Reading.{datum_at}
use Rattle.avro_file.specs.Value.{whole}
use Rattle.avro_file.specs.View.{pair_with, long_pairs}
use Rattle.avro_file.specs.Pairs.{pair}
use Rattle.avro_file.proofs.Loop.{values_on, values_fail, values_done}
use Rattle.avro_file.proofs.Paired.{key_fails, long_read, long_fails}
use Rattle.avro_file.proofs.pairs.some_long_pairs_of.Goals as goal

pub returns-in_err-key : goal.returns-in_err-key
returns-in_err-key c =
    let p = err_from_is_err_and c.from_residual-in_err-key.result c.from_residual-in_err-key.ensures.1 in
    let fails = key_fails c.in_err-key.field-0.0 long (position_of c.items.here) c.in_err-key.ensures in
    rw (p.1, p.2) (λ m. values_fail c.in_err-key.field-0.0 (datum_at (pair long)) _ c.args.count c.items.counter _ _
    c.items-test.true fails c.items.invariant)

pub returns-in_err-value : goal.returns-in_err-value
returns-in_err-value c =
    let p = err_from_is_err_and c.from_residual-in_err-value.result c.from_residual-in_err-value.ensures.1 in
    let fails = long_fails c.in_err-value.field-0.0 (position_of c.items.here) _ _ c.in_ok-key.ensures
    c.in_err-value.ensures in
    rw (p.1, p.2) (λ m. values_fail c.in_err-value.field-0.0 (datum_at (pair long)) _ c.args.count c.items.counter _ _
    c.items-test.true fails c.items.invariant)

pub items-preserved : goal.items-preserved
items-preserved c =
    let k : to_z w32 (of_z w32 c.in_ok-key.key) ≡ c.in_ok-key.key = to_z-of_z w32 c.in_ok-key.key (search rules) in
    let z : to_z w64 (of_z w64 c.in_ok-value.value) ≡ c.in_ok-value.value = to_z-of_z w64 c.in_ok-value.value
    (search rules) in
    let e : long_pairs c.push.new.self.items ≡ long_pairs c.items.pairs.items ++ pair_with c.in_ok-key.key
    (whole c.in_ok-value.value) ∷ [] = rw (c.in_ok-push.ensures.items, k, z) (map_push _ c.items.pairs.items
    (c.in_ok-key.key, c.in_ok-value.value)) in
    let one = long_read (position_of c.items.here) _ _ _ _ c.in_ok-key.ensures c.in_ok-value.ensures in
    rw e (values_on (datum_at (pair long)) _ c.args.count c.items.counter _ _ _ _ c.items-test.true one
    c.items.invariant)

pub returns : goal.returns
returns c = values_done (datum_at (pair long)) _ c.args.count c.items.counter _ _ c.items-test.false c.items.invariant
