use Rattle.std.proofs.Common.{◌≡◌, ◌++◌, arith}
use Rattle.std.proofs.lemmas.Int.{to_z-of_z}
use Rattle.avro_file.specs.Value.{whole}
use Rattle.avro_file.specs.Writing.{long_bytes, written}
use Rattle.avro_file.proofs.Encoded.{pair_written}
use Rattle.avro_file.proofs.encode.push_long_pair.Goals as goal

pub returns : goal.returns
unfolding written
returns c =
    let key : c.in_ok-bytes.bytes.items ≡ c.args.bytes.items ++ long_bytes c.args.pair.now.0 =
    grind (arith, to_z-of_z) in
    rw (pair_written c.args.pair.now.0 (whole c.args.pair.now.1) c.args.bytes.items, ← key) (grind (arith, to_z-of_z))
