use Rattle.std.proofs.Common.{◌++◌, List, ℕ, ℤ, ap, sym, ◌∙◌}
use denote.Ref.{Bor}
use Rattle.std.proofs.lemmas.List.{append-nil}
use Rattle.avro_file.specs.Value.{Value, run}
use Rattle.avro_file.specs.View.{pair_with}
use Rattle.avro_file.proofs.Encoded.{copied_on, made_over}
use Rattle.avro_file.proofs.encode.push_each_bytes_pair.Goals as goal

abbrev made : (ℤ × Bor (List ℕ)) → Value
made p = pair_with p.0 (run p.1.now)

pub pairs-preserved : goal.pairs-preserved
pairs-preserved c = copied_on made c.args.pairs.now c.pairs.pair-index _ c.pairs.bytes.items c.in_ok-bytes.bytes.items _
    c.pairs-test.true c.in_ok-bytes.ensures c.pairs.invariant

pub returns : goal.returns
returns c = sym (append-nil c.pairs.bytes.items) ∙ ap (λ (s : List ℕ). c.pairs.bytes.items ++ s)
    (sym (made_over made c.args.pairs.now c.pairs.pair-index c.pairs-test.false)) ∙ c.pairs.invariant
