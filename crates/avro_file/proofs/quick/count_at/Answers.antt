use Rattle.avro_file.proofs.Places.{count_ends, negative_count_ends}
use Rattle.avro_file.proofs.quick.count_at.Goals as goal
use Rattle.avro_file.proofs.quick.count_at.Goals.{then-end-eq0-via-then-end-eq0}
use Rattle.avro_file.proofs.quick.count_at.Goals.{then-end-eq0-via-else-end-eq0+then-value-eq0}

pub returns-in-Some : goal.returns-in-Some
returns-in-Some c = λ some. negative_count_ends c.args.bytes.now c.args.at c.number_at-value.result.0
    c.number_at-value.result.1 c.in-Some.end (c.number_at-value.ensures c.if-end-eq0.false) c.if-value-eq0.false
    c.in-Some.ensures

pub returns-then-end-eq0 : goal.returns-then-end-eq0
returns-then-end-eq0 c = λ some. elim c.then-end-eq0.branch [
  | then-end-eq0-via-then-end-eq0 w ↦ absurd (some w.if-end-eq0.true)
  | then-end-eq0-via-else-end-eq0+then-value-eq0 w ↦ count_ends c.args.bytes.now c.args.at c.number_at-value.result.0
      c.number_at-value.result.1 (c.number_at-value.ensures some) w.if-value-eq0.true
]
