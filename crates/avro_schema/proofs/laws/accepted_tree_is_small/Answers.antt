use Rattle.std.proofs.Common.{◌≤◌}
use Rattle.std.proofs.lemmas.Result.{IfOk-at_ok}
use Rattle.avro_schema.specs.Size.{nodes, depth}
use Rattle.avro_schema.specs.Texts.{most_nodes, most_levels}
use Rattle.avro_schema.proofs.Limits.{schema_small}
use Rattle.avro_schema.proofs.laws.accepted_tree_is_small.Goals as goal

pub returns-clause-nodes : goal.returns-clause-nodes
returns-clause-nodes c = λ text t h. (IfOk-at_ok (λ u. (nodes u ≤ most_nodes) × (depth u ≤ most_levels)) h
    (schema_small text)).0

pub returns-clause-depth : goal.returns-clause-depth
returns-clause-depth c = λ text t h. (IfOk-at_ok (λ u. (nodes u ≤ most_nodes) × (depth u ≤ most_levels)) h
    (schema_small text)).1
