use Rattle.std.proofs.Common.{sym, ◌∙◌}
use Rattle.std.proofs.lemmas.Result.{err_from_is_err_and}
use Rattle.serde_json.specs.View.{view}
use Rattle.ice_meta.specs.Targets.{described}
use Rattle.ice_meta.proofs.Committed.{committed_gives, committed_fails, committed_follows, is_filled}
use Rattle.ice_meta.proofs.Committed.{is_object, nests, tells_time}
use Rattle.ice_meta.proofs.metadata.Metadata.into_next.Goals as goal

pub returns-in_err-table-clause-json : goal.returns-in_err-table-clause-json
returns-in_err-table-clause-json c =
    let m = c.args.self in
    let p = err_from_is_err_and c.from_residual-in_err-table.result c.from_residual-in_err-table.ensures.1 in
    rw (p.1, p.2) (λ other. committed_fails (described m.json m.table) c.args.added.now (view c.in_ok-json.json) _
    c.in_ok-json.ensures.json (c.in_err-table.ensures.read other))

pub returns-in_err-table-clause-table : goal.returns-in_err-table-clause-table
returns-in_err-table-clause-table c =
    let m = c.args.self in
    let p = err_from_is_err_and c.from_residual-in_err-table.result c.from_residual-in_err-table.ensures.1 in
    rw (p.1, p.2) (λ can other. sym (committed_follows (described m.json m.table) c.args.added.now m.says can
    c.in_ok-json.ensures.longs)
    ∙ committed_fails (described m.json m.table) c.args.added.now (view c.in_ok-json.json) _ c.in_ok-json.ensures.json
    (c.in_err-table.ensures.read other))

pub invariant_of-result : goal.invariant_of-result
invariant_of-result c =
    let m = c.args.self in
    record {
      named = c.in_ok-table.ensures.current_schema;
      object = is_object (view m.json) _ m.table c.args.added.now c.in_ok-json.ensures.json;
      nests = nests (view m.json) _ m.table c.args.added.now c.in_ok-json.ensures.json m.nests;
      filled = is_filled (view m.json) _ m.table c.args.added.now c.in_ok-json.ensures.json m.filled;
      says = c.in_ok-table.ensures.read;
    }

pub returns-clause-json : goal.returns-clause-json
returns-clause-json c =
    let m = c.args.self in
    committed_gives (described m.json m.table) c.args.added.now (view c.in_ok-json.json) c.in_ok-table.table
    c.in_ok-json.ensures.json c.in_ok-table.ensures.read

pub returns-clause-table : goal.returns-clause-table
returns-clause-table c =
    let m = c.args.self in
    let s = c.args.added.now in
    λ can. sym (committed_follows (described m.json m.table) s m.says can c.in_ok-json.ensures.longs)
    ∙ committed_gives (described m.json m.table) s (view c.in_ok-json.json) c.in_ok-table.table
    c.in_ok-json.ensures.json c.in_ok-table.ensures.read

pub returns-clause-time : goal.returns-clause-time
returns-clause-time c =
    let m = c.args.self in
    tells_time (described m.json m.table) c.args.added.now (view c.in_ok-json.json) c.in_ok-table.table
    c.in_ok-json.ensures.json c.in_ok-table.ensures.read c.in_ok-json.ensures.longs
