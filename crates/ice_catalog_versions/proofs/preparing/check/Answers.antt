use Rattle.std.proofs.Common.{◌≡◌, ◌+◌, List, ℕ, length, length-append, map, sym, ap, ◌∙◌, Bor, arith}
use Rattle.std.proofs.lemmas.List.{length-map}
use Rattle.std.specs.Prelude.{Some}
use Rattle.std.proofs.lemmas.Result.{err_from_is_err_and}
use Rattle.ice_meta.specs.Targets.{described}
use Rattle.ice_catalog_changes.specs.declared.change.Commit.{Commit}
use Rattle.ice_catalog_versions.specs.Refusals.{all_files, sorted_paths, no_such_spec, wrong_tuple, base_bad}
use Rattle.ice_catalog_versions.specs.Refusals.{path_taken}
use Rattle.ice_catalog_versions.specs.Refusals.{too_many, too_many_rows}
use Rattle.ice_catalog_versions.specs.Seen.{seen}
use Rattle.ice_catalog_versions.specs.States.{State}
use Rattle.ice_catalog_versions.proofs.Reasons.{refused_at, refused_by, both_none, not_refused}
use Rattle.ice_catalog_versions.proofs.preparing.check.Goals as goal

pub returns-in_err-check_not_empty-clause-refuses : goal.returns-in_err-check_not_empty-clause-refuses
returns-in_err-check_not_empty-clause-refuses c =
    let s : State = record {
      metadata = described c.args.metadata.now.json c.args.metadata.now.table;
      world = c.args.world.now;
    } in
    let commit : Commit = record { change = c.args.change.now; ids = c.args.ids.now } in
    let p = err_from_is_err_and c.from_residual.result c.from_residual.ensures.1 in
    rw (p.1, p.2) (λ other. refused_at 0 s commit _ tt (ap Some (c.in_err-check_not_empty.ensures other)))

pub returns-in_err-check_snapshot-clause-refuses : goal.returns-in_err-check_snapshot-clause-refuses
returns-in_err-check_snapshot-clause-refuses c =
    let s : State = record {
      metadata = described c.args.metadata.now.json c.args.metadata.now.table;
      world = c.args.world.now;
    } in
    let commit : Commit = record { change = c.args.change.now; ids = c.args.ids.now } in
    let p = err_from_is_err_and c.from_residual-in_err-check_snapshot.result
    c.from_residual-in_err-check_snapshot.ensures.1 in
    rw (p.1, p.2) (λ other. refused_at 1 s commit _ (c.in_ok-check_not_empty.ensures, tt)
    (ap Some (c.in_err-check_snapshot.ensures other)))

pub returns-in_err-check_sequence-clause-refuses : goal.returns-in_err-check_sequence-clause-refuses
returns-in_err-check_sequence-clause-refuses c =
    let s : State = record {
      metadata = described c.args.metadata.now.json c.args.metadata.now.table;
      world = c.args.world.now;
    } in
    let commit : Commit = record { change = c.args.change.now; ids = c.args.ids.now } in
    let p = err_from_is_err_and c.from_residual-in_err-check_sequence.result
    c.from_residual-in_err-check_sequence.ensures.1 in
    rw (p.1, p.2) (λ other. refused_at 2 s commit _ (
      c.in_ok-check_not_empty.ensures,
      (
        c.in_ok-check_snapshot.ensures,
        tt,
      ),
    ) (ap Some (c.in_err-check_sequence.ensures other)))

pub returns-in_err-paths-clause-refuses : goal.returns-in_err-paths-clause-refuses
returns-in_err-paths-clause-refuses c =
    let s : State = record {
      metadata = described c.args.metadata.now.json c.args.metadata.now.table;
      world = c.args.world.now;
    } in
    let commit : Commit = record { change = c.args.change.now; ids = c.args.ids.now } in
    let p = err_from_is_err_and c.from_residual-in_err-paths.result c.from_residual-in_err-paths.ensures.1 in
    rw (p.1, p.2) (λ other. refused_at 3 s commit _ (
      c.in_ok-check_not_empty.ensures,
      (
        c.in_ok-check_snapshot.ensures,
        (c.in_ok-check_sequence.ensures, tt),
      ),
    ) (ap Some (c.in_err-paths.ensures.refuses other)))

pub returns-in_err-check_files-clause-refuses : goal.returns-in_err-check_files-clause-refuses
returns-in_err-check_files-clause-refuses c =
    let s : State = record {
      metadata = described c.args.metadata.now.json c.args.metadata.now.table;
      world = c.args.world.now;
    } in
    let commit : Commit = record { change = c.args.change.now; ids = c.args.ids.now } in
    let p = err_from_is_err_and c.from_residual-in_err-check_files.result
    c.from_residual-in_err-check_files.ensures.1 in
    rw (p.1, p.2) (λ other. refused_at 4 s commit _ (
      c.in_ok-check_not_empty.ensures,
      (
        c.in_ok-check_snapshot.ensures,
        (c.in_ok-check_sequence.ensures, (c.in_ok-paths.ensures.refuses, tt)),
      ),
    )
    (ap Some (c.in_err-check_files.ensures other)))

pub returns-in_err-check_specs-clause-refuses : goal.returns-in_err-check_specs-clause-refuses
returns-in_err-check_specs-clause-refuses c =
    let s : State = record {
      metadata = described c.args.metadata.now.json c.args.metadata.now.table;
      world = c.args.world.now;
    } in
    let commit : Commit = record { change = c.args.change.now; ids = c.args.ids.now } in
    let p = err_from_is_err_and c.from_residual-in_err-check_specs.result
    c.from_residual-in_err-check_specs.ensures.1 in
    rw (p.1, p.2) (λ other. refused_at 5 s commit _ (
      c.in_ok-check_not_empty.ensures,
      (
        c.in_ok-check_snapshot.ensures,
        (c.in_ok-check_sequence.ensures, (c.in_ok-paths.ensures.refuses, (c.in_ok-check_files.ensures, tt))),
      ),
    )
    (ap Some (ap (λ specs. no_such_spec specs c.args.change.now) (sym c.requires) ∙ c.in_err-check_specs.ensures
    other)))

pub returns-in_err-check_tuples-clause-refuses : goal.returns-in_err-check_tuples-clause-refuses
returns-in_err-check_tuples-clause-refuses c =
    let s : State = record {
      metadata = described c.args.metadata.now.json c.args.metadata.now.table;
      world = c.args.world.now;
    } in
    let commit : Commit = record { change = c.args.change.now; ids = c.args.ids.now } in
    let p = err_from_is_err_and c.from_residual-in_err-check_tuples.result
    c.from_residual-in_err-check_tuples.ensures.1 in
    rw (p.1, p.2) (λ other. refused_at 6 s commit _ (
      c.in_ok-check_not_empty.ensures,
      (
        c.in_ok-check_snapshot.ensures,
        (
          c.in_ok-check_sequence.ensures,
          (
            c.in_ok-paths.ensures.refuses,
            (
              c.in_ok-check_files.ensures,
              ((ap (λ specs. no_such_spec specs c.args.change.now) (sym c.requires) ∙ c.in_ok-check_specs.ensures), tt),
            ),
          ),
        ),
      ),
    )
    (ap Some (ap (λ specs. wrong_tuple specs c.args.change.now) (sym c.requires) ∙ c.in_err-check_tuples.ensures
    other)))

pub returns-in_err-rows-clause-refuses : goal.returns-in_err-rows-clause-refuses
returns-in_err-rows-clause-refuses c =
    let s : State = record {
      metadata = described c.args.metadata.now.json c.args.metadata.now.table;
      world = c.args.world.now;
    } in
    let commit : Commit = record { change = c.args.change.now; ids = c.args.ids.now } in
    let paths = ap (map (λ (path : Bor (List ℕ)). path.now)) c.deref.ensures.value ∙ c.in_ok-paths.ensures.paths in
    let p = err_from_is_err_and c.from_residual-in_err-rows.result c.from_residual-in_err-rows.ensures.1 in
    rw (p.1, p.2) (λ other. refused_by s commit _ (
      c.in_ok-check_not_empty.ensures,
      (
        c.in_ok-check_snapshot.ensures,
        (
          c.in_ok-check_sequence.ensures,
          (
            c.in_ok-paths.ensures.refuses,
            (
              c.in_ok-check_files.ensures,
              (
                (ap (λ specs. no_such_spec specs c.args.change.now) (sym c.requires) ∙ c.in_ok-check_specs.ensures),
                (
                  (ap (λ specs. wrong_tuple specs c.args.change.now) (sym c.requires) ∙ c.in_ok-check_tuples.ensures),
                  tt,
                ),
              ),
            ),
          ),
        ),
      ),
    )
    (rw paths at (c.in_err-rows.ensures.refuses other)))

pub returns-in_err-check_sizes-clause-refuses : goal.returns-in_err-check_sizes-clause-refuses
returns-in_err-check_sizes-clause-refuses c =
    let s : State = record {
      metadata = described c.args.metadata.now.json c.args.metadata.now.table;
      world = c.args.world.now;
    } in
    let commit : Commit = record { change = c.args.change.now; ids = c.args.ids.now } in
    let paths = ap (map (λ (path : Bor (List ℕ)). path.now)) c.deref.ensures.value ∙ c.in_ok-paths.ensures.paths in
    let both = both_none (base_bad c.args.world.now c.args.metadata.now.table) (path_taken c.args.world.now
    c.args.metadata.now.table (sorted_paths c.args.change.now)) (rw paths at c.in_ok-rows.ensures.refuses) in
    let rows = c.len.ensures ∙ (c.in_ok-rows.rows.ok.0 ∙ ap length c.in_ok-rows.ensures.rows) in
    let in_groups = c.len-2.ensures ∙ (c.in_ok-groups.groups.ok.0 ∙ (sym (length-map c.in_ok-groups.groups.items seen) ∙
    ap length c.in_ok-groups.ensures)) in
    let files : length c.as_slice.result.now + length c.as_slice-2.result.now ≡ length (all_files c.args.change.now) =
    let some = ap length c.as_slice.ensures in
    let others = ap length c.as_slice-2.ensures in
    let all = length-append c.args.change.now.files c.args.change.now.deletes in
    omega arith in
    let same : too_many (c.len.result + c.len-2.result) (length c.as_slice.result.now + length c.as_slice-2.result.now)
    ≡ too_many_rows c.args.world.now c.args.metadata.now.table c.args.change.now =
    λ i. too_many (rows i + in_groups i) (files i) in
    let p = err_from_is_err_and c.from_residual-in_err-check_sizes.result
    c.from_residual-in_err-check_sizes.ensures.1 in
    rw (p.1, p.2) (λ other. refused_at 9 s commit _ (
      c.in_ok-check_not_empty.ensures,
      (
        c.in_ok-check_snapshot.ensures,
        (
          c.in_ok-check_sequence.ensures,
          (
            c.in_ok-paths.ensures.refuses,
            (
              c.in_ok-check_files.ensures,
              (
                (ap (λ specs. no_such_spec specs c.args.change.now) (sym c.requires) ∙ c.in_ok-check_specs.ensures),
                (
                  (ap (λ specs. wrong_tuple specs c.args.change.now) (sym c.requires) ∙ c.in_ok-check_tuples.ensures),
                  (both.0, (both.1, tt)),
                ),
              ),
            ),
          ),
        ),
      ),
    ) (ap Some (sym same ∙ c.in_err-check_sizes.ensures other)))

pub returns-in_err-check_time-clause-refuses : goal.returns-in_err-check_time-clause-refuses
returns-in_err-check_time-clause-refuses c =
    let s : State = record {
      metadata = described c.args.metadata.now.json c.args.metadata.now.table;
      world = c.args.world.now;
    } in
    let commit : Commit = record { change = c.args.change.now; ids = c.args.ids.now } in
    let paths = ap (map (λ (path : Bor (List ℕ)). path.now)) c.deref.ensures.value ∙ c.in_ok-paths.ensures.paths in
    let both = both_none (base_bad c.args.world.now c.args.metadata.now.table) (path_taken c.args.world.now
    c.args.metadata.now.table (sorted_paths c.args.change.now)) (rw paths at c.in_ok-rows.ensures.refuses) in
    let rows = c.len.ensures ∙ (c.in_ok-rows.rows.ok.0 ∙ ap length c.in_ok-rows.ensures.rows) in
    let in_groups = c.len-2.ensures ∙ (c.in_ok-groups.groups.ok.0 ∙ (sym (length-map c.in_ok-groups.groups.items seen) ∙
    ap length c.in_ok-groups.ensures)) in
    let files : length c.as_slice.result.now + length c.as_slice-2.result.now ≡ length (all_files c.args.change.now) =
    let some = ap length c.as_slice.ensures in
    let others = ap length c.as_slice-2.ensures in
    let all = length-append c.args.change.now.files c.args.change.now.deletes in
    omega arith in
    let same : too_many (c.len.result + c.len-2.result) (length c.as_slice.result.now + length c.as_slice-2.result.now)
    ≡ too_many_rows c.args.world.now c.args.metadata.now.table c.args.change.now =
    λ i. too_many (rows i + in_groups i) (files i) in
    let p = err_from_is_err_and c.from_residual-in_err-check_time.result
    c.from_residual-in_err-check_time.ensures.1 in
    rw (p.1, p.2) (λ other. refused_at 10 s commit _ (
      c.in_ok-check_not_empty.ensures,
      (
        c.in_ok-check_snapshot.ensures,
        (
          c.in_ok-check_sequence.ensures,
          (
            c.in_ok-paths.ensures.refuses,
            (
              c.in_ok-check_files.ensures,
              (
                (ap (λ specs. no_such_spec specs c.args.change.now) (sym c.requires) ∙ c.in_ok-check_specs.ensures),
                (
                  (ap (λ specs. wrong_tuple specs c.args.change.now) (sym c.requires) ∙ c.in_ok-check_tuples.ensures),
                  (both.0, (both.1, (sym same ∙ c.in_ok-check_sizes.ensures, tt))),
                ),
              ),
            ),
          ),
        ),
      ),
    ) (ap Some (c.in_err-check_time.ensures other)))

pub returns-clause-refuses : goal.returns-clause-refuses
returns-clause-refuses c =
    let s : State = record {
      metadata = described c.args.metadata.now.json c.args.metadata.now.table;
      world = c.args.world.now;
    } in
    let commit : Commit = record { change = c.args.change.now; ids = c.args.ids.now } in
    let paths = ap (map (λ (path : Bor (List ℕ)). path.now)) c.deref.ensures.value ∙ c.in_ok-paths.ensures.paths in
    let both = both_none (base_bad c.args.world.now c.args.metadata.now.table) (path_taken c.args.world.now
    c.args.metadata.now.table (sorted_paths c.args.change.now)) (rw paths at c.in_ok-rows.ensures.refuses) in
    let rows = c.len.ensures ∙ (c.in_ok-rows.rows.ok.0 ∙ ap length c.in_ok-rows.ensures.rows) in
    let in_groups = c.len-2.ensures ∙ (c.in_ok-groups.groups.ok.0 ∙ (sym (length-map c.in_ok-groups.groups.items seen) ∙
    ap length c.in_ok-groups.ensures)) in
    let files : length c.as_slice.result.now + length c.as_slice-2.result.now ≡ length (all_files c.args.change.now) =
    let some = ap length c.as_slice.ensures in
    let others = ap length c.as_slice-2.ensures in
    let all = length-append c.args.change.now.files c.args.change.now.deletes in
    omega arith in
    let same : too_many (c.len.result + c.len-2.result) (length c.as_slice.result.now + length c.as_slice-2.result.now)
    ≡ too_many_rows c.args.world.now c.args.metadata.now.table c.args.change.now =
    λ i. too_many (rows i + in_groups i) (files i) in
    not_refused s commit (
      c.in_ok-check_not_empty.ensures,
      (
        c.in_ok-check_snapshot.ensures,
        (
          c.in_ok-check_sequence.ensures,
          (
            c.in_ok-paths.ensures.refuses,
            (
              c.in_ok-check_files.ensures,
              (
                (ap (λ specs. no_such_spec specs c.args.change.now) (sym c.requires) ∙ c.in_ok-check_specs.ensures),
                (
                  (ap (λ specs. wrong_tuple specs c.args.change.now) (sym c.requires) ∙ c.in_ok-check_tuples.ensures),
                  (both.0, (both.1, (sym same ∙ c.in_ok-check_sizes.ensures, (c.in_ok-check_time.ensures, tt)))),
                ),
              ),
            ),
          ),
        ),
      ),
    )
