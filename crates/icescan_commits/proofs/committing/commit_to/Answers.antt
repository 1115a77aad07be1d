use Rattle.std.proofs.Common.{◌≡◌, ap, refl, subst, ◌∙◌, inl, inr, rules, SFits, w64}
use Rattle.std.proofs.Math.Facts.{to_z-of_z}
use Rattle.std.proofs.lemmas.Result.{err_from_is_err_and}
use Rattle.std.specs.Prelude.{Err}
use Rattle.icescan_text.specs.declared.fault.RunFault.TheVariants as run
use Rattle.icescan_commits.specs.Commits.{IsOfPutting, commitment}
use Rattle.icescan_commits.proofs.Commits.{prepare_refuses, put_refuses, putting_refuses}
use Rattle.icescan_commits.proofs.Stored.{table_is}
use Rattle.icescan_commits.proofs.committing.commit_to.Goals as goal

pub returns-in_err-prepared-clause-refused : goal.returns-in_err-prepared-clause-refused
returns-in_err-prepared-clause-refused g c =
    let p = err_from_is_err_and c.from_residual.result c.from_residual.ensures.1 in
    let f = g.F.Files.may_fail c.args.files.now in
    let e = c.in_err-prepared.field-0.0 in
    λ world told.
    rw (p.1, p.2) (prepare_refuses (commitment world c.args.request.now) f c.args.request.now.out _ _ _ _ e
    c.in_err-prepared.ensures.causes
    (c.in_err-prepared.ensures.refused world told))

pub returns-in_err-put_commit-clause-refused : goal.returns-in_err-put_commit-clause-refused
returns-in_err-put_commit-clause-refused g c =
    let p = err_from_is_err_and c.from_residual-in_err-put_commit.result c.from_residual-in_err-put_commit.ensures.1 in
    let f = g.F.Files.may_fail c.args.files.now in
    let e = c.in_err-put_commit.field-0.0 in
    λ world told.
    let made = c.in_ok-prepared.ensures.prepared world told in
    rw (p.1, p.2) (put_refuses (commitment world c.args.request.now) f c.args.request.now.out _ _ _ _ e made.0 made.1
    (c.in_err-put_commit.ensures.cause made.0 made.2))

pub returns-in_err-put_receipt-clause-refused : goal.returns-in_err-put_receipt-clause-refused
returns-in_err-put_receipt-clause-refused g c =
    let p = err_from_is_err_and c.from_residual-in_err-put_receipt.result
    c.from_residual-in_err-put_receipt.ensures.1 in
    λ world told.
    let made = c.in_ok-prepared.ensures.prepared world told in
    rw (p.1, p.2)
    (made.0, made.1, inr (c.in_err-put_receipt.ensures.cause, c.in_ok-put_commit.ensures.all made.0 made.2))

pub returns-clause-made : goal.returns-clause-made
returns-clause-made g c = λ world told.
    let made = c.in_ok-prepared.ensures.prepared world told in
    let put = c.in_ok-put_commit.ensures.all made.0 made.2 in
    let table = table_is c.in_ok-prepared.prepared made.0 c.version.result.now _ made.2 c.version.ensures
    c.metadata.ensures in
    let number = c.get.ensures.same ∙ ap (λ t. t.last_sequence_number) (c.table.ensures ∙ table) in
    let fits : SFits w64 c.args.request.now.ids.snapshot = search rules in
    let receipt = simp to_z-of_z at c.in_ok-put_receipt.ensures.all in (
      made.0,
      made.1,
      record {
        bytes = put.0;
        text = put.1;
        puts = put.2;
        free = put.3;
        told = rw number at receipt;
      },
    )

pub returns-clause-told : goal.returns-clause-told
returns-clause-told g c =
    let fits : SFits w64 c.args.request.now.ids.snapshot = search rules in
    record { all = (c.get.result, simp to_z-of_z at c.in_ok-put_receipt.ensures.all); front = λ is. cc }

pub returns-in_err-put_commit-clause-refusal : goal.returns-in_err-put_commit-clause-refusal
returns-in_err-put_commit-clause-refusal g c =
    let p = err_from_is_err_and c.from_residual-in_err-put_commit.result c.from_residual-in_err-put_commit.ensures.1 in
    let e = c.in_err-put_commit.field-0.0 in
    let putting = c.in_err-put_commit.ensures.kinds in
    rw (p.1, p.2) (record {
      kinds = putting_refuses e putting;
      absent = λ path is. let same : e ≡ run.Absent path = cc in absurd (subst IsOfPutting same putting);
      device = λ path is. let same : e ≡ run.Device path = cc in absurd (subst IsOfPutting same putting);
      conflict = λ path is. let same : e ≡ run.Conflict path = cc in
          c.in_err-put_commit.ensures.conflict path (ap Err same);
      write = λ is. let same : e ≡ run.Write = cc in inl (c.in_err-put_commit.ensures.write (ap Err same));
    })

pub returns-in_err-prepared-clause-given : goal.returns-in_err-prepared-clause-given
returns-in_err-prepared-clause-given g c =
    let p = err_from_is_err_and c.from_residual.result c.from_residual.ensures.1 in
    let e = c.in_err-prepared.field-0.0 in
    rw (p.1, p.2) (record {
      made = tt;
      left = inl refl;
      absent = λ path is. let same : e ≡ run.Absent path = cc in
          c.in_err-prepared.ensures.none_given path (ap Err same);
    })

pub returns-in_err-put_commit-clause-given : goal.returns-in_err-put_commit-clause-given
returns-in_err-put_commit-clause-given g c =
    let p = err_from_is_err_and c.from_residual-in_err-put_commit.result c.from_residual-in_err-put_commit.ensures.1 in
    let given = c.in_ok-prepared.ensures.given in
    let front = c.in_err-put_commit.ensures.front given.0 given.2 in
    let e = c.in_err-put_commit.field-0.0 in
    rw (p.1, p.2) (record {
      made = tt;
      left = inr (given.0, given.1, inl front);
      absent = λ path is. let same : e ≡ run.Absent path = cc in
          absurd (subst IsOfPutting same c.in_err-put_commit.ensures.kinds);
    })

pub returns-in_err-put_receipt-clause-given : goal.returns-in_err-put_receipt-clause-given
returns-in_err-put_receipt-clause-given g c =
    let p = err_from_is_err_and c.from_residual-in_err-put_receipt.result
    c.from_residual-in_err-put_receipt.ensures.1 in
    let given = c.in_ok-prepared.ensures.given in
    let put = c.in_ok-put_commit.ensures.all given.0 given.2 in
    rw (p.1, p.2) (record { made = tt; left = inr (given.0, given.1, inr put); absent = λ path is. absurd cc })

pub returns-clause-given : goal.returns-clause-given
returns-clause-given g c =
    let given = c.in_ok-prepared.ensures.given in
    let put = c.in_ok-put_commit.ensures.all given.0 given.2 in
    let table = table_is c.in_ok-prepared.prepared given.0 c.version.result.now _ given.2 c.version.ensures
    c.metadata.ensures in
    let number = c.get.ensures.same ∙ ap (λ t. t.last_sequence_number) (c.table.ensures ∙ table) in
    let fits : SFits w64 c.args.request.now.ids.snapshot = search rules in
    let receipt = simp to_z-of_z at c.in_ok-put_receipt.ensures.all in
    record {
      made = (
        given.0,
        given.1,
        record {
          bytes = put.0;
          text = put.1;
          puts = put.2;
          free = put.3;
          told = rw number at receipt;
        },
      );
      left = tt;
      absent = λ path is. absurd cc;
    }
