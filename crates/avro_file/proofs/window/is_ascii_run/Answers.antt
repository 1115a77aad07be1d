use Rattle.std.proofs.Common.{arith}
use Rattle.std.proofs.lemmas.Bool.{eqb-true}
use Rattle.avro_file.proofs.Ascii.{none_small, window_on, rest_on, small_is_ascii}
use Rattle.avro_file.proofs.window.is_ascii_run.Goals as goal

pub windows-init : goal.windows-init
windows-init c = (omega arith, c.requires.0, none_small c.args.bytes.now c.args.start)

pub windows-preserved : goal.windows-preserved
windows-preserved c =
    let i = c.windows.invariant in (
      omega (arith, i.0),
      omega (arith, i.1, c.windows-test.true),
      window_on c.args.bytes.now c.args.start c.windows.here c.last_bytes.result c.last_bytes.ensures
          c.if-last_bytes.false i.2,
    )

pub returns : goal.returns
returns c =
    let i = c.windows.invariant in
    λ h. small_is_ascii c.args.bytes.now c.args.start c.args.end (rest_on c.args.bytes.now c.args.start c.windows.here
    c.args.end c.last_bytes-2.result c.last_bytes-2.ensures c.last_bytes-2.type_inv i.1 c.windows-test.false
    (eqb-true _ _ h) i.2)
