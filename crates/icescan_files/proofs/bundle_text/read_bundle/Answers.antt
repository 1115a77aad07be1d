use Rattle.std.proofs.Common.{inl, inr, refl}
use Rattle.std.proofs.lemmas.Result.{err_from_is_err_and}
use Rattle.icescan_files.proofs.Inputs.{input_is}
use Rattle.icescan_files.proofs.bundle_text.read_bundle.Goals as goal

pub returns-in_err-room-clause-refused : goal.returns-in_err-room-clause-refused
returns-in_err-room-clause-refused g c =
    let p = err_from_is_err_and c.from_residual.result c.from_residual.ensures.1 in
    let i = input_is (g.R.Read.remaining c.args.reader.now) in
    rw (p.1, p.2) (i.0, i.1, inr (inl refl))
