use Rattle.std.proofs.Common.{◌≤◌, ◌++◌, ℕ, [], ◌∙◌, Ok, ap, append_assoc, arith, inl, length, sym, take}
use Rattle.std.proofs.Common.{length-take}
use Rattle.std.proofs.KnownBytes.{Consumes-trans}
use Rattle.std.proofs.lemmas.List.{append-nil}
use Rattle.std.proofs.lemmas.Result.{err_from_is_err_and}
use Rattle.std.specs.Io.KnownBytes.{Consumes}
use Rattle.std.specs.Prelude.{IfSome}
use Rattle.icescan_files.specs.Bundles.{bundle_of}
use Rattle.icescan_files.proofs.Inputs.{bundle_found, bundle_refused, input_ends, input_goes_on, input_is}
use Rattle.icescan_files.proofs.Inputs.{refused_text}
use Rattle.icescan_files.proofs.bundle_text.read_lines.Goals as goal

pub returns-in_err-count-clause-refused : goal.returns-in_err-count-clause-refused
returns-in_err-count-clause-refused g c =
    let p = err_from_is_err_and c.from_residual.result c.from_residual.ensures.1 in
    let i = input_is (g.R.Read.remaining c.args.reader.now) in
    rw (p.1, p.2) (i.0, i.1, inl c.in_err-count.ensures.cause)

pub returns-in_default-clause-found : goal.returns-in_default-clause-found
returns-in_default-clause-found g c =
    let taken = c.loop-turn.invariant.taken in
    let ends = input_ends (g.R.Read.remaining c.args.reader.now) (g.R.Read.remaining c.loop-turn.reader) taken.0
    taken.1 (c.in_ok-count.ensures.end (ap Ok c.in_default.is)) in
    let read = rw (append-nil taken.0, append-nil c.loop-turn.front.begun.items) at (taken.2 []) in
    bundle_found _ taken.0 _ c.finish.result ends read c.finish.ensures

pub returns-in_default-clause-refused : goal.returns-in_default-clause-refused
returns-in_default-clause-refused g c =
    let taken = c.loop-turn.invariant.taken in
    let ends = input_ends (g.R.Read.remaining c.args.reader.now) (g.R.Read.remaining c.loop-turn.reader) taken.0
    taken.1 (c.in_ok-count.ensures.end (ap Ok c.in_default.is)) in
    let read = rw (append-nil taken.0, append-nil c.loop-turn.front.begun.items) at (taken.2 []) in
    bundle_refused _ taken.0 _ c.finish.result ends read c.finish.ensures

pub returns-in_err-read_rest-clause-refused : goal.returns-in_err-read_rest-clause-refused
returns-in_err-read_rest-clause-refused g c =
    let p = err_from_is_err_and c.from_residual-in_err-read_rest.result c.from_residual-in_err-read_rest.ensures.1 in
    let i = input_is (g.R.Read.remaining c.args.reader.now) in
    rw (p.1, p.2) (i.0, i.1, inl c.in_err-read_rest.ensures)

pub returns-in-Err-clause-refused : goal.returns-in-Err-clause-refused
returns-in-Err-clause-refused g c =
    let taken = c.loop-turn.invariant.taken in
    let bytes = take c.in-Some.count c.read_piece.new.room in
    let read : IfSome c.in_ok-count.field-0 (λ count. Consumes (g.R.Read.remaining c.loop-turn.reader)
    (g.R.Read.remaining c.read_piece.new.reader) (take count c.read_piece.new.room)) =
    c.in_ok-count.ensures.bytes in
    let more = rw c.in-Some.is at read in
    let both = Consumes-trans _ _ _ taken.0 bytes taken.1 more in
    let input = input_goes_on _ _ (taken.0 ++ bytes) both in (
      (taken.0 ++ bytes) ++ input.0,
      input.1,
      refused_text ((taken.0 ++ bytes) ++ input.0) c.in-Err.fault
          (λ m. ap bundle_of (append_assoc taken.0 bytes input.0)
          ∙ taken.2 (bytes ++ input.0) ∙ c.in-Err.ensures.err m input.0),
    )

pub loop-turn-preserved : goal.loop-turn-preserved
loop-turn-preserved g c =
    let taken = c.loop-turn.invariant.taken in
    let bytes = take c.in-Some.count c.read_piece.new.room in
    let read : IfSome c.in_ok-count.field-0 (λ count. Consumes (g.R.Read.remaining c.loop-turn.reader)
    (g.R.Read.remaining c.read_piece.new.reader) (take count c.read_piece.new.room)) =
    c.in_ok-count.ensures.bytes in
    let more = rw c.in-Some.is at read in
    let piece : IfSome c.in_ok-count.field-0 (λ count. count ≤ length c.read_piece.new.room) =
    c.in_ok-count.ensures.piece in
    let count = rw c.in-Some.is at piece in
    record {
      taken = (
        taken.0 ++ bytes,
        Consumes-trans _ _ _ taken.0 bytes taken.1 more,
        λ rest. ap bundle_of (append_assoc taken.0 bytes rest) ∙ taken.2 (bytes ++ rest)
            ∙ sym (c.in_default-take.ensures.ok rest),
      );
      open_line = c.in_default-take.ensures.unbroken;
      few = omega (
        arith,
        length-take {A = ℕ},
        c.in_default-take.ensures.few,
        count,
        c.read_piece.auto.room,
        c.loop-turn.auto.room,
        c.requires.1,
        c.loop-turn.invariant.few,
      );
    }
