use Rattle.std.proofs.Common.{◌≡◌, ◌++◌, ◌∷◌, [], ◌∙◌, ap, append_assoc}
use Rattle.std.specs.Prelude.{codes}
use Rattle.ice_manifest_reading.specs.declared.entry.Entry.{Entry}
use Rattle.icescan_print.proofs.Sends.{sent_more, sent_less}
use Rattle.icescan_print.specs.Pieces.{named_path, named_number, named_signed}
use Rattle.icescan_print.specs.PlanTexts.{file_end, file_text}
use Rattle.icescan_print.proofs.plan_text.put_file.Goals as goal

-- a line is its path and its end
file_parts : (x : Entry) → file_text x ≡ named_path (codes "data ") x.file.path ++ file_end x
unfolding file_text
file_parts x =
    let path = named_path (codes "data ") x.file.path in
    let seq = named_number (codes " seq ") x.sequence_number in
    let spec = named_signed (codes " spec ") x.spec_id in
    let rows = named_signed (codes " rows ") x.file.record_count in
    let size = named_signed (codes " size ") x.file.file_size in
    append_assoc path seq (spec ++ ((rows ++ size) ++ 10 ∷ []))
    ∙ ap (λ l. path ++ (seq ++ (spec ++ l))) (append_assoc rows size (10 ∷ []))

pub returns-in_err-put_named_path : goal.returns-in_err-put_named_path
returns-in_err-put_named_path g c = rw (file_parts c.args.file.now) (sent_less _ _ _ _ _ _ _ _ _ _ _
    c.from_residual.ensures.0 (rw c.path.ensures at c.in_err-put_named_path.ensures))

pub returns : goal.returns
returns g c = rw (file_parts c.args.file.now) (sent_more _ _ _ _ _ _ _ _ _ _ _ _
    (rw c.path.ensures at c.in_ok-put_named_path.ensures) c.put_file_end.ensures)
