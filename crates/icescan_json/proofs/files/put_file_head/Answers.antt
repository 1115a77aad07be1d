use Rattle.std.proofs.Common.{◌≡◌, ◌++◌, ◌∙◌, sym, ap, append_assoc}
use Rattle.std.specs.Prelude.{codes}
use Rattle.json.specs.Print.{quoted}
use Rattle.ice_manifest_reading.specs.declared.entry.Entry.{Entry}
use Rattle.icescan_json.specs.PlanJson.{content_name, format_name}
use Rattle.icescan_json.specs.Texts.{before_path, file_head, format_text}
use Rattle.icescan_print.proofs.Sends.{sent_less, sent_more}
use Rattle.icescan_json.proofs.files.put_file_head.Goals as goal

-- what stands before the path, and what follows
head_cut : (x : Entry) → file_head x
    ≡ before_path x.file.content ++ (quoted x.file.path ++ format_text (format_name x))
unfolding file_head
head_cut x =
    let name = content_name x.file.content in
    let rest = quoted x.file.path ++ format_text (format_name x) in
    sym (append_assoc (codes "{\"content\":\"") (name ++ codes "\",\"file-path\":") rest
    ∙ ap (λ l. codes "{\"content\":\"" ++ l) (append_assoc name (codes "\",\"file-path\":") rest))

pub returns-in_err-put : goal.returns-in_err-put
returns-in_err-put g c = rw (head_cut c.args.file.now) (sent_less _ _ _ _ _ _ _ _ _ _ _ c.from_residual.ensures.0
    (rw (c.before_path.ensures, c.content.ensures) at c.in_err-put.ensures))

pub returns-in_err-put_quoted : goal.returns-in_err-put_quoted
returns-in_err-put_quoted g c = rw (head_cut c.args.file.now) (sent_more _ _ _ _ _ _ _ _ _ _ _ _
    (rw (c.before_path.ensures, c.content.ensures) at c.in_ok-put.ensures)
    (sent_less _ _ _ _ _ _ _ _ _ _ _ c.from_residual-in_err-put_quoted.ensures.0
    (rw c.path.ensures at c.in_err-put_quoted.ensures)))

pub returns : goal.returns
returns g c = rw (head_cut c.args.file.now) (sent_more _ _ _ _ _ _ _ _ _ _ _ _
    (rw (c.before_path.ensures, c.content.ensures) at c.in_ok-put.ensures)
    (sent_more _ _ _ _ _ _ _ _ _ _ _ _ (rw c.path.ensures at c.in_ok-put_quoted.ensures)
    (rw c.format_text.ensures at c.put-2.ensures)))
