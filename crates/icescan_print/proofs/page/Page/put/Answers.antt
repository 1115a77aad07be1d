use Rattle.std.proofs.Common.{◌≡◌, [], ◌∙◌}
use Rattle.icescan_print.proofs.Sends.{sent_through}
use Rattle.icescan_print.proofs.page.Page.put.Goals as goal

pub returns : goal.returns
returns g c =
    let same : c.keep.new.self ≡ c.args.self.now = rw c.if-keep.false at c.keep.ensures in
    let none : c.keep-2.new.self ≡ [] = (rw c.if-keep-2.false at c.keep-2.ensures) ∙ c.in_ok-flush.ensures.empty in
    rw none (sent_through _ _ _ _ _ _ _ _ _ (rw same at c.in_ok-flush.ensures.wrote) c.write_all.ensures)
