use Rattle.std.proofs.Common.{◌≡◌, arith, length}
use Rattle.icescan_print.proofs.RangeTexts.{texts_both}
use Rattle.icescan_print.proofs.by_workers.+texts.Goals as goal

pub make_texts-returns : goal.make_texts-returns
make_texts-returns g t c =
    let one : length c.make_beside.new.one ≡ 1 = omega
    (arith, c.make_beside.auto.one, c.split_at_mut-one.ensures.front_len) in
    texts_both (g.T.TextList.texts c.args.list.now) c.args.first c.args.each c.make_beside.new.one c.make_beside.new.others one
    c.make_beside.ensures.one c.make_beside.ensures.others
