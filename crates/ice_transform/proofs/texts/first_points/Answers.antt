use Rattle.ice_transform.proofs.Points.{cut_boundary}
use Rattle.ice_transform.proofs.texts.first_points.Goals as goal

pub range-requires-clause-end_boundary : goal.range-requires-clause-end_boundary
range-requires-clause-end_boundary c =
    let cut = rw c.as_bytes.ensures.value at c.cut_length-end.ensures.cut in
    let within = rw c.as_bytes.ensures.value at c.cut_length-end.ensures.within in
    cut_boundary c.args.text.now c.args.width c.cut_length-end.result c.utf8.text within cut
