use Rattle.std.proofs.Common.{◌≡◌, sym}
use Rattle.icescan_explain.specs.JsonLines.{verdict_object}
use Rattle.icescan_explain.proofs.json_lines.put_verdict.Goals as goal

pub returns : goal.returns
unfolding verdict_object
returns g c = λ plan counts.
    let path : c.as_slice.result.now ≡ c.args.verdict.now.path = cc in
    rw (
      sym (c.applies_value.ensures plan counts),
      sym c.name.ensures,
      sym c.is_kept.ensures,
      sym c.by_value.ensures,
      sym c.name_value.ensures,
      sym path,
    ) c.put_object.ensures
