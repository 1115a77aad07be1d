use Rattle.std.proofs.Common.{refl}
use Rattle.icescan_locate.proofs.running.read_metadata.Goals as goal

pub returns : goal.returns
returns g c =
    record {
      bytes = c.in_ok-bytes.bytes.items;
      metadata = _;
      read = rw (c.as_str.ensures.value, c.in_ok-path.ensures) at c.in_ok-bytes.ensures.given;
      described = rw c.deref.ensures.value at c.in_ok-metadata.ensures.read;
      says = refl;
    }
