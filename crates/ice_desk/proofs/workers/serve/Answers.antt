use Rattle.std.proofs.Common.{◌∙◌, ◌<◌, None, ap, arith, length, refl, subst, sym}
use Rattle.ice_desk.specs.Given.{IsGiven}
use Rattle.ice_desk.specs.Tickets.{marking}
use Rattle.ice_desk.specs.Worlds.{HasAt}
use Rattle.ice_desk.proofs.Given.{took_given}
use Rattle.ice_desk.proofs.Taking.{has_bytes}
use Rattle.ice_desk.proofs.Works.{add_length, path_at}
use Rattle.ice_desk.proofs.workers.serve.Goals as goal

pub returns-in-Ok-take_after-clause-served : goal.returns-in-Ok-take_after-clause-served
returns-in-Ok-take_after-clause-served g c =
    let looked = rw c.if-look.false at c.look.ensures.saw in
    let inside : c.args.i < length c.args.scan.now.wanted = omega (arith, c.requires.manifest, c.requires.desk) in
    let here = rw c.wanted.ensures at c.index-wanted-i.is in (
      c.mark.ensures.marked ∙ ap (λ v. marking v c.args.i) looked.0,
      (c.as_slice.result.now, c.in-Ok-take_after.ensures.ok),
      λ world ts told h.
          let found = rw (told, c.as_str.ensures, ← c.as_slice.ensures.value) at c.in-Ok.ensures.found in
          record {
            flags = add_length ts c.args.i ∙ h.flags;
            is = c.in-Ok-take_after.ensures.world world ts h.is (has_bytes world c.args.scan.now.wanted c.args.i
                c.index-wanted-i.result c.as_slice.result.now inside here found);
          },
    )

pub returns-in-Err-Absent-clause-served : goal.returns-in-Err-Absent-clause-served
returns-in-Err-Absent-clause-served g c =
    let looked = rw c.if-look.false at c.look.ensures.saw in
    let inside : c.args.i < length c.args.scan.now.wanted = omega (arith, c.requires.manifest, c.requires.desk) in
    let here = rw c.wanted.ensures at c.index-wanted-i.is in
    let found = rw c.as_str.ensures at (c.in-Err-Absent.ensures.absent cc) in (
      (looked.0, refl),
      path_at (λ path. HasAt (g.F.Files.world c.args.files.now) path None) c.args.scan.now.wanted c.args.i
          c.index-wanted-i.result inside here found,
    )

pub returns-in-Err-Device-clause-served : goal.returns-in-Err-Device-clause-served
returns-in-Err-Device-clause-served g c =
    let looked = rw c.if-look.false at c.look.ensures.saw in
    let inside : c.args.i < length c.args.scan.now.wanted = omega (arith, c.requires.manifest, c.requires.desk) in
    let here = rw c.wanted.ensures at c.index-wanted-i.is in
    let found = rw c.as_str.ensures at (c.in-Err-Device.ensures.device cc) in (
      (looked.0, refl),
      path_at (g.F.Files.may_fail c.args.files.now) c.args.scan.now.wanted c.args.i c.index-wanted-i.result inside here
          found,
    )

pub returns-in-Ok-take_after-clause-given : goal.returns-in-Ok-take_after-clause-given
returns-in-Ok-take_after-clause-given g c =
    let scan = c.args.scan.now in
    let inside : c.args.i < length scan.wanted = omega (arith, c.requires.manifest, c.requires.desk) in
    let here = rw c.wanted.ensures at c.index-wanted-i.is in
    let found = rw (c.as_str.ensures, ← c.as_slice.ensures.value) at c.in-Ok.ensures.given in
    λ h. subst (IsGiven (g.F.Files.gives c.args.files.now) scan) (sym c.in-Ok-take_after.ensures.ok)
    (took_given (g.F.Files.gives c.args.files.now) scan c.args.state.now scan.wanted c.args.i c.index-wanted-i.result
    c.as_slice.result.now inside here found h)
