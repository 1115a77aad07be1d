use Rattle.std.proofs.Common.{◌∙◌, subst, sym}
use Rattle.ice_state.specs.Segments.{AreKept}
use Rattle.ice_state.proofs.finish.looked_up.Goals as goal

pub each_looked_up-requires : goal.each_looked_up-requires
each_looked_up-requires c = record {
  files = subst (AreKept c.args.entries.now) (sym c.deref.ensures.value) c.requires.files;
  ranks = c.requires.ranks;
}

pub stretches_looked_up-requires : goal.stretches_looked_up-requires
stretches_looked_up-requires c =
    let kept = c.args.entries.now in
    record {
      files = subst (AreKept kept) (sym c.deref-2.ensures.value) c.requires.files;
      ranks = c.requires.ranks;
      unnamed = sym c.names_files.ensures ∙ c.if-names_files.false;
    }
