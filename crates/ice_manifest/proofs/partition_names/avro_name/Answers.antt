use Rattle.std.proofs.Common.{ℕ, List, ◌≡◌, ◌++◌, ◌∷◌, [], flat_map, chars, append_assoc, ◌∙◌, ap, sym, map-id}
use Rattle.std.proofs.lemmas.Grind.{flat_map-append}
use Rattle.std.proofs.lemmas.List.{append-nil}
use Rattle.std.proofs.lemmas.Iterator.{YieldsList-from_chars}
use Rattle.std.proofs.lemmas.Iterator.Consumers.{YieldsList-end}
use Rattle.ice_manifest.specs.PartitionNames.{spelled, before, avro_name}
use Rattle.ice_manifest.proofs.partition_names.avro_name.Goals as goal

-- one character more
one_more : (cs : List ℕ) (c : ℕ) → flat_map spelled (cs ++ c ∷ []) ≡ flat_map spelled cs ++ spelled c
one_more cs c = flat_map-append spelled cs (c ∷ []) ∙ ap (λ s. flat_map spelled cs ++ s) (append-nil (spelled c))

pub characters-preserved : goal.characters-preserved
characters-preserved c =
    let front = before (chars c.args.name.now) in
    c.in_ok-push_spelled.ensures ∙ ap (λ s. s ++ spelled c.in-Some.c) c.characters.invariant
    ∙ append_assoc front (flat_map spelled c.characters.yielded) (spelled c.in-Some.c)
    ∙ ap (λ s. front ++ s) (sym (one_more c.characters.yielded c.in-Some.c))

pub returns : goal.returns
unfolding avro_name
returns c =
    let done = YieldsList-end (YieldsList-from_chars c.args.name.now c.utf8.name cc) c.characters.yielded _
    c.characters.yielded_by _ _ c.in-None.is c.next.ensures.steps in
    c.characters.invariant ∙ ap (λ cs. before (chars c.args.name.now) ++ flat_map spelled cs)
    (sym (map-id c.characters.yielded) ∙ done.0)
