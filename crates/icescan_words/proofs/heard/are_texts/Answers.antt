use Rattle.std.proofs.Common.{◌≡◌, ◌<◌, [], false, length, List, nat_eq, not, slice_index_or, sym, Bor, ℕ, ◌∙◌}
use Rattle.std.specs.Cmp.Lexicographic.{pointwise}
use Rattle.icescan_words.proofs.Same.{texts_left}
use Rattle.icescan_words.proofs.heard.are_texts.Goals as goal

pub words-preserved : goal.words-preserved
words-preserved c = λ rest.
    let equal : length c.args.words.now ≡ length c.args.texts.now = search in
    let within : c.words.i < length c.args.words.now = search in
    let none : Bor (List ℕ) = record { ref_ptr = (0, 0); now = [] } in
    let told : false ≡ not (pointwise nat_eq (slice_index_or c.args.words.now c.words.i none).now
    c.index-texts-i.result) = rw (← c.as_str.ensures) (sym c.if-ne.false ∙ c.ne.ensures) in
    c.words.invariant (texts_left c.args.words.now c.args.texts.now c.words.i none c.index-texts-i.result equal within
    c.index-texts-i.is told rest)
