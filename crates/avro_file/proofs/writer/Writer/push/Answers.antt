use Rattle.std.proofs.Common.{◌≡◌, ◌++◌, ◌∷◌, [], List, ℕ, ap, ◌∙◌, arith}
use Rattle.std.proofs.lemmas.List.{length-append}
use Rattle.avro_file.specs.View.{view}
use Rattle.avro_file.specs.Writing.{written}
use Rattle.avro_file.specs.Writers.{WasGiven, WillWrite}
use Rattle.avro_file.proofs.Counted.{counted}
use Rattle.avro_file.proofs.Filed.{counted_last, pushed}
use Rattle.avro_file.proofs.writer.Writer.push.Goals as goal

pub returns-clause-given : goal.returns-clause-given
unfolding WasGiven WillWrite
returns-clause-given c =
    let v = view c.args.datum.now in
    let one : c.in_ok-one.one.items ≡ written v = c.in_ok-one.ensures ∙ ap (λ (t : List ℕ). t ++ written v)
    c.new.ensures.items in
    let more = c.in_ok-extend_from_slice.ensures.items ∙ ap (λ (t : List ℕ). c.args.self.now.content.items ++ t)
    (c.deref.ensures.value ∙ one) in
    λ ps s vs was. (
      was.0,
      omega (arith, was.1, length-append vs (v ∷ [])),
      omega arith,
      pushed vs v
          c.args.self.now.content.items c.extend_from_slice.new.self.items was.3 more,
      counted_last vs v was.4 (counted c.args.datum.now),
    )

pub returns-clause-exact : goal.returns-clause-exact
unfolding WasGiven WillWrite
returns-clause-exact c =
    let v = view c.args.datum.now in
    let one : c.in_ok-one.one.items ≡ written v = c.in_ok-one.ensures ∙ ap (λ (t : List ℕ). t ++ written v)
    c.new.ensures.items in
    let more = c.in_ok-extend_from_slice.ensures.items ∙ ap (λ (t : List ℕ). c.args.self.now.content.items ++ t)
    (c.deref.ensures.value ∙ one) in
    λ ps sync vs was. (
      was.0,
      was.1,
      omega (arith, was.2, length-append vs (v ∷ [])),
      pushed vs v
          c.args.self.now.content.items c.extend_from_slice.new.self.items was.3 more,
    )
