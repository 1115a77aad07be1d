use Rattle.std.proofs.Common.{◌≡◌, ◌∷◌, [], ◌++◌, ◌∙◌, ap, refl, ℕ, List, Option, Some, None, option_map, append_assoc}
use Rattle.icescan_print.specs.Escaping.{before}
use Rattle.icescan_print.proofs.unescaping.unescape.Goals as goal

-- a byte at the front of the rest, or at the end of what was read
moved : (xs ys : List ℕ) (b : ℕ) (rest : Option (List ℕ)) → ys ≡ xs ++ b ∷ []
    → option_map (λ more. xs ++ more) (before (Some b) rest) ≡ option_map (λ more. ys ++ more) rest
moved xs ys b None e = refl
moved xs ys b (Some more) e = rw (e, append_assoc) refl

pub loop-byte-preserved : goal.loop-byte-preserved
loop-byte-preserved c =
    c.loop-byte.invariant
    ∙ ap (option_map (λ more. c.loop-byte.bytes.items ++ more)) c.in-Some.ensures.found
    ∙ moved c.loop-byte.bytes.items c.push.new.self.items _ _ c.in_ok-push.ensures.items
