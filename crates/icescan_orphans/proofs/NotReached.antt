-- No orphan is reached: the line of a file that is reached tells its path.
use Rattle.std.proofs.Common.{◌≡◌, ◌+◌, ◌-◌, ℕ, List, [], ◌∷◌, ◌++◌, ap, arith, length, map, refl, subst, take, ◌∙◌}
use Rattle.std.specs.Prelude.{unwrap_or}
use Rattle.std.specs.List.{Contains}
use Rattle.std.proofs.Math.Seq.{take-append_seam}
use Rattle.std.proofs.lemmas.List.{length-append}
use Rattle.std.proofs.lemmas.List.Elements.{Contains-append_left}
use Rattle.ice_desk.specs.Given.{Giving}
use Rattle.icescan_orphans.specs.NotReached.{AreNotReached}
use Rattle.icescan_parts.specs.Told.{front_of, path_told}
use Rattle.icescan_paths.proofs.Unknown.{mapped, no_known}
use Rattle.icescan_print.proofs.Escapes.{back}
use Rattle.icescan_print.specs.Escaping.{escaped, unescaped}
use Rattle.icescan_reachable.proofs.Reached.{all_reached}
use Rattle.icescan_reachable.specs.Lines.{line}
use Rattle.icescan_reachable.specs.declared.kind.FileKind.{FileKind}
use Rattle.icescan_reachable.specs.declared.kind.FileKind.TheVariants as kind

front_back : (text : List ℕ) (last : ℕ) → front_of (text ++ last ∷ []) ≡ text
front_back text last =
    let many : length (text ++ last ∷ []) ≡ length text + 1 = length-append text (last ∷ []) in
    let less : length (text ++ last ∷ []) - 1 ≡ length text = omega (arith, many) in
    ap (λ n. take n (text ++ last ∷ [])) less ∙ take-append_seam text (last ∷ [])

read_back : (text file : List ℕ) → text ≡ escaped file → unwrap_or (unescaped text) text ≡ file
read_back text file is = ap (λ found. unwrap_or found text) (ap unescaped is ∙ back file)

told_back : (kind : FileKind) (file : List ℕ) → path_told (line kind file) ≡ file
told_back kind.Metadata file = read_back (front_of (escaped file ++ 10 ∷ [])) file (front_back (escaped file) 10)
told_back kind.List file = read_back (front_of (escaped file ++ 10 ∷ [])) file (front_back (escaped file) 10)
told_back kind.Manifest file = read_back (front_of (escaped file ++ 10 ∷ [])) file (front_back (escaped file) 10)
told_back kind.Data file = read_back (front_of (escaped file ++ 10 ∷ [])) file (front_back (escaped file) 10)
told_back kind.Delete file = read_back (front_of (escaped file ++ 10 ∷ [])) file (front_back (escaped file) 10)
told_back kind.Statistics file = read_back (front_of (escaped file ++ 10 ∷ [])) file (front_back (escaped file) 10)

pub not_reached : (gives : Giving) → AreNotReached gives
not_reached gives world path metadata lines more older found kind file orphan truth given left reached =
    let told = mapped path_told lines (line kind file)
    (all_reached gives path metadata world truth lines given kind file reached) in
    let known = subst (λ (p : List ℕ). Contains (map path_told lines) p) (told_back kind file) told in
    no_known (map path_told lines ++ more) older found orphan file left
    (Contains-append_left (map path_told lines) more file known)
