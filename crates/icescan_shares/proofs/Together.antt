-- States that are joined one after the other.
use Rattle.std.proofs.Common.{◌≡◌, ◌<◌, ◌==◌, ◌&&◌, ◌∙◌, ℕ, List, [], ◌∷◌, length, refl, sym, ap, subst, get_or, drop, Some}
use Rattle.std.proofs.Common.{◌-◌, Ok, arith, take, true}
use Rattle.std.proofs.Math.Seq.{take-length}
use Rattle.std.proofs.lemmas.List.{length-drop}
use Rattle.std.specs.Str.{bytes_eq}
use Rattle.std.proofs.lemmas.Bool.Decides.{Decides-eqb}
use Rattle.std.proofs.lemmas.Slice.Eq.{bytes_eq-Decides}
use Rattle.ice_desk.specs.Given.{Giving}
use Rattle.ice_state.proofs.Joins.{join-assoc}
use Rattle.ice_state.specs.Contents.{Content}
use Rattle.ice_state.specs.Joins.{join}
use Rattle.ice_state.specs.Scans.{Scanned}
use Rattle.ice_state_bytes.proofs.Sections.{Say}
use Rattle.ice_state_bytes.proofs.States.{IsRead, after_test, are_joined, parts_read, read_parts}
use Rattle.ice_state_bytes.proofs.Unions.{said_union}
use Rattle.ice_state_bytes.specs.States.{state_at}
use Rattle.ice_state_envelopes.proofs.Joins.{parts_are}
use Rattle.ice_state_envelopes.specs.Envelopes.{AreParts, Parts, Rise, parts_at}
use Rattle.ice_state_envelopes.specs.Joins.{joined, union}
use Rattle.icescan_shares.specs.Given.{AreJoined, IsJoinOfGiven, join_all}
use Rattle.icescan_shares.specs.Together.{HasAlso, HasAlsoGiven, state_in}

join_none : (c : Content) → join c [] ≡ c
join_none [] = refl
join_none (x ∷ c) = refl

in_read : (scan : Scanned) (name : List ℕ) (p : Parts) (c : Content) → state_in scan name p ≡ Ok c
    → IsRead scan name p c
in_read scan name p c h =
    after_test scan name p c (bytes_eq p.scan name && (p.rows == length scan.wanted)) refl h

read_in : (scan : Scanned) (name : List ℕ) (p : Parts) (c : Content) → IsRead scan name p c
    → state_in scan name p ≡ Ok c
read_in scan name p c read =
    let named : bytes_eq p.scan name ≡ true = (bytes_eq-Decides p.scan name).1 read.named in
    let counted : (p.rows == length scan.wanted) ≡ true = (Decides-eqb p.rows (length scan.wanted)).1 read.counted in
    rw (named, counted) read.said

-- the state in a file, by what its bytes hold
in_file : (scan : Scanned) (name text : List ℕ) (p : Parts) (c : Content) → parts_at text ≡ Ok p
    → state_at scan name text ≡ Ok c → state_in scan name p ≡ Ok c
in_file scan name text p c is h = read_in scan name p c (read_parts scan name text p c is h)

-- what two envelopes hold together
in_both : (scan : Scanned) (name : List ℕ) (p q all : Parts) (c d : Content) → AreParts p → AreParts q
    → joined p q ≡ Ok all → state_in scan name p ≡ Ok c → state_in scan name q ≡ Ok d
    → state_in scan name all ≡ Ok (join c d)
in_both scan name p q all c d are are' is h k =
    let first = in_read scan name p c h in
    let second = in_read scan name q d k in
    let both : joined p q ≡ Ok (record p { sections = union p.sections q.sections }) =
    are_joined scan name p q c d first second in
    let same : all ≡ record p { sections = union p.sections q.sections } = let e = sym is ∙ both in cc in
    let said = said_union scan p.sections q.sections c d 0 (subst (λ m. Rise 0 m p.sections) first.counted are.1)
    (subst (λ m. Rise 0 m q.sections) second.counted are'.1) first.said second.said in
    read_in scan name all (join c d) (record {
      named = ap (λ (a : Parts). a.scan) same ∙ first.named;
      counted = ap (λ (a : Parts). a.rows) same ∙ first.counted;
      said = subst (λ (a : Parts). Say scan a.sections (join c d)) (sym same) said;
    })

-- no states are left
pub none_left : (kept : Giving) (before : Parts) (paths : List (List ℕ)) (bytes : List ℕ) → length paths ≡ 0
    → parts_at bytes ≡ Ok before → HasAlsoGiven kept before paths bytes
none_left kept before (p ∷ ps) bytes l is = absurd cc
none_left kept before [] bytes l is = ([], tt, has)
  where
    has : HasAlso before [] bytes
    has scan name c [] h read =
        parts_read scan name bytes before c is (in_read scan name before c h) ∙ ap Ok (sym (join_none c))
    has scan name c (d ∷ ds) h read = absurd read

-- the next state and those behind it
pub next_left : (kept : Giving) (before next both : Parts) (path : List ℕ) (paths : List (List ℕ)) (text bytes : List ℕ)
    → AreParts before → kept path (Some text) → parts_at text ≡ Ok next → joined before next ≡ Ok both
    → HasAlsoGiven kept both paths bytes → HasAlsoGiven kept before (path ∷ paths) bytes
next_left kept before next both path paths text bytes are given is joins rest =
    (text ∷ rest.0, (given, rest.1), has)
  where
    has : HasAlso before (text ∷ rest.0) bytes
    has scan name c [] h read = absurd read
    has scan name c (d ∷ ds) h read =
        let other = in_file scan name text next d is read.0 in
        let all = in_both scan name before next both c d are (parts_are text next is) joins h other in
        rest.2 scan name (join c d) ds all read.1 ∙ ap Ok (join-assoc c d (join_all ds))

-- the first state and those behind it
pub all_joined : (kept : Giving) (first : Parts) (path : List ℕ) (paths : List (List ℕ)) (text bytes : List ℕ)
    → kept path (Some text) → parts_at text ≡ Ok first → HasAlsoGiven kept first paths bytes
    → IsJoinOfGiven kept (path ∷ paths) bytes
all_joined kept first path paths text bytes given is rest = (text ∷ rest.0, (given, rest.1), are)
  where
    are : AreJoined (text ∷ rest.0) bytes
    are scan name [] read = absurd read
    are scan name (c ∷ cs) read = rest.2 scan name c cs (in_file scan name text first c is read.0) read.1

-- a list that is not empty, by its first and by those that a slice has behind it
pub first_path : (paths : List (List ℕ)) (path : List ℕ) → 0 < length paths → path ≡ get_or paths 0 path
    → paths ≡ path ∷ take (length paths - 1) (drop 1 paths)
first_path [] path l e = absurd (omega (arith, l))
first_path (p ∷ ps) path l e =
    let whole : take (length (p ∷ ps) - 1) ps ≡ ps = ap (λ n. take n ps) (sym (length-drop 1 (p ∷ ps))) ∙ take-length ps in
    ap (λ (q : List ℕ). q ∷ ps) (sym e) ∙ ap (λ (qs : List (List ℕ)). path ∷ qs) (sym whole)
