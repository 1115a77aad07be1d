-- Where journeys end.
use Rattle.std.proofs.Common.{◌≡◌, ◌<◌, ◌∙◌, ℕ, zero, suc, Bool, true, false, List, refl, sym, ap, arith, length}
use Rattle.std.proofs.Common.{get_or, replicate}
use Rattle.std.proofs.lemmas.List.{ext_get_or}
use Rattle.ice_state.specs.Contents.{Content, World, content, every_row, took}
use Rattle.ice_state.specs.Joins.{join}
use Rattle.ice_state.specs.Runs.{IsIn, Run, after, taken}
use Rattle.ice_state.specs.Scans.{Scanned}
use Rattle.ice_state.proofs.Runs.{after-content, length-taken, taken-at}
use Rattle.ice_state_bytes.specs.Journeys.{Ends, Journey, begun, taking, merging, carried, joined, run_of, TakesAll}
use Rattle.ice_state_bytes.proofs.Sections.{said_as}

joined_is : (c d e f : Content) → c ≡ join d e → d ≡ f → (g : Content) → e ≡ g → c ≡ join f g
joined_is c d e f is h g k = is ∙ ap (λ x. join x e) h ∙ ap (join f) k

pub ends_same : (scan : Scanned) (name : List ℕ) (j : Journey) (c : Content) → Ends scan name j c
    → c ≡ after scan (run_of j)
ends_same scan name begun c h = h
ends_same scan name (taking j i bytes) c h =
    h.2 ∙ ap (λ (x : Content). took scan x i bytes) (ends_same scan name j h.0 h.1)
ends_same scan name (merging j k) c h =
    joined_is c h.0 h.1 (after scan (run_of j)) h.4 (ends_same scan name j h.0 h.2) (after scan (run_of k))
    (ends_same scan name k h.1 h.3)
ends_same scan name (carried j) c h =
    let same : said_as c ≡ said_as h.0 = sym h.4 ∙ h.3 in
    let is : c ≡ h.0 = cc in
    is ∙ ends_same scan name j h.0 h.2
ends_same scan name (joined j k) c h =
    let d = h.0 in
    let e = h.1 in
    let same : said_as c ≡ said_as (join d e) = sym h.10 ∙ h.9 scan name d e h.7 h.8 in
    let is : c ≡ join d e = cc in
    joined_is c d e (after scan (run_of j)) is (ends_same scan name j d h.5) (after scan (run_of k))
    (ends_same scan name k e h.6)

pub ends_content : (world : World) (scan : Scanned) (name : List ℕ) (j : Journey) (c : Content) → Ends scan name j c
    → IsIn world scan (run_of j) → c ≡ content world scan (taken scan (run_of j))
ends_content world scan name j c h is = ends_same scan name j c h ∙ after-content world scan (run_of j) is

true-at : (n k : ℕ) → k < n → get_or (replicate n true) k false ≡ true
true-at zero k low = absurd (omega arith)
true-at (suc n) zero low = refl
true-at (suc n) (suc k) low = true-at n k (omega arith)

length-true : (n : ℕ) → length (replicate n true) ≡ n
length-true zero = refl
length-true (suc n) = ap suc (length-true n)

every : (scan : Scanned) (run : Run) → TakesAll scan run → taken scan run ≡ every_row scan
every scan run all =
    let n = length scan.wanted in
    ext_get_or false (taken scan run) (every_row scan) (length-taken scan run ∙ sym (length-true n))
    (λ k l.
    let low : k < n = omega (arith, length-taken scan run) in
    taken-at scan run k low ∙ all k low ∙ sym (true-at n k low))

pub ends_whole : (world : World) (scan : Scanned) (name : List ℕ) (j : Journey) (c : Content) → Ends scan name j c
    → IsIn world scan (run_of j) → TakesAll scan (run_of j) → c ≡ content world scan (every_row scan)
ends_whole world scan name j c h is all =
    ends_content world scan name j c h is ∙ ap (λ (ts : List Bool). content world scan ts) (every scan (run_of j) all)
