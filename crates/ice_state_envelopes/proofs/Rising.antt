-- Rows that rise.
use Rattle.std.proofs.Common.{◌≡◌, ℕ, suc, ◌<◌, ◌≤◌, true, ◌&&◌, not, ltb, List, [], ◌∷◌, ◌++◌, refl, arith}
use Rattle.std.proofs.lemmas.Bool.{lt-ltb, le-ltb, ltb-true, ltb-false, and_parts, not-true}
use Rattle.ice_state_envelopes.specs.Envelopes.{Part, Rise, rises}

pub rise_weaker : (least from end : ℕ) (ps : List Part) → least ≤ from → Rise from end ps → Rise least end ps
rise_weaker least from end [] le rise = tt
rise_weaker least from end (p ∷ ps) le rise = (omega (arith, rise.0), rise.1, rise.2)

pub rise_wider : (least end further : ℕ) (ps : List Part) → end ≤ further → Rise least end ps → Rise least further ps
rise_wider least end further [] le rise = tt
rise_wider least end further (p ∷ ps) le rise = (
  rise.0,
  omega (arith, rise.1),
  rise_wider (suc p.0) end further ps le rise.2,
)

-- one more behind them
pub rise_on : (least row end : ℕ) (body : List ℕ) (ps : List Part) → least ≤ row → row < end → Rise least row ps
    → Rise least end (ps ++ (row, body) ∷ [])
rise_on least row end body [] le lt rise = (le, lt, tt)
rise_on least row end body (p ∷ ps) le lt rise = (
  rise.0,
  omega (arith, lt, rise.1),
  rise_on (suc p.0) row end body ps (omega (arith, rise.1)) lt rise.2,
)

-- ---- the test

pub rise_of : (least end : ℕ) (ps : List Part) → rises least end ps ≡ true → Rise least end ps
rise_of least end [] h = tt
rise_of least end (p ∷ ps) h =
    let one = and_parts (not (ltb p.0 least)) (ltb p.0 end && rises (suc p.0) end ps) h in
    let two = and_parts (ltb p.0 end) (rises (suc p.0) end ps) one.1 in
    (ltb-false p.0 least (not-true _ one.0), ltb-true p.0 end two.0, rise_of (suc p.0) end ps two.1)

pub rises_of : (least end : ℕ) (ps : List Part) → Rise least end ps → rises least end ps ≡ true
rises_of least end [] rise = refl
rises_of least end (p ∷ ps) rise =
    rw (le-ltb p.0 least rise.0, lt-ltb p.0 end rise.1, rises_of (suc p.0) end ps rise.2) refl
