-- What the union of sections says.
use Rattle.std.proofs.Common.{◌≡◌, ◌<◌, ◌≤◌, ◌∙◌, ℕ, suc, Bool, true, false, List, [], ◌∷◌, refl, sym, ap, subst, arith}
use Rattle.std.proofs.Common.{get_or, None, Some, is_some, if◌then◌else◌, Ok}
use Rattle.std.specs.Prelude.{nat_lt}
use Rattle.std.proofs.lemmas.Bool.Decides.{nat_tests}
use Rattle.ice_state.specs.Contents.{Content, or_else}
use Rattle.ice_state.specs.Joins.{join}
use Rattle.ice_state.specs.Readings.{Reading}
use Rattle.ice_state.specs.Scans.{Scanned}
use Rattle.ice_state.proofs.Joins.{join-assoc, join-comm}
use Rattle.ice_state_envelopes.specs.Envelopes.{Part, Rise}
use Rattle.ice_state_envelopes.specs.Joins.{put, union}
use Rattle.ice_state_envelopes.proofs.Rising.{rise_weaker}
use Rattle.ice_state_envelopes.proofs.Unions.{union_rises}
use Rattle.ice_state_bytes.specs.States.{nothing, reading_at}
use Rattle.ice_state_bytes.proofs.Rows.{join-at, join-none, join-taken, length-one, none-join, one}
use Rattle.ice_state_bytes.proofs.Rows.{one-agree, one-at}
use Rattle.ice_state_bytes.proofs.Sections.{First, Say, wants, first, free, length-say, one_first}

not_below : (a b : ℕ) → nat_lt a b ≡ false → b ≤ a
not_below a b h = grind (arith, nat_tests)

is_below : (a b : ℕ) → nat_lt a b ≡ true → a < b
is_below a b h = grind (arith, nat_tests)

module _ (scan : Scanned) where
  abbrev n : ℕ
  n = wants scan

  -- a row that isn't taken can stand before or behind
  moved : (i : ℕ) (r : Reading) (c : Content) → get_or c i None ≡ None
      → join (one n i r) c ≡ join c (one n i r)
  moved i r c is = join-comm (one n i r) c (one-agree n i r c is)

  -- ---- a section that is put in its place

  said_placed : (q : Part) (r : Reading) (p : Part) (parts : List Part) (c : Content) (least : ℕ)
      → (f : First scan p parts c) (b d : Bool) → nat_lt p.0 q.0 ≡ b → nat_lt q.0 p.0 ≡ d → Rise least n (p ∷ parts)
      → reading_at scan q ≡ Ok r → Say scan (p ∷ parts) c → Say scan (put q parts) (join f.rest (one n q.0 r))
      → Say scan (if b then p ∷ put q parts else (if d then q ∷ p ∷ parts else p ∷ parts)) (join c (one n q.0 r))
  said_placed q r p parts c least f true d is other rise read h more =
      let row = one n p.0 f.reading in
      let same : join row (join f.rest (one n q.0 r)) ≡ join c (one n q.0 r) =
      sym (join-assoc row f.rest (one n q.0 r)) ∙ ap (λ (x : Content). join x (one n q.0 r)) (sym f.both) in
      subst (Say scan (p ∷ put q parts)) same
      (one_first scan p f.reading (put q parts) (join f.rest (one n q.0 r)) f.read more)
  said_placed q r p parts c least f false true is other rise read h more =
      let before : q.0 < p.0 = is_below q.0 p.0 other in
      let rise' : Rise p.0 n (p ∷ parts) = (omega arith, rise.1, rise.2) in
      let none = free scan (p ∷ parts) c p.0 n q.0 rise' before h in
      subst (Say scan (q ∷ p ∷ parts)) (moved q.0 r c none) (one_first scan q r (p ∷ parts) c read h)
  said_placed q r p parts c least f false false is other rise read h more =
      let here : q.0 ≡ p.0 = omega (arith, not_below p.0 q.0 is, not_below q.0 p.0 other) in
      let row = one n p.0 f.reading in
      let at : get_or c p.0 None ≡ Some f.reading =
      ap (λ (x : Content). get_or x p.0 None) f.both
      ∙ join-at row f.rest p.0 (length-one n p.0 f.reading ∙ sym (length-say scan parts f.rest f.said))
      ∙ ap (λ s. or_else s (get_or f.rest p.0 None)) (one-at n p.0 f.reading rise.1) in
      let there : is_some (get_or c q.0 None) ≡ true = ap (λ i. is_some (get_or c i None)) here ∙ ap is_some at in
      subst (Say scan (p ∷ parts)) (sym (join-taken n q.0 r c (length-say scan (p ∷ parts) c h) there)) h

  pub said_put : (q : Part) (r : Reading) (parts : List Part) (c : Content) (least : ℕ) → Rise least n parts
      → q.0 < n → reading_at scan q ≡ Ok r → Say scan parts c → Say scan (put q parts) (join c (one n q.0 r))
  said_put q r [] c least rise high read h =
      let none : nothing scan ≡ c = cc in
      let row = one n q.0 r in
      let same : join row (nothing scan) ≡ join c row = join-none n row (length-one n q.0 r)
      ∙ sym (none-join n row (length-one n q.0 r)) ∙ ap (λ (x : Content). join x row) none in
      subst (Say scan (q ∷ [])) same (one_first scan q r [] (nothing scan) read refl)
  said_put q r (p ∷ parts) c least rise high read h =
      let f = first scan p parts c h in
      said_placed q r p parts c least f (nat_lt p.0 q.0) (nat_lt q.0 p.0) refl refl rise read h
      (said_put q r parts f.rest (suc p.0) rise.2 high read f.said)

  -- ---- the union

  pub said_union : (ps qs : List Part) (c d : Content) (least : ℕ) → Rise 0 n ps → Rise least n qs → Say scan ps c
      → Say scan qs d → Say scan (union ps qs) (join c d)
  said_union ps [] c d least rise other h k =
      let none : nothing scan ≡ d = cc in
      let same : c ≡ join c d = sym (join-none n c (length-say scan ps c h)) ∙ ap (join c) none in
      subst (Say scan ps) same h
  said_union ps (q ∷ qs) c d least rise other h k =
      let f = first scan q qs d k in
      let row = one n q.0 f.reading in
      let rest = said_union ps qs c f.rest (suc q.0) rise other.2 h f.said in
      let risen = union_rises 0 n ps qs rise (rise_weaker 0 (suc q.0) n qs (omega arith) other.2) in
      let all = said_put q f.reading (union ps qs) (join c f.rest) 0 risen other.1 f.read rest in
      let none = free scan qs f.rest (suc q.0) n q.0 other.2 (omega arith) f.said in
      let same : join (join c f.rest) row ≡ join c d =
      join-assoc c f.rest row ∙ ap (join c) (sym (moved q.0 f.reading f.rest none)) ∙ ap (join c) (sym f.both) in
      subst (Say scan (put q (union ps qs))) same all
