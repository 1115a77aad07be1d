-- Equal texts of scans are of equal parts.
use Rattle.std.proofs.Common.{◌≡◌, ◌<◌, ◌^◌, ℕ, ℤ, List, [], ◌∷◌, ◌++◌, length, Option, None, Some, refl, sym, ap, ◌∙◌}
use Rattle.std.proofs.Common.{append_assoc, arith}
use Rattle.std.specs.Int.{cast_signed, cast_unsigned, from_be_bytes, to_be_bytes, w64}
use Rattle.std.proofs.lemmas.Int.{ints}
use Rattle.std.proofs.lemmas.Nat.{from_be_bytes-to_be_bytes_8}
use Rattle.ice_meta.specs.declared.metadata.Target.{Target}
use Rattle.ice_meta.specs.declared.metadata.Target.TheVariants as target
use Rattle.icescan_text.specs.declared.request.Request.{Request}
use Rattle.icescan_shares.specs.Names.{IsShort, IsSmall, IsSmallFilter, IsSmallTarget, filter_text, run, scan_text}
use Rattle.icescan_shares.specs.Names.{target_text}

-- fronts of one length are the same where the whole is
apart : (a b s t : List ℕ) → length a ≡ length b → a ++ s ≡ b ++ t → (a ≡ b) × (s ≡ t)
apart [] [] s t l h = (refl, h)
apart [] (y ∷ b) s t l h = absurd cc
apart (x ∷ a) [] s t l h = absurd cc
apart (x ∷ a) (y ∷ b) s t l h =
    let k : length a ≡ length b = cc in
    let e : a ++ s ≡ b ++ t = cc in
    let first : x ≡ y = cc in
    let rest = apart a b s t k e in
    (rw (first, rest.0) refl, rest.1)

same_number : (m n : ℕ) → m < 2 ^ 64 → n < 2 ^ 64 → to_be_bytes w64 m ≡ to_be_bytes w64 n → m ≡ n
same_number m n l k h =
    sym (from_be_bytes-to_be_bytes_8 m l) ∙ (ap (from_be_bytes w64) h ∙ from_be_bytes-to_be_bytes_8 n k)

runs_apart : (a b s t : List ℕ) → IsShort a → IsShort b → run a ++ s ≡ run b ++ t → (a ≡ b) × (s ≡ t)
runs_apart a b s t l k h =
    let front = to_be_bytes w64 in
    let whole : front (length a) ++ (a ++ s) ≡ front (length b) ++ (b ++ t) =
    sym (append_assoc (front (length a)) a s) ∙ (h ∙ append_assoc (front (length b)) b t) in
    let parts = apart (front (length a)) (front (length b)) (a ++ s) (b ++ t) refl whole in
    apart a b s t (same_number (length a) (length b) l k parts.0) parts.1

targets_apart : (p q : Target) (s t : List ℕ) → IsSmallTarget p → IsSmallTarget q
    → target_text p ++ s ≡ target_text q ++ t → (p ≡ q) × (s ≡ t)
targets_apart target.Main target.Main s t l k h = let e : s ≡ t = cc in (refl, e)
targets_apart target.Main (target.Ref b) s t l k h = absurd cc
targets_apart target.Main (target.Snapshot j) s t l k h = absurd cc
targets_apart (target.Ref a) target.Main s t l k h = absurd cc
targets_apart (target.Ref a) (target.Ref b) s t l k h =
    let e : run a ++ s ≡ run b ++ t = cc in
    let parts = runs_apart a b s t l k e in
    (ap target.Ref parts.0, parts.1)
targets_apart (target.Ref a) (target.Snapshot j) s t l k h = absurd cc
targets_apart (target.Snapshot i) target.Main s t l k h = absurd cc
targets_apart (target.Snapshot i) (target.Ref b) s t l k h = absurd cc
targets_apart (target.Snapshot i) (target.Snapshot j) s t l k h =
    let front : ℤ → List ℕ = λ z. to_be_bytes w64 (cast_unsigned w64 z) in
    let e : front i ++ s ≡ front j ++ t = cc in
    let parts = apart (front i) (front j) s t refl e in
    let bits : cast_unsigned w64 i ≡ cast_unsigned w64 j =
    same_number (cast_unsigned w64 i) (cast_unsigned w64 j) (omega (arith, ints)) (omega (arith, ints)) parts.0 in
    (ap target.Snapshot (sym l ∙ (ap (cast_signed w64) bits ∙ k)), parts.1)

filters_apart : (f g : Option (List ℕ)) → IsSmallFilter f → IsSmallFilter g → filter_text f ≡ filter_text g → f ≡ g
filters_apart None None l k h = refl
filters_apart None (Some b) l k h = absurd cc
filters_apart (Some a) None l k h = absurd cc
filters_apart (Some a) (Some b) l k h =
    let e : run a ≡ run b = cc in
    let whole : run a ++ [] ≡ run b ++ [] = ap (λ z. z ++ []) e in
    ap Some (runs_apart a b [] [] l k whole).0

requests_same : (p q : Request) → p.target ≡ q.target → p.filter ≡ q.filter → p ≡ q
requests_same p q t f =
    let of_target : Target → Request = λ x. record { target = x; filter = p.filter } in
    let of_filter : Option (List ℕ) → Request = λ y. record { target = q.target; filter = y } in
    ap of_target t ∙ ap of_filter f

pub texts_apart : (metadata other list second : List ℕ) (request asked : Request) → IsSmall metadata list request
    → IsSmall other second asked → scan_text metadata list request ≡ scan_text other second asked
    → (metadata ≡ other) × (list ≡ second) × (request ≡ asked)
texts_apart metadata other list second request asked l k h =
    let first = runs_apart metadata other _ _ l.0 k.0 h in
    let next = runs_apart list second _ _ l.1 k.1 first.1 in
    let rest = targets_apart request.target asked.target _ _ l.2 k.2 next.1 in
    (first.0, next.0, requests_same request asked rest.0 (filters_apart request.filter asked.filter l.3 k.3 rest.1))
