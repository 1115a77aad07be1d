-- One token after the other, as the loop takes them.
use Rattle.std.proofs.Common.{◌≡◌, ℕ, zero, suc, ◌+◌, ◌-◌, ◌<◌, ◌≤◌, true, false, List, [], ◌∷◌, length, get_or, drop}
use Rattle.std.proofs.Common.{Ok, Err, refl, ◌∙◌, ap, add-one, drop-cons, drop-drop, arith}
use Rattle.std.proofs.Math.ListN.{drop_of_length-le}
use Rattle.std.proofs.Common.{length-drop}
use Rattle.ice_filter.specs.declared.fault.FilterFault.{FilterFault}
use Rattle.ice_filter.specs.Grammar.{Limits}
use Rattle.ice_filter.specs.Parsing.{State, Act, step, outcome, finish}
use Rattle.ice_filter.specs.declared.token.Token.{Token}
use Rattle.ice_filter.specs.Lexing.{Sized, tokens_from, is_separator}
use Rattle.ice_filter.specs.Reads.{IsFront}

-- the bytes that belong to a token are passed
skipped : (at n : ℕ) (bs : List ℕ) → tokens_from at n bs ≡ tokens_from (at + n) 0 (drop n bs)
unfolding tokens_from
skipped at zero bs = let e : at + 0 ≡ at = omega arith in rw e refl
skipped at (suc n) [] = refl
skipped at (suc n) (b ∷ bs) = let e : at + 1 + n ≡ at + suc n = omega arith in skipped (at + 1) n bs ∙ rw e refl

pub past_separator : (at : ℕ) (bs : List ℕ) → 0 < length bs → is_separator (get_or bs 0 0) ≡ true
    → tokens_from at 0 bs ≡ tokens_from (at + 1) 0 (drop 1 bs)
unfolding tokens_from
past_separator at [] some h = absurd (omega arith)
past_separator at (b ∷ bs) some h = rw h refl

drop_less : (n b : ℕ) (bs : List ℕ) → 0 < n → drop n (b ∷ bs) ≡ drop (n - 1) bs
drop_less zero b bs h = absurd (omega arith)
drop_less (suc n) b bs h = let e : suc n - 1 ≡ n = omega arith in rw e refl

pub past_token : (at : ℕ) (bs : List ℕ) (x : Sized) → 0 < length bs → is_separator (get_or bs 0 0) ≡ false
    → IsFront x bs → 0 < x.1 → tokens_from at 0 bs ≡ (at, x.0) ∷ tokens_from (at + x.1) 0 (drop x.1 bs)
unfolding tokens_from
past_token at [] x some h k size = absurd (omega arith)
past_token at (b ∷ bs) x some h k size =
    let e : at + 1 + (x.1 - 1) ≡ at + x.1 = omega arith in
    let d : drop x.1 (b ∷ bs) ≡ drop (x.1 - 1) bs = drop_less x.1 b bs size in
    rw (h, ← k) (ap (λ ts. (at, x.0) ∷ ts) (skipped (at + 1) (x.1 - 1) bs ∙ rw (e, d) refl))

pub separator_at : (bs : List ℕ) (at : ℕ) → at < length bs → is_separator (get_or bs at 0) ≡ true
    → tokens_from at 0 (drop at bs) ≡ tokens_from (at + 1) 0 (drop (at + 1) bs)
unfolding tokens_from
separator_at bs at lt h =
    let k : drop at bs ≡ get_or bs at 0 ∷ drop (at + 1) bs = drop-cons bs at 0 lt ∙ rw add-one refl in
    rw (k, h) refl

pub token_on : (bs : List ℕ) (at : ℕ) (x : Sized) → at < length bs → is_separator (get_or bs at 0) ≡ false
    → IsFront x (drop at bs) → 0 < x.1 → tokens_from at 0 (drop at bs) ≡ (at, x.0) ∷ tokens_from (at + x.1) 0
    (drop (at + x.1) bs)
token_on bs at x lt h k size =
    let some : 0 < length (drop at bs) = simp length-drop (omega arith) in
    let c : drop at bs ≡ get_or bs at 0 ∷ drop (at + 1) bs = drop-cons bs at 0 lt ∙ rw add-one refl in
    let same : get_or (drop at bs) 0 0 ≡ get_or bs at 0 = rw c refl in
    let first : is_separator (get_or (drop at bs) 0 0) ≡ false = rw same h in
    past_token at (drop at bs) x some first k size ∙ ap (λ (r : List ℕ). (at, x.0) ∷ tokens_from (at + x.1) 0 r)
    (drop-drop x.1 at bs)

pub goes_on : {R : Type 0} (add : R → Act → R) (m : Limits) (end at : ℕ) (s q : State R) (t : Token)
    (ts : List (ℕ × Token)) → step add m at s t ≡ Ok q → outcome add m end s ((at, t) ∷ ts) ≡ outcome add m end q ts
unfolding outcome
goes_on add m end at s q t ts h = rw h refl

pub stops : {R : Type 0} (add : R → Act → R) (m : Limits) (end at : ℕ) (s : State R) (e : FilterFault) (t : Token)
    (ts : List (ℕ × Token)) → step add m at s t ≡ Err e → outcome add m end s ((at, t) ∷ ts) ≡ Err e
unfolding outcome
stops add m end at s e t ts h = rw h refl

pub ends_here : {R : Type 0} (add : R → Act → R) (m : Limits) (end at : ℕ) (s : State R) (bs : List ℕ) → length bs ≤ at
    → outcome add m end s (tokens_from at 0 (drop at bs)) ≡ finish add end s
unfolding outcome tokens_from
ends_here add m end at s bs le = let k : drop at bs ≡ [] = drop_of_length-le bs le in rw k refl
