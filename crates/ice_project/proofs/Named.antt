-- The transform that a text names is the one that is read from it.
use Rattle.std.proofs.Common.{◌≡◌, ℕ, ◌==◌, Bool, true, false, ◌&&◌, List, [], ◌∷◌, drop, length, codes, Option, None}
use Rattle.std.proofs.Common.{Some, cond, refl, ap, sym, ◌∙◌, nat_eq, nat_lt}
use Rattle.std.specs.Option.{option_map, option_and_then, option_or}
use Rattle.std.specs.List.{starts_with}
use Rattle.std.specs.Str.{bytes_eq}
use Rattle.std.proofs.lemmas.Slice.Eq.{bytes_eq-Decides}
use Rattle.ice_transform.specs.Names.{number_after, parameter_before_bracket, parameter_in, IsNamed, is_plain_name}
use Rattle.ice_transform.specs.Parameters.{parameter_if}
use Rattle.ice_transform.specs.declared.parameter.Parameter.{Parameter}
use Rattle.ice_transform.specs.declared.transform.Transform.{Transform}
use Rattle.ice_transform.specs.declared.transform.Transform.TheVariants.{Identity, Bucket, Truncate, Year, Month, Day}
use Rattle.ice_transform.specs.declared.transform.Transform.TheVariants.{Hour, Void, Unknown}
use Rattle.ice_project.specs.Fields.{parameter_where, parameter_of, numbered_transform, transform_or, transform_named}

-- one name more
step : (b : Bool) (text name : List ℕ) (x y : Transform) → bytes_eq text name ≡ b → (text ≡ name → IsNamed x text)
    → (bytes_eq text name ≡ false → IsNamed y text) → IsNamed (cond b x y) text
step true text name x y e f g = f ((bytes_eq-Decides text name).0 e)
step false text name x y e f g = g e

-- the number of a transform is from 1 to 2147483647
abbrev IsSized : ℕ → Type 0
IsSized n = (nat_lt 0 n && nat_lt n 0x8000_0000) ≡ true

sized_if : (n m : ℕ) → parameter_if n ≡ Some m → IsSized m
sized_if n m e = go (nat_lt 0 n && nat_lt n 0x8000_0000) refl e where
  go : (b : Bool) → (nat_lt 0 n && nat_lt n 0x8000_0000) ≡ b → cond b (Some n) None ≡ Some m → IsSized m
  go true s k = let same : n ≡ m = cc in rw (← same) s
  go false s k = absurd cc

sized_after : (o : Option ℕ) (m : ℕ) → option_and_then parameter_if o ≡ Some m → IsSized m
sized_after None m e = absurd cc
sized_after (Some n) m e = sized_if n m e

sized_before_bracket : (bs : List ℕ) (m : ℕ) → parameter_before_bracket bs ≡ Some m → IsSized m
sized_before_bracket [] m e = absurd cc
sized_before_bracket (b ∷ bs) m e = go (b == 48) e where
  go : (x : Bool) → cond x None (option_and_then parameter_if (number_after 0 (b ∷ bs))) ≡ Some m → IsSized m
  go true k = absurd cc
  go false k = sized_after (number_after 0 (b ∷ bs)) m k

sized_in : (front text : List ℕ) (m : ℕ) → parameter_in front text ≡ Some m → IsSized m
sized_in front text m e = go (starts_with nat_eq text front) e where
  go : (x : Bool) → cond x (parameter_before_bracket (drop (length front) text)) None ≡ Some m → IsSized m
  go true k = sized_before_bracket (drop (length front) text) m k
  go false k = absurd cc

parameter_is : (n : ℕ) → IsSized n → (p : Parameter) × (parameter_of n ≡ Some p) × (p.number ≡ n)
parameter_is n s = go (nat_lt 0 n && nat_lt n 0x8000_0000) refl s where
  go : (b : Bool) (e : (nat_lt 0 n && nat_lt n 0x8000_0000) ≡ b) → b ≡ true
      → (p : Parameter) × (parameter_where n b e ≡ Some p) × (p.number ≡ n)
  go true e k = (_, refl, refl)
  go false e k = absurd cc

numbered_is : (text : List ℕ) → is_plain_name text ≡ false
    → IsNamed (transform_or (numbered_transform text) (Unknown text)) text
numbered_is text plain = go (parameter_in (codes "bucket[") text) (parameter_in (codes "truncate[") text) refl refl
  where
    go : (o q : Option ℕ) → parameter_in (codes "bucket[") text ≡ o → parameter_in (codes "truncate[") text ≡ q →
        IsNamed (transform_or (option_or (option_map Bucket (option_and_then parameter_of o))
        (option_map Truncate (option_and_then parameter_of q))) (Unknown text)) text
    go (Some n) q e f = let p = parameter_is n (sized_in (codes "bucket[") text n e) in rw p.1 (e ∙ ap Some (sym p.2))
    go None (Some n) e f = let p = parameter_is n (sized_in (codes "truncate[") text n f) in
        rw p.1 (f ∙ ap Some (sym p.2))
    go None None e f = (refl, rw (plain, e, f) refl)

pub named_is : (text : List ℕ) → IsNamed (transform_named text) text
named_is text =
    step _ text (codes "identity") Identity _ refl (λ e. e) (λ a.
    step _ text (codes "year") Year _ refl (λ e. e) (λ b.
    step _ text (codes "month") Month _ refl (λ e. e) (λ c.
    step _ text (codes "day") Day _ refl (λ e. e) (λ d.
    step _ text (codes "hour") Hour _ refl (λ e. e) (λ h.
    step _ text (codes "void") Void _ refl (λ e. e) (λ v.
    numbered_is text (rw (a, b, c, d, h, v) refl)))))))
