-- What holds of a result that was read in two steps.
use Rattle.std.proofs.Common.{Result, Ok, Err}
use Rattle.std.specs.Prelude.{IfOk, IfErr}
use Rattle.contract_words.specs.Outcome.{◌>>=◌}

pub bind_if : {A B E : Type 0} (P : A → Type 0) (Q : B → Type 0) (r : Result A E) (f : A → Result B E) → IfOk r P
    → ((x : A) → P x → IfOk (f x) Q) → IfOk (r >>= f) Q
bind_if P Q (Ok x) f h k = k x h
bind_if P Q (Err e) f h k = tt

pub bind_any : {A B E : Type 0} (Q : B → Type 0) (r : Result A E) (f : A → Result B E) → ((x : A) → IfOk (f x) Q)
    → IfOk (r >>= f) Q
bind_any Q (Ok x) f k = k x
bind_any Q (Err e) f k = tt

pub bind_err : {A B E : Type 0} (P : A → Type 0) (Q : E → Type 0) (r : Result A E) (f : A → Result B E) → IfOk r P
    → IfErr r Q → ((x : A) → P x → IfErr (f x) Q) → IfErr (r >>= f) Q
bind_err P Q (Ok x) f h g k = k x h
bind_err P Q (Err e) f h g k = g

pub bind_err_any : {A B E : Type 0} (Q : E → Type 0) (r : Result A E) (f : A → Result B E) → IfErr r Q
    → ((x : A) → IfErr (f x) Q) → IfErr (r >>= f) Q
bind_err_any Q (Ok x) f g k = k x
bind_err_any Q (Err e) f g k = g

pub err_weaker : {A E : Type 0} (r : Result A E) (P Q : E → Type 0) → ((e : E) → P e → Q e) → IfErr r P → IfErr r Q
err_weaker (Ok x) P Q f h = tt
err_weaker (Err e) P Q f h = f e h
