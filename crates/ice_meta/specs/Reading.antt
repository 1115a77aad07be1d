-- One value after the other, from left to right, up to the first fault; and numbers that may be given once.
use Rattle.std.specs.Prelude.{ℤ, List, [], ◌∷◌, ◌++◌, map, find, Bool, Option, None, Some, Result, Ok, Err}
use Rattle.std.specs.Prelude.{if◌then◌else◌}
use Rattle.std.specs.List.{list_any}
use Rattle.std.specs.Ordering.{int_eq}
use Rattle.contract_words.specs.Outcome.{◌>>=◌}
use Rattle.serde_json.specs.Data as json
use Rattle.serde_json.specs.Data.{Data, Items}
use Rattle.ice_meta.specs.declared.fault.MetaFault.{MetaFault}
use Rattle.ice_meta.specs.declared.fault.MetaFault.TheVariants.{IdTwice}

-- what each item adds to what was read before it
abbrev pub each_into : {S : Type 0} → (Data → S → Result S MetaFault) → Items → S → Result S MetaFault
each_into read json.no_items s = Ok s
each_into read (json.item d ds) s = read d s >>= each_into read ds

-- one more at the end
abbrev pub one_more : {A : Type 0} → (Data → Result A MetaFault) → Data → List A → Result (List A) MetaFault
one_more read d front = read d >>= λ x. Ok (front ++ x ∷ [])

-- what is read of each item
abbrev pub each : {A : Type 0} → (Data → Result A MetaFault) → Items → Result (List A) MetaFault
each read items = each_into (one_more read) items []

-- whether one of them has the id
abbrev pub is_among : {A : Type 0} → (A → ℤ) → ℤ → List A → Bool
is_among id_of id xs = list_any (λ x. int_eq (id_of x) id) xs

-- the first of them that has the id
abbrev pub with_id : {A : Type 0} → (A → ℤ) → ℤ → List A → Option A
with_id id_of id xs = find (λ x. int_eq (id_of x) id) xs

-- the first of the numbers that comes again
abbrev pub again : List ℤ → Option ℤ
again [] = None
again (x ∷ xs) = if list_any (int_eq x) xs then Some x else again xs

abbrev pub or_twice : {A : Type 0} → Option ℤ → A → Result A MetaFault
or_twice None x = Ok x
or_twice (Some id) x = Err (IdTwice id)

-- the list, where no two of its elements have one id
abbrev pub once : {A : Type 0} → (A → ℤ) → List A → Result (List A) MetaFault
once id xs = or_twice (again (map id xs)) xs
