-- What functions return that take no memory.
use Rattle.std.specs.Prelude.{◌≡◌, Result, Ok, Err}

-- What a function returned, seen by view, is what reading gives.
abbrev pub IsRead : {X Y E : Type 0} → (X → Y) → Result X E → Result Y E → Type 0
IsRead view (Ok x) read = read ≡ Ok (view x)
IsRead view (Err e) read = read ≡ Err e
