-- What was written to a sink.
use Rattle.std.specs.Prelude.{◌≡◌, ℕ, ◌≤◌, List, ◌++◌, length, take, Option, Some, None, Result, OnOk, OnErr}
use Rattle.icescan_print.specs.declared.sink.SinkFault.{SinkFault}

-- where the bytes so far are told, these follow them
abbrev pub Appends : Option (List ℕ) → Option (List ℕ) → List ℕ → Type 0
Appends None new bytes = Unit {0}
Appends (Some old) new bytes = new ≡ Some (old ++ bytes)

-- a front of these follows them
abbrev pub AppendsFront : Option (List ℕ) → Option (List ℕ) → List ℕ → Type 0
AppendsFront old new bytes = (n : ℕ) × (n ≤ length bytes) × Appends old new (take n bytes)

-- what a call wrote of a text: all of it, or a front where a write failed
pub record Wrote {X : Type 0} (taken : X → Option (List ℕ)) (may_fail : X → Type 0) (old : X)
    (result : Result Unit SinkFault) (new : X) (text : List ℕ) : Type 0 where
  pub all : OnOk result (Appends (taken old) (taken new) text)
  pub front : OnErr result (AppendsFront (taken old) (taken new) text)
  pub cause : OnErr result (may_fail old)
  pub still : may_fail new → may_fail old

-- What a call sent of a text to a sink, behind pieces that wait: what the sink took and what waits now are together
-- what waited before and the text. Where a write failed, the sink took a front of these.
pub record Sent {X : Type 0} (taken : X → Option (List ℕ)) (may_fail : X → Type 0) (old : X) (waits : List ℕ)
    (result : Result Unit SinkFault) (new : X) (waits' : List ℕ) (text : List ℕ) : Type 0 where
  pub all : OnOk result ((sent : List ℕ) × Appends (taken old) (taken new) sent × (sent ++ waits' ≡ waits ++ text))
  pub front : OnErr result (AppendsFront (taken old) (taken new) (waits ++ text))
  pub cause : OnErr result (may_fail old)
  pub still : may_fail new → may_fail old
