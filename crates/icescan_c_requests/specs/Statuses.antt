-- How calls end, as C is told.
use Rattle.std.specs.Prelude.{ℕ, Result, Ok, Err}
use Rattle.icescan_c_requests.specs.declared.endings.Refusal.{Refusal}
use Rattle.icescan_c_requests.specs.declared.endings.Refusal.TheVariants as refusal

abbrev pub status_of : Result Unit Refusal → ℕ
status_of (Ok x) = 0
status_of (Err (refusal.Fault status)) = status
status_of (Err refusal.Memory) = 5
status_of (Err refusal.Kind) = 6
status_of (Err refusal.PastEnd) = 7
status_of (Err refusal.Encoding) = 8
status_of (Err refusal.OtherScan) = 9
