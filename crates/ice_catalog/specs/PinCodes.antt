-- How pinned scans and machines are told apart.
use Rattle.std.specs.Prelude.{List, Bool, Option, refl}
use Rattle.std.specs.Coded.{Coded, code_by, coded×, coded_list, coded_option, coded_bool}
use Rattle.ice_state.specs.Scans.{Scanned}
use Rattle.ice_state.specs.declared.scan.Scan.{the_code}
use Rattle.ice_catalog_versions.specs.Codes.{history_code}
use Rattle.ice_catalog_versions.specs.Histories.{History}
use Rattle.ice_catalog.specs.Machines.{Machine, PinnedScan}

abbrev pub pinned_code : Coded PinnedScan
pinned_code = code_by (History × (Scanned × List (List Bool)))
    (coded× history_code (coded× the_code (coded_list (coded_list coded_bool))))
    (λ p. (p.history, (p.scan, p.workers))) (λ q. record { history = q.0; scan = q.1.0; workers = q.1.1 }) (λ _. refl)

abbrev pub machine_code : Coded Machine
machine_code =
    code_by (History × List (Option PinnedScan)) (coded× history_code (coded_list (coded_option pinned_code)))
    (λ m. (m.history, m.pins)) (λ q. record { history = q.0; pins = q.1 }) (λ _. refl)
