-- How the states of folders are kept as data: each as the tuple of its fields. No contract speaks of it. (Own.)
use Rattle.std.specs.Prelude.{ℕ, Bool, List, Option, refl}
use Rattle.std.specs.Coded.{Coded, code_by, coded×, coded_bool, coded_list, coded_option, coded_ℕ}
use Rattle.std.specs.FinMap as map
use Rattle.rel_io.specs.FolderState.{Files, FolderState, Position}
use Rattle.rel_io.specs.MemFolder.{MemFolderState}

abbrev position_code : Coded Position
position_code = code_by (List ℕ × ℕ) (coded× (coded_list coded_ℕ) coded_ℕ) (λ p. (p.name, p.place)) (λ p. record { name = p.0; place = p.1 }) (λ _. refl)

abbrev files_code : Coded Files
files_code = map.code (coded_list coded_ℕ) (coded_list coded_ℕ)

abbrev pub folder_code : Coded FolderState
folder_code =
    code_by (Option Files × (ℕ × (ℕ × (ℕ × (Bool × Position)))))
    (coded× (coded_option files_code) (coded× coded_ℕ (coded× coded_ℕ (coded× coded_ℕ (coded× coded_bool position_code)))))
    (λ f. (f.holds, (f.read_faults, (f.write_faults, (f.misses, (f.is_open, f.opened))))))
    (λ t. record { holds = t.0; read_faults = t.1.0; write_faults = t.1.1.0; misses = t.1.1.1.0; is_open = t.1.1.1.1.0; opened = t.1.1.1.1.1 })
    (λ _. refl)

abbrev pub mem_folder_code : Coded MemFolderState
mem_folder_code =
    code_by (Files × (ℕ × (List ℕ × (ℕ × (ℕ × (ℕ × (ℕ × Option Position)))))))
    (coded× files_code (coded× coded_ℕ (coded× (coded_list coded_ℕ) (coded× coded_ℕ (coded× coded_ℕ (coded× coded_ℕ (coded× coded_ℕ (coded_option position_code))))))))
    (λ m. (m.files, (m.piece, (m.failing, (m.calls, (m.read_faults, (m.write_faults, (m.misses, m.opened))))))))
    (λ t. record { files = t.0; piece = t.1.0; failing = t.1.1.0; calls = t.1.1.1.0; read_faults = t.1.1.1.1.0; write_faults = t.1.1.1.1.1.0; misses = t.1.1.1.1.1.1.0; opened = t.1.1.1.1.1.1.1 })
    (λ _. refl)
