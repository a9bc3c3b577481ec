-- Files in memory: a finite map from names to bytes.
use Rattle.std.specs.Prelude.{ℕ, List, [], String, Vec}
use Rattle.std.specs.declared.option.Option.{Option}
use Rattle.std.specs.declared.alloc.Global.{Global}
use Rattle.std.specs.Option.{option_map, unwrap_or}
use Rattle.std.specs.BTreeMap.{BTreeMap, get_by_text}

-- the bytes under a name, if it is there
abbrev pub entry_at : BTreeMap (String Global) (Vec ℕ Global) → List ℕ → Option (List ℕ)
entry_at entries name = option_map (λ file. file.items) (get_by_text entries name)

-- the bytes that a name holds: none where it is not there
abbrev pub bytes_at : BTreeMap (String Global) (Vec ℕ Global) → List ℕ → List ℕ
bytes_at entries name = unwrap_or (entry_at entries name) []
