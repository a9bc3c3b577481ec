-- How the search for the first value out of range goes on.
use Rattle.std.proofs.Common.{◌≡◌, ℕ, ◌+◌, ◌≤◌, Some, None, Option, List, take, length, true, nat_le, arith}
use Rattle.std.specs.Prelude.{slice_get}
use Rattle.std.specs.List.{filter_map}
use Rattle.std.proofs.lemmas.Bool.{and_parts}
use Rattle.rv_reloc.specs.Data.{size_of}
use Rattle.rv_reloc.specs.declared.kinds.DataPatch.{DataPatch}
use Rattle.rv_reloc.specs.declared.kinds.DataPatch.TheVariants.{Abs32, Abs64, Add8, Add16, Add32, Add64, Sub8, Sub16, Sub32, Sub64}
use Rattle.least.specs.Nearest.{nearer, nearest}
use Rattle.least.specs.declared.place.Found.{Found}
use Rattle.least.proofs.Nearests.{found_begins, found_step}
use Rattle.obj_program.specs.declared.item.DataReloc.{DataReloc}
use Rattle.obj_program.specs.Program.{Program, count}
use Rattle.obj_program.specs.Sound.{IsSound, is_value, lies}
use Rattle.obj_program.specs.Range.{place_found, reloc_astray}

pub sizes : (patch : DataPatch) → size_of patch ≤ 8
sizes Abs32 = omega arith
sizes Abs64 = omega arith
sizes Add8 = omega arith
sizes Add16 = omega arith
sizes Add32 = omega arith
sizes Add64 = omega arith
sizes Sub8 = omega arith
sizes Sub16 = omega arith
sizes Sub32 = omega arith
sizes Sub64 = omega arith

pub astray_begins : (gates : List ℕ) (xs : List DataReloc) → nearest place_found (filter_map (reloc_astray gates) (take 0 xs)) ≡ None
astray_begins gates xs = found_begins place_found (reloc_astray gates) xs

pub astray_step : (gates : List ℕ) (xs : List DataReloc) (k : ℕ) (x : DataReloc) (least one : Option (Found (Unit {0}))) → slice_get xs k ≡ Some x
    → least ≡ nearest place_found (filter_map (reloc_astray gates) (take k xs)) → one ≡ reloc_astray gates x
    → nearer place_found least one ≡ nearest place_found (filter_map (reloc_astray gates) (take (k + 1) xs))
astray_step gates xs k x least one at p q = found_step place_found (reloc_astray gates) xs k x least one at p q

-- what holds of each relocation of a program
pub values_there : (program : Program) (gates : List ℕ) (relocs : List DataReloc) → IsSound program → relocs ≡ program.relocations → length gates ≡ count program
    → (j : ℕ) (r : DataReloc) → slice_get relocs j ≡ Some r → is_value (length gates) r.value ≡ true
values_there program gates relocs sound e few j r get =
    let there : lies program r ≡ true = sound.relocations j r (rw (← e) get) in
    let parts = and_parts (nat_le (r.offset + size_of r.patch) (length program.init)) (is_value (count program) r.value) there in
    rw few parts.1
