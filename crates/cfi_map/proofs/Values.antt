-- Where no value leaves its range, each instruction and the data have their values.
use Rattle.std.proofs.Common.{◌≡◌, ℕ, ◌<◌, Bool, true, false, List, Option, Some, None, refl}
use Rattle.std.specs.Prelude.{◌&&◌, not, is_none, is_some}
use Rattle.cfi_map.proofs.Prelude.{instr_at, data_at, Program, count, is_end, item_of, out_of_range}
use Rattle.obj_program.proofs.Exact.{none_out_of_range}

-- each instruction has its values
there_if : (last none : Bool) → (not last && none) ≡ false → last ≡ false → none ≡ false
there_if true none e some = absurd (cc)
there_if false none e some = e

is_there : {A : Type 0} (o : Option A) → is_none o ≡ false → is_some o ≡ true
is_there None e = absurd (cc)
is_there (Some x) e = refl

pub values_there : (program : Program) (gates words : List ℕ) → out_of_range program gates words ≡ None →
    (k : ℕ) → k < count program → is_end (item_of program k).kind ≡ false → is_some (instr_at program gates words k) ≡ true
values_there program gates words none k below some =
    is_there (instr_at program gates words k)
    (there_if (is_end (item_of program k).kind) (is_none (instr_at program gates words k)) (((none_out_of_range program gates words).0 none).0 k below) some)

-- and so have the data
pub data_there : (program : Program) (gates words : List ℕ) → out_of_range program gates words ≡ None → is_some (data_at program gates) ≡ true
data_there program gates words none = ((none_out_of_range program gates words).0 none).1
