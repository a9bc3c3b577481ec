-- The word of a place that is no end is an instruction of its kind that a relocation may change as the place says.
use Rattle.std.proofs.Common.{◌≡◌, ℕ, ◌<◌, true, false}
use Rattle.rv_code.specs.Decode.{decoded}
use Rattle.obj_program.specs.declared.item.Patch.{Patch}
use Rattle.obj_program.specs.Program.{Program, count, is_end, item_of}
use Rattle.obj_program.specs.Sound.{IsSound, is_of, is_patch}

pub patch_there : (program : Program) (k : ℕ) (patch : Patch) → IsSound program → k < count program → patch ≡ (item_of program k).patch
    → is_patch program patch ≡ true
patch_there program k patch sound below e = rw e (sound.patches k below)

pub read_there : (program : Program) (k : ℕ) → IsSound program → k < count program → is_end (item_of program k).kind ≡ false
    → is_of (item_of program k).kind (item_of program k).patch (decoded (item_of program k).word) ≡ true
read_there program k sound below some = rw some at (sound.read k below)
