-- What a place refers to is there.
use Rattle.std.proofs.Common.{◌≡◌, ℕ, ◌<◌, true, not, ◌&&◌, Option, Some, None, arith}
use Rattle.std.specs.Prelude.{nat_lt}
use Rattle.std.proofs.lemmas.Bool.{and_parts, ltb-true}
use Rattle.cfi_writer.proofs.Prelude.{ItemKind, Program, count, is_end, item_of, IsSound, aims, is_direct}

aimed : (program : Program) (kind : ItemKind) (target : Option ℕ) (t : ℕ) → aims program kind target ≡ true → target ≡ Some t → t < count program
aimed program kind None t is some = absurd (cc)
aimed program kind (Some u) t is some =
    let parts = and_parts (is_direct kind && nat_lt u (count program)) (not (is_end (item_of program u).kind)) is in
    let below = and_parts (is_direct kind) (nat_lt u (count program)) parts.0 in
    let same : u ≡ t = cc in
    let less = ltb-true u (count program) below.1 in
    omega (arith, same)

pub target_there : (program : Program) (k t : ℕ) → IsSound program → k < count program → (item_of program k).target ≡ Some t → t < count program
target_there program k t sound below is =
    aimed program (item_of program k).kind (item_of program k).target t (sound.targets k below) is
