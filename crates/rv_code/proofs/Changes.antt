-- Changes of data leave all other memory as it is.
use Rattle.std.proofs.Common.{◌≡◌, ℕ, ◌≤◌, List, [], ◌∷◌, refl, ◌∙◌, arith}
use Rattle.std.specs.Prelude.{◌==◌, if◌then◌else◌}
use Rattle.std.specs.List.{AllByRecursion}
use Rattle.std.proofs.lemmas.Bool.{ne_eqb}
use Rattle.rv_image.specs.MemoryMap.{DATA_END}
use Rattle.rv_word.specs.Memory.{Memory}
use Rattle.rv_code.specs.Run.{ByteChange, IsDataChange, changed}

pub changed_above : (m : Memory) (cs : List ByteChange) → AllByRecursion IsDataChange cs → (k : ℕ) → DATA_END ≤ k → changed m cs k ≡ m k
changed_above m [] low k above = refl
changed_above m (c ∷ cs) low k above =
    let below = low.0.address in
    changed_above (λ j. if j == c.address then c.byte else m j) cs low.1 k above ∙ rw (ne_eqb k c.address (λ e. omega arith)) refl
