-- What holds of the generated object of each number: it is hardened, unless memory runs out.
use Rattle.std.specs.Prelude.{ℕ, None, List, codes}
use Rattle.rv_image.specs.declared.form.Form.TheVariants.{Plain}
use Rattle.elf_writer.specs.Object.{object_bytes}
use Rattle.cfi_gen.specs.Demo.{demo_parts}
use Rattle.refusals.specs.declared.refusal.Refusal.{Refusal}
use Rattle.cfi_harden.specs.Given.{alone}
use Rattle.cfi_harden.specs.Refused.{Refuses}
use Rattle.cfi_harden.specs.Request.{Request}

-- an object that is entered at `main`, without a policy
abbrev pub entered : List ℕ → Request
entered object = record { form = Plain; given = alone object; entry = codes "main"; policy = None }

-- nothing stands against a request
abbrev pub IsNeverRefused : Request → Type 0
IsNeverRefused request = (refusal : Refusal) → Refuses request refusal → ⊥

-- this holds of the object of each number
abbrev pub DemoIsNeverRefused : Type 0
DemoIsNeverRefused = (number : ℕ) → IsNeverRefused (entered (object_bytes (demo_parts number)))
