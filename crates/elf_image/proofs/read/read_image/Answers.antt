use Rattle.std.proofs.Common.{◌∙◌, arith}
use Rattle.elf_image.proofs.Only.{reads_none}
use Rattle.elf_image.proofs.Taken.{taken_sizes, taken_spelled, taken_back}
use Rattle.elf_image.proofs.read.read_image.Goals as goal

pub returns-in_err-parts-clause-only : goal.returns-in_err-parts-clause-only
returns-in_err-parts-clause-only c version code init size e =
    let none = reads_none _ version code init size e in
    let some = c.in_err-parts.ensures.refused in
    let no : ⊥ = cc in
    absurd no

pub of_version-requires : goal.of_version-requires
of_version-requires c =
    let told = c.in_ok-parts.ensures in
    taken_sizes _ _ _ _ told.read told.version told.end told.start

pub returns-clause-spelled : goal.returns-clause-spelled
returns-clause-spelled c =
    let told = c.in_ok-parts.ensures in
    let parts = c.in_ok-parts.parts in
    let are = taken_spelled c.args.bytes.now parts.version parts.end parts.start told.read told.version told.end told.start (λ i. omega (arith, c.type_inv.bytes i)) in
    rw (c.of_version.ensures.version, c.of_version.ensures.code, c.of_version.ensures.init) are

pub returns-clause-only : goal.returns-clause-only
returns-clause-only c version code init size e =
    let told = c.in_ok-parts.ensures in
    let parts = c.in_ok-parts.parts in
    let back = taken_back c.args.bytes.now parts.version parts.end parts.start told.read told.version told.end told.start version code init size e in
    let made = c.of_version.ensures in
    let version_is = made.version ∙ back.0 in
    let code_is = made.code ∙ back.1 in
    let init_is = made.init ∙ back.2 in
    λ i. record { version = version_is i; code = code_is i; init = init_is i }
