use Rattle.std.proofs.Common.{◌≡◌, true, List, ℕ, length, subst, sym}
use Rattle.std.specs.Prelude.{is_some}
use Rattle.cfi_writer.proofs.Prelude.{IsImageSize, data_at, init_size, ProgramAtMap, IsImageWith}
use Rattle.cfi_writer.proofs.WholeImage.{program_size, written_with}
use Rattle.cfi_writer.proofs.hardened.written.Goals as goal

pub image_of-requires-clause-there : goal.image_of-requires-clause-there
image_of-requires-clause-there c =
    subst (λ (l : ProgramAtMap). is_some (data_at l.program l.gates) ≡ true) (sym c.mapped-mapped.ensures) c.requires.init_there

pub image_of-requires-clause-size : goal.image_of-requires-clause-size
image_of-requires-clause-size c =
    subst (λ (l : ProgramAtMap). IsImageSize (length c.as_slice.result.now) (init_size l.program)) (sym c.mapped-mapped.ensures)
    (subst (λ (code : List ℕ). IsImageSize (length code) (init_size c.args.spacing.now.layout.program)) (sym c.as_slice.ensures.value)
    (program_size c.args.form c.args.spacing.now c.args.labels.now c.in_ok-code.code.items c.in_ok-code.graph c.requires c.in_ok-code.ensures.coded))

pub returns : goal.returns
returns c =
    written_with c.args.form c.args.spacing.now c.args.labels.now c.in_ok-code.code.items c.in_ok-image.image c.in_ok-code.graph c.in_ok-code.map
    c.requires c.in_ok-code.ensures
    (subst (λ (l : ProgramAtMap). IsImageWith c.args.form l c.in_ok-code.code.items c.in_ok-image.image) c.mapped-mapped.ensures
    (subst (λ (code : List ℕ). IsImageWith c.args.form c.mapped-mapped.result.now code c.in_ok-image.image) c.as_slice.ensures.value c.in_ok-image.ensures))
