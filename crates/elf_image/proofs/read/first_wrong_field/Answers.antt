use Rattle.elf_image.specs.Header.{data_header, code_header, shadow_header, elf_header, program_header, data_segment, code_segment, shadow_segment}
use Rattle.elf_image.proofs.Scan.{in_headers}
use Rattle.elf_image.proofs.read.first_wrong_field.Goals as goal

pub returns : goal.returns
returns c =
    let parts = in_headers c.args.bytes.now elf_header (program_header data_header (data_segment c.args.code c.args.init)) (program_header code_header (code_segment c.args.code)) (program_header shadow_header (shadow_segment c.args.version)) in
    cc
