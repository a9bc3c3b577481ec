use Rattle.std.proofs.Common.{sym, ◌∙◌, ap}
use Rattle.std.proofs.lemmas.Result.{err_from_is_err_and}
use Rattle.elf_object.specs.Fault.{section_fault, fault_of}
use Rattle.elf_object.proofs.Rank.{header_room, fault_in_header, fault_in_places, fault_in_sections}
use Rattle.elf_object.proofs.object.Object.read.Goals as goal

pub returns-in-Some : goal.returns-in-Some
returns-in-Some c = fault_in_header _ _ (sym c.in-Some.ensures)

pub whole_sections-requires : goal.whole_sections-requires
whole_sections-requires c = header_room _ (sym c.in_default.ensures)

pub returns-in_err-sections : goal.returns-in_err-sections
returns-in_err-sections c =
    let p = err_from_is_err_and c.from_residual.result c.from_residual.ensures.1 in
    rw (p.1, p.2) (fault_in_places _ _ (sym c.in_default.ensures) c.in_err-sections.ensures.truncated)

pub returns-in-Some-section_fault : goal.returns-in-Some-section_fault
returns-in-Some-section_fault c =
    let same = c.in_ok-lookup.ensures ∙ c.in_ok-sections.ensures.file in
    fault_in_sections c.args.bytes.now _ (sym c.in_default.ensures) c.in_ok-sections.ensures.whole (ap section_fault (sym same) ∙ sym c.in-Some-section_fault.ensures)

pub invariant_of-result : goal.invariant_of-result
invariant_of-result c =
    let same = c.in_ok-lookup.ensures ∙ c.in_ok-sections.ensures.file in
    ap fault_of same ∙ fault_in_sections c.args.bytes.now _ (sym c.in_default.ensures) c.in_ok-sections.ensures.whole (ap section_fault (sym same) ∙ sym c.in_default-section_fault.ensures)

pub returns : goal.returns
returns c =
    let same = c.in_ok-lookup.ensures ∙ c.in_ok-sections.ensures.file in
    (same, fault_in_sections c.args.bytes.now _ (sym c.in_default.ensures) c.in_ok-sections.ensures.whole (ap section_fault (sym same) ∙ sym c.in_default-section_fault.ensures))
