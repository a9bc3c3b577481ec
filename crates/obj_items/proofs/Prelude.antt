-- The definitions that proofs of this crate cite, which they import from here.
pub use Rattle.rv_word.specs.declared.end.End.{End}
pub use Rattle.rv_word.specs.declared.end.End.TheVariants.{Fault, NoMemory}
pub use Rattle.rv_image.specs.MemoryMap.{DATA_START}
unfoldable pub use Rattle.least.specs.First.{first_below}
pub use Rattle.least.specs.Nearest.{IsNearest, nearer}
unfoldable pub use Rattle.least.specs.Nearest.{joined, nearest, nearest_below}
pub use Rattle.least.specs.declared.place.Found.{Found}
pub use Rattle.least.specs.declared.place.Place.{Place}
pub use Rattle.rv_instr.specs.Operands.{names}
pub use Rattle.rv_instr.specs.Reserved.{is_reserved}
pub use Rattle.rv_instr.specs.declared.instr.Instr.{Instr}
pub use Rattle.rv_instr.specs.declared.instr.Instr.TheVariants.{Branch, Ebreak, Ecall, Fence, Immediate, Jal, Jalr, Load, Register, Shift, ShiftWord, Store, Upper}
pub use Rattle.rv_instr.specs.declared.instr.UpperOp.TheVariants.{Auipc, Lui}
unfoldable pub use Rattle.rv_code.specs.Decode.{decoded}
pub use Rattle.elf_tables.specs.Header.{e_shnum}
pub use Rattle.elf_tables.specs.Kept.{is_executable}
unfoldable pub use Rattle.elf_tables.specs.Kept.{is_kept}
pub use Rattle.elf_tables.specs.Relocation.{relocation_bytes, relocation_count}
unfoldable pub use Rattle.elf_tables.specs.Relocation.{relocation_in}
pub use Rattle.elf_tables.specs.Section.{section_header}
pub use Rattle.elf_tables.specs.Symbol.{symbol_count}
pub use Rattle.elf_tables.specs.declared.entry.Reloc.{Reloc}
pub use Rattle.elf_tables.specs.declared.header.SectionHeader.{SectionHeader}
unfoldable pub use Rattle.elf_object.specs.Fault.{fault_of}
pub use Rattle.rv_reloc.specs.Data.{size_of}
pub use Rattle.obj_input.specs.Code.{are_pair, are_same, auipc_register, has_high_part, has_pair_target, is_auipc, is_inside, jalr_base, natural, starts_at, word, word_count}
unfoldable pub use Rattle.obj_input.specs.Code.{instr, is_pair, is_start}
pub use Rattle.obj_input.specs.DataLayout.{DataLayoutParts, address_by, after, after_if, aligned, block, data_end, no_block}
unfoldable pub use Rattle.obj_input.specs.DataLayout.{block_address, blocks_reach, data_layout_of, init_end, reach, section_address, zeros_end}
pub use Rattle.obj_input.specs.Input.{InputParts, Named, SectionParts, has_bytes, is_code, is_code_sort, is_data_sort, is_zeros_sort, no_section, section_count, section_of}
unfoldable pub use Rattle.obj_input.specs.Input.{acting_at}
pub use Rattle.obj_input.specs.Kinds.{is_idle, is_pair_target, is_relative_high, is_relative_low, is_table_high}
unfoldable pub use Rattle.obj_input.specs.Kinds.{kind_of}
unfoldable pub use Rattle.obj_input.specs.Listed.{listed}
pub use Rattle.obj_input.specs.Relocation.{is_acting}
pub use Rattle.obj_input.specs.declared.item_kind.ItemKind.{ItemKind}
pub use Rattle.obj_input.specs.declared.parts.Block.{Block}
pub use Rattle.obj_input.specs.declared.parts.Definition.{Definition}
pub use Rattle.obj_input.specs.declared.parts.Definition.TheVariants.{Absolute, Common, Missing, Within, Zero}
pub use Rattle.obj_input.specs.declared.parts.Func.{Func}
pub use Rattle.obj_input.specs.declared.parts.Relocation.{Relocation}
pub use Rattle.obj_input.specs.declared.parts.Sort.{Sort}
pub use Rattle.obj_input.specs.declared.parts.Sort.TheVariants.{Data, Dropped, Zeros}
pub use Rattle.obj_input.specs.declared.reloc_kind.RelocKind.{RelocKind}
pub use Rattle.obj_input.specs.declared.reloc_kind.RelocKind.TheVariants.{BranchTarget, High, InData, JalTarget, LowI, LowS, Mark, Nothing, PairTarget, RelativeHigh, RelativeLowI, RelativeLowS, TableHigh, Unknown}
pub use Rattle.obj_join.specs.Definer.{own}
unfoldable pub use Rattle.obj_join.specs.Definer.{resolved}
unfoldable pub use Rattle.obj_join.specs.Duplicate.{duplicate}
unfoldable pub use Rattle.obj_join.specs.Found.{is_found}
pub use Rattle.obj_join.specs.Joined.{joined_input}
unfoldable pub use Rattle.obj_join.specs.Joined.{among, own_input, shared_input}
pub use Rattle.obj_join.specs.Laws.{HasOwnNames}
pub use Rattle.obj_join.specs.Said.{Said, SectionSaid, UseSaid, nothing_said, section_behind, with_object}
unfoldable pub use Rattle.obj_join.specs.Said.{said_together}
pub use Rattle.obj_join.specs.Table.{is_table_use, section_said, table_of, table_section, table_symbols_at, table_symbols_in, with_symbol}
unfoldable pub use Rattle.obj_join.specs.Table.{slots}
unfoldable pub use Rattle.obj_link.specs.SaidOf.{said_by, said_of}
pub use Rattle.obj_link.specs.Sections.{kept_sort, section_said_in, sections_said, sort_of, use_said_at}
pub use Rattle.obj_link.specs.Symbols.{symbol_said_in, symbols_said}
pub use Rattle.obj_check.specs.BadPair.{auipc_in, bad_pair_in, has_relative_high, is_auipc_at, is_wrong_low, low_at, low_in, names_high}
unfoldable pub use Rattle.obj_check.specs.BadPair.{bad_pair}
pub use Rattle.obj_check.specs.BadTransfer.{bad_transfer_in, is_wrong_transfer}
unfoldable pub use Rattle.obj_check.specs.BadTransfer.{bad_transfer}
unfoldable pub use Rattle.obj_check.specs.CodePointer.{wrong_pointer}
pub use Rattle.obj_check.specs.Fault.{instruction_fault, relocation_fault}
pub use Rattle.obj_check.specs.Finding.{nearest_in}
pub use Rattle.obj_check.specs.Kind.{by_link, computed_kind, pair_kind, single_kind, word_kind}
unfoldable pub use Rattle.obj_check.specs.Kind.{kind_at}
pub use Rattle.obj_check.specs.Reserved.{is_reserved_at, is_reserved_name, reserved_in}
unfoldable pub use Rattle.obj_check.specs.Reserved.{reserved, some_reserved}
pub use Rattle.obj_check.specs.Target.{aim_of, direct_word, goes_right, guide_at, guides, may_aim, own_aim}
unfoldable pub use Rattle.obj_check.specs.Target.{aim_at, direct_at}
pub use Rattle.obj_check.specs.Undecodable.{is_undecodable, undecodable_in}
unfoldable pub use Rattle.obj_check.specs.Undecodable.{undecodable}
pub use Rattle.obj_check.specs.Undefined.{missing_at, missing_in, missing_in_use, missing_symbol}
unfoldable pub use Rattle.obj_check.specs.Undefined.{undefined}
unfoldable pub use Rattle.obj_check.specs.WrongKind.{wrong_kind}
pub use Rattle.obj_check.specs.WrongPlace.{fits_on, has_form, has_right_addend, is_i_form, is_upper_form, is_wrong_place, place_found, place_in, stands, stands_in_code, stands_in_data, width}
unfoldable pub use Rattle.obj_check.specs.WrongPlace.{wrong_place}
pub use Rattle.obj_check.specs.declared.fault.ItemFault.{ItemFault}
pub use Rattle.obj_check.specs.declared.target.Aim.{Aim}
pub use Rattle.obj_check.specs.declared.target.Aim.TheVariants.{Astray, At}
pub use Rattle.obj_check.specs.declared.target.Direct.{Direct}
pub use Rattle.obj_check.specs.declared.target.Direct.TheVariants.{ByBranch, ByJal, ByPair}
pub use Rattle.refusals.specs.declared.refusal.Refusal.{Refusal}
pub use Rattle.obj_program.specs.MapFit.{EndsLast, FitsMap, FitsMaps}
pub use Rattle.obj_program.specs.Packed.{is_lone, may_be_together}
pub use Rattle.obj_program.specs.Program.{AreInOrder, Program, count, is_before, is_end, is_spot, item_of, no_item, place_of}
pub use Rattle.obj_program.specs.Sound.{IsSound, aims, is_direct, is_high_patch, is_of, is_own, is_patch, is_read, is_value, lies}
pub use Rattle.obj_program.specs.Suits.{has_lower, is_upper, may_be_patched, names_reserved, stands_on, suits}
pub use Rattle.obj_program.specs.declared.item.DataReloc.{DataReloc}
pub use Rattle.obj_program.specs.declared.item.Item.{Item}
pub use Rattle.obj_program.specs.declared.item.Patch.{Patch}
pub use Rattle.obj_program.specs.declared.item.Value.{Value}
pub use Rattle.obj_program.specs.declared.item.Value.TheVariants.{Number}
pub use Rattle.obj_items.specs.Bare.{bare_section, listed_relocs}
unfoldable pub use Rattle.obj_items.specs.Bare.{bare}
pub use Rattle.obj_items.specs.Before.{MayFollow}
pub use Rattle.obj_items.specs.Contents.{AreContents}
pub use Rattle.obj_items.specs.Finished.{IsFinished, Tells, input_by, refusal_in, unfinished}
pub use Rattle.obj_items.specs.FitCode.{HasFitCode}
unfoldable pub use Rattle.obj_items.specs.FromObject.{input_of}
pub use Rattle.obj_items.specs.InitialData.{placed, reloc_by, reloc_of, relocs_in, section_relocs}
unfoldable pub use Rattle.obj_items.specs.InitialData.{init_below, relocs_of}
pub use Rattle.obj_items.specs.Laws.{InitReachesEnd, ProgramsAreSound}
pub use Rattle.obj_items.specs.Linking.{AreLinkedTo}
pub use Rattle.obj_items.specs.Links.{aimed_place, is_the, item_with, named_place, patch_by, patch_from, pointed, some_takes, takes, target_of}
unfoldable pub use Rattle.obj_items.specs.Links.{is_taken}
pub use Rattle.obj_items.specs.Outline.{code_items, end_at, own_word, section_items, start_at, start_item}
unfoldable pub use Rattle.obj_items.specs.Outline.{outline}
pub use Rattle.obj_items.specs.ProgramOf.{program_with}
unfoldable pub use Rattle.obj_items.specs.ProgramOf.{program_of}
pub use Rattle.obj_items.specs.Ranges.{HasSmall, IsBlock, IsInput, IsSection, IsSmallUse}
pub use Rattle.obj_items.specs.Standing.{IsInstruction}
pub use Rattle.obj_items.specs.Values.{gate_value, place_at, section_value, use_value, value_of}
pub use Rattle.obj_items.specs.declared.program.Held.{Held}
