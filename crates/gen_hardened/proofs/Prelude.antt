-- The definitions that proofs of this crate cite, which they import from here.
pub use Rattle.rv_image.specs.Form.{graph_version}
pub use Rattle.rv_image.specs.MemoryMap.{CODE_SIZE, DATA_START}
pub use Rattle.rv_image.specs.declared.form.Form.{Form}
pub use Rattle.rv_image.specs.declared.form.Form.TheVariants.{Plain}
pub use Rattle.rv_image.specs.declared.version.GraphVersion.TheVariants.{OneLabel}
unfoldable pub use Rattle.least.specs.First.{first_below}
unfoldable pub use Rattle.least.specs.Least.{least_below}
unfoldable pub use Rattle.least.specs.Nearest.{joined, nearest, nearest_below}
pub use Rattle.least.specs.declared.place.Found.{Found}
pub use Rattle.least.specs.declared.place.Place.{Place}
pub use Rattle.rv_instr.specs.InRange.{IsInstr}
pub use Rattle.rv_instr.specs.declared.instr.Instr.{Instr}
pub use Rattle.rv_instr.specs.declared.instr.Instr.TheVariants.{Branch, Ebreak, Ecall, Fence, Immediate, Jal, Jalr, Load, Register, Shift, ShiftWord, Store, Upper}
pub use Rattle.rv_instr.specs.declared.instr.RegisterOp.{RegisterOp}
pub use Rattle.rv_instr.specs.declared.instr.RegisterOp.TheVariants.{Add}
pub use Rattle.rv_instr.specs.declared.instr.ShiftOp.TheVariants.{Slli, Srai, Srli}
pub use Rattle.rv_instr.specs.declared.instr.ShiftWordOp.TheVariants.{Slliw, Sraiw, Srliw}
pub use Rattle.rv_instr.specs.declared.instr.UpperOp.TheVariants.{Auipc, Lui}
unfoldable pub use Rattle.rv_code.specs.Decode.{decoded}
pub use Rattle.rv_code.specs.Encode.{register_code}
unfoldable pub use Rattle.rv_code.specs.Encode.{code_of}
unfoldable pub use Rattle.elf_bytes.specs.Fields.{number_at}
pub use Rattle.elf_tables.specs.Header.{e_shnum}
unfoldable pub use Rattle.elf_tables.specs.Kept.{is_kept}
pub use Rattle.elf_tables.specs.Relocation.{relocation_bytes, relocation_count}
unfoldable pub use Rattle.elf_tables.specs.Relocation.{relocation_in}
pub use Rattle.elf_tables.specs.Section.{section_header}
unfoldable pub use Rattle.elf_tables.specs.Section.{content, section_bytes}
pub use Rattle.elf_tables.specs.Symbol.{symbol, symbol_count}
pub use Rattle.elf_tables.specs.declared.entry.Reloc.{Reloc}
pub use Rattle.elf_writer.specs.Holds.{AreRelocations, Holds, IsSection}
unfoldable pub use Rattle.elf_writer.specs.Object.{object_bytes}
pub use Rattle.elf_writer.specs.Parts.{ObjectParts, RelocationsPart, SymbolPart}
pub use Rattle.elf_writer.specs.Right.{no_reloc, no_symbol}
pub use Rattle.rv_reloc.specs.Word.{is_high_in_range}
pub use Rattle.obj_input.specs.Code.{are_pair, at_whole, auipc_register, has_pair_target, is_auipc, is_inside, starts_at, word_count}
unfoldable pub use Rattle.obj_input.specs.Code.{instr, is_pair, is_start}
pub use Rattle.obj_input.specs.DataLayout.{data_end}
unfoldable pub use Rattle.obj_input.specs.DataLayout.{blocks_reach, init_end, reach, section_address, zeros_end}
pub use Rattle.obj_input.specs.Input.{InputParts, Named, SectionParts, acting_among, is_code, is_code_sort, is_data_sort, is_zeros_sort, no_section, section_count, section_of}
unfoldable pub use Rattle.obj_input.specs.Input.{acting_at}
pub use Rattle.obj_input.specs.Kinds.{is_idle, is_table_high}
unfoldable pub use Rattle.obj_input.specs.Kinds.{kind_of}
unfoldable pub use Rattle.obj_input.specs.Listed.{listed}
pub use Rattle.obj_input.specs.Names.{find_spot}
pub use Rattle.obj_input.specs.Relocation.{is_acting}
pub use Rattle.obj_input.specs.declared.item_kind.ItemKind.{ItemKind}
pub use Rattle.obj_input.specs.declared.parts.Block.{Block}
pub use Rattle.obj_input.specs.declared.parts.Definition.{Definition}
pub use Rattle.obj_input.specs.declared.parts.Definition.TheVariants.{Within, Zero}
pub use Rattle.obj_input.specs.declared.parts.Relocation.{Relocation}
pub use Rattle.obj_input.specs.declared.parts.Sort.TheVariants.{Code, Data, Dropped}
pub use Rattle.obj_input.specs.declared.reloc_kind.RelocKind.{RelocKind}
pub use Rattle.obj_input.specs.declared.reloc_kind.RelocKind.TheVariants.{High, RelativeHigh, RelativeLowI, RelativeLowS, TableHigh}
pub use Rattle.obj_join.specs.Blocks.{has_block}
unfoldable pub use Rattle.obj_join.specs.Blocks.{block_of, blocks_below}
unfoldable pub use Rattle.obj_join.specs.Joined.{own_input}
pub use Rattle.obj_join.specs.Said.{SymbolSaid}
pub use Rattle.obj_join.specs.SaidInput.{is_named, named}
unfoldable pub use Rattle.obj_join.specs.SaidInput.{input_by, names_by}
pub use Rattle.obj_join.specs.Stands.{definition_of, standing_for}
unfoldable pub use Rattle.obj_join.specs.Stands.{definition}
pub use Rattle.obj_join.specs.Symbols.{number_if}
pub use Rattle.obj_join.specs.declared.standing.Standing.{Standing}
pub use Rattle.obj_join.specs.declared.standing.Standing.TheVariants.{InSection}
unfoldable pub use Rattle.obj_link.specs.SaidOf.{said_of}
pub use Rattle.obj_link.specs.Sections.{sort_of, use_said, use_said_at, uses_said}
pub use Rattle.obj_link.specs.Symbols.{is_kept_section, standing_of, symbol_said, symbol_said_in}
pub use Rattle.obj_check.specs.BadPair.{auipc_in, bad_pair_in, is_wrong_auipc, low_at, low_in, wrong_auipc}
unfoldable pub use Rattle.obj_check.specs.BadPair.{bad_pair}
pub use Rattle.obj_check.specs.BadTransfer.{bad_transfer_in, is_wrong_transfer, wrong_transfer}
unfoldable pub use Rattle.obj_check.specs.BadTransfer.{bad_transfer}
pub use Rattle.obj_check.specs.CodePointer.{pointer_found, pointer_in, points_right}
unfoldable pub use Rattle.obj_check.specs.CodePointer.{wrong_pointer}
unfoldable pub use Rattle.obj_check.specs.Fault.{fault_of}
pub use Rattle.obj_check.specs.Finding.{nearest_in, place_of}
pub use Rattle.obj_check.specs.Kind.{by_link, pair_kind, single_kind, word_kind}
unfoldable pub use Rattle.obj_check.specs.Kind.{kind_at}
pub use Rattle.obj_check.specs.Reserved.{is_reserved_at, reserved_in, reserved_word}
unfoldable pub use Rattle.obj_check.specs.Reserved.{reserved, some_reserved}
pub use Rattle.obj_check.specs.Target.{aim_of, direct_word, goes_right, may_aim}
unfoldable pub use Rattle.obj_check.specs.Target.{aim_at, direct_at}
pub use Rattle.obj_check.specs.Undecodable.{is_undecodable, undecodable_in, undecodable_word}
unfoldable pub use Rattle.obj_check.specs.Undecodable.{undecodable}
pub use Rattle.obj_check.specs.Undefined.{missing_among, missing_at, missing_in, missing_symbol}
unfoldable pub use Rattle.obj_check.specs.Undefined.{undefined}
pub use Rattle.obj_check.specs.WrongKind.{kind_found, kind_in}
unfoldable pub use Rattle.obj_check.specs.WrongKind.{wrong_kind}
pub use Rattle.obj_check.specs.WrongPlace.{is_i_form, place_found, place_in}
unfoldable pub use Rattle.obj_check.specs.WrongPlace.{wrong_place}
pub use Rattle.obj_check.specs.declared.fault.ItemFault.{ItemFault}
pub use Rattle.obj_check.specs.declared.target.Direct.{Direct}
pub use Rattle.obj_check.specs.declared.target.Direct.TheVariants.{ByBranch, ByJal, ByPair}
pub use Rattle.refusals.specs.declared.refusal.Refusal.{Refusal}
pub use Rattle.refusals.specs.declared.refusal.Refusal.TheVariants.{CodeTooLarge, DataTooLarge, Items, NoEntry, Object, Policy, RelocRange}
pub use Rattle.obj_program.specs.AtMap.{patched_instr}
unfoldable pub use Rattle.obj_program.specs.AtMap.{instr_at}
pub use Rattle.obj_program.specs.Program.{Program, count, is_end, is_spot, item_of, no_item}
pub use Rattle.obj_program.specs.Range.{first_instr, first_reloc, is_astray, reloc_astray}
unfoldable pub use Rattle.obj_program.specs.Range.{out_of_range}
pub use Rattle.obj_program.specs.Sound.{is_read}
pub use Rattle.obj_program.specs.declared.item.DataReloc.{DataReloc}
pub use Rattle.obj_program.specs.declared.item.Item.{Item}
pub use Rattle.obj_program.specs.declared.item.Patch.{Patch}
pub use Rattle.obj_program.specs.declared.item.Value.TheVariants.{Number}
unfoldable pub use Rattle.obj_items.specs.FromObject.{input_of}
pub use Rattle.obj_items.specs.InitialData.{reloc_of, section_relocs}
unfoldable pub use Rattle.obj_items.specs.InitialData.{init_below, relocs_of}
pub use Rattle.obj_items.specs.Links.{item_with, linked, patch_by, patch_from}
pub use Rattle.obj_items.specs.Outline.{code_items, end_at, section_items, start_at, start_item}
unfoldable pub use Rattle.obj_items.specs.Outline.{outline}
pub use Rattle.obj_items.specs.ProgramOf.{program_with}
unfoldable pub use Rattle.obj_items.specs.ProgramOf.{program_of}
pub use Rattle.obj_items.specs.Values.{use_value, value_of}
pub use Rattle.cfi_closed.specs.Closed.{ClosedGraph, Side, is_target, sorts_of}
pub use Rattle.cfi_flow.specs.Entry.{entry_place}
pub use Rattle.cfi_flow.specs.Policy.{instruction_at}
unfoldable pub use Rattle.cfi_flow.specs.Policy.{wrong_from}
pub use Rattle.cfi_leads.specs.Entered.{Entered, entered_at}
pub use Rattle.cfi_leads.specs.Leads.{lead_size}
pub use Rattle.cfi_map.specs.GraphAtMap.{ProgramAtMap, words_at}
pub use Rattle.cfi_map.specs.Placement.{is_ecall, kind_size, size_of, whole_at}
pub use Rattle.cfi_map.specs.Sizes.{whole_size}
unfoldable pub use Rattle.cfi_map.specs.Sizes.{part_sizes}
pub use Rattle.cfi_harden.specs.Given.{RefusesGiven, alone}
pub use Rattle.cfi_harden.specs.Prepared.{IsPreparedOf, IsWrongPolicy, PreparedParts}
pub use Rattle.cfi_harden.specs.Refused.{RefusesProgram}
pub use Rattle.cfi_harden.specs.Request.{program_request}
pub use Rattle.cfi_harden.specs.Room.{HasDataRoom}
pub use Rattle.cfi_gen.specs.Assembly.{addi, auipc, bne, jalr, ld, lui, minus, sd}
pub use Rattle.cfi_gen.specs.Code.{called, function_symbol, high, low, mark, table_symbol}
unfoldable pub use Rattle.cfi_gen.specs.Code.{closing_lines, function_lines, main_lines, opening_lines, program_lines, shape_lines}
pub use Rattle.cfi_gen.specs.Demo.{data_part, data_relocs, demo_parts, parts_with, text_part, text_relocs}
unfoldable pub use Rattle.cfi_gen.specs.Demo.{function_symbols, table_bytes, table_relocs}
pub use Rattle.cfi_gen.specs.Drawing.{are_near, drawn}
unfoldable pub use Rattle.cfi_gen.specs.Drawing.{function_at, functions_from, next, shape_of}
pub use Rattle.cfi_gen.specs.Lines.{Line, code_size, mark_at, marked, plain, word_bytes}
unfoldable pub use Rattle.cfi_gen.specs.Lines.{code_bytes, relocs_from}
pub use Rattle.cfi_gen.specs.declared.function.Function.{Function}
pub use Rattle.cfi_gen.specs.declared.function.Shape.{Shape}
pub use Rattle.cfi_gen.specs.declared.function.Shape.TheVariants.{Call, Leaf, Skip, Table}
pub use Rattle.cfi_gen.specs.declared.mark.Mark.{Mark}
pub use Rattle.gen_hardened.specs.Generated.{IsGenerated, named_of, symbol_definition, symbols_of, table_section, text_section, use_of}
pub use Rattle.gen_hardened.specs.Laws.{DemoIsNeverRefused, IsNeverRefused, entered}
