-- The definitions that proofs of this crate cite, which they import from here.
unfoldable pub use Rattle.least.specs.Nearest.{joined}
pub use Rattle.elf_tables.specs.Header.{e_shentsize, e_shnum, e_shoff, e_shstrndx}
pub use Rattle.elf_tables.specs.Kept.{is_executable}
unfoldable pub use Rattle.elf_tables.specs.Kept.{is_kept}
pub use Rattle.elf_tables.specs.Relocation.{relocation_bytes, relocation_count}
unfoldable pub use Rattle.elf_tables.specs.Relocation.{relocation_in}
pub use Rattle.elf_tables.specs.Section.{is_in_file, section_header}
unfoldable pub use Rattle.elf_tables.specs.Section.{content}
pub use Rattle.elf_tables.specs.Symbol.{symbol_count, symbol_name}
unfoldable pub use Rattle.elf_tables.specs.Symbol.{symbol_names}
pub use Rattle.elf_tables.specs.declared.entry.Reloc.{Reloc}
pub use Rattle.elf_tables.specs.declared.header.SectionHeader.{SectionHeader}
unfoldable pub use Rattle.elf_object.specs.Fault.{fault_of}
pub use Rattle.elf_object.specs.Laws.{IsRightKept}
pub use Rattle.elf_object.specs.Table.{has_wrong_header, is_string_table}
unfoldable pub use Rattle.elf_names.specs.Marks.{spelled}
pub use Rattle.elf_names.specs.Numbers.{AreApart, AreNumbers}
pub use Rattle.obj_input.specs.Input.{Named, SectionParts, has_bytes}
unfoldable pub use Rattle.obj_input.specs.Listed.{listed}
pub use Rattle.obj_input.specs.declared.parts.Block.{Block}
pub use Rattle.obj_input.specs.declared.parts.Definition.{Definition}
pub use Rattle.obj_input.specs.declared.parts.Func.{Func}
unfoldable pub use Rattle.obj_join.specs.Blocks.{block_of, blocks_below}
pub use Rattle.obj_join.specs.Definer.{own}
unfoldable pub use Rattle.obj_join.specs.Definer.{resolved}
unfoldable pub use Rattle.obj_join.specs.Found.{is_found}
unfoldable pub use Rattle.obj_join.specs.Joined.{own_input, shared_input}
pub use Rattle.obj_join.specs.Numbers.{by}
pub use Rattle.obj_join.specs.Said.{Said, SectionSaid, SymbolSaid, UseSaid, nothing_said, section_behind, symbol_behind, use_behind, with_object}
unfoldable pub use Rattle.obj_join.specs.Said.{said_together}
pub use Rattle.obj_join.specs.SaidInput.{func_of, section_of, use_of}
unfoldable pub use Rattle.obj_join.specs.SaidInput.{input_by, names_by}
unfoldable pub use Rattle.obj_join.specs.Stands.{definition}
pub use Rattle.obj_join.specs.Symbols.{names_of}
pub use Rattle.obj_join.specs.Table.{is_table_use, table_of, table_symbols_at, table_symbols_of, with_symbol}
unfoldable pub use Rattle.obj_join.specs.Table.{slots}
pub use Rattle.obj_join.specs.Uses.{symbols_at, table_use, table_uses}
pub use Rattle.obj_join.specs.declared.table.TableUse.{TableUse}
pub use Rattle.obj_link.specs.Names.{start_in}
pub use Rattle.obj_link.specs.Resolution.{ResolutionParts}
unfoldable pub use Rattle.obj_link.specs.SaidOf.{said_by, said_of}
pub use Rattle.obj_link.specs.Sections.{kept_sort, section_said_in, sections_said, sort_of, use_said, use_said_at}
pub use Rattle.obj_link.specs.Symbols.{symbol_said_in, symbols_said}
