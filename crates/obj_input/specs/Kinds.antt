-- The kinds of relocations by their number (RISC-V ELF psABI, "Relocations").
use Rattle.std.specs.Prelude.{ℕ, Bool, true, false, ◌==◌, ◌||◌, if◌then◌else◌}
use Rattle.rv_reloc.specs.declared.kinds.DataPatch.{DataPatch}
use Rattle.rv_reloc.specs.declared.kinds.DataPatch.TheVariants.{Abs32, Abs64, Add8, Add16, Add32, Add64, Sub8, Sub16, Sub32, Sub64}
use Rattle.obj_input.specs.declared.reloc_kind.RelocKind.{RelocKind}
use Rattle.obj_input.specs.declared.reloc_kind.RelocKind.TheVariants.{Nothing, Mark, BranchTarget, JalTarget, PairTarget, RelativeHigh, TableHigh, RelativeLowI, RelativeLowS, High, LowI, LowS, InData, Unknown}

-- those of numbers in data
abbrev pub data_kind : ℕ → RelocKind
data_kind n =
    if n == 1 then InData Abs32 else
    if n == 2 then InData Abs64 else
    if n == 33 then InData Add8 else
    if n == 34 then InData Add16 else
    if n == 35 then InData Add32 else
    if n == 36 then InData Add64 else
    if n == 37 then InData Sub8 else
    if n == 38 then InData Sub16 else
    if n == 39 then InData Sub32 else
    if n == 40 then InData Sub64 else Unknown

unfoldable pub kind_of : ℕ → RelocKind
kind_of n =
    if n == 0 then Nothing else
    if n == 43 || n == 51 then Mark else
    if n == 16 then BranchTarget else
    if n == 17 then JalTarget else
    if n == 18 || n == 19 then PairTarget else
    if n == 20 then TableHigh else
    if n == 23 then RelativeHigh else
    if n == 24 then RelativeLowI else
    if n == 25 then RelativeLowS else
    if n == 26 then High else
    if n == 27 then LowI else
    if n == 28 then LowS else data_kind n

-- a relocation that does nothing
abbrev pub is_idle : RelocKind → Bool
is_idle Nothing = true
is_idle Mark = true
is_idle other = false

abbrev pub is_pair_target : RelocKind → Bool
is_pair_target PairTarget = true
is_pair_target other = false

-- a relocation that names the target of a transfer
abbrev pub is_transfer : RelocKind → Bool
is_transfer BranchTarget = true
is_transfer JalTarget = true
is_transfer PairTarget = true
is_transfer other = false

abbrev pub is_relative_high : RelocKind → Bool
is_relative_high RelativeHigh = true
is_relative_high TableHigh = true
is_relative_high other = false

-- the high part of the distance to a slot of the table of addresses
abbrev pub is_table_high : RelocKind → Bool
is_table_high TableHigh = true
is_table_high other = false

abbrev pub is_relative_low : RelocKind → Bool
is_relative_low RelativeLowI = true
is_relative_low RelativeLowS = true
is_relative_low other = false

abbrev pub takes_whole : DataPatch → Bool
takes_whole Abs32 = true
takes_whole Abs64 = true
takes_whole Add32 = true
takes_whole Add64 = true
takes_whole other = false

-- a relocation that puts an address somewhere, from where a program may jump to it
abbrev pub takes_address : RelocKind → Bool
takes_address (InData patch) = takes_whole patch
takes_address High = true
takes_address RelativeHigh = true
takes_address other = false
