-- The kinds of instructions, by what is done for each.
use Rattle.std.specs.Prelude.{ℕ, ◌+◌, ◌*◌, Bool, not, ◌==◌, ◌&&◌, if◌then◌else◌, Option, Some, None, length}
use Rattle.rv_instr.specs.declared.instr.Instr.{Instr}
use Rattle.rv_instr.specs.declared.instr.Instr.TheVariants.{Upper, Jal, Jalr, Branch, Store, Ecall, Ebreak}
use Rattle.rv_instr.specs.declared.instr.UpperOp.{UpperOp}
use Rattle.rv_instr.specs.declared.instr.UpperOp.TheVariants.{Lui, Auipc}
use Rattle.obj_input.specs.Input.{SectionParts, acting_at}
use Rattle.obj_input.specs.Code.{instr, is_pair}
use Rattle.obj_input.specs.declared.item_kind.ItemKind.{ItemKind}
use Rattle.obj_input.specs.declared.item_kind.ItemKind.TheVariants as is

-- what links to x0 jumps, and what links to x1 calls
abbrev pub by_link : ℕ → Option ItemKind
by_link link = if link == 0 then Some is.Jump else if link == 1 then Some is.Call else None

-- a JALR by itself; `plain` tells that no relocation stands there
abbrev pub computed_kind : Bool → ℕ → ℕ → ℕ → Option ItemKind
computed_kind plain link base imm =
    if link == 1 then Some is.Icall else
    if not (link == 0) then None else
    if not (base == 1) then Some is.Ijump else
    if imm == 0 && plain then Some is.Return else None

-- the link register of a pair is its JALR's
abbrev pub pair_kind : Option Instr → Option ItemKind
pair_kind (Some (Jalr link base imm)) = by_link link
pair_kind other = None

-- a LUI of x0 does nothing, but its number may be taken for a label
abbrev pub upper_kind : UpperOp → ℕ → ItemKind
upper_kind Lui rd = if rd == 0 then is.Gate else is.Plain
upper_kind Auipc rd = is.Plain

abbrev pub single_kind : Bool → Instr → Option ItemKind
single_kind plain (Upper op rd imm) = Some (upper_kind op rd)
single_kind plain (Jal link imm) = by_link link
single_kind plain (Jalr link base imm) = computed_kind plain link base imm
single_kind plain (Branch op a b imm) = Some is.Branch
single_kind plain (Store op base value imm) = Some is.Store
single_kind plain Ecall = Some is.System
single_kind plain Ebreak = Some is.System
single_kind plain other = Some is.Plain

abbrev pub word_kind : Bool → Option Instr → Option ItemKind
word_kind plain (Some i) = single_kind plain i
word_kind plain None = None

-- the kind of the instruction that starts at a word, if it has one
unfoldable pub kind_at : SectionParts → ℕ → Option ItemKind
kind_at section i =
    if is_pair section i then pair_kind (instr section (i + 1)) else
    word_kind (length (acting_at section (4 * i)) == 0) (instr section i)
