-- The prologue of a hardened image: the three handlers, the opening, which sets up both stacks of the
-- hart that runs it and calls the entry, and the closing, which exits. In a lean image the opening also brings the
-- mask of stores into x4, and leaves its own site in x1.
use Rattle.std.specs.Prelude.{ℕ, Bool, true, false, ◌-◌, ◌==◌, List, [], ◌∷◌, ◌++◌, if◌then◌else◌}
use Rattle.rv_image.specs.MemoryMap.{START, Profile}
use Rattle.rv_instr.specs.declared.instr.Instr.{Instr}
use Rattle.rv_instr.specs.declared.instr.Instr.TheVariants.{Upper, Immediate, Shift, Register, Ecall, Ebreak}
use Rattle.rv_instr.specs.declared.instr.UpperOp.TheVariants.{Lui}
use Rattle.rv_instr.specs.declared.instr.ImmediateOp.TheVariants.{Addi}
use Rattle.rv_instr.specs.declared.instr.ShiftOp.TheVariants.{Slli}
use Rattle.rv_instr.specs.declared.instr.RegisterOp.TheVariants.{Add, Sub}
use Rattle.cfi_unit.specs.declared.unit.Unit.TheVariants as V
use Rattle.cfi_unit.specs.UnitWords.{instrs_of}

-- the opening stands where a run starts
abbrev pub OPENING : ℕ
OPENING = START

-- each handler
abbrev pub handler_instrs : List Instr
handler_instrs = Ebreak ∷ []

-- x2 is 2 ^ 28, and x3 the first slot of the shadow stack
abbrev pub lone_set_up : List Instr
lone_set_up = Upper Lui 2 0x10000 ∷ Upper Lui 3 0x60000 ∷ Immediate Addi 3 3 8 ∷ []

-- x2 is 2 ^ 28 less 2 ^ 20 for each hart before this one, whose number is in x10, and x3 the first
-- slot of the hart's own part of the shadow stack
abbrev pub own_set_up : List Instr
own_set_up =
    Upper Lui 2 0x10000 ∷ Shift Slli 31 10 20 ∷ Register Sub 2 2 31 ∷ Upper Lui 3 0x60000 ∷ Shift Slli 31 10 16
    ∷ Register Add 3 3 31 ∷ Immediate Addi 3 3 8 ∷ []

abbrev pub set_up : Profile → List Instr
set_up p = if p.harts == 1 then lone_set_up else own_set_up

-- where the opening's call of the entry begins, as a unit
abbrev pub call_at : Profile → ℕ
call_at p = p.opening_call - 28

-- and in lean images, where x4 also gets the mask of stores, and the call is one word
abbrev pub mask_set_up : List Instr
mask_set_up = Upper Lui 4 0x10000 ∷ Immediate Addi 4 4 0xfff ∷ []

abbrev pub lean_lone_set_up : List Instr
lean_lone_set_up = Upper Lui 2 0x10000 ∷ mask_set_up ++ Upper Lui 3 0x60000 ∷ Immediate Addi 3 3 8 ∷ []

abbrev pub lean_own_set_up : List Instr
lean_own_set_up =
    Upper Lui 2 0x10000 ∷ mask_set_up ++ Shift Slli 31 10 20 ∷ Register Sub 2 2 31 ∷ Upper Lui 3 0x60000 ∷ Shift Slli 31 10 16
    ∷ Register Add 3 3 31 ∷ Immediate Addi 3 3 8 ∷ []

abbrev pub lean_set_up : Profile → List Instr
lean_set_up p = if p.harts == 1 then lean_lone_set_up else lean_own_set_up

-- the opening, by who saves the sites of calls
abbrev pub opening_by : Bool → Profile → ℕ → List Instr
opening_by false p entry = set_up p ++ instrs_of (V.Call entry) (call_at p)
opening_by true p entry = lean_set_up p ++ instrs_of (V.LinkCall entry) p.opening_call

abbrev pub opening_instrs : Profile → ℕ → List Instr
opening_instrs p entry = opening_by p.callee_saves p entry

-- system call 93
abbrev pub closing_instrs : List Instr
closing_instrs = Immediate Addi 17 0 93 ∷ Ecall ∷ []

-- all instructions from the code's start on
abbrev pub prologue_instrs : Profile → ℕ → List Instr
prologue_instrs p entry =
    (Ebreak ∷ Ebreak ∷ Ebreak ∷ []) ++ opening_instrs p entry ++ closing_instrs
