-- Worked rows of the definitions, computed.
use Rattle.std.proofs.Common.{◌≡◌, ℕ, pos, List, [], ◌∷◌, false, length, map, Option, Some, None, true, refl}
use Rattle.std.specs.Prelude.{codes, slice_index_or}
use Rattle.least.specs.First.{first_below}
use Rattle.least.specs.Nearest.{joined}
use Rattle.obj_input.specs.declared.parts.Sort.TheVariants.{Code, Dropped}
use Rattle.obj_input.specs.declared.parts.Definition.{Definition}
use Rattle.obj_input.specs.declared.parts.Definition.TheVariants.{Absolute, Common, Missing, Within, Zero}
use Rattle.obj_input.specs.Kinds.{kind_of}
use Rattle.obj_input.specs.Input.{InputParts}
use Rattle.obj_input.specs.Listed.{listed}
use Rattle.obj_input.specs.Names.{find_spot}
use Rattle.obj_join.specs.declared.standing.Standing.{Standing}
use Rattle.obj_join.specs.declared.standing.Standing.TheVariants.{AsCommon, AsNumber, InSection, IsNone, Nowhere}
use Rattle.obj_join.specs.Said.{Said, SectionSaid, SymbolSaid, UseSaid, said_together}
use Rattle.obj_join.specs.Symbols.{no_symbol}
use Rattle.obj_join.specs.Blocks.{block_of, blocks_below}
use Rattle.obj_join.specs.Stands.{definition}
use Rattle.obj_join.specs.Table.{slots}
use Rattle.obj_join.specs.SaidInput.{input_by, names_by}
use Rattle.obj_join.specs.Definer.{definer, resolved}
use Rattle.obj_join.specs.Found.{is_found}
use Rattle.obj_join.specs.Duplicate.{duplicate}
use Rattle.obj_join.specs.Joined.{among, joined_input, own_input, shared_input}

-- a symbol of 4 bytes by its name, its binding, where it stands, and its value
of : List ℕ → ℕ → Standing → ℕ → SymbolSaid
of name binding standing value = record { name = name; binding = binding; standing = standing; value = value; size = 4; is_function = false }

local : List ℕ → Standing → ℕ → SymbolSaid
local name standing value = of name 0 standing value

global : List ℕ → Standing → ℕ → SymbolSaid
global name standing value = of name 1 standing value

weak : List ℕ → Standing → ℕ → SymbolSaid
weak name standing value = of name 2 standing value

block : ℕ → List ℕ → ℕ → ℕ → SymbolSaid
block binding name size align = record { name = name; binding = binding; standing = AsCommon; value = align; size = size; is_function = false }

f : List ℕ
f = codes "f"

g : List ℕ
g = codes "g"

main : List ℕ
main = codes "main"

use_said : ℕ → ℕ → ℕ → UseSaid
use_said offset number symbol = record { offset = offset; number = number; addend = pos 0; symbol = symbol }

no_section : SectionSaid
no_section = record { sort = Dropped; size = 0; align = 0; content = []; uses = [] }

code : ℕ → List UseSaid → SectionSaid
code size uses = record { sort = Code; size = size; align = 4; content = []; uses = uses }

-- an object with one section, of code, behind the section and the symbol that are none
object : ℕ → List UseSaid → List SymbolSaid → Said
object size uses symbols = record { sections = no_section ∷ code size uses ∷ []; symbols = no_symbol ∷ symbols }

-- an object whose code has no relocation
plain : List SymbolSaid → Said
plain symbols = object 16 [] symbols

-- the definitions of the relocations of a section of an input, and where each stands
used : InputParts → ℕ → List (ℕ × Definition)
used input k =
    map (λ u. (u.offset, u.definition))
    (slice_index_or input.sections k (record { sort = Dropped; size = 0; align = 0; content = []; uses = [] })).uses

-- what each symbol of several objects stands for
stands : List Said → List Definition
stands objects =
    listed (definition (resolved (said_together objects).symbols) (said_together objects).symbols) (length (said_together objects).symbols)

-- `main`, which calls `f` by R_RISCV_CALL_PLT, and an object with `f`
caller : Said
caller = object 28 (use_said 8 19 2 ∷ []) (global main (InSection 1) 0 ∷ global f Nowhere 0 ∷ [])

callee : Said
callee = object 8 [] (global f (InSection 1) 0 ∷ [])

-- a use of a name is one of its definition, in the second object, whose sections are 2 and 3
call_row : (used (joined_input (caller ∷ callee ∷ [])) 1 ≡ (8, Within 3 0) ∷ []) × (length (joined_input (caller ∷ callee ∷ [])).sections ≡ 4)
    × (find_spot (joined_input (caller ∷ callee ∷ [])).names f ≡ Some (3, 0)) × (find_spot (joined_input (caller ∷ callee ∷ [])).names main ≡ Some (1, 0))
    × (duplicate (said_together (caller ∷ callee ∷ [])).symbols ≡ None)
unfolding used caller callee object code no_section use_said global of f main said_together shared_input input_by names_by is_found definition resolved definer duplicate first_below kind_of slots joined
call_row = (refl, refl, refl, refl, refl)

-- a name that two objects define
twice_row : duplicate (said_together (callee ∷ callee ∷ [])).symbols ≡ Some f
unfolding callee object code no_section global of f said_together duplicate first_below
twice_row = refl

-- of `f` in the objects 1 and 2 and `g` in 1 and 3 it is `f`, wherever `g` stands; in one object too; commons and weak definitions make none
duplicate_rows : (duplicate (said_together (plain (global g (InSection 1) 0 ∷ global f (InSection 1) 4 ∷ []) ∷ plain (global f AsNumber 4 ∷ []) ∷ plain (global g AsNumber 4 ∷ []) ∷ [])).symbols ≡ Some f)
    × (duplicate (said_together (plain (global f AsNumber 0 ∷ global f AsNumber 0 ∷ []) ∷ [])).symbols ≡ Some f)
    × (duplicate (said_together (plain (global f AsNumber 0 ∷ []) ∷ plain (block 1 f 4 4 ∷ weak f AsNumber 0 ∷ local f AsNumber 0 ∷ global f Nowhere 0 ∷ []) ∷ [])).symbols ≡ None)
    × (duplicate (said_together (plain (global [] AsNumber 0 ∷ global [] AsNumber 0 ∷ []) ∷ [])).symbols ≡ None)
unfolding plain object code no_section global weak local block of f g said_together duplicate first_below
duplicate_rows = (refl, refl, refl, refl)

-- a global definition counts before a common block, that before a weak definition, wherever each stands; a use of any of them is one of what counts
order_rows : (stands (plain (weak f (InSection 1) 4 ∷ []) ∷ plain (block 1 f 8 8 ∷ []) ∷ plain (global f (InSection 1) 8 ∷ []) ∷ [])
    ≡ Zero ∷ Within 5 8 ∷ Zero ∷ Within 5 8 ∷ Zero ∷ Within 5 8 ∷ [])
    × (stands (plain (weak f (InSection 1) 4 ∷ []) ∷ plain (block 2 f 8 8 ∷ []) ∷ []) ≡ Zero ∷ Common 0 ∷ Zero ∷ Common 0 ∷ [])
    × (stands (plain (weak f Nowhere 4 ∷ weak f (InSection 1) 4 ∷ []) ∷ plain (weak f AsNumber 8 ∷ []) ∷ []) ≡ Zero ∷ Within 1 4 ∷ Within 1 4 ∷ Zero ∷ Within 1 4 ∷ [])
    × (stands (plain (global f Nowhere 4 ∷ []) ∷ plain (weak f AsNumber 8 ∷ []) ∷ []) ≡ Zero ∷ Absolute 8 ∷ Zero ∷ Absolute 8 ∷ [])
unfolding stands plain object code no_section global weak block of f said_together definition resolved definer first_below blocks_below listed joined
order_rows = (refl, refl, refl, refl)

-- number 0 of an object is none, whatever it says; local symbols, other bindings and empty names stand for themselves
private_rows : (stands (record { sections = []; symbols = global f IsNone 4 ∷ global f Nowhere 0 ∷ [] } ∷ []) ≡ Zero ∷ Missing 1 ∷ [])
    × (stands (plain (local f (InSection 1) 4 ∷ of f 10 (InSection 1) 8 ∷ global f AsNumber 1 ∷ []) ∷ []) ≡ Zero ∷ Within 1 4 ∷ Within 1 8 ∷ Absolute 1 ∷ [])
    × (stands (plain (global [] (InSection 1) 4 ∷ global [] Nowhere 0 ∷ []) ∷ []) ≡ Zero ∷ Within 1 4 ∷ Missing 2 ∷ [])
unfolding stands plain object code no_section global local of f said_together definition resolved definer first_below blocks_below listed joined
private_rows = (refl, refl, refl)

-- what is undefined is told by its own number, and that by its object's; objects count from 0
missing_rows : (stands (caller ∷ plain (weak g Nowhere 0 ∷ global f Nowhere 0 ∷ []) ∷ [])
    ≡ Zero ∷ Within 1 0 ∷ Missing 2 ∷ Zero ∷ Missing 4 ∷ Missing 5 ∷ [])
    × (among (caller ∷ plain (weak g Nowhere 0 ∷ global f Nowhere 0 ∷ []) ∷ []) 2 ≡ (0, 2))
    × (among (caller ∷ plain (weak g Nowhere 0 ∷ global f Nowhere 0 ∷ []) ∷ []) 5 ≡ (1, 2))
    × (among (record { sections = []; symbols = [] } ∷ caller ∷ callee ∷ []) 4 ≡ (2, 1))
unfolding stands caller callee plain object code no_section use_said global weak of f g main said_together definition resolved definer first_below blocks_below listed joined among
missing_rows = (refl, refl, refl, refl)

-- commons of a name are one block at the place of the first, each greatest by itself, also of weak binding; those of local binding and of empty
-- names have their own; one that gives way has none
blocks : List Said → List (ℕ × ℕ)
blocks objects = map (λ b. (b.size, b.align)) (joined_input objects).blocks

block_rows : (blocks (plain (block 1 f 4 16 ∷ block 1 g 1 0 ∷ []) ∷ plain (block 2 f 12 8 ∷ []) ∷ []) ≡ (12, 16) ∷ (1, 0) ∷ [])
    × (blocks (plain (block 0 f 4 16 ∷ block 0 f 12 8 ∷ block 1 [] 1 1 ∷ block 1 [] 2 2 ∷ []) ∷ []) ≡ (4, 16) ∷ (12, 8) ∷ (1, 1) ∷ (2, 2) ∷ [])
    × (blocks (plain (block 1 f 4 16 ∷ block 1 g 1 1 ∷ []) ∷ plain (global f AsNumber 7 ∷ []) ∷ []) ≡ (1, 1) ∷ [])
    × (stands (plain (block 1 f 4 16 ∷ block 1 g 1 1 ∷ []) ∷ plain (block 0 f 2 2 ∷ block 1 g 2 2 ∷ []) ∷ []) ≡ Zero ∷ Common 0 ∷ Common 1 ∷ Zero ∷ Common 2 ∷ Common 1 ∷ [])
unfolding blocks stands plain object code no_section global block of f g said_together shared_input input_by definition resolved definer first_below blocks_below block_of listed joined
block_rows = (refl, refl, refl, refl)

-- a name finds its definition though a local symbol of it comes before; where it has none the first symbol of it that is its object's own,
-- whether defined or not; a number is found and is no place
spot : List Said → List ℕ → Option (ℕ × ℕ)
spot objects name = find_spot (joined_input objects).names name

name_rows : (spot (plain (local f (InSection 1) 4 ∷ []) ∷ plain (weak f (InSection 1) 8 ∷ []) ∷ []) f ≡ Some (3, 8))
    × (spot (plain (global f Nowhere 0 ∷ []) ∷ plain (local f (InSection 1) 4 ∷ of f 10 (InSection 1) 8 ∷ []) ∷ []) f ≡ Some (3, 4))
    × (spot (plain (local f Nowhere 0 ∷ []) ∷ plain (local f (InSection 1) 4 ∷ []) ∷ []) f ≡ None)
    × (spot (plain (local f (InSection 1) 4 ∷ []) ∷ plain (global f AsNumber 4 ∷ []) ∷ []) f ≡ None)
    × (spot (plain (local f (InSection 1) 4 ∷ []) ∷ plain (block 1 f 4 4 ∷ []) ∷ []) f ≡ None)
    × (spot (plain (global f Nowhere 4 ∷ []) ∷ []) f ≡ None)
unfolding spot plain object code no_section global weak local block of f said_together shared_input input_by names_by is_found definition resolved definer first_below blocks_below joined
name_rows = (refl, refl, refl, refl, refl, refl)

-- functions stay all, those of weak definitions that gave way too
function : SymbolSaid → SymbolSaid
function s = record s { is_function = true }

spans : InputParts → List (ℕ × ℕ × ℕ)
spans input = map (λ x. (x.section, x.offset, x.size)) input.funcs

function_row : spans (joined_input (plain (function (weak f (InSection 1) 4) ∷ []) ∷ plain (function (global f (InSection 1) 8) ∷ []) ∷ []))
    ≡ (1, 4, 4) ∷ (3, 8, 4) ∷ []
unfolding function spans plain object code no_section global weak of f said_together shared_input input_by joined
function_row = refl

-- `main` takes the address of `f` from the table by R_RISCV_GOT_HI20 and R_RISCV_PCREL_LO12_I, and jumps there
jumper : Said
jumper = object 20 (use_said 0 20 3 ∷ use_said 4 24 2 ∷ [])
    (global main (InSection 1) 0 ∷ local (codes "high") (InSection 1) 0 ∷ global f (InSection 1) 12 ∷ [])

extents : InputParts → List (ℕ × ℕ)
extents input = map (λ s. (s.size, s.align)) input.sections

table_row : (used (joined_input (jumper ∷ [])) 1 ≡ (0, Within 2 0) ∷ (4, Within 1 0) ∷ []) × (used (joined_input (jumper ∷ [])) 2 ≡ (0, Within 1 12) ∷ [])
    × (extents (joined_input (jumper ∷ [])) ≡ (0, 0) ∷ (20, 4) ∷ (8, 8) ∷ [])
    × (joined_input (jumper ∷ []) ≡ own_input jumper)
unfolding used extents jumper object code no_section use_said global local of f main said_together shared_input own_input input_by names_by is_found definition resolved definer first_below kind_of slots joined listed blocks_below
table_row = (refl, refl, refl, refl)

-- what the slots of the table hold
held : List Said → List Definition
held objects = map (λ n. definition (λ m. m) (said_together objects).symbols n) (slots (resolved (said_together objects).symbols) (said_together objects).sections)

-- slots by section and offset whatever the order of the table of relocations; two names of one place have two; uses of one name from two objects
-- have one; number 0 has one for all objects; data and other kinds have none
slot_rows : (held (object 16 (use_said 8 20 1 ∷ use_said 0 20 2 ∷ use_said 4 20 1 ∷ []) (global f (InSection 1) 4 ∷ global g (InSection 1) 4 ∷ []) ∷ []) ≡ Within 1 4 ∷ Within 1 4 ∷ [])
    × (slots (resolved (said_together (object 16 (use_said 8 20 1 ∷ use_said 0 20 2 ∷ use_said 4 20 1 ∷ []) (global f (InSection 1) 4 ∷ global g (InSection 1) 4 ∷ []) ∷ [])).symbols)
    (said_together (object 16 (use_said 8 20 1 ∷ use_said 0 20 2 ∷ use_said 4 20 1 ∷ []) (global f (InSection 1) 4 ∷ global g (InSection 1) 4 ∷ []) ∷ [])).sections ≡ 2 ∷ 1 ∷ [])
    × (held (object 16 (use_said 0 20 0 ∷ use_said 4 20 1 ∷ []) (global f Nowhere 0 ∷ []) ∷ object 16 (use_said 0 20 1 ∷ use_said 4 20 0 ∷ use_said 8 20 2 ∷ []) (global f AsNumber 7 ∷ block 1 g 4 4 ∷ []) ∷ [])
    ≡ Zero ∷ Absolute 7 ∷ Common 0 ∷ [])
    × (held (object 8 (use_said 8 20 1 ∷ use_said 2 20 1 ∷ use_said 0 23 1 ∷ []) (global f (InSection 1) 4 ∷ []) ∷ []) ≡ [])
unfolding held object code no_section use_said global block of f g said_together definition resolved definer first_below kind_of slots joined blocks_below
slot_rows = (refl, refl, refl, refl)
