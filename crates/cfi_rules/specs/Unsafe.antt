-- Small pairs with one fault each, which are not safe: so safety is not said of everything.
use Rattle.std.specs.Prelude.{ℕ, ◌+◌, ◌/◌, ◌%◌, ◌^◌, List, [], ◌∷◌, ◌++◌, length, map, take, drop}
use Rattle.rv_image.specs.declared.version.GraphVersion.TheVariants.{OneLabel, CalleeSaves}
use Rattle.rv_image.specs.declared.version.ImageVersion.TheVariants.{OneHart, EightHarts}
use Rattle.rv_image.specs.MemoryMap.{START, UNITS_START, lean_version_1, version_1, version_2}
use Rattle.rv_image.specs.Image.{Contents}
use Rattle.rv_instr.specs.declared.instr.Instr.TheVariants.{Immediate}
use Rattle.rv_instr.specs.declared.instr.ImmediateOp.TheVariants.{Addi}
use Rattle.rv_code.specs.Encode.{code_of}
use Rattle.cfi_graph.specs.Graph.{GraphParts}
use Rattle.cfi_graph.specs.declared.line.GraphLine.{GraphLine}
use Rattle.cfi_graph.specs.declared.line.Sort.TheVariants as sorts
use Rattle.cfi_graph.specs.declared.line.GraphLine.TheVariants.{Leaf, Class, Site, Edge, Call}
use Rattle.cfi_graph.specs.declared.line.SiteKind.TheVariants as K
use Rattle.cfi_unit.specs.declared.unit.Unit as U
use Rattle.cfi_unit.specs.declared.unit.Unit.TheVariants as V
use Rattle.cfi_unit.specs.declared.target_word.TargetWord.TheVariants.{First}
use Rattle.cfi_unit.specs.Prologue.{prologue_instrs}
use Rattle.cfi_unit.specs.UnitWords.{after_unit, words_of}
use Rattle.cfi_rules.specs.Along.{IsSafe}
use Rattle.cfi_rules.specs.Listed.{IsListed}

-- the bytes of words, the lowest first
abbrev pub bytes_of : List ℕ → List ℕ
bytes_of [] = []
bytes_of (w ∷ ws) = (w % 2 ^ 8) ∷ (w / 2 ^ 8 % 2 ^ 8) ∷ (w / 2 ^ 16 % 2 ^ 8) ∷ (w / 2 ^ 24) ∷ bytes_of ws

-- the prologue's words; its call goes to the first unit
abbrev pub prologue : List ℕ
prologue = map code_of (prologue_instrs version_1 UNITS_START)

-- the prologue and words after it
abbrev pub image_with : List ℕ → Contents
image_with words = record { version = OneHart; init = []; code = bytes_of (prologue ++ words) }

-- classes, the opening's call, and other lines
abbrev pub graph_of : ℕ → List GraphLine → List GraphLine → GraphParts
graph_of len classes lines = record { version = OneLabel; code = len; lines = classes ++ (Call START UNITS_START ∷ lines) }

abbrev pub graph_with : ℕ → List GraphLine → GraphParts
graph_with len lines = graph_of len [] lines

-- a jump into the middle of a store unit
abbrev pub middle : Contents
middle = image_with (0x0080006f ∷ 0x00810f93 ∷ 0x024f9f93 ∷ 0x024fdf93 ∷ 0x001fb023 ∷ 0xfadff06f ∷ [])

abbrev pub middle_graph : GraphParts
middle_graph = graph_with 0x58 (Edge UNITS_START 0x40000048 ∷ [])

abbrev pub MiddleIsUnsafe : Type 0
MiddleIsUnsafe = IsSafe version_1 middle middle_graph → ⊥

-- a return through x1 without its check
abbrev pub bare_return : Contents
bare_return = image_with (0x00008067 ∷ 0xfbdff06f ∷ [])

abbrev pub bare_return_graph : GraphParts
bare_return_graph = graph_with 0x48 []

abbrev pub BareReturnIsUnsafe : Type 0
BareReturnIsUnsafe = IsSafe version_1 bare_return bare_return_graph → ⊥

-- a store without its mask
abbrev pub bare_store : Contents
bare_store = image_with (0x0052b023 ∷ 0xfbdff06f ∷ [])

abbrev pub bare_store_graph : GraphParts
bare_store_graph = graph_with 0x48 []

abbrev pub BareStoreIsUnsafe : Type 0
BareStoreIsUnsafe = IsSafe version_1 bare_store bare_store_graph → ⊥

-- a plain instruction that writes x3
abbrev pub moved_pointer : Contents
moved_pointer = image_with (0x00000193 ∷ 0xfbdff06f ∷ [])

abbrev pub moved_pointer_graph : GraphParts
moved_pointer_graph = graph_with 0x48 []

abbrev pub MovedPointerIsUnsafe : Type 0
MovedPointerIsUnsafe = IsSafe version_1 moved_pointer moved_pointer_graph → ⊥

-- another word in place of the break of the handler of bad targets; the code is one instruction and a
-- jump there
abbrev pub handler_with : ℕ → ℕ → Contents
handler_with word first = record { version = OneHart; init = []; code = bytes_of (word ∷ drop 1 prologue ++ first ∷ 0xfbdff06f ∷ []) }

abbrev pub handler_graph : GraphParts
handler_graph = graph_with 0x48 []

-- an exit there, with 93 in x17
abbrev pub exiting_handler : Contents
exiting_handler = handler_with 0x00000073 0x05d00893

-- a load there from 20000000h, which is no memory
abbrev pub loading_handler : Contents
loading_handler = handler_with 0x0002b503 0x200002b7

-- a store there through x1, into code
abbrev pub storing_handler : Contents
storing_handler = handler_with 0x0000b023 0x00000013

-- a word there that is no instruction
abbrev pub illegal_handler : Contents
illegal_handler = handler_with 0x00000000 0x00000013

-- a break in place of the closing's system call; the code is a return to the closing
abbrev pub breaking_closing : Contents
breaking_closing = record {
  version = OneHart;
  init = [];
  code = bytes_of (take 15 prologue ++ 0x00100073 ∷ 0xff81bf83 ∷ 0xff818193 ∷ 0x001f8463 ∷ 0xfb9ff06f ∷ 0x000f8067 ∷ 0xfadff06f ∷ []);
}

abbrev pub breaking_closing_graph : GraphParts
breaking_closing_graph = graph_with 0x58 []

-- each stop where it may not come
pub record WrongStopsAreUnsafe : Type 0 where
  pub exit : IsSafe version_1 exiting_handler handler_graph → ⊥
  pub load_fault : IsSafe version_1 loading_handler handler_graph → ⊥
  pub store_fault : IsSafe version_1 storing_handler handler_graph → ⊥
  pub illegal : IsSafe version_1 illegal_handler handler_graph → ⊥
  pub break : IsSafe version_1 breaking_closing breaking_closing_graph → ⊥

-- the words of units, each after the one before
abbrev pub code_from : ℕ → List U.Unit → List ℕ
code_from at [] = []
code_from at (unit ∷ units) = words_of unit at ++ code_from (after_unit unit at) units

-- a computed call of x1 + 88, a gate with the label of its class that is no target of it
abbrev pub astray_call : Contents
astray_call = image_with (code_from UNITS_START (V.Icall 1 88 1 ∷ V.Gate 1 ∷ V.Gate 1 ∷ V.Stop ∷ []))

abbrev pub astray_call_graph : GraphParts
astray_call_graph = graph_of 0x9c (Class sorts.Both 1 (0x40000094 ∷ []) ∷ []) (Site UNITS_START K.Call 1 ∷ [])

-- a computed jump to x1 + 60, a target of its class that has no gate, so that the check halts there
abbrev pub halted_jump : Contents
halted_jump = image_with (code_from UNITS_START (V.Ijump First 1 60 1 ∷ V.Stop ∷ []))

abbrev pub halted_jump_graph : GraphParts
halted_jump_graph = graph_of 0x78 (Class sorts.Both 1 (0x40000074 ∷ []) ∷ []) (Site UNITS_START K.Jump 1 ∷ [])

-- a computed transfer that goes where the walk does not, or does not go where its registers say
pub record WrongTransfersAreUnsafe : Type 0 where
  pub astray : IsSafe version_1 astray_call astray_call_graph → ⊥
  pub halted : IsSafe version_1 halted_jump halted_jump_graph → ⊥

-- another word in place of one of the opening's; the code is a jump to a handler
abbrev pub opening_with : ℕ → ℕ → Contents
opening_with k word = record { version = OneHart; init = []; code = bytes_of (take k prologue ++ word ∷ drop (k + 1) prologue ++ 0xfc1ff06f ∷ []) }

abbrev pub opening_graph : GraphParts
opening_graph = graph_with 0x44 []

-- x3 is sixteen bytes from the part's start before the call, so that it ends one slot too high
abbrev pub high_pointer : Contents
high_pointer = opening_with 5 0x01018193

-- zero is stored in place of the site
abbrev pub lost_site : Contents
lost_site = opening_with 11 0x0001b023

-- an opening that leaves the shadow stack otherwise than the walk's pending sites stand
pub record WrongShadowsAreUnsafe : Type 0 where
  pub pointer : IsSafe version_1 high_pointer opening_graph → ⊥
  pub slot : IsSafe version_1 lost_site opening_graph → ⊥

-- the prologue for several harts; its call goes to the first unit
abbrev pub prologue_of_harts : List ℕ
prologue_of_harts = map code_of (prologue_instrs version_2 version_2.units_from)

-- other words in place of some of the opening's for several harts; the code is a jump to a handler
abbrev pub opening_of_harts_with : ℕ → List ℕ → Contents
opening_of_harts_with k words = record {
  version = EightHarts;
  init = [];
  code = bytes_of (take k prologue_of_harts ++ words ++ drop (k + length words) prologue_of_harts ++ 0xfb1ff06f ∷ []);
}

-- an opening that does not add a hart's own offset to x3, so that each hart's x3 is as hart 0's should be
abbrev pub one_pointer : Contents
one_pointer = opening_of_harts_with 8 (0x00000013 ∷ [])

abbrev pub one_pointer_graph : GraphParts
one_pointer_graph = record { version = OneLabel; code = 0x54; lines = Call START version_2.units_from ∷ [] }

-- an opening that sets up hart 0 alone: a run of hart 1 shows it
abbrev pub SharedPartsAreUnsafe : Type 0
SharedPartsAreUnsafe = IsSafe version_2 one_pointer one_pointer_graph → ⊥

-- an opening that stores into the part of hart 4, and not only into its own, in place of its test of depth
abbrev pub storing_opening : Contents
storing_opening = opening_of_harts_with 10 (0x60040f37 ∷ 0x7fef3823 ∷ 0x00000013 ∷ [])

-- an opening that makes a system call; hart 0 comes all the same to the code as it should
abbrev pub calling_opening : Contents
calling_opening = opening_of_harts_with 8 (0x00000073 ∷ [])

-- an instruction that writes what it may not, and one that makes a system call where none may be made
pub record WrongDeedsAreUnsafe : Type 0 where
  pub write : IsSafe version_2 storing_opening one_pointer_graph → ⊥
  pub call : IsSafe version_2 calling_opening one_pointer_graph → ⊥

-- the prologue of a lean image; its call goes to the first unit
abbrev pub lean_prologue : List ℕ
lean_prologue = map code_of (prologue_instrs lean_version_1 lean_version_1.units_from)

-- that prologue and words after it
abbrev pub lean_with : List ℕ → Contents
lean_with words = record { version = OneHart; init = []; code = bytes_of (lean_prologue ++ words) }

-- another word in place of one of the opening's; the code is a jump to a handler
abbrev pub lean_opening_with : ℕ → ℕ → Contents
lean_opening_with k word = record { version = OneHart; init = []; code = bytes_of (take k lean_prologue ++ word ∷ drop (k + 1) lean_prologue ++ 0xfd5ff06f ∷ []) }

-- leaves, the opening's call, and other lines
abbrev pub lean_graph_with : ℕ → List GraphLine → List GraphLine → GraphParts
lean_graph_with len leaves lines = record { version = CalleeSaves; code = len; lines = leaves ++ (Call START lean_version_1.units_from ∷ lines) }

-- the jump is a leaf
abbrev pub lean_opening_graph : GraphParts
lean_opening_graph = lean_graph_with 0x30 (Leaf lean_version_1.units_from 0x40000030 ∷ []) []

-- x4 stays 2^28 in the opening: one is not taken off
abbrev pub unmade_mask : Contents
unmade_mask = lean_opening_with 5 0x00000013

-- the opening's call leaves its site in x5
abbrev pub lost_link : Contents
lost_link = lean_opening_with 8 0x00c002ef

-- what the opening calls saves nothing, and is no leaf
abbrev pub unsaved_site : Contents
unsaved_site = lean_with (code_from lean_version_1.units_from (V.Stop ∷ []))

abbrev pub unsaved_site_graph : GraphParts
unsaved_site_graph = lean_graph_with 0x30 [] []

-- an enter in a leaf
abbrev pub saving_leaf : Contents
saving_leaf = lean_with (code_from lean_version_1.units_from (V.Enter ∷ V.Stop ∷ []))

abbrev pub saving_leaf_graph : GraphParts
saving_leaf_graph = lean_graph_with 0x44 (Leaf lean_version_1.units_from 0x40000044 ∷ []) []

-- a leaf that calls itself, by a call that saves its own site
abbrev pub calling_leaf : Contents
calling_leaf = lean_with (code_from lean_version_1.units_from (V.Call lean_version_1.units_from ∷ V.Stop ∷ []))

abbrev pub calling_leaf_graph : GraphParts
calling_leaf_graph = lean_graph_with 0x50 (Leaf lean_version_1.units_from 0x40000050 ∷ []) (Call lean_version_1.units_from lean_version_1.units_from ∷ [])

-- a leaf return in no leaf, behind an instruction that takes 32 off x1, so that the run goes to a handler
abbrev pub changed_link : Contents
changed_link = lean_with (code_from lean_version_1.units_from (V.Enter ∷ V.Plain (Immediate Addi 1 1 0xfe0) ∷ V.LeafReturn ∷ []))

abbrev pub changed_link_graph : GraphParts
changed_link_graph = lean_graph_with 0x48 [] []

-- lean pairs, and where the run of each shows that it is not safe
pub record WrongLeanPairsAreUnsafe : Type 0 where
  -- at the first unit x4 is not the mask of stores
  pub mask : IsSafe lean_version_1 unmade_mask lean_opening_graph → ⊥
  -- at the first unit, a fresh start, x1 is not the newest site
  pub link : IsSafe lean_version_1 lost_link lean_opening_graph → ⊥
  -- at the first unit, a saved start, x3 does not point past a slot of the newest site
  pub unsaved : IsSafe lean_version_1 unsaved_site unsaved_site_graph → ⊥
  -- behind the enter, still a fresh start, x3 points past a slot of the newest site
  pub pointer : IsSafe lean_version_1 saving_leaf saving_leaf_graph → ⊥
  -- at the leaf's second start the slot of the opening's site holds the leaf's own
  pub slot : IsSafe lean_version_1 calling_leaf calling_leaf_graph → ⊥
  -- the run goes where the walk does not
  pub leaf : IsSafe lean_version_1 changed_link changed_link_graph → ⊥

-- a bare system call behind an instruction that brings its number into x17
abbrev pub calling : ℕ → Contents
calling number_word = image_with (number_word ∷ 0x00000073 ∷ 0xfb9ff06f ∷ [])

-- with 64, and with 93, which is an exit: only the closing may exit with it where it is not listed
abbrev pub bare_call : Contents
bare_call = calling 0x04000893

abbrev pub bare_exit : Contents
bare_exit = calling 0x05d00893

-- a bare system call that hart 0 passes by
abbrev pub second_call : Contents
second_call = record { version = EightHarts; init = []; code = bytes_of (prologue_of_harts ++ 0x00050463 ∷ 0x00000073 ∷ 0xfa9ff06f ∷ []) }

-- a closing that calls with 64; the code is a return to it
abbrev pub other_closing : Contents
other_closing = record {
  version = OneHart;
  init = [];
  code = bytes_of (take 14 prologue ++ 0x04000893 ∷ 0x00000073 ∷ 0xff81bf83 ∷ 0xff818193 ∷ 0x001f8463 ∷ 0xfb9ff06f ∷ 0x000f8067 ∷ 0xfadff06f ∷ []);
}

pub record BareCallIsNotListed : Type 0 where
  pub call : IsListed version_1 bare_call (63 ∷ []) → ⊥
  pub exit : IsListed version_1 bare_exit (63 ∷ []) → ⊥
  pub second : IsListed version_2 second_call (63 ∷ []) → ⊥
  pub closing : IsListed version_1 other_closing (63 ∷ []) → ⊥
