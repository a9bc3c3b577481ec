-- Small pairs with one fault each, which are not confined: so it is not said of everything.
use Rattle.std.specs.Prelude.{ℕ, List, [], ◌∷◌, ◌++◌, map}
use Rattle.rv_image.specs.Image.{Contents}
use Rattle.rv_image.specs.declared.version.GraphVersion.TheVariants.{OneLabel, CalleeSaves}
use Rattle.rv_image.specs.declared.version.ImageVersion.TheVariants.{OneHart}
use Rattle.rv_image.specs.MemoryMap.{START, lean_version_1, version_1, version_2}
use Rattle.rv_code.specs.Encode.{code_of}
use Rattle.cfi_graph.specs.Graph.{GraphParts}
use Rattle.cfi_graph.specs.declared.line.GraphLine.{GraphLine}
use Rattle.cfi_graph.specs.declared.line.Sort.TheVariants as sorts
use Rattle.cfi_graph.specs.declared.line.GraphLine.TheVariants.{Call, Class, Edge, Site}
use Rattle.cfi_graph.specs.declared.line.SiteKind.TheVariants as K
use Rattle.cfi_unit.specs.Prologue.{prologue_instrs}
use Rattle.cfi_rules.specs.Unsafe.{astray_call, astray_call_graph, breaking_closing, breaking_closing_graph, bytes_of, calling_opening, graph_of, graph_with, handler_graph, handler_with, high_pointer, illegal_handler, image_with, lean_opening_graph, lean_opening_with, loading_handler, one_pointer_graph, opening_graph, storing_handler, storing_opening}
use Rattle.cfi_confined.specs.Confined.{IsConfined}

-- a jump to the stop that follows it, whose graph has no edge
abbrev pub unlisted_jump : Contents
unlisted_jump = image_with (0x0040006f ∷ 0xfbdff06f ∷ [])

abbrev pub unlisted_jump_graph : GraphParts
unlisted_jump_graph = graph_with 0x48 []

-- a branch over two words, whose graph has no edge either
abbrev pub long_branch : Contents
long_branch = image_with (0x00000663 ∷ 0x00000013 ∷ 0x00000013 ∷ 0xfb5ff06f ∷ [])

abbrev pub long_branch_graph : GraphParts
long_branch_graph = graph_with 0x50 []

-- a stop alone, whose graph has no line for the opening's call
abbrev pub unlisted_entry : Contents
unlisted_entry = image_with (0xfc1ff06f ∷ [])

abbrev pub unlisted_entry_graph : GraphParts
unlisted_entry_graph = record { version = OneLabel; code = 0x44; lines = [] }

-- a call of the third word; from there a computed jump, which has a site line, to the second word, where that
-- call would return to; and from there a return to the closing, though that call is still pending
abbrev pub early_return : Contents
early_return = image_with (0x008000ef ∷ 0xff408067 ∷ 0x00008067 ∷ [])

abbrev pub early_return_graph : GraphParts
early_return_graph = graph_of 0x4c (Class sorts.Both 1 (0x40000044 ∷ []) ∷ []) (Site 0x40000018 K.Jump 1 ∷ Call 0x40000024 0x40000048 ∷ [])

-- a handler that runs on
abbrev pub running_handler : Contents
running_handler = handler_with 0x00000013 0x00000013

-- a branch over two words, which is not taken, and then a jump along its edge
abbrev pub borrowed_edge : Contents
borrowed_edge = image_with (0x00001663 ∷ 0x0080006f ∷ 0xfb9ff06f ∷ 0xfb5ff06f ∷ [])

abbrev pub borrowed_edge_graph : GraphParts
borrowed_edge_graph = graph_with 0x50 (Edge 0x40000040 0x4000004c ∷ [])

-- where callees save sites: the prologue, whose call goes to the first unit, and words after it; and the call's line, and others
abbrev pub lean_image_with : List ℕ → Contents
lean_image_with words = record { version = OneHart; init = []; code = bytes_of (map code_of (prologue_instrs lean_version_1 lean_version_1.units_from) ++ words) }

abbrev pub lean_graph_with : ℕ → List GraphLine → List GraphLine → GraphParts
lean_graph_with len classes lines = record { version = CalleeSaves; code = len; lines = classes ++ (Call START lean_version_1.units_from ∷ lines) }

-- an opening that stores x4 to the first slot before it calls, and leaves x3 at the part's start
abbrev pub saved_early : Contents
saved_early = lean_opening_with 7 0x0041b423

-- a store of x3 to the slot of the newest site
abbrev pub saved_pointer : Contents
saved_pointer = lean_image_with (0x0031b023 ∷ [])

-- a store of the newest site to the slot after its own
abbrev pub saved_high : Contents
saved_high = lean_image_with (0x0011b423 ∷ [])

-- a return through x1, once that is four past the newest site
abbrev pub moved_link : Contents
moved_link = lean_image_with (0x00408093 ∷ 0x00008067 ∷ [])

abbrev pub lean_graph : ℕ → GraphParts
lean_graph len = lean_graph_with len [] []

-- a computed call that goes to the target of its class, and not past the gate there
abbrev pub short_call : Contents
short_call = lean_image_with (0x00000297 ∷ 0x00c280e7 ∷ [])

abbrev pub short_call_graph : GraphParts
short_call_graph = lean_graph_with 0x34 (Class sorts.Both 1 (0x40000038 ∷ []) ∷ []) (Site 0x3ffffff8 K.Call 1 ∷ [])

-- such as are faults where callees save sites
pub record LeanFaultsAreUnconfined : Type 0 where
  pub early : IsConfined lean_version_1 saved_early lean_opening_graph → ⊥
  pub saved : IsConfined lean_version_1 saved_pointer (lean_graph 0x30) → ⊥
  pub slot : IsConfined lean_version_1 saved_high (lean_graph 0x30) → ⊥
  pub link : IsConfined lean_version_1 moved_link (lean_graph 0x34) → ⊥
  pub gate : IsConfined lean_version_1 short_call short_call_graph → ⊥

-- stops that may not come where they do
pub record WrongStopsAreUnconfined : Type 0 where
  pub run : IsConfined version_1 running_handler handler_graph → ⊥
  pub load_fault : IsConfined version_1 loading_handler handler_graph → ⊥
  pub store_fault : IsConfined version_1 storing_handler handler_graph → ⊥
  pub illegal : IsConfined version_1 illegal_handler handler_graph → ⊥
  pub break : IsConfined version_1 breaking_closing breaking_closing_graph → ⊥

-- transfers that go along no line of their own, to no target of their class, or back to no newest call; stops;
-- an opening that makes a system call, and such as write another slot, or another hart's part of the shadow stack; and
-- those of lean images
pub record FaultsAreUnconfined : Type 0 where
  pub jump : IsConfined version_1 unlisted_jump unlisted_jump_graph → ⊥
  pub borrowed : IsConfined version_1 borrowed_edge borrowed_edge_graph → ⊥
  pub branch : IsConfined version_1 long_branch long_branch_graph → ⊥
  pub entry : IsConfined version_1 unlisted_entry unlisted_entry_graph → ⊥
  pub target : IsConfined version_1 astray_call astray_call_graph → ⊥
  pub return : IsConfined version_1 early_return early_return_graph → ⊥
  pub stops : WrongStopsAreUnconfined
  pub call : IsConfined version_2 calling_opening one_pointer_graph → ⊥
  pub slot : IsConfined version_1 high_pointer opening_graph → ⊥
  pub part : IsConfined version_2 storing_opening one_pointer_graph → ⊥
  pub lean : LeanFaultsAreUnconfined
