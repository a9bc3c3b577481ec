-- The program's own run by places, an instruction a step: the step of a place is that of its instruction's kind, at the place's word.
-- Between steps it is at gates, with all sites that are pending, whoever saves them.
use Rattle.std.specs.Prelude.{◌≡◌, ℕ, ◌+◌, ◌^◌, ◌<◌, ◌≤◌, Bool, true, false, Option, Some, List, [], ◌∷◌, length}
use Rattle.rv_image.specs.Image.{Contents, loaded}
use Rattle.obj_program.specs.Program.{item_of}
use Rattle.rv_instr.specs.Registers.{Registers, cleared, get_reg, set_reg}
use Rattle.rv_instr.specs.declared.instr.Instr.{Instr}
use Rattle.rv_instr.specs.declared.instr.Instr.TheVariants.{Store}
use Rattle.obj_input.specs.declared.item_kind.ItemKind.{ItemKind}
use Rattle.obj_input.specs.declared.item_kind.ItemKind.TheVariants as is
use Rattle.cfi_graph.specs.Graph.{has_leaves}
use Rattle.cfi_map.specs.GraphAtMap.{gate, gate_to, word}
use Rattle.cfi_map.specs.Groups.{is_short, is_store}
use Rattle.cfi_unit.specs.PrologueEffect.{stack_of}
use Rattle.cfi_unit.specs.Shadow.{MOST_PENDING}
use Rattle.cfi_runs.specs.GroupRuns as runs
use Rattle.cfi_runs.specs.Own.{Own, OwnAfter}
use Rattle.cfi_runs.specs.WholeRun.{own_shared}
use Rattle.cfi_runs.specs.Tame.{IsTame, ReturnTame, touched}
use Rattle.cfi_writer.specs.Units.{Choice, instr_of, is_later_at, unit_here}
use Rattle.cfi_meaning.specs.ImageOf.{IsPlace}
use Rattle.cfi_meaning.specs.KindStep.{kind_step}
use Rattle.cfi_meaning.specs.Matches.{shown_of}

abbrev pub holds_store : Choice → ℕ → Bool
holds_store m k = is_store (item_of m.layout.program k).kind

-- what the base register of a store holds
abbrev pub base_value : Instr → Registers → ℕ
base_value (Store op rs1 rs2 imm) r = get_reg r rs1
base_value other r = 0

abbrev pub makes_call : ItemKind → Bool
makes_call is.Call = true
makes_call is.Icall = true
makes_call other = false

-- the program is at a place: what it stores there lies in the window of data, it returns to its newest site, and any
-- step but a store's is one that the place's unit keeps
pub record TamePlace (m : Choice) (image : Contents) (k : ℕ) (o : Own) : Type 0 where
  pub place : IsPlace m k
  pub at : o.pc ≡ gate m.layout k
  pub some : 0 < length o.pending
  pub inside : holds_store m k ≡ true → touched (instr_of m k) o.regs ≤ 2 ^ 28
  -- where a register alone may mask it, its base does too
  pub base : holds_store m k ≡ true → has_leaves m.layout.closed.version ≡ true → is_short (item_of m.layout.program k) ≡ true → base_value (instr_of m k) o.regs < 2 ^ 28
  pub back : (item_of m.layout.program k).kind ≡ is.Return → ReturnTame o.pending o.regs
  -- and what it calls has room to save the site of the call
  pub room : makes_call (item_of m.layout.program k).kind ≡ true → length o.pending < MOST_PENDING
  pub tame : holds_store m k ≡ false → IsTame (loaded image) (unit_here m k) (shown_of m.layout (Some k) o).pending o.regs

-- the step is made at the place's word
abbrev pub at_word : Choice → ℕ → Own → Own
at_word m k o = record o { pc = word m.layout k }

abbrev pub place_step : Choice → ℕ → Own → OwnAfter
place_step m k o =
    kind_step m.layout.profile (item_of m.layout.program k).kind (instr_of m k) (gate_to m.layout (item_of m.layout.program k).target)
    (gate m.layout (k + 1)) (at_word m k o)

-- a run starts at the entry's gate, with the closing pending
abbrev pub places_start : Choice → Contents → List ℕ → Own
places_start m image input = record {
  pc = gate m.layout m.layout.entry;
  regs = set_reg (set_reg cleared 2 (stack_of 0)) 1 m.layout.profile.closing;
  shared = own_shared image input;
  pending = m.layout.profile.closing ∷ [];
}

-- tame steps lead over these places from a state to another, and each goes on
abbrev pub PlacesRun : Choice → Contents → List ℕ → Own → Own → Type 0
PlacesRun m image = runs.PlacesRun (place_step m) (TamePlace m image)

-- places that are linked as those of a run are: behind a store stands the next place, and before a later store a store. From what is
-- before them to what is behind; none where no place is
abbrev pub Linked : Choice → Option ℕ → Option ℕ → Type 0
Linked m = runs.Link (holds_store m) (is_later_at m)

abbrev pub Chained : Choice → Option ℕ → List ℕ → Option ℕ → Type 0
Chained m = runs.Chained (holds_store m) (is_later_at m)
