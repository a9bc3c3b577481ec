-- Entries: the places that calls reach, where the program itself is entered among them.
use Rattle.std.specs.Prelude.{ℕ, Bool, true, false, ◌==◌, ◌&&◌, ◌||◌, Option, Some, None, List}
use Rattle.std.specs.List.{list_any}
use Rattle.obj_input.specs.declared.item_kind.ItemKind.{ItemKind}
use Rattle.obj_input.specs.declared.item_kind.ItemKind.TheVariants as is
use Rattle.obj_program.specs.declared.item.Item.{Item}
use Rattle.obj_program.specs.Program.{Program}
use Rattle.cfi_graph.specs.declared.line.SiteKind.TheVariants as site
use Rattle.cfi_closed.specs.Closed.{Side, is_of, is_target_of}
use Rattle.cfi_leads.specs.Entered.{Entered}

-- a transfer goes to a place
abbrev pub aims_at : ℕ → Option ℕ → Bool
aims_at k None = false
aims_at k (Some target) = target == k

abbrev pub is_call : ItemKind → Bool
is_call is.Call = true
is_call other = false

-- what there is, if it is asked for
abbrev pub if_kind : Bool → Option ℕ → Option ℕ
if_kind true target = target
if_kind false target = None

-- the target of a direct call
abbrev pub call_target : Item → Option ℕ
call_target item = if_kind (is_call item.kind) item.target

-- a direct call goes to a place
abbrev pub is_called : Program → ℕ → Bool
is_called program k = list_any (λ (i : Item). aims_at k (call_target i)) program.items

-- a place is a target of computed calls
abbrev pub serves_calls : ℕ → Side → Bool
serves_calls k side = is_of side.sort site.Call && is_target_of k side

abbrev pub is_call_target : List Side → ℕ → Bool
is_call_target sides k = list_any (serves_calls k) sides

abbrev pub is_entry : Entered → ℕ → Bool
is_entry of k = k == of.entry || (is_called of.program k || is_call_target of.closed.sides k)
