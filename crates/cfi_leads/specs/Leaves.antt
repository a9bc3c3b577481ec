-- Leaves: functions that call nothing and leave x1 alone, so that they need not save the site to which they return. A piece of code
-- begins at each entry, at each target of a class and at a section's end, and has the places up to the next one. It is a leaf where it
-- begins at an entry that is no class's target, and no place spoils it.
use Rattle.std.specs.Prelude.{ℕ, zero, suc, ◌+◌, ◌-◌, Bool, true, false, not, ◌==◌, ◌&&◌, ◌||◌, if◌then◌else◌, Option, Some, None}
use Rattle.rv_instr.specs.Operands.{written}
use Rattle.rv_instr.specs.declared.instr.Instr.{Instr}
use Rattle.rv_code.specs.Decode.{decoded}
use Rattle.obj_input.specs.declared.item_kind.ItemKind.{ItemKind}
use Rattle.obj_input.specs.declared.item_kind.ItemKind.TheVariants as is
use Rattle.obj_program.specs.declared.item.Item.{Item}
use Rattle.obj_program.specs.Program.{count, is_end, item_of}
use Rattle.cfi_closed.specs.Closed.{is_target}
use Rattle.cfi_leads.specs.Entered.{Entered}
use Rattle.cfi_leads.specs.Entries.{if_kind, is_entry}

-- a piece begins at a place
abbrev pub begins : Entered → ℕ → Bool
begins of k = is_end (item_of of.program k).kind || (is_entry of k || is_target of.closed.sides k)

-- where the piece begins that has a place
unfoldable pub head : Entered → ℕ → ℕ
head of zero = 0
head of (suc k) = if begins of (suc k) then suc k else head of k

-- a place is in the piece that begins at another one
abbrev pub is_in : Entered → ℕ → ℕ → Bool
is_in of e k = head of k == e

-- x1 is the register that an instruction writes
abbrev pub is_link : Option ℕ → Bool
is_link None = false
is_link (Some rd) = rd == 1

abbrev pub writes_link : Option Instr → Bool
writes_link None = false
writes_link (Some instr) = is_link (written instr)

-- in a leaf stand no calls, no computed jumps, no `lui x0`, and no other instruction that writes x1
abbrev pub may_stand : ItemKind → Option Instr → Bool
may_stand is.Plain instr = not (writes_link instr)
may_stand is.Store instr = true
may_stand is.System instr = true
may_stand is.Branch instr = true
may_stand is.Jump instr = true
may_stand is.Return instr = true
may_stand other instr = false

abbrev pub stands_in_leaf : Item → Bool
stands_in_leaf item = may_stand item.kind (decoded item.word)

-- where a branch or a jump goes
abbrev pub is_edge : ItemKind → Bool
is_edge is.Branch = true
is_edge is.Jump = true
is_edge other = false

abbrev pub edge_target : Item → Option ℕ
edge_target item = if_kind (is_edge item.kind) item.target

-- one of two places is in a piece, and the other is not
abbrev pub parts_them : Bool → Bool → Bool
parts_them true there = not there
parts_them false there = there

abbrev pub crosses_to : Entered → ℕ → ℕ → Option ℕ → Bool
crosses_to of e k None = false
crosses_to of e k (Some target) = parts_them (is_in of e k) (is_in of e target)

-- a leaf's last place is a jump or a return
abbrev pub ends_leaf : ItemKind → Bool
ends_leaf is.Jump = true
ends_leaf is.Return = true
ends_leaf other = false

-- and from the place before it nothing goes on to it
abbrev pub ends_before : ItemKind → Bool
ends_before is.Jump = true
ends_before is.Return = true
ends_before is.Ijump = true
ends_before is.End = true
ends_before other = false

-- a place spoils the piece that begins at e: it is in the piece and may not stand there, or is the last one there and may go on; a branch
-- or a jump leads from it into the piece or out of it; or it stands before the piece and may go on to it
abbrev pub spoils_inside : Entered → ℕ → Bool
spoils_inside of k =
    not (stands_in_leaf (item_of of.program k)) || begins of (k + 1) && not (ends_leaf (item_of of.program k).kind)

abbrev pub spoils : Entered → ℕ → ℕ → Bool
spoils of e k =
    is_in of e k && spoils_inside of k
    || (crosses_to of e k (edge_target (item_of of.program k)) || (k + 1 == e && not (ends_before (item_of of.program k).kind)))

-- one of the first n places does
unfoldable pub is_spoilt_by : Entered → ℕ → ℕ → Bool
is_spoilt_by of e zero = false
is_spoilt_by of e (suc n) = is_spoilt_by of e n || spoils of e n

-- a leaf begins at a place
abbrev pub is_leaf : Entered → ℕ → Bool
is_leaf of e = is_entry of e && (not (is_target of.closed.sides e) && not (is_spoilt_by of e (count of.program)))

-- a place is in a leaf
abbrev pub in_leaf : Entered → ℕ → Bool
in_leaf of k = is_leaf of (head of k)

-- where a leaf ends that begins at a place: at the next place, of those that follow, at which a piece begins
unfoldable pub next_piece : Entered → ℕ → ℕ → ℕ
next_piece of k zero = k
next_piece of k (suc n) = if begins of k then k else next_piece of (k + 1) n

abbrev pub leaf_end : Entered → ℕ → ℕ
leaf_end of e = next_piece of (e + 1) (count of.program - (e + 1))
