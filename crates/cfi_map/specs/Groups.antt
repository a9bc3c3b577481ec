-- Groups of stores. Stores that stand one after another may share one mask: a store joins the group that ends right before its place and
-- is then a later member of it, which has one word, the store itself.
use Rattle.std.specs.Prelude.{List, ◌≡◌, ℕ, zero, suc, ◌+◌, ◌-◌, ◌%◌, nat_le, nat_lt, Bool, true, false, not, ◌==◌, ◌&&◌, ◌||◌, if◌then◌else◌, Option, Some, slice_index_or}
use Rattle.std.specs.List.{list_any}
use Rattle.rv_instr.specs.declared.instr.Instr.{Instr}
use Rattle.rv_instr.specs.declared.instr.Instr.TheVariants.{Store}
use Rattle.rv_code.specs.Decode.{decoded}
use Rattle.obj_input.specs.declared.item_kind.ItemKind.{ItemKind}
use Rattle.obj_input.specs.declared.item_kind.ItemKind.TheVariants as is
use Rattle.obj_program.specs.declared.item.Item.{Item}
use Rattle.obj_program.specs.Program.{Program, item_of}
use Rattle.obj_program.specs.Sound.{is_own}
use Rattle.cfi_graph.specs.Graph.{has_leaves}
use Rattle.cfi_closed.specs.Closed.{ClosedGraph, is_target}
use Rattle.cfi_leads.specs.Entered.{Entered}
use Rattle.cfi_leads.specs.Entries.{aims_at}

-- how many stores a group has at most, and how far apart their offsets are at most
abbrev pub MOST_STORES : ℕ
MOST_STORES = 16

abbrev pub MOST_APART : ℕ
MOST_APART = 2047

abbrev pub is_store : ItemKind → Bool
is_store is.Store = true
is_store other = false

-- the base register of a store, and its offset, a signed field of 12 bits, counted from -2048
abbrev pub base_of : Option Instr → ℕ
base_of (Some (Store op rs1 rs2 imm)) = rs1
base_of other = 0

abbrev pub level_of : Option Instr → ℕ
level_of (Some (Store op rs1 rs2 imm)) = (imm + 2048) % 4096
level_of other = 0

-- a direct transfer goes to a place
abbrev pub is_direct_target : Program → ℕ → Bool
is_direct_target program k = list_any (λ (i : Item). aims_at k i.target) program.items

-- of each place whether a direct transfer goes there
abbrev pub AreDirectTargets : Program → List Bool → Type 0
AreDirectTargets program flags = (k : ℕ) → slice_index_or flags k false ≡ is_direct_target program k

-- a place may be entered from elsewhere than the place before it: it is the entry, a direct target, a class's target or taken
abbrev pub is_entered : Program → ClosedGraph → ℕ → ℕ → Bool
is_entered program closed entry k =
    k == entry || (is_direct_target program k || (is_target closed.sides k || slice_index_or closed.taken k false))

-- what bounds the groups of a program: which of its places may be entered, and whether there are masks for offsets that are not negative
pub record Bounds : Type 0 where
  pub entered : ℕ → Bool
  pub short_masks : Bool

abbrev pub bounds_in : Entered → Bounds
bounds_in of = record { entered = is_entered of.program of.closed of.entry; short_masks = has_leaves of.closed.version }

-- a store's own offset is not negative
abbrev pub is_forward : Item → Bool
is_forward item = nat_le 2048 (level_of (decoded item.word))

-- the mask of a store that begins a group is for such offsets alone, where there are such masks
abbrev pub is_short : Item → Bool
is_short item = is_own item.patch && is_forward item

-- so a store may go behind the mask of a group's first one
abbrev pub fits_mask : Bool → Item → Item → Bool
fits_mask short_masks first item = not (short_masks && is_short first) || is_forward item

-- a test holds at so many numbers from one on
unfoldable pub all_from : (ℕ → Bool) → ℕ → ℕ → Bool
all_from test first zero = true
all_from test first (suc n) = test first && all_from test (first + 1) n

abbrev pub are_near : ℕ → ℕ → Bool
are_near a b = nat_le a (b + MOST_APART) && nat_le b (a + MOST_APART)

-- the base register and the level of the store at a place, and whether it has its own immediate, and none from a relocation
module _ (items : ℕ → Item) where
  abbrev pub base : ℕ → ℕ
  base k = base_of (decoded (items k).word)

  abbrev pub level : ℕ → ℕ
  level k = level_of (decoded (items k).word)

  abbrev pub is_own_at : ℕ → Bool
  is_own_at k = is_own (items k).patch

  -- one mask may serve the store at a place and another one: the first has its own immediate, and the base register and a level near
  -- that of the other
  abbrev pub may_share : ℕ → ℕ → ℕ → Bool
  may_share base_other level_other j = is_own_at j && (base j == base_other && are_near (level j) level_other)

  -- a store may join a group of so many stores right before it
  abbrev pub may_join : Bounds → ℕ → ℕ → Bool
  may_join bounds k n =
      nat_lt 0 n && (nat_lt n MOST_STORES && (is_store (items k).kind && (not (bounds.entered k)
      && (is_own_at k && (fits_mask bounds.short_masks (items (k - n)) (items k) && all_from (may_share (base k) (level k)) (k - n) n)))))

-- of each store whether it has its whole size, with a mask of its own; else it is a later member, behind the mask of a store before it
module _ (items : ℕ → Item) (whole : ℕ → Bool) where
  abbrev pub is_later : ℕ → Bool
  is_later k = is_store (items k).kind && not (whole k)

  -- how many stores the group has that ends right before a place
  unfoldable pub members_before : ℕ → ℕ
  members_before zero = 0
  members_before (suc k) = if is_store (items k).kind then (if whole k then 1 else members_before k + 1) else 0

module _ (items : ℕ → Item) (bounds : Bounds) (whole : ℕ → Bool) where
  -- each later member may be one
  abbrev pub AreGroups : Type 0
  AreGroups = (k : ℕ) → is_later items whole k ≡ true → may_join items bounds k (members_before items whole k) ≡ true

  -- from left to right each store is a later member that may be one
  abbrev pub AreGreedy : Type 0
  AreGreedy = (k : ℕ) → is_store (items k).kind ≡ true → whole k ≡ not (may_join items bounds k (members_before items whole k))

-- how many stores a group has after a place, whose store may begin one, where it had so many before
abbrev pub members_after : ItemKind → Bool → ℕ → ℕ
members_after kind whole before = if is_store kind then (if whole then 1 else before + 1) else 0

-- a store of a program may join a group of so many stores right before it
abbrev pub joins_in : Entered → ℕ → ℕ → Bool
joins_in of k n = may_join (item_of of.program) (bounds_in of) k n

-- these flags say which stores of a program begin a group, from left to right
abbrev pub AreFirstStores : Entered → List Bool → Type 0
AreFirstStores of flags = AreGreedy (item_of of.program) (bounds_in of) (λ k. slice_index_or flags k true)
