-- Sites: the instructions that go to a computed address, and the places that each may go to when no policy speaks of it.
use Rattle.std.specs.Prelude.{ℕ, zero, suc, ◌+◌, nat_lt, nat_le, Bool, ◌==◌, ◌&&◌, ◌||◌, Option, Some, None, List, [], ◌∷◌, ◌++◌}
use Rattle.std.specs.List.{list_any}
use Rattle.obj_input.specs.declared.parts.Func.{Func}
use Rattle.obj_input.specs.declared.item_kind.ItemKind.{ItemKind}
use Rattle.obj_input.specs.declared.item_kind.ItemKind.TheVariants as is
use Rattle.obj_program.specs.declared.item.Item.{Item}
use Rattle.obj_program.specs.Program.{Program, count, is_spot, item_of}
use Rattle.cfi_graph.specs.declared.line.SiteKind.{SiteKind}
use Rattle.cfi_graph.specs.declared.line.SiteKind.TheVariants as site
use Rattle.cfi_flow.specs.Below.{where_below}

-- a computed call and a computed jump
abbrev pub site_kind : ItemKind → Option SiteKind
site_kind is.Icall = Some site.Call
site_kind is.Ijump = Some site.Jump
site_kind other = None

-- a function begins at an instruction
abbrev pub begins : Item → Func → Bool
begins i f = is_spot f.section f.offset i

-- a function covers an instruction: its value is inside, its value + size not
abbrev pub covers : Item → Func → Bool
covers i f = f.section == i.section && nat_le f.offset i.offset && nat_lt i.offset (f.offset + f.size)

-- an instruction that bears a symbol of type FUNC
abbrev pub is_function : Program → Item → Bool
is_function program i = list_any (begins i) program.funcs

-- some function covers both
abbrev pub are_in_one : Program → Item → Item → Bool
are_in_one program a b = list_any (λ f. covers a f && covers b f) program.funcs

-- whether a site of a kind may go from a place to another: to functions whose address is taken; a jump also to taken places in
-- the functions that cover it
abbrev pub may_reach : Program → SiteKind → Item → Item → Bool
may_reach program site.Call from to = to.taken && is_function program to
may_reach program site.Jump from to = to.taken && (is_function program to || are_in_one program from to)

abbrev pub reached : Program → SiteKind → ℕ → List ℕ
reached program kind k = where_below (λ t. may_reach program kind (item_of program k) (item_of program t)) (count program)

-- a site by its place, with its targets rising
pub record RawSite : Type 0 where
  pub place : ℕ
  pub kind : SiteKind
  pub targets : List ℕ

abbrev pub site_at : (SiteKind → ℕ → List ℕ) → ℕ → Option SiteKind → List RawSite
site_at targets k None = []
site_at targets k (Some kind) = record { place = k; kind = kind; targets = targets kind k } ∷ []

-- the sites among the first places, in their order
unfoldable pub sites_below : Program → (SiteKind → ℕ → List ℕ) → ℕ → List RawSite
sites_below program targets zero = []
sites_below program targets (suc k) = sites_below program targets k ++ site_at targets k (site_kind (item_of program k).kind)
