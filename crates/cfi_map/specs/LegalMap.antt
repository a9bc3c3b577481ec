-- Legal maps: one line for each place, in order, with the gates of a placement, whose first unit stands behind the prologue of the
-- images of the map's form.
use Rattle.std.specs.Prelude.{◌≡◌, ℕ, List, map}
use Rattle.rv_image.specs.Form.{profile_for}
use Rattle.cfi_map_text.specs.Map.{MapParts}
use Rattle.cfi_map_text.specs.declared.map.MapLine.{MapLine}
use Rattle.obj_program.specs.declared.item.Item.{Item}
use Rattle.obj_program.specs.Program.{Program}
use Rattle.cfi_closed.specs.Closed.{ClosedGraph}
use Rattle.cfi_leads.specs.Entered.{Entered, entered_at}
use Rattle.cfi_map.specs.Placement.{IsLegal}

abbrev pub gates_of : List MapLine → List ℕ
gates_of lines = map (λ (l : MapLine). l.gate) lines

-- lines of a program's first places
pub record AreLegal (of : Entered) (items : List Item) (m : MapParts) : Type 0 where
  pub sections : map (λ (l : MapLine). l.section) m.lines ≡ map (λ (i : Item). i.section) items
  pub offsets : map (λ (l : MapLine). l.offset) m.lines ≡ map (λ (i : Item). i.offset) items
  pub gates : IsLegal (profile_for m.form).units_from of items (gates_of m.lines)

-- a legal map of a program that is entered at a place
abbrev pub IsLegalMap : Program → ClosedGraph → ℕ → MapParts → Type 0
IsLegalMap program closed entry m = AreLegal (entered_at program closed entry) program.items m
