-- A map: the form in which a program is hardened, and lines that each give a place of the program its gate. A
-- place is a section's number and an offset in that section; a gate is an address of the code.
use Rattle.std.specs.Prelude.{ℕ, ◌+◌, ◌%◌, ◌^◌, ◌==◌, nat_lt, nat_le, Bool, ◌&&◌, ◌||◌, IsTrue, List}
use Rattle.std.specs.List.{list_all}
use Rattle.rv_image.specs.Form.{profile_for}
use Rattle.rv_image.specs.MemoryMap.{CODE_START, CODE_SIZE}
use Rattle.rv_image.specs.declared.form.Form.{Form}
use Rattle.cfi_map_text.specs.declared.map.MapLine.{MapLine}
use Rattle.cfi_graph.specs.Graph.{is_rising}

pub record MapParts : Type 0 where
  pub form : Form
  pub lines : List MapLine

-- Range. A gate is a multiple of 4 in the code after the prologue of the form's images
abbrev pub is_gate : Form → ℕ → Bool
is_gate form gate =
    gate % 4 == 0 && nat_le (profile_for form).units_from gate && nat_lt gate (CODE_START + CODE_SIZE)

-- an offset is a multiple of 4; four digits hold a section's number, and eight an offset
abbrev pub map_line_in_range : Form → MapLine → Bool
map_line_in_range form line =
    is_gate form line.gate && line.offset % 4 == 0 && nat_lt line.section (2 ^ 16) && nat_lt line.offset (2 ^ 32)

-- Order. Places rise, by section and then by offset
abbrev pub place_below : MapLine → MapLine → Bool
place_below line next =
    nat_lt line.section next.section || (line.section == next.section && nat_lt line.offset next.offset)

-- places and gates rise
abbrev pub map_line_below : MapLine → MapLine → Bool
map_line_below line next = place_below line next && nat_lt line.gate next.gate

-- the lines that a map may have
pub record IsMap (map : MapParts) : Type 0 where
  pub range : IsTrue (list_all (map_line_in_range map.form) map.lines)
  pub order : IsTrue (is_rising map_line_below map.lines)
