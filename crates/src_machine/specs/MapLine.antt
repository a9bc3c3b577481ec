-- Whether a line of a map follows from the lines before it. Only private contracts cite this: that it tells legal maps is proved.
use Rattle.std.specs.Prelude.{ℕ, ◌+◌, ◌-◌, nat_le, nat_lt, Bool, true, false, not, ◌==◌, ◌&&◌, ◌||◌, if◌then◌else◌, List, length, slice_index_or}
use Rattle.rv_image.specs.Form.{profile_for}
use Rattle.rv_image.specs.declared.form.Form.{Form}
use Rattle.cfi_map_text.specs.declared.map.MapLine.{MapLine}
use Rattle.obj_input.specs.declared.item_kind.ItemKind.{ItemKind}
use Rattle.obj_program.specs.declared.item.Item.{Item}
use Rattle.obj_program.specs.Program.{count, is_spot, item_of}
use Rattle.cfi_leads.specs.Entered.{Entered}
use Rattle.cfi_leads.specs.Leads.{lead_size}
use Rattle.cfi_map.specs.Groups.{is_store, joins_in, members_before}
use Rattle.cfi_map.specs.Placement.{size_of}

abbrev pub no_line : MapLine
no_line = record { gate = 0; section = 0; offset = 0 }

abbrev pub line_at : List MapLine → ℕ → MapLine
line_at lines j = slice_index_or lines j no_line

-- a gate stands behind the unit of the place k, where that has its whole size
abbrev pub is_past_whole : Entered → Item → ℕ → ℕ → ℕ → Bool
is_past_whole of item k gate next = next == gate + (lead_size of k + size_of of k item true)

-- whether the unit of a place has its whole size, by the gates; that of the last line has it
abbrev pub has_whole : Entered → List MapLine → ℕ → Bool
has_whole of lines k =
    nat_le (length lines) (k + 1)
    || is_past_whole of (item_of of.program k) k (line_at lines k).gate (line_at lines (k + 1)).gate

-- how many stores the group has that ends right before a place, by the gates
abbrev pub stores_before : Entered → List MapLine → ℕ → ℕ
stores_before of lines k = members_before (item_of of.program) (has_whole of lines) k

-- the unit of a place may be one word, where a group of so many stores ends right before it: a store has to join that
abbrev pub may_be_short : Entered → ItemKind → ℕ → ℕ → Bool
may_be_short of kind k before = not (is_store kind) || joins_in of k before

-- a gate stands behind the unit of the place k, whole or short
abbrev pub follows : Entered → Item → ℕ → ℕ → ℕ → ℕ → Bool
follows of item k before gate next =
    is_past_whole of item k gate next
    || (next == gate + (lead_size of k + size_of of k item false) && may_be_short of item.kind k before)

-- the gate of the line after that of the place k is where this lets it be
abbrev pub follows_at : Entered → List MapLine → ℕ → ℕ → Bool
follows_at of lines k before = follows of (item_of of.program k) k before (line_at lines k).gate (line_at lines (k + 1)).gate

-- a line is that of its place, but for its gate
abbrev pub is_named : Entered → List MapLine → ℕ → Bool
is_named of lines j = is_spot (line_at lines j).section (line_at lines j).offset (item_of of.program j)

abbrev pub stands : Form → Entered → List MapLine → ℕ → Bool
stands form of lines j =
    if j == 0 then (line_at lines 0).gate == (profile_for form).units_from else follows_at of lines (j - 1) (stores_before of lines (j - 1))

-- a line is that of its place
abbrev pub is_right : Form → Entered → List MapLine → ℕ → Bool
is_right form of lines j = is_named of lines j && stands form of lines j

-- a line is wrong; past the last one, lines are missing
abbrev pub is_wrong : Form → Entered → List MapLine → ℕ → Bool
is_wrong form of lines j =
    if nat_lt j (length lines) then not (nat_lt j (count of.program) && is_right form of lines j) else nat_lt j (count of.program)
