-- Leads: the words before the unit of a place. Under graphs of versions 1 and 2 a class's target has one for each side. Under version 3 it
-- has a word for computed jumps; then an entry that is no leaf has a jump over the rest and what saves the site of its call, five words;
-- and between these two a target of computed calls has the gate that they ask for.
use Rattle.std.specs.Prelude.{ℕ, ◌+◌, ◌*◌, Bool, not, ◌&&◌, if◌then◌else◌, length}
use Rattle.rv_image.specs.declared.version.GraphVersion.{GraphVersion}
use Rattle.rv_image.specs.declared.version.GraphVersion.TheVariants.{OneLabel, TwoLabels, CalleeSaves}
use Rattle.cfi_closed.specs.Closed.{is_target}
use Rattle.cfi_leads.specs.Entered.{Entered}
use Rattle.cfi_leads.specs.Entries.{is_call_target, is_entry}
use Rattle.cfi_leads.specs.Leaves.{is_leaf}

-- what saves a site stands before a place
abbrev pub enters : Entered → ℕ → Bool
enters of k = is_entry of k && not (is_leaf of k)

-- how many words a lead has
abbrev pub words_of_sides : Entered → ℕ → ℕ
words_of_sides of k = if is_target of.closed.sides k then length of.closed.sides else 0

abbrev pub words_of_entry : Entered → ℕ → ℕ
words_of_entry of k =
    (if is_target of.closed.sides k then 1 else 0) + (if enters of k then 6 else 0) + (if is_call_target of.closed.sides k then 1 else 0)

abbrev pub lead_words : GraphVersion → Entered → ℕ → ℕ
lead_words OneLabel of k = words_of_sides of k
lead_words TwoLabels of k = words_of_sides of k
lead_words CalleeSaves of k = words_of_entry of k

-- and how many bytes
abbrev pub lead_size : Entered → ℕ → ℕ
lead_size of k = 4 * lead_words of.closed.version of k
