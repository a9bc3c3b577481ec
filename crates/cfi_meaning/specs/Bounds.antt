-- How many steps the machine takes at most for so many of the program's: none takes more words than 20 of its unit and those before it, of
-- which the closed graph has one a side. Under version 3 none takes more than 21: a computed call has 15 words, and where it arrives stand
-- a gate and five that save its site.
use Rattle.std.specs.Prelude.{ℕ, ◌+◌, ◌-◌, ◌*◌, ◌/◌, length}
use Rattle.rv_image.specs.MemoryMap.{Profile, START}
use Rattle.rv_image.specs.declared.unit_words.TheConstants as counts
use Rattle.rv_image.specs.declared.version.GraphVersion.{GraphVersion}
use Rattle.rv_image.specs.declared.version.GraphVersion.TheVariants.{OneLabel, TwoLabels, CalleeSaves}
use Rattle.cfi_map.specs.GraphAtMap.{ProgramAtMap}

abbrev pub most_words_by : GraphVersion → ℕ → ℕ
most_words_by OneLabel sides = 20 + sides
most_words_by TwoLabels sides = 20 + sides
most_words_by CalleeSaves sides = 21

abbrev pub most_words : ProgramAtMap → ℕ
most_words layout = most_words_by layout.closed.version (length layout.closed.sides)

-- how many words save the closing's address at the entry
abbrev pub entry_words_by : GraphVersion → ℕ
entry_words_by OneLabel = 0
entry_words_by TwoLabels = 0
entry_words_by CalleeSaves = counts.ENTER_WORDS

abbrev pub entry_words : ProgramAtMap → ℕ
entry_words layout = entry_words_by layout.closed.version

-- how many words stand before the first unit from where a run starts on: those of the opening and of the closing
abbrev pub last_words : Profile → ℕ
last_words p = (p.units_from - START) / 4

-- for so many steps of the program's, with as many more as lead to the entry and as the closing has: for graphs of version 1 it is 21 n
-- and 13 or, in version 2 of images, 17; for those of version 2 22 n and as many; for those of version 3 21 n and as many
abbrev pub most_steps : ProgramAtMap → ℕ → ℕ
most_steps layout n = most_words layout * n + (last_words layout.profile + entry_words layout)
