-- Which units the kinds of starts ask nothing of.
use Rattle.std.specs.Prelude.{Bool, true, false}
use Rattle.cfi_reader.specs.declared.entry.Entry.{Entry}
use Rattle.cfi_reader.specs.declared.entry.Entry.TheVariants as E

-- a unit with this entry may stand in a leaf and outside of all, leads nowhere by itself, and begins no fresh start
abbrev pub is_calm : Entry → Bool
is_calm E.Inside = true
is_calm E.Stop = true
is_calm E.Other = true
is_calm E.Break = true
is_calm E.LeanStores = true
is_calm _ = false
