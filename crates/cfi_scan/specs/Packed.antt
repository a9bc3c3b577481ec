-- Words of private contracts: entries in four bytes, the number of the kind times 2^20, and the field or label.
-- The kinds that are no transfer, no gate and no system call come first.
use Rattle.std.specs.Prelude.{◌≡◌, ℕ, ◌+◌, ◌*◌, ◌/◌, ◌%◌, ◌^◌, ◌==◌, true, false, if◌then◌else◌}
use Rattle.cfi_unit.specs.declared.target_word.TargetWord.TheVariants.{First, Second, Third}
use Rattle.cfi_reader.specs.declared.entry.Entry.{Entry}
use Rattle.cfi_reader.specs.declared.entry.Entry.TheVariants as E

abbrev pub packed : Entry → ℕ
packed E.Inside = 0
packed E.Stop = 2 ^ 20
packed E.Other = 2 * 2 ^ 20
packed E.WritesLink = 3 * 2 ^ 20
packed E.Return = 4 * 2 ^ 20
packed E.Break = 5 * 2 ^ 20
packed E.Stores = 6 * 2 ^ 20
packed (E.Near field) = 7 * 2 ^ 20 + field
packed (E.Branch field) = 8 * 2 ^ 20 + field
packed (E.Jump field) = 9 * 2 ^ 20 + field
packed (E.Call field) = 10 * 2 ^ 20 + field
packed (E.Ijump First label) = 11 * 2 ^ 20 + label
packed (E.Icall label) = 12 * 2 ^ 20 + label
packed (E.Ijump Second label) = 13 * 2 ^ 20 + label
packed (E.Gate label) = 14 * 2 ^ 20 + label
packed E.Ecall = 15 * 2 ^ 20
packed (E.Guarded false) = 16 * 2 ^ 20
packed (E.Guarded true) = 17 * 2 ^ 20
packed (E.LinkCall field) = 18 * 2 ^ 20 + field
packed (E.LeanIjump label) = 19 * 2 ^ 20 + label
packed (E.LeanIcall label) = 20 * 2 ^ 20 + label
packed E.Enter = 21 * 2 ^ 20
packed E.LeafReturn = 22 * 2 ^ 20
packed E.LeanStores = 23 * 2 ^ 20
packed (E.Ijump Third label) = 24 * 2 ^ 20 + label

abbrev pub of_kind : ℕ → ℕ → Entry
of_kind kind field =
    if kind == 0 then E.Inside
    else if kind == 1 then E.Stop
    else if kind == 2 then E.Other
    else if kind == 3 then E.WritesLink
    else if kind == 4 then E.Return
    else if kind == 5 then E.Break
    else if kind == 6 then E.Stores
    else if kind == 7 then E.Near (field % 2 ^ 12)
    else if kind == 8 then E.Branch field
    else if kind == 9 then E.Jump field
    else if kind == 10 then E.Call field
    else if kind == 11 then E.Ijump First field
    else if kind == 12 then E.Icall field
    else if kind == 13 then E.Ijump Second field
    else if kind == 14 then E.Gate field
    else if kind == 15 then E.Ecall
    else if kind == 16 then E.Guarded false
    else if kind == 17 then E.Guarded true
    else if kind == 18 then E.LinkCall field
    else if kind == 19 then E.LeanIjump field
    else if kind == 20 then E.LeanIcall field
    else if kind == 21 then E.Enter
    else if kind == 22 then E.LeafReturn
    else if kind == 23 then E.LeanStores
    else E.Ijump Third field

abbrev pub unpacked : ℕ → Entry
unpacked word = of_kind (word / 2 ^ 20) (word % 2 ^ 20)

-- the word is that of an entry
abbrev pub IsPacked : ℕ → Type 0
IsPacked word = packed (unpacked word) ≡ word
