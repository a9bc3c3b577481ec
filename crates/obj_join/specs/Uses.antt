-- The uses of the table in one section. Only contracts of the calls that look for slots cite this.
use Rattle.std.specs.Prelude.{ℕ, ◌*◌, ◌==◌, List, map, filter}
use Rattle.obj_join.specs.declared.table.TableUse.{TableUse}
use Rattle.obj_join.specs.Said.{UseSaid}
use Rattle.obj_join.specs.Table.{is_table_use}

-- those that stand at an offset
abbrev pub standing : ℕ → List TableUse → List TableUse
standing at uses = filter (λ u. u.offset == at) uses

-- the symbols of those at the word with an index
abbrev pub symbols_at : List TableUse → ℕ → List ℕ
symbols_at uses w = map (λ u. u.symbol) (standing (4 * w) uses)

-- those among relocations, each with the symbol that its symbol is
abbrev pub table_use : (ℕ → ℕ) → UseSaid → TableUse
table_use resolve u = record { offset = u.offset; symbol = resolve u.symbol }

abbrev pub table_uses : (ℕ → ℕ) → List UseSaid → List TableUse
table_uses resolve uses = map (table_use resolve) (filter is_table_use uses)
