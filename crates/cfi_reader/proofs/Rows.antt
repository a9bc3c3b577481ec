-- Each row of the table says what its node's shapes do.
use Rattle.std.proofs.Common.{◌≡◌, ◌≢◌, ℕ, inl, inr, length, refl, sym, subst, arith}
use Rattle.std.specs.Prelude.{Bool, true, ◌==◌, ◌||◌, get_or}
use Rattle.std.proofs.lemmas.Bool.{agree_below, agree_below_at, cases_lt, eqb-true, or_cases}
use Rattle.std.proofs.Math.ListN.{get_or-eq_default}
use Rattle.rv_code.specs.Encode.{code_of}
use Rattle.cfi_unit.specs.declared.pattern.Pattern.{Pattern}
use Rattle.cfi_reader.specs.Nodes.{Row, is_row_of, no_row, row_in}
use Rattle.cfi_reader.specs.declared.node.Else.{Else}
use Rattle.cfi_reader.specs.declared.node.Next.{Next}
use Rattle.cfi_reader.specs.declared.node.TheConstants as table
use Rattle.cfi_reader.proofs.Table.{stuck_at}

-- the row of a node, the first beyond them
abbrev pub row_of : ℕ → Row
row_of node = row_in (get_or table.ROWS node (get_or table.ROWS 0 no_row))

-- 1 has none
abbrev is_right : ℕ → Bool
is_right node = (node == 1) || is_row_of node (row_of node)

all_right : agree_below is_right (λ n. true) 129 ≡ true
unfolding code_of
all_right = refl

pub row_is : (node : ℕ) → node ≢ 1 → is_row_of node (row_of node) ≡ true
row_is node other =
    elim (cases_lt 128 node) [
      | inl high ↦
          let count : length table.ROWS ≡ 129 = refl in
          subst (λ (r : Pattern × Next × Else). is_row_of node (row_in r) ≡ true)
          (sym (get_or-eq_default table.ROWS (get_or table.ROWS 0 no_row) {n = node} (omega arith))) (stuck_at node high)
      | inr low ↦
          elim (or_cases (node == 1) _ (agree_below_at is_right (λ n. true) 129 node all_right (omega arith))) [
            | inl one ↦ absurd (other (eqb-true node 1 one))
            | inr right ↦ right
          ]
    ]
