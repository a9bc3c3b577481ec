-- The word that a check reads and the word that it compares with.
use Rattle.std.proofs.Common.{◌≡◌, ℕ, ◌+◌, ◌*◌, ◌^◌, ◌<◌, ◌≤◌, arith}
use Rattle.std.proofs.lemmas.Bool.Decides.{nat_tests}
use Rattle.rv_word.specs.Bits.{wrap}
use Rattle.rv_word.specs.Memory.{Memory, read}
use Rattle.rv_code.specs.Step.{offset}
use Rattle.cfi_unit.specs.declared.target_word.TargetWord.{TargetWord}
use Rattle.cfi_unit.specs.declared.target_word.TargetWord.TheVariants.{First, Second, Third}
use Rattle.cfi_unit.specs.UnitWords.{past}

pub word_small : (m : Memory) (a : ℕ) → ((k : ℕ) → m k < 2 ^ 8) → read 4 m a < 2 ^ 32
word_small m a small =
    let b0 = small a in let b1 = small (a + 1) in let b2 = small (a + 1 + 1) in let b3 = small (a + 1 + 1 + 1) in omega arith

-- both are sign-extended alike
pub same_word : (word label : ℕ) → word < 2 ^ 32 → label < 2 ^ 20 →
    offset 32 word ≡ wrap (offset 32 (label * 2 ^ 12) + 55) → word ≡ label * 4096 + 55
same_word word label small low same = grind (arith, nat_tests)

pub word_same : (word label : ℕ) → label < 2 ^ 20 → word ≡ label * 4096 + 55 →
    offset 32 word ≡ wrap (offset 32 (label * 2 ^ 12) + 55)
word_same word label low is = grind (arith, nat_tests)

-- where a check reads: at its destination, or four or eight bytes behind
pub past_near : (which : TargetWord) → past which ≤ 8
past_near First = omega arith
past_near Second = omega arith
past_near Third = omega arith

pub read_at : (which : TargetWord) (v : ℕ) → v < 2 ^ 32 → wrap (v + offset 12 (past which)) ≡ v + past which
read_at First v small = omega arith
read_at Second v small = omega arith
read_at Third v small = omega arith
