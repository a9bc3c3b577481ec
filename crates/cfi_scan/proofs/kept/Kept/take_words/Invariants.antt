use Rattle.std.proofs.Common.{◌≡◌, ◌+◌, ◌/◌, ◌<◌, ◌^◌, ℕ, List, [], ◌++◌, length}
use Rattle.rv_image.specs.MemoryMap.{profile_with}
use Rattle.cfi_scan.specs.Pieces.{IsCut}
use Rattle.cfi_scan.specs.declared.kept.Kept.{Kept}
use Rattle.cfi_scan.proofs.Pieces.{KeepsWords}
use Rattle.cfi_scan.proofs.kept.Kept.take_words.Given as goal

-- some of the words are read
pub record HasTaken (before now : Kept) (first index : ℕ) (piece rest : List ℕ) (ticked ticks : ℕ) : Type 0 where
  pub keeps : (words more : List ℕ) → length words ≡ first → IsCut piece more [] → KeepsWords (profile_with before.units.front) before words →
      (done : List ℕ) × ((left : List ℕ) × ((words ++ more ≡ done ++ left) × ((length done ≡ index) × (IsCut rest left [] × KeepsWords (profile_with now.units.front) now done))))
  pub front : now.units.front ≡ before.units.front
  pub calls : now.units.calls ≡ before.units.calls
  pub room : length now.units.entries.items ≡ length before.units.entries.items
  pub few : index + length rest < 2 ^ 32
  pub cost : ticks + length rest / 4 ≡ ticked + length piece / 4

abbrev pub invariant-loop-rest : goal.invariant-loop-rest
invariant-loop-rest g l = HasTaken l.fn.self l.self l.fn.index l.index l.fn.piece l.rest l.fn.steps l.steps

abbrev pub decreases-loop-rest : goal.decreases-loop-rest
decreases-loop-rest g l = length l.rest
