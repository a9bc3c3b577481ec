use Rattle.std.proofs.Common.{◌≡◌, ◌+◌, ◌/◌, ℕ, List, ◌++◌, length, take}
use Rattle.rv_image.specs.MemoryMap.{profile_with}
use Rattle.cfi_scan.specs.Pieces.{HasSeen, Sight}
use Rattle.cfi_scan.proofs.feeder.Feeder.bytes.Given as goal

-- these bytes are taken
pub record HasTaken (before now : Sight) (bytes : List ℕ) (ticked ticks : ℕ) : Type 0 where
  pub seen : (earlier : List ℕ) → HasSeen (profile_with before.versions) before earlier → HasSeen (profile_with before.versions) now (earlier ++ bytes)
  pub versions : now.versions ≡ before.versions
  pub calls : now.calls ≡ before.calls
  pub fed : now.fed ≡ before.fed + length bytes
  pub room : length now.entries ≡ length before.entries
  pub cost : ticks + before.fed / 4 ≡ ticked + now.fed / 4

abbrev pub invariant-loop-byte : goal.invariant-loop-byte
invariant-loop-byte g l = HasTaken l.fn.self l.self (take l.byte-index l.piece) l.fn.steps l.steps
