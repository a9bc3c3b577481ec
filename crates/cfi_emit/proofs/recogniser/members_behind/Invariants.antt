use Rattle.std.proofs.Common.{◌≡◌, ◌+◌, ◌-◌, ◌≤◌, ◌++◌, length}
use Rattle.cfi_unit.specs.Members.{MOST_MEMBERS, member_of}
use Rattle.cfi_unit.specs.Recognise.{read_each}
use Rattle.cfi_emit.proofs.recogniser.members_behind.Given as goal

abbrev pub invariant-loop-index : goal.invariant-loop-index
invariant-loop-index l = record {
  read : l.members ++ read_each member_of 1 l.words (l.first + l.index) (MOST_MEMBERS - l.index) ≡ read_each member_of 1 l.words l.first MOST_MEMBERS;
  counted : length l.members ≡ l.index;
  few : l.index ≤ MOST_MEMBERS;
}
