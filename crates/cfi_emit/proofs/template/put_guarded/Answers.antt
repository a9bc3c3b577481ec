use Rattle.std.proofs.Common.{lit<}
use Rattle.cfi_unit.proofs.GuardedWords.{guarded_put, guarded_room}
use Rattle.cfi_emit.proofs.template.put_guarded.Goals as goal

pub put-requires : goal.put-requires
put-requires c = (lit< tt, guarded_room _ _ _ _ c.requires.room c.len-count.ensures.most c.as_slice.ensures.items c.put_guards.ensures)

pub returns : goal.returns
returns c =
    guarded_put _ _ _ _ _ _ _ _ c.as_slice.ensures.items c.put_guards.ensures c.len-count.ensures.value c.jump_between.ensures c.put.ensures
