use Rattle.rv_machine.proofs.processor.Processor.execute_at.Goals as goal

pub returns-in-Upper : goal.returns-in-Upper
returns-in-Upper c = rw c.in-Upper.is (record { executed = c.upper.ensures.executed; hart = tt; shared = tt; wants = tt; room = tt; kept = c.upper.ensures.kept })

pub returns-in-Jal : goal.returns-in-Jal
returns-in-Jal c = rw c.in-Jal.is (record { executed = c.jump.ensures.executed; hart = tt; shared = tt; wants = tt; room = tt; kept = c.jump.ensures.kept })

pub returns-in-Jalr : goal.returns-in-Jalr
returns-in-Jalr c = rw c.in-Jalr.is (record { executed = c.jump_register.ensures.executed; hart = tt; shared = tt; wants = tt; room = tt; kept = c.jump_register.ensures.kept })

pub returns-in-Branch : goal.returns-in-Branch
returns-in-Branch c = rw c.in-Branch.is (record { executed = c.branch-self.ensures.executed; hart = tt; shared = tt; wants = tt; room = tt; kept = c.branch-self.ensures.kept })

pub returns-in-Load : goal.returns-in-Load
returns-in-Load c = rw c.in-Load.is (record { executed = c.load.ensures.executed; hart = tt; shared = tt; wants = tt; room = tt; kept = c.load.ensures.kept })

pub returns-in-Immediate : goal.returns-in-Immediate
returns-in-Immediate c = rw c.in-Immediate.is (record { executed = c.immediate.ensures.executed; hart = tt; shared = tt; wants = tt; room = tt; kept = c.immediate.ensures.kept })

pub returns-in-Shift : goal.returns-in-Shift
returns-in-Shift c = rw c.in-Shift.is (record { executed = c.shift.ensures.executed; hart = tt; shared = tt; wants = tt; room = tt; kept = c.shift.ensures.kept })

pub returns-in-ShiftWord : goal.returns-in-ShiftWord
returns-in-ShiftWord c = rw c.in-ShiftWord.is (record { executed = c.shift_word.ensures.executed; hart = tt; shared = tt; wants = tt; room = tt; kept = c.shift_word.ensures.kept })

pub returns-in-Register : goal.returns-in-Register
returns-in-Register c = rw c.in-Register.is (record { executed = c.register.ensures.executed; hart = tt; shared = tt; wants = tt; room = tt; kept = c.register.ensures.kept })

pub returns-in-Store : goal.returns-in-Store
returns-in-Store c = rw c.in-Store.is c.store.ensures
