use Rattle.rv_machine.proofs.processor.Processor.perform.Goals as goal

pub returns-in-Lui : goal.returns-in-Lui
returns-in-Lui c = rw c.in-Lui.is (record { executed = c.upper.ensures.executed; kept = c.upper.ensures.kept })

pub returns-in-Jal : goal.returns-in-Jal
returns-in-Jal c = rw c.in-Jal.is (record { executed = c.jump.ensures.executed; kept = c.jump.ensures.kept })

pub returns-in-Jalr : goal.returns-in-Jalr
returns-in-Jalr c = rw c.in-Jalr.is (record { executed = c.jump_register.ensures.executed; kept = c.jump_register.ensures.kept })

pub returns-in-Beq : goal.returns-in-Beq
returns-in-Beq c = rw c.in-Beq.is (record { executed = c.branch-self.ensures.executed; kept = c.branch-self.ensures.kept })

pub returns-in-Bne : goal.returns-in-Bne
returns-in-Bne c = rw c.in-Bne.is (record { executed = c.branch-self-in-Bne.ensures.executed; kept = c.branch-self-in-Bne.ensures.kept })

pub returns-in-Blt : goal.returns-in-Blt
returns-in-Blt c = rw c.in-Blt.is (record { executed = c.branch-self-in-Blt.ensures.executed; kept = c.branch-self-in-Blt.ensures.kept })

pub returns-in-Bge : goal.returns-in-Bge
returns-in-Bge c = rw c.in-Bge.is (record { executed = c.branch-self-in-Bge.ensures.executed; kept = c.branch-self-in-Bge.ensures.kept })

pub returns-in-Bltu : goal.returns-in-Bltu
returns-in-Bltu c = rw c.in-Bltu.is (record { executed = c.branch-self-in-Bltu.ensures.executed; kept = c.branch-self-in-Bltu.ensures.kept })

pub returns-in-Bgeu : goal.returns-in-Bgeu
returns-in-Bgeu c = rw c.in-Bgeu.is (record { executed = c.branch-self-in-Bgeu.ensures.executed; kept = c.branch-self-in-Bgeu.ensures.kept })

pub returns-in-Lw : goal.returns-in-Lw
returns-in-Lw c = rw c.in-Lw.is (record { executed = c.load.ensures.executed; kept = c.load.ensures.kept })

pub returns-in-Ld : goal.returns-in-Ld
returns-in-Ld c = rw c.in-Ld.is (record { executed = c.load-in-Ld.ensures.executed; kept = c.load-in-Ld.ensures.kept })

pub returns-in-Lbu : goal.returns-in-Lbu
returns-in-Lbu c = rw c.in-Lbu.is (record { executed = c.load-in-Lbu.ensures.executed; kept = c.load-in-Lbu.ensures.kept })

pub returns-in-Sb : goal.returns-in-Sb
returns-in-Sb c = rw c.in-Sb.is (record { executed = c.store.ensures.executed; kept = c.store.ensures.kept })

pub returns-in-Sw : goal.returns-in-Sw
returns-in-Sw c = rw c.in-Sw.is (record { executed = c.store-in-Sw.ensures.executed; kept = c.store-in-Sw.ensures.kept })

pub returns-in-Sd : goal.returns-in-Sd
returns-in-Sd c = rw c.in-Sd.is (record { executed = c.store-in-Sd.ensures.executed; kept = c.store-in-Sd.ensures.kept })

pub returns-in-Addi : goal.returns-in-Addi
returns-in-Addi c = rw c.in-Addi.is (record { executed = c.immediate.ensures.executed; kept = c.immediate.ensures.kept })

pub returns-in-Andi : goal.returns-in-Andi
returns-in-Andi c = rw c.in-Andi.is (record { executed = c.immediate-in-Andi.ensures.executed; kept = c.immediate-in-Andi.ensures.kept })

pub returns-in-Addiw : goal.returns-in-Addiw
returns-in-Addiw c = rw c.in-Addiw.is (record { executed = c.immediate-in-Addiw.ensures.executed; kept = c.immediate-in-Addiw.ensures.kept })

pub returns-in-Slli : goal.returns-in-Slli
returns-in-Slli c = rw c.in-Slli.is (record { executed = c.shift.ensures.executed; kept = c.shift.ensures.kept })

pub returns-in-Srli : goal.returns-in-Srli
returns-in-Srli c = rw c.in-Srli.is (record { executed = c.shift-in-Srli.ensures.executed; kept = c.shift-in-Srli.ensures.kept })

pub returns-in-Slliw : goal.returns-in-Slliw
returns-in-Slliw c = rw c.in-Slliw.is (record { executed = c.shift_word.ensures.executed; kept = c.shift_word.ensures.kept })

pub returns-in-Srliw : goal.returns-in-Srliw
returns-in-Srliw c = rw c.in-Srliw.is (record { executed = c.shift_word-in-Srliw.ensures.executed; kept = c.shift_word-in-Srliw.ensures.kept })

pub returns-in-Add : goal.returns-in-Add
returns-in-Add c = rw c.in-Add.is (record { executed = c.register.ensures.executed; kept = c.register.ensures.kept })

pub returns-in-Sub : goal.returns-in-Sub
returns-in-Sub c = rw c.in-Sub.is (record { executed = c.register-in-Sub.ensures.executed; kept = c.register-in-Sub.ensures.kept })

pub returns-in-Xor : goal.returns-in-Xor
returns-in-Xor c = rw c.in-Xor.is (record { executed = c.register-in-Xor.ensures.executed; kept = c.register-in-Xor.ensures.kept })

pub returns-in-Or : goal.returns-in-Or
returns-in-Or c = rw c.in-Or.is (record { executed = c.register-in-Or.ensures.executed; kept = c.register-in-Or.ensures.kept })

pub returns-in-And : goal.returns-in-And
returns-in-And c = rw c.in-And.is (record { executed = c.register-in-And.ensures.executed; kept = c.register-in-And.ensures.kept })

pub returns-in-Addw : goal.returns-in-Addw
returns-in-Addw c = rw c.in-Addw.is (record { executed = c.register-in-Addw.ensures.executed; kept = c.register-in-Addw.ensures.kept })

pub returns-in-Mul : goal.returns-in-Mul
returns-in-Mul c = rw c.in-Mul.is (record { executed = c.register-in-Mul.ensures.executed; kept = c.register-in-Mul.ensures.kept })

pub returns-in-Register : goal.returns-in-Register
returns-in-Register c = rw c.in-Register.is (record { executed = c.register-in-Register.ensures.executed; kept = c.register-in-Register.ensures.kept })

pub returns-in-Other : goal.returns-in-Other
returns-in-Other c = rw c.in-Other.is (record { executed = c.execute_at.ensures.executed; kept = c.execute_at.ensures.kept })
