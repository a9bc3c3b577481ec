use Rattle.std.proofs.Common.{◌≡◌, ◌⊎◌, ℕ, arith, inl, inr, rules, subst, sym}
use Rattle.cfi_tool.proofs.Prelude.{spelled, IsTold, IsDemonstrated, IsRan, outcome_outputs, outcome_text, compare, demo, rewrite, run, taken, IsComplete}
use Rattle.cfi_tool.proofs.Complete.{complete_is}
use Rattle.cfi_tool.proofs.InOrder.{read_some, read_told}
use Rattle.cfi_tool.proofs.Headline.{IsDone, demo_ends, explained_request, ran_is, rewritten_is, shown_is, told_is}
use Rattle.cfi_tool.proofs.Verified.{verified_is}
use Rattle.cfi_tool.proofs.Since.{only_read_since, short_since, status_unwritten, stopped_since, wrote_since}
use Rattle.cfi_tool.proofs.command.rvcfi.Goals as goal

pub returns-in-Err-Failed-clause-write_fault_text : goal.returns-in-Err-Failed-clause-write_fault_text
returns-in-Err-Failed-clause-write_fault_text g c = λ _. (
  c.in-Ok.outcome,
  rw c.finish-end.ensures.reads.failed_name c.in-Ok.ensures.explained,
  stopped_since g.F.Files c.args.files.now c.command.new.files c.finish-end.new.files c.in-Ok.ensures.only_read _ _ c.in-Ok.outcome
      (c.finish-end.ensures.failed (search rules)),
)

pub returns-in-Ok-end-clause-ran : goal.returns-in-Ok-end-clause-ran
returns-in-Ok-end-clause-ran g c = λ ends asks asked.
    let content = g.F.Files.content c.args.files.now in
    let text = outcome_text c.in-Ok.outcome in
    let done = subst IsDone c.in-Ok-end.ensures.status ends in (
      text,
      subst (λ (n : ℕ). IsRan content asks n text) (sym c.in-Ok-end.ensures.status) (ran_is content asks c.in-Ok.outcome
          (explained_request content (g.F.Files.failed_name c.command.new.files) (spelled c.args.words.now) (run asks) asked c.in-Ok.outcome
          c.in-Ok.ensures.explained done) done),
      c.in-Ok-end.ensures.whole,
    )

pub returns-in-Ok-end-clause-rewritten : goal.returns-in-Ok-end-clause-rewritten
returns-in-Ok-end-clause-rewritten g c = λ zero asks asked.
    let none = subst (λ (n : ℕ). n ≡ 0) c.in-Ok-end.ensures.status zero in (
      outcome_text c.in-Ok.outcome,
      rewritten_is g.F.Files c.args.files.now c.finish-end.new.files asks c.in-Ok.outcome
          (explained_request (g.F.Files.content c.args.files.now) (g.F.Files.failed_name c.command.new.files) (spelled c.args.words.now) (rewrite asks)
          asked c.in-Ok.outcome c.in-Ok.ensures.explained (inl none)) none
          (wrote_since g.F.Files c.args.files.now c.command.new.files c.finish-end.new.files c.in-Ok.ensures.only_read
          (outcome_outputs c.in-Ok.outcome) _ c.in-Ok-end.ensures.wrote),
      c.in-Ok-end.ensures.whole,
    )

pub returns-in-Err-NoMemory-clause-first_written : goal.returns-in-Err-NoMemory-clause-first_written
returns-in-Err-NoMemory-clause-first_written g c = λ _. inr (
  c.in-Ok.outcome,
  rw c.finish-end.ensures.reads.failed_name c.in-Ok.ensures.explained,
  short_since g.F.Files c.args.files.now c.command.new.files c.finish-end.new.files c.in-Ok.ensures.only_read c.in-Ok.outcome
      (c.finish-end.ensures.short (search rules)),
)

pub returns-in-Ok-end-clause-compared : goal.returns-in-Ok-end-clause-compared
returns-in-Ok-end-clause-compared g c = λ ends asks asked.
    let content = g.F.Files.content c.args.files.now in
    let text = outcome_text c.in-Ok.outcome in
    let done = subst IsDone c.in-Ok-end.ensures.status ends in (
      text,
      subst (λ (n : ℕ). IsTold content asks n text) (sym c.in-Ok-end.ensures.status) (told_is content asks c.in-Ok.outcome
          (explained_request content (g.F.Files.failed_name c.command.new.files) (spelled c.args.words.now) (compare asks) asked c.in-Ok.outcome
          c.in-Ok.ensures.explained done) done),
      c.in-Ok-end.ensures.whole,
    )

pub returns-in-Ok-end-clause-demonstrated : goal.returns-in-Ok-end-clause-demonstrated
returns-in-Ok-end-clause-demonstrated g c = λ ends number asked.
    let content = g.F.Files.content c.args.files.now in
    let text = outcome_text c.in-Ok.outcome in (
      text,
      subst (λ (n : ℕ). IsDemonstrated number n text) (sym c.in-Ok-end.ensures.status) (shown_is content number c.in-Ok.outcome
          (explained_request content (g.F.Files.failed_name c.command.new.files) (spelled c.args.words.now) (demo number) asked c.in-Ok.outcome
          c.in-Ok.ensures.explained (subst IsDone c.in-Ok-end.ensures.status ends))),
      c.in-Ok-end.ensures.whole,
    )

pub returns-in-Ok-end-clause-demo_never_refused : goal.returns-in-Ok-end-clause-demo_never_refused
returns-in-Ok-end-clause-demo_never_refused g c = λ number asked.
    let ends = demo_ends (g.F.Files.content c.args.files.now) (g.F.Files.failed_name c.command.new.files) (spelled c.args.words.now) number asked
    c.in-Ok.outcome c.in-Ok.ensures.explained in
    elim (subst IsDone (sym c.in-Ok-end.ensures.status) ends) [
      | inl zero ↦ inl zero
      | inr large ↦ inr (inr (inr large))
    ]

pub returns-in-Ok-end-clause-complete : goal.returns-in-Ok-end-clause-complete
returns-in-Ok-end-clause-complete g c = λ memory unread unwritten unput request asked.
    let content = g.F.Files.content c.args.files.now in
    subst (λ (n : ℕ). IsComplete content request n) (sym c.in-Ok-end.ensures.status) (complete_is content (g.F.Files.failed_name c.command.new.files)
    (spelled c.args.words.now) request asked c.in-Ok.outcome c.in-Ok.ensures.explained
    (λ fault. unread (rw c.finish-end.ensures.reads.read_faults (c.in-Ok.ensures.counted.read_faults.rose fault))))

pub returns-in-Ok-end-clause-told : goal.returns-in-Ok-end-clause-told
returns-in-Ok-end-clause-told g c = λ written memory. (
  c.in-Ok.outcome,
  c.in-Ok-end.ensures.status,
  rw c.finish-end.ensures.reads.failed_name c.in-Ok.ensures.explained,
  wrote_since g.F.Files c.args.files.now c.command.new.files c.finish-end.new.files c.in-Ok.ensures.only_read (outcome_outputs c.in-Ok.outcome) _
      c.in-Ok-end.ensures.wrote,
  c.in-Ok-end.ensures.whole,
)

-- a status with which nothing is written
abbrev IsSmall : ℕ → Type 0
IsSmall n = (n ≡ 1) ⊎ (n ≡ 2) ⊎ (n ≡ 3) ⊎ (n ≡ 6)

pub returns-in-Ok-end-clause-refused_writes_none : goal.returns-in-Ok-end-clause-refused_writes_none
returns-in-Ok-end-clause-refused_writes_none g c = λ small.
    only_read_since g.F.Files c.args.files.now c.command.new.files c.finish-end.new.files c.in-Ok.ensures.only_read
    (c.finish-end.ensures.unwritten (status_unwritten c.in-Ok.outcome (subst IsSmall c.in-Ok-end.ensures.status small)))

pub returns-in-Ok-end-clause-verified : goal.returns-in-Ok-end-clause-verified
returns-in-Ok-end-clause-verified g c = λ zero given verifies. (
  outcome_text c.in-Ok.outcome,
  verified_is (g.F.Files.content c.args.files.now) (g.F.Files.failed_name c.command.new.files) (spelled c.args.words.now) given verifies
      c.in-Ok.outcome c.in-Ok.ensures.explained (subst (λ (n : ℕ). n ≡ 0) c.in-Ok-end.ensures.status zero),
  c.in-Ok-end.ensures.whole,
)

pub returns-in-Ok-end-clause-in_order : goal.returns-in-Ok-end-clause-in_order
returns-in-Ok-end-clause-in_order g c =
    read_told (g.F.Files.reads c.args.files.now) (g.F.Files.reads c.command.new.files) (taken (spelled c.args.words.now)) (g.F.Files.reads c.finish-end.new.files)
    c.in-Ok.outcome _ c.in-Ok.ensures.in_order c.finish-end.ensures.reads.reads c.in-Ok-end.ensures.status

pub returns-in-Err-Failed-clause-in_order : goal.returns-in-Err-Failed-clause-in_order
returns-in-Err-Failed-clause-in_order g c =
    read_some (g.F.Files.reads c.args.files.now) (g.F.Files.reads c.command.new.files) (taken (spelled c.args.words.now)) (g.F.Files.reads c.finish-end.new.files)
    _ 4 c.in-Ok.ensures.in_order c.finish-end.ensures.reads.reads (omega arith) (omega arith)

pub returns-in-Err-NoMemory-clause-in_order : goal.returns-in-Err-NoMemory-clause-in_order
returns-in-Err-NoMemory-clause-in_order g c =
    read_some (g.F.Files.reads c.args.files.now) (g.F.Files.reads c.command.new.files) (taken (spelled c.args.words.now)) (g.F.Files.reads c.finish-end.new.files)
    _ 5 c.in-Ok.ensures.in_order c.finish-end.ensures.reads.reads (omega arith) (omega arith)
