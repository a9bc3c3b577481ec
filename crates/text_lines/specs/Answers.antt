-- What a text may be answered.
use Rattle.std.specs.Prelude.{ℕ, ◌≡◌, Result, Ok, Err}
use Rattle.rv_word.specs.declared.end.End.{End}
use Rattle.rv_word.specs.declared.end.End.TheVariants.{Fault, NoMemory}
use Rattle.text_lines.specs.declared.reason.Reason.{Reason}
use Rattle.text_lines.specs.declared.fault.LineFault.{LineFault}

-- the line with this number fails for this reason
abbrev pub line_fault : ℕ → Reason → End LineFault
line_fault number reason = Fault (record { 0 = number; 1 = reason })

-- an answer is the right one; only want of memory is free
abbrev pub Answers : {A : Type 0} → Result A (End LineFault) → Result A (End LineFault) → Type 0
Answers (Ok x) right = right ≡ Ok x
Answers (Err (Fault fault)) right = right ≡ Err (Fault fault)
Answers (Err NoMemory) right = Unit {0}

-- where memory did not end
abbrev pub UnlessNoMemory : {A : Type 0} → Result A (End LineFault) → Type 0 → Type 0
UnlessNoMemory (Ok x) p = p
UnlessNoMemory (Err (Fault fault)) p = p
UnlessNoMemory (Err NoMemory) p = Unit {0}

-- after want of memory
abbrev pub AfterNoMemory : {A : Type 0} → Result A (End LineFault) → Type 0 → Type 0
AfterNoMemory (Ok x) p = Unit {0}
AfterNoMemory (Err (Fault fault)) p = Unit {0}
AfterNoMemory (Err NoMemory) p = p
