-- A system call that is made on states that are the same to the program leaves such states: it reads
-- no register but x10 to x15 and x17, and no memory but data.
use Rattle.std.proofs.Common.{◌≡◌, ℕ, ◌+◌, ◌%◌, ◌^◌, ◌==◌, ◌||◌, true, false, Bool, List, [], ◌∷◌, ◌++◌, length, take, drop, min, if◌then◌else◌, refl, ap, ◌∙◌, arith}
use Rattle.std.specs.Prelude.{nat_le}
use Rattle.std.proofs.lemmas.Bool.{leb-true}
use Rattle.cfi_runs.proofs.Prelude.{placed, Registers, Hart, Shared, After, bytes_of, event_of, answers, ends, system_call, write_call, read_call, reads_input, writes_output, bad_address, bad_descriptor, no_such_call, Event, Exit, SameRegisters, SameData}
use Rattle.cfi_runs.proofs.Same.{same_put, bytes_alike, placed_alike}
use Rattle.cfi_runs.proofs.Alike.{AlikeAfter}

-- a choice by a test that comes out the same
choice_alike : (b c : Bool) (x y x' y' : After) → c ≡ b → (b ≡ true → AlikeAfter x x') → (b ≡ false → AlikeAfter y y') →
    AlikeAfter (if b then x else y) (if c then x' else y')
choice_alike true c x y x' y' e one other = rw e (one refl)
choice_alike false c x y x' y' e one other = rw e (other refl)

-- wherever the program's own call is made
module _ (r : Registers) (at : ℕ) (h : Hart) (same : SameRegisters r h.regs) where
  abbrev own : Hart
  own = record { pc = at; regs = r }

  event_alike : (bytes bytes' : List ℕ) (answer answer' : ℕ) → bytes' ≡ bytes → answer' ≡ answer → event_of h bytes' answer' ≡ event_of own bytes answer
  event_alike bytes bytes' answer answer' e f =
      rw (same.same 17 refl, same.same 10 refl, same.same 11 refl, same.same 12 refl, same.same 13 refl, same.same 14 refl, same.same 15 refl, e, f) refl

  events_alike : (t s : Shared) (bytes bytes' : List ℕ) (answer answer' : ℕ) → SameData t s → bytes' ≡ bytes → answer' ≡ answer →
      s.events ++ event_of h bytes' answer' ∷ [] ≡ t.events ++ event_of own bytes answer ∷ []
  events_alike t s bytes bytes' answer answer' alike e f =
      ap (λ (old : List Event). old ++ event_of h bytes' answer' ∷ []) alike.events
      ∙ ap (λ (new : Event). t.events ++ new ∷ []) (event_alike bytes bytes' answer answer' e f)

  answers_alike : (t s : Shared) (bytes bytes' : List ℕ) (answer answer' : ℕ) → SameData t s → bytes' ≡ bytes → answer' ≡ answer →
      AlikeAfter (answers own t bytes answer) (answers h s bytes' answer')
  answers_alike t s bytes bytes' answer answer' alike e f = record {
    turn = refl;
    regs = same_put r h.regs 10 answer answer' f same;
    shared = record { memory = alike.memory; left = alike.left; output = alike.output; events = events_alike t s bytes bytes' answer answer' alike e f };
  }

  module _ (t s : Shared) (alike : SameData t s) where
    told_alike : (answer : ℕ) → AlikeAfter (answers own t [] answer) (answers h s [] answer)
    told_alike answer = answers_alike t s [] [] answer answer alike refl refl

    inside_same : nat_le (h.regs 11 + h.regs 12) (2 ^ 28) ≡ nat_le (r 11 + r 12) (2 ^ 28)
    inside_same = ap (λ (x : ℕ). nat_le (x + h.regs 12) (2 ^ 28)) (same.same 11 refl) ∙ ap (λ (x : ℕ). nat_le (r 11 + x) (2 ^ 28)) (same.same 12 refl)

    writes_alike : nat_le (r 11 + r 12) (2 ^ 28) ≡ true → AlikeAfter (writes_output own t) (writes_output h s)
    writes_alike inside =
        let low = leb-true _ _ inside in
        let written : bytes_of s.memory (h.regs 11) (h.regs 12) ≡ bytes_of t.memory (r 11) (r 12) =
        ap (λ (a : ℕ). bytes_of s.memory a (h.regs 12)) (same.same 11 refl)
        ∙ ap (bytes_of s.memory (r 11)) (same.same 12 refl)
        ∙ bytes_alike (r 12) t.memory s.memory (r 11) (omega arith) alike.memory in
        let after : SameData (record t { output = t.output ++ bytes_of t.memory (r 11) (r 12) }) (record s { output = s.output ++ bytes_of s.memory (h.regs 11) (h.regs 12) }) = record { memory = alike.memory; left = alike.left; output = ap (λ (old : List ℕ). old ++ bytes_of s.memory (h.regs 11) (h.regs 12)) alike.output ∙ ap (λ (new : List ℕ). t.output ++ new) written; events = alike.events } in
        answers_alike _ _ _ _ _ _ after written (same.same 12 refl)

    reads_alike : AlikeAfter (reads_input own t) (reads_input h s)
    reads_alike =
        let count : min (h.regs 12) (length s.left) ≡ min (r 12) (length t.left) =
        ap (λ (n : ℕ). min n (length s.left)) (same.same 12 refl) ∙ ap (λ (xs : List ℕ). min (r 12) (length xs)) alike.left in
        let bytes : take (min (h.regs 12) (length s.left)) s.left ≡ take (min (r 12) (length t.left)) t.left =
        ap (λ (n : ℕ). take n s.left) count ∙ ap (take (min (r 12) (length t.left))) alike.left in
        let rest : drop (min (h.regs 12) (length s.left)) s.left ≡ drop (min (r 12) (length t.left)) t.left =
        ap (λ (n : ℕ). drop n s.left) count ∙ ap (drop (min (r 12) (length t.left))) alike.left in
        let after : SameData
        (record t { memory = placed t.memory (r 11) (take (min (r 12) (length t.left)) t.left); left = drop (min (r 12) (length t.left)) t.left })
        (record s { memory = placed s.memory (h.regs 11) (take (min (h.regs 12) (length s.left)) s.left); left = drop (min (h.regs 12) (length s.left)) s.left }) = record {
          memory = λ a low.
              ap (λ (start : ℕ). placed s.memory start (take (min (h.regs 12) (length s.left)) s.left) a) (same.same 11 refl)
              ∙ ap (λ (xs : List ℕ). placed s.memory (r 11) xs a) bytes
              ∙ placed_alike (take (min (r 12) (length t.left)) t.left) t.memory s.memory (r 11) alike.memory a low;
          left = rest;
          output = alike.output;
          events = alike.events;
        } in
        answers_alike _ _ [] [] _ _ after refl count

    write_alike : AlikeAfter (write_call own t) (write_call h s)
    write_alike =
        choice_alike (r 10 == 1 || r 10 == 2) (h.regs 10 == 1 || h.regs 10 == 2) _ _ _ _ (ap (λ (x : ℕ). x == 1 || x == 2) (same.same 10 refl))
        (λ right. choice_alike _ _ _ _ _ _ inside_same writes_alike (λ outside. told_alike bad_address))
        (λ wrong. told_alike bad_descriptor)

    read_alike : AlikeAfter (read_call own t) (read_call h s)
    read_alike =
        choice_alike (r 10 == 0) (h.regs 10 == 0) _ _ _ _ (ap (λ (x : ℕ). x == 0) (same.same 10 refl))
        (λ right. choice_alike _ _ _ _ _ _ inside_same (λ inside. reads_alike) (λ outside. told_alike bad_address))
        (λ wrong. told_alike bad_descriptor)

    ends_alike : AlikeAfter (ends own t) (ends h s)
    ends_alike = record {
      turn = ap (λ (x : ℕ). Exit (x % 2 ^ 8)) (same.same 10 refl);
      regs = same;
      shared = record { memory = alike.memory; left = alike.left; output = alike.output; events = events_alike t s [] [] 0 0 alike refl refl };
    }

    pub call_alike : AlikeAfter (system_call own t) (system_call h s)
    call_alike =
        choice_alike (r 17 == 64) (h.regs 17 == 64) _ _ _ _ (ap (λ (x : ℕ). x == 64) (same.same 17 refl)) (λ is. write_alike)
        (λ no. choice_alike (r 17 == 63) (h.regs 17 == 63) _ _ _ _ (ap (λ (x : ℕ). x == 63) (same.same 17 refl)) (λ is. read_alike)
        (λ nor. choice_alike (r 17 == 93 || r 17 == 94) (h.regs 17 == 93 || h.regs 17 == 94) _ _ _ _ (ap (λ (x : ℕ). x == 93 || x == 94) (same.same 17 refl))
        (λ is. ends_alike) (λ rest. told_alike no_such_call)))
