-- Standing code and what every word keeps: a step at a standing word executes its instruction, and
-- changes of data, or of what no pending site's slot holds, keep the context.
use Rattle.std.proofs.Common.{◌≡◌, ℕ, zero, suc, ◌+◌, ◌*◌, ◌<◌, ◌≤◌, ◌⊎◌, inl, inr, List, [], ◌∷◌, ◌++◌, length, length-append, Some, true, refl, ap, ◌∙◌, arith}
use Rattle.std.specs.Prelude.{slice_get}
use Rattle.std.proofs.lemmas.Option.{slice_get_within}
use Rattle.rv_image.specs.MemoryMap.{Profile, CODE_START, CODE_SIZE, CODE_TAIL, DATA_END, SHADOW_START, PART_SIZE}
use Rattle.rv_word.specs.Memory.{Memory, read, write}
use Rattle.rv_word.specs.Same.{SameOn}
use Rattle.rv_instr.specs.declared.instr.Instr.{Instr}
use Rattle.rv_code.specs.Decode.{decoded}
use Rattle.rv_code.specs.State.{Hart, Shared, After}
use Rattle.rv_code.specs.Step.{step, exec, can_fetch}
use Rattle.rv_code.proofs.Steps.{by_step, can_fetch_word}
use Rattle.rv_code.proofs.Frames.{read_same, write_outside}
use Rattle.cfi_unit.specs.Shadow.{slot, MOST_PENDING, Holds}
use Rattle.cfi_unit.specs.Stand.{Stand}
use Rattle.cfi_unit.specs.Context.{Kept, Context}

module _ {part : ℕ} {image base : Memory} {pending : List ℕ} {s : Shared} {at : ℕ} {instrs : List Instr} where
  -- what holds after the instruction's execution holds after the step
  pub at_word : (R : After → Type 0) (p : Profile) (h : Hart) → Context part image base pending s → Stand image at instrs →
      (k : ℕ) (i : Instr) → slice_get instrs k ≡ Some i → h.pc ≡ at + 4 * k → R (exec p i h s) → R (step p h s)
  at_word R p h c w k i is e r =
      let below : k < length instrs = slice_get_within instrs k i is in
      let round = w.round in
      let first = w.low in
      let last = w.high in
      let place : can_fetch (at + 4 * k) ≡ true = can_fetch_word (at + 4 * k) (omega arith) (omega arith) (omega arith) in
      let same : read 4 s.memory (at + 4 * k) ≡ read 4 image (at + 4 * k) =
      read_same 4 image s.memory (at + 4 * k) (λ j low high. c.kept.code j (omega arith) (omega arith)) in
      let word : decoded (read 4 s.memory h.pc) ≡ Some i =
      ap (λ a. decoded (read 4 s.memory a)) e ∙ ap decoded same ∙ w.words k i is in
      by_step R p h s i (record { going = c.going; place = ap can_fetch e ∙ place; word = word }) r

pub slice_get-front : {A : Type 0} (front back : List A) (k : ℕ) (x : A) → slice_get front k ≡ Some x →
    slice_get (front ++ back) k ≡ Some x
slice_get-front [] back k x is = absurd (cc)
slice_get-front (y ∷ front) back zero x is = is
slice_get-front (y ∷ front) back (suc k) x is = slice_get-front front back k x is

pub slice_get-back : {A : Type 0} (front back : List A) (k : ℕ) → slice_get (front ++ back) (length front + k) ≡ slice_get back k
slice_get-back [] back k = ap (slice_get back) (let e : 0 + k ≡ k = omega arith in e)
slice_get-back (y ∷ front) back k =
    let e : suc (length front) + k ≡ suc (length front + k) = omega arith in
    ap (slice_get (y ∷ (front ++ back))) e ∙ slice_get-back front back k

-- the front and the back of standing code stand
module _ {m : Memory} {at : ℕ} where
  pub stand_front : (front back : List Instr) → Stand m at (front ++ back) → Stand m at front
  stand_front front back w = record {
    round = w.round;
    low = w.low;
    high = let all = w.high in let sum = length-append front back in omega arith;
    words = λ k i is. w.words k i (slice_get-front front back k i is);
  }

  pub stand_back : (front back : List Instr) → Stand m at (front ++ back) → Stand m (at + 4 * length front) back
  stand_back front back w = record {
    round = let round = w.round in omega arith;
    low = let low = w.low in omega arith;
    high = let all = w.high in let sum = length-append front back in omega arith;
    words = λ k i is.
        let e : at + 4 * length front + 4 * k ≡ at + 4 * (length front + k) = omega arith in
        ap (λ a. decoded (read 4 m a)) e ∙ w.words (length front + k) i (slice_get-back front back k ∙ is);
  }

-- the pending sites stand below the next slot
pub holds_same : (part : ℕ) (pending : List ℕ) (m m' : Memory) → SameOn part (slot part (length pending)) m m' →
    Holds part m pending → Holds part m' pending
holds_same part [] m m' same held = tt
holds_same part (site ∷ pending) m m' same held = (
  read_same 8 m m' (slot part (length pending)) (λ k low high. same k (omega arith) (omega arith)) ∙ held.0,
  holds_same part pending m m' (λ k low high. same k low (omega arith)) held.1,
)

module _ {part : ℕ} {image base : Memory} {pending : List ℕ} {m : Memory} where
  -- changes of data keep everything
  pub kept_data : SHADOW_START ≤ part → Kept part image base pending m → (m' : Memory) →
      ((k : ℕ) → DATA_END ≤ k → m' k ≡ m k) → Kept part image base pending m'
  kept_data low c m' same = record {
    code = λ k from to. same k (omega arith) ∙ c.code k from to;
    held = holds_same part pending m m' (λ k from to. same k (omega arith)) c.held;
    frame = λ k from out. same k from ∙ c.frame k from out;
  }

  -- so do changes outside of code and of the own part, seen from the memory after them
  pub kept_changed : length pending ≤ MOST_PENDING → Kept part image base pending m → (m' : Memory) →
      SameOn CODE_START (CODE_START + CODE_SIZE + CODE_TAIL) m m' → SameOn part (part + PART_SIZE) m m' → Kept part image m' pending m'
  kept_changed most c m' code own = record {
    code = λ k from to. code k from to ∙ c.code k from to;
    held = holds_same part pending m m' (λ k from to. own k from (omega arith)) c.held;
    frame = λ k from out. refl;
  }

  -- and the write of a site into the next slot, which then is pending
  pub kept_push : SHADOW_START ≤ part → length pending < MOST_PENDING → (site : ℕ) → Kept part image base pending m →
      Kept part image base pending (write 8 m (slot part (length pending)) site)
  kept_push low room site c = record {
    code = λ k from to. write_outside 8 m (slot part (length pending)) site k (inl (omega arith)) ∙ c.code k from to;
    held = holds_same part pending m _ (λ k from to. write_outside 8 m (slot part (length pending)) site k (inl to)) c.held;
    frame = λ k from out. write_outside 8 m (slot part (length pending)) site k (outside k out) ∙ c.frame k from out;
  }
    where
      outside : (k : ℕ) → (k < part) ⊎ (part + PART_SIZE ≤ k) → (k < slot part (length pending)) ⊎ (slot part (length pending) + 8 ≤ k)
      outside k (inl below) = inl (omega arith)
      outside k (inr above) = inr (omega arith)

  pub kept_pending : (site : ℕ) → Kept part image base pending m → read 8 m (slot part (length pending)) ≡ site →
      Kept part image base (site ∷ pending) m
  kept_pending site c is = record { code = c.code; held = (is, c.held); frame = c.frame }

-- the newest site is taken off
pub kept_popped : {part : ℕ} {image base : Memory} {pending : List ℕ} {m : Memory} (site : ℕ) →
    Kept part image base (site ∷ pending) m → Kept part image base pending m
kept_popped site c = record { code = c.code; held = c.held.1; frame = c.frame }
