-- Code as it was decoded is that of the memory in which a run starts, and stays so under all that a machine does.
use Rattle.std.proofs.Common.{◌≡◌, ℕ, ◌+◌, ◌*◌, ◌≤◌, ◌<◌, inl, inr, List, [], ◌∷◌, ◌++◌, ◌⊎◌, length, get_or, Bool, true, false, Option, Some, None, refl, sym, ap, ◌∙◌, arith}
use Rattle.std.specs.Prelude.{slice_get, option_and_then, option_map, nat_le, IsSome}
use Rattle.std.proofs.lemmas.Bool.{leb-true, and_parts, or_cases, cases_lt}
use Rattle.std.proofs.lemmas.Option.{slice_get-map, slice_get_past, slice_get-get_or, get_or_from_slice_get}
use Rattle.std.proofs.lemmas.List.{length-append}
use Rattle.std.proofs.Math.ListN.{get_or-append}
use Rattle.std.proofs.Math.Seq.{get_or-append_seam}
use Rattle.rv_image.specs.Image.{Contents, loaded}
use Rattle.rv_image.specs.MemoryMap.{CODE_START, CODE_SIZE, DATA_START, DATA_END, SHADOW_START, can_store, lies_within, Profile}
use Rattle.rv_word.specs.Memory.{Memory, placed, read, write, zeros}
use Rattle.rv_word.specs.Same.{SameOn}
use Rattle.rv_instr.specs.declared.instr.Instr.{Instr}
use Rattle.rv_code.specs.Decode.{decoded}
use Rattle.rv_code.specs.State.{Hart, Shared, After}
use Rattle.rv_code.specs.SystemCall.{system_call}
use Rattle.rv_code.proofs.Calls as calls
use Rattle.rv_code.proofs.Calls.{AfterCall, answered, ended}
use Rattle.rv_code.proofs.Frames.{placed_outside, read_same, write_outside}
use Rattle.rv_machine.specs.Code.{AreKnown, IsCodeOf, instr_in, known_as}
use Rattle.rv_machine.specs.Ready.{instr_of}
use Rattle.rv_machine.specs.declared.ready.Ready.{Ready}

-- code is the same as long as nothing writes its region
pub code_kept : (instrs : List (Option Instr)) (m m' : Memory) → SameOn CODE_START (CODE_START + CODE_SIZE) m m' → IsCodeOf instrs m → IsCodeOf instrs m'
code_kept instrs m m' same is = record {
  within = is.within;
  each = λ k low. is.each k low ∙ ap decoded (sym (read_same 4 m m' (CODE_START + 4 * k) (λ j from to. same j (omega arith) (omega arith))));
}

pub code_same : (instrs : List (Option Instr)) (m m' : Memory) → m' ≡ m → IsCodeOf instrs m → IsCodeOf instrs m'
code_same instrs m m' e is = rw e is

is_true : (b : Bool) → (b ≡ false → ⊥) → b ≡ true
is_true true n = refl
is_true false n = absurd (n refl)

-- a store writes data or shadow
pub code_stored : (p : Profile) (instrs : List (Option Instr)) (m m' : Memory) (n a v : ℕ) → (can_store p a n ≡ false → ⊥) → m' ≡ write n m a v → IsCodeOf instrs m → IsCodeOf instrs m'
code_stored p instrs m m' n a v may e = code_kept instrs m m' (λ k from to. ap (λ (w : Memory). w k) e ∙ write_outside n m a v k (outside k from to))
  where
    outside : (k : ℕ) → CODE_START ≤ k → k < CODE_START + CODE_SIZE → (k < a) ⊎ (a + n ≤ k)
    outside k from to = elim (or_cases (lies_within 0 DATA_END a n) (lies_within SHADOW_START p.shadow_size a n) (is_true (can_store p a n) may)) [
      | inl low ↦ let below = leb-true (a + n) DATA_END (and_parts (nat_le 0 a) (nat_le (a + n) DATA_END) low).1 in inr (omega (arith, below))
      | inr high ↦ let above = leb-true SHADOW_START a (and_parts (nat_le SHADOW_START a) (nat_le (a + n) (SHADOW_START + p.shadow_size)) high).0 in inl (omega (arith, above))
    ]

-- a system call writes below 2 ^ 28
pub code_called : (instrs : List (Option Instr)) (h : Hart) (s : Shared) (after : After) → after ≡ system_call h s → IsCodeOf instrs s.memory → IsCodeOf instrs after.shared.memory
code_called instrs h s after e = rw e (by (calls.after_call h s))
  where
    by : AfterCall h s (system_call h s) → IsCodeOf instrs s.memory → IsCodeOf instrs (system_call h s).shared.memory
    by (answered ran pc regs last memory) = code_kept instrs s.memory _ (λ k from to. memory k (omega arith))
    by (ended status is same) = code_same instrs s.memory _ same

-- four zeros are no instruction
no_instr : (m : Memory) (a : ℕ) → SameOn a (a + 4) zeros m → decoded (read 4 m a) ≡ None
unfolding decoded
no_instr m a zero = rw (read_same 4 zeros m a zero) refl

-- without code, code holds zeros
pub code_none : (init : List ℕ) (m : Memory) → DATA_START + length init ≤ DATA_END → m ≡ placed zeros DATA_START init → IsCodeOf [] m
code_none init m fits e = record {
  within = omega arith;
  each = λ k low. sym (no_instr m (CODE_START + 4 * k) (λ j from to. ap (λ (w : Memory). w j) e ∙ placed_outside zeros DATA_START init j (inr (omega arith))));
}

-- the code of an image, with zeros past it
pub code_loaded : (image : Contents) (m : Memory) (instrs : List (Option Instr)) (n : ℕ) → m ≡ loaded image → 4 * n ≡ length image.code → length image.code ≤ CODE_SIZE → DATA_START + length image.init ≤ DATA_END → length instrs ≡ n →
    ((k : ℕ) → k < n → slice_get instrs k ≡ Some (decoded (read 4 m (CODE_START + 4 * k)))) → IsCodeOf instrs m
unfolding loaded
code_loaded image m instrs n e whole room fits count is = record {
  within = omega arith;
  each = λ k low. elim (cases_lt k n) [
    | inl inside ↦ ap (option_and_then (λ instr. instr)) (is k inside)
    | inr past ↦ ap (option_and_then (λ instr. instr)) (slice_get_past instrs k (omega arith)) ∙ sym (no_instr m (CODE_START + 4 * k) (beyond k past))
  ];
}
  where
    beyond : (k : ℕ) → n ≤ k → SameOn (CODE_START + 4 * k) (CODE_START + 4 * k + 4) zeros m
    beyond k past j from to =
        ap (λ (w : Memory). w j) e ∙ placed_outside (placed zeros DATA_START image.init) CODE_START image.code j (inr (omega arith))
        ∙ placed_outside zeros DATA_START image.init j (inr (omega arith))

-- a word that was read at a place, and decoded
pub decoded_at : (instr : Option Instr) (m : Memory) (a : ℕ) {word : ℕ} {m' : Memory} {a' : ℕ} → instr ≡ decoded word → word ≡ read 4 m' a' → m' ≡ m → a' ≡ a → instr ≡ decoded (read 4 m a)
decoded_at instr m a {m'} {a'} is was p q = is ∙ ap decoded (was ∙ ap (λ n. read 4 n a') p ∙ ap (λ k. read 4 m k) q)

-- a list of decoded words that grows by the next one
pub one_more : (f : ℕ → Option Instr) (xs more : List (Option Instr)) (k : ℕ) (x : Option Instr) → more ≡ xs ++ x ∷ [] → length xs ≡ k → x ≡ f k → ((j : ℕ) → j < k → slice_get xs j ≡ Some (f j)) → (j : ℕ) → j < k + 1 → slice_get more j ≡ Some (f j)
one_more f xs more k x grown count here is j low =
    let longer : length (xs ++ x ∷ []) ≡ k + 1 = omega (arith, length-append xs (x ∷ [])) in
    ap (λ (ys : List (Option Instr)). slice_get ys j) grown ∙ slice_get-get_or (xs ++ x ∷ []) j (f j) (omega arith) ∙ ap Some (elim (cases_lt j k) [
      | inl inside ↦ get_or-append xs (x ∷ []) (f j) j (omega arith) ∙ get_or_from_slice_get xs j (f j) (f j) (is j inside)
      | inr past ↦
          let last : j ≡ length xs = omega arith in
          let same : k ≡ j = omega arith in
          ap (λ i. get_or (xs ++ x ∷ []) i (f j)) last ∙ get_or-append_seam xs x [] (f j) ∙ here ∙ ap f same
    ])

-- the word of an index, as it is kept for who knows that it is an instruction
pub known_there : (instrs : List (Option Instr)) (known : List Ready) (k : ℕ) (instr : Instr) → AreKnown instrs known → instr_in instrs k ≡ Some instr → option_map instr_of (slice_get known k) ≡ Some instr
known_there instrs known k instr are is =
    sym (slice_get-map instr_of known k) ∙ ap (λ (xs : List Instr). slice_get xs k) are.each ∙ slice_get-map known_as instrs k ∙ by (slice_get instrs k) is
  where
    by : (o : Option (Option Instr)) → option_and_then (λ instr. instr) o ≡ Some instr → option_map known_as o ≡ Some instr
    by None e = absurd (cc)
    by (Some None) e = absurd (cc)
    by (Some (Some other)) e = e

pub known_is : (instrs : List (Option Instr)) (known : List Ready) (k : ℕ) (ready : Ready) → AreKnown instrs known → IsSome (instr_in instrs k) → ready ≡ get_or known k ready → instr_in instrs k ≡ Some (instr_of ready)
known_is instrs known k ready are some got = by (instr_in instrs k) refl some
  where
    found : (o : Option Ready) (instr : Instr) → slice_get known k ≡ o → option_map instr_of o ≡ Some instr → Some instr ≡ Some (instr_of ready)
    found None instr is there = absurd (cc)
    found (Some one) instr is there = sym there ∙ ap (λ (r : Ready). Some (instr_of r)) (sym (got ∙ get_or_from_slice_get known k one ready is))

    by : (o : Option Instr) → instr_in instrs k ≡ o → IsSome o → o ≡ Some (instr_of ready)
    by None e none = absurd (cc)
    by (Some instr) e there = found (slice_get known k) instr refl (known_there instrs known k instr are e)
