-- A unit's words in a list: how many they are, what follows them, and that they begin it.
use Rattle.std.proofs.Common.{◌≡◌, ℕ, zero, suc, ap, sym, ◌∙◌, refl, arith, List, [], ◌∷◌, ◌++◌, length, drop, true}
use Rattle.std.specs.Prelude.{nat_eq, take}
use Rattle.std.specs.List.{starts_with}
use Rattle.std.proofs.lemmas.Bool.Decides.{Decides-eqb}
use Rattle.std.proofs.lemmas.List.{take-append-drop}
use Rattle.std.proofs.lemmas.Slice.Eq.{starts_is}
use Rattle.std.proofs.Math.Seq.{take-append_seam, drop-append_seam}
use Rattle.cfi_unit.specs.declared.mask.Mask.TheVariants.{Shifts, Short, Long}
use Rattle.cfi_unit.specs.declared.unit.Unit as U
use Rattle.cfi_unit.specs.declared.unit.Unit.TheVariants as V
use Rattle.cfi_unit.specs.UnitWords.{Begins, Fits, instr_at, may_precede, word_count, words_of}
use Rattle.cfi_unit.proofs.GuardedWords.{guarded_counted}
use Rattle.cfi_unit.proofs.MemberWords.{members_counted}

pub words_counted : (u : U.Unit) (at : ℕ) → length (words_of u at) ≡ word_count u
unfolding words_of
words_counted (V.Guarded ns) at = guarded_counted ns at
words_counted (V.Stores Shifts rs1 imm members) at = let counted = members_counted members in omega arith
words_counted (V.Stores Short rs1 imm members) at = let counted = members_counted members in omega arith
words_counted (V.Stores Long rs1 imm members) at = let counted = members_counted members in omega arith
words_counted other at = refl

-- what follows a unit's words
pub after_words : (u : U.Unit) (at : ℕ) (rest : List ℕ) → drop (word_count u) (words_of u at ++ rest) ≡ rest
after_words u at rest =
    ap (λ n. drop n (words_of u at ++ rest)) (sym (words_counted u at)) ∙ drop-append_seam (words_of u at) rest

-- an instruction of what follows some words is the list's
pub next_instr : (n : ℕ) (ws : List ℕ) → instr_at (drop n ws) 0 ≡ instr_at ws n
next_instr zero ws = refl
next_instr (suc n) [] = refl
next_instr (suc n) (w ∷ ws) = next_instr n ws

-- the words of a unit that fits begin with it
pub begins : (u : U.Unit) (at : ℕ) (rest : List ℕ) → Fits u at → may_precede u at rest ≡ true → Begins (words_of u at ++ rest) at u
begins u at rest f ahead = record {
  fits = f;
  words_are = rw (← words_counted u at) (take-append_seam (words_of u at) rest);
  ahead = ap (may_precede u at) (after_words u at rest) ∙ ahead;
}

-- a unit begins a list where its words do, and what follows them may
pub begins_by : (ws code : List ℕ) (at : ℕ) (u : U.Unit) → Fits u at → code ≡ words_of u at → starts_with nat_eq ws code ≡ true →
    may_precede u at (drop (word_count u) ws) ≡ true → Begins ws at u
begins_by ws code at u f is starts ahead =
    let parts : ws ≡ words_of u at ++ drop (length (words_of u at)) ws =
    (starts_is Decides-eqb ws (words_of u at) (starts_with nat_eq ws (words_of u at)) refl).0 (ap (starts_with nat_eq ws) (sym is) ∙ starts) in
    record {
      fits = f;
      words_are =
          ap (λ (l : List ℕ). take (word_count u) l) parts
          ∙ rw (← words_counted u at) (take-append_seam (words_of u at) (drop (length (words_of u at)) ws));
      ahead = ahead;
    }

-- its words and what follows them
pub begun_parts : (ws : List ℕ) (at : ℕ) (u : U.Unit) → Begins ws at u → words_of u at ++ drop (word_count u) ws ≡ ws
begun_parts ws at u b = ap (λ (p : List ℕ). p ++ drop (word_count u) ws) (sym b.words_are) ∙ take-append-drop (word_count u) ws

pub begun_starts : (ws code : List ℕ) (at : ℕ) (u : U.Unit) → Begins ws at u → code ≡ words_of u at → starts_with nat_eq ws code ≡ true
begun_starts ws code at u b is =
    ap (starts_with nat_eq ws) is
    ∙ (starts_is Decides-eqb ws (words_of u at) (starts_with nat_eq ws (words_of u at)) refl).1 (drop (word_count u) ws) (sym (begun_parts ws at u b))
