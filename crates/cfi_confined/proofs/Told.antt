-- An instruction, and where it leads, tell which calls are pending after it.
use Rattle.std.proofs.Common.{◌≡◌, ℕ, inl, inr, List, drop, sym, ap, ◌∙◌, Some, None, arith}
use Rattle.cfi_confined.proofs.Prelude.{Branch, Jal, Jalr, GraphParts, ComputedMoves, PendingIsTold}
use Rattle.cfi_graph.specs.declared.line.SiteKind.TheVariants as K

apart : (rd : ℕ) → rd ≡ 0 → rd ≡ 1 → ⊥
apart rd zero_is one_is = omega arith

-- a jump and a return are told apart by the site line
computed_told : (graph : GraphParts) (pc : ℕ) (pending : List ℕ) (to : ℕ) (newer other : List ℕ) → ComputedMoves graph pc pending to newer →
    ComputedMoves graph pc pending to other → newer ≡ other
computed_told graph pc pending to newer other (inl m) (inl n) = ap (λ (l : List ℕ). drop 1 l) (sym m.1 ∙ n.1)
computed_told graph pc pending to newer other (inl m) (inr n) = absurd (m.0 K.Jump n.0.label n.0.listed)
computed_told graph pc pending to newer other (inr m) (inl n) = absurd (n.0 K.Jump m.0.label m.0.listed)
computed_told graph pc pending to newer other (inr m) (inr n) = m.1 ∙ sym n.1

pub pending_told : PendingIsTold
pending_told p graph code None pc pending to newer other m n = absurd m
pending_told p graph code (Some (Branch op rs1 rs2 imm)) pc pending to newer other m n = m.1 ∙ sym n.1
pending_told p graph code (Some (Jal rd imm)) pc pending to newer other (inl m) (inl n) = m.2 ∙ sym n.2
pending_told p graph code (Some (Jal rd imm)) pc pending to newer other (inl m) (inr n) = absurd (apart rd m.0 n.0)
pending_told p graph code (Some (Jal rd imm)) pc pending to newer other (inr m) (inl n) = absurd (apart rd n.0 m.0)
pending_told p graph code (Some (Jal rd imm)) pc pending to newer other (inr m) (inr n) = m.2 ∙ sym n.2
pending_told p graph code (Some (Jalr rd rs1 imm)) pc pending to newer other (inl m) (inl n) = computed_told graph pc pending to newer other m.1 n.1
pending_told p graph code (Some (Jalr rd rs1 imm)) pc pending to newer other (inl m) (inr n) = absurd (apart rd m.0 n.0)
pending_told p graph code (Some (Jalr rd rs1 imm)) pc pending to newer other (inr m) (inl n) = absurd (apart rd n.0 m.0)
pending_told p graph code (Some (Jalr rd rs1 imm)) pc pending to newer other (inr m) (inr n) = m.2 ∙ sym n.2
pending_told p graph code (Some instr) pc pending to newer other m n = m.1 ∙ sym n.1
