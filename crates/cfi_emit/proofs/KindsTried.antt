-- Each kind of units is one that is tried, so where none of these begins a list no unit is recognised there.
use Rattle.std.proofs.Common.{◌≡◌, ℕ, ◌<◌, arith, inl, inr, refl, List, length}
use Rattle.std.specs.Prelude.{None, slice_index_or}
use Rattle.std.specs.List.{All}
use Rattle.rv_word.proofs.Cases.{cases_Option}
use Rattle.cfi_unit.specs.declared.mask.Mask.TheVariants.{Shifts, Short, Long}
use Rattle.cfi_unit.specs.declared.pattern.End.{End}
use Rattle.cfi_unit.specs.declared.pattern.End.TheVariants as E
use Rattle.cfi_emit.specs.declared.recogniser.TheConstants as kinds
use Rattle.cfi_unit.specs.declared.unit.Unit as U
use Rattle.cfi_unit.specs.declared.target_word.TargetWord.TheVariants.{First, Second, Third}
use Rattle.cfi_unit.specs.Laws.{AreWords}
use Rattle.cfi_unit.specs.NoneBegins.{NoneBegins}
use Rattle.cfi_unit.specs.UnitWords.{Begins}
use Rattle.cfi_unit.specs.Recognise.{recognised}
use Rattle.cfi_unit.specs.ShapeOf.{shape_of}
use Rattle.cfi_unit.proofs.Told.{recognised_begins}

-- where a kind stands in the list
place : (end : End) → (k : ℕ) × ((k < length kinds.KINDS) × (end ≡ slice_index_or kinds.KINDS k end))
place E.Gate = (0, (omega arith, refl))
place E.Plain = (1, (omega arith, refl))
place E.Stop = (2, (omega arith, refl))
place E.Jump = (3, (omega arith, refl))
place E.Ecall = (4, (omega arith, refl))
place E.Ebreak = (5, (omega arith, refl))
place E.Near = (6, (omega arith, refl))
place E.Branch = (7, (omega arith, refl))
place E.Over = (8, (omega arith, refl))
place E.Call = (9, (omega arith, refl))
place (E.Ijump First) = (10, (omega arith, refl))
place (E.Ijump Second) = (11, (omega arith, refl))
place (E.Ijump Third) = (12, (omega arith, refl))
place E.Icall = (13, (omega arith, refl))
place E.Return = (14, (omega arith, refl))
place E.Guarded = (15, (omega arith, refl))
place (E.Full Shifts) = (16, (omega arith, refl))
place (E.Stores Shifts) = (17, (omega arith, refl))
place (E.Full Short) = (18, (omega arith, refl))
place (E.Stores Short) = (19, (omega arith, refl))
place (E.Full Long) = (20, (omega arith, refl))
place (E.Stores Long) = (21, (omega arith, refl))
place E.LinkCall = (22, (omega arith, refl))
place E.Enter = (23, (omega arith, refl))
place E.LeanIjump = (24, (omega arith, refl))
place E.LeanIcall = (25, (omega arith, refl))
place E.LeafReturn = (26, (omega arith, refl))

pub none_begins : (ws : List ℕ) (at : ℕ) → All (λ end. NoneBegins end ws at) kinds.KINDS → (u : U.Unit) → Begins ws at u → ⊥
none_begins ws at none u b = let (k, (few, is)) = place (shape_of u at).end in none k (shape_of u at).end few u b is

pub none_recognised : (ws : List ℕ) (at : ℕ) → AreWords ws → All (λ end. NoneBegins end ws at) kinds.KINDS → recognised ws at ≡ None
none_recognised ws at words none =
    elim (cases_Option (recognised ws at)) [
      | inl nothing ↦ nothing
      | inr some ↦ absurd (none_begins ws at none some.0 (recognised_begins ws at some.0 words some.1))
    ]
