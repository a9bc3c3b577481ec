-- Each shape of the table is one of a unit: a unit for each.
use Rattle.std.proofs.lemmas.Bool.{ne_eqb}
use Rattle.std.proofs.Common.{◌≡◌, ◌≢◌, ℕ, zero, suc, ◌+◌, ◌*◌, ◌==◌, ◌<◌, ◌≤◌, refl, ap, sym, ◌∙◌, lit<, inl, inr, ◌++◌, length, arith}
use Rattle.std.specs.Prelude.{drop, if◌then◌else◌, replicate, take}
use Rattle.std.specs.List.{AllByRecursion}
use Rattle.std.proofs.lemmas.List.{length-replicate}
use Rattle.rv_word.specs.Numbers.{IsNumber}
use Rattle.rv_instr.specs.declared.instr.Instr.TheVariants.{Upper}
use Rattle.rv_instr.specs.declared.instr.UpperOp.TheVariants.{Auipc}
use Rattle.rv_instr.specs.declared.instr.BranchOp.TheVariants.{Beq}
use Rattle.cfi_unit.specs.declared.pattern.End.TheVariants as E
use Rattle.cfi_unit.specs.declared.target_word.TargetWord.TheVariants.{First, Second, Third}
use Rattle.cfi_unit.specs.declared.mask.Mask.{Mask}
use Rattle.cfi_unit.specs.declared.mask.Mask.TheVariants.{Shifts, Short, Long}
use Rattle.cfi_unit.specs.declared.unit.Unit as U
use Rattle.cfi_unit.specs.declared.unit.Unit.TheVariants as V
use Rattle.cfi_unit.specs.declared.unit.SystemOp.TheVariants as S
use Rattle.cfi_unit.specs.Members.{FILLER, IsMember}
use Rattle.cfi_unit.specs.UnitWords.{BAD_TARGET, Fits, MaskFits}
use Rattle.cfi_unit.specs.Shapes.{SHAPES, Shape, all_stores, each_guarded, guarded, shape, stores}
use Rattle.cfi_unit.specs.ShapeOf.{shape_of}
use Rattle.cfi_unit.specs.ShapeLaw.{ShapesUsed}
use Rattle.cfi_unit.specs.Opens.{Among}
use Rattle.cfi_unit.proofs.Listed.{STORES, among_either, guarded_of, stores_of}
use Rattle.cfi_unit.proofs.Near.{near_reached}

-- an address in code
abbrev HERE : ℕ
HERE = 0x40000200

record Used (s : Shape) : Type 0 where
  pub unit : U.Unit
  pub fits : Fits unit HERE
  pub shape_is : shape_of unit HERE ≡ s

used : (s r : Shape) → s ≡ r → (u : U.Unit) → Fits u HERE → shape_of u HERE ≡ r → Used s
used s r e u f is = record { unit = u; fits = f; shape_is = is ∙ sym e }

zeros : (n : ℕ) → AllByRecursion IsNumber (replicate n 0)
zeros zero = tt
zeros (suc n) = (lit< tt, zeros n)

tests_used : (s : Shape) (n : ℕ) → 0 < n → n ≤ 8 → s ≡ shape E.Guarded (guarded n) → Used s
tests_used s n some most e =
    let many : length {A = ℕ} (replicate n 0) ≡ n = length-replicate n 0 in
    used s (shape E.Guarded (guarded n)) e (V.Guarded (replicate n 0)) (
      record { some = omega arith; most = omega arith; each = zeros n },
      near_reached (HERE + 8 * length (replicate n 0)) BAD_TARGET (omega arith) (omega arith) (omega arith) (omega arith) (omega arith),
    )
    (ap (λ m. shape E.Guarded (guarded m)) many)

fillers : (n : ℕ) → AllByRecursion IsMember (replicate n FILLER)
fillers zero = tt
fillers (suc n) = ((lit< tt, lit< tt), fillers n)

no_offset : (m : Mask) → MaskFits m 0
no_offset Shifts = tt
no_offset Short = refl
no_offset Long = tt

stores_used : (s : Shape) (m : Mask) (n : ℕ) → 0 < n → n ≤ 16 → s ≡ shape (if n == 16 then E.Full m else E.Stores m) (stores m n) → Used s
stores_used s m n some most e =
    let many = length-replicate n FILLER in
    used s (shape (if n == 16 then E.Full m else E.Stores m) (stores m n)) e (V.Stores m 0 0 (replicate n FILLER))
    (lit< tt, lit< tt, record { some = omega arith; most = omega arith; each = fillers n }, no_offset m)
    (ap (λ k. shape (if k == 16 then E.Full m else E.Stores m) (stores m k)) many)

module _ (s : Shape) where
  lean_used : Among s (drop 15 (take 20 SHAPES)) → Used s
  unfolding Among
  lean_used (inl e) = used s _ e (V.LinkCall HERE) refl refl
  lean_used (inr (inl e)) = used s _ e V.Enter refl refl
  lean_used (inr (inr (inl e))) = used s _ e (V.LeanIjump 0 0 0) (lit< tt, lit< tt, lit< tt, refl, refl) refl
  lean_used (inr (inr (inr (inl e)))) = used s _ e (V.LeanIcall 0 0 0) (lit< tt, lit< tt, lit< tt, refl, refl) refl
  lean_used (inr (inr (inr (inr (inl e))))) = used s _ e V.LeafReturn tt refl
  lean_used (inr (inr (inr (inr (inr none))))) = absurd none

  longer_used : Among s (drop 7 (take 20 SHAPES)) → Used s
  unfolding Among
  longer_used (inl e) = used s _ e (V.Branch Beq 0 0 HERE) (lit< tt, lit< tt, refl) refl
  longer_used (inr (inl e)) = used s _ e (V.Near Beq 0 0 (HERE + 8)) (lit< tt, lit< tt, refl) refl
  longer_used (inr (inr (inl e))) = used s _ e (V.Call HERE) (refl, refl) refl
  longer_used (inr (inr (inr (inl e)))) = used s _ e (V.Ijump First 0 0 0) (lit< tt, lit< tt, lit< tt, refl, refl) refl
  longer_used (inr (inr (inr (inr (inl e))))) = used s _ e (V.Ijump Second 0 0 0) (lit< tt, lit< tt, lit< tt, refl, refl) refl
  longer_used (inr (inr (inr (inr (inr (inl e)))))) = used s _ e (V.Ijump Third 0 0 0) (lit< tt, lit< tt, lit< tt, refl, refl) refl
  longer_used (inr (inr (inr (inr (inr (inr (inl e))))))) = used s _ e (V.Icall 0 0 0) ((lit< tt, lit< tt, lit< tt, refl, refl), refl) refl
  longer_used (inr (inr (inr (inr (inr (inr (inr (inl e)))))))) = used s _ e V.Return refl refl
  longer_used (inr (inr (inr (inr (inr (inr (inr (inr lean)))))))) = lean_used lean

  single_used : Among s (take 20 SHAPES) → Used s
  unfolding Among
  single_used (inl e) = used s _ e (V.Gate 0) (lit< tt) refl
  single_used (inr (inl e)) = used s _ e (V.Plain (Upper Auipc 0 0)) ((lit< tt, lit< tt), refl) refl
  single_used (inr (inr (inl e))) = used s _ e V.Stop refl refl
  single_used (inr (inr (inr (inl e)))) = used s _ e (V.Jump HERE) ((λ e. omega arith), refl) refl
  single_used (inr (inr (inr (inr (inl e))))) = used s _ e (V.System S.Ecall) tt refl
  single_used (inr (inr (inr (inr (inr (inl e)))))) = used s _ e (V.System S.Ebreak) tt refl
  single_used (inr (inr (inr (inr (inr (inr (inl e))))))) = used s _ e (V.Near Beq 0 0 HERE) (lit< tt, lit< tt, refl) refl
  single_used (inr (inr (inr (inr (inr (inr (inr rest))))))) = longer_used rest

  stored_used : (m : Mask) → Among s (all_stores m) → Used s
  unfolding Among
  stored_used m (inl e) = stores_used s m 16 (omega arith) (omega arith) e
  stored_used m (inr a) =
      let (k, (few, e)) = stores_of s m 15 a in
      let fewer : suc k ≢ 16 = λ e. omega arith in
      stores_used s m (suc k) (omega arith) (omega arith)
      (e ∙ ap (λ b. shape (if b then E.Full m else E.Stores m) (stores m (suc k))) (sym (ne_eqb (suc k) 16 fewer)))

  masked_used : Among s STORES → Used s
  masked_used a = elim (among_either s (all_stores Shifts) (all_stores Short ++ all_stores Long) a) [
    | inl shifts ↦ stored_used Shifts shifts
    | inr others ↦ elim (among_either s (all_stores Short) (all_stores Long) others) [
      | inl short ↦ stored_used Short short
      | inr long ↦ stored_used Long long
    ]
  ]

  each_used : Among s SHAPES → Used s
  each_used a = elim (among_either s (take 20 SHAPES) (each_guarded 8 ++ STORES) a) [
    | inl one ↦ single_used one
    | inr family ↦ elim (among_either s (each_guarded 8) STORES family) [
      | inl tested ↦ let (k, (few, e)) = guarded_of s 8 tested in tests_used s (suc k) (omega arith) few e
      | inr stored ↦ masked_used stored
    ]
  ]

pub shapes_used : ShapesUsed
shapes_used s among = let u = each_used s among in (u.unit, (HERE, (u.fits, u.shape_is)))
