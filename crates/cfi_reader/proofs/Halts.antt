-- Each handler is reached from each place in code, so a jump to it is told by its word alone.
use Rattle.std.proofs.Common.{◌≡◌, ℕ, ◌==◌, ◌&&◌, ◌||◌, Bool, true, inl, inr, ap, sym, arith}
use Rattle.std.proofs.lemmas.Bool.{eqb-true, or_cases}
use Rattle.rv_code.specs.Encode.{code_of}
use Rattle.cfi_unit.specs.declared.pattern.Pattern.TheVariants as P
use Rattle.cfi_unit.specs.UnitWords.{BAD_RETURN, BAD_TARGET, DEEP, Reaches, jump}
use Rattle.cfi_unit.specs.Patterns.{matches}
use Rattle.cfi_unit.specs.Opens.{InCode}
use Rattle.cfi_unit.proofs.Near.{near_reached}
use Rattle.cfi_unit.proofs.Jumps.{tested}
use Rattle.cfi_reader.specs.Nodes.{is_handler}

pub handler_reached : (to here : ℕ) → InCode here 1 → is_handler to ≡ true → Reaches here to
handler_reached to here place e =
    let low = place.low in
    let high = place.high in
    let round = place.round in
    elim (or_cases (to == BAD_TARGET) ((to == BAD_RETURN) || (to == DEEP)) e) [
      | inl bad ↦
          let is = eqb-true to BAD_TARGET bad in
          near_reached here to (omega arith) (omega arith) (omega arith) (omega arith) (omega arith)
      | inr other ↦ elim (or_cases (to == BAD_RETURN) (to == DEEP) other) [
        | inl return ↦
            let is = eqb-true to BAD_RETURN return in
            near_reached here to (omega arith) (omega arith) (omega arith) (omega arith) (omega arith)
        | inr deep ↦
            let is = eqb-true to DEEP deep in
            near_reached here to (omega arith) (omega arith) (omega arith) (omega arith) (omega arith)
      ]
    ]

pub halt_by : (to word here : ℕ) → InCode here 1 → is_handler to ≡ true → (word == code_of (jump here to)) ≡ matches (P.Halt to) word here
halt_by to word here place e =
    ap (λ (b : Bool). b && (word == code_of (jump here to))) (sym (tested here to (handler_reached to here place e)))
