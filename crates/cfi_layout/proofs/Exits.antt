-- What a function's answer is at an exit: an error, or a value in `Ok`.
use Rattle.std.proofs.Common.{◌≡◌, Bool, true, false, Result, Ok}
use Rattle.std.specs.Result.{IsErr}
use Rattle.std.proofs.lemmas.Result.{IfOk-from_err, IfOk-at_ok}

-- an error is no value, so what is promised of one holds
pub no_value : {T E P : Type 0} (result : Result T E) (x : T) → IsErr result → result ≡ Ok x → P
no_value {P = P} result x is_error is = IfOk-at_ok (λ y. P) is (IfOk-from_err result (λ y. P) is_error)

pub same_value : {E : Type 0} (a b : Bool) → ◌≡◌ {A = Result Bool E} (Ok a) (Ok b) → a ≡ b
same_value a b same = cc

pub no_change : {E P : Type 0} → ◌≡◌ {A = Result Bool E} (Ok false) (Ok true) → P
no_change same = absurd (cc)

pub a_change : {E P : Type 0} → ◌≡◌ {A = Result Bool E} (Ok true) (Ok false) → P
a_change same = absurd (cc)
