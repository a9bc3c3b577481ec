-- The last event tells whether the run has ended.
use Rattle.std.proofs.Common.{◌≡◌, ℕ, zero, suc, ◌-◌, List, [], ◌∷◌, length, Some, None, slice_get, refl, arith}
use Rattle.std.proofs.lemmas.Option.{slice_get-get_or}
use Rattle.rv_code.specs.State.{exit_of, last_exit}
use Rattle.rv_code.specs.declared.event.Event.{Event}

at_last : (es : List Event) (n : ℕ) (e : Event) → length es ≡ suc n → slice_get es n ≡ Some e → last_exit es ≡ exit_of e
unfolding last_exit
at_last [] n e long last = absurd (cc)
at_last (f ∷ []) zero e long last = let same : f ≡ e = cc in rw same refl
at_last (f ∷ []) (suc n) e long last = absurd (cc)
at_last (f ∷ g ∷ es) zero e long last = absurd (omega arith)
at_last (f ∷ g ∷ es) (suc n) e long last = at_last (g ∷ es) n e (omega arith) last

pub last_exit-last : (es : List Event) (e : Event) → slice_get es (length es - 1) ≡ Some e → last_exit es ≡ exit_of e
last_exit-last [] e last = absurd (cc)
last_exit-last (f ∷ es) e last = let n : length (f ∷ es) - 1 ≡ length es = omega arith in at_last (f ∷ es) (length es) e refl (rw n at last)

pub last_exit-none : (es : List Event) → slice_get es (length es - 1) ≡ None → last_exit es ≡ None
unfolding last_exit
last_exit-none [] none = refl
last_exit-none (f ∷ es) none = absurd (let some = slice_get-get_or (f ∷ es) (length (f ∷ es) - 1) f (omega arith) in cc)
