-- What holds of requests of programs holds of those whose program is given, and a program is given or refused in one way.
use Rattle.std.proofs.Common.{◌≡◌, inl, inr, sym, ap, ◌∙◌}
use Rattle.std.proofs.lemmas.Option.{none-some, same_Some}
use Rattle.cfi_single.proofs.Prelude.{Refusal, Given, alone, joined, IsGiven, RefusesGiven, HardenedParts, IsHardened, Refuses, Request, program_request, GivenInOneWay}
use Rattle.refusals.specs.declared.refusal.Refusal.TheVariants as R
use Rattle.cfi_single.proofs.Hardened.{hardened_unique}
use Rattle.cfi_single.proofs.Prepared.{prepared_unique}
use Rattle.cfi_single.proofs.Refused.{not_refused, refusal_unique}

-- what is given and is a program is not refused
accepted : (given : Given) (r : Refusal) → IsGiven given → RefusesGiven given r → ⊥
accepted (alone object) (R.Object fault) is x = let none = is.sound in absurd (cc)
accepted (alone object) (R.Items fault) is x = let none = is.right in let some = x.1 in absurd (cc)
accepted (alone object) other is x = absurd x
accepted (joined objects) r is x = none-some r (sym is ∙ x)

-- and it is refused in one way
one_refusal : (given : Given) (a b : Refusal) → RefusesGiven given a → RefusesGiven given b → a ≡ b
one_refusal (alone object) (R.Object f) (R.Object g) x y = ap R.Object (same_Some f g (sym x ∙ y))
one_refusal (alone object) (R.Items f) (R.Items g) x y = ap R.Items (same_Some f g (sym x.1 ∙ y.1))
one_refusal (alone object) (R.Object f) (R.Items g) x y = let none = y.0 in absurd (cc)
one_refusal (alone object) (R.Items f) (R.Object g) x y = let none = x.0 in absurd (cc)
one_refusal (alone object) other (R.Object g) x y = absurd x
one_refusal (alone object) other (R.Items g) x y = absurd x
one_refusal (alone object) a other x y = absurd y
one_refusal (joined objects) a b x y = same_Some a b (sym x ∙ y)

-- of a request
module _ (request : Request) where
  one : (a b : Refusal) → Refuses request a → Refuses request b → a ≡ b
  one a b (inl x) (inl y) = one_refusal request.given a b x y
  one a b (inl x) (inr (given, y)) = absurd (accepted request.given a given x)
  one a b (inr (given, x)) (inl y) = absurd (accepted request.given b given y)
  one a b (inr (_, x)) (inr (_, y)) = refusal_unique (program_request request) a b x y

  hardened : (h : HardenedParts) (r : Refusal) → IsHardened request h → Refuses request r → ⊥
  hardened h r (given, is) (inl x) = accepted request.given r given x
  hardened h r (given, is) (inr (_, x)) = not_refused (program_request request) h r is x

pub in_one_way : GivenInOneWay
in_one_way = record {
  given = λ request r is x. accepted request.given r is x;
  prepared = λ request p q a b. prepared_unique (program_request request) p q a.1 b.1;
  hardened = λ request h g a b. hardened_unique (program_request request) h g a.1 b.1;
  not_refused = hardened;
  refused = one;
}
