-- The rules in the order in which they are asked.
use Rattle.std.proofs.Common.{◌≡◌, ◌<◌, ℕ, ◌+◌, List, [], ◌∷◌, get_or, refl, ap, ◌∙◌, subst, arith, inl, inr}
use Rattle.std.proofs.lemmas.Bool.{cases_lt}
use Rattle.cfi_verify.proofs.Prelude.{order, Rule}
use Rattle.cfi_rules.specs.declared.reject.Rule.TheVariants as R

abbrev pub rules_listed : List Rule
rules_listed =
    R.Prologue ∷ R.Unit ∷ R.Leaf ∷ R.Target ∷ R.Unlisted ∷ R.Unused ∷ R.Site ∷ R.Gate ∷ R.Astray ∷ R.End ∷ []

pub at_order : (rule d : Rule) → get_or rules_listed (order rule) d ≡ rule
at_order R.Prologue d = refl
at_order R.Unit d = refl
at_order R.Leaf d = refl
at_order R.Target d = refl
at_order R.Unlisted d = refl
at_order R.Unused d = refl
at_order R.Site d = refl
at_order R.Gate d = refl
at_order R.Astray d = refl
at_order R.End d = refl

-- what holds of the rules before a place, and of the one there, holds of those before the next place
pub rules_more : (P : Rule → Type 0) (i : ℕ) (d : Rule) → ((rule : Rule) → order rule < i → P rule) → P (get_or rules_listed i d) → (rule : Rule) → order rule < i + 1 → P rule
rules_more P i d before here rule less =
    elim (cases_lt (order rule) i) [
      | inl earlier ↦ before rule earlier
      | inr later ↦
          let same : i ≡ order rule = omega arith in
          subst P (ap (λ k. get_or rules_listed k d) same ∙ at_order rule d) here
    ]
