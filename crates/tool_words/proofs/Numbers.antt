-- The words of each command that has no objects, by their number: so many without a fault, and no others.
use Rattle.std.proofs.Common.{◌≡◌, ◌<◌, ℕ, zero, suc, true, false, List, [], ◌∷◌, length, Option, Some, arith, refl}
use Rattle.clap.specs.Kinds.{Kinds}
use Rattle.clap.specs.Simple.{Shape, built_leaf, inherited, marked_built, with_leaf_noted}
use Rattle.clap.specs.Walk.{Text, finished, nothing_held}
use Rattle.clap.specs.declared.error.kind.ErrorKind.{ErrorKind}
use Rattle.clap.proofs.OnLiterals.{clap_on_literals}
use Rattle.tool_words.specs.CommandLine.{COMPARE, DEMO, HARDEN, Known, REWRITE, RUN, VERIFY, command_line, form_by}
use Rattle.tool_words.specs.Plain.{IsNumber}
use Rattle.tool_words.specs.Reading.{request_in}
use Rattle.tool_words.proofs.Leaf.{fault_from, held_after, stand}

-- a command as `clap` builds it
abbrev pub leaf : Known → Shape
leaf command = built_leaf (inherited (with_leaf_noted (marked_built command_line.top)) (form_by command).top)

-- what is wrong with words that no flag is among, and what they ask for
abbrev pub wrong : Known → List Text → Kinds
wrong command values = fault_from (leaf command) (stand false true nothing_held 1) values

abbrev pub asked_of : Known → List Text → Option (List Text)
asked_of command values =
    request_in ((leaf command).name, finished (leaf command).rules (held_after (leaf command) (stand false true nothing_held 1) values))

-- they ask for all of these words, so many as are wanted
abbrev pub AsksAll : Known → List Text → Type 0
AsksAll command values =
    (asked_of command values ≡ Some (command.name ∷ values)) × IsNumber command.has_objects (length command.operands) (length values)

pub some_wrong : {kind : ErrorKind} {kinds : Kinds} → kind ∷ kinds ≡ [] → ⊥
some_wrong e = absurd (cc)

pub refuted : {kind : ErrorKind} {kinds : Kinds} {A : Type 0} → kind ∷ kinds ≡ [] → A
refuted e = absurd (some_wrong e)

-- what is to be shown of words by their number: of fewer than n, of n, and of more
abbrev pub ByNumber : ℕ → (List Text → Type 0) → Type 0
ByNumber zero P = P [] × ((word : Text) (more : List Text) → P (word ∷ more))
ByNumber (suc n) P = P [] × ((word : Text) → ByNumber n (λ rest. P (word ∷ rest)))

pub by_number : (n : ℕ) (P : List Text → Type 0) → ByNumber n P → (values : List Text) → P values
by_number zero P each [] = each.0
by_number zero P each (word ∷ more) = each.1 word more
by_number (suc n) P each [] = each.0
by_number (suc n) P each (word ∷ rest) = by_number n (λ more. P (word ∷ more)) (each.1 word) rest

-- the same of n words alone
abbrev pub OfNumber : ℕ → (List Text → Type 0) → Type 0
OfNumber zero P = P []
OfNumber (suc n) P = (word : Text) → OfNumber n (λ rest. P (word ∷ rest))

pub of_number : (n : ℕ) (P : List Text → Type 0) → OfNumber n P → (values : List Text) → n ≡ length values → P values
of_number zero P here [] size = here
of_number zero P here (word ∷ rest) size = absurd (omega arith)
of_number (suc n) P here [] size = absurd (omega arith)
of_number (suc n) P here (word ∷ rest) size = of_number n (λ more. P (word ∷ more)) (here word) rest (omega arith)

-- and of more than n words alone
abbrev pub OverNumber : ℕ → (List Text → Type 0) → Type 0
OverNumber zero P = (word : Text) (more : List Text) → P (word ∷ more)
OverNumber (suc n) P = (word : Text) → OverNumber n (λ rest. P (word ∷ rest))

pub over_number : (n : ℕ) (P : List Text → Type 0) → OverNumber n P → (values : List Text) → n < length values → P values
over_number zero P here [] size = absurd (omega arith)
over_number zero P here (word ∷ more) size = here word more
over_number (suc n) P here [] size = absurd (omega arith)
over_number (suc n) P here (word ∷ rest) size = over_number n (λ more. P (word ∷ more)) (here word) rest (omega arith)

pub rewrite_asks : (values : List Text) → wrong REWRITE values ≡ [] → AsksAll REWRITE values
unfolding clap_on_literals
rewrite_asks =
    by_number 6 (λ values. wrong REWRITE values ≡ [] → AsksAll REWRITE values)
    (refuted, λ a. (refuted, λ b. (refuted, λ c. (refuted, λ d. (refuted, λ e. (refuted, λ f. (λ none. (refl, refl), λ more rest. refuted)))))))

pub rewrite_right : (values : List Text) → 6 ≡ length values → wrong REWRITE values ≡ []
unfolding clap_on_literals
rewrite_right = of_number 6 (λ values. wrong REWRITE values ≡ []) (λ a b c d e f. refl)

pub verify_asks : (values : List Text) → wrong VERIFY values ≡ [] → AsksAll VERIFY values
unfolding clap_on_literals
verify_asks =
    by_number 2 (λ values. wrong VERIFY values ≡ [] → AsksAll VERIFY values)
    (refuted, λ a. (refuted, λ b. (λ none. (refl, refl), λ more rest. refuted)))

pub verify_right : (values : List Text) → 2 ≡ length values → wrong VERIFY values ≡ []
unfolding clap_on_literals
verify_right = of_number 2 (λ values. wrong VERIFY values ≡ []) (λ a b. refl)

pub run_asks : (values : List Text) → wrong RUN values ≡ [] → AsksAll RUN values
unfolding clap_on_literals
run_asks =
    by_number 5 (λ values. wrong RUN values ≡ [] → AsksAll RUN values)
    (refuted, λ a. (refuted, λ b. (refuted, λ c. (refuted, λ d. (refuted, λ e. (λ none. (refl, refl), λ more rest. refuted))))))

pub run_right : (values : List Text) → 5 ≡ length values → wrong RUN values ≡ []
unfolding clap_on_literals
run_right = of_number 5 (λ values. wrong RUN values ≡ []) (λ a b c d e. refl)

pub compare_asks : (values : List Text) → wrong COMPARE values ≡ [] → AsksAll COMPARE values
unfolding clap_on_literals
compare_asks =
    by_number 7 (λ values. wrong COMPARE values ≡ [] → AsksAll COMPARE values)
    (refuted, λ a. (refuted, λ b. (refuted, λ c. (refuted, λ d. (refuted, λ e. (refuted, λ f. (refuted, λ g. (λ none. (refl, refl), λ more rest. refuted))))))))

pub compare_right : (values : List Text) → 7 ≡ length values → wrong COMPARE values ≡ []
unfolding clap_on_literals
compare_right = of_number 7 (λ values. wrong COMPARE values ≡ []) (λ a b c d e f g. refl)

pub demo_asks : (values : List Text) → wrong DEMO values ≡ [] → AsksAll DEMO values
unfolding clap_on_literals
demo_asks =
    by_number 1 (λ values. wrong DEMO values ≡ [] → AsksAll DEMO values)
    (refuted, λ a. (λ none. (refl, refl), λ more rest. refuted))

pub demo_right : (values : List Text) → 1 ≡ length values → wrong DEMO values ≡ []
unfolding clap_on_literals
demo_right = of_number 1 (λ values. wrong DEMO values ≡ []) (λ a. refl)

pub harden_asks : (values : List Text) → wrong HARDEN values ≡ [] → AsksAll HARDEN values
unfolding clap_on_literals
harden_asks =
    by_number 7 (λ values. wrong HARDEN values ≡ [] → AsksAll HARDEN values)
    (refuted, λ a. (refuted, λ b. (refuted, λ c. (refuted, λ d. (refuted, λ e. (refuted, λ f. (refuted, λ g. (λ none. (refl, refl), λ more rest. refuted))))))))

pub harden_right : (values : List Text) → 7 ≡ length values → wrong HARDEN values ≡ []
unfolding clap_on_literals
harden_right = of_number 7 (λ values. wrong HARDEN values ≡ []) (λ a b c d e f g. refl)
