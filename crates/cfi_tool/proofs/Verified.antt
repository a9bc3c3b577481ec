-- Status 0 where two names stand after `verify`: neither help nor the version can have been asked for, and the two names are the files.
use Rattle.std.proofs.Common.{◌≡◌, ◌∙◌, ℕ, false, List, [], ◌∷◌, Option, Some, None, inl, inr, ap, ap₂, sym, subst, refl, arith, codes}
use Rattle.std.specs.Prelude.{⊤}
use Rattle.cfi_tool.proofs.Prelude.{VERIFY, asks_help, asks_version, AsksFor, Operands, mark_left, none_left, one_more, Reading, clap_reading, if_alone, reading, Content, Fault, TooLong, IsAccepted, VerifyWords, Explains, ExplainsRequest, outcome_status, outcome_text, Outcome, Usage, Help, Version, Unread, Rewrite, Verify, Run, Compare, Demo}
use Rattle.tool_words.specs.Reading as reads
use Rattle.tool_words.proofs.Top.{asks_as_read}
use Rattle.tool_images.specs.declared.verify.Verdict.TheVariants as verdict
use Rattle.cfi_tool.specs.Request.{Request, Taken, Verifies, asks, helps, if_request, request_of, taken, taken_by, tells_version, verify as verifies}

-- help or the version is told
abbrev IsText : Taken → Type 0
IsText helps = ⊤
IsText tells_version = ⊤
IsText other = ⊥

no_request_tells : (request : Option Request) → IsText (if_request request) → ⊥
no_request_tells None is = is
no_request_tells (Some request) is = is

-- words that do not ask for a text alone are told none
none_told : (words : List (List ℕ)) (read : Reading) → asks_help words ≡ false → asks_version words ≡ false → IsText (taken_by (if_alone words read)) → ⊥
none_told words (reads.asks request) no_help no_version is = no_request_tells (request_of request) is
none_told words reads.help no_help no_version is = rw no_help at is
none_told words reads.version no_help no_version is = rw no_version at is
none_told words reads.refused no_help no_version is = is

long_tells_none : (words : List (List ℕ)) (a b c d : List ℕ) (rest : List (List ℕ)) → words ≡ a ∷ b ∷ c ∷ d ∷ rest → IsText (taken words) → ⊥
unfolding taken
long_tells_none words a b c d rest are is = none_told words (clap_reading words) (ap asks_help are) (ap asks_version are) is

pub verifies_tells_none : (words : List (List ℕ)) (given : VerifyWords) → Verifies words given → IsText (taken words) → ⊥
verifies_tells_none words given (program, inl are) is = long_tells_none words program _ _ _ [] are is
verifies_tells_none words given (program, inr are) is = long_tells_none words program _ _ _ (given.graph ∷ []) are is

-- ---- what is asked for

if_some : (request : Option Request) (asked : Request) → if_request request ≡ asks asked → request ≡ Some asked
if_some None asked e = absurd (cc)
if_some (Some request) asked e =
    let same : request ≡ asked = cc in
    ap Some same

asked_as : (read : Reading) (asked : Request) → taken_by read ≡ asks asked → (words : List (List ℕ)) × (read ≡ reads.asks words) × (request_of words ≡ Some asked)
asked_as (reads.asks words) asked e = (words, refl, if_some (request_of words) asked e)
asked_as reads.help asked e = absurd (cc)
asked_as reads.version asked e = absurd (cc)
asked_as reads.refused asked e = absurd (cc)

-- the request of two values
abbrev pair : List ℕ → List ℕ → VerifyWords
pair image graph = record { image = image; graph = graph }

two_are : (a b image graph : List ℕ) (request : Request) → a ∷ b ∷ [] ≡ image ∷ graph ∷ [] → request_of (VERIFY.name ∷ a ∷ b ∷ []) ≡ Some request
    → request ≡ verifies (pair image graph)
two_are a b image graph request same is =
    let first : a ≡ image = cc in
    let second : b ≡ graph = cc in
    let whole : Some (verifies (pair a b)) ≡ Some request = is in
    let asked : verifies (pair a b) ≡ request = cc in
    sym asked ∙ ap₂ (λ i g. verifies (pair i g)) first second

no_pair : {X : Type 0} (request : Request) → None ≡ Some request → X
no_pair request e = absurd (cc)

of_two : (rest values : List (List ℕ)) → Operands rest values → (image graph : List ℕ) (request : Request) → rest ≡ image ∷ graph ∷ []
    → request_of (VERIFY.name ∷ values) ≡ Some request → request ≡ verifies (pair image graph)
of_two rest values none_left image graph request are is = absurd (cc)
of_two rest values (mark_left []) image graph request are is = absurd (cc)
of_two rest values (mark_left (b ∷ [])) image graph request are is = no_pair request is
of_two rest values (mark_left (b ∷ c ∷ more)) image graph request are is = absurd (cc)
of_two rest values (one_more a ws vs not (none_left)) image graph request are is = absurd (cc)
of_two rest values (one_more a ws vs not (mark_left [])) image graph request are is = no_pair request is
of_two rest values (one_more a ws vs not (mark_left (c ∷ more))) image graph request are is = absurd (cc)
of_two rest values (one_more a ws vs not (one_more b xs us nor none_left)) image graph request are is = two_are a b image graph request are is
of_two rest values (one_more a ws vs not (one_more b xs us nor (mark_left more))) image graph request are is = absurd (cc)
of_two rest values (one_more a ws vs not (one_more b xs us nor (one_more c ys ts none more))) image graph request are is = absurd (cc)

of_marked : (rest values : List (List ℕ)) → Operands rest values → (image graph : List ℕ) (request : Request) → rest ≡ codes "--" ∷ image ∷ graph ∷ []
    → request_of (VERIFY.name ∷ values) ≡ Some request → request ≡ verifies (pair image graph)
of_marked rest values none_left image graph request are is = absurd (cc)
of_marked rest values (mark_left []) image graph request are is = absurd (cc)
of_marked rest values (mark_left (a ∷ [])) image graph request are is = absurd (cc)
of_marked rest values (mark_left (a ∷ b ∷ [])) image graph request are is =
    let same : a ∷ b ∷ [] ≡ image ∷ graph ∷ [] = cc in
    two_are a b image graph request same is
of_marked rest values (mark_left (a ∷ b ∷ c ∷ more)) image graph request are is = absurd (cc)
of_marked rest values (one_more a ws vs not more) image graph request are is =
    let mark : a ≡ codes "--" = cc in
    absurd (not mark)

-- what is asked for where two names stand after `verify`
asked_for : (words : List (List ℕ)) (given : VerifyWords) (request : Request) → Verifies words given → (for : AsksFor words)
    → request_of (for.name ∷ for.values) ≡ Some request → request ≡ verifies given
asked_for words given request (program, inl are) for is =
    let same : for.program ∷ for.name ∷ for.rest ≡ program ∷ VERIFY.name ∷ given.image ∷ given.graph ∷ [] = sym for.words_are ∙ are in
    let name : for.name ≡ VERIFY.name = cc in
    let rest : for.rest ≡ given.image ∷ given.graph ∷ [] = cc in
    of_two for.rest for.values for.operands given.image given.graph request rest (subst (λ (n : List ℕ). request_of (n ∷ for.values) ≡ Some request) name is)
asked_for words given request (program, inr are) for is =
    let same : for.program ∷ for.name ∷ for.rest ≡ program ∷ VERIFY.name ∷ codes "--" ∷ given.image ∷ given.graph ∷ [] = sym for.words_are ∙ are in
    let name : for.name ≡ VERIFY.name = cc in
    let rest : for.rest ≡ codes "--" ∷ given.image ∷ given.graph ∷ [] = cc in
    of_marked for.rest for.values for.operands given.image given.graph request rest (subst (λ (n : List ℕ). request_of (n ∷ for.values) ≡ Some request) name is)

verifies_asked : (words : List (List ℕ)) (given : VerifyWords) (request : Request) → Verifies words given → taken words ≡ asks request → request ≡ verifies given
unfolding taken
verifies_asked words given request stand is =
    let (read, reading_is, request_is) = asked_as (reading words) request is in
    let for = asks_as_read words read reading_is in
    let same : reads.asks read ≡ reads.asks (for.name ∷ for.values) = sym reading_is ∙ for.reading_is in
    let values : read ≡ for.name ∷ for.values = cc in
    asked_for words given request stand for (subst (λ (r : List (List ℕ)). request_of r ≡ Some request) values request_is)

-- ---- status 0

module _ (content : Content) (failed : List ℕ) (words : List (List ℕ)) (given : VerifyWords) (stand : Verifies words given) where
  accepted_is : (outcome : Outcome) → ExplainsRequest content (verifies given) outcome → outcome_status outcome ≡ 0 → IsAccepted content given (outcome_text outcome)
  accepted_is (Verify verdict.Accepted) is zero = (is, refl)
  accepted_is (Verify (verdict.Refused refusal)) is zero = absurd (omega (arith, zero))
  accepted_is (Verify (verdict.Rejected reject)) is zero = absurd (omega (arith, zero))
  accepted_is other is zero = absurd is

  of_request : (outcome : Outcome) (request : Request) → taken words ≡ asks request → ExplainsRequest content request outcome
      → outcome_status outcome ≡ 0 → IsAccepted content given (outcome_text outcome)
  of_request outcome request is holds zero =
      accepted_is outcome (subst (λ (r : Request). ExplainsRequest content r outcome) (verifies_asked words given request stand is) holds) zero

  pub verified_is : (outcome : Outcome) → Explains content failed words outcome → outcome_status outcome ≡ 0 → IsAccepted content given (outcome_text outcome)
  verified_is Usage explained zero = absurd (omega (arith, zero))
  verified_is (Help text) explained zero = absurd (verifies_tells_none words given stand (subst IsText (sym explained) tt))
  verified_is (Version text) explained zero = absurd (verifies_tells_none words given stand (subst IsText (sym explained) tt))
  verified_is (Unread (Fault name)) explained zero = absurd (omega (arith, zero))
  verified_is (Unread (TooLong name)) explained zero = absurd (omega (arith, zero))
  verified_is (Rewrite result) (request, is, holds) zero = of_request (Rewrite result) request is holds zero
  verified_is (Verify result) (request, is, holds) zero = of_request (Verify result) request is holds zero
  verified_is (Run result) (request, is, holds) zero = of_request (Run result) request is holds zero
  verified_is (Compare result) (request, is, holds) zero = of_request (Compare result) request is holds zero
  verified_is (Demo result) (request, is, holds) zero = of_request (Demo result) request is holds zero
