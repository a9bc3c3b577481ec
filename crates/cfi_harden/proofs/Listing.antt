-- The list of system calls that a policy's text is read with is one that a graph may have.
use Rattle.std.proofs.Common.{◌≡◌, ℕ, nat_lt, Bool, true, false, if◌then◌else◌, Option, Some, None, Result, Ok, Err, List, [], ◌∷◌, refl}
use Rattle.std.specs.Prelude.{◌==◌}
use Rattle.std.proofs.lemmas.Bool.{and_from}
use Rattle.cfi_harden.proofs.Prelude.{End, lines_of, words_of, if_right, one_named, LineFault, Listed, calls_of, judged_calls, may_be_calls, are_calls, is_rising, calls_told, head_at, listed_head, policy_head, policy_names, policy_asked}
use Rattle.cfi_graph.proofs.CallsLine.{judged_list}

abbrev told_with : List (List ℕ) → Result (List ℕ) (End LineFault) → Result Listed (End LineFault)
told_with lines judged = if_right judged (λ (calls : List ℕ). Ok (record { calls = Some calls; lines = lines }))

line_right : (line : List ℕ) (lines : List (List ℕ)) (judged : Result (List ℕ) (End LineFault)) → judged_calls 2 (calls_of (words_of line)) ≡ judged →
    may_be_calls (calls_told (told_with lines judged)) ≡ true
line_right line lines (Err fault) is = refl
line_right line lines (Ok numbers) is =
    let list = judged_list 2 line numbers is in
    and_from (are_calls numbers) (is_rising nat_lt numbers) list.are list.rising

head_right : (lines : List (List ℕ)) → may_be_calls (calls_told (listed_head lines)) ≡ true
unfolding listed_head
head_right [] = refl
head_right (line ∷ []) = refl
head_right (line ∷ next ∷ rest) = line_right line (next ∷ rest) (judged_calls 2 (calls_of (words_of line))) refl

version_right : (b : Bool) (lines : List (List ℕ)) → may_be_calls (calls_told (if b then Ok (record { calls = None; lines = lines }) else listed_head lines)) ≡ true
version_right true lines = refl
version_right false lines = head_right lines

first_right : (first : Result (ℕ × List (List ℕ)) (End LineFault)) →
    may_be_calls (calls_told (if_right first (λ (named : ℕ × List (List ℕ)). head_at named.0 named.1))) ≡ true
first_right (Err fault) = refl
first_right (Ok named) = version_right (named.0 == 0) named.1

text_right : (text : List ℕ) → may_be_calls (calls_told (policy_head text)) ≡ true
unfolding policy_head
text_right text = first_right (one_named policy_names (lines_of text))

pub asked_right : (policy : Option (List ℕ)) → may_be_calls (policy_asked policy).calls ≡ true
asked_right None = refl
asked_right (Some text) = text_right text
