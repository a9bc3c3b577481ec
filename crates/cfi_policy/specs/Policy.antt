-- A policy: in version 2 the numbers of the system calls that the program may make, and in both versions lines that each
-- give a site its targets, in any order. A place is named by a symbol and an offset from it. What a text is read as.
use Rattle.std.specs.Prelude.{ℕ, ◌+◌, ◌==◌, nat_lt, true, if◌then◌else◌, List, [], ◌∷◌, codes, drop, take, Option, Some, None, option_map, option_and_then, Result, Ok, Err}
use Rattle.std.specs.Option.{option_or}
use Rattle.std.specs.Str.{bytes_eq}
use Rattle.rv_word.specs.declared.end.End.{End}
use Rattle.text_lines.specs.declared.hexadecimal.Case.TheVariants.{Either}
use Rattle.text_lines.specs.Hex.{short_hex}
use Rattle.text_lines.specs.Lines.{lines_of, words_of}
use Rattle.text_lines.specs.Reading.{LineRules, Reading, after_heading, if_right, one_named, read}
use Rattle.text_lines.specs.declared.reason.Reason.TheVariants.{Form}
use Rattle.text_lines.specs.declared.fault.LineFault.{LineFault}
use Rattle.text_lines.specs.Answers.{line_fault}
use Rattle.cfi_graph.specs.Calls.{Listed, calls_of, judged_calls, line_after}
use Rattle.cfi_policy.specs.declared.policy.PlaceName.{PlaceName}
use Rattle.cfi_policy.specs.declared.policy.PolicyLine.{PolicyLine}

pub record PolicyParts : Type 0 where
  -- the numbers of the system calls that the program may make, where the policy has a list of them
  pub calls : Option (List ℕ)
  pub lines : List PolicyLine

-- the policy without lines
abbrev pub no_policy : PolicyParts
no_policy = record { calls = None; lines = [] }

-- the number of the first of its lines in its text
abbrev pub first_line : Option (List ℕ) → ℕ
first_line calls = line_after 2 calls

-- where the last `+` of a word stands
unfoldable pub last_plus : List ℕ → Option ℕ
last_plus [] = None
last_plus (b ∷ rest) = option_or (option_map (λ k. k + 1) (last_plus rest)) (if b == 43 then Some 0 else None)

-- before the last `+` stands a symbol, which has a byte at least, after it 1 to 8 digits of either case
abbrev pub named_at : List ℕ → ℕ → Option PlaceName
named_at word k =
    if nat_lt 0 k then option_map (λ o. record { symbol = take k word; offset = o }) (short_hex Either (drop (k + 1) word)) else None

-- the place that a word names, if it names one
abbrev pub place_of : List ℕ → Option PlaceName
place_of word = option_and_then (named_at word) (last_plus word)

-- the places that words name
unfoldable pub places_of : List (List ℕ) → Option (List PlaceName)
places_of [] = Some []
places_of (word ∷ rest) =
    option_and_then (λ p. option_map (λ others. p ∷ others) (places_of rest)) (place_of word)

-- after `site`: a place, and then its targets, none or more
abbrev pub site_line_of : List (List ℕ) → Option PolicyLine
site_line_of [] = None
site_line_of (site ∷ rest) =
    option_and_then (λ s. option_map (λ targets. record { site = s; targets = targets }) (places_of rest)) (place_of site)

-- the line that words spell, if they spell one
abbrev pub policy_line_of : List (List ℕ) → Option PolicyLine
policy_line_of [] = None
policy_line_of (name ∷ words) = if bytes_eq name (codes "site") then site_line_of words else None

-- the form of a policy's lines: each number is allowed, and each order
abbrev pub policy_rules : LineRules PolicyLine (Unit {0}) PolicyLine
policy_rules = record {
  spelled = policy_line_of;
  in_range = λ line. true;
  in_order = λ before line. true;
  after = λ line. tt;
  items = λ line. line ∷ [];
}

-- the first lines that a policy may have
abbrev pub policy_names : List (List ℕ)
policy_names = codes "rvcfi-policy 1" ∷ codes "rvcfi-policy 2" ∷ []

-- the second line of version 2 is the list
unfoldable pub listed_head : List (List ℕ) → Result Listed (End LineFault)
listed_head (line ∷ next ∷ rest) =
    if_right (judged_calls 2 (calls_of (words_of line))) (λ calls. Ok (record { calls = Some calls; lines = next ∷ rest }))
listed_head lines = Err (line_fault 2 Form)

-- what stands before the lines, by the place of the first line among the names
abbrev pub head_at : ℕ → List (List ℕ) → Result Listed (End LineFault)
head_at which lines = if which == 0 then Ok (record { calls = None; lines = lines }) else listed_head lines

unfoldable pub policy_head : List ℕ → Result Listed (End LineFault)
policy_head text = if_right (one_named policy_names (lines_of text)) (λ first. head_at first.0 first.1)

-- the lines before the first fault, and the fault, if there is one
unfoldable pub policy_read : List ℕ → Reading PolicyLine
policy_read text = after_heading (policy_head text) (λ head. read policy_rules tt (first_line head.calls) head.lines)

abbrev pub calls_told : Result Listed (End LineFault) → Option (List ℕ)
calls_told (Ok head) = head.calls
calls_told (Err fault) = None

-- what a text is read as up to its first fault
abbrev pub policy_begun : List ℕ → PolicyParts
policy_begun text = record { calls = calls_told (policy_head text); lines = (policy_read text).items }

-- what a text is read as
unfoldable pub policy_of : List ℕ → Result PolicyParts (End LineFault)
policy_of text = if_right (policy_read text).end (λ done. Ok (policy_begun text))
