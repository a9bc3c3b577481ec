-- The words of a command that has objects, by their number: any number of objects behind its other words without a fault, but not none.
use Rattle.std.proofs.Common.{◌≡◌, ◌∙◌, ◌<◌, ◌++◌, true, List, [], ◌∷◌, length, Some, None, ap, ap₂, append_assoc, arith, refl}
use Rattle.std.specs.Prelude.{codes}
use Rattle.clap.specs.Faults.{turn_fault, walk_fault}
use Rattle.clap.specs.Kinds.{or_else}
use Rattle.clap.specs.Simple.{Shape}
use Rattle.clap.specs.Walk.{Row, Text, Walk, finished, walked}
use Rattle.clap.specs.declared.builder.value_parser.Reading.TheVariants.{AsWritten}
use Rattle.clap.specs.declared.parser.matches.ValueSource.TheVariants.{CommandLine}
use Rattle.clap.proofs.OnLiterals.{clap_on_literals}
use Rattle.tool_words.specs.CommandLine.{COMPARE_LINK, LINK}
use Rattle.tool_words.specs.Reading.{request_in}
use Rattle.tool_words.proofs.Leaf.{end_fault, fault_from, held, held_after, stand, unrolled}
use Rattle.tool_words.proofs.Numbers.{AsksAll, by_number, leaf, over_number, refuted, wrong}

-- what is found for a name
abbrev row : Text → List Text → Row
row name values = record { id = name; values = values; count = None; source = Some CommandLine; reading = AsWritten }

-- the rows of words, one for each name
abbrev rows_of_words : List Text → List Text → List Row
rows_of_words (name ∷ names) (word ∷ words) = row name (word ∷ []) ∷ rows_of_words names words
rows_of_words names words = []

-- these rows, and behind them that of the objects that are used
abbrev with_used : List Row → List Text → List Row
with_used rows [] = rows
with_used rows (first ∷ used) = rows ++ row (codes "OBJECT") (first ∷ used) ∷ []

-- the walk behind some objects, of which all but the last are used
abbrev behind : List Row → List Text → Text → Walk
behind rows used last = stand true true (held (with_used rows used) (Some (codes "OBJECT", last ∷ []))) 7

-- behind words with these rows a command takes every word as one more object
record Repeats (s : Shape) (rows : List Row) (asked : List Text) : Type 0 where
  next : (used : List Text) (last word : Text) → walked s.rules [] (behind rows used last) word ≡ behind rows (used ++ last ∷ []) word
  quiet : (used : List Text) (last word : Text) → turn_fault s [] (behind rows used last) word ≡ []
  ends : (used : List Text) (last : Text) → end_fault s (behind rows used last).held ≡ []
  asks : (used : List Text) (last : Text)
      → request_in (s.name, finished s.rules (behind rows used last).held) ≡ Some (asked ++ (used ++ last ∷ []))

module _ (s : Shape) (rows : List Row) (asked : List Text) (repeats : Repeats s rows asked) where
  many_quiet : (objects used : List Text) (last : Text) → fault_from s (behind rows used last) objects ≡ []
  unfolding walk_fault
  many_quiet [] used last = repeats.ends used last
  many_quiet (object ∷ objects) used last =
      unrolled s (behind rows used last) object objects
      ∙ ap₂ or_else (repeats.quiet used last object)
      (ap (λ w. fault_from s w objects) (repeats.next used last object) ∙ many_quiet objects (used ++ last ∷ []) object)

  many_asked : (objects used : List Text) (last : Text)
      → request_in (s.name, finished s.rules (held_after s (behind rows used last) objects)) ≡ Some (asked ++ (used ++ last ∷ objects))
  many_asked [] used last = repeats.asks used last
  many_asked (object ∷ objects) used last =
      ap (λ w. request_in (s.name, finished s.rules (held_after s w objects))) (repeats.next used last object)
      ∙ many_asked objects (used ++ last ∷ []) object ∙ ap (λ all. Some (asked ++ all)) (append_assoc used (last ∷ []) (object ∷ objects))

module _ (a b c d e f : Text) where
  abbrev link_words : List Text
  link_words = a ∷ b ∷ c ∷ d ∷ e ∷ f ∷ []

  abbrev link_rows : List Row
  link_rows = rows_of_words LINK.operands link_words

  link_next : (used : List Text) (last word : Text) → walked (leaf LINK).rules [] (behind link_rows used last) word ≡ behind link_rows (used ++ last ∷ []) word
  unfolding clap_on_literals
  link_next [] last word = refl
  link_next (first ∷ used) last word = refl

  link_quiet : (used : List Text) (last word : Text) → turn_fault (leaf LINK) [] (behind link_rows used last) word ≡ []
  unfolding clap_on_literals
  link_quiet [] last word = refl
  link_quiet (first ∷ used) last word = refl

  link_ends : (used : List Text) (last : Text) → end_fault (leaf LINK) (behind link_rows used last).held ≡ []
  unfolding clap_on_literals
  link_ends [] last = refl
  link_ends (first ∷ used) last = refl

  link_all : (used : List Text) (last : Text)
      → request_in ((leaf LINK).name, finished (leaf LINK).rules (behind link_rows used last).held) ≡ Some (LINK.name ∷ link_words ++ (used ++ last ∷ []))
  unfolding clap_on_literals
  link_all [] last = refl
  link_all (first ∷ used) last = refl

  link_repeats : Repeats (leaf LINK) link_rows (LINK.name ∷ link_words)
  link_repeats = record { next = link_next; quiet = link_quiet; ends = link_ends; asks = link_all }

module _ (a b c d e f : Text) where
  abbrev compare_link_words : List Text
  compare_link_words = a ∷ b ∷ c ∷ d ∷ e ∷ f ∷ []

  abbrev compare_link_rows : List Row
  compare_link_rows = rows_of_words COMPARE_LINK.operands compare_link_words

  compare_link_next : (used : List Text) (last word : Text) → walked (leaf COMPARE_LINK).rules [] (behind compare_link_rows used last) word ≡ behind compare_link_rows (used ++ last ∷ []) word
  unfolding clap_on_literals
  compare_link_next [] last word = refl
  compare_link_next (first ∷ used) last word = refl

  compare_link_quiet : (used : List Text) (last word : Text) → turn_fault (leaf COMPARE_LINK) [] (behind compare_link_rows used last) word ≡ []
  unfolding clap_on_literals
  compare_link_quiet [] last word = refl
  compare_link_quiet (first ∷ used) last word = refl

  compare_link_ends : (used : List Text) (last : Text) → end_fault (leaf COMPARE_LINK) (behind compare_link_rows used last).held ≡ []
  unfolding clap_on_literals
  compare_link_ends [] last = refl
  compare_link_ends (first ∷ used) last = refl

  compare_link_all : (used : List Text) (last : Text)
      → request_in ((leaf COMPARE_LINK).name, finished (leaf COMPARE_LINK).rules (behind compare_link_rows used last).held) ≡ Some (COMPARE_LINK.name ∷ compare_link_words ++ (used ++ last ∷ []))
  unfolding clap_on_literals
  compare_link_all [] last = refl
  compare_link_all (first ∷ used) last = refl

  compare_link_repeats : Repeats (leaf COMPARE_LINK) compare_link_rows (COMPARE_LINK.name ∷ compare_link_words)
  compare_link_repeats = record { next = compare_link_next; quiet = compare_link_quiet; ends = compare_link_ends; asks = compare_link_all }

pub link_asks : (values : List Text) → wrong LINK values ≡ [] → AsksAll LINK values
unfolding clap_on_literals
link_asks =
    by_number 6 (λ values. wrong LINK values ≡ [] → AsksAll LINK values)
    (refuted, λ a. (refuted, λ b. (refuted, λ c. (refuted, λ d. (refuted, λ e. (refuted, λ f. (refuted, λ object more none. (many_asked _ _ _ (link_repeats a b c d e f) more [] object, omega arith))))))))

pub link_right : (values : List Text) → 6 < length values → wrong LINK values ≡ []
unfolding clap_on_literals
link_right = over_number 6 (λ values. wrong LINK values ≡ []) (λ a b c d e f object more. many_quiet _ _ _ (link_repeats a b c d e f) more [] object)

pub compare_link_asks : (values : List Text) → wrong COMPARE_LINK values ≡ [] → AsksAll COMPARE_LINK values
unfolding clap_on_literals
compare_link_asks =
    by_number 6 (λ values. wrong COMPARE_LINK values ≡ [] → AsksAll COMPARE_LINK values)
    (refuted, λ a. (refuted, λ b. (refuted, λ c. (refuted, λ d. (refuted, λ e. (refuted, λ f. (refuted, λ object more none. (many_asked _ _ _ (compare_link_repeats a b c d e f) more [] object, omega arith))))))))

pub compare_link_right : (values : List Text) → 6 < length values → wrong COMPARE_LINK values ≡ []
unfolding clap_on_literals
compare_link_right = over_number 6 (λ values. wrong COMPARE_LINK values ≡ []) (λ a b c d e f object more. many_quiet _ _ _ (compare_link_repeats a b c d e f) more [] object)
