-- The words of a command line: the program's name, a command's, and the command's own words.
use Rattle.std.proofs.Common.{◌≡◌, ◌∙◌, ◌||◌, ◌++◌, Bool, cond, true, false, List, [], ◌∷◌, length, drop, Option, Some, None, inl, inr, ap, ap₂, sym, subst, refl, append-nil, append_assoc}
use Rattle.std.specs.Prelude.{codes, find, fold, if◌then◌else◌, is_some, option_and_then, option_map}
use Rattle.std.specs.List.{list_all}
use Rattle.std.specs.Option.{option_map_or}
use Rattle.std.specs.Str.{bytes_eq}
use Rattle.std.proofs.lemmas.Bool.{cases_Bool}
use Rattle.std.proofs.lemmas.Slice.Eq.{bytes_eq-Decides}
use Rattle.clap.specs.Faults.{check_fault, defaults_fault, entered_fault, fault_of, level_fault, settle_fault, turn_fault, walk_fault}
use Rattle.clap.specs.Kinds.{Kinds, or_else}
use Rattle.clap.specs.Simple.{App, Shape, built, entered, label_of, names_of, rows_at, subcommand_of}
use Rattle.clap.specs.Walk.{Names, Row, Text, Walk, answers_to, finished, idle, nothing_held, settled, subcommand_met, walk, walk_from, walked}
use Rattle.clap.proofs.FaultLemmas.{stopped_fault}
use Rattle.clap.proofs.OnLiterals.{clap_on_literals}
use Rattle.tool_words.specs.CommandLine.{COMPARE, COMPARE_LINK, DEMO, HARDEN, Known, LINK, REWRITE, RUN, VERIFY, command_line, commands}
use Rattle.tool_words.specs.Plain.{AsksAsRead, AsksFor, AsksIfFaultless, IsAmong, IsNumber, Operands, TakesMarked, TakesPlain}
use Rattle.clap.specs.declared.error.kind.ErrorKind.{ErrorKind}
use Rattle.clap.specs.declared.error.kind.ErrorKind.TheVariants.{DisplayHelp, DisplayVersion}
use Rattle.tool_words.specs.HelpWords.{asks_help, asks_version}
use Rattle.tool_words.specs.Reading.{Reading, asks, help, if_alone, reading, reading_by, refused, request_in, told, version}
use Rattle.tool_words.proofs.Leaf.{AreAlike, cases_option, is_flat, is_word_or_request, kind_of_word, marked_alike, or_else_none, plain_alike, stand, words_read}
use Rattle.tool_words.proofs.Many.{compare_link_asks, compare_link_right, link_asks, link_right}
use Rattle.tool_words.proofs.Numbers.{AsksAll, compare_asks, compare_right, demo_asks, demo_right, harden_asks, harden_right, leaf, rewrite_asks, rewrite_right, run_asks, run_right, some_wrong, verify_asks, verify_right, wrong}

abbrev pub app : App
app = built command_line

abbrev pub start : Walk
start = walk_from nothing_held

abbrev pub stopped_at : Text → List Text → Walk
stopped_at name words = record start { stopped = Some (name, words) }

-- what is known of a command: its flags, its number of words, and how the walk comes to it
record IsKnown (command : Known) : Type 0 where
  flat : list_all is_flat (leaf command).rules ≡ true
  only : list_all is_word_or_request (leaf command).rules ≡ true
  asks : (values : List Text) → wrong command values ≡ [] → AsksAll command values
  right : (values : List Text) → IsNumber command.has_objects (length command.operands) (length values) → wrong command values ≡ []
  among : (values : List Text) → IsNumber command.has_objects (length command.operands) (length values) → IsAmong commands command.name values
  found : find (λ s. answers_to command.name (label_of s)) app.subs ≡ Some (leaf command)
  begins : walked app.top.rules (names_of app) start command.name ≡ stopped_at command.name []
  quiet : turn_fault app.top (names_of app) start command.name ≡ []

fault_is : (command : Known) → IsKnown command → (words : List Text)
    → entered_fault app (Some (command.name, words)) ≡ level_fault (leaf command) [] nothing_held words false []
fault_is command known words = ap (λ (o : Option Shape). option_map_or (λ s. level_fault s [] nothing_held words false []) o []) known.found

entered_is : (command : Known) → IsKnown command → (words : List Text) → entered app (Some (command.name, words)) ≡ Some (rows_at (leaf command) words)
entered_is command known words = ap (option_map (λ s. rows_at s words)) known.found

rewrite_known : IsKnown REWRITE
unfolding clap_on_literals
rewrite_known = record {
  flat = refl;
  only = refl;
  asks = rewrite_asks;
  right = rewrite_right;
  among = λ values number. inl (refl, number);
  found = refl;
  begins = refl;
  quiet = refl;
}

verify_known : IsKnown VERIFY
unfolding clap_on_literals
verify_known = record {
  flat = refl;
  only = refl;
  asks = verify_asks;
  right = verify_right;
  among = λ values number. inr (inl (refl, number));
  found = refl;
  begins = refl;
  quiet = refl;
}

run_known : IsKnown RUN
unfolding clap_on_literals
run_known = record {
  flat = refl;
  only = refl;
  asks = run_asks;
  right = run_right;
  among = λ values number. inr (inr (inl (refl, number)));
  found = refl;
  begins = refl;
  quiet = refl;
}

compare_known : IsKnown COMPARE
unfolding clap_on_literals
compare_known = record {
  flat = refl;
  only = refl;
  asks = compare_asks;
  right = compare_right;
  among = λ values number. inr (inr (inr (inl (refl, number))));
  found = refl;
  begins = refl;
  quiet = refl;
}

demo_known : IsKnown DEMO
unfolding clap_on_literals
demo_known = record {
  flat = refl;
  only = refl;
  asks = demo_asks;
  right = demo_right;
  among = λ values number. inr (inr (inr (inr (inl (refl, number)))));
  found = refl;
  begins = refl;
  quiet = refl;
}

harden_known : IsKnown HARDEN
unfolding clap_on_literals
harden_known = record {
  flat = refl;
  only = refl;
  asks = harden_asks;
  right = harden_right;
  among = λ values number. inr (inr (inr (inr (inr (inl (refl, number))))));
  found = refl;
  begins = refl;
  quiet = refl;
}

link_known : IsKnown LINK
unfolding clap_on_literals
link_known = record {
  flat = refl;
  only = refl;
  asks = link_asks;
  right = link_right;
  among = λ values number. inr (inr (inr (inr (inr (inr (inl (refl, number)))))));
  found = refl;
  begins = refl;
  quiet = refl;
}

compare_link_known : IsKnown COMPARE_LINK
unfolding clap_on_literals
compare_link_known = record {
  flat = refl;
  only = refl;
  asks = compare_link_asks;
  right = compare_link_right;
  among = λ values number. inr (inr (inr (inr (inr (inr (inr (inl (refl, number))))))));
  found = refl;
  begins = refl;
  quiet = refl;
}

-- ---- the walk after a command's name

walks_on : (name : Text) (before words : List Text) → fold (walked app.top.rules (names_of app)) (stopped_at name before) words ≡ stopped_at name (before ++ words)
unfolding walked
walks_on name before [] = ap (stopped_at name) (sym (append-nil before))
walks_on name before (word ∷ rest) = walks_on name (before ++ word ∷ []) rest ∙ ap (stopped_at name) (append_assoc before (word ∷ []) rest)

-- what is wrong at the top, by where the walk stops
abbrev top_fault : Walk → Kinds → Kinds
top_fault w faults = or_else faults (or_else (entered_fault app w.stopped) (or_else (settle_fault app.top.rules app.top.args_override_self w.held)
    (or_else (defaults_fault (settled app.top.rules w.held).rows app.top.rules)
    (check_fault app.top (finished app.top.rules w.held) (is_some (entered app w.stopped))))))

abbrev args_walk : List Text → Walk
args_walk args = walk app.top.rules (names_of app) nothing_held args

abbrev args_fault : List Text → Kinds
args_fault args = walk_fault app.top (names_of app) start args

top_quiet : (stop : Option (Text × List Text)) (p : Text × List Row) → entered app stop ≡ Some p
    → or_else (settle_fault app.top.rules app.top.args_override_self nothing_held) (or_else (defaults_fault (settled app.top.rules nothing_held).rows app.top.rules)
    (check_fault app.top (finished app.top.rules nothing_held) (is_some (entered app stop)))) ≡ []
unfolding clap_on_literals
top_quiet stop p e = rw e refl

module _ (command : Known) (known : IsKnown command) (program : Text) (words values : List Text)
    (same : AreAlike (leaf command) false nothing_held 1 words values)
    (number : IsNumber command.has_objects (length command.operands) (length values)) where
  abbrev own : Text
  own = command.name

  walk_is : args_walk (own ∷ words) ≡ stopped_at own words
  walk_is = ap (λ w. fold (walked app.top.rules (names_of app)) w words) known.begins ∙ walks_on own [] words

  walk_quiet : args_fault (own ∷ words) ≡ []
  unfolding walk_fault
  walk_quiet = ap₂ or_else known.quiet (ap (λ w. walk_fault app.top (names_of app) w words) known.begins ∙ stopped_fault app.top (names_of app) start (own, []) words)

  entered_quiet : entered_fault app (Some (own, words)) ≡ []
  entered_quiet = fault_is command known words ∙ same.0 ∙ known.right values number

  faultless : fault_of command_line (program ∷ own ∷ words) ≡ []
  faultless = ap₂ top_fault walk_is walk_quiet
      ∙ ap₂ or_else entered_quiet (top_quiet (Some (own, words)) (rows_at (leaf command) words) (entered_is command known words))

  asked_is : option_and_then request_in (subcommand_of command_line (program ∷ own ∷ words)) ≡ Some (own ∷ values)
  asked_is = ap (λ (w : Walk). option_and_then request_in (entered app w.stopped)) walk_is ∙ ap (option_and_then request_in) (entered_is command known words)
      ∙ ap (λ h. request_in ((leaf command).name, finished (leaf command).rules h)) same.1 ∙ (known.asks values (known.right values number)).0

  known_taken : reading (program ∷ own ∷ words) ≡ asks (own ∷ values)
  known_taken = ap (if_alone (program ∷ own ∷ words)) (ap₂ reading_by faultless asked_is)

-- words that are alike a command's after `--` are taken for these
module _ (program name : Text) (words values : List Text)
    (same : (s : Shape) → list_all is_flat s.rules ≡ true → AreAlike s false nothing_held 1 words values) where
  as_known : (command : Known) → IsKnown command
      → (command.name ≡ name) × IsNumber command.has_objects (length command.operands) (length values)
      → reading (program ∷ name ∷ words) ≡ asks (name ∷ values)
  as_known command known is = subst (λ n. reading (program ∷ n ∷ words) ≡ asks (n ∷ values)) is.0
      (known_taken command known program words values (same (leaf command) known.flat) is.1)

  alike_taken : IsAmong commands name values → reading (program ∷ name ∷ words) ≡ asks (name ∷ values)
  alike_taken (inl is) = as_known _ rewrite_known is
  alike_taken (inr (inl is)) = as_known _ verify_known is
  alike_taken (inr (inr (inl is))) = as_known _ run_known is
  alike_taken (inr (inr (inr (inl is)))) = as_known _ compare_known is
  alike_taken (inr (inr (inr (inr (inl is))))) = as_known _ demo_known is
  alike_taken (inr (inr (inr (inr (inr (inl is)))))) = as_known _ harden_known is
  alike_taken (inr (inr (inr (inr (inr (inr (inl is))))))) = as_known _ link_known is
  alike_taken (inr (inr (inr (inr (inr (inr (inr (inl is)))))))) = as_known _ compare_link_known is
  alike_taken (inr (inr (inr (inr (inr (inr (inr (inr no_more)))))))) = absurd no_more

-- ---- words without a fault

abbrev Entered : Text → List Text → Type 0
Entered name rest = (values : List Text) × Operands rest values × IsAmong commands name values
    × (option_and_then request_in (entered app (Some (name, rest))) ≡ Some (name ∷ values))

known_entered : (command : Known) → IsKnown command → (rest : List Text) → entered_fault app (Some (command.name, rest)) ≡ []
    → Entered command.name rest
known_entered command known rest quiet =
    let read = words_read (leaf command) known.flat known.only rest false nothing_held 1 refl (sym (fault_is command known rest) ∙ quiet) in
    let asks = known.asks read.values read.faultless in (
      read.values,
      read.operands,
      known.among read.values asks.1,
      ap (option_and_then request_in) (entered_is command known rest)
          ∙ ap (λ h. request_in ((leaf command).name, finished (leaf command).rules h)) read.held_is ∙ asks.0,
    )

named_as : (known name : Text) → bytes_eq known name ≡ true → known ≡ name
named_as known name e = (bytes_eq-Decides known name).0 e

entered_by_name : (name : Text) (rest : List Text) → is_some (entered app (Some (name, rest))) ≡ true → entered_fault app (Some (name, rest)) ≡ [] → Entered name rest
entered_by_name name rest has quiet = elim (cases_Bool (bytes_eq REWRITE.name name)) [
  | inl e ↦ as_known _ rewrite_known (named_as _ name e)
  | inr one ↦ elim (cases_Bool (bytes_eq VERIFY.name name)) [
    | inl e ↦ as_known _ verify_known (named_as _ name e)
    | inr two ↦ elim (cases_Bool (bytes_eq RUN.name name)) [
      | inl e ↦ as_known _ run_known (named_as _ name e)
      | inr three ↦ elim (cases_Bool (bytes_eq COMPARE.name name)) [
        | inl e ↦ as_known _ compare_known (named_as _ name e)
        | inr four ↦ elim (cases_Bool (bytes_eq DEMO.name name)) [
          | inl e ↦ as_known _ demo_known (named_as _ name e)
          | inr five ↦ elim (cases_Bool (bytes_eq HARDEN.name name)) [
            | inl e ↦ as_known _ harden_known (named_as _ name e)
            | inr six ↦ elim (cases_Bool (bytes_eq LINK.name name)) [
              | inl e ↦ as_known _ link_known (named_as _ name e)
              | inr seven ↦ elim (cases_Bool (bytes_eq COMPARE_LINK.name name)) [
                | inl e ↦ as_known _ compare_link_known (named_as _ name e)
                | inr eight ↦ let bad : false ≡ true = rw (one, two, three, four, five, six, seven, eight) at has in absurd (cc)
              ]
            ]
          ]
        ]
      ]
    ]
  ]
]
  where
    as_known : (command : Known) → IsKnown command → command.name ≡ name → Entered name rest
    as_known command known e = subst (λ n. entered_fault app (Some (n, rest)) ≡ [] → Entered n rest) e (known_entered command known rest) quiet

abbrev has_no_alias : Text × List Text → Bool
has_no_alias (name, []) = true
has_no_alias (name, alias ∷ aliases) = false

-- a command that is met has the word's name
met_name : (word n : Text) (names : Names) → list_all has_no_alias names ≡ true → option_map (λ s. s.0) (find (answers_to word) names) ≡ Some n → n ≡ word
met_name word n [] all e = absurd (cc)
met_name word n ((known, []) ∷ rest) all e = go (bytes_eq known word) refl (met_name word n rest all) e
  where
    go : (b : Bool) → bytes_eq known word ≡ b → (option_map (λ s. s.0) (find (answers_to word) rest) ≡ Some n → n ≡ word)
        → option_map (λ s. s.0) (cond (b || false) (Some (known, [])) (find (answers_to word) rest)) ≡ Some n → n ≡ word
    go true is later e =
        let same_name : known ≡ n = cc in
        sym same_name ∙ named_as known word is
    go false is later e = later e
met_name word n ((known, alias ∷ aliases) ∷ rest) all e = absurd (cc)

turn_apart : (word : Text) → subcommand_met (names_of app) idle word ≡ None
    → turn_fault app.top (names_of app) start word ≡ turn_fault app.top [] start word
turn_apart word none = rw none refl

walked_apart : (word : Text) → subcommand_met (names_of app) idle word ≡ None
    → walked app.top.rules (names_of app) start word ≡ walked app.top.rules [] start word
unfolding walked
walked_apart word none = rw none refl

walked_met : (word n : Text) → subcommand_met (names_of app) idle word ≡ Some n → walked app.top.rules (names_of app) start word ≡ stopped_at n []
unfolding walked
walked_met word n met = rw met refl

-- after `--` no command is met
none_after_mark : (rest : List Text) (p : Text × List Text) → walk_fault app.top (names_of app) (stand false true nothing_held 1) rest ≡ []
    → (fold (walked app.top.rules (names_of app)) (stand false true nothing_held 1) rest).stopped ≡ Some p → ⊥
unfolding walk_fault
none_after_mark [] p quiet stop = absurd (cc)
none_after_mark (word ∷ rest) p quiet stop = some_wrong (or_else_none (turn_fault app.top (names_of app) (stand false true nothing_held 1) word)
    (walk_fault app.top (names_of app) (walked app.top.rules (names_of app) (stand false true nothing_held 1) word) rest) quiet).0

args_are : (args : List Text) (p : Text × List Text) → args_fault args ≡ [] → (args_walk args).stopped ≡ Some p → args ≡ p.0 ∷ p.1
unfolding walk_fault
args_are [] p quiet stop = absurd (cc)
args_are (word ∷ rest) p quiet stop = elim (cases_option (subcommand_met (names_of app) idle word)) [
  | inr (n, met) ↦
      let walk_is = ap (λ w. fold (walked app.top.rules (names_of app)) w rest) (walked_met word n met) ∙ walks_on n [] rest in
      let same_stop : Some (n, rest) ≡ Some p = sym (ap (λ (w : Walk). w.stopped) walk_is) ∙ stop in
      let pair : (n, rest) ≡ p = cc in
      ap₂ (λ w ws. w ∷ ws) (sym (met_name word n (names_of app) refl met) ∙ ap (λ (q : Text × List Text). q.0) pair) (ap (λ (q : Text × List Text). q.1) pair)
  | inl none ↦
      let parts = or_else_none (turn_fault app.top (names_of app) start word) _ quiet in
      apart none parts.0 parts.1
]
  where
    apart : subcommand_met (names_of app) idle word ≡ None → turn_fault app.top (names_of app) start word ≡ []
        → walk_fault app.top (names_of app) (walked app.top.rules (names_of app) start word) rest ≡ [] → word ∷ rest ≡ p.0 ∷ p.1
    apart none here later = elim (kind_of_word app.top refl refl false nothing_held 1 word refl (sym (turn_apart word none) ∙ here)) [
      | inl mark ↦
          let next = walked_apart word none ∙ mark.1 in
          absurd (none_after_mark rest p (ap (λ w. walk_fault app.top (names_of app) w rest) (sym next) ∙ later)
          (ap (λ w. (fold (walked app.top.rules (names_of app)) w rest).stopped) (sym next) ∙ stop))
      | inr taken ↦ absurd (some_wrong (sym taken.0 ∙ sym (turn_apart word none) ∙ here))
    ]

needs_command : (rows : List Row) (has : Bool) → check_fault app.top rows has ≡ [] → has ≡ true
needs_command rows true quiet = refl
needs_command rows false quiet = absurd (some_wrong quiet)

by_stop : (words : List Text) (stop : Option (Text × List Text)) → fault_of command_line words ≡ [] → args_fault (drop 1 words) ≡ []
    → (args_walk (drop 1 words)).stopped ≡ stop → entered_fault app stop ≡ [] → is_some (entered app stop) ≡ true → AsksFor words
by_stop words None none quiet is faults has = absurd (cc)
by_stop [] (Some p) none quiet is faults has = absurd (cc)
by_stop (program ∷ args) (Some (name, rest)) none quiet is faults has =
    let entered_as = entered_by_name name rest has faults in
    record {
      program = program;
      name = name;
      rest = rest;
      values = entered_as.0;
      words_are = ap (λ ws. program ∷ ws) (args_are args (name, rest) quiet is);
      operands = entered_as.1;
      known = entered_as.2;
      reading_is = ap (if_alone (program ∷ args)) (ap₂ reading_by none (ap (λ s. option_and_then request_in (entered app s)) is ∙ entered_as.3));
    }

pub asks_if_faultless : (words : List Text) → AsksIfFaultless words
asks_if_faultless words none =
    let w = args_walk (drop 1 words) in
    let one = or_else_none (args_fault (drop 1 words)) _ none in
    let two = or_else_none (entered_fault app w.stopped) _ one.1 in
    let three = or_else_none (settle_fault app.top.rules app.top.args_override_self w.held) _ two.1 in
    let four = or_else_none (defaults_fault (settled app.top.rules w.held).rows app.top.rules) _ three.1 in
    by_stop words w.stopped none one.0 refl two.0 (needs_command (finished app.top.rules w.held) (is_some (entered app w.stopped)) four.1)

-- what is told for an error asks for nothing
text_asks_none : (test : Bool) (text : Reading) (request : List Text) → (text ≡ asks request → ⊥) → (if test then text else refused) ≡ asks request → ⊥
text_asks_none true text request none e = none e
text_asks_none false text request none e = absurd (cc)

help_asks_none : (request : List Text) → help ≡ asks request → ⊥
help_asks_none request e = absurd (cc)

version_asks_none : (request : List Text) → version ≡ asks request → ⊥
version_asks_none request e = absurd (cc)

told_asks_none : (words : List Text) (kind : ErrorKind) (request : List Text) → if_alone words (told kind) ≡ asks request → ⊥
told_asks_none words DisplayHelp request e = text_asks_none (asks_help words) help request (help_asks_none request) e
told_asks_none words DisplayVersion request e = text_asks_none (asks_version words) version request (version_asks_none request) e
told_asks_none words other request e = absurd (cc)

no_kinds : (words : List Text) (kinds : Kinds) (asked : Option (List Text)) (request : List Text) → if_alone words (reading_by kinds asked) ≡ asks request → kinds ≡ []
no_kinds words [] asked request e = refl
no_kinds words (kind ∷ kinds) asked request e = absurd (told_asks_none words kind request e)

pub asks_as_read : (words : List Text) → AsksAsRead words
asks_as_read words = λ request e.
    asks_if_faultless words (no_kinds words (fault_of command_line words) (option_and_then request_in (subcommand_of command_line words)) request e)

pub takes_plain : (words : List Text) → TakesPlain words
takes_plain words program name own request is = subst (λ ws. reading ws ≡ asks (name ∷ own)) (sym is)
    (alike_taken program name own own (λ s flat. plain_alike s flat own false nothing_held 1 request.plain) request.known)

pub takes_marked : (words : List Text) → TakesMarked words
takes_marked words program name before after known plain is = subst (λ ws. reading ws ≡ asks (name ∷ before ++ after)) (sym is)
    (alike_taken program name (before ++ codes "--" ∷ after) (before ++ after) (λ s flat. marked_alike s flat before after false nothing_held 1 plain) known)
