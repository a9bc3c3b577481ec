-- The kinds of error that words may have all tell the same, so the first of them tells what the words are read as.
use Rattle.std.proofs.Common.{◌≡◌, ◌==◌, ◌&&◌, ◌+◌, cond, ℕ, zero, suc, Bool, true, false, not, nat_lt, List, [], ◌∷◌, length, drop, Option, Some, None, inl, inr, ap, sym, refl}
use Rattle.std.specs.Prelude.{if◌then◌else◌, codes, encode_utf8, slice_get, min, is_some, find}
use Rattle.std.specs.Option.{option_map_or}
use Rattle.std.specs.Str.{bytes_eq, chars}
use Rattle.std.specs.List.{list_all}
use Rattle.std.proofs.lemmas.Bool.{and_parts}
use Rattle.clap.specs.Facts.{unwrap_or_range}
use Rattle.clap.specs.Faults.{action_fault, bundle_step_fault, count_fault, default_fault, defaults_fault, entered_fault, fault_of, flag_word_fault, flags_fault, level_fault, long_fault, option_fault, other_fault, positional_fault, react_fault, set_fault, settle_fault, short_fault, step_fault, stray_fault, turn_fault, use_fault, walk_fault, word_fault}
use Rattle.clap.specs.Kinds.{IsAmong, Kinds, check_kinds, or_else, range_kinds, request_kinds, value_kinds, values_kinds}
use Rattle.clap.specs.Lexer.{long_of, short_of}
use Rattle.clap.specs.Matches.{count_text}
use Rattle.clap.specs.Simple.{Shape, argument_words, built, entered, label_of, names_of}
use Rattle.clap.specs.ValueTests.{accepts}
use Rattle.clap.specs.Values.{refused_kind}
use Rattle.clap.specs.Walk.{Held, Names, Row, Rule, Step, Text, Waiting, Walk, action_of, answers_to, arg_by_id, arg_by_index, arg_by_long, arg_by_short, attached_value, count_of, has_row, is_pending, most_values, next, nothing_held, reacted, settled, subcommand, subcommand_met, takes_several, takes_values, trailing, value, values_or_missing, walk, walk_from, walked, with_default, word_met}
use Rattle.clap.specs.declared.builder.action.ArgAction.{ArgAction}
use Rattle.clap.specs.declared.builder.action.ArgAction.TheVariants.{Set, Append, SetTrue, SetFalse, Count, Help, HelpShort, HelpLong, Version}
use Rattle.clap.specs.declared.builder.value_parser.ValueParser.{ValueParser}
use Rattle.clap.specs.declared.error.kind.ErrorKind.{ErrorKind}
use Rattle.clap.specs.declared.error.kind.ErrorKind.TheVariants as kind
use Rattle.tool_words.specs.CommandLine.{command_line}
use Rattle.tool_words.specs.Reading.{reading_by, told}

pub record Alike (kinds : Kinds) : Type 0 where
  pub same : (kind : ErrorKind) (asked : Option (List Text)) → IsAmong kind kinds → reading_by kinds asked ≡ told kind

no_kind : Alike []
no_kind = record { same = λ k asked h. absurd h }

one_told : (k : ErrorKind) (kind : ErrorKind) (asked : Option (List Text)) → IsAmong kind (k ∷ []) → reading_by (k ∷ []) asked ≡ told kind
one_told k kind asked (inl e) = ap told (sym e)
one_told k kind asked (inr h) = absurd h

one_kind : (k : ErrorKind) → Alike (k ∷ [])
one_kind k = record { same = one_told k }

first : (a b : Kinds) → Alike a → Alike b → Alike (or_else a b)
first [] b x y = y
first (k ∷ ks) b x y = x

choice : (test : Bool) (a b : Kinds) → Alike a → Alike b → Alike (if test then a else b)
choice true a b x y = x
choice false a b x y = y

perhaps : {X : Type 0} (o : Option X) (f : X → Kinds) (other : Kinds) → ((x : X) → Alike (f x)) → Alike other → Alike (option_map_or f o other)
perhaps None f other x y = y
perhaps (Some v) f other x y = x v

-- ---- values

of_value : (i : Bool) (p : ValueParser) (text : Text) → Alike (value_kinds i p text)
of_value i p text = choice (accepts i p text) [] (refused_kind p ∷ []) no_kind (one_kind _)

of_values : (i : Bool) (p : ValueParser) (texts : List Text) → Alike (values_kinds i p texts)
of_values i p [] = no_kind
of_values i p (v ∷ vs) = first _ _ (of_value i p v) (of_values i p vs)

of_range : (least most n : ℕ) → Alike (range_kinds least most n)
of_range least most n = choice (nat_lt 0 least && n == 0) _ _ (one_kind _)
    (choice (least == most) _ _ (choice (least == n) _ _ no_kind (one_kind _))
    (choice (nat_lt n least) _ _ (one_kind _) (choice (nat_lt most n) _ _ (one_kind _) no_kind)))

of_request : (x : ArgAction) → Alike (request_kinds x)
of_request Help = one_kind _
of_request HelpShort = one_kind _
of_request HelpLong = one_kind _
of_request Version = one_kind _
of_request Set = no_kind
of_request Append = no_kind
of_request SetTrue = no_kind
of_request SetFalse = no_kind
of_request Count = no_kind

of_checks : (a b c : Bool) → Alike (check_kinds a b c)
of_checks a b c = choice a _ _ (one_kind _) (choice b _ _ (one_kind _) (choice c _ _ (one_kind _) no_kind))

-- ---- one use of an argument

of_set : (again : Bool) (a : Rule) (values : List Text) (rows : List Row) → Alike (set_fault again a values rows)
of_set again a values rows = first _ _ (choice (has_row a.id rows && not again) _ _ (one_kind kind.ArgumentConflict) no_kind) (of_values a.ignore_case _ values)

of_count : (a : Rule) (values : List Text) (rows : List Row) → Alike (count_fault a values rows)
of_count a [] rows = of_value a.ignore_case _ (count_text (min (count_of a.id rows + 1) 255))
of_count a (v ∷ vs) rows = of_values a.ignore_case _ (v ∷ vs)

of_action : (x : ArgAction) (again : Bool) (a : Rule) (values : List Text) (rows : List Row) → Alike (action_fault x again a values rows)
of_action Set again a values rows = of_set again a values rows
of_action SetTrue again a values rows = of_set again a values rows
of_action SetFalse again a values rows = of_set again a values rows
of_action Append again a values rows = of_values a.ignore_case _ values
of_action Count again a values rows = of_count a values rows
of_action Help again a values rows = of_request Help
of_action HelpShort again a values rows = of_request HelpShort
of_action HelpLong again a values rows = of_request HelpLong
of_action Version again a values rows = of_request Version

of_use : (again : Bool) (a : Rule) (values : List Text) (rows : List Row) → Alike (use_fault again a values rows)
of_use again a values rows = first _ _ (of_range (unwrap_or_range a.range).start_inclusive (most_values a) (length values))
    (of_action (action_of a) again a (values_or_missing a values) rows)

-- ---- the walk

of_settling : (c : List Rule) (again : Bool) (h : Held) → Alike (settle_fault c again h)
of_settling c again h = perhaps h.pending _ [] (λ p. perhaps (arg_by_id c p.0) _ [] (λ a. of_use again a p.1 h.rows) no_kind) no_kind

of_reaction : (c : List Rule) (again : Bool) (a : Rule) (values : List Text) (h : Held) → Alike (react_fault c again a values h)
of_reaction c again a values h = first _ _ (of_settling c again h) (of_use again a values (settled c h).rows)

of_option : (c : List Rule) (again : Bool) (a : Rule) (v : Option Text) (h : Held) → Alike (option_fault c again a v h)
of_option c again a (Some v) h = of_reaction c again a (v ∷ []) h
of_option c again a None h = of_settling c again h

of_long : (c : List Rule) (again : Bool) (a : Option Rule) (v : Option Text) (h : Held) → Alike (long_fault c again a v h)
of_long c again None v h = one_kind _
of_long c again (Some a) v h = choice (takes_values a) _ _ (of_option c again a v h) (choice (is_some v) _ _ (one_kind _) (of_reaction c again a [] h))

of_short : (c : List Rule) (again : Bool) (a : Option Rule) (rest : Text) (h : Held) (next : Held → Kinds) → ((held : Held) → Alike (next held))
    → Alike (short_fault c again a rest h next)
of_short c again None rest h later onward = one_kind _
of_short c again (Some a) rest h later onward =
    choice (takes_values a) _ _ (of_option c again a (attached_value rest) h) (first _ _ (of_reaction c again a [] h) (onward (reacted c a [] h)))

of_flag : (c : List Rule) (again : Bool) (x : Option ℕ) (flags : Text) (skip : ℕ) (h : Held) (next : Text → ℕ → Held → Kinds)
    → ((rest : Text) (left : ℕ) (held : Held) → Alike (next rest left held)) → Alike (bundle_step_fault c again x flags skip h next)
of_flag c again None flags skip h later onward = no_kind
of_flag c again (Some x) flags zero h later onward =
    let rest = drop (length (encode_utf8 x)) flags in
    of_short c again (arg_by_short c x) rest h (later rest 0) (onward rest 0)
of_flag c again (Some x) flags (suc skip) h later onward = onward (drop (length (encode_utf8 x)) flags) skip h

of_flags : (c : List Rule) (again : Bool) (k : ℕ) (flags : Text) (skip : ℕ) (h : Held) → Alike (flags_fault c again k flags skip h)
unfolding flags_fault
of_flags c again zero flags skip h = no_kind
of_flags c again (suc k) flags skip h =
    of_flag c again (slice_get (chars flags) 0) flags skip h (flags_fault c again k) (of_flags c again k)

of_flag_word : (c : List Rule) (again : Bool) (long : Option (Text × Option Text)) (word : Text) (h : Held) → Alike (flag_word_fault c again long word h)
of_flag_word c again (Some p) word h = of_long c again (arg_by_long c p.0) p.1 h
of_flag_word c again None word h =
    perhaps (short_of word) _ [] (λ flags. of_flags c again (length flags) flags h.skip (record h { skip = 0 })) no_kind

never : (test : Bool) → (test && not true) ≡ false
never true = refl
never false = refl

module _ (s : Shape) (no_help : s.disable_help_subcommand ≡ true) where
  of_other : (met : Option Text) (word : Text) (h : Held) → Alike (other_fault s met word h)
  of_other (Some name) word h = rw (no_help, never (bytes_eq name (codes "help"))) no_kind
  of_other None word h =
      choice (bytes_eq word (45 ∷ 45 ∷ [])) _ _ no_kind (of_flag_word s.rules s.args_override_self (long_of word) word h)

  of_word : (names : Names) (is_trailing : Bool) (waiting : Waiting) (word : Text) (h : Held) → Alike (word_fault s names is_trailing waiting word h)
  of_word names is_trailing waiting word h = choice is_trailing _ _ no_kind (of_other (subcommand_met names waiting word) word h)

  two_told : (k : ErrorKind) (asked : Option (List Text)) → IsAmong k (kind.UnknownArgument ∷ kind.InvalidSubcommand ∷ [])
      → reading_by (kind.UnknownArgument ∷ kind.InvalidSubcommand ∷ []) asked ≡ told k
  two_told k asked (inl e) = ap told (sym e)
  two_told k asked (inr (inl e)) = ap told (sym e)
  two_told k asked (inr (inr h)) = absurd h

  of_stray : Alike (stray_fault s)
  of_stray = choice s.is_leaf _ _ (one_kind _) (record { same = two_told })

  of_place : (a : Rule) (h : Held) → Alike (positional_fault s.rules s.args_override_self a h)
  of_place a h = choice (is_pending a h.pending && takes_several a) _ _ no_kind (of_settling s.rules s.args_override_self h)

  of_step : (position : ℕ) (h : Held) (step : Step) → Alike (step_fault s position h step)
  of_step position h value = perhaps (arg_by_index s.rules position) _ (stray_fault s) (λ a. of_place a h) of_stray
  of_step position h (next waiting) = no_kind
  of_step position h (trailing at) = no_kind
  of_step position h (subcommand name) = no_kind

  of_turn : (names : Names) (w : Walk) (word : Text) → Alike (turn_fault s names w word)
  of_turn names w word =
      let met = word_met s.rules names w.is_trailing w.waiting w.position word w.held in
      choice (is_some w.stopped) _ _ no_kind (first _ _ (of_word names w.is_trailing w.waiting word w.held) (of_step w.position met.0 met.1))

  of_walk : (names : Names) (w : Walk) (words : List Text) → Alike (walk_fault s names w words)
  unfolding walk_fault
  of_walk names w [] = no_kind
  of_walk names w (word ∷ rest) = first _ _ (of_turn names w word) (of_walk names (walked s.rules names w word) rest)

  -- ---- after the walk

  of_default : (rows : List Row) (a : Rule) → Alike (default_fault rows a)
  of_default rows a = choice _ _ _ no_kind (first _ _ (of_request (action_of a)) (of_values a.ignore_case _ a.defaults))

  of_defaults : (rows : List Row) (rules : List Rule) → Alike (defaults_fault rows rules)
  unfolding defaults_fault
  of_defaults rows [] = no_kind
  of_defaults rows (a ∷ rest) = first _ _ (of_default rows a) (of_defaults (with_default rows a) rest)

  of_level : (names : Names) (h : Held) (words : List Text) (has : Bool) (below : Kinds) → Alike below → Alike (level_fault s names h words has below)
  of_level names h words has below under =
      let end = (walk s.rules names h words).held in
      first _ _ (of_walk names (walk_from h) words) (first _ _ under (first _ _ (of_settling s.rules s.args_override_self end)
      (first _ _ (of_defaults (settled s.rules end).rows s.rules) (of_checks _ _ _))))

perhaps_found : {X : Type 0} (p q : X → Bool) (xs : List X) (f : X → Kinds) → list_all p xs ≡ true → ((x : X) → p x ≡ true → Alike (f x))
    → Alike (option_map_or f (find q xs) [])
perhaps_found p q [] f all each = no_kind
perhaps_found {X} p q (y ∷ ys) f all each = go (q y) (perhaps_found p q ys f (and_parts (p y) (list_all p ys) all).1 each)
  where
    go : (b : Bool) → Alike (option_map_or f (find q ys) []) → Alike (option_map_or f (cond b (Some y) (find q ys)) [])
    go true rest = each y (and_parts (p y) (list_all p ys) all).0
    go false rest = rest

-- the kinds of error that the words of a command line may have
pub of_command_line : (words : List Text) → Alike (fault_of command_line words)
of_command_line words =
    let app = built command_line in
    let args = argument_words command_line words in
    let stop = (walk app.top.rules (names_of app) nothing_held args).stopped in
    of_level app.top refl (names_of app) nothing_held args (is_some (entered app stop)) (entered_fault app stop)
    (perhaps stop _ [] (λ p. perhaps_found (λ (s : Shape). s.disable_help_subcommand) (λ s. answers_to p.0 (label_of s)) app.subs
    (λ s. level_fault s [] nothing_held p.1 false []) refl (λ s no_help. of_level s no_help [] nothing_held p.1 false [] no_kind)) no_kind)
