-- A command's own words. What `clap` makes of them where none is taken for a flag, and that each word without a fault is a word of
-- the command, but for one `--`.
use Rattle.std.proofs.Common.{◌≡◌, ◌⊎◌, ◌∙◌, ◌==◌, ◌&&◌, ◌||◌, ◌++◌, ℕ, Bool, cond, true, false, not, List, [], ◌∷◌, Option, Some, None, inl, inr, ap, ap₂, sym, subst, refl}
use Rattle.std.specs.Prelude.{codes, if◌then◌else◌, is_some, find, fold, slice_get}
use Rattle.std.specs.List.{list_all}
use Rattle.std.specs.Option.{option_map_or}
use Rattle.std.specs.Str.{bytes_eq, chars}
use Rattle.std.proofs.lemmas.Bool.{and_parts, cases_Bool, not-true}
use Rattle.std.proofs.lemmas.Bool.Decides.{not_from_Decides}
use Rattle.std.proofs.lemmas.Slice.Eq.{bytes_eq-Decides}
use Rattle.tool_words.specs.Plain.{Operands, is_plain, none_left, one_more, mark_left}
use Rattle.clap.specs.Faults.{bundle_fault, check_fault, defaults_fault, flags_fault, action_fault, long_fault, option_fault, react_fault, settle_fault, short_fault, step_fault, turn_fault, walk_fault}
use Rattle.clap.specs.Kinds.{Kinds, or_else, range_kinds}
use Rattle.clap.specs.Facts.{unwrap_or_range}
use Rattle.clap.specs.Lexer.{long_of, short_of}
use Rattle.clap.specs.Simple.{Shape}
use Rattle.clap.specs.declared.builder.action.ArgAction.{ArgAction}
use Rattle.clap.specs.declared.builder.action.ArgAction.TheVariants.{Set, Append, SetTrue, SetFalse, Count, Help, HelpShort, HelpLong, Version}
use Rattle.clap.specs.declared.error.kind.ErrorKind.TheVariants.{TooManyValues}
use Rattle.clap.specs.Values.{is_request}
use Rattle.clap.specs.Walk.{bundle_met, Held, Row, Rule, Text, Walk, action_of, arg_by_index, arg_by_long, arg_by_short, attached_value, finished, idle, is_multiple, is_pending, takes_several, most_values, next_position, positional, positional_held, reacted, settled, takes_values, to_positional, value, values_or_missing, walked}

-- a walk between two words of a command, behind one of which there may be many or not
abbrev pub stand : Bool → Bool → Held → ℕ → Walk
stand many past h position =
    record { held = h; waiting = if many then positional else idle; position = position; is_trailing = past; stopped = None }

-- the walk after words, and what is wrong from there on
abbrev pub held_after : Shape → Walk → List Text → Held
held_after s w words = (fold (walked s.rules []) w words).held

abbrev pub end_fault : Shape → Held → Kinds
end_fault s h = or_else (settle_fault s.rules s.args_override_self h)
    (or_else (defaults_fault (settled s.rules h).rows s.rules) (check_fault s (finished s.rules h) false))

abbrev pub fault_from : Shape → Walk → List Text → Kinds
fault_from s w words = or_else (walk_fault s [] w words) (end_fault s (held_after s w words))

or_else_joins : (a b c : Kinds) → or_else (or_else a b) c ≡ or_else a (or_else b c)
or_else_joins [] b c = refl
or_else_joins (k ∷ ks) b c = refl

pub unrolled : (s : Shape) (w : Walk) (word : Text) (rest : List Text)
    → fault_from s w (word ∷ rest) ≡ or_else (turn_fault s [] w word) (fault_from s (walked s.rules [] w word) rest)
unfolding walk_fault
unrolled s w word rest =
    or_else_joins (turn_fault s [] w word) (walk_fault s [] (walked s.rules [] w word) rest) (end_fault s (held_after s (walked s.rules [] w word) rest))

pub or_else_none : (a b : Kinds) → or_else a b ≡ [] → (a ≡ []) × (b ≡ [])
or_else_none [] b e = (refl, e)
or_else_none (k ∷ ks) b e = absurd (cc)

-- ---- the words that take a place each

abbrev pub is_flat : Rule → Bool
is_flat a = not a.trailing_var_arg

or_false : (a b : Bool) → b ≡ false → (a || b) ≡ a
or_false true b e = refl
or_false false b e = e

pub found : {X : Type 0} (p q : X → Bool) (xs : List X) (x : X) → list_all p xs ≡ true → find q xs ≡ Some x → p x ≡ true
found p q [] x all e = absurd (cc)
found {X} p q (y ∷ ys) x all e = go (q y) (found p q ys x (and_parts (p y) (list_all p ys) all).1) e
  where
    go : (b : Bool) → (find q ys ≡ Some x → p x ≡ true) → cond b (Some y) (find q ys) ≡ Some x → p x ≡ true
    go true later e =
        let same : y ≡ x = cc in
        subst (λ z. p z ≡ true) same (and_parts (p y) (list_all p ys) all).0
    go false later e = later e

matches : {X : Type 0} (q : X → Bool) (xs : List X) (x : X) → find q xs ≡ Some x → q x ≡ true
matches q [] x e = absurd (cc)
matches {X} q (y ∷ ys) x e = go (q y) refl (matches q ys x) e
  where
    go : (b : Bool) → q y ≡ b → (find q ys ≡ Some x → q x ≡ true) → cond b (Some y) (find q ys) ≡ Some x → q x ≡ true
    go true is later e =
        let same : y ≡ x = cc in
        subst (λ z. q z ≡ true) same is
    go false is later e = later e

abbrev pub next_held : Shape → Held → ℕ → Text → Held
next_held s h position word = option_map_or (λ a. positional_held s.rules a word h) (arg_by_index s.rules position) h

abbrev pub next_many : Shape → Bool → ℕ → Bool
next_many s many position = option_map_or is_multiple (arg_by_index s.rules position) many

abbrev pub next_place : Shape → ℕ → ℕ
next_place s position = option_map_or (λ a. next_position a position) (arg_by_index s.rules position) position

-- one word without a fault: it is `--`, or goes to the next place
abbrev pub IsMark : Shape → Bool → Held → ℕ → Text → Type 0
IsMark s many h p word = (bytes_eq word (45 ∷ 45 ∷ []) ≡ true) × (walked s.rules [] (stand many false h p) word ≡ stand many true h p)

abbrev pub IsValue : Shape → Bool → Held → ℕ → Text → Type 0
IsValue s many h p word = (turn_fault s [] (stand many false h p) word ≡ step_fault s p h value)
    × (walked s.rules [] (stand many false h p) word ≡ stand (next_many s many p) false (next_held s h p word) (next_place s p))
    × (bytes_eq word (45 ∷ 45 ∷ []) ≡ false)

-- words have the same faults and matches as values after `--`
abbrev pub AreAlike : Shape → Bool → Held → ℕ → List Text → List Text → Type 0
AreAlike s many h p words values = (fault_from s (stand many false h p) words ≡ fault_from s (stand many true h p) values)
    × (held_after s (stand many false h p) words ≡ held_after s (stand many true h p) values)

-- ---- plain words

plain_mark : (x : ℕ) (xs : Text) → (x == 45) ≡ false → bytes_eq (x ∷ xs) (45 ∷ 45 ∷ []) ≡ false
plain_mark x xs e = rw e refl

plain_long : (x : ℕ) (xs : Text) → (x == 45) ≡ false → long_of (x ∷ xs) ≡ None
plain_long x xs e = rw e refl

plain_short : (x : ℕ) (xs : Text) → (x == 45) ≡ false → short_of (x ∷ xs) ≡ None
plain_short x xs e = rw e refl

module _ (s : Shape) (flat : list_all is_flat s.rules ≡ true) where
  value_step : (many past : Bool) (h : Held) (p : ℕ) (word : Text)
      → to_positional s.rules (arg_by_index s.rules p) word (stand many past h p) h ≡ stand (next_many s many p) past (next_held s h p word) (next_place s p)
  value_step many past h p word = go (arg_by_index s.rules p) refl
    where
      go : (o : Option Rule) → arg_by_index s.rules p ≡ o
          → to_positional s.rules o word (stand many past h p) h
          ≡ stand (option_map_or is_multiple o many) past (option_map_or (λ a. positional_held s.rules a word h) o h) (option_map_or (λ a. next_position a p) o p)
      go None e = refl
      go (Some a) e = rw (or_false past a.trailing_var_arg (not-true a.trailing_var_arg (found is_flat _ s.rules a flat e))) refl

  past_walked : (many : Bool) (h : Held) (p : ℕ) (word : Text)
      → walked s.rules [] (stand many true h p) word ≡ stand (next_many s many p) true (next_held s h p word) (next_place s p)
  unfolding walked
  past_walked many h p word = value_step many true h p word

  -- a word that is neither `--` nor a flag
  value_turn : (many : Bool) (h : Held) (p : ℕ) (word : Text) → bytes_eq word (45 ∷ 45 ∷ []) ≡ false → long_of word ≡ None → short_of word ≡ None
      → turn_fault s [] (stand many false h p) word ≡ step_fault s p h value
  value_turn true h p word mark long short = rw (mark, long, short) refl
  value_turn false h p word mark long short = rw (mark, long, short) refl

  value_walked : (many : Bool) (h : Held) (p : ℕ) (word : Text) → bytes_eq word (45 ∷ 45 ∷ []) ≡ false → long_of word ≡ None → short_of word ≡ None
      → walked s.rules [] (stand many false h p) word ≡ stand (next_many s many p) false (next_held s h p word) (next_place s p)
  unfolding walked
  value_walked true h p word mark long short = rw (mark, long, short) (value_step true false h p word)
  value_walked false h p word mark long short = rw (mark, long, short) (value_step false false h p word)

  plain_value : (word : Text) → is_plain word ≡ true → (many : Bool) (h : Held) (p : ℕ) → IsValue s many h p word
  plain_value [] plain many h p = absurd (cc)
  plain_value (x ∷ xs) plain many h p =
      let begins = not-true (x == 45) plain in
      let mark = plain_mark x xs begins in (
        value_turn many h p (x ∷ xs) mark (plain_long x xs begins) (plain_short x xs begins),
        value_walked many h p (x ∷ xs) mark (plain_long x xs begins) (plain_short x xs begins),
        mark,
      )

  with_value : (word : Text) (words values : List Text) (many : Bool) (h : Held) (p : ℕ) → IsValue s many h p word
      → AreAlike s (next_many s many p) (next_held s h p word) (next_place s p) words values → AreAlike s many h p (word ∷ words) (word ∷ values)
  with_value word words values many h p here after =
      let past = past_walked many h p word in (
        unrolled s (stand many false h p) word words
            ∙ ap₂ or_else here.0 (ap (λ w. fault_from s w words) here.1 ∙ after.0 ∙ sym (ap (λ w. fault_from s w values) past))
            ∙ sym (unrolled s (stand many true h p) word values),
        ap (λ w. held_after s w words) here.1 ∙ after.1 ∙ sym (ap (λ w. held_after s w values) past),
      )

  pub plain_alike : (words : List Text) (many : Bool) (h : Held) (p : ℕ) → list_all is_plain words ≡ true → AreAlike s many h p words words
  unfolding walk_fault
  plain_alike [] many h p all = (refl, refl)
  plain_alike (word ∷ rest) many h p all =
      let parts = and_parts (is_plain word) (list_all is_plain rest) all in
      with_value word rest rest many h p (plain_value word parts.0 many h p)
      (plain_alike rest (next_many s many p) (next_held s h p word) (next_place s p) parts.1)

  mark_turn : (many : Bool) (h : Held) (p : ℕ) → turn_fault s [] (stand many false h p) (codes "--") ≡ []
  mark_turn true h p = refl
  mark_turn false h p = refl

  mark_walked : (many : Bool) (h : Held) (p : ℕ) → walked s.rules [] (stand many false h p) (codes "--") ≡ stand many true h p
  unfolding walked
  mark_walked true h p = refl
  mark_walked false h p = refl

  -- plain words, `--` and any words
  pub marked_alike : (before after : List Text) (many : Bool) (h : Held) (p : ℕ) → list_all is_plain before ≡ true
      → AreAlike s many h p (before ++ codes "--" ∷ after) (before ++ after)
  marked_alike [] after many h p all = (
    unrolled s (stand many false h p) (codes "--") after ∙ ap₂ or_else (mark_turn many h p) (ap (λ w. fault_from s w after) (mark_walked many h p)),
    ap (λ w. held_after s w after) (mark_walked many h p),
  )
  marked_alike (word ∷ rest) after many h p all =
      let parts = and_parts (is_plain word) (list_all is_plain rest) all in
      with_value word (rest ++ codes "--" ∷ after) (rest ++ after) many h p (plain_value word parts.0 many h p)
      (marked_alike rest after (next_many s many p) (next_held s h p word) (next_place s p) parts.1)

-- ---- words without a fault

-- a rule that is no word's asks for help or for the version
abbrev pub is_word_or_request : Rule → Bool
is_word_or_request a = is_some a.index || (is_request (action_of a) && not (takes_values a))

request_faults : (x : ArgAction) (again : Bool) (a : Rule) (values : List Text) (rows : List Row) → is_request x ≡ true
    → action_fault x again a values rows ≡ [] → ⊥
request_faults Help again a values rows e none = absurd (cc)
request_faults Set again a values rows e none = absurd (cc)
request_faults Append again a values rows e none = absurd (cc)
request_faults SetTrue again a values rows e none = absurd (cc)
request_faults SetFalse again a values rows e none = absurd (cc)
request_faults Count again a values rows e none = absurd (cc)
request_faults HelpShort again a values rows e none = absurd (cc)
request_faults HelpLong again a values rows e none = absurd (cc)
request_faults Version again a values rows e none = absurd (cc)

request_reacts : (c : List Rule) (again : Bool) (a : Rule) (h : Held) → is_request (action_of a) ≡ true → react_fault c again a [] h ≡ [] → ⊥
request_reacts c again a h asks none =
    let own = (or_else_none (settle_fault c again h) _ none).1 in
    request_faults (action_of a) again a (values_or_missing a []) (settled c h).rows asks
    (or_else_none (range_kinds (unwrap_or_range a.range).start_inclusive (most_values a) 0) _ own).1

-- a rule that is found by a flag is a request
flag_requests : (a : Rule) (test : Bool) → is_word_or_request a ≡ true → (not (is_some a.index) && test) ≡ true
    → (is_request (action_of a) ≡ true) × (takes_values a ≡ false)
flag_requests a test ok met =
    let parts = and_parts (not (is_some a.index)) test met in
    let ok' : (is_request (action_of a) && not (takes_values a)) ≡ true = subst (λ b. (b || (is_request (action_of a) && not (takes_values a))) ≡ true) (not-true (is_some a.index) parts.0) ok in
    let both = and_parts (is_request (action_of a)) (not (takes_values a)) ok' in
    (both.0, not-true (takes_values a) both.1)

long_faults : (c : List Rule) (again : Bool) (o : Option Rule) (v : Option Text) (h : Held)
    → ((a : Rule) → o ≡ Some a → (is_request (action_of a) ≡ true) × (takes_values a ≡ false)) → long_fault c again o v h ≡ [] → ⊥
long_faults c again None v h asks none = absurd (cc)
long_faults c again (Some a) (Some v) h asks none =
    let bad : TooManyValues ∷ [] ≡ [] = subst (λ b. (if b then option_fault c again a (Some v) h else TooManyValues ∷ []) ≡ []) (asks a refl).1 none in
    absurd (cc)
long_faults c again (Some a) None h asks none = request_reacts c again a h (asks a refl).0
    (subst (λ b. (if b then option_fault c again a None h else react_fault c again a [] h) ≡ []) (asks a refl).1 none)

short_faults : (c : List Rule) (again : Bool) (o : Option Rule) (rest : Text) (h : Held) (later : Held → Kinds)
    → ((a : Rule) → o ≡ Some a → (is_request (action_of a) ≡ true) × (takes_values a ≡ false)) → short_fault c again o rest h later ≡ [] → ⊥
short_faults c again None rest h later asks none = absurd (cc)
short_faults c again (Some a) rest h later asks none =
    let flag = subst (λ b. (if b then option_fault c again a (attached_value rest) h else or_else (react_fault c again a [] h) (later (reacted c a [] h))) ≡ [])
    (asks a refl).1 none in
    request_reacts c again a h (asks a refl).0 (or_else_none (react_fault c again a [] h) _ flag).0

pub cases_option : {X : Type 0} (o : Option X) → (o ≡ None) ⊎ ((x : X) × (o ≡ Some x))
cases_option None = inl refl
cases_option (Some x) = inr (x, refl)

no_chars : (x : ℕ) → slice_get (chars []) 0 ≡ Some x → ⊥
unfolding chars
no_chars x e = absurd (cc)

abbrev pub held : List Row → Option (Text × List Text) → Held
held rows pending = record { rows = rows; pending = pending; skip = 0 }

module _ (s : Shape) (flat : list_all is_flat s.rules ≡ true) (only : list_all is_word_or_request s.rules ≡ true) where
  mark_met : (many : Bool) (h : Held) (p : ℕ) (word : Text) → bytes_eq word (45 ∷ 45 ∷ []) ≡ true → IsMark s many h p word
  unfolding walked
  mark_met true h p word mark = (mark, rw mark refl)
  mark_met false h p word mark = (mark, rw mark refl)

  long_turn : (many : Bool) (h : Held) (p : ℕ) (word : Text) (q : Text × Option Text) → bytes_eq word (45 ∷ 45 ∷ []) ≡ false → long_of word ≡ Some q
      → turn_fault s [] (stand many false h p) word ≡ [] → long_fault s.rules s.args_override_self (arg_by_long s.rules q.0) q.1 h ≡ []
  long_turn true h p word q mark long none = (or_else_none _ _ (rw (mark, long) at none)).0
  long_turn false h p word q mark long none = (or_else_none _ _ (rw (mark, long) at none)).0

  bundle_turn : (many : Bool) (h : Held) (p : ℕ) (word flags : Text) → bytes_eq word (45 ∷ 45 ∷ []) ≡ false → long_of word ≡ None → short_of word ≡ Some flags
      → turn_fault s [] (stand many false h p) word ≡ [] → bundle_fault s.rules s.args_override_self flags h ≡ []
  bundle_turn true h p word flags mark long short none = (or_else_none _ _ (rw (mark, long, short) at none)).0
  bundle_turn false h p word flags mark long short none = (or_else_none _ _ (rw (mark, long, short) at none)).0

  -- a bundle of no characters is no flag
  empty_bundle : (many : Bool) (rows : List Row) (pending : Option (Text × List Text)) (p : ℕ) (word flags : Text) → bytes_eq word (45 ∷ 45 ∷ []) ≡ false
      → long_of word ≡ None → short_of word ≡ Some flags → slice_get (chars flags) 0 ≡ None → IsValue s many (held rows pending) p word
  unfolding walked flags_fault bundle_met
  empty_bundle true rows pending p word [] mark long short none = (
    rw (mark, long, short) refl,
    rw (mark, long, short) (value_step s flat true false (held rows pending) p word),
    mark,
  )
  empty_bundle false rows pending p word [] mark long short none = (
    rw (mark, long, short) refl,
    rw (mark, long, short) (value_step s flat false false (held rows pending) p word),
    mark,
  )
  empty_bundle true rows pending p word (y ∷ ys) mark long short none = (
    rw (mark, long, short, none) refl,
    rw (mark, long, short, none) (value_step s flat true false (held rows pending) p word),
    mark,
  )
  empty_bundle false rows pending p word (y ∷ ys) mark long short none = (
    rw (mark, long, short, none) refl,
    rw (mark, long, short, none) (value_step s flat false false (held rows pending) p word),
    mark,
  )

  bundle_met_value : (many : Bool) (rows : List Row) (pending : Option (Text × List Text)) (p : ℕ) (word flags : Text) (first : Option ℕ)
      → slice_get (chars flags) 0 ≡ first → bytes_eq word (45 ∷ 45 ∷ []) ≡ false → long_of word ≡ None → short_of word ≡ Some flags
      → turn_fault s [] (stand many false (held rows pending) p) word ≡ [] → IsValue s many (held rows pending) p word
  unfolding flags_fault
  bundle_met_value many rows pending p word flags None is mark long short none = empty_bundle many rows pending p word flags mark long short is
  bundle_met_value many rows pending p word [] (Some x) is mark long short none = absurd (no_chars x is)
  bundle_met_value many rows pending p word (y ∷ ys) (Some x) is mark long short none =
      let bundle = bundle_turn many (held rows pending) p word (y ∷ ys) mark long short none in
      absurd (short_faults s.rules s.args_override_self (arg_by_short s.rules x) _ (held rows pending) _
      (λ a e. flag_requests a _ (found is_word_or_request _ s.rules a only e) (matches _ s.rules a e))
      (rw is at bundle))

  no_mark : (many : Bool) (rows : List Row) (pending : Option (Text × List Text)) (p : ℕ) (word : Text) → bytes_eq word (45 ∷ 45 ∷ []) ≡ false
      → turn_fault s [] (stand many false (held rows pending) p) word ≡ [] → IsValue s many (held rows pending) p word
  no_mark many rows pending p word mark none = elim (cases_option (long_of word)) [
    | inl long ↦ elim (cases_option (short_of word)) [
      | inl short ↦ (
        value_turn s flat many (held rows pending) p word mark long short,
        value_walked s flat many (held rows pending) p word mark long short,
        mark,
      )
      | inr (flags, short) ↦ bundle_met_value many rows pending p word flags (slice_get (chars flags) 0) refl mark long short none
    ]
    | inr (q, long) ↦ absurd (long_faults s.rules s.args_override_self (arg_by_long s.rules q.0) q.1 (held rows pending)
        (λ a e. flag_requests a _ (found is_word_or_request _ s.rules a only e) (matches _ s.rules a e))
        (long_turn many (held rows pending) p word q mark long none))
  ]

  word_kind : (many : Bool) (rows : List Row) (pending : Option (Text × List Text)) (p : ℕ) (word : Text)
      → turn_fault s [] (stand many false (held rows pending) p) word ≡ [] → IsMark s many (held rows pending) p word ⊎ IsValue s many (held rows pending) p word
  word_kind many rows pending p word none = elim (cases_Bool (bytes_eq word (45 ∷ 45 ∷ []))) [
    | inl mark ↦ inl (mark_met many (held rows pending) p word mark)
    | inr other ↦ inr (no_mark many rows pending p word other none)
  ]

held_is : (h : Held) → h.skip ≡ 0 → held h.rows h.pending ≡ h
held_is h none = ap (λ k. record h { skip = k }) (sym none)

skip_kept : (s : Shape) (h : Held) (p : ℕ) (word : Text) → h.skip ≡ 0 → (next_held s h p word).skip ≡ 0
skip_kept s h p word none = go (arg_by_index s.rules p)
  where
    either : (test : Bool) (a b : Held) → a.skip ≡ 0 → b.skip ≡ 0 → (if test then a else b).skip ≡ 0
    either true a b x y = x
    either false a b x y = y

    go : (o : Option Rule) → (option_map_or (λ a. positional_held s.rules a word h) o h).skip ≡ 0
    go None = none
    go (Some a) = either (is_pending a h.pending && takes_several a) h (settled s.rules h) none none

-- words without a fault are those of a command, but for one `--`, and are read as these are after it
pub record IsRead (s : Shape) (many : Bool) (h : Held) (p : ℕ) (words : List Text) : Type 0 where
  pub values : List Text
  pub operands : Operands words values
  pub faultless : fault_from s (stand many true h p) values ≡ []
  pub held_is : held_after s (stand many false h p) words ≡ held_after s (stand many true h p) values

module _ (s : Shape) (flat : list_all is_flat s.rules ≡ true) (only : list_all is_word_or_request s.rules ≡ true) where
  marked : (word : Text) (rest : List Text) (many : Bool) (h : Held) (p : ℕ) → IsMark s many h p word → fault_from s (stand many true h p) rest ≡ []
      → IsRead s many h p (word ∷ rest)
  marked word rest many h p mark faultless = record {
    values = rest;
    operands = subst (λ (w : Text). Operands (w ∷ rest) rest) (sym ((bytes_eq-Decides word (45 ∷ 45 ∷ [])).0 mark.0)) (mark_left rest);
    faultless = faultless;
    held_is = ap (λ w. held_after s w rest) mark.1;
  }

  taken : (word : Text) (rest : List Text) (many : Bool) (h : Held) (p : ℕ) → IsValue s many h p word → step_fault s p h value ≡ []
      → IsRead s (next_many s many p) (next_held s h p word) (next_place s p) rest → IsRead s many h p (word ∷ rest)
  taken word rest many h p here none later = record {
    values = word ∷ later.values;
    operands = one_more word rest later.values (not_from_Decides (bytes_eq word (45 ∷ 45 ∷ [])) (bytes_eq-Decides word (45 ∷ 45 ∷ [])) here.2) later.operands;
    faultless = unrolled s (stand many true h p) word later.values
        ∙ ap₂ or_else none (ap (λ w. fault_from s w later.values) (past_walked s flat many h p word) ∙ later.faultless);
    held_is = ap (λ w. held_after s w rest) here.1 ∙ later.held_is ∙ sym (ap (λ w. held_after s w later.values) (past_walked s flat many h p word));
  }

  pub kind_of_word : (many : Bool) (h : Held) (p : ℕ) (word : Text) → h.skip ≡ 0 → turn_fault s [] (stand many false h p) word ≡ []
      → IsMark s many h p word ⊎ IsValue s many h p word
  kind_of_word many h p word skip none =
      subst (λ (x : Held). turn_fault s [] (stand many false x p) word ≡ [] → IsMark s many x p word ⊎ IsValue s many x p word)
      (held_is h skip) (word_kind s flat only many h.rows h.pending p word) none

  pub words_read : (words : List Text) (many : Bool) (h : Held) (p : ℕ) → h.skip ≡ 0 → fault_from s (stand many false h p) words ≡ [] → IsRead s many h p words
  unfolding walk_fault
  words_read [] many h p skip none = record { values = []; operands = none_left; faultless = none; held_is = refl }
  words_read (word ∷ rest) many h p skip none =
      let parts = or_else_none (turn_fault s [] (stand many false h p) word) _ (sym (unrolled s (stand many false h p) word rest) ∙ none) in
      elim (kind_of_word many h p word skip parts.0) [
        | inl mark ↦ marked word rest many h p mark (ap (λ w. fault_from s w rest) (sym mark.1) ∙ parts.1)
        | inr here ↦ taken word rest many h p here (sym here.0 ∙ parts.0)
            (words_read rest (next_many s many p) (next_held s h p word) (next_place s p) (skip_kept s h p word skip)
            (ap (λ w. fault_from s w rest) (sym here.1) ∙ parts.1))
      ]
