-- The lines of a text, one step of their reading at a time. `all` is what the whole text gives after
-- `init`, and `front` what was collected before this line.
use Rattle.std.proofs.Common.{◌≡◌, ℕ, ◌+◌, ◌<◌, Bool, true, false, not, List, [], ◌∷◌, ◌++◌, length, map, take, codes, position, Option, Some, Result, Ok, Err, refl, sym, ◌∙◌, ap, append_assoc, arith}
use Rattle.std.specs.List.{join_with_byte, prefix_len}
use Rattle.std.specs.Str.{bytes_eq}
use Rattle.std.proofs.Math.Seq.{take-append-add, take-append_seam}
use Rattle.std.proofs.lemmas.List.{append-nil, append_cancel_left, length-append, length-map}
use Rattle.std.proofs.lemmas.List.Splits.{join_with_byte-slice_split}
use Rattle.rv_word.specs.declared.end.End.{End}
use Rattle.rv_word.specs.declared.end.End.TheVariants.{Fault, NoMemory}
use Rattle.text_lines.specs.Answers.{AfterNoMemory, Answers, UnlessNoMemory, line_fault}
use Rattle.text_lines.specs.Lines.{lines_of, words_of}
use Rattle.text_lines.specs.Reading.{FirstCollected, FirstLine, LineRules, Reading, at_end, judged, one_named, read, refused, told, with_front}
use Rattle.text_lines.specs.declared.reason.Reason.TheVariants.{Form}
use Rattle.text_lines.proofs.Cuts.{some_part}
use Rattle.text_lines.specs.declared.fault.LineFault.{LineFault}

-- what follows a line's newline has a first part
pub some_line : {P : Type 0} (rest : List ℕ) → ((part : List ℕ) (parts : List (List ℕ)) → lines_of rest ≡ part ∷ parts → P) → P
some_line rest go = some_part 10 rest go

pub at_end-other : {I : Type 0} (number : ℕ) (lines : List (List ℕ)) → (lines ≡ [] ∷ [] → ⊥) → at_end {Item = I} number lines ≡ refused number Form
at_end-other number [] ne = refl
at_end-other number ([] ∷ []) ne = absurd (ne refl)
at_end-other number ((b ∷ line) ∷ []) ne = refl
at_end-other number ([] ∷ next ∷ lines) ne = refl
at_end-other number ((b ∷ line) ∷ next ∷ lines) ne = refl

pub nothing_after : (rest : List ℕ) → lines_of rest ≡ [] ∷ [] → rest ≡ []
nothing_after rest e = sym (join_with_byte-slice_split 10 rest) ∙ ap (join_with_byte 10) e

-- more was put at the end
abbrev pub Grown : {I : Type 0} → List I → List I → Type 0
Grown {I} init front = (more : List I) × (front ≡ init ++ more)

pub grown_more : {I : Type 0} (init front items : List I) → Grown init front → Grown init (front ++ items)
grown_more init front items (more, e) = (more ++ items, ap (λ xs. xs ++ items) e ∙ append_assoc init more items)

-- what was collected before this line is the first of what the whole text gives
pub first_items : {I : Type 0} (init front : List I) (rest all : Reading I) → Grown init front → with_front front rest ≡ with_front init all → FirstCollected init front all.items
first_items init front rest all (more, e) h =
    let parts = sym (append_assoc init more rest.items) ∙ ap (λ xs. xs ++ rest.items) (sym e) ∙ ap (λ (r : Reading _). r.items) h in
    let whole = append_cancel_left init (more ++ rest.items) all.items parts in
    (length more, e ∙ ap (λ xs. init ++ xs) (sym (take-append_seam more rest.items) ∙ ap (λ xs. take (length more) xs) whole))

pub grown_first : {I : Type 0} (init : List I) {front now : List I} (items : List I) → Grown init front → FirstCollected front now items → Grown init now
grown_first init items (more, e) (n, f) =
    (more ++ take n items, f ∙ ap (λ xs. xs ++ take n items) e ∙ append_assoc init more (take n items))

-- the first of what is left to collect, after what was collected, are the first of all
pub later_first : {I : Type 0} (init front now : List I) (rest all : Reading I) → Grown init front → with_front front rest ≡ with_front init all → FirstCollected front now rest.items → FirstCollected init now all.items
later_first init front now rest all (more, e) h (n, f) =
    let parts = sym (append_assoc init more rest.items) ∙ ap (λ xs. xs ++ rest.items) (sym e) ∙ ap (λ (r : Reading _). r.items) h in
    let whole = append_cancel_left init (more ++ rest.items) all.items parts in
    (length more + n, f ∙ ap (λ xs. xs ++ take n rest.items) e ∙ append_assoc init more (take n rest.items) ∙ ap (λ xs. init ++ xs) (sym (take-append-add more rest.items n) ∙ ap (take (length more + n)) whole))

-- what holds anyhow holds after want of memory
pub after_any : {A P : Type 0} (answer : Result A (End LineFault)) → P → AfterNoMemory answer P
after_any (Ok x) p = tt
after_any (Err (Fault fault)) p = tt
after_any (Err NoMemory) p = p

right_end : {A : Type 0} (end : End LineFault) (right : Result A (End LineFault)) → right ≡ Err end → Answers {A = A} (Err end) right
right_end (Fault fault) right e = e
right_end NoMemory right e = tt

-- the reading ends here
pub record Ends {I : Type 0} (init front : List I) (all : Reading I) (last : Result (Unit {0}) (End LineFault)) : Type 0 where
  pub end : all.end ≡ last
  pub items : front ≡ init ++ all.items

ends : {I : Type 0} (init front : List I) (all : Reading I) (end : Result (Unit {0}) (End LineFault)) → with_front front (record { items = []; end = end }) ≡ with_front init all → Ends init front all end
ends {I} init front all end h =
    record { end = ap (λ (r : Reading I). r.end) (sym h); items = sym (append-nil front) ∙ ap (λ (r : Reading I). r.items) h }

module _ {L B I : Type 0} (rules : LineRules L B I) (before : B) (number : ℕ) (init front : List I) (all : Reading I) where
  pub no_newline : {parts : List (List ℕ)} {line : List ℕ} → parts ≡ line ∷ [] → with_front front (read rules before number parts) ≡ with_front init all → Ends init front all (Err (line_fault number Form))
  unfolding read
  no_newline p h = ends init front all _ (rw p at h)

  pub the_end : (next : List ℕ) {parts : List (List ℕ)} {line : List ℕ} → parts ≡ line ∷ lines_of next → bytes_eq line (codes "end") ≡ true → next ≡ [] → with_front front (read rules before number parts) ≡ with_front init all → Ends init front all (Ok tt)
  unfolding read
  the_end next p e n h = ends init front all _ (rw (p, n, e) at h)

  pub text_after : (next : List ℕ) {parts : List (List ℕ)} {line : List ℕ} → parts ≡ line ∷ lines_of next → bytes_eq line (codes "end") ≡ true → (next ≡ [] → ⊥) → with_front front (read rules before number parts) ≡ with_front init all → Ends init front all (Err (line_fault (number + 1) Form))
  unfolding read
  text_after next p e n h =
      some_line next (λ part parts q. let other = at_end-other {I = I} (number + 1) (part ∷ parts) (λ r. n (nothing_after next (q ∙ r))) in ends init front all _ (rw (p, q, e, other) at h))

  -- a line that is refused
  pub bad_line : (fault : LineFault) (next : List ℕ) {parts : List (List ℕ)} {line : List ℕ} → parts ≡ line ∷ lines_of next → bytes_eq line (codes "end") ≡ false → judged rules before number (rules.spelled (words_of line)) ≡ Err (Fault fault) → with_front front (read rules before number parts) ≡ with_front init all → Ends init front all (Err (Fault fault))
  unfolding read
  bad_line fault next p e a h =
      some_line next (λ part parts q. ends init front all _ (rw (p, q, e, a) at h))

  pub bad_line_end : (end : End LineFault) (next : List ℕ) {parts : List (List ℕ)} {line : List ℕ} → parts ≡ line ∷ lines_of next → bytes_eq line (codes "end") ≡ false → Answers {A = L} (Err end) (judged rules before number (rules.spelled (words_of line))) → with_front front (read rules before number parts) ≡ with_front init all → Answers {A = Unit {0}} (Err end) all.end
  bad_line_end (Fault fault) next p e a h = (bad_line fault next p e a h).end
  bad_line_end NoMemory next p e a h = tt

  pub bad_line_items : (end : End LineFault) (next : List ℕ) {parts : List (List ℕ)} {line : List ℕ} → parts ≡ line ∷ lines_of next → bytes_eq line (codes "end") ≡ false → Answers {A = L} (Err end) (judged rules before number (rules.spelled (words_of line))) → with_front front (read rules before number parts) ≡ with_front init all → UnlessNoMemory {A = Unit {0}} (Err end) (front ≡ init ++ all.items)
  bad_line_items (Fault fault) next p e a h = (bad_line fault next p e a h).items
  bad_line_items NoMemory next p e a h = tt

  pub good_line : (next : List ℕ) (l : L) {parts : List (List ℕ)} {line : List ℕ} → parts ≡ line ∷ lines_of next → bytes_eq line (codes "end") ≡ false → judged rules before number (rules.spelled (words_of line)) ≡ Ok l → with_front front (read rules before number parts) ≡ with_front init all → with_front (front ++ rules.items l) (read rules (rules.after l) (number + 1) (lines_of next)) ≡ with_front init all
  unfolding read
  good_line next l p e a h =
      some_line next (λ part parts q. rw q (again (read rules (rules.after l) (number + 1) (part ∷ parts)) (rw (p, q, e, a) at h)))
    where
      again : (others : Reading I) → with_front front (with_front (rules.items l) others) ≡ with_front init all → with_front (front ++ rules.items l) others ≡ with_front init all
      again others k = ap (λ (items : List I). let r : Reading I = record { items = items; end = others.end } in r) (append_assoc front (rules.items l) others.items) ∙ k

  -- a line that is told without a search
  module _ (next : List ℕ) (l : L) {text : List ℕ} (f : FirstLine rules text l next) where
    pub known_line : judged rules before number (Some l) ≡ Ok l → with_front front (read rules before number (lines_of text)) ≡ with_front init all → with_front (front ++ rules.items l) (read rules (rules.after l) (number + 1) (lines_of next)) ≡ with_front init all
    known_line a h = good_line next l f.first f.goes_on (ap (judged rules before number) f.spells ∙ a) h

    module _ (end : End LineFault) (a : judged rules before number (Some l) ≡ Err end) (h : with_front front (read rules before number (lines_of text)) ≡ with_front init all) where
      answers : Answers {A = L} (Err end) (judged rules before number (rules.spelled (words_of f.bytes)))
      answers = right_end end _ (ap (judged rules before number) f.spells ∙ a)

      pub bad_known_end : Answers {A = Unit {0}} (Err end) all.end
      bad_known_end = bad_line_end end next f.first f.goes_on answers h

      pub bad_known_items : UnlessNoMemory {A = Unit {0}} (Err end) (front ≡ init ++ all.items)
      bad_known_items = bad_line_items end next f.first f.goes_on answers h

-- what stands after the first line is shorter
pub after_shorter : {L B I : Type 0} {rules : LineRules L B I} {text rest : List ℕ} {l : L} → FirstLine rules text l rest → length rest < length text
after_shorter {text} {rest} f =
    some_line rest (λ part parts q.
    let whole : text ≡ f.bytes ++ 10 ∷ join_with_byte 10 (part ∷ parts) = sym (join_with_byte-slice_split 10 text) ∙ ap (join_with_byte 10) (f.first ∙ ap (λ ps. f.bytes ∷ ps) q) in
    let left : join_with_byte 10 (part ∷ parts) ≡ rest = ap (join_with_byte 10) (sym q) ∙ join_with_byte-slice_split 10 rest in
    omega (arith, ap length whole, ap length left, length-append f.bytes (10 ∷ join_with_byte 10 (part ∷ parts))))

-- the first of the images that passes
prefix_len-map : {X Y : Type 0} (p : Y → Bool) (f : X → Y) (xs : List X) → prefix_len p (map f xs) ≡ prefix_len (λ x. p (f x)) xs
prefix_len-map p f [] = refl
prefix_len-map p f (x ∷ xs) = rw (prefix_len-map p f xs) refl

position-map : {X Y : Type 0} (p : Y → Bool) (f : X → Y) (xs : List X) → position p (map f xs) ≡ position (λ x. p (f x)) xs
position-map p f xs = rw (prefix_len-map (λ y. not (p y)) f xs, length-map xs f) refl

-- the first line, of names that are kept in some form
module _ {Name : Type 0} (bytes : Name → List ℕ) (names : List Name) {parts : List (List ℕ)} {line : List ℕ} where
  pub first_alone : parts ≡ line ∷ [] → one_named (map bytes names) parts ≡ Err (line_fault 1 Form)
  unfolding one_named
  first_alone p = rw p refl

  pub first_line : (rest : List ℕ) (which : Option ℕ) → parts ≡ line ∷ lines_of rest → which ≡ position (λ name. bytes_eq line (bytes name)) names → one_named (map bytes names) parts ≡ told which (lines_of rest)
  unfolding one_named
  first_line rest which p e =
      some_line rest (λ part others q. rw (p, q) (ap (λ found. told found (part ∷ others)) (position-map (bytes_eq line) bytes names ∙ sym e)))
