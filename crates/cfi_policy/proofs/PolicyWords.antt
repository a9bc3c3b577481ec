-- The words of a policy's line, one by one.
use Rattle.std.proofs.Common.{◌≡◌, ℕ, ◌+◌, ◌<◌, ◌≤◌, ◌==◌, true, false, List, [], ◌∷◌, ◌++◌, length, get_or, drop, Option, Some, None, Result, Ok, Err, refl, sym, ◌∙◌, ap, append_assoc, arith}
use Rattle.std.proofs.lemmas.List.{append-nil, drop_all, drop_more}
use Rattle.std.specs.Option.{option_map, option_or}
use Rattle.rv_word.specs.declared.end.End.{End}
use Rattle.rv_word.specs.declared.end.End.TheVariants.{Fault, NoMemory}
use Rattle.text_lines.specs.Answers.{Answers, UnlessNoMemory, line_fault}
use Rattle.text_lines.specs.Reading.{Reading, if_right, one_named, read}
use Rattle.cfi_graph.specs.Calls.{calls_of, judged_calls, line_after}
use Rattle.text_lines.specs.Lines.{lines_of, words_of}
use Rattle.text_lines.specs.declared.reason.Reason.TheVariants.{Form}
use Rattle.text_lines.proofs.Steps.{some_line}
use Rattle.text_lines.specs.declared.fault.LineFault.{LineFault}
use Rattle.cfi_policy.specs.declared.policy.PlaceName.{PlaceName}
use Rattle.cfi_policy.specs.declared.policy.PolicyLine.{PolicyLine}
use Rattle.cfi_policy.specs.Policy.{PolicyParts, calls_told, head_at, last_plus, listed_head, place_of, places_of, policy_begun, policy_head, policy_names, policy_read, policy_rules}

-- the last `+` of a word, from those of its first bytes and of the rest
abbrev pub later : ℕ → Option ℕ → Option ℕ → Option ℕ
later i rest front = option_or (option_map (λ k. i + k) rest) front

pub plus_here : (w : List ℕ) (i : ℕ) (front all : Option ℕ) → i < length w → get_or w i 0 ≡ 43 → later i (last_plus (drop i w)) front ≡ all → later (i + 1) (last_plus (drop (i + 1) w)) (Some i) ≡ all
unfolding last_plus
plus_here w i front all h b e = again (last_plus (drop (i + 1) w)) (rw (drop_more w i 0 h, b) at e)
  where
    again : (rest : Option ℕ) → later i (option_or (option_map (λ k. k + 1) rest) (Some 0)) front ≡ all → later (i + 1) rest (Some i) ≡ all
    again None k = ap Some (omega arith) ∙ k
    again (Some n) k = ap Some (omega arith) ∙ k

pub other_here : (w : List ℕ) (i : ℕ) (front all : Option ℕ) → i < length w → (get_or w i 0 == 43) ≡ false → later i (last_plus (drop i w)) front ≡ all → later (i + 1) (last_plus (drop (i + 1) w)) front ≡ all
unfolding last_plus
other_here w i front all h b e = again (last_plus (drop (i + 1) w)) (rw (drop_more w i 0 h, b) at e)
  where
    again : (rest : Option ℕ) → later i (option_or (option_map (λ k. k + 1) rest) None) front ≡ all → later (i + 1) rest front ≡ all
    again None k = k
    again (Some n) k = ap Some (omega arith) ∙ k

pub no_more : (w : List ℕ) (i : ℕ) (front all : Option ℕ) → length w ≤ i → later i (last_plus (drop i w)) front ≡ all → front ≡ all
unfolding last_plus
no_more w i front all h e = rw (drop_all i w h) at e

pub begins : (w : List ℕ) → later 0 (last_plus w) None ≡ last_plus w
begins w = at (last_plus w)
  where
    at : (o : Option ℕ) → later 0 o None ≡ o
    at None = refl
    at (Some k) = ap Some (omega arith)

abbrev onto : List PlaceName → Option (List PlaceName) → Option (List PlaceName)
onto front others = option_map (λ rest. front ++ rest) others

pub bad_place : (front : List PlaceName) {words rest : List (List ℕ)} {word : List ℕ} {all : Option (List PlaceName)} → words ≡ word ∷ rest → None ≡ place_of word → onto front (places_of words) ≡ all → None ≡ all
unfolding places_of
bad_place front p e h = rw (p, sym e) at h

pub next_place : (front : List PlaceName) {words rest : List (List ℕ)} {word : List ℕ} {a : PlaceName} {all : Option (List PlaceName)} → words ≡ word ∷ rest → Some a ≡ place_of word → onto front (places_of words) ≡ all → onto (front ++ a ∷ []) (places_of rest) ≡ all
unfolding places_of
next_place front {rest} {a} {all} p e h = again (places_of rest) (rw (p, sym e) at h)
  where
    again : (others : Option (List PlaceName)) → onto front (option_map (λ ys. a ∷ ys) others) ≡ all → onto (front ++ a ∷ []) others ≡ all
    again None k = k
    again (Some ys) k = ap Some (append_assoc front (a ∷ []) ys) ∙ k

pub no_place : (front : List PlaceName) {all : Option (List PlaceName)} → onto front (places_of []) ≡ all → Some front ≡ all
unfolding places_of
no_place front h = ap Some (sym (append-nil front)) ∙ h

-- ---- what is read, and its end

module _ (text : List ℕ) where
  -- a head that is refused
  pub no_head : (end : End LineFault) → policy_head text ≡ Err end → UnlessNoMemory {A = Unit {0}} (Err end) (◌≡◌ {A = PolicyParts} (record { calls = None; lines = [] }) (policy_begun text))
  unfolding policy_read
  no_head (Fault fault) e = rw e refl
  no_head NoMemory e = tt

  module _ (calls : Option (List ℕ)) (parts : List (List ℕ)) (first : ℕ) (head : policy_head text ≡ Ok (record { calls = calls; lines = parts })) (first_is : first ≡ line_after 2 calls) where
    pub opens : policy_read text ≡ read policy_rules tt first parts
    unfolding policy_read
    opens = rw (head, first_is) refl

    pub begun_is : (items : List PolicyLine) (end : Result (Unit {0}) (End LineFault)) → UnlessNoMemory end (items ≡ (read policy_rules tt first parts).items) → UnlessNoMemory end (◌≡◌ {A = PolicyParts} (record { calls = calls; lines = items }) (policy_begun text))
    begun_is items end is = elsewhere end is
      where
        same : items ≡ (read policy_rules tt first parts).items → ◌≡◌ {A = PolicyParts} (record { calls = calls; lines = items }) (policy_begun text)
        same e =
            let p : calls ≡ calls_told (policy_head text) = sym (ap calls_told head) in
            let q : items ≡ (policy_read text).items = e ∙ ap (λ (r : Reading PolicyLine). r.items) (sym opens) in
            λ i. record { calls = p i; lines = q i }

        elsewhere : (end : Result (Unit {0}) (End LineFault)) → UnlessNoMemory end (items ≡ (read policy_rules tt first parts).items) → UnlessNoMemory end (◌≡◌ {A = PolicyParts} (record { calls = calls; lines = items }) (policy_begun text))
        elsewhere (Ok x) e = same e
        elsewhere (Err (Fault fault)) e = same e
        elsewhere (Err NoMemory) e = tt

    pub calls_are : calls ≡ (policy_begun text).calls
    calls_are = sym (ap calls_told head)

-- the second line of version 2
pub head_alone : {parts : List (List ℕ)} {line : List ℕ} → parts ≡ line ∷ [] → listed_head parts ≡ Err (line_fault 2 Form)
unfolding listed_head
head_alone p = rw p refl

module _ (rest : List ℕ) (answer : Result (List ℕ) (End LineFault)) {parts : List (List ℕ)} {line : List ℕ} (p : parts ≡ line ∷ lines_of rest) (is : answer ≡ judged_calls 2 (calls_of (words_of line))) where
  pub head_refused : (end : End LineFault) → answer ≡ Err end → listed_head parts ≡ Err end
  unfolding listed_head
  head_refused end e = some_line rest (λ part others q. rw (p, q, sym is ∙ e) refl)

  pub head_right : (calls : List ℕ) → answer ≡ Ok calls → listed_head parts ≡ Ok (record { calls = Some calls; lines = lines_of rest })
  unfolding listed_head
  head_right calls e = some_line rest (λ part others q. rw (p, q, sym is ∙ e) refl)

-- the first line of either version
pub wrong_name : (text : List ℕ) (end : End LineFault) → one_named policy_names (lines_of text) ≡ Err end → policy_head text ≡ Err end
unfolding policy_head
wrong_name text end e = rw e refl

pub head_of : (text : List ℕ) (which : ℕ) (rest : List (List ℕ)) → one_named policy_names (lines_of text) ≡ Ok (which, rest) → policy_head text ≡ head_at which rest
unfolding policy_head
head_of text which rest e = rw e refl

pub first_version : (which : ℕ) (rest : List (List ℕ)) → (which == 0) ≡ true → head_at which rest ≡ Ok (record { calls = None; lines = rest })
first_version which rest e = rw e refl

pub second_version : (which : ℕ) (rest : List (List ℕ)) → (which == 0) ≡ false → head_at which rest ≡ listed_head rest
second_version which rest e = rw e refl

pub no_calls_told : (text : List ℕ) (end : End LineFault) → policy_head text ≡ Err end → None ≡ (policy_begun text).calls
no_calls_told text end e = sym (ap calls_told e)

pub part_whole : (reading : Reading PolicyLine) (end : Result (Unit {0}) (End LineFault)) (policy begun : PolicyParts) (done : Unit {0}) → Answers end reading.end → UnlessNoMemory end (policy ≡ begun) → end ≡ Ok done → if_right reading.end (λ (u : Unit {0}). Ok begun) ≡ Ok policy
part_whole reading (Ok x) policy begun done a l e = rw (a, l) refl
part_whole reading (Err fault) policy begun done a l e = absurd (cc)

pub part_end : (reading : Reading PolicyLine) (end : Result (Unit {0}) (End LineFault)) (begun : PolicyParts) (fault : End LineFault) → Answers end reading.end → end ≡ Err fault → Answers {A = PolicyParts} (Err fault) (if_right reading.end (λ (u : Unit {0}). Ok begun))
part_end reading end begun (Fault fault) a e = rw (rw e at a) refl
part_end reading end begun NoMemory a e = tt
