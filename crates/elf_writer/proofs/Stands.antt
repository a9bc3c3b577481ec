-- What stands at a place of a file.
use Rattle.std.proofs.Common.{◌≡◌, ℕ, zero, suc, ◌+◌, ◌-◌, ◌^◌, ◌<◌, ◌≤◌, List, [], ◌∷◌, ◌++◌, length, take, drop, get_or, replicate, refl, sym, ap, subst, ◌∙◌, arith, length-append}
use Rattle.std.specs.List.{flat_map}
use Rattle.std.proofs.lemmas.List.{append_assoc, append-nil, take_at, drop_at, length-replicate}
use Rattle.byteorder.specs.Endian.{little_number, little_bytes}
use Rattle.byteorder.specs.Numbers.{little_number-reads_back}
use Rattle.elf_bytes.specs.Fields.{number_at}
use Rattle.elf_writer.specs.FileLayout.{up8, laid_out, place_of}
use Rattle.elf_writer.specs.Names.{ended, name_place}

pub record StandsAt (file : List ℕ) (at : ℕ) (part : List ℕ) : Type 0 where
  pub before : List ℕ
  pub after : List ℕ
  pub whole : file ≡ before ++ (part ++ after)
  pub place : length before ≡ at

in_two : (a b c d e : List ℕ) → a ++ ((b ++ (c ++ d)) ++ e) ≡ (a ++ b) ++ (c ++ (d ++ e))
in_two a b c d e = simp append_assoc

-- a part of a part
pub stands_within : {file outer part : List ℕ} {at o : ℕ} → StandsAt file at outer → StandsAt outer o part → StandsAt file (at + o) part
stands_within {part = part} s t = record {
  before = s.before ++ t.before;
  after = t.after ++ s.after;
  whole = s.whole ∙ ap (λ xs. s.before ++ (xs ++ s.after)) t.whole ∙ in_two s.before t.before part t.after s.after;
  place = length-append s.before t.before ∙ omega (arith, s.place, t.place);
}

pub stands_at : {file part : List ℕ} {at place : ℕ} → at ≡ place → StandsAt file at part → StandsAt file place part
stands_at e s = record { before = s.before; after = s.after; whole = s.whole; place = s.place ∙ e }

pub stands_first : (a b : List ℕ) → StandsAt (a ++ b) 0 a
stands_first a b = record { before = []; after = b; whole = refl; place = refl }

pub stands_second : (a b : List ℕ) → StandsAt (a ++ b) (length a) b
stands_second a b = record { before = a; after = []; whole = ap (λ xs. a ++ xs) (sym (append-nil b)); place = refl }

pub stands_dropped : {file part : List ℕ} {at : ℕ} (s : StandsAt file at part) → drop at file ≡ part ++ s.after
stands_dropped {part = part} {at = at} s = ap (drop at) s.whole ∙ drop_at s.before (part ++ s.after) at s.place

pub stands_taken : {file part : List ℕ} {at : ℕ} → StandsAt file at part → take (length part) (drop at file) ≡ part
stands_taken {part = part} s = ap (take (length part)) (stands_dropped s) ∙ take_at part s.after (length part) refl

pub stands_room : {file part : List ℕ} {at : ℕ} → StandsAt file at part → at + length part ≤ length file
stands_room {part = part} s =
    omega (arith, ap length s.whole, length-append s.before (part ++ s.after), length-append part s.after, s.place)

pub stands_number : {file : List ℕ} {at : ℕ} (size value : ℕ) → value < 256 ^ size → StandsAt file at (little_bytes size value)
    → number_at file at size ≡ value
unfolding number_at
stands_number size value fits s =
    ap (little_number size) (stands_dropped s) ∙ little_number-reads_back size value s.after fits

past_gap : (a b c d : List ℕ) → a ++ (b ++ (c ++ d)) ≡ (a ++ b) ++ (c ++ d)
past_gap a b c d = sym (append_assoc a b (c ++ d))

past_content : (a b c d : List ℕ) → ((a ++ b) ++ c) ++ d ≡ a ++ (b ++ (c ++ d))
past_content a b c d = simp append_assoc

to_content : (front : List ℕ) (at : ℕ) → length front ≡ at → length (front ++ replicate (up8 at - at) 0) ≡ up8 at
to_content front at e = length-append front (replicate (up8 at - at) 0) ∙ omega (arith, e, length-replicate {A = ℕ} (up8 at - at) 0)

-- where each of several contents stands
pub content_stands : (front : List ℕ) (at : ℕ) (cs : List (List ℕ)) (k : ℕ) → length front ≡ at → k < length cs
    → StandsAt (front ++ laid_out at cs) (place_of at cs k) (get_or cs k [])
unfolding laid_out place_of
content_stands front at [] k e below = absurd (omega arith)
content_stands front at (c ∷ cs) zero e below =
    let gap = replicate (up8 at - at) 0 in
    record {
      before = front ++ gap;
      after = laid_out (up8 at + length c) cs;
      whole = past_gap front gap c (laid_out (up8 at + length c) cs);
      place = to_content front at e;
    }
content_stands front at (c ∷ cs) (suc k) e below =
    let gap = replicate (up8 at - at) 0 in
    let rest = laid_out (up8 at + length c) cs in
    let long : length ((front ++ gap) ++ c) ≡ up8 at + length c = length-append (front ++ gap) c ∙ ap (λ n. n + length c) (to_content front at e) in
    let s = content_stands ((front ++ gap) ++ c) (up8 at + length c) cs k long (omega arith) in
    let P : List ℕ → Type 0 = λ xs. StandsAt xs (place_of (up8 at + length c) cs k) (get_or cs k []) in
    subst P (past_content front gap c rest) s

-- what stands after the contents stands where the next one would
pub place-append : (at : ℕ) (cs : List (List ℕ)) (d : List ℕ) (k : ℕ) → k ≤ length cs → place_of at (cs ++ (d ∷ [])) k ≡ place_of at cs k
unfolding place_of
place-append at [] d zero most = refl
place-append at [] d (suc k) most = absurd (omega arith)
place-append at (c ∷ cs) d zero most = refl
place-append at (c ∷ cs) d (suc k) most = place-append (up8 at + length c) cs d k (omega arith)

past_name : (a b c : List ℕ) → (a ++ b) ++ c ≡ a ++ (b ++ c)
past_name a b c = append_assoc a b c

-- where each of several names stands
pub name_stands : (front : List ℕ) (at : ℕ) (ns : List (List ℕ)) (k : ℕ) → length front ≡ at → k < length ns
    → StandsAt (front ++ flat_map ended ns) (name_place at ns k) (ended (get_or ns k []))
unfolding name_place
name_stands front at [] k e below = absurd (omega arith)
name_stands front at (n ∷ ns) zero e below = record { before = front; after = flat_map ended ns; whole = refl; place = e }
name_stands front at (n ∷ ns) (suc k) e below =
    let long : length (front ++ ended n) ≡ at + length n + 1 = length-append front (ended n) ∙ omega (arith, e, length-append n (0 ∷ [])) in
    let s = name_stands (front ++ ended n) (at + length n + 1) ns k long (omega arith) in
    let P : List ℕ → Type 0 = λ xs. StandsAt xs (name_place (at + length n + 1) ns k) (ended (get_or ns k [])) in
    subst P (past_name front (ended n) (flat_map ended ns)) s
