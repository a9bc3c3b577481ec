-- Bytes that are cut into words, one byte or one word more, and what is kept of them.
use Rattle.std.proofs.Common.{◌≡◌, ℕ, ◌+◌, ◌*◌, ◌/◌, ◌%◌, ◌<◌, ◌≤◌, List, [], ◌∷◌, ◌++◌, length, min, get_or, set, take, drop, Some, None, inl, inr, refl, sym, ap, ◌∙◌, subst, arith}
use Rattle.std.proofs.lemmas.List.{append-nil, length_push, length-append, take-append-le, take_more_set, take_all, nil_from_length}
use Rattle.std.proofs.lemmas.Bool.{cases_eq, eq-eqb, ne_eqb}
use Rattle.rv_image.specs.declared.version.Versions.{Versions}
use Rattle.rv_image.specs.MemoryMap.{Profile, profile_with}
use Rattle.cfi_reader.specs.declared.entry.Entry.{Entry}
use Rattle.cfi_scan.specs.declared.kept.Kept.{Kept}
use Rattle.cfi_reader.specs.Reading.{START}
use Rattle.cfi_reader.proofs.Closed.{start_reads}
use Rattle.cfi_scan.specs.Carry.{Taken, after_byte, made, word_of}
use Rattle.cfi_reader.specs.Entries.{entries_of, inside}
use Rattle.cfi_scan.specs.Pieces.{HasSeen, IsCut, IsOf, Keeps, Sight, ends, goes_on, prologue_count}
use Rattle.cfi_scan.specs.Stream.{AllStand, IsSplitUp, Splits, last_of, spelled, width}

-- fewer than four bytes are left, and the others are four a word
pub cut_left : {bytes words left : List ℕ} → IsCut bytes words left → length left < 4
cut_left (ends left low) = low
cut_left (goes_on a b c d bytes words left cut) = cut_left cut

pub cut_length : {bytes words left : List ℕ} → IsCut bytes words left → length bytes ≡ 4 * length words + length left
cut_length (ends left low) = omega arith
cut_length (goes_on a b c d bytes words left cut) = let e = cut_length cut in omega arith

pub cut_count : {bytes words left : List ℕ} → IsCut bytes words left → length words ≡ length bytes / 4
cut_count cut = omega (arith, cut_length cut, cut_left cut)

pub cut_rest : {bytes words left : List ℕ} → IsCut bytes words left → length left ≡ length bytes % 4
cut_rest cut = omega (arith, cut_length cut, cut_left cut)

-- what follows is cut as if it came after the bytes that are left
pub cut_append : {bytes words left : List ℕ} → IsCut bytes words left → (more others rest : List ℕ) → IsCut (left ++ more) others rest → IsCut (bytes ++ more) (words ++ others) rest
cut_append (ends left low) more others rest next = next
cut_append (goes_on a b c d bytes words left cut) more others rest next =
    goes_on a b c d (bytes ++ more) (words ++ others) rest (cut_append cut more others rest next)

-- one byte more, which makes no word whole
pub cut_byte : {bytes words left : List ℕ} → (byte : ℕ) → IsCut bytes words left → length left < 3 → IsCut (bytes ++ byte ∷ []) words (left ++ byte ∷ [])
cut_byte {bytes} {words} {left} byte cut low =
    subst (λ (ws : List ℕ). IsCut (bytes ++ byte ∷ []) ws (left ++ byte ∷ [])) (append-nil words)
    (cut_append cut (byte ∷ []) [] (left ++ byte ∷ []) (ends (left ++ byte ∷ []) (omega (arith, length_push left byte))))

three_more : (left : List ℕ) (byte : ℕ) → length left ≡ 3 → IsCut (left ++ byte ∷ []) (word_of (get_or left 0 0) (get_or left 1 0) (get_or left 2 0) byte ∷ []) []
three_more [] byte e = absurd (omega arith)
three_more (a ∷ []) byte e = absurd (omega arith)
three_more (a ∷ b ∷ []) byte e = absurd (omega arith)
three_more (a ∷ b ∷ c ∷ []) byte e = goes_on a b c byte [] [] [] (ends [] (omega arith))
three_more (a ∷ b ∷ c ∷ d ∷ left) byte e = absurd (omega arith)

-- one byte more, which does
pub cut_word : {bytes words left : List ℕ} → (byte : ℕ) → IsCut bytes words left → length left ≡ 3 → IsCut (bytes ++ byte ∷ []) (words ++ word_of (get_or left 0 0) (get_or left 1 0) (get_or left 2 0) byte ∷ []) []
cut_word {bytes} {words} {left} byte cut full =
    cut_append cut (byte ∷ []) (word_of (get_or left 0 0) (get_or left 1 0) (get_or left 2 0) byte ∷ []) [] (three_more left byte full)

-- bytes that are words, where none is left
pub whole_cut : (piece : List ℕ) → length piece % 4 ≡ 0 → (words : List ℕ) × IsCut piece words []
whole_cut [] whole = ([], ends [] (omega arith))
whole_cut (a ∷ []) whole = absurd (omega arith)
whole_cut (a ∷ b ∷ []) whole = absurd (omega arith)
whole_cut (a ∷ b ∷ c ∷ []) whole = absurd (omega arith)
whole_cut (a ∷ b ∷ c ∷ d ∷ rest) whole =
    let (words, cut) = whole_cut rest (omega arith) in (word_of a b c d ∷ words, goes_on a b c d rest words [] cut)

-- the first of them
pub first_cut : (rest words : List ℕ) → 4 ≤ length rest → IsCut rest words [] →
    (more : List ℕ) × ((words ≡ word_of (get_or rest 0 0) (get_or rest 1 0) (get_or rest 2 0) (get_or rest 3 0) ∷ more) × IsCut (drop 4 rest) more [])
first_cut rest words room (ends left low) = absurd (omega arith)
first_cut rest words room (goes_on a b c d bytes more left cut) = (more, (refl, cut))

pub none_cut : (rest words : List ℕ) → length rest < 4 → IsCut rest words [] → words ≡ []
none_cut rest words few (ends left low) = refl
none_cut rest words few (goes_on a b c d bytes more left cut) = absurd (omega arith)

-- the prologue's words with one more
pub keeps_prologue : (most : ℕ) (prologue words : List ℕ) (index word : ℕ) → most ≤ length prologue → index < most → length words ≡ index →
    take (min (length words) most) prologue ≡ take most words →
    take (min (length (words ++ word ∷ [])) most) (set prologue index word) ≡ take most (words ++ word ∷ [])
keeps_prologue most prologue words index word room low count kept =
    let longer = length_push words word in
    let before : index ≡ min (length words) most = omega arith in
    let after : min (length (words ++ word ∷ [])) most ≡ index + 1 = omega arith in
    rw (after, take_more_set prologue index word (omega arith), take_all most (words ++ word ∷ []) (omega arith))
    (ap (λ (ws : List ℕ). ws ++ word ∷ []) (ap (λ (n : ℕ). take n prologue) before ∙ kept ∙ take_all most words (omega arith)))

-- where no word came
pub keeps_none : (most : ℕ) (prologue : List ℕ) → take (min (length {A = ℕ} []) most) prologue ≡ take most []
keeps_none most prologue =
    let none : min 0 most ≡ 0 = omega arith in
    ap (λ (n : ℕ). take n prologue) none ∙ sym (take_all {A = ℕ} most [] (omega arith))

-- no word yet
pub keeps_after : (most : ℕ) (prologue words : List ℕ) (word : ℕ) → most ≤ length words → take (min (length words) most) prologue ≡ take most words →
    take (min (length (words ++ word ∷ [])) most) prologue ≡ take most (words ++ word ∷ [])
keeps_after most prologue words word high is =
    let longer : length (words ++ word ∷ []) ≡ length words + 1 = length-append words (word ∷ []) in
    let one : min (length (words ++ word ∷ [])) most ≡ most = omega arith in
    let two : min (length words) most ≡ most = omega arith in
    ap (λ (n : ℕ). take n prologue) (one ∙ sym two) ∙ is ∙ sym (take-append-le most words (word ∷ []) high)

pub splits_none : (calls : List ℕ) (from room : ℕ) → Splits calls from [] (inside room) 0 0 START []
unfolding spelled width last_of AllStand entries_of
splits_none calls from room = record {
  units = [];
  held = [];
  room = room;
  words_are = refl;
  stand = λ rest. tt;
  entries_are = refl;
  done_is = refl;
  last_is = refl;
  reading = start_reads calls (from + 4 * 0);
}

-- what is kept of words, and what a feeder shows of it
abbrev pub KeepsUnder : Profile → List ℕ → Kept → List ℕ → Type 0
KeepsUnder p calls k words = Keeps p calls k.prologue k.units.entries.items k.units.done k.units.last k.units.reader words

abbrev pub KeepsWords : Profile → Kept → List ℕ → Type 0
KeepsWords p k words = KeepsUnder p k.units.calls k words

-- the same under equal versions and an equal list
pub moved : {v w : Versions} {calls others : List ℕ} → w ≡ v → others ≡ calls → (k : Kept) (words : List ℕ) → KeepsUnder (profile_with v) calls k words → KeepsUnder (profile_with w) others k words
moved {v} {w} {calls} {others} versions list k words keeps =
    subst (λ (n : Versions). KeepsUnder (profile_with n) others k words) (sym versions) (subst (λ (ns : List ℕ). KeepsUnder (profile_with v) ns k words) (sym list) keeps)

abbrev pub sight : Profile → Kept → Taken → Sight
sight p k t = record {
  versions = k.units.front;
  calls = k.units.calls;
  prologue = take (min (t.fed / 4) (prologue_count p)) k.prologue;
  entries = k.units.entries.items;
  done = k.units.done;
  last = k.units.last;
  reader = k.units.reader;
  left = t.left;
  fed = t.fed;
}

pub seen_from : (p : Profile) (k : Kept) (t : Taken) (bytes words : List ℕ) → IsCut bytes words t.left → t.fed ≡ length bytes → KeepsWords p k words → HasSeen p (sight p k t) bytes
seen_from p k t bytes words cut fed keeps = record {
  words = words;
  cut = cut;
  fed = fed;
  prologue = ap (λ (n : ℕ). take (min n (prologue_count p)) k.prologue) (ap (λ (n : ℕ). n / 4) fed ∙ sym (cut_count cut)) ∙ keeps.prologue_is;
  split = keeps.split;
}

pub seen_count : (p : Profile) (k : Kept) (t : Taken) (bytes : List ℕ) (seen : HasSeen p (sight p k t) bytes) → length seen.words ≡ t.fed / 4
seen_count p k t bytes seen = cut_count seen.cut ∙ ap (λ (n : ℕ). n / 4) (sym seen.fed)

pub seen_left : (p : Profile) (k : Kept) (t : Taken) (bytes : List ℕ) (seen : HasSeen p (sight p k t) bytes) → length t.left ≡ t.fed % 4
seen_left p k t bytes seen = cut_rest seen.cut ∙ ap (λ (n : ℕ). n % 4) (sym seen.fed)

pub keeps_from : (p : Profile) (k : Kept) (t : Taken) (bytes : List ℕ) (seen : HasSeen p (sight p k t) bytes) → KeepsWords p k seen.words
keeps_from p k t bytes seen = record {
  prologue_is = ap (λ (n : ℕ). take (min n (prologue_count p)) k.prologue) (seen_count p k t bytes seen) ∙ seen.prologue;
  split = seen.split;
}

-- what a byte makes of those of the word that is not whole
pub made_whole : (t : Taken) (byte word : ℕ) → Some word ≡ made t byte →
    (t.fed % 4 ≡ 3) × ((word ≡ word_of (get_or t.left 0 0) (get_or t.left 1 0) (get_or t.left 2 0) byte) × (after_byte t byte ≡ record { left = []; fed = t.fed + 1 }))
made_whole t byte word e =
    elim (cases_eq (t.fed % 4) 3) [
      | inl full ↦ let test = eq-eqb (t.fed % 4) 3 full in (full, (cc, rw test refl))
      | inr part ↦ let test = ne_eqb (t.fed % 4) 3 part in absurd (cc)
    ]

pub made_none : (t : Taken) (byte : ℕ) → None ≡ made t byte →
    (t.fed % 4 ≡ 3 → ⊥) × (after_byte t byte ≡ record { left = t.left ++ byte ∷ []; fed = t.fed + 1 })
made_none t byte e =
    elim (cases_eq (t.fed % 4) 3) [
      | inl full ↦ let test = eq-eqb (t.fed % 4) 3 full in absurd (cc)
      | inr part ↦ let test = ne_eqb (t.fed % 4) 3 part in (part, rw test refl)
    ]

-- a byte that makes no word whole
pub seen_byte : (p : Profile) (k : Kept) (t after : Taken) (byte : ℕ) → None ≡ made t byte → after ≡ after_byte t byte →
    (bytes : List ℕ) → HasSeen p (sight p k t) bytes → HasSeen p (sight p k after) (bytes ++ byte ∷ [])
seen_byte p k t after byte none is bytes seen =
    let m = made_none t byte none in
    subst (λ (a : Taken). HasSeen p (sight p k a) (bytes ++ byte ∷ [])) (sym (is ∙ m.1))
    (seen_from p k (record { left = t.left ++ byte ∷ []; fed = t.fed + 1 }) (bytes ++ byte ∷ []) seen.words
    (cut_byte byte seen.cut (omega (arith, m.0, seen_left p k t bytes seen)))
    (omega (arith, seen.fed, length_push bytes byte))
    (keeps_from p k t bytes seen))

-- one that does
pub seen_word : (p : Profile) (k next : Kept) (t after : Taken) (byte word : ℕ) → Some word ≡ made t byte → after ≡ after_byte t byte →
    next.units.calls ≡ k.units.calls →
    ((words : List ℕ) → length words ≡ t.fed / 4 → KeepsWords p k words → KeepsUnder p k.units.calls next (words ++ word ∷ [])) →
    (bytes : List ℕ) → HasSeen p (sight p k t) bytes → HasSeen p (sight p next after) (bytes ++ byte ∷ [])
seen_word p k next t after byte word some is same keeps bytes seen =
    let m = made_whole t byte word some in
    subst (λ (a : Taken). HasSeen p (sight p next a) (bytes ++ byte ∷ [])) (sym (is ∙ m.1.1))
    (seen_from p next (record { left = []; fed = t.fed + 1 }) (bytes ++ byte ∷ []) (seen.words ++ word ∷ [])
    (subst (λ (w : ℕ). IsCut (bytes ++ byte ∷ []) (seen.words ++ w ∷ []) []) (sym m.1.0)
    (cut_word byte seen.cut (seen_left p k t bytes seen ∙ m.0)))
    (omega (arith, seen.fed, length_push bytes byte))
    (subst (λ (calls : List ℕ). KeepsUnder p calls next (seen.words ++ word ∷ [])) (sym same) (keeps seen.words (seen_count p k t bytes seen) (keeps_from p k t bytes seen))))

-- bytes that are words
pub seen_words : (p : Profile) (k next : Kept) (t after : Taken) (piece : List ℕ) → t.fed % 4 ≡ 0 → length piece % 4 ≡ 0 → after ≡ record { left = []; fed = t.fed + length piece } →
    next.units.calls ≡ k.units.calls →
    ((words more : List ℕ) → length words ≡ t.fed / 4 → IsCut piece more [] → KeepsWords p k words → KeepsUnder p k.units.calls next (words ++ more)) →
    (bytes : List ℕ) → HasSeen p (sight p k t) bytes → HasSeen p (sight p next after) (bytes ++ piece)
seen_words p k next t after piece whole words is same keeps bytes seen =
    let (more, cut) = whole_cut piece words in
    let none : t.left ≡ [] = nil_from_length t.left (seen_left p k t bytes seen ∙ whole) in
    subst (λ (x : Taken). HasSeen p (sight p next x) (bytes ++ piece)) (sym is)
    (seen_from p next (record { left = []; fed = t.fed + length piece }) (bytes ++ piece) (seen.words ++ more)
    (cut_append seen.cut piece more [] (subst (λ (l : List ℕ). IsCut (l ++ piece) more []) (sym none) cut))
    (omega (arith, seen.fed, length-append bytes piece))
    (subst (λ (calls : List ℕ). KeepsUnder p calls next (seen.words ++ more)) (sym same) (keeps seen.words more (seen_count p k t bytes seen) cut (keeps_from p k t bytes seen))))

-- a code that has ended
pub ended : (p : Profile) (k : Kept) (t : Taken) (entries : List Entry) (done last fed : ℕ) (bytes : List ℕ) (seen : HasSeen p (sight p k t) bytes) → fed ≡ t.fed → length entries ≡ length k.units.entries.items →
    (length (drop (prologue_count p) seen.words) ≤ length k.units.entries.items → Splits k.units.calls p.units_from [] k.units.entries.items k.units.done k.units.last k.units.reader (drop (prologue_count p) seen.words) → IsSplitUp k.units.calls p.units_from entries done last (drop (prologue_count p) seen.words)) →
    IsOf p k.units.calls (record { versions = k.units.front; prologue = take (min (fed / 4) (prologue_count p)) k.prologue; entries = entries; done = done; last = last; fed = fed }) bytes
ended p k t entries done last fed bytes seen same room close = record {
  words = seen.words;
  left = t.left;
  cut = seen.cut;
  fed = same ∙ seen.fed;
  prologue = ap (λ (n : ℕ). take (min (n / 4) (prologue_count p)) k.prologue) same ∙ seen.prologue;
  split = λ fits. let before : length (drop (prologue_count p) seen.words) ≤ length k.units.entries.items = omega (arith, fits, room) in close before (seen.split before);
}
