-- The words so far, after one word more: a unit is read further, or it ends.
use Rattle.std.proofs.Common.{◌≡◌, ℕ, ◌+◌, ◌-◌, ◌*◌, ◌<◌, ◌≤◌, ◌^◌, true, IsTrue, List, [], ◌∷◌, ◌++◌, length, slice_set, arith, refl, ap, ap₂, sym, subst, ◌∙◌, append_assoc, append-nil, length-append, add-zero}
use Rattle.std.specs.Prelude.{None}
use Rattle.std.proofs.lemmas.Bool.{eqb-true}
use Rattle.cfi_unit.specs.declared.unit.Unit as U
use Rattle.cfi_unit.specs.UnitWords.{Fits, may_precede, word_count, words_of}
use Rattle.cfi_unit.specs.Recognise.{recognised}
use Rattle.cfi_unit.proofs.Splits.{precedes_nothing}
use Rattle.cfi_unit.proofs.UnitInList.{words_counted}
use Rattle.cfi_reader.specs.declared.entry.Entry.{Entry}
use Rattle.cfi_reader.specs.declared.entry.Entry.TheVariants as E
use Rattle.cfi_reader.specs.declared.first.First.TheVariants as F
use Rattle.cfi_reader.specs.declared.reader.Reader.{Reader}
use Rattle.cfi_reader.specs.declared.reader.Step.{Step}
use Rattle.cfi_reader.specs.declared.reader.Step.TheVariants.{More, Done, Before}
use Rattle.cfi_reader.specs.Entries.{entries_of, entry_of, inside}
use Rattle.cfi_reader.specs.PlainWord.{IsPlainWord}
use Rattle.cfi_reader.specs.Reading.{IsReading, IsUnit, Leads, LeadsOn, Opened, START, is_new, is_stuck}
use Rattle.cfi_reader.proofs.Closed.{start_reads}
use Rattle.cfi_reader.proofs.Followed.{stuck_stays}
use Rattle.cfi_reader.proofs.Opening.{plain_opens}
use Rattle.cfi_scan.specs.Stream.{AllStand, IsSplitUp, Splits, last_of, spelled, width}
use Rattle.cfi_scan.proofs.Row.{entries_length, entries_set, inside_length, last_more, spelled_length, spelled_more, stand_more, width_more}

-- the words so far are units, before what may follow the last of them
pub record Ended (calls : List ℕ) (from : ℕ) (May : List ℕ → Type 0) (entries : List Entry) (done last : ℕ) (words : List ℕ) : Type 0 where
  pub units : List U.Unit
  pub room : ℕ
  pub words_are : words ≡ spelled units from
  pub stand : (tail : List ℕ) → May tail → AllStand units from tail
  pub entries_are : entries ≡ entries_of calls units from ++ inside room
  pub done_is : done ≡ width units
  pub last_is : last ≡ last_of units

module _ (calls : List ℕ) (from : ℕ) (more : List ℕ) (entries : List Entry) (done last : ℕ) (reader : Reader) (words : List ℕ) (s : Splits calls from more entries done last reader words) where
  -- where the unit starts that is read
  abbrev pub here : ℕ
  here = from + 4 * width s.units

  pub words_length : length words ≡ width s.units + length s.held
  words_length =
      ap (λ (ws : List ℕ). length ws) s.words_are
      ∙ length-append (spelled s.units from) s.held
      ∙ ap (λ (n : ℕ). n + length s.held) (spelled_length s.units from)

  pub entries_count : length entries ≡ width s.units + s.room
  entries_count =
      ap (λ (es : List Entry). length es) s.entries_are
      ∙ length-append (entries_of calls s.units from) (inside s.room)
      ∙ ap₂ (λ (a b : ℕ). a + b) (entries_length calls s.units from) (inside_length s.room)

  pub ended : (unit : U.Unit) → Fits unit here → s.held ++ more ≡ words_of unit here → length words + length more ≤ length entries →
      Ended calls from (λ tail. IsTrue (may_precede unit here tail)) (slice_set entries done (entry_of calls unit here)) (length words + length more) done (words ++ more)
  ended unit fits words_are room =
      let count : length s.held + length more ≡ word_count unit =
      sym (length-append s.held more) ∙ ap (λ (ws : List ℕ). length ws) words_are ∙ words_counted unit here in
      let lw : length words ≡ width s.units + length s.held = words_length in
      let le : length entries ≡ width s.units + s.room = entries_count in
      let fit : word_count unit ≤ s.room = omega arith in
      let more_width : width (s.units ++ unit ∷ []) ≡ width s.units + word_count unit = width_more s.units unit in
      record {
        units = s.units ++ unit ∷ [];
        room = s.room - word_count unit;
        words_are =
            ap (λ (ws : List ℕ). ws ++ more) s.words_are
            ∙ append_assoc (spelled s.units from) s.held more
            ∙ ap (λ (ws : List ℕ). spelled s.units from ++ ws) words_are
            ∙ sym (spelled_more s.units unit from);
        stand =
            λ tail may.
            stand_more s.units unit from tail
            (subst (λ (ws : List ℕ). AllStand s.units from ws)
            (sym (append_assoc s.held more tail) ∙ ap (λ (ws : List ℕ). ws ++ tail) words_are) (s.stand tail))
            fits may;
        entries_are =
            ap₂ (λ (es : List Entry) (k : ℕ). slice_set es k (entry_of calls unit here)) s.entries_are s.done_is
            ∙ entries_set calls s.units unit from s.room fit;
        done_is = omega arith;
        last_is = s.done_is ∙ sym (last_more s.units unit);
      }

restated : (calls : List ℕ) (from : ℕ) (May Must : List ℕ → Type 0) (entries entries' : List Entry) (done done' last : ℕ) (words words' : List ℕ) →
    ((tail : List ℕ) → Must tail → May tail) → entries' ≡ entries → done' ≡ done → words' ≡ words →
    Ended calls from May entries done last words → Ended calls from Must entries' done' last words'
restated calls from May Must entries entries' done done' last words words' may es d ws e = record {
  units = e.units;
  room = e.room;
  words_are = ws ∙ e.words_are;
  stand = λ tail must. e.stand tail (may tail must);
  entries_are = es ∙ e.entries_are;
  done_is = d ∙ e.done_is;
  last_is = e.last_is;
}

module _ (calls : List ℕ) (from : ℕ) (May : List ℕ → Type 0) (entries : List Entry) (done last : ℕ) (words : List ℕ) (e : Ended calls from May entries done last words) where
  -- nothing is read of the next unit
  ended_splits : (next : List ℕ) → ((rest : List ℕ) → May (next ++ rest)) → Splits calls from next entries done last START words
  ended_splits next may = record {
    units = e.units;
    held = [];
    room = e.room;
    words_are = e.words_are ∙ sym (append-nil (spelled e.units from));
    stand = λ rest. e.stand (next ++ rest) (may rest);
    entries_are = e.entries_are;
    done_is = e.done_is;
    last_is = e.last_is;
    reading = start_reads calls (from + 4 * width e.units);
  }

  -- no word follows
  ended_up : May [] → IsSplitUp calls from entries done last words
  unfolding recognised
  ended_up may = record {
    units = e.units;
    past = [];
    room = e.room;
    words_are = e.words_are ∙ sym (append-nil (spelled e.units from));
    stand = e.stand [] may;
    entries_are = e.entries_are;
    done_is = e.done_is;
    last_is = e.last_is;
    none = refl;
  }

-- where no unit has begun, the next word is the first of one
new_leads : (calls : List ℕ) (reader : Reader) (word here : ℕ) (step : Step) → is_new reader ≡ true → Leads calls [] word here step → LeadsOn calls reader word here step
new_leads calls reader word here step new leads held at reading e =
    let none : held ≡ [] = reading.begun (eqb-true reader.node 1 new) in
    let n : length held ≡ 0 = ap (λ (ws : List ℕ). length ws) none in
    let place : here ≡ at = omega arith in
    subst (λ (ws : List ℕ). Leads calls ws word at step) (sym none) (subst (λ (a : ℕ). Leads calls [] word a step) place leads)

pub opened_more : (calls : List ℕ) (reader : Reader) (word here : ℕ) (next : Reader) → is_new reader ≡ true → Opened calls word here (F.More next) →
    LeadsOn calls reader word here (More next)
opened_more calls reader word here next new opened = new_leads calls reader word here (More next) new opened

pub opened_done : (calls : List ℕ) (reader : Reader) (word here : ℕ) (entry : Entry) → is_new reader ≡ true → Opened calls word here (F.Done entry) →
    LeadsOn calls reader word here (Done entry)
opened_done calls reader word here entry new opened = new_leads calls reader word here (Done entry) new opened

-- a word with which the unit does not end
pub splits_on : (calls : List ℕ) (from : ℕ) (word : ℕ) (entries : List Entry) (done last : ℕ) (reader : Reader) (next : Reader) (words : List ℕ) →
    LeadsOn calls reader word (from + 4 * length words) (More next) → Splits calls from (word ∷ []) entries done last reader words →
    Splits calls from [] entries done last next (words ++ word ∷ [])
splits_on calls from word entries done last reader next words leads s =
    let lw : length words ≡ width s.units + length s.held = words_length calls from (word ∷ []) entries done last reader words s in
    let place : from + 4 * length words ≡ from + 4 * width s.units + 4 * length s.held = omega arith in
    record {
      units = s.units;
      held = s.held ++ word ∷ [];
      room = s.room;
      words_are = ap (λ (ws : List ℕ). ws ++ word ∷ []) s.words_are ∙ append_assoc (spelled s.units from) s.held (word ∷ []);
      stand = λ rest. subst (λ (ws : List ℕ). AllStand s.units from ws) (sym (append_assoc s.held (word ∷ []) rest)) (s.stand rest);
      entries_are = s.entries_are;
      done_is = s.done_is;
      last_is = s.last_is;
      reading = leads s.held (from + 4 * width s.units) s.reading place;
    }

-- what is known of the words that follow may be said
pub splits_before : (calls : List ℕ) (from : ℕ) (word : ℕ) (entries : List Entry) (done last : ℕ) (reader : Reader) (words : List ℕ) →
    Splits calls from [] entries done last reader words → Splits calls from (word ∷ []) entries done last reader words
splits_before calls from word entries done last reader words s = record {
  units = s.units;
  held = s.held;
  room = s.room;
  words_are = s.words_are;
  stand = λ rest. s.stand (word ∷ rest);
  entries_are = s.entries_are;
  done_is = s.done_is;
  last_is = s.last_is;
  reading = s.reading;
}

-- one with which no unit begins
pub splits_stuck : (calls : List ℕ) (from : ℕ) (word : ℕ) (entries : List Entry) (done last : ℕ) (reader : Reader) (words : List ℕ) →
    is_stuck reader ≡ true → word < 2 ^ 32 → Splits calls from [] entries done last reader words →
    Splits calls from [] entries done last reader (words ++ word ∷ [])
splits_stuck calls from word entries done last reader words stuck small s =
    splits_on calls from word entries done last reader reader words (λ held at reading e. stuck_stays calls reader held word at stuck small reading)
    (splits_before calls from word entries done last reader words s)

-- a word with which it ends
pub splits_unit : (calls : List ℕ) (from : ℕ) (word : ℕ) (entries : List Entry) (done last : ℕ) (reader : Reader) (entry : Entry) (words : List ℕ) →
    LeadsOn calls reader word (from + 4 * length words) (Done entry) → length words < length entries →
    Splits calls from (word ∷ []) entries done last reader words →
    Splits calls from [] (slice_set entries done entry) (length words + 1) done START (words ++ word ∷ [])
splits_unit calls from word entries done last reader entry words leads room s =
    let lw : length words ≡ width s.units + length s.held = words_length calls from (word ∷ []) entries done last reader words s in
    let place : from + 4 * length words ≡ from + 4 * width s.units + 4 * length s.held = omega arith in
    let (u, may) = leads s.held (from + 4 * width s.units) s.reading place in
    let after : Splits calls from [] (slice_set entries done (entry_of calls u.unit (from + 4 * width s.units))) (length words + 1) done START (words ++ word ∷ []) =
    ended_splits calls from (λ tail. IsTrue (may_precede u.unit (from + 4 * width s.units) tail)) _ _ _ _
    (ended calls from (word ∷ []) entries done last reader words s u.unit u.fits u.words_are (omega arith)) [] may in
    subst (λ (e : Entry). Splits calls from [] (slice_set entries done e) (length words + 1) done START (words ++ word ∷ [])) (sym u.entry_is) after

-- a plain word, where no unit has begun
pub splits_plain : (calls : List ℕ) (from : ℕ) (word : ℕ) (entries : List Entry) (done last : ℕ) (reader : Reader) (words : List ℕ) →
    is_new reader ≡ true → word < 2 ^ 32 → IsPlainWord word → length words < length entries → Splits calls from (word ∷ []) entries done last reader words →
    Splits calls from [] (slice_set entries done E.Other) (length words + 1) done START (words ++ word ∷ [])
splits_plain calls from word entries done last reader words new small plain room s =
    splits_unit calls from word entries done last reader E.Other words
    (opened_done calls reader word (from + 4 * length words) E.Other new (plain_opens calls word (from + 4 * length words) small plain)) room s

-- what is read as a unit, with no word more
whole_ended : (calls : List ℕ) (from : ℕ) (entries : List Entry) (done last : ℕ) (reader : Reader) (entry : Entry) (words : List ℕ) → length words ≤ length entries →
    (s : Splits calls from [] entries done last reader words) → (u : IsUnit calls entry s.held (from + 4 * width s.units)) →
    Ended calls from (λ tail. IsTrue (may_precede u.unit (from + 4 * width s.units) tail)) (slice_set entries done entry) (length words) done words
whole_ended calls from entries done last reader entry words room s u =
    let at : ℕ = from + 4 * width s.units in
    restated calls from (λ tail. IsTrue (may_precede u.unit at tail)) (λ tail. IsTrue (may_precede u.unit at tail))
    (slice_set entries done (entry_of calls u.unit at)) (slice_set entries done entry)
    (length words + 0) (length words) done (words ++ []) words
    (λ tail may. may) (ap (slice_set entries done) u.entry_is) (sym (add-zero (length words))) (sym (append-nil words))
    (ended calls from [] entries done last reader words s u.unit u.fits (append-nil s.held ∙ u.words_are) (omega arith))

-- a word before which the unit has ended
pub splits_whole : (calls : List ℕ) (from : ℕ) (word : ℕ) (entries : List Entry) (done last : ℕ) (reader : Reader) (entry : Entry) (words : List ℕ) →
    LeadsOn calls reader word (from + 4 * length words) (Before entry) → length words ≤ length entries →
    Splits calls from [] entries done last reader words → Splits calls from (word ∷ []) (slice_set entries done entry) (length words) done START words
splits_whole calls from word entries done last reader entry words leads room s =
    let lw : length words ≡ width s.units + length s.held = words_length calls from [] entries done last reader words s in
    let place : from + 4 * length words ≡ from + 4 * width s.units + 4 * length s.held = omega arith in
    let (u, may) = leads s.held (from + 4 * width s.units) s.reading place in
    ended_splits calls from (λ tail. IsTrue (may_precede u.unit (from + 4 * width s.units) tail)) _ _ _ _
    (whole_ended calls from entries done last reader entry words room s u) (word ∷ []) may

-- where no word follows
pub up_whole : (calls : List ℕ) (from : ℕ) (entries : List Entry) (done last : ℕ) (reader : Reader) (entry : Entry) (words : List ℕ) → length words ≤ length entries →
    (s : Splits calls from [] entries done last reader words) → IsUnit calls entry s.held (from + 4 * width s.units) →
    IsSplitUp calls from (slice_set entries done entry) (length words) done words
up_whole calls from entries done last reader entry words room s u =
    ended_up calls from (λ tail. IsTrue (may_precede u.unit (from + 4 * width s.units) tail)) _ _ _ _
    (whole_ended calls from entries done last reader entry words room s u) (precedes_nothing u.unit (from + 4 * width s.units))

pub up_open : (calls : List ℕ) (from : ℕ) (entries : List Entry) (done last : ℕ) (reader : Reader) (words : List ℕ) →
    (s : Splits calls from [] entries done last reader words) → recognised s.held (from + 4 * width s.units) ≡ None → IsSplitUp calls from entries done last words
up_open calls from entries done last reader words s none = record {
  units = s.units;
  past = s.held;
  room = s.room;
  words_are = s.words_are;
  stand = subst (λ (ws : List ℕ). AllStand s.units from ws) (append-nil s.held) (s.stand []);
  entries_are = s.entries_are;
  done_is = s.done_is;
  last_is = s.last_is;
  none = none;
}

-- the same of equal parts
pub as_ended : {entries entries' : List Entry} {done done' last last' : ℕ} {reader reader' : Reader} (calls : List ℕ) (from : ℕ) (next words : List ℕ) →
    entries' ≡ entries → done' ≡ done → last' ≡ last → reader' ≡ reader → Splits calls from next entries done last reader words →
    Splits calls from next entries' done' last' reader' words
as_ended {entries} {entries'} {done} {done'} {last} {last'} {reader} {reader'} calls from next words es d l r s = record {
  units = s.units;
  held = s.held;
  room = s.room;
  words_are = s.words_are;
  stand = s.stand;
  entries_are = es ∙ s.entries_are;
  done_is = d ∙ s.done_is;
  last_is = l ∙ s.last_is;
  reading = subst (λ (q : Reader). IsReading calls q s.held (from + 4 * width s.units)) (sym r) s.reading;
}

-- the same of equal parts
pub as_split_up : {entries entries' : List Entry} {done done' last last' : ℕ} (calls : List ℕ) (from : ℕ) (words : List ℕ) →
    entries' ≡ entries → done' ≡ done → last' ≡ last → IsSplitUp calls from entries done last words → IsSplitUp calls from entries' done' last' words
as_split_up calls from words es d l s = record {
  units = s.units;
  past = s.past;
  room = s.room;
  words_are = s.words_are;
  stand = s.stand;
  entries_are = es ∙ s.entries_are;
  done_is = d ∙ s.done_is;
  last_is = l ∙ s.last_is;
  none = s.none;
}
