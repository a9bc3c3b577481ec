-- Where a word leads that is as a row says, and one that is not.
use Rattle.std.proofs.Common.{◌≡◌, ℕ, ◌+◌, ◌*◌, ◌^◌, ◌<◌, ◌≤◌, ◌==◌, ◌&&◌, true, false, not, inl, inr, List, [], ◌∷◌, ◌++◌, length, refl, ap, sym, subst, ◌∙◌, arith}
use Rattle.std.specs.Prelude.{Option, Some, None, nat_lt}
use Rattle.std.proofs.lemmas.Bool.{and_parts, cases_Bool, eq-eqb, eqb-true, ltb-true, not-true}
use Rattle.rv_word.specs.Numbers.{MOST_NUMBERS}
use Rattle.rv_code.specs.Decode.{decoded}
use Rattle.cfi_unit.specs.declared.pattern.Pattern.{Pattern}
use Rattle.cfi_unit.specs.declared.pattern.End.{End}
use Rattle.cfi_unit.specs.declared.pattern.End.TheVariants as D
use Rattle.cfi_unit.specs.UnitWords.{may_precede}
use Rattle.cfi_unit.specs.Patterns.{matches}
use Rattle.cfi_unit.specs.Shapes.{SHAPES, Shape, shape}
use Rattle.cfi_unit.specs.ShapeOf.{shape_of}
use Rattle.cfi_unit.specs.Opens.{Among, Made, Opens, Small}
use Rattle.cfi_reader.specs.Left.{Reads, Tries, after, go_else, goes_on, is_alone, none_ended, same, without}
use Rattle.cfi_reader.specs.Nodes.{Row, else_to, goes_to, is_asked, is_row_of, rest_of, same_shapes}
use Rattle.cfi_reader.specs.Kept.{Keeps, count_by, entry_by, is_longer, label_after, open_entry}
use Rattle.cfi_reader.specs.Reading.{IsReading, Leads, is_stuck}
use Rattle.cfi_reader.specs.Trying.{Ended, IsTrying}
use Rattle.cfi_reader.specs.declared.node.Else.TheVariants as L
use Rattle.cfi_reader.specs.declared.node.Next.TheVariants as N
use Rattle.cfi_reader.specs.declared.reader.Reader.{Reader}
use Rattle.cfi_reader.specs.declared.reader.Step.TheVariants.{More, Done, Before}
use Rattle.cfi_reader.proofs.Ahead.{alone_precedes, goes_further}
use Rattle.cfi_reader.proofs.Entered.{entry_told, open_told}
use Rattle.cfi_reader.proofs.Keeping.{keeps_more}
use Rattle.cfi_reader.proofs.Law.{least_none, least_on}
use Rattle.cfi_reader.proofs.Steps.{Last, last_word, passed, taken, to_try, without_from}
use Rattle.cfi_reader.proofs.Table.{Says, says, shapes_are}
use Rattle.cfi_unit.proofs.MadeUnits.{made}

-- words in code, one more of them
small_push : (held : List ℕ) (word : ℕ) → Small held → word < 2 ^ 32 → Small (held ++ word ∷ [])
small_push [] word small low = (low, tt)
small_push (w ∷ held) word small low = (small.0, small_push held word small.1 low)

-- the unit that has ended
pub record Whole (end : End) (ws : List ℕ) (at : ℕ) : Type 0 where
  pub made : (s : Shape) × Made s ws at
  pub end_is : (shape_of made.1.unit at).end ≡ end

abbrev pub OneEnded : End → List ℕ → ℕ → Type 0
OneEnded end ws at = (s : Shape) × (Among s SHAPES × (s.end ≡ end) × Opens s.words ws at [])

pub whole_unit : (end : End) (ws : List ℕ) (at : ℕ) → OneEnded end ws at → Small ws → Whole end ws at
whole_unit end ws at (s, (among, is, opens)) small =
    let m : Made s ws at = made s ws at among small opens in
    record { made = (s, m); end_is = ap (λ (r : Shape). r.end) m.shape_is ∙ is }

longer_alone : (end : End) → is_longer end ≡ true → is_alone end ≡ true
longer_alone D.Over e = absurd (cc)
longer_alone (D.Stores mask) e = absurd (cc)
longer_alone end e = refl

-- of one alone that has ended
pub first_ended : (end : End) (ws : List ℕ) (at : ℕ) → Reads (shape end [] ∷ []) ws at → OneEnded end ws at
unfolding Among
first_ended end ws at r = r.made (shape end []) (inl refl)

try_ended : (end : End) (ws : List ℕ) (word at : ℕ) → Tries (shape end [] ∷ []) ws word at → OneEnded end ws at
unfolding Among
try_ended end ws word at r = r.made (shape end []) (inl refl)

other_left : (end : End) (s : Shape) → Among s (shape end [] ∷ []) → goes_on s.words ≡ true → ⊥
unfolding Among
other_left end s (inl is) e = let f : false ≡ true = ap (λ (r : Shape). goes_on r.words) (sym is) ∙ e in cc
other_left end s (inr a) e = a

-- of none
reads_none : (held : List ℕ) (word at : ℕ) → Tries [] held word at → Reads [] (held ++ word ∷ []) at
unfolding Among
reads_none held word at t = record {
  sound = λ s left among opens.
      let l : Last s.words held word at left = last_word s.words held word at left opens in
      t.sound s l.by left among l.opens l.fits;
  made = λ r a. absurd a;
}

pub keeps_none : (calls : List ℕ) (numbers label : ℕ) (ws : List ℕ) (at : ℕ) → Reads [] ws at → Keeps calls numbers label ws at
unfolding Among
keeps_none calls numbers label ws at r = record {
  label_is = λ s left among opens told e. absurd (r.sound s left among opens);
  numbers_are = λ s left among opens e. absurd (r.sound s left among opens);
}

module _ (calls : List ℕ) (reader : Reader) (row : Row) (word here : ℕ) (most : length calls ≤ MOST_NUMBERS) (low : word < 2 ^ 32) (table : is_row_of reader.node row ≡ true)
    (held : List ℕ) (at : ℕ) (t : IsTrying calls reader held word at) (e : here ≡ at + 4 * length held) where
  -- what is kept
  abbrev count : ℕ
  count = count_by calls row.pattern word reader.numbers

  abbrev label : ℕ
  label = label_after row.pattern word reader.label

  said : Says reader.node row
  said = says reader.node row table

  fits_there : matches row.pattern word here ≡ true → matches row.pattern word (at + 4 * length held) ≡ true
  fits_there fits = ap (matches row.pattern word) (sym e) ∙ fits

  reads_on : matches row.pattern word here ≡ true → Reads (after row.pattern (rest_of reader.node)) (held ++ word ∷ []) at
  reads_on fits = taken row.pattern (rest_of reader.node) held word at t.tries said.told (fits_there fits)

  keeps_on : matches row.pattern word here ≡ true → Keeps calls count label (held ++ word ∷ []) at
  keeps_on fits = keeps_more calls row.pattern (rest_of reader.node) held word at reader.numbers reader.label most t.tries said.told (fits_there fits) t.keeps

  pub goes_more : (node numbers kept : ℕ) → numbers ≡ count → kept ≡ label → matches row.pattern word here ≡ true → row.yes ≡ N.More node →
      Leads calls held word at (More (record { node = node; numbers = numbers; label = kept }))
  goes_more node numbers kept counted labelled fits is =
      let test = and_parts (not (node == 1)) (same_shapes (rest_of node) (after row.pattern (rest_of reader.node)))
      (ap (λ (n : _). goes_to n (after row.pattern (rest_of reader.node))) (sym is) ∙ said.goes) in
      record {
        reads = subst (λ (rs : List Shape). Reads rs (held ++ word ∷ []) at) (sym (shapes_are (rest_of node) (after row.pattern (rest_of reader.node)) test.1)) (reads_on fits);
        least = least_on row.pattern (rest_of reader.node) held word at t.tries said.let_on (fits_there fits) t.least;
        keeps = subst (λ (n : ℕ). Keeps calls n kept (held ++ word ∷ []) at) (sym counted)
            (subst (λ (l : ℕ). Keeps calls count l (held ++ word ∷ []) at) (sym labelled) (keeps_on fits));
        begun = λ one.
            let first : (node == 1) ≡ true = eq-eqb node 1 one in
            let f : false ≡ true = sym (ap not first) ∙ test.0 in
            absurd (cc);
        small = small_push held word t.small low;
      }

  pub goes_done : (end : End) → matches row.pattern word here ≡ true → row.yes ≡ N.Done end →
      Leads calls held word at (Done (entry_by calls end count label (decoded word)))
  goes_done end fits is =
      let test = and_parts (is_longer end) (same_shapes (shape end [] ∷ []) (after row.pattern (rest_of reader.node)))
      (ap (λ (n : _). goes_to n (after row.pattern (rest_of reader.node))) (sym is) ∙ said.goes) in
      let reads : Reads (shape end [] ∷ []) (held ++ word ∷ []) at =
      subst (λ (rs : List Shape). Reads rs (held ++ word ∷ []) at) (sym (shapes_are (shape end [] ∷ []) (after row.pattern (rest_of reader.node)) test.1)) (reads_on fits) in
      let w : Whole end (held ++ word ∷ []) at =
      whole_unit end (held ++ word ∷ []) at (first_ended end (held ++ word ∷ []) at reads) (small_push held word t.small low) in
      let m = w.made.1 in
      let longer : is_longer ((shape_of m.unit at).end) ≡ true = ap is_longer w.end_is ∙ test.0 in (
        record {
          unit = m.unit;
          fits = m.fits;
          entry_is = ap (λ (d : End). entry_by calls d count label (decoded word)) (sym w.end_is)
              ∙ entry_told m.unit calls count label held word at most m.fits m.words (keeps_on fits) longer;
          words_are = sym m.words;
        },
        λ rest. alone_precedes m.unit at rest m.fits (longer_alone ((shape_of m.unit at).end) longer),
      )

  tries_else : matches row.pattern word here ≡ false → Tries (without row.pattern (rest_of reader.node)) held word at
  tries_else fails = passed row.pattern (rest_of reader.node) held word at t.tries (ap (matches row.pattern word) (sym e) ∙ fails)

  pub goes_try : (node : ℕ) → matches row.pattern word here ≡ false → row.no ≡ L.Try node → IsTrying calls (record { node = node; numbers = reader.numbers; label = reader.label }) held word at
  goes_try node fails is =
      let test = and_parts (nat_lt reader.node node && is_asked node) (same_shapes (rest_of node) (without row.pattern (rest_of reader.node)))
      (ap (λ (n : _). else_to reader.node n (without row.pattern (rest_of reader.node))) (sym is) ∙ said.passes) in
      record {
        tries = subst (λ (rs : List Shape). Tries rs held word at) (sym (shapes_are (rest_of node) (without row.pattern (rest_of reader.node)) test.1)) (tries_else fails);
        least = t.least;
        keeps = t.keeps;
        small = t.small;
      }

  pub goes_before : (end : End) → matches row.pattern word here ≡ false → row.no ≡ L.Ended end → Leads calls held word at (Before (open_entry end))
  goes_before end fails is =
      let test = and_parts (not (is_alone end)) (same_shapes (shape end [] ∷ []) (without row.pattern (rest_of reader.node)))
      (ap (λ (n : _). else_to reader.node n (without row.pattern (rest_of reader.node))) (sym is) ∙ said.passes) in
      let tries : Tries (shape end [] ∷ []) held word at =
      subst (λ (rs : List Shape). Tries rs held word at) (sym (shapes_are (shape end [] ∷ []) (without row.pattern (rest_of reader.node)) test.1)) (tries_else fails) in
      let w : Whole end held at = whole_unit end held at (try_ended end held word at tries) t.small in
      let m = w.made.1 in
      let more : is_alone ((shape_of m.unit at).end) ≡ false = ap is_alone w.end_is ∙ not-true (is_alone end) test.0 in (
        record {
          unit = m.unit;
          fits = m.fits;
          entry_is = ap open_entry (sym w.end_is) ∙ open_told m.unit calls at more;
          words_are = sym m.words;
        },
        λ rest.
            elim (cases_Bool (may_precede m.unit at (word ∷ rest))) [
              | inl ahead ↦ ahead
              | inr none ↦
                  let g = goes_further m.unit at (at + 4 * length held) word rest m.fits none in
                  absurd (other_left end (shape (g.shaped.end) (g.by ∷ []))
                  (tries.sound g.shaped g.by [] g.among (subst (λ (ws : List ℕ). Opens g.shaped.words ws at (g.by ∷ [])) m.words g.opens) g.fits) refl)
            ],
      )

  pub goes_stuck : matches row.pattern word here ≡ false → row.no ≡ L.Stuck → Leads calls held word at (More (record { node = 0; numbers = reader.numbers; label = reader.label }))
  goes_stuck fails is =
      let none : [] ≡ without row.pattern (rest_of reader.node) =
      shapes_are [] (without row.pattern (rest_of reader.node)) (ap (λ (n : _). else_to reader.node n (without row.pattern (rest_of reader.node))) (sym is) ∙ said.passes) in
      let tries : Tries [] held word at = subst (λ (rs : List Shape). Tries rs held word at) (sym none) (tries_else fails) in
      let reads : Reads [] (held ++ word ∷ []) at = reads_none held word at tries in
      record {
        reads = reads;
        least = least_none held word at tries t.least;
        keeps = keeps_none calls reader.numbers reader.label (held ++ word ∷ []) at reads;
        begun = λ one. absurd (omega arith);
        small = small_push held word t.small low;
      }

-- the node of another pattern is a later one
pub record Later (node other : ℕ) : Type 0 where
  pub more : node < other
  pub low : 1 < other
  pub high : other < 129

pub later : (node : ℕ) (row : Row) (other : ℕ) → is_row_of node row ≡ true → row.no ≡ L.Try other → Later node other
later node row other table is =
    let s : Says node row = says node row table in
    let test = and_parts (nat_lt node other && is_asked other) (same_shapes (rest_of other) (without row.pattern (rest_of node)))
    (ap (λ (n : _). else_to node n (without row.pattern (rest_of node))) (sym is) ∙ s.passes) in
    let two = and_parts (nat_lt node other) (is_asked other) test.0 in
    let ends = and_parts (nat_lt 1 other) (nat_lt other 129) two.1 in
    record { more = ltb-true node other two.0; low = ltb-true 1 other ends.0; high = ltb-true other 129 ends.1 }

-- what a word is asked first
pub trying : (calls : List ℕ) (reader : Reader) (held : List ℕ) (word at : ℕ) → IsReading calls reader held at → IsTrying calls reader held word at
trying calls reader held word at r = record {
  tries = to_try (rest_of reader.node) held word at r.reads;
  least = r.least;
  keeps = r.keeps;
  small = r.small;
}

-- which unit has ended at a node
else_none : (p : Pattern) (rs : List Shape) → none_ended (without p rs) ≡ true → none_ended rs ≡ true
else_none p [] e = refl
else_none p (r ∷ rs) e = else_one p r.end r.words (without p rs) rs e (else_none p rs)
  where
    else_one : (p : Pattern) (end : End) (words : List Pattern) (rest rs : List Shape) → none_ended (go_else p end words rest) ≡ true →
        (none_ended rest ≡ true → none_ended rs ≡ true) → none_ended (shape end words ∷ rs) ≡ true
    else_one p end [] rest rs e f = absurd (cc)
    else_one p end (q ∷ left) rest rs e f =
        elim (cases_Bool (same p q)) [
          | inl one ↦ f (rw one at e)
          | inr two ↦ f (rw two at e)
        ]

ended_of : (p : Pattern) (rs : List Shape) (o : Option End) → Ended (without p rs) o → Ended rs o
ended_of p rs None e = else_none p rs e
ended_of p rs (Some end) e = (without_from p (shape end []) rs e.0, e.1)

pub ended_else : (node : ℕ) (row : Row) (other : ℕ) → is_row_of node row ≡ true → row.no ≡ L.Try other → (o : Option End) → Ended (rest_of other) o → Ended (rest_of node) o
ended_else node row other table is o e =
    let s : Says node row = says node row table in
    let test = and_parts (nat_lt node other && is_asked other) (same_shapes (rest_of other) (without row.pattern (rest_of node)))
    (ap (λ (n : _). else_to node n (without row.pattern (rest_of node))) (sym is) ∙ s.passes) in
    ended_of row.pattern (rest_of node) o
    (subst (λ (rs : List Shape). Ended rs o) (shapes_are (rest_of other) (without row.pattern (rest_of node)) test.1) e)

pub ended_one : (node : ℕ) (row : Row) (end : End) → is_row_of node row ≡ true → row.no ≡ L.Ended end → Ended (rest_of node) (Some end)
unfolding Among
ended_one node row end table is =
    let s : Says node row = says node row table in
    let test = and_parts (not (is_alone end)) (same_shapes (shape end [] ∷ []) (without row.pattern (rest_of node)))
    (ap (λ (n : _). else_to node n (without row.pattern (rest_of node))) (sym is) ∙ s.passes) in
    ended_of row.pattern (rest_of node) (Some end)
    (subst (λ (rs : List Shape). Ended rs (Some end)) (shapes_are (shape end [] ∷ []) (without row.pattern (rest_of node)) test.1) (inl refl, not-true (is_alone end) test.0))

pub ended_none : (node : ℕ) (row : Row) → is_row_of node row ≡ true → row.no ≡ L.Stuck → Ended (rest_of node) None
ended_none node row table is =
    let s : Says node row = says node row table in
    let none : [] ≡ without row.pattern (rest_of node) =
    shapes_are [] (without row.pattern (rest_of node)) (ap (λ (n : _). else_to node n (without row.pattern (rest_of node))) (sym is) ∙ s.passes) in
    ended_of row.pattern (rest_of node) None (subst (λ (rs : List Shape). Ended rs None) none refl)

-- with which no unit begins, none does with one word more
pub stuck_stays : (calls : List ℕ) (reader : Reader) (held : List ℕ) (word at : ℕ) → is_stuck reader ≡ true → word < 2 ^ 32 →
    IsReading calls reader held at → IsReading calls reader (held ++ word ∷ []) at
stuck_stays calls reader held word at stuck low r =
    let zero_node : reader.node ≡ 0 = eqb-true reader.node 0 stuck in
    let none : rest_of reader.node ≡ [] = ap rest_of zero_node in
    let tries : Tries [] held word at = subst (λ (rs : List Shape). Tries rs held word at) none (to_try (rest_of reader.node) held word at r.reads) in
    let reads : Reads [] (held ++ word ∷ []) at = reads_none held word at tries in
    record {
      reads = subst (λ (rs : List Shape). Reads rs (held ++ word ∷ []) at) (sym none) reads;
      least = least_none held word at tries r.least;
      keeps = keeps_none calls reader.numbers reader.label (held ++ word ∷ []) at reads;
      begun = λ one. absurd (omega arith);
      small = small_push held word r.small low;
    }
