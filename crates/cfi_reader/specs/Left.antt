-- How far the units that may begin with some words are read: what is left of each, as a list of shapes. A word more
-- is as a pattern says, or it is not.
use Rattle.std.specs.Prelude.{◌≡◌, ℕ, ◌+◌, ◌*◌, ◌==◌, ◌&&◌, ◌||◌, Bool, true, false, not, List, [], ◌∷◌, length, if◌then◌else◌}
use Rattle.cfi_unit.specs.declared.pattern.Pattern.{Pattern}
use Rattle.cfi_unit.specs.declared.pattern.Pattern.TheVariants as P
use Rattle.cfi_unit.specs.declared.pattern.End.{End}
use Rattle.cfi_unit.specs.declared.pattern.End.TheVariants as D
use Rattle.cfi_unit.specs.Patterns.{matches}
use Rattle.cfi_unit.specs.Shapes.{SHAPES, Shape, shape}
use Rattle.cfi_unit.specs.FoundShape.{continues}
use Rattle.cfi_unit.specs.Opens.{Among, Opens}

-- of the units of which all words so far are the first, these are left
pub record Reads (rests : List Shape) (held : List ℕ) (at : ℕ) : Type 0 where
  pub sound : (s : Shape) (left : List Pattern) → Among s SHAPES → Opens s.words held at left → Among (shape s.end left) rests
  pub made : (r : Shape) → Among r rests → (s : Shape) × (Among s SHAPES × (s.end ≡ r.end) × Opens s.words held at r.words)

-- the same of those alone that have ended, or may go on with a word
pub record Tries (rests : List Shape) (held : List ℕ) (word at : ℕ) : Type 0 where
  pub sound : (s : Shape) (q : Pattern) (left : List Pattern) → Among s SHAPES → Opens s.words held at (q ∷ left) →
      matches q word (at + 4 * length held) ≡ true → Among (shape s.end (q ∷ left)) rests
  pub ended : (s : Shape) → Among s SHAPES → Opens s.words held at [] → Among (shape s.end []) rests
  pub made : (r : Shape) → Among r rests → (s : Shape) × (Among s SHAPES × (s.end ≡ r.end) × Opens s.words held at r.words)

-- the same pattern
abbrev pub same : Pattern → Pattern → Bool
same (P.Is a) (P.Is b) = a == b
same (P.Halt a) (P.Halt b) = a == b
same P.Gate P.Gate = true
same P.Plain P.Plain = true
same P.Skip P.Skip = true
same P.Near P.Near = true
same P.Goto P.Goto = true
same P.Address P.Address = true
same P.Number P.Number = true
same P.Jump P.Jump = true
same P.Link P.Link = true
same P.Label P.Label = true
same P.Member P.Member = true
same P.Masked P.Masked = true
same one other = false

-- two patterns that no word has both
abbrev pub are_apart : Pattern → Pattern → Bool
are_apart (P.Is a) (P.Is b) = not (a == b)
are_apart one other = false

-- of those that go on, what is left where the next word is as a pattern says
abbrev pub go_on : Pattern → End → List Pattern → List Shape → List Shape
go_on p end [] rest = rest
go_on p end (q ∷ left) rest = if same p q then shape end left ∷ rest else rest

abbrev pub after : Pattern → List Shape → List Shape
after p [] = []
after p (r ∷ rs) = go_on p r.end r.words (after p rs)

-- those that may still go on where it is not
abbrev pub go_else : Pattern → End → List Pattern → List Shape → List Shape
go_else p end [] rest = shape end [] ∷ rest
go_else p end (q ∷ left) rest = if same p q then rest else shape end (q ∷ left) ∷ rest

abbrev pub without : Pattern → List Shape → List Shape
without p [] = []
without p (r ∷ rs) = go_else p r.end r.words (without p rs)

-- of those that go on each does so with this pattern, or with one that no word has beside it
abbrev pub is_told : Pattern → List Pattern → Bool
is_told p [] = true
is_told p (q ∷ left) = same p q || are_apart p q

abbrev pub tells : Pattern → List Shape → Bool
tells p [] = true
tells p (r ∷ rs) = is_told p r.words && tells p rs

-- each that has ended goes on so
abbrev pub lets_one : Pattern → End → List Pattern → Bool
lets_one p end [] = continues end p
lets_one p end (q ∷ left) = true

abbrev pub lets : Pattern → List Shape → Bool
lets p [] = true
lets p (r ∷ rs) = lets_one p r.end r.words && lets p rs

-- a unit of this kind is one whatever follows
abbrev pub is_alone : End → Bool
is_alone D.Over = false
is_alone (D.Stores mask) = false
is_alone _ = true

-- none of them has ended
abbrev pub goes_on : List Pattern → Bool
goes_on [] = false
goes_on (q ∷ left) = true

abbrev pub none_ended : List Shape → Bool
none_ended [] = true
none_ended (r ∷ rs) = goes_on r.words && none_ended rs
