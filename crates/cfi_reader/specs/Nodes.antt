-- The nodes of the reader: what is left at each of the units that may begin with the words that are read.
use Rattle.std.specs.Prelude.{ℕ, zero, suc, ◌-◌, ◌/◌, ◌%◌, ◌==◌, ◌&&◌, ◌||◌, Bool, true, false, not, nat_le, nat_lt, List, [], ◌∷◌, ◌++◌, map, drop, replicate, if◌then◌else◌}
use Rattle.rv_code.specs.Encode.{code_of}
use Rattle.cfi_unit.specs.declared.pattern.Pattern.{Pattern}
use Rattle.cfi_unit.specs.declared.pattern.Pattern.TheVariants as P
use Rattle.cfi_unit.specs.declared.pattern.End.{End}
use Rattle.cfi_unit.specs.declared.pattern.End.TheVariants as D
use Rattle.cfi_unit.specs.declared.mask.Mask.{Mask}
use Rattle.cfi_unit.specs.declared.mask.Mask.TheVariants.{Shifts, Short, Long}
use Rattle.cfi_unit.specs.declared.target_word.TargetWord.{TargetWord}
use Rattle.cfi_unit.specs.declared.target_word.TargetWord.TheVariants.{First, Second, Third}
use Rattle.cfi_unit.specs.Patterns.{matches}
use Rattle.cfi_unit.specs.UnitWords.{BAD_RETURN, BAD_TARGET, DEEP, jump}
use Rattle.cfi_unit.specs.Shapes.{SHAPES, Shape, all_stores, call, each_guarded, enter, guarded, icall, ijump, lean_icall, lean_ijump, return, shape}
use Rattle.cfi_reader.specs.Kept.{is_longer}
use Rattle.cfi_reader.specs.Left.{after, is_alone, lets, same, tells, without}
use Rattle.cfi_reader.specs.declared.node.Next.{Next}
use Rattle.cfi_reader.specs.declared.node.Next.TheVariants as N
use Rattle.cfi_reader.specs.declared.node.Else.{Else}
use Rattle.cfi_reader.specs.declared.node.Else.TheVariants as L

-- a row of the table: what a word is asked for, where it leads if it is so, and where if it is not
pub record Row : Type 0 where
  pub pattern : Pattern
  pub yes : Next
  pub no : Else

-- the row that three parts are
abbrev pub row_in : Pattern × Next × Else → Row
row_in row = record { pattern = row.0; yes = row.1; no = row.2 }

-- that of none
abbrev pub no_row : Pattern × Next × Else
no_row = (P.Is 0, N.More 0, L.Stuck)

-- behind so many words
abbrev pub behind : ℕ → Shape → Shape
behind k s = shape s.end (drop k s.words)

abbrev pub computed : List Shape
computed =
    shape (D.Ijump First) (ijump First)
    ∷ shape (D.Ijump Second) (ijump Second)
    ∷ shape (D.Ijump Third) (ijump Third)
    ∷ shape D.Icall icall
    ∷ shape D.LeanIjump lean_ijump
    ∷ shape D.LeanIcall lean_icall
    ∷ []

abbrev pub first_computed : List Shape
first_computed = shape (D.Ijump First) (ijump First) ∷ shape D.Icall icall ∷ shape D.LeanIjump lean_ijump ∷ []

-- those whose check reads the third word
abbrev pub third_computed : List Shape
third_computed = shape (D.Ijump Third) (ijump Third) ∷ shape D.LeanIcall lean_icall ∷ []

-- those whose check reads another word than the first
abbrev pub other_computed : List Shape
other_computed = shape (D.Ijump Second) (ijump Second) ∷ third_computed

-- those that begin by comparing the room of the shadow stack
abbrev pub pushing : List Shape
pushing = shape D.Call call ∷ shape D.Enter enter ∷ []

-- at most so many stores more, each number of them
abbrev pub fewer_stores : Mask → ℕ → List Shape
fewer_stores m zero = []
fewer_stores m (suc n) = shape (D.Stores m) (replicate n P.Member) ∷ fewer_stores m n

abbrev pub more_stores : Mask → ℕ → List Shape
more_stores m n = shape (D.Full m) (replicate n P.Member) ∷ fewer_stores m n

abbrev pub with_numbers : ℕ → List Shape
with_numbers n =
    map (behind 1) computed ++ (map (behind 1) (each_guarded n) ++ (map (behind 1) (all_stores Shifts) ++ map (behind 1) (all_stores Long)))

-- what is left at a node
abbrev pub rest_of : ℕ → List Shape
rest_of node =
    if nat_lt node 2 then (if node == 1 then SHAPES else [])
    else if nat_lt node 3 then shape D.Branch (P.Jump ∷ []) ∷ shape D.Over [] ∷ []
    else if nat_lt node 11 then with_numbers (11 - node)
    else if nat_lt node 12 then with_numbers 0
    else if nat_lt node 13 then map (behind 1) computed ++ map (behind 1) (all_stores Long)
    else if nat_lt node 29 then shape D.Guarded (drop ((node - 13) % 2) (guarded (7 - (node - 13) / 2))) ∷ []
    else if nat_lt node 31 then map (behind (node - 27)) (all_stores Shifts)
    else if nat_lt node 46 then more_stores Shifts (46 - node)
    else if nat_lt node 49 then map (behind (node - 45)) pushing
    else if nat_lt node 53 then shape D.Call (drop (node - 45) call) ∷ []
    else if nat_lt node 59 then map (behind (node - 51)) computed
    else if nat_lt node 60 then map (behind 7) other_computed
    else if nat_lt node 65 then map (behind (node - 52)) first_computed
    else if nat_lt node 66 then shape D.Icall (drop 12 icall) ∷ shape D.LeanIjump (drop 12 lean_ijump) ∷ []
    else if nat_lt node 71 then shape (D.Ijump Second) (drop (node - 58) (ijump Second)) ∷ []
    else if nat_lt node 78 then shape D.Icall (drop (node - 58) icall) ∷ []
    else if nat_lt node 82 then shape D.Return (drop (node - 77) return) ∷ []
    else if nat_lt node 84 then map (behind (node - 81)) (all_stores Long)
    else if nat_lt node 99 then more_stores Long (99 - node)
    else if nat_lt node 100 then map (behind 1) (all_stores Short)
    else if nat_lt node 115 then more_stores Short (115 - node)
    else if nat_lt node 117 then shape D.Enter (drop (node - 112) enter) ∷ []
    else if nat_lt node 120 then shape D.LeanIjump (drop (node - 105) lean_ijump) ∷ []
    else if nat_lt node 126 then map (behind (node - 113)) third_computed
    else if nat_lt node 128 then shape D.LeanIcall (drop (node - 113) lean_icall) ∷ []
    else if nat_lt node 129 then shape (D.Ijump Third) (drop 12 (ijump Third)) ∷ []
    else []

-- the same shapes
abbrev pub same_word : TargetWord → TargetWord → Bool
same_word First First = true
same_word Second Second = true
same_word Third Third = true
same_word one other = false

abbrev pub same_mask : Mask → Mask → Bool
same_mask Shifts Shifts = true
same_mask Short Short = true
same_mask Long Long = true
same_mask one other = false

abbrev pub same_end : End → End → Bool
same_end D.Near D.Near = true
same_end D.Over D.Over = true
same_end (D.Stores one) (D.Stores other) = same_mask one other
same_end D.Branch D.Branch = true
same_end D.Jump D.Jump = true
same_end D.Stop D.Stop = true
same_end D.Call D.Call = true
same_end (D.Ijump one) (D.Ijump other) = same_word one other
same_end D.Icall D.Icall = true
same_end D.Gate D.Gate = true
same_end D.Ecall D.Ecall = true
same_end D.Guarded D.Guarded = true
same_end D.Plain D.Plain = true
same_end D.Ebreak D.Ebreak = true
same_end (D.Full one) (D.Full other) = same_mask one other
same_end D.Return D.Return = true
same_end D.LinkCall D.LinkCall = true
same_end D.Enter D.Enter = true
same_end D.LeanIjump D.LeanIjump = true
same_end D.LeanIcall D.LeanIcall = true
same_end D.LeafReturn D.LeafReturn = true
same_end _ _ = false

abbrev pub same_words : List Pattern → List Pattern → Bool
same_words [] [] = true
same_words (p ∷ ps) (q ∷ qs) = same p q && same_words ps qs
same_words one other = false

abbrev pub same_shapes : List Shape → List Shape → Bool
same_shapes [] [] = true
same_shapes (r ∷ rs) (s ∷ ss) = same_end r.end s.end && (same_words r.words s.words && same_shapes rs ss)
same_shapes one other = false

-- where a word leads that is as a node's pattern says
abbrev pub goes_to : Next → List Shape → Bool
goes_to (N.More node) rests = not (node == 1) && same_shapes (rest_of node) rests
goes_to (N.Done end) rests = is_longer end && same_shapes (shape end [] ∷ []) rests

-- a node that has a pattern
abbrev pub is_asked : ℕ → Bool
is_asked node = nat_lt 1 node && nat_lt node 129

-- and one that is not: another pattern is that of a later node
abbrev pub else_to : ℕ → Else → List Shape → Bool
else_to node (L.Try other) rests = (nat_lt node other && is_asked other) && same_shapes (rest_of other) rests
else_to node (L.Ended end) rests = not (is_alone end) && same_shapes (shape end [] ∷ []) rests
else_to node L.Stuck rests = same_shapes [] rests

abbrev pub is_handler : ℕ → Bool
is_handler to = (to == BAD_TARGET) || ((to == BAD_RETURN) || (to == DEEP))

-- a pattern that stands behind the first of a unit
abbrev pub is_later : Pattern → Bool
is_later (P.Is code) = true
is_later (P.Halt to) = is_handler to
is_later P.Number = true
is_later P.Jump = true
is_later P.Link = true
is_later P.Label = true
is_later P.Member = true
is_later other = false

-- a row says what is left of these
abbrev pub says_of : ℕ → List Shape → Row → Bool
says_of node rests row =
    (is_later row.pattern && (tells row.pattern rests && lets row.pattern rests))
    && (goes_to row.yes (after row.pattern rests) && else_to node row.no (without row.pattern rests))

-- a row says what its node's shapes do
abbrev pub is_row_of : ℕ → Row → Bool
is_row_of node row = says_of node (rest_of node) row

-- a word is as a code says: one below 2 ^ 32 is the word, 2 ^ 32 says nothing, 2 ^ 33 a store behind a mask, and 2 ^ 32 with the
-- address of a handler more a jump to it
abbrev pub is_coded : ℕ → ℕ → ℕ → Bool
is_coded code word here =
    if code == word then true
    else if nat_le code 0x100000000 then false
    else if code == 0x200000000 then matches P.Member word here
    else word == code_of (jump here (code - 0x100000000))
