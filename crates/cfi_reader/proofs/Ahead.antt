-- Units that go on where a word follows: a branch over the next word with a jump, and stores with a store.
use Rattle.std.proofs.Common.{◌≡◌, ℕ, zero, suc, ◌+◌, ◌<◌, ◌==◌, ◌||◌, Bool, true, false, not, inl, inr, List, [], ◌∷◌, ◌++◌, length, replicate, refl, ap, sym, subst, ◌∙◌, arith, lit<, length-append}
use Rattle.std.specs.Prelude.{is_none, nat_le}
use Rattle.std.specs.List.{AllByRecursion}
use Rattle.std.proofs.lemmas.Bool.{and_parts, leb-false, not-false}
use Rattle.rv_instr.specs.declared.instr.BranchOp.{BranchOp}
use Rattle.rv_code.specs.Decode.{decoded}
use Rattle.cfi_unit.specs.declared.mask.Mask.{Mask}
use Rattle.cfi_unit.specs.declared.mask.Mask.TheVariants.{Shifts, Short, Long}
use Rattle.cfi_unit.specs.declared.pattern.Pattern.{Pattern}
use Rattle.cfi_unit.specs.declared.pattern.Pattern.TheVariants as P
use Rattle.cfi_unit.specs.declared.pattern.End.{End}
use Rattle.cfi_unit.specs.declared.pattern.End.TheVariants as D
use Rattle.cfi_unit.specs.declared.unit.Unit as U
use Rattle.cfi_unit.specs.declared.unit.Unit.TheVariants as V
use Rattle.cfi_unit.specs.declared.members.Member.{Member}
use Rattle.cfi_unit.specs.Members.{FILLER, IsMember, MOST_MEMBERS, member_of}
use Rattle.cfi_unit.specs.UnitWords.{Fits, is_jump, may_precede, near_offset, skip_offset, skips_jump, words_of}
use Rattle.cfi_unit.specs.Patterns.{decodes_to, has_form, matches}
use Rattle.cfi_unit.specs.Shapes.{SHAPES, Shape, mask, shape, stores}
use Rattle.cfi_unit.specs.ShapeOf.{shape_of}
use Rattle.cfi_unit.specs.Opens.{Among, Opens}
use Rattle.cfi_unit.specs.FoundShape.{continues, goes_on}
use Rattle.cfi_unit.proofs.Apart.{goes}
use Rattle.cfi_unit.proofs.Forms.{is_jump_by, is_member_by}
use Rattle.cfi_unit.proofs.Further.{precedes_by}
use Rattle.cfi_reader.specs.Left.{is_alone}
use Rattle.cfi_reader.proofs.Steps.{opens_more}
use Rattle.cfi_unit.proofs.ShapedUnits.{shape_among, unit_opens}

-- a unit that is one whatever follows
alone_ends : (end : End) (rest : List ℕ) (here : ℕ) → is_alone end ≡ true → goes_on end rest here ≡ false
alone_ends D.Over rest here e = absurd (cc)
alone_ends (D.Stores mask) rest here e = absurd (cc)
alone_ends end rest here e = refl

pub alone_precedes : (u : U.Unit) (at : ℕ) (rest : List ℕ) → Fits u at → is_alone ((shape_of u at).end) ≡ true → may_precede u at rest ≡ true
alone_precedes u at rest f e = precedes_by u at rest at f ∙ ap not (alone_ends ((shape_of u at).end) rest at e)

-- a word with which a unit goes on may not follow it
pub goes_on_with : (u : U.Unit) (at here word : ℕ) (rest : List ℕ) (p : Pattern) → Fits u at → continues ((shape_of u at).end) p ≡ true →
    matches p word here ≡ true → may_precede u at (word ∷ rest) ≡ false
goes_on_with u at here word rest p f e fits =
    precedes_by u at (word ∷ rest) here f ∙ ap not (goes ((shape_of u at).end) p word rest here e fits)

-- a word that may not follow a unit goes on with a longer one
pub record Further (u : U.Unit) (at word here : ℕ) : Type 0 where
  pub shaped : Shape
  pub by : Pattern
  pub among : Among shaped SHAPES
  pub opens : Opens shaped.words (words_of u at) at (by ∷ [])
  pub fits : matches by word here ≡ true

branch_among : Among (shape D.Branch (P.Skip ∷ P.Jump ∷ [])) SHAPES
unfolding Among
branch_among = inr (inr (inr (inr (inr (inr (inr (inl refl)))))))

near_further : (op : BranchOp) (rs1 rs2 target at here word : ℕ) → Fits (V.Near op rs1 rs2 target) at →
    not (skips_jump (near_offset at target) (decoded word)) ≡ false → Further (V.Near op rs1 rs2 target) at word here
near_further op rs1 rs2 target at here word f e =
    let u : U.Unit = V.Near op rs1 rs2 target in
    let two = and_parts (near_offset at target == skip_offset) (is_jump (decoded word)) (not-false (skips_jump (near_offset at target) (decoded word)) e) in
    let opens : Opens (P.Skip ∷ []) (words_of u at) at [] = rw two.0 at (unit_opens u at f) in
    record {
      shaped = shape D.Branch (P.Skip ∷ P.Jump ∷ []);
      by = P.Jump;
      among = branch_among;
      opens = opens_more (P.Skip ∷ []) (words_of u at) at [] (P.Jump ∷ []) opens;
      fits = sym (is_jump_by here (decoded word)) ∙ two.1;
    }

-- one store more
push_member : (n : ℕ) → replicate n P.Member ++ P.Member ∷ [] ≡ replicate (suc n) P.Member
push_member zero = refl
push_member (suc n) = ap (λ (ps : List Pattern). P.Member ∷ ps) (push_member n)

one_more : (m : Mask) (n : ℕ) → stores m n ++ P.Member ∷ [] ≡ stores m (suc n)
one_more Shifts n = ap (λ (ps : List Pattern). mask Shifts ++ ps) (push_member n)
one_more Short n = ap (λ (ps : List Pattern). mask Short ++ ps) (push_member n)
one_more Long n = ap (λ (ps : List Pattern). mask Long ++ ps) (push_member n)

each_more : (members : List Member) → AllByRecursion IsMember members → AllByRecursion IsMember (members ++ FILLER ∷ [])
each_more [] each = ((lit< tt, lit< tt), tt)
each_more (m ∷ members) each = (each.0, each_more members each.1)

no_other : (a b : Bool) → (a || b) ≡ false → (a ≡ false) × (b ≡ false)
no_other true b e = absurd (cc)
no_other false b e = (refl, e)

stores_further : (mask : Mask) (rs1 imm : ℕ) (members : List Member) (at here word : ℕ) → Fits (V.Stores mask rs1 imm members) at →
    (nat_le MOST_MEMBERS (length members) || is_none (member_of (decoded word))) ≡ false → Further (V.Stores mask rs1 imm members) at word here
stores_further mask rs1 imm members at here word f e =
    let u : U.Unit = V.Stores mask rs1 imm members in
    let two = no_other (nat_le MOST_MEMBERS (length members)) (is_none (member_of (decoded word))) e in
    let below : length members < 16 = leb-false MOST_MEMBERS (length members) two.0 in
    let more : List Member = members ++ FILLER ∷ [] in
    let count : length more ≡ suc (length members) = (let n : length more ≡ length members + 1 = length-append members (FILLER ∷ []) in omega arith) in
    let longer : U.Unit = V.Stores mask rs1 imm more in
    let fits : Fits longer at = (f.0, f.1, record { some = omega (arith, count); most = omega (arith, count, below); each = each_more members f.2.each }, f.3) in
    let words : stores mask (length members) ++ P.Member ∷ [] ≡ (shape_of longer at).words = one_more mask (length members) ∙ ap (stores mask) (sym count) in
    record {
      shaped = shape_of longer at;
      by = P.Member;
      among = shape_among longer at fits;
      opens = subst (λ (ps : List Pattern). Opens ps (words_of u at) at (P.Member ∷ [])) words
          (opens_more (stores mask (length members)) (words_of u at) at [] (P.Member ∷ []) (unit_opens u at f));
      fits = not-false (decodes_to (has_form P.Member here) (decoded word)) (sym (is_member_by here (decoded word)) ∙ two.1);
    }

pub goes_further : (u : U.Unit) (at here word : ℕ) (rest : List ℕ) → Fits u at → may_precede u at (word ∷ rest) ≡ false → Further u at word here
goes_further (V.Near op rs1 rs2 target) at here word rest f e = near_further op rs1 rs2 target at here word f e
goes_further (V.Stores mask rs1 imm members) at here word rest f e = stores_further mask rs1 imm members at here word f e
goes_further u at here word rest f e = absurd (cc)
