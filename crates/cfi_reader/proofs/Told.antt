-- A word that is as a node's code tells is as the node's row asks.
use Rattle.std.proofs.Common.{◌≡◌, ◌≢◌, ◌-◌, ◌^◌, ◌<◌, ◌==◌, ◌&&◌, ◌||◌, ℕ, Bool, true, false, inl, inr, List, refl, sym, ap, ◌∙◌, arith}
use Rattle.std.specs.Prelude.{get_or, if◌then◌else◌, nat_le}
use Rattle.std.proofs.lemmas.Bool.{agree_below, agree_below_at, and_parts, eq-eqb, eqb-true, le-leb, ne_eqb, or_cases}
use Rattle.rv_code.specs.Encode.{code_of}
use Rattle.cfi_unit.specs.declared.pattern.Pattern.{Pattern}
use Rattle.cfi_unit.specs.declared.pattern.Pattern.TheVariants as P
use Rattle.cfi_unit.specs.Opens.{InCode}
use Rattle.cfi_unit.specs.Patterns.{matches}
use Rattle.cfi_unit.specs.UnitWords.{jump}
use Rattle.cfi_reader.specs.Kept.{count_by, label_after}
use Rattle.cfi_reader.specs.Left.{same}
use Rattle.cfi_reader.specs.Nodes.{is_later, is_row_of, is_coded}
use Rattle.cfi_reader.specs.declared.node.Next.{Next}
use Rattle.cfi_reader.specs.declared.node.Next.TheVariants as N
use Rattle.cfi_reader.specs.declared.node.TheConstants as table
use Rattle.cfi_reader.proofs.Halts.{halt_by}
use Rattle.cfi_reader.proofs.Rows.{row_is, row_of}
use Rattle.cfi_reader.proofs.Steps.{same_is}
use Rattle.cfi_reader.proofs.Table.{Says, says}

-- what a code tells, by whether it is one, and whether it stands for a store
abbrev pub pattern_by : Bool → Bool → ℕ → Pattern
pattern_by true store code = P.Is code
pattern_by false true code = P.Member
pattern_by false false code = P.Halt (code - 0x100000000)

abbrev pub pattern_of : ℕ → Pattern
pattern_of code = pattern_by (nat_le code 0x100000000) (code == 0x200000000) code

-- the code of a node, and where it leads
abbrev pub code_at : ℕ → ℕ
code_at node = get_or table.CODES node 0

abbrev pub lead_at : ℕ → ℕ
lead_at node = get_or table.LEADS node 0

abbrev goes : Next → ℕ → Bool
goes (N.More node) other = node == other
goes (N.Done end) other = false

goes_is : (next : Next) (node : ℕ) → goes next node ≡ true → next ≡ N.More node
goes_is (N.More other) node e = ap N.More (eqb-true other node e)
goes_is (N.Done end) node e = absurd (cc)

-- a node's code says what its row does
abbrev is_right : ℕ → Bool
is_right node = (code_at node == 0x100000000) || (same (row_of node).pattern (pattern_of (code_at node)) && goes (row_of node).yes (lead_at node))

all_right : agree_below is_right (λ n. true) 129 ≡ true
all_right = refl

-- nothing is kept of such a word
counts_by : (low store : Bool) (code : ℕ) (calls : List ℕ) (word n : ℕ) → count_by calls (pattern_by low store code) word n ≡ n
counts_by true store code calls word n = refl
counts_by false true code calls word n = refl
counts_by false false code calls word n = refl

labels_by : (low store : Bool) (code word n : ℕ) → label_after (pattern_by low store code) word n ≡ n
labels_by true store code word n = refl
labels_by false true code word n = refl
labels_by false false code word n = refl

abbrev told_by : Bool → Bool → Bool → ℕ → ℕ → ℕ → Bool
told_by one low store code word here =
    if one then true
    else if low then false
    else if store then matches P.Member word here
    else word == code_of (jump here (code - 0x100000000))

matches_by : (one low store : Bool) (code word here : ℕ) → (one ≡ true → (low ≡ true) × (code ≡ word)) → InCode here 1 →
    is_later (pattern_by low store code) ≡ true → told_by one low store code word here ≡ true → matches (pattern_by low store code) word here ≡ true
matches_by true true store code word here f place later e = eq-eqb word code (sym (f refl).1)
matches_by true false store code word here f place later e = let g : false ≡ true = (f refl).0 in absurd (cc)
matches_by false true store code word here f place later e = absurd (cc)
matches_by false false true code word here f place later e = e
matches_by false false false code word here f place later e = sym (halt_by (code - 0x100000000) word here place later) ∙ e

one_is : (code word : ℕ) → word < 2 ^ 32 → (code == word) ≡ true → (nat_le code 0x100000000 ≡ true) × (code ≡ word)
one_is code word low e =
    let is : code ≡ word = eqb-true code word e in
    (le-leb code 0x100000000 (omega arith), is)

-- what stands where a code tells nothing is no word
none_by : (one low store : Bool) (code word here : ℕ) → one ≡ false → low ≡ true → told_by one low store code word here ≡ true → ⊥
none_by false true store code word here a b e = absurd (cc)
none_by one low store code word here a b e = absurd (cc)

none_told : (code word here : ℕ) → word < 2 ^ 32 → code ≡ 0x100000000 → is_coded code word here ≡ true → ⊥
none_told code word here small none e =
    none_by (code == word) (nat_le code 0x100000000) (code == 0x200000000) code word here (ne_eqb code word (λ is. omega arith)) (le-leb code 0x100000000 (omega arith)) e

-- what a row asks of a word that is as the node's code tells
pub record Told (node word here : ℕ) (calls : List ℕ) (numbers label : ℕ) : Type 0 where
  pub table : is_row_of node (row_of node) ≡ true
  pub fits : matches (row_of node).pattern word here ≡ true
  pub leads : (row_of node).yes ≡ N.More (lead_at node)
  pub counts : numbers ≡ count_by calls (row_of node).pattern word numbers
  pub labels : label ≡ label_after (row_of node).pattern word label

pub told : (node word here : ℕ) (calls : List ℕ) (numbers label : ℕ) → node < 129 → word < 2 ^ 32 → InCode here 1 → is_coded (code_at node) word here ≡ true →
    Told node word here calls numbers label
told node word here calls numbers label below small place e =
    let code : ℕ = code_at node in
    let low : Bool = nat_le code 0x100000000 in
    let store : Bool = code == 0x200000000 in
    elim (or_cases (code == 0x100000000) _ (agree_below_at is_right (λ n. true) 129 node all_right below)) [
      | inl none ↦ absurd (none_told code word here small (eqb-true code 0x100000000 none) e)
      | inr right ↦
          let parts = and_parts (same (row_of node).pattern (pattern_of code)) (goes (row_of node).yes (lead_at node)) right in
          let is : (row_of node).pattern ≡ pattern_of code = same_is (row_of node).pattern (pattern_of code) parts.0 in
          let other : node ≢ 1 = λ one. none_told code word here small (ap code_at one) e in
          let table : is_row_of node (row_of node) ≡ true = row_is node other in
          let row : Says node (row_of node) = says node (row_of node) table in
          let later : is_later (pattern_of code) ≡ true = sym (ap is_later is) ∙ row.later in
          record {
            table = table;
            fits = ap (λ (p : Pattern). matches p word here) is ∙ matches_by (code == word) low store code word here (one_is code word small) place later e;
            leads = goes_is (row_of node).yes (lead_at node) parts.1;
            counts = sym (ap (λ (p : Pattern). count_by calls p word numbers) is ∙ counts_by low store code calls word numbers);
            labels = sym (ap (λ (p : Pattern). label_after p word label) is ∙ labels_by low store code word label);
          }
    ]
