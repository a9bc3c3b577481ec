-- A line's words spell the line that they are read as.
use Rattle.std.proofs.Common.{◌≡◌, ℕ, ◌&&◌, true, List, [], ◌∷◌, codes, map, Option, Some, None, refl, sym, ◌∙◌, ap}
use Rattle.std.specs.List.{join_with_byte}
use Rattle.std.specs.Str.{bytes_eq}
use Rattle.std.proofs.lemmas.Slice.Eq.{bytes_eq-Decides}
use Rattle.std.proofs.lemmas.Bool.{and_parts}
use Rattle.std.proofs.lemmas.Option.{same_Some}
use Rattle.std.proofs.lemmas.List.Splits.{join_with_byte-slice_split}
use Rattle.rv_image.specs.declared.version.GraphVersion.{GraphVersion}
use Rattle.cfi_graph.specs.declared.line.GraphLine.{GraphLine}
use Rattle.cfi_graph.specs.declared.line.GraphLine.TheVariants.{Leaf, Class, Site, Edge, Call}
use Rattle.cfi_graph.specs.declared.line.SiteKind.{SiteKind}
use Rattle.cfi_graph.specs.declared.line.Sort.{Sort}
use Rattle.cfi_graph.specs.declared.line.Sort.TheVariants.{Both, Calls, Jumps}
use Rattle.text_lines.specs.Hex.{hex, hex_text}
use Rattle.text_lines.specs.Lines.{spaced, words_of}
use Rattle.text_lines.proofs.Numbers.{hex_spelled}
use Rattle.rv_word.proofs.Cases.{guarded}
use Rattle.text_lines.proofs.Options.{and_then, chosen, mapped}
use Rattle.cfi_graph.specs.Graph.{fits_version, has_leaves, is_sort_of}
use Rattle.cfi_graph.specs.Text.{class_name, kind_name, words_of_class, words_of_line}
use Rattle.cfi_graph.specs.Lines.{addresses_of, class_of, class_or_other, kind_of, length_of, line_of, other_of, pair_of, site_of, sort_named, sort_with}

same_bytes : (xs ys : List ℕ) → bytes_eq xs ys ≡ true → xs ≡ ys
same_bytes xs ys e = (bytes_eq-Decides xs ys).0 e

addresses_spelled : (words : List (List ℕ)) (addresses : List ℕ) → addresses_of words ≡ Some addresses → words ≡ map (hex_text 8) addresses
unfolding addresses_of
addresses_spelled [] addresses e = ap (map (hex_text 8)) (same_Some _ _ e)
addresses_spelled (word ∷ rest) addresses e =
    and_then _ (hex 8 word) addresses e (λ a first others.
    mapped (λ ys. a ∷ ys) (addresses_of rest) addresses others (λ ys is whole.
    rw whole (ap (λ w. w ∷ rest) (hex_spelled 8 word a first) ∙ ap (λ ws. hex_text 8 a ∷ ws) (addresses_spelled rest ys is))))

class_words : (sort : Sort) (label : ℕ) (targets : List ℕ) → words_of_line (Class sort label targets) ≡ words_of_class sort label targets
class_words Both label targets = refl
class_words Calls label targets = refl
class_words Jumps label targets = refl

class_spelled : (sort : Sort) (words : List (List ℕ)) (l : GraphLine) → class_of sort words ≡ Some l → class_name sort ∷ words ≡ words_of_line l
class_spelled sort [] l e = absurd cc
class_spelled sort (label ∷ rest) l e =
    and_then _ (hex 5 label) l e (λ k first others.
    mapped (λ targets. Class sort k targets) (addresses_of rest) l others (λ targets is whole.
    rw whole (ap (λ w. class_name sort ∷ w ∷ rest) (hex_spelled 5 label k first) ∙ ap (λ ws. class_name sort ∷ hex_text 5 k ∷ ws) (addresses_spelled rest targets is) ∙ sym (class_words sort k targets))))

-- a name of a class's line names its sort
sort_spelled : (name : List ℕ) (sort : Sort) → sort_with name ≡ Some sort → name ≡ class_name sort
sort_spelled name sort e =
    chosen (bytes_eq name (codes "class")) _ _ _ e (λ t s. same_bytes name _ t ∙ ap class_name (same_Some _ _ s)) (λ f1 e1.
    chosen (bytes_eq name (codes "callclass")) _ _ _ e1 (λ t s. same_bytes name _ t ∙ ap class_name (same_Some _ _ s)) (λ f2 e2.
    let g = guarded (bytes_eq name (codes "jumpclass")) _ _ e2 in same_bytes name _ g.0 ∙ ap class_name (same_Some _ _ g.1)))

sort_read : (version : GraphVersion) (name : List ℕ) (sort : Sort) → sort_named version name ≡ Some sort → (name ≡ class_name sort) × (is_sort_of version sort ≡ true)
sort_read version name sort e =
    and_then _ (sort_with name) sort e (λ found is others.
    let g = guarded (is_sort_of version found) _ _ others in
    let same = same_Some _ _ g.1 in
    (sort_spelled name sort (is ∙ ap Some same), ap (is_sort_of version) (sym same) ∙ g.0))

pub kind_spelled : (name : List ℕ) (k : SiteKind) → kind_of name ≡ Some k → name ≡ kind_name k
kind_spelled name k e =
    chosen (bytes_eq name (codes "call")) _ _ _ e
    (λ t s. same_bytes name _ t ∙ ap kind_name (same_Some _ _ s))
    (λ f s. let g = guarded (bytes_eq name (codes "jump")) _ _ s in same_bytes name _ g.0 ∙ ap kind_name (same_Some _ _ g.1))

site_spelled : (words : List (List ℕ)) (l : GraphLine) → site_of words ≡ Some l → codes "site" ∷ words ≡ words_of_line l
site_spelled [] l e = absurd cc
site_spelled (address ∷ []) l e = absurd cc
site_spelled (address ∷ name ∷ []) l e = absurd cc
site_spelled (address ∷ name ∷ label ∷ more ∷ rest) l e = absurd cc
site_spelled (address ∷ name ∷ label ∷ []) l e =
    and_then _ (hex 8 address) l e (λ a first others.
    and_then _ (kind_of name) l others (λ k second last.
    mapped (λ n. Site a k n) (hex 5 label) l last (λ n is whole.
    let p = hex_spelled 8 address a first in let q = kind_spelled name k second in let r = hex_spelled 5 label n is in
    rw (whole, p, q, r) refl)))

pair_spelled : (words : List (List ℕ)) (p : ℕ × ℕ) → pair_of words ≡ Some p → words ≡ hex_text 8 p.0 ∷ hex_text 8 p.1 ∷ []
pair_spelled [] p e = absurd cc
pair_spelled (from ∷ []) p e = absurd cc
pair_spelled (from ∷ to ∷ more ∷ rest) p e = absurd cc
pair_spelled (from ∷ to ∷ []) p e =
    and_then _ (hex 8 from) p e (λ a first others.
    mapped (λ b. (a, b)) (hex 8 to) p others (λ b is whole.
    let q = hex_spelled 8 from a first in let r = hex_spelled 8 to b is in
    rw (whole, q, r) refl))

other_spelled : (version : GraphVersion) (name : List ℕ) (words : List (List ℕ)) (l : GraphLine) → other_of version name words ≡ Some l → name ∷ words ≡ words_of_line l
other_spelled version name words l e =
    chosen (bytes_eq name (codes "site")) _ _ _ e (λ t s. ap (λ n. n ∷ words) (same_bytes name _ t) ∙ site_spelled words l s) (λ f1 e1.
    chosen (bytes_eq name (codes "edge")) _ _ _ e1 (λ t s. mapped (λ (p : ℕ × ℕ). Edge p.0 p.1) (pair_of words) l s (λ p is whole. rw whole (ap (λ n. n ∷ words) (same_bytes name _ t) ∙ ap (λ ws. codes "edge" ∷ ws) (pair_spelled words p is)))) (λ f2 e2.
    chosen (bytes_eq name (codes "call")) _ _ _ e2 (λ t s. mapped (λ (p : ℕ × ℕ). Call p.0 p.1) (pair_of words) l s (λ p is whole. rw whole (ap (λ n. n ∷ words) (same_bytes name _ t) ∙ ap (λ ws. codes "call" ∷ ws) (pair_spelled words p is)))) (λ f3 e3.
    let g = guarded (bytes_eq name (codes "leaf") && has_leaves version) _ _ e3 in
    let named = (and_parts (bytes_eq name (codes "leaf")) (has_leaves version) g.0).0 in
    mapped (λ (p : ℕ × ℕ). Leaf p.0 p.1) (pair_of words) l g.1 (λ p is whole. rw whole (ap (λ n. n ∷ words) (same_bytes name _ named) ∙ ap (λ ws. codes "leaf" ∷ ws) (pair_spelled words p is))))))

module _ (version : GraphVersion) where
  named_spelled : (sort : Option Sort) (name : List ℕ) (words : List (List ℕ)) (l : GraphLine) → sort_named version name ≡ sort → class_or_other version sort name words ≡ Some l → name ∷ words ≡ words_of_line l
  named_spelled None name words l named e = other_spelled version name words l e
  named_spelled (Some sort) name words l named e =
      ap (λ n. n ∷ words) (sort_read version name sort named).0 ∙ class_spelled sort words l e

  pub words_spelled : (words : List (List ℕ)) (l : GraphLine) → line_of version words ≡ Some l → words ≡ words_of_line l
  unfolding line_of
  words_spelled [] l e = absurd cc
  words_spelled (name ∷ words) l e = named_spelled (sort_named version name) name words l refl e

  pub line_spelled : (line : List ℕ) (l : GraphLine) → line_of version (words_of line) ≡ Some l → line ≡ spaced (words_of_line l)
  line_spelled line l e =
      sym (join_with_byte-slice_split 32 line) ∙ ap (join_with_byte 32) (words_spelled (words_of line) l e)

-- the last line of a text spells none
pub no_end : (version : GraphVersion) → line_of version (words_of (codes "end")) ≡ None
unfolding line_of
no_end version = refl

-- ---- a line that is read fits its version

class_fits : (version : GraphVersion) (sort : Sort) (label : ℕ) (targets : List ℕ) → is_sort_of version sort ≡ true → fits_version version (Class sort label targets) ≡ true
class_fits version Both label targets e = e
class_fits version Calls label targets e = e
class_fits version Jumps label targets e = e

class_read : (version : GraphVersion) (sort : Sort) (words : List (List ℕ)) (l : GraphLine) → is_sort_of version sort ≡ true → class_of sort words ≡ Some l → fits_version version l ≡ true
class_read version sort [] l fits e = absurd cc
class_read version sort (label ∷ rest) l fits e =
    and_then _ (hex 5 label) l e (λ k first others.
    mapped (λ targets. Class sort k targets) (addresses_of rest) l others (λ targets is whole.
    rw whole (class_fits version sort k targets fits)))

site_read : (version : GraphVersion) (words : List (List ℕ)) (l : GraphLine) → site_of words ≡ Some l → fits_version version l ≡ true
site_read version [] l e = absurd cc
site_read version (address ∷ []) l e = absurd cc
site_read version (address ∷ name ∷ []) l e = absurd cc
site_read version (address ∷ name ∷ label ∷ more ∷ rest) l e = absurd cc
site_read version (address ∷ name ∷ label ∷ []) l e =
    and_then _ (hex 8 address) l e (λ a first others.
    and_then _ (kind_of name) l others (λ k second last.
    mapped (λ n. Site a k n) (hex 5 label) l last (λ n is whole. ap (fits_version version) whole)))

other_read : (version : GraphVersion) (name : List ℕ) (words : List (List ℕ)) (l : GraphLine) → other_of version name words ≡ Some l → fits_version version l ≡ true
other_read version name words l e =
    chosen (bytes_eq name (codes "site")) _ _ _ e (λ t s. site_read version words l s) (λ f1 e1.
    chosen (bytes_eq name (codes "edge")) _ _ _ e1 (λ t s. mapped (λ (p : ℕ × ℕ). Edge p.0 p.1) (pair_of words) l s (λ p is whole. ap (fits_version version) whole)) (λ f2 e2.
    chosen (bytes_eq name (codes "call")) _ _ _ e2 (λ t s. mapped (λ (p : ℕ × ℕ). Call p.0 p.1) (pair_of words) l s (λ p is whole. ap (fits_version version) whole)) (λ f3 e3.
    let g = guarded (bytes_eq name (codes "leaf") && has_leaves version) _ _ e3 in
    let has = (and_parts (bytes_eq name (codes "leaf")) (has_leaves version) g.0).1 in
    mapped (λ (p : ℕ × ℕ). Leaf p.0 p.1) (pair_of words) l g.1 (λ p is whole. ap (fits_version version) whole ∙ has))))

module _ (version : GraphVersion) where
  named_read : (sort : Option Sort) (name : List ℕ) (words : List (List ℕ)) (l : GraphLine) → sort_named version name ≡ sort → class_or_other version sort name words ≡ Some l → fits_version version l ≡ true
  named_read None name words l named e = other_read version name words l e
  named_read (Some sort) name words l named e =
      class_read version sort words l (sort_read version name sort named).1 e

  pub line_fits : (words : List (List ℕ)) (l : GraphLine) → line_of version words ≡ Some l → fits_version version l ≡ true
  unfolding line_of
  line_fits [] l e = absurd cc
  line_fits (name ∷ words) l e = named_read (sort_named version name) name words l refl e

-- ---- the second line

length_words : (words : List (List ℕ)) (len : ℕ) → length_of words ≡ Some len → words ≡ codes "code" ∷ codes "40000000" ∷ hex_text 8 len ∷ []
length_words [] len e = absurd cc
length_words (name ∷ []) len e = absurd cc
length_words (name ∷ start ∷ []) len e = absurd cc
length_words (name ∷ start ∷ size ∷ more ∷ rest) len e = absurd cc
length_words (name ∷ start ∷ size ∷ []) len e =
    let g = guarded (bytes_eq name (codes "code") && bytes_eq start (codes "40000000")) (hex 8 size) len e in
    let p = and_parts (bytes_eq name (codes "code")) (bytes_eq start (codes "40000000")) g.0 in
    ap (λ n. n ∷ start ∷ size ∷ []) (same_bytes name _ p.0) ∙ ap (λ s. codes "code" ∷ s ∷ size ∷ []) (same_bytes start _ p.1) ∙ ap (λ s. codes "code" ∷ codes "40000000" ∷ s ∷ []) (hex_spelled 8 size len g.1)

pub length_spelled : (line : List ℕ) (len : ℕ) → length_of (words_of line) ≡ Some len → line ≡ spaced (codes "code" ∷ codes "40000000" ∷ hex_text 8 len ∷ [])
length_spelled line len e =
    sym (join_with_byte-slice_split 32 line) ∙ ap (join_with_byte 32) (length_words (words_of line) len e)
