-- What a section of an object that holds some parts is: its sort, its bytes, and its relocations with what their symbols stand for.
use Rattle.std.proofs.Common.{◌≡◌, ℕ, ◌<◌, true, false, None, List, [], length, map, refl, ap, ◌∙◌, arith}
use Rattle.std.specs.List.{list_all}
use Rattle.std.proofs.lemmas.Bool.{lt-ltb}
use Rattle.gen_hardened.proofs.Prelude.{Reloc, e_shnum, content, section_bytes, section_header, is_kept, symbol_count, relocation_bytes, relocation_count, relocation_in, RelocationsPart, no_reloc, AreRelocations, Dropped, Relocation, SectionParts, listed, is_table_high, kind_of, said_of, sort_of, use_said, use_said_at, uses_said}
use Rattle.elf_object.specs.Fault.{fault_of}
use Rattle.elf_object.proofs.Right.{relocations_named}
use Rattle.obj_join.specs.SaidInput as joined
use Rattle.obj_link.proofs.Named.{map_listed}
use Rattle.obj_items.proofs.Behind.{numbers}
use Rattle.gen_hardened.proofs.Listings.{listed_map}
use Rattle.gen_hardened.proofs.Untabled.{is_plain, plain_in}

pub content_there : (file : List ℕ) (k : ℕ) → k < e_shnum file → section_bytes file k ≡ content file (section_header file k)
unfolding section_bytes
content_there file k below = rw (lt-ltb _ _ below) refl

-- those of a part are no uses of the table of addresses
pub plain_at : (file : List ℕ) (k : ℕ) (r : RelocationsPart) → AreRelocations file k r → list_all is_plain r.entries ≡ true → (j : ℕ) → j < length r.entries
    → is_table_high (kind_of (relocation_in (relocation_bytes file k) j).kind) ≡ false
plain_at file k r are plain j inside = ap (λ (x : Reloc). is_table_high (kind_of x.kind)) (are.each j inside) ∙ plain_in r.entries plain j no_reloc inside

-- a relocation with what its symbol stands for
abbrev pub read_use : List ℕ → Reloc → Relocation
read_use file r = joined.use_of (numbers file) (said_of file) (use_said r)

abbrev pub read_uses : List ℕ → ℕ → List Relocation
read_uses file k = map (joined.use_of (numbers file) (said_of file)) (uses_said file k)

abbrev read_at : List ℕ → ℕ → ℕ → Relocation
read_at file k j = read_use file (relocation_in (relocation_bytes file k) j)

-- the relocations of a section, by what each is for a symbol that is there
pub uses_are : (file : List ℕ) (k : ℕ) (r : RelocationsPart) (use_for : Reloc → Relocation) → fault_of file ≡ None → k < e_shnum file → AreRelocations file k r
    → ((x : Reloc) → x.symbol < symbol_count file → is_table_high (kind_of x.kind) ≡ false → read_use file x ≡ use_for x)
    → list_all is_plain r.entries ≡ true → read_uses file k ≡ map use_for r.entries
uses_are file k r use_for sound below are is plain =
    map_listed (joined.use_of (numbers file) (said_of file)) (use_said_at file k) (relocation_count (relocation_bytes file k))
    ∙ ap (listed (read_at file k)) are.count
    ∙ listed_map (read_at file k) use_for r.entries no_reloc
    (λ j inside.
    let counted : j < relocation_count (relocation_bytes file k) = let count = are.count in omega arith in
    is (relocation_in (relocation_bytes file k) j) (relocations_named file k j sound below counted) (plain_at file k r are plain j inside) ∙ ap use_for (are.each j inside))

-- a section that is not kept
pub dropped_sort : (file : List ℕ) (k : ℕ) → is_kept file k ≡ false → sort_of file k ≡ Dropped
dropped_sort file k dropped = rw dropped refl

pub dropped_uses : (file : List ℕ) (k : ℕ) → is_kept file k ≡ false → read_uses file k ≡ []
unfolding listed
dropped_uses file k dropped =
    let none : relocation_bytes file k ≡ [] = rw dropped refl in
    ap (λ (table : List ℕ). map (joined.use_of (numbers file) (said_of file)) (listed (use_said_at file k) (relocation_count table))) none

-- sections with the same fields
pub section_is : (s t : SectionParts) → s.sort ≡ t.sort → s.size ≡ t.size → s.align ≡ t.align → s.content ≡ t.content → s.uses ≡ t.uses → s ≡ t
section_is s t sort size align content uses = λ i. record { sort = sort i; size = size i; align = align i; content = content i; uses = uses i }
