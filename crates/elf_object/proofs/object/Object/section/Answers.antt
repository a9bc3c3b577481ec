use Rattle.std.proofs.Common.{true, length, ◌≡◌, ℕ, ◌<◌, List, [], unwrap_or, Some, None, sym, ◌∙◌, ap}
use Rattle.elf_bytes.specs.Fields.{string_at}
use Rattle.elf_tables.specs.declared.header.SectionHeader.{SectionHeader}
use Rattle.elf_tables.specs.Header.{e_shnum}
use Rattle.elf_tables.specs.Section.{content, is_in_file, section_header, section_name, section_names}
use Rattle.elf_object.specs.Fault.{fault_of}
use Rattle.elf_object.proofs.Sound.{section_named, section_whole}
use Rattle.elf_object.proofs.object.Object.section.Goals as goal

named : (lookup bytes name : List ℕ) (k : ℕ) (h : SectionHeader) → lookup ≡ bytes → fault_of lookup ≡ None → k < e_shnum bytes
    → h ≡ section_header lookup k → name ≡ unwrap_or (string_at (section_names lookup) h.name) [] → section_name bytes k ≡ Some name
named lookup bytes name k h p f below q e = section_named bytes k (ap fault_of (sym p) ∙ f) below ∙ ap Some (sym (rw (q, p) at e))

pub returns-clause-name : goal.returns-clause-name
returns-clause-name c =
    named c.self.inside.lookup c.args.self.now _ c.args.k c.header-header.result c.self.view_is c.self.invariant c.requires c.header-header.ensures c.name.ensures

whole : (lookup sections bytes part : List ℕ) (k : ℕ) (h : SectionHeader) → lookup ≡ bytes → sections ≡ lookup → fault_of lookup ≡ None
    → k < e_shnum bytes → h ≡ section_header lookup k → part ≡ content sections h → is_in_file (section_header bytes k) ≡ true
    → length part ≡ h.size
whole lookup sections bytes part k h p s f below q e there =
    let header : h ≡ section_header bytes k = q ∙ ap (λ b. section_header b k) p in
    let same : part ≡ content bytes (section_header bytes k) = e ∙ ap (λ b. content b h) (s ∙ p) ∙ ap (content bytes) header in
    ap length same ∙ section_whole bytes k (ap fault_of (sym p) ∙ f) below there ∙ ap (λ (x : SectionHeader). x.size) (sym header)

pub returns-clause-whole : goal.returns-clause-whole
returns-clause-whole c =
    whole c.self.inside.lookup c.sections.result.now c.args.self.now c.content.result.now c.args.k c.header-header.result c.self.view_is c.sections.ensures c.self.invariant c.requires c.header-header.ensures c.content.ensures
