-- The sizes of an image by its length and by that of its code, which its graph tells.
use Rattle.std.proofs.Common.{◌≡◌, ◌∙◌, ◌+◌, ◌-◌, ◌≤◌, ◌^◌, ℕ, List, length, ap, sym, subst, arith}
use Rattle.std.specs.Prelude.{count_by}
use Rattle.tool_objects.proofs.Prelude.{data_start, GraphParts, is_class, is_site, HasSizes, IsSpelledWith, Sizes}
use Rattle.elf_image.proofs.Only.{read_as}

module _ (bytes : List ℕ) (graph : GraphParts) (is : IsSpelledWith bytes graph) where
  whole : length bytes ≡ data_start graph.code + length is.2
  whole = ap length is.4 ∙ (read_as is.0 is.1 is.2 is.3).sound.end ∙ ap (λ (n : ℕ). data_start n + length is.2) (sym is.5)

  pub few_code : graph.code ≤ 2 ^ 20
  few_code = subst (λ (n : ℕ). n ≤ 2 ^ 20) (sym is.5) is.3.most

  pub data_inside : data_start graph.code ≤ length bytes
  data_inside = omega (arith, whole)

  pub sizes_are : (sizes : Sizes) → sizes.code ≡ graph.code → sizes.data ≡ length bytes - data_start graph.code
      → sizes.classes ≡ count_by is_class graph.lines → sizes.sites ≡ count_by is_site graph.lines → HasSizes bytes graph sizes
  sizes_are sizes code data_is classes sites = record {
    version = is.0;
    code = is.1;
    init = is.2;
    image_is = is.4;
    image_size = is.3;
    code_size = code ∙ is.5;
    data_size = data_is ∙ omega (arith, whole);
    classes = classes;
    sites = sites;
  }
