use Rattle.std.proofs.Common.{◌∙◌, ◌^◌, ◌<◌, ℕ, List, ap, length, subst, sym}
use Rattle.std.specs.Prelude.{slice_index}
use Rattle.cfi_writer.proofs.Prelude.{ImageVersion, image_version, IsImageSize, spelling}
use Rattle.cfi_writer.proofs.WholeImage.{are_bytes}
use Rattle.cfi_writer.proofs.hardened.image_of.Goals as goal

pub write_image_as-requires : goal.write_image_as-requires
write_image_as-requires c =
    subst (IsImageSize (length c.args.code.now)) (sym (ap length c.as_slice-data.ensures.value ∙ c.in_ok-init.ensures.length)) c.requires.size

pub returns : goal.returns
returns c =
    let is = c.as_slice-data.ensures.value in (
      c.in_ok-init.init.items,
      record {
        data_is = c.in_ok-init.ensures.value;
        bytes = are_bytes (image_version c.args.form) c.args.code.now c.in_ok-init.init.items c.are_small.ensures
            (subst (λ (l : List ℕ). (k : ℕ) → slice_index l k < 2 ^ 8) is c.are_small-2.ensures)
            (subst (IsImageSize (length c.args.code.now)) (sym c.in_ok-init.ensures.length) c.requires.size);
        image_is = c.of.ensures ∙ c.in_ok-image.ensures ∙ ap (λ (version : ImageVersion). spelling version c.args.code.now c.as_slice-data.result.now) c.image_version.ensures
            ∙ ap (spelling (image_version c.args.form) c.args.code.now) is;
      },
    )
