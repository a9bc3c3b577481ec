-- What `rewrite` and `harden` write is read back.
use Rattle.std.proofs.Common.{◌∙◌, ap, refl, subst}
use Rattle.tool_objects.proofs.Prelude.{image_version, GraphParts, map_of, ProgramAtMap, IsLegalMap, program_request, OutputParts, form_told, WrittenIsRead}
use Rattle.cfi_map_text.proofs.MapLaws.{map_of-map_text}
use Rattle.cfi_harden.proofs.Right.{hardened_is_right}
use Rattle.tool_objects.proofs.FormProfile.{pair_formed}

pub written_is_read : WrittenIsRead
written_is_read words request hardened written made is =
    let (object, (p, prepared, (s, labels, code, init, placed, room, in_range, w))) = made.is_hardened in
    let right = hardened_is_right (program_request request) p hardened prepared (s, labels, code, init, placed, room, in_range, w) in
    let read = ap (λ (o : OutputParts). map_of o.bytes) is.map ∙ map_of-map_text hardened.map right.1 in
    record {
      hardened = hardened;
      image = record { version = image_version p.form; code = code; init = init };
      program = p;
      spelled = record {
        image_is = ap (λ (o : OutputParts). o.bytes) is.image ∙ w.image;
        size = w.bytes.size;
        graph_is = ap (λ (o : OutputParts). o.bytes) is.graph;
        parts = right.0;
      };
      well_formed =
          pair_formed p.form (record { version = image_version p.form; code = code; init = init }) hardened.graph refl
          (ap (λ (g : GraphParts). g.version) w.graph) w.well_formed;
      version = ap image_version prepared.form;
      prepared = (object, prepared);
      form = ap form_told read ∙ w.map_form ∙ prepared.form;
      map_is = record {
        read = read;
        legal = subst (λ (l : ProgramAtMap). IsLegalMap l.program l.closed l.entry hardened.map) placed.of w.map;
      };
    }
