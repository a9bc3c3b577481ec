-- The code of the joined input of objects without a fault is fit.
use Rattle.std.proofs.Common.{◌≡◌, ℕ, ◌≤◌, ◌^◌, None, List, [], ◌∷◌, length, map, sym, subst}
use Rattle.std.specs.Prelude.{fold}
use Rattle.std.specs.List.{All, sum_by}
use Rattle.std.proofs.lemmas.List.Elements.{All-append, All-head, All-map, All-nil, All-tail}
use Rattle.obj_items.proofs.Prelude.{e_shnum, fault_of, Said, nothing_said, said_together, section_behind, with_object, resolved, is_found, joined_input, shared_input, said_by, said_of, sections_said, HasFitCode}
use Rattle.obj_link.proofs.Together.{counted}
use Rattle.obj_items.proofs.ObjectFits.{object_whole}
use Rattle.obj_items.proofs.SaidFits.{IsWhole, said_fits}

abbrev pub IsSoundObject : List ℕ → Type 0
IsSoundObject bytes = fault_of bytes ≡ None

said_whole : (objects : List (List ℕ)) → All IsSoundObject objects → All IsWhole (said_by objects).sections
unfolding said_by said_together said_of
said_whole objects sound = from nothing_said objects (All-nil IsWhole) sound where
  from : (before : Said) (os : List (List ℕ)) → All IsWhole before.sections → All IsSoundObject os
      → All IsWhole (fold with_object before (map said_of os)).sections
  from before [] whole sound = whole
  from before (o ∷ os) whole sound =
      from (with_object before (said_of o)) os
      (All-append IsWhole before.sections (map (section_behind (length before.symbols)) (sections_said o)) whole
      (All-map IsWhole (section_behind (length before.symbols)) (sections_said o) (object_whole o (All-head IsSoundObject o os sound)))) (All-tail IsSoundObject o os sound)

pub objects_fit : (objects : List (List ℕ)) → All IsSoundObject objects → sum_by e_shnum objects ≤ 2 ^ 16 → HasFitCode (joined_input (map said_of objects))
unfolding said_by shared_input
objects_fit objects sound few =
    said_fits (resolved (said_by objects).symbols) (is_found (said_by objects).symbols) (said_by objects) (said_whole objects sound)
    (subst (λ (n : ℕ). n ≤ 2 ^ 16) (sym (counted objects)) few)
