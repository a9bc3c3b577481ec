-- The files that a command writes, one after the other.
use Rattle.std.specs.Prelude.{◌≡◌, ◌≢◌, ◌↔◌, ◌++◌, ℕ, List, [], ◌∷◌, ⊤, Option, Some, None}
use Rattle.tool_io.specs.Contents.{Becomes}
use Rattle.tool_io.specs.declared.files.Files.{Ghosts}

-- a file as it is to be written
pub record OutputParts : Type 0 where
  pub name : List ℕ
  pub bytes : List ℕ

-- the name is that of none of these files
abbrev pub IsOther : List OutputParts → List ℕ → Type 0
IsOther [] name = ⊤
IsOther (output ∷ outputs) name = (name ≢ output.name) × IsOther outputs name

-- no two of these files have one name
abbrev pub AreApart : List OutputParts → Type 0
AreApart [] = ⊤
AreApart (output ∷ outputs) = IsOther outputs output.name × AreApart outputs

-- the name is not the one of which nothing is told
abbrev pub IsTold : Option (List ℕ) → List ℕ → Type 0
IsTold None name = ⊤
IsTold (Some torn) name = name ≢ torn

-- a file is there and holds just its bytes, where that is told
pub record IsWhole {S : Type 0} (files : Ghosts S) (before now : S) (output : OutputParts) : Type 0 where
  pub bytes : Becomes (files.content before output.name) (files.content now output.name) output.bytes
  pub there : ¬ files.is_absent now output.name

abbrev pub AreWhole : {S : Type 0} → Ghosts S → S → S → List OutputParts → Type 0
AreWhole files before now [] = ⊤
AreWhole files before now (output ∷ outputs) = IsWhole files before now output × AreWhole files before now outputs

-- these files were written whole, nothing is told of the file whose write failed, if one did, and each other file is as before
pub record Wrote {S : Type 0} (files : Ghosts S) (before now : S) (outputs : List OutputParts) (torn : Option (List ℕ)) : Type 0 where
  pub whole : AreWhole files before now outputs
  pub kept : (name : List ℕ) → IsOther outputs name → IsTold torn name → files.content now name ≡ files.content before name
  pub absence_kept : (name : List ℕ) → IsOther outputs name → IsTold torn name → files.is_absent now name ↔ files.is_absent before name

-- the write of one of the files failed, and each before it was written
pub record IsTorn {S : Type 0} (files : Ghosts S) (before now : S) (outputs : List OutputParts) : Type 0 where
  pub done : List OutputParts
  pub failed : OutputParts
  pub left : List OutputParts
  pub split : outputs ≡ done ++ failed ∷ left
  pub wrote : Wrote files before now done (Some failed.name)

-- the first of the files were written, and no other
pub record IsCut {S : Type 0} (files : Ghosts S) (before now : S) (outputs : List OutputParts) : Type 0 where
  pub done : List OutputParts
  pub left : List OutputParts
  pub split : outputs ≡ done ++ left
  pub wrote : Wrote files before now done None

-- reads count as before, and none was made
pub record KeepsReads {S : Type 0} (files : Ghosts S) (before now : S) : Type 0 where
  pub read_faults : files.read_faults now ≡ files.read_faults before
  pub long_reads : files.long_reads now ≡ files.long_reads before
  pub failed_name : files.failed_name now ≡ files.failed_name before
  pub reads : files.reads now ≡ files.reads before
