-- Bytes that stand in pieces, one behind another, with zeros between them. Only a model and private contracts cite this.
use Rattle.std.specs.Prelude.{ℕ, List, ◌++◌, replicate}
use Rattle.std.specs.List.{flat_map}
use Rattle.obj_program.specs.declared.initial_data.Piece.{Piece}

abbrev pub piece_bytes : Piece → List ℕ
piece_bytes p = replicate p.zeros 0 ++ p.bytes.now

abbrev pub bytes_of : List Piece → List ℕ
bytes_of pieces = flat_map piece_bytes pieces
