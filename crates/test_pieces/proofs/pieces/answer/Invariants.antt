use Rattle.test_pieces.proofs.pieces.answer.Given as goal

-- the name and the parts of the blank that is opened
abbrev pub ghosts-scanned : goal.ghosts-scanned
ghosts-scanned a = record { name = a.blank.name; parts = a.blank.parts }
