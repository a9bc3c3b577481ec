use Rattle.test_pieces.proofs.cuts.listed.Given as goal

-- the name and the parts of the blank that is opened
abbrev pub ghosts-fed : goal.ghosts-fed
ghosts-fed a = record { name = a.blank.name; parts = a.blank.parts }
