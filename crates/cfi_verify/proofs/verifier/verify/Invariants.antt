use Rattle.cfi_verify.proofs.verifier.verify.Given as goal

abbrev pub ghosts-feed_code : goal.ghosts-feed_code
ghosts-feed_code a = record { name = a.blank.name; parts = a.blank.parts }
