use Rattle.obj_input.proofs.search.acting_unless.Goals as goal

pub returns-then-in_order : goal.returns-then-in_order
returns-then-in_order c = λ out. absurd (cc)

pub returns-in_ok-acting : goal.returns-in_ok-acting
returns-in_ok-acting c = λ out. record { in_order = c.in_ok-acting.ensures.in_order; found = c.in_ok-acting.ensures.found }
