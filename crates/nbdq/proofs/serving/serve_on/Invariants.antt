-- The ledger of the passes is the blank one that is made here.
use Rattle.nbdq.proofs.serving.serve_on.Given as goal

abbrev pub ghosts-serve_booked : goal.ghosts-serve_booked
ghosts-serve_booked g a = record { name = a.blank.name; parts = a.blank.parts }
