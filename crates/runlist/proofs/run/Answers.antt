use Rattle.runlist.proofs.run.Goals as goal

pub returns-in-City : goal.returns-in-City
returns-in-City c = rw c.in-City.is c.run_by.ensures

pub returns-in-Chess : goal.returns-in-Chess
returns-in-Chess c = rw c.in-Chess.is c.run_by-in-Chess.ensures

pub returns-in-Chamfer : goal.returns-in-Chamfer
returns-in-Chamfer c = rw c.in-Chamfer.is c.run_by-in-Chamfer.ensures

pub returns-in-Euclid : goal.returns-in-Euclid
returns-in-Euclid c = rw c.in-Euclid.is c.run_by-in-Euclid.ensures
