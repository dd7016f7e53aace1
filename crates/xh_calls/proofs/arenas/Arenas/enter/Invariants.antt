use Rattle.xh_calls.proofs.arenas.Arenas.enter.Given as goal

abbrev pub ghost-add : goal.ghost-add
ghost-add g a = a._about.now
