use Rattle.xh_kernel.proofs.Lent.{read_of}
use Rattle.xh_kernel.proofs.kernel.Kernel.with_bytes.Given as goal

abbrev pub ghost-note : goal.ghost-note
ghost-note g a = let s = a.about.now in read_of s.0 s.1 a.place.now s.2.now
