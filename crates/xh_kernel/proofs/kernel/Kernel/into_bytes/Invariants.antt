use Rattle.std.specs.Result.{result_map_both}
use Rattle.xh_calls.specs.declared.call.Call.TheVariants.{IntoBytes}
use Rattle.xh_kernel.proofs.kernel.Kernel.into_bytes.Given as goal

abbrev pub ghost-note : goal.ghost-note
ghost-note g a = let s = a.about.now in IntoBytes s.0 s.1 (result_map_both (λ v. v.items) (λ e. e) s.2.now)
