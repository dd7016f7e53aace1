-- How far a process has come.
use Rattle.std.specs.Prelude.{ℕ, ◌+◌, ◌==◌, ◌&&◌, ◌||◌, Bool, true, false, cond, nat_le, nat_lt}
use Rattle.xh_model.specs.declared.limits.TheConstants.{PROCESSES}
use Rattle.xh_model.specs.Words.{generation_of}
use Rattle.xh_core.specs.declared.status.Status.{Status}
use Rattle.xh_core.specs.declared.status.Status.TheVariants.{Vacant, Running, Ended}

abbrev pub is_vacant : Status → Bool
is_vacant Vacant = true
is_vacant _ = false

abbrev pub is_running : Status → Bool
is_running Running = true
is_running _ = false

abbrev pub is_ended : Status → Bool
is_ended Ended = true
is_ended _ = false

-- there is no process, or it has ended
abbrev pub is_over : Status → Bool
is_over status = is_vacant status || is_ended status

-- how far the process p has come, at whose place the latest one is of this generation, and has come so far; Vacant where there is no such process
abbrev pub status_of : ℕ → ℕ → Status → Status
status_of p generation latest =
    cond (nat_le PROCESSES p || nat_lt generation (generation_of p)) Vacant
    (cond (generation == generation_of p) latest Ended)

-- whether a process can start at a place that is used so often: none ever did, or the latest one has ended and was not the last
abbrev pub can_start : ℕ → Status → ℕ → Bool
can_start generations status generation = is_vacant status || (is_ended status && nat_lt (generation + 1) generations)
