-- Whether a turn is waited for.
use Rattle.std.specs.Prelude.{ℕ, ◌-◌, ◌^◌, Bool, ◌==◌, ◌&&◌, not}

-- the turn stays there, which a counter of 64 bits can reach
abbrev pub last_turn : ℕ
last_turn = 2 ^ 64 - 1

-- whether a call that saw the turn `seen` goes on waiting
abbrev pub is_waited_for : ℕ → ℕ → Bool
is_waited_for turn seen = (turn == seen) && not (seen == last_turn)
