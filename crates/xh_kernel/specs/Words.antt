-- A glance as one word: the sum of its state, its count of blocks, its bytes and its generation, each times its weight.
use Rattle.std.specs.Prelude.{◌≡◌, ℕ, zero, suc, ◌+◌, ◌*◌, ◌/◌, ◌%◌, ◌<◌}
use Rattle.xh_calls.specs.declared.call.Entry.{Entry}
use Rattle.xh_core.specs.declared.status.Status.{Status}
use Rattle.xh_core.specs.declared.status.Status.TheVariants.{Vacant, Running, Ending, Ended}
use Rattle.xh_core.specs.declared.glance.Glance.{Glance}
use Rattle.xh_model.specs.declared.limits.TheConstants.{PLACES}
use Rattle.xh_kernel.specs.declared.words.TheConstants.{BLOCKS, BYTES, GENERATION, BLOCK_COUNTS, BYTE_SUMS, GENERATIONS}

abbrev pub state_of : ℕ → Status
state_of zero = Vacant
state_of (suc zero) = Running
state_of (suc (suc zero)) = Ending
state_of _ = Ended

-- what a word has room for
abbrev pub IsPackable : Glance → Type 0
IsPackable g = (g.blocks < BLOCK_COUNTS) × (g.bytes < BYTE_SUMS)

-- what the word of a place tells: a process's place is its number's remainder by the count of places, and its generation the quotient
abbrev pub unpacked : ℕ → ℕ → Glance
unpacked p n = record {
  process = p + PLACES * ((n / GENERATION) % GENERATIONS);
  state = state_of (n % BLOCKS);
  blocks = (n / BLOCKS) % BLOCK_COUNTS;
  bytes = (n / BYTES) % BYTE_SUMS;
}

-- what nobody has had yet
abbrev pub vacant : ℕ → Glance
vacant p = record { process = p; state = Vacant; blocks = 0; bytes = 0 }

-- the word of the place p shows what the place is after the call
abbrev pub shows : ℕ → ℕ → Entry → Type 0
shows p n e = unpacked p n ≡ e.glance
