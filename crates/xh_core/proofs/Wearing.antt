-- Arenas hand out what they carved, and no more.
use Rattle.xh_core.proofs.Common.{All-get_or, All-set, AreCarved, ArenaState, IsWithinWear, Store, arena_at, arith, bytes_out, length, no_arena, with_arena, ℕ, ◌+◌, ◌<◌, ◌≡◌, ◌≤◌}

was_carved : (s : Store) (k : ℕ) → k < length s.arenas → AreCarved s → bytes_out (arena_at s k).cover ≤ (arena_at s k).wear
was_carved s k l all = All-get_or IsWithinWear s.arenas k no_arena l all

-- an arena carved n bytes more, and handed them out
pub carved_more : (s : Store) (k n : ℕ) (a : ArenaState) → AreCarved s → k < length s.arenas → a.wear ≡ (arena_at s k).wear + n →
    bytes_out a.cover ≡ bytes_out (arena_at s k).cover + n → AreCarved (with_arena k a s)
carved_more s k n a all l wear out =
    let now : bytes_out a.cover ≤ a.wear = omega (arith, was_carved s k l all, wear, out) in All-set IsWithinWear s.arenas k a now all

-- an arena carved nothing, and took bytes back or none
pub carved_less : (s : Store) (k n : ℕ) (a : ArenaState) → AreCarved s → k < length s.arenas → a.wear ≡ (arena_at s k).wear →
    bytes_out a.cover + n ≡ bytes_out (arena_at s k).cover → AreCarved (with_arena k a s)
carved_less s k n a all l wear out =
    let now : bytes_out a.cover ≤ a.wear = omega (arith, was_carved s k l all, wear, out) in All-set IsWithinWear s.arenas k a now all
