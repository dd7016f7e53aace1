-- Lemmas on whole runs: what all have played is what the answers tell.
use Rattle.xh_runner.proofs.Common.{NumberedReply, ArePlayed, Bool, DoesLine, DoesAmong, LAST, Line, List, None, PLACES, PlaceIsDone, Plays, Processes, Reply}
use Rattle.xh_runner.proofs.Common.{ap, arith, began, began_at, false, get_or, if◌then◌else◌, length, map, nat_tests, number_at, part, process_at, refl, subst, suc, sym, true, zero, ℕ, ◌+◌, ◌++◌}
use Rattle.xh_runner.proofs.Common.{World, [], ◌<◌, ◌==◌, ◌∙◌, ◌∷◌, ◌≡◌, ◌≤◌}
use Rattle.std.proofs.Math.Dec.{eqb-suc-zero}
use Rattle.xh_model.specs.declared.row.Row.{Row}
use Rattle.xh_runner.proofs.Plays.{plays_length, zips_count}
use Rattle.xh_runner.specs.inner.Tasks.{AreEnough, AreTold}
use Rattle.xh_runner.specs.declared.task.Done.{Done}
use Rattle.xh_runner.specs.Plays.{AllZipFrom, PlayAll, PlaysPlace, is_placed, line_process, replies_in}
use Rattle.xh_script.specs.Forms.{is_head}
use Rattle.xh_session.specs.Questions.{AnswerTo, Question}

-- ---- the head

zero_at : (h m : Bool) (n : ℕ) → ((if h then 0 else if m then suc n else LAST) == 0) ≡ h
zero_at true m n = refl
zero_at false true n = eqb-suc-zero n
zero_at false false n = eqb-suc-zero PLACES

-- the head's lines are the same by whatever names stand for
pub same_head : (b c : Processes) (lines : List Line) → part b 0 lines ≡ part c 0 lines
same_head b c [] = refl
same_head b c (line ∷ lines) = rw (
  zero_at (is_head line.command.form) (is_placed b (line_process line)) (number_at b (line_process line)),
  zero_at (is_head line.command.form) (is_placed c (line_process line)) (number_at c (line_process line)),
  same_head b c lines,
) refl

-- ---- a place

-- a place without a process has no lines
pub no_part : (b : Processes) (k : ℕ) (lines : List Line) → k < PLACES → process_at b k ≡ None → part b (suc k) lines ≡ []
no_part b k [] below none = refl
no_part b k (line ∷ lines) below none = grind (arith, nat_tests, no_part b k lines below none, none)

-- the replies of the places from one on, and behind them those of the last part
abbrev behind : {M : Type 0} → List (Done M) → List Reply → List (List Reply)
behind dones rests = map (λ done. done.replies.items) dones ++ rests ∷ []

at_last : {M : Type 0} (dones : List (Done M)) (rests : List Reply) → get_or (behind dones rests) (length dones) [] ≡ rests
at_last [] rests = refl
at_last (done ∷ dones) rests = at_last dones rests

pub behind_count : {M : Type 0} (dones : List (Done M)) (rests : List Reply) → length (map (λ done. done.replies.items) dones ++ rests ∷ []) ≡ suc (length dones)
behind_count [] rests = refl
behind_count (done ∷ dones) rests = ap suc (behind_count dones rests)

module _ {M S : Type 0} (state : M → S) (did : S → (q : Question) → AnswerTo q → S → Type 0) where
  module _ (lines : List Line) (ready : World S) where
    abbrev AreDone : ℕ → List M → List (Done M) → Type 0
    AreDone = AllZipFrom (PlaceIsDone state did ready.names ready.contracts lines)

    enough_behind : (k : ℕ) (olds : List M) (dones : List (Done M)) (rests : List Reply) → AreDone k olds dones → k + length dones ≡ PLACES → length rests ≡ length (part ready.names.processes LAST lines)
        → (j : ℕ) → k + j ≤ PLACES → length (get_or (behind dones rests) j []) ≡ length (part ready.names.processes (suc (k + j)) lines)
    enough_behind k [] [] rests p count last zero within = last ∙ ap (λ n. length (part ready.names.processes (suc n) lines)) (omega arith)
    enough_behind k [] [] rests p count last (suc j) within = absurd (omega arith)
    enough_behind k [] (done ∷ dones) rests p count last j within = absurd p
    enough_behind k (old ∷ olds) [] rests p count last j within = absurd p
    enough_behind k (old ∷ olds) (done ∷ dones) rests (p, ps) count last zero within =
        plays_length (DoesAmong did lines) _ _ _ _ p.1 ∙ ap (λ n. length (part ready.names.processes (suc n) lines)) (omega arith)
    enough_behind k (old ∷ olds) (done ∷ dones) rests (p, ps) count last (suc j) within =
        enough_behind (suc k) olds dones rests ps (omega arith) last j (omega arith) ∙ ap (λ n. length (part ready.names.processes (suc n) lines)) (omega arith)

    pub all_enough : (olds : List M) (heads rests : List Reply) (dones : List (Done M)) → AreDone 0 olds dones → length dones ≡ PLACES
        → length heads ≡ length (part ready.names.processes 0 lines) → length rests ≡ length (part ready.names.processes LAST lines) → AreEnough ready.names.processes lines (heads ∷ behind dones rests)
    all_enough olds heads rests dones places count head rest zero within = head
    all_enough olds heads rests dones places count head rest (suc k) within =
        enough_behind 0 olds dones rests places (omega (arith, count)) rest k (omega arith) ∙ ap (λ n. length (part ready.names.processes (suc n) lines)) (omega arith)

    -- and each place has its replies
    module _ (contracts : List (List Row)) (answers : List NumberedReply) where
      places_played : (k : ℕ) (olds : List M) (dones : List (Done M)) (rests : List Reply) → AreDone k olds dones
          → ((j : ℕ) → j < length dones → get_or (behind dones rests) j [] ≡ replies_in ready.names.processes (suc (k + j)) lines answers)
          → AllZipFrom (PlaysPlace did contracts lines answers ready) k (map state olds) (map state (map (λ done. done.machine) dones))
      places_played k [] [] rests p told = tt
      places_played k [] (done ∷ dones) rests p told = absurd p
      places_played k (old ∷ olds) [] rests p told = absurd p
      places_played k (old ∷ olds) (done ∷ dones) rests (p, ps) told =
          let own = told 0 (omega arith) ∙ ap (λ n. replies_in ready.names.processes (suc n) lines answers) (omega arith) in (
            (p.0, subst (λ rs. Plays (DoesAmong did lines) (began_at ready.names ready.contracts k (state old)) (part ready.names.processes (suc k) lines) rs p.0) own p.1, p.2),
            places_played (suc k) olds dones rests ps (λ j below. told (suc j) (omega arith) ∙ ap (λ n. replies_in ready.names.processes (suc n) lines answers) (omega arith)),
          )

      pub all_played : (first : S) (end : World S) (olds : List M) (heads rests : List Reply) (dones : List (Done M)) → length dones ≡ PLACES
          → Plays (DoesLine did) (began first contracts) (part ready.names.processes 0 lines) heads ready → AreDone 0 olds dones → Plays (DoesLine did) ready (part ready.names.processes LAST lines) rests end
          → AreTold ready.names.processes lines answers (heads ∷ behind dones rests)
          → PlayAll did contracts lines answers first (map state olds) end.machine (map state (map (λ done. done.machine) dones))
      all_played first end olds heads rests dones count head places rest told = record {
        ready = ready;
        end = end;
        head = subst (λ rs. Plays (DoesLine did) (began first contracts) (part ready.names.processes 0 lines) rs ready) (sym (told 0 (omega arith))) head;
        places = places_played 0 olds dones rests places (λ j below. sym (told (suc j) (omega (arith, count))) ∙ ap (λ n. replies_in ready.names.processes (suc n) lines answers) (omega arith));
        rest = subst (λ rs. Plays (DoesLine did) ready (part ready.names.processes LAST lines) rs end)
            (sym (told LAST (omega arith) ∙ ap (λ n. get_or (behind dones rests) n []) (sym count) ∙ at_last dones rests)) rest;
        left = refl;
      }

-- as many machines are left
pub played_count : {S : Type 0} (did : S → (q : Question) → AnswerTo q → S → Type 0) (contracts : List (List Row)) (lines : List Line) (answers : List NumberedReply) (olds news : List S)
    → ArePlayed did contracts lines answers olds news → length news ≡ length olds
played_count did contracts lines answers [] news p = absurd p
played_count did contracts lines answers (first ∷ olds) [] p = absurd p
played_count did contracts lines answers (first ∷ olds) (last ∷ news) p = ap suc (zips_count (PlaysPlace did contracts lines answers p.ready) 0 olds news p.places)
