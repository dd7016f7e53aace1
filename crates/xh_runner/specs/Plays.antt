-- How the lines of a script are played on threads: the head, then the commands of each process by a machine of its own, and last those of processes without a place.
use Rattle.std.specs.Prelude.{◌≡◌, ◌≢◌, ◌⊎◌, ◌==◌, ◌&&◌, ◌%◌, ℕ, suc, nat_le, nat_lt, not, Bool, true, false, List, [], ◌∷◌, map, replicate, slice_index_or}
use Rattle.std.specs.Prelude.{slice_set, if◌then◌else◌, Option, Some, None}
use Rattle.std.specs.List.{filter, list_any}
use Rattle.xh_model.specs.declared.limits.TheConstants.{PLACES}
use Rattle.xh_model.specs.declared.row.Row.{Row}
use Rattle.xh_script.specs.declared.command.Line.{Line}
use Rattle.xh_script.specs.declared.fault.Fault.{Fault}
use Rattle.xh_script.specs.declared.fault.Fault.TheVariants.{Gate, Memory}
use Rattle.xh_script.specs.declared.form.Form.{Form}
use Rattle.xh_script.specs.declared.form.Form.TheVariants.{Again, Glance, Kill}
use Rattle.xh_script.specs.declared.replies.NumberedReply.{NumberedReply}
use Rattle.xh_script.specs.declared.replies.Reply.{Reply}
use Rattle.xh_script.specs.declared.replies.Reply.TheVariants.{Started}
use Rattle.xh_script.specs.Forms.{is_head}
use Rattle.xh_script.specs.Operands.{name}
use Rattle.xh_session.specs.declared.bindings.Bindings.{Bindings}
use Rattle.xh_session.specs.Bindings.{names_by_place, names_of, no_bindings, no_processes, number_at, process_at, renumbered, with_started}
use Rattle.xh_session.specs.declared.bindings.Processes.{Processes}
use Rattle.xh_session.specs.Plans.{FollowsPlan, World, plan}
use Rattle.xh_session.specs.Questions.{Question, AnswerTo}

-- ---- which lines are whose

-- the process of a line: the one that its first word names
abbrev pub line_process : Line → ℕ
line_process line = name line.command.words.items 0

abbrev pub is_some_of : ℕ → Option ℕ → Bool
is_some_of p None = false
is_some_of p (Some q) = q == p

-- whether a process has one of the 32 places, by what the names stand for
abbrev pub is_placed : Processes → ℕ → Bool
is_placed s p = nat_lt (number_at s p) PLACES && is_some_of p (process_at s (number_at s p))

-- the last part of a run
abbrev pub LAST : ℕ
LAST = suc PLACES

-- the part of a run to which a line belongs, by what the names stand for after the head: 0 is the head, 1 + k are the commands of the process that has
-- the place k, and the last part those of processes without a place
abbrev pub part_of : Processes → Line → ℕ
part_of s line = if is_head line.command.form then 0 else if is_placed s (line_process line) then suc (number_at s (line_process line)) else LAST

-- the lines of a part, in their order
abbrev pub part : Processes → ℕ → List Line → List Line
part s k lines = filter (λ line. part_of s line == k) lines

-- the replies to them
abbrev pub replies_in : Processes → ℕ → List Line → List NumberedReply → List Reply
replies_in s k [] answers = []
replies_in s k (line ∷ lines) [] = []
replies_in s k (line ∷ lines) (a ∷ answers) = if part_of s line == k then a.reply ∷ replies_in s k lines answers else replies_in s k lines answers

-- there is one reply for each line, in the order of the lines, with its number
abbrev pub AreAnswersTo : List Line → List NumberedReply → Type 0
AreAnswersTo lines answers = map (λ a. a.line) answers ≡ map (λ l. l.number) lines

-- ---- which process is the latest of a place

-- of the processes that a place had, the one with the greatest number is the latest: whether a number is not below that of the place's latest so far
abbrev pub is_latest : List ℕ → ℕ → Bool
is_latest numbers n = nat_le (slice_index_or numbers (n % PLACES) 0) n

-- by place, the number of its latest process, once a reply tells that one was started
abbrev pub numbers_after : List ℕ → Reply → List ℕ
numbers_after numbers (Started n) = if is_latest numbers n then slice_set numbers (n % PLACES) n else numbers
numbers_after numbers reply = numbers

-- and what the names of processes stand for, where it is the line's process
abbrev pub processes_after : List ℕ → Processes → Line → Reply → Processes
processes_after numbers s line (Started n) = if is_latest numbers n then with_started s (line_process line) n else s
processes_after numbers s line reply = s

-- once all replies were told
abbrev pub told : List ℕ → Processes → List Line → List NumberedReply → Processes
told numbers s [] answers = s
told numbers s (line ∷ lines) [] = s
told numbers s (line ∷ lines) (a ∷ answers) = told (numbers_after numbers a.reply) (processes_after numbers s line a.reply) lines answers

-- the names are those of the script's processes that are the latest of the places, by what the replies tell
abbrev pub HasNames : List (List ℕ) → List Line → List NumberedReply → List (List ℕ) → Type 0
HasNames processes lines answers names = names ≡ names_by_place processes (told (replicate PLACES 0) no_processes lines answers)

-- ---- how they were played

-- whether the form's command names another process
abbrev pub names_another : Form → Bool
names_another Kill = true
names_another Glance = true
names_another form = false

-- and which: the one of its second word
abbrev pub other_of : Line → ℕ
other_of line = name line.command.words.items 1

-- whether the form's command starts its process again
abbrev pub starts_again : Form → Bool
starts_again Again = true
starts_again form = false

-- whether a line starts a process again
unfoldable pub renews : ℕ → Line → Bool
renews p line = starts_again line.command.form && (line_process line == p)

-- whether a line's command names a process, not its own, that one of the lines starts again
unfoldable pub names_renewed : List Line → Line → Bool
names_renewed lines line = names_another line.command.form && (not (other_of line == line_process line) && list_any (renews (other_of line)) lines)

-- the lines, one after another, each with its reply
abbrev pub Plays : {S : Type 0} → (World S → Line → Reply → World S → Type 0) → World S → List Line → List Reply → World S → Type 0
Plays Step old [] [] new = new ≡ old
Plays Step old [] (reply ∷ replies) new = ⊥
Plays Step old (line ∷ lines) [] new = ⊥
Plays {S} Step old (line ∷ lines) (reply ∷ replies) new = (mid : World S) × Step old line reply mid × Plays Step mid lines replies new

-- a run stops so: memory was refused, or the gate stopped a worker, which one that always lets them through doesn't
abbrev pub MayStop : Bool → Fault → Type 0
MayStop always fault = (fault ≡ Memory) ⊎ ((fault ≡ Gate) × (always ≢ true))

-- the items of two lists, place by place; the places count from k on
abbrev pub AllZipFrom : {A B : Type 0} → (ℕ → A → B → Type 0) → ℕ → List A → List B → Type 0
AllZipFrom R k [] [] = Unit {0}
AllZipFrom R k [] (y ∷ ys) = ⊥
AllZipFrom R k (x ∷ xs) [] = ⊥
AllZipFrom R k (x ∷ xs) (y ∷ ys) = R k x y × AllZipFrom R (suc k) xs ys

-- the world in which a run begins, by the head's machine
abbrev pub began : {S : Type 0} → S → List (List Row) → World S
began first contracts = record { machine = first; names = no_bindings; contracts = contracts }

-- of names for blocks those of one process alone, where there is one
abbrev pub own_names : Bindings → Option ℕ → Bindings
own_names b None = b
own_names b (Some p) = names_of b p

-- the world in which the machine of the place k begins, by what the head left: no line of the place's process names a block of another
abbrev pub began_at : {S : Type 0} → Bindings → List (List Row) → ℕ → S → World S
began_at b contracts k machine = record { machine = machine; names = own_names b (process_at b.processes k); contracts = contracts }

-- a process has another number
abbrev pub renamed : {S : Type 0} → World S → ℕ → ℕ → World S
renamed w p n = record w { names = record w.names { processes = renumbered w.names.processes p n } }

module _ {S : Type 0} (did : S → (q : Question) → AnswerTo q → S → Type 0) where
  -- a machine did the command of a line: what the command asked was answered by the machine, and the reply and the names follow of the answers
  abbrev pub DoesLine : World S → Line → Reply → World S → Type 0
  DoesLine old line reply new = FollowsPlan did (plan old.names old.contracts line.command) old reply new

  -- the same, while other workers do the others of the lines: where it names a process that one of them starts again, that name may have another number by
  -- then; every other name stands for what it stood for
  abbrev pub DoesAmong : List Line → World S → Line → Reply → World S → Type 0
  DoesAmong lines old line reply new = (n : ℕ)
      × DoesLine (if names_renewed lines line then renamed old (other_of line) n else old) line reply new

  -- a script's lines, with the answers of a report
  module _ (contracts : List (List Row)) (lines : List Line) (answers : List NumberedReply) where
    -- a part of the lines was played, with its replies
    abbrev pub PlaysPart : (World S → Line → Reply → World S → Type 0) → Processes → ℕ → World S → World S → Type 0
    PlaysPart Step s k old new = Plays Step old (part s k lines) (replies_in s k lines answers) new

    -- a machine played the commands of the process at the place k, from what the head left on
    abbrev pub PlaysPlace : World S → ℕ → S → S → Type 0
    PlaysPlace ready k old new = (end : World S) × PlaysPart (DoesAmong lines) ready.names.processes (suc k) (began_at ready.names ready.contracts k old) end × (end.machine ≡ new)

    -- the first machine played the head and, at the end, the last part; and of the others each its place
    pub record PlayAll (first : S) (olds : List S) (last : S) (news : List S) : Type 0 where
      pub ready : World S
      pub end : World S
      pub head : PlaysPart DoesLine ready.names.processes 0 (began first contracts) ready
      pub places : AllZipFrom (PlaysPlace ready) 0 olds news
      pub rest : PlaysPart DoesLine ready.names.processes LAST ready end
      pub left : end.machine ≡ last

    -- the machines, as they were before, played all lines, and this is what they are after
    abbrev pub ArePlayed : List S → List S → Type 0
    ArePlayed [] news = ⊥
    ArePlayed (first ∷ olds) [] = ⊥
    ArePlayed (first ∷ olds) (last ∷ news) = PlayAll first olds last news
