-- Each move keeps the rule of a direction.
use Rattle.xh_channel.proofs.Common.{AreNumberedFrom, List, Message, [], ap, append_assoc, arith, false, get_elem?, length, length-append}
use Rattle.xh_channel.proofs.Common.{number_at, numbers_before, numbers_join, refl, set, some, subst, suc, sym, true, true≢false, ℕ}
use Rattle.xh_channel.proofs.Common.{⊎_elim, ◌++◌, ◌∙◌, ◌∷◌, ◌≡◌, ◌≢◌, ◌≤◌}
use Rattle.crossbeam_queue.specs.Fifo.{Forks, Learns, Merges, Pops, Pushes}
use Rattle.crossbeam_queue.proofs.Lists.{at_set}
use Rattle.xh_channel.specs.declared.queue_rule.Role.{Role}
use Rattle.xh_channel.proofs.Views.{Every, every_set, every_two, every_snoc, one_view}
use Rattle.xh_channel.specs.Directions.{FitsQueue, Got, Ordered, Sent, WaitsAhead, WaitsBehind, role, message_number}

pub begins : Ordered [] (role true true [] [] 0 0 ∷ [])
begins = (0, 0, [], [], (refl, tt), one_view (FitsQueue 0 0 [] []) (role true true [] [] 0 0) ((λ _. (refl, refl)), (λ _. (refl, refl)), omega arith, omega arith))

-- a list with one more at its end is longer
grows : (n : ℕ) (l : List Message) (x : Message) → n ≤ length l → n ≤ length (l ++ x ∷ [])
grows n l x h = omega (arith, length-append l (x ∷ []))

pub sends : (n port : ℕ) (v : Role) (x : Message) → v.pushes ≡ true → x.no ≡ suc (length v.sent) → Pushes Ordered n port v x (Sent v x)
sends n port v x may next items views _ h at =
    let w : Role = record v { sent = v.sent ++ x ∷ [] } in
    let mine = h.5 port v at in
    let same = (mine.0 may).1 in
    let sent = h.2 ++ x ∷ [] in
    let numbered = numbers_join message_number 0 h.2 x h.4.1 (let long = ap length same in omega arith) in (
      w,
      (
        h.0,
        h.1,
        sent,
        h.3,
        (ap (λ l. l ++ x ∷ []) h.4.0 ∙ append_assoc h.3 items (x ∷ []), numbered),
        every_set (FitsQueue h.0 h.1 sent h.3) views port w ((λ _. ((mine.0 may).0, ap (λ l. l ++ x ∷ []) same)), mine.1, grows v.told_put h.2 x mine.2, mine.3)
            (λ j u other e. let f = h.5 j u e in ((λ p. absurd (other ((f.0 p).0 ∙ sym (mine.0 may).0))), f.1, grows u.told_put h.2 x f.2, f.3)),
      ),
      (refl, subst (λ l. AreNumberedFrom message_number 0 (l ++ x ∷ [])) (sym same) numbered),
    )

pub gets : (port : ℕ) (v : Role) → v.pops ≡ true → Pops Ordered port v (Got v)
gets port v may x items views h at =
    let w : Role = record v { got = v.got ++ x ∷ [] } in
    let mine = h.5 port v at in
    let same = (mine.1 may).1 in
    let got = h.3 ++ x ∷ [] in
    let split : h.2 ≡ got ++ items = h.4.0 ∙ sym (append_assoc h.3 (x ∷ []) items) in (
      w,
      (
        h.0,
        h.1,
        h.2,
        got,
        (split, h.4.1),
        every_set (FitsQueue h.0 h.1 h.2 got) views port w (mine.0, (λ _. ((mine.1 may).0, ap (λ l. l ++ x ∷ []) same)), mine.2, grows v.told_taken h.3 x mine.3)
            (λ j u other e. let f = h.5 j u e in (f.0, (λ p. absurd (other ((f.1 p).0 ∙ sym (mine.1 may).0))), f.2, grows u.told_taken h.3 x f.3)),
      ),
      (
        refl,
        (let first = number_at message_number 0 h.3 x items (subst (AreNumberedFrom message_number 0) h.4.0 h.4.1) in let long = ap length same in omega arith),
        subst (λ l. AreNumberedFrom message_number 0 (l ++ x ∷ [])) (sym same)
            (numbers_before message_number 0 got items (subst (AreNumberedFrom message_number 0) split h.4.1)),
      ),
    )

-- what waits when a push finds no room, and when a pop finds nothing
pub sender_learns : (port : ℕ) (v : Role) → v.pushes ≡ true → Learns Ordered port v (WaitsBehind v)
sender_learns port v may items views h at =
    let mine = h.5 port v at in let sent = ap length (mine.0 may).1 in let split = ap length h.4.0 in let told = mine.3 in omega (arith, length-append h.3 items)

pub receiver_learns : (port : ℕ) (v : Role) → v.pops ≡ true → Learns Ordered port v (WaitsAhead v)
receiver_learns port v may items views h at =
    let mine = h.5 port v at in let got = ap length (mine.1 may).1 in let split = ap length h.4.0 in let told = mine.2 in omega (arith, length-append h.3 items)

-- what was sent, taken and waits stays, and another pass may pop now
with_reader : (items : List Message) (views now : List Role) (h : Ordered items views) (reader : ℕ) → Every (FitsQueue h.0 reader h.2 h.3) now → Ordered items now
with_reader items views now h reader f = (h.0, reader, h.2, h.3, h.4, f)

pub forks : (port : ℕ) (v : Role) → v.pushes ≡ true → v.pops ≡ true
    → Forks Ordered port v (role true false v.sent [] 0 (length v.got)) (role false true [] v.got (length v.sent) 0)
forks port v a b items views h at =
    let l : Role = role true false v.sent [] 0 (length v.got) in
    let r : Role = role false true [] v.got (length v.sent) 0 in
    let mine = h.5 port v at in
    let sent = ap length (mine.0 a).1 in
    let got = ap length (mine.1 b).1 in
    let vs : List Role = set views port l in
    let Old : ℕ → Role → Type 0 = λ j u. (u.pushes ≡ true → (j ≡ h.0) × (u.sent ≡ h.2)) × (u.pops ≢ true) × (u.told_put ≤ length h.2) × (u.told_taken ≤ length h.3) in
    let old : Every Old vs = every_set Old views port l ((λ _. mine.0 a), (λ p. true≢false (sym p)), omega arith, omega arith)
    (λ j u other e. let f = h.5 j u e in (f.0, (λ p. other ((f.1 p).0 ∙ sym (mine.1 b).0)), f.2, f.3)) in
    with_reader items views (vs ++ r ∷ []) h (length vs)
    (every_snoc (FitsQueue h.0 (length vs) h.2 h.3) vs r ((λ p. absurd (true≢false (sym p))), (λ _. (refl, (mine.1 b).1)), omega arith, omega arith)
    (λ j u e. let o = old j u e in (o.0, (λ p. absurd (o.1 p)), o.2, o.3)))

-- a pass of no queue's end
abbrev idle : ℕ → ℕ → Role
idle put taken = role false false [] [] put taken

idle_fits : (writer reader : ℕ) (sent got : List Message) (port put taken : ℕ) → put ≤ length sent → taken ≤ length got → FitsQueue writer reader sent got port (idle put taken)
idle_fits writer reader sent got port put taken a b = ((λ p. absurd (true≢false (sym p))), (λ p. absurd (true≢false (sym p))), a, b)

pub merges : (port : ℕ) (v : Role) (other : ℕ) (u : Role) → v.pushes ≡ true → u.pops ≡ true
    → Merges Ordered port v other u (role true true v.sent u.got u.told_put v.told_taken) (role false false [] [] 0 0)
merges port v other u a b items views h at two at' =
    let both : Role = role true true v.sent u.got u.told_put v.told_taken in
    let mine = h.5 port v at in
    let was : get_elem? views other ≡ some u = ⊎_elim (λ x. absurd (two x.0)) (λ x. x.1) (at_set views port other both u at') in
    let f = h.5 other u was in
    let theirs = f.1 b in
    with_reader items views (set (set views port both) other (idle 0 0)) h port
    (every_two (FitsQueue h.0 port h.2 h.3) views port other both (idle 0 0) ((λ _. mine.0 a), (λ _. (refl, theirs.1)), f.2, mine.3)
    (idle_fits h.0 port h.2 h.3 other 0 0 (omega arith) (omega arith)) (λ j y _ apart e. let g = h.5 j y e in (g.0, (λ p. absurd (apart ((g.1 p).0 ∙ sym theirs.0))), g.2, g.3)))
