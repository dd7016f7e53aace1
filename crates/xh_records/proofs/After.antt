-- What is done on the ownership is what the core's events do.
use Rattle.xh_records.proofs.Common.{arith, nat_tests, ◌≡◌, ℕ, eq-eqb, ◌%◌, ◌<◌, Bool, true, cond, length, set, refl, ap, ◌∙◌, Option, None, ◌==◌, Holder, Event, Claim, Carve, Cut, GiveBack}
use Rattle.xh_records.proofs.Common.{Vacate, Pass, Accept, index_of, AreOwners, Ownership, IsHeldBy, IsHolder, IsDone, record_of, from_of, to_of, Wants, IsAfter, LeadsOnStores, LeadsTo, List, [], ◌∷◌}
use Rattle.std.proofs.lemmas.Bool.{lt-ltb}
use Rattle.xh_model.specs.Store.{Store, owner, arena_of, len, can, change, after}
use Rattle.xh_model.proofs.Slots.{assigned}
use Rattle.xh_records.proofs.Elements.{in_range, nth_is}

-- an event that can be done changes the store
does : (e : Event) (m : Store) → can e m ≡ true → after e m ≡ change e m
unfolding after
does e m able = ap (λ (b : Bool). cond b (change e m) m) able

same_number : (p : ℕ) → (p == p) ≡ true
same_number p = eq-eqb p p refl

-- who has the record in the store
owner_is : (n r : ℕ) (o : Ownership) (m : Store) (h : Option Holder) → r % 256 < n → AreOwners n o m → IsHeldBy o (index_of n r) h → owner m r ≡ h
owner_is n r o m h there w held = w.each r ∙ rw (lt-ltb (r % 256) n there) (nth_is o (index_of n r) None h held)

pub can_be_done : (n : ℕ) (o : Ownership) (e : Event) (m : Store) → record_of e % 256 < n → IsHolder (to_of e) → IsHeldBy o (index_of n (record_of e)) (from_of e) → AreOwners n o m
    → (arena_of m (record_of e)).records ≡ n → Wants e (len m (record_of e)) → can e m ≡ true
can_be_done n o (Claim p r) m there good held w each wants = grind (arith, nat_tests, owner_is, lt-ltb)
can_be_done n o (Vacate p r) m there good held w each wants = grind (arith, nat_tests, owner_is, same_number)
can_be_done n o (Pass p r d) m there good held w each wants = grind (arith, nat_tests, owner_is, same_number, lt-ltb)
can_be_done n o (Accept p r d) m there good held w each wants = grind (arith, nat_tests, owner_is, same_number, lt-ltb)
can_be_done n o (Carve p r k) m there good held w each wants = absurd wants
can_be_done n o (Cut p r t k) m there good held w each wants = absurd wants
can_be_done n o (GiveBack p r) m there good held w each wants = absurd wants

changed : (n : ℕ) (o : Ownership) (e : Event) (m : Store) → record_of e % 256 < n → index_of n (record_of e) < length o → record_of e < length m.owners → AreOwners n o m
    → Wants e (len m (record_of e)) → AreOwners n (set o (index_of n (record_of e)) (to_of e)) (change e m)
changed n o e m there inside known w wants = grind (arith, nat_tests, assigned)

-- what is done on the ownership is the event
done_after : (n : ℕ) (o o' : Ownership) (e : Event) → record_of e % 256 < n → IsHolder (to_of e) → IsDone n o e o' → IsAfter n o e o'
done_after n o o' e there good done m w each known wants = grind (arith, nat_tests, can_be_done, in_range, does, changed)

pub on_stores : (n : ℕ) (o : Ownership) (log : List Event) (o' : Ownership) → LeadsTo n o log o' → LeadsOnStores n o log o'
on_stores n o [] o' leads = leads
on_stores n o (e ∷ es) o' leads = (leads.0, leads.1, done_after n o leads.0 e leads.2.0 leads.2.1 leads.1, on_stores n leads.0 es o' leads.3)
