-- A sweep that finishes frees exactly the reclaimed set, and what the list is after any sweep.
use Rattle.xh_serial.proofs.Common.{Bool, Direction, Frees, Includes, IsWhole, List, Machine, None, Process, Some, SweepsOver, [], ap, append-nil, append_assoc, arith, arriving, blocks, cases_Bool}
use Rattle.xh_serial.proofs.Common.{cases_eq, cases_lt, cond, count_append, drop, drop-cons, end_of, eq-eqb, false≢true, flat_map, freed, inl, inr, is_some, is_there, le-ltb, length, lt-ltb}
use Rattle.xh_serial.proofs.Common.{ltb-true, nat_lt, nat_tests, owner, refl, remove, same_process, subst, suc, sum_by-take-drop, sum_by-take-le, sweep, sweep_one, sym, take, times, times-cons}
use Rattle.xh_serial.proofs.Common.{true, zero, ℕ, ◌++◌, ◌<◌, ◌==◌, ◌∙◌, ◌∷◌, ◌≡◌, ◌≢◌, ◌≤◌}
use Rattle.std.proofs.Math.Seq.{drop-nil}
use Rattle.xh_serial.proofs.Swept.{arriving_else, arriving_here, blocks_here, came_held, entry, entry_held, gone_owner, other_owner, whole_one}
use Rattle.xh_serial.proofs.Room.{few, few_records, held_there}

-- who stands in an included list is in the set
included : (set : ℕ → Bool) (q : ℕ) (rs : List ℕ) → Includes set rs → 0 < times q rs → set q ≡ true
included set q [] a h = absurd (omega (arith, h))
included set q (r ∷ rs) a h = grind (arith, nat_tests, times-cons q r rs, a.0, included set q rs a.1)

including : (set : ℕ → Bool) (rs : List ℕ) → ((q : ℕ) → 0 < times q rs → set q ≡ true) → Includes set rs
including set [] f = tt
including set (r ∷ rs) f = (f r (grind (arith, nat_tests, times-cons r r rs)), including set rs (λ q l. f q (grind (arith, nat_tests, times-cons q r rs))))

includes_part : (set : ℕ → Bool) (rs qs : List ℕ) → Includes set (rs ++ qs) → Includes set rs × Includes set qs
includes_part set rs qs a = (
  including set rs (λ q l. included set q (rs ++ qs) a (grind (arith, nat_tests, count_append q rs qs))),
  including set qs (λ q l. included set q (rs ++ qs) a (grind (arith, nat_tests, count_append q rs qs))),
)

includes_more : (set more : ℕ → Bool) (rs : List ℕ) → ((r : ℕ) → set r ≡ true → more r ≡ true) → Includes set rs → Includes more rs
includes_more set more rs f a = including more rs (λ q l. f q (included set q rs a l))

-- the work list before and after one entry
pub work_before : (m : Machine) (p from : ℕ) → from < length (blocks m p) → drop from (blocks m p) ≡ entry m p from ∷ drop (suc from) (blocks m p)
work_before m p from l = drop-cons (blocks m p) from 0 l

dropped : (xs ys : List ℕ) (k : ℕ) → k < length xs → drop k (remove (xs ++ ys) k) ≡ drop (suc k) xs ++ ys
dropped [] ys k l = absurd (omega arith)
dropped (x ∷ xs) ys zero l = refl
dropped (x ∷ xs) ys (suc k) l = dropped xs ys k (omega arith)

pub work_after : (m : Machine) (p from : ℕ) → IsWhole m → from < length (blocks m p) → drop from (blocks (sweep_one p from m) p) ≡ drop (suc from) (blocks m p) ++ arriving m (entry m p from)
work_after m p from w l = ap (drop from) (blocks_here m p from w l) ∙ dropped (blocks m p) (arriving m (entry m p from)) from l

-- ---- one entry more

module _ (m : Machine) (p from : ℕ) (w : IsWhole m) (l : from < length (blocks m p)) (n : Machine)
    (rest : Frees (arriving (sweep_one p from m)) (sweep_one p from m).store n.store (drop (suc from) (blocks m p) ++ arriving m (entry m p from))) where
  abbrev one : Machine
  one = sweep_one p from m

  abbrev first : ℕ
  first = entry m p from

  first_freed : freed m.store n.store first ≡ true
  first_freed =
      let gone : owner one.store first ≡ None = gone_owner m p from first w l refl in
      let last : owner n.store first ≡ None = rest.kept first (rw gone refl) ∙ gone in
      rw (same_process (owner m.store first) p (entry_held m p from w l), last) refl

  -- another record is freed by what is left exactly where it is freed by all
  same_freed : (q : ℕ) → q ≢ first → freed one.store n.store q ≡ freed m.store n.store q
  same_freed q d = elim (other_owner m p from q w l d) [ inl c ↦ rw (c.1, c.2) refl | inr s ↦ rw (s.0) refl ]

  more_freed : (q : ℕ) → freed one.store n.store q ≡ true → freed m.store n.store q ≡ true
  more_freed q f = elim (cases_eq q first) [ inl e ↦ rw e first_freed | inr d ↦ sym (same_freed q d) ∙ f ]

  one_includes : Includes (freed m.store n.store) (drop (suc from) (blocks m p) ++ arriving m first)
  one_includes = includes_more (freed one.store n.store) (freed m.store n.store) _ more_freed rest.gone.includes

  pub frees_one : Frees (arriving m) m.store n.store (first ∷ drop (suc from) (blocks m p))
  frees_one = record {
    gone = record {
      includes = (first_freed, (includes_part (freed m.store n.store) _ (arriving m first) one_includes).0);
      closed = λ e f. elim (cases_eq e first) [
        | inl s ↦ rw s (includes_part (freed m.store n.store) (drop (suc from) (blocks m p)) (arriving m first) one_includes).1
        | inr d ↦ (let more : Includes (freed one.store n.store) (arriving one e) = rest.gone.closed e (same_freed e d ∙ f) in
            subst (λ (rs : List ℕ). Includes (freed m.store n.store) rs) (arriving_else m p from e w l d) (includes_more (freed one.store n.store) (freed m.store n.store) _ more_freed more))
      ];
      least = λ other a c r f. elim (cases_eq r first) [
        | inl e ↦ rw e (a.0)
        | inr d ↦ rest.gone.least other
            (including other _ (λ q l. grind (arith, nat_tests, count_append q (drop (suc from) (blocks m p)) (arriving m first), included other q _ a.1, included other q _ (c first a.0))))
            (λ e g. grind (arith, nat_tests, arriving_here, arriving_else)) r (same_freed r d ∙ f)
      ];
    };
    kept = λ r f. elim (cases_eq r first) [
      | inl e ↦ absurd (false≢true (sym f ∙ rw e first_freed))
      | inr d ↦ elim (other_owner m p from r w l d) [
        | inl c ↦ absurd (false≢true (sym f ∙ included (freed m.store n.store) r (arriving m first)
            (includes_part (freed m.store n.store) (drop (suc from) (blocks m p)) (arriving m first) one_includes).1 (ltb-true 0 _ c.3)))
        | inr s ↦ rest.kept r (same_freed r d ∙ f) ∙ s.0
      ]
    ];
  }

frees_nothing : (m : Machine) → Frees (arriving m) m.store m.store []
frees_nothing m = grind (arith, nat_tests)

pub no_work : (rs : List ℕ) (from : ℕ) → length rs ≤ from → drop from rs ≡ []
no_work [] from h = drop-nil from
no_work (r ∷ rs) zero h = absurd (omega arith)
no_work (r ∷ rs) (suc from) h = no_work rs from (omega arith)

-- where nothing is left from `from` on, exactly the reclaimed set of what stood there is freed
pub sweep_frees : (budget p from : ℕ) (m : Machine) → IsWhole m → length (blocks (sweep p from budget m) p) ≤ from → Frees (arriving m) m.store (sweep p from budget m).store (drop from (blocks m p))
sweep_frees zero p from m w done = rw (no_work (blocks m p) from done) (frees_nothing m)
sweep_frees (suc budget) p from m w done = elim (cases_lt from (length (blocks m p))) [
  | inl l ↦ (
      let is : sweep p from (suc budget) m ≡ sweep p from budget (sweep_one p from m) = rw (lt-ltb from (length (blocks m p)) l) refl in
      let done2 : length (blocks (sweep p from budget (sweep_one p from m)) p) ≤ from = subst (λ (x : Machine). length (blocks x p) ≤ from) is done in
      let more = sweep_frees budget p from (sweep_one p from m) (whole_one m p from w l) done2 in
      let more2 : Frees (arriving (sweep_one p from m)) (sweep_one p from m).store (sweep p from budget (sweep_one p from m)).store (drop (suc from) (blocks m p) ++ arriving m (entry m p from)) =
      subst (λ (rs : List ℕ). Frees (arriving (sweep_one p from m)) (sweep_one p from m).store (sweep p from budget (sweep_one p from m)).store rs) (work_after m p from w l) more in
      rw (is, work_before m p from l) (frees_one m p from w l (sweep p from budget (sweep_one p from m)) more2))
  | inr g ↦ (
      let is : sweep p from (suc budget) m ≡ m = rw (le-ltb from (length (blocks m p)) g) refl in
      rw (is, no_work (blocks m p) from g) (frees_nothing m))
]

-- ---- the list after a sweep

same_pieces : (f g : ℕ → List ℕ) (xs : List ℕ) → ((q : ℕ) → 0 < times q xs → f q ≡ g q) → flat_map f xs ≡ flat_map g xs
same_pieces f g [] h = refl
same_pieces f g (x ∷ xs) h =
    let here : f x ≡ g x = h x (grind (arith, nat_tests, times-cons x x xs)) in
    let there : flat_map f xs ≡ flat_map g xs = same_pieces f g xs (λ q l. h q (grind (arith, nat_tests, times-cons q x xs))) in
    rw (here, there) refl

taken_before : (xs ys : List ℕ) (k : ℕ) → k < length xs → take k (remove (xs ++ ys) k) ≡ take k xs
taken_before [] ys k l = absurd (omega arith)
taken_before (x ∷ xs) ys zero l = refl
taken_before (x ∷ xs) ys (suc k) l = ap (λ zs. x ∷ zs) (taken_before xs ys k (omega arith))

times-drop-le : (q k : ℕ) (xs : List ℕ) → times q (drop k xs) ≤ times q xs
times-drop-le q k xs = let e = sum_by-take-drop (λ x. cond {A = ℕ} (x == q) 1 0) xs k in omega arith

module _ (m : Machine) (p from budget : ℕ) (w : IsWhole m) (l : from < length (blocks m p)) (n : Machine)
    (s : SweepsOver p from budget (sweep_one p from m) n) where
  abbrev swept : Machine
  swept = sweep_one p from m

  abbrev head : ℕ
  head = entry m p from

  abbrev came : List ℕ
  came = arriving m head

  abbrev others : List ℕ
  others = drop (suc from) (blocks m p)

  work : drop from (blocks swept p) ++ s.accepted ≡ others ++ (came ++ s.accepted)
  work = ap (λ xs. xs ++ s.accepted) (work_after m p from w l) ∙ append_assoc others came s.accepted

  work0 : drop from (blocks m p) ++ (came ++ s.accepted) ≡ head ∷ (others ++ (came ++ s.accepted))
  work0 = ap (λ xs. xs ++ (came ++ s.accepted)) (work_before m p from l)

  -- the head is in none of the later work
  not_listed : times head (drop from (blocks swept p)) ≡ 0
  not_listed = grind (arith, nat_tests, (whole_one m p from w l).once (Process p) head, gone_owner m p from head w l refl, times-drop-le head from (blocks swept p))

  not_accepted : (q : ℕ) → 0 < times q s.accepted → q ≢ head
  not_accepted q h e =
      let f = s.in_flight q h in
      let none : owner swept.store q ≡ None = gone_owner m p from q w l e in
      false≢true (ap is_some (sym none ∙ f.1))

  later : (q : ℕ) → 0 < times q (take s.taken (drop from (blocks swept p) ++ s.accepted)) → q ≢ head
  later q h e =
      let le = sum_by-take-le (λ x. cond {A = ℕ} (x == q) 1 0) (drop from (blocks swept p) ++ s.accepted) s.taken in
      grind (arith, nat_tests, count_append q (drop from (blocks swept p)) s.accepted, not_listed, not_accepted q)

  way_now : came ++ s.accepted ≡ flat_map (arriving m) (take (suc s.taken) (head ∷ (others ++ (came ++ s.accepted))))
  way_now =
      let same : flat_map (arriving swept) (take s.taken (drop from (blocks swept p) ++ s.accepted)) ≡ flat_map (arriving m) (take s.taken (drop from (blocks swept p) ++ s.accepted)) =
      same_pieces (arriving swept) (arriving m) _ (λ q h. arriving_else m p from q w l (later q h)) in
      let is : s.accepted ≡ flat_map (arriving m) (take s.taken (others ++ (came ++ s.accepted))) = s.was_on_way ∙ (same ∙ ap (λ xs. flat_map (arriving m) (take s.taken xs)) work) in
      ap (λ xs. came ++ xs) is

  flight_now : (r : ℕ) → 0 < times r (came ++ s.accepted) → (d : ℕ) × (owner m.store r ≡ Some (Direction d))
  flight_now r h = elim (cases_Bool (nat_lt 0 (times r came))) [
    | inl y ↦ (let c = came_held m r (end_of m head) w y in (c.0, c.2))
    | inr f ↦ (
        let a : 0 < times r s.accepted = grind (arith, nat_tests, count_append r came s.accepted) in
        let k = s.in_flight r a in
        elim (other_owner m p from r w l (not_accepted r a)) [
          | inl c ↦ (c.0, c.1)
          | inr o ↦ (k.0, sym o.0 ∙ k.1)
        ])
  ]

  once_now : (r : ℕ) → times r (head ∷ (others ++ (came ++ s.accepted))) ≤ 1
  once_now r =
      let t = times-cons r head (others ++ (came ++ s.accepted)) in
      grind (arith, nat_tests, ap (times r) work, count_append r (drop from (blocks swept p)) s.accepted, s.once r, not_listed, not_accepted r)

  pub sweeps_one : SweepsOver p from (suc budget) m n
  sweeps_one = record {
    taken = suc s.taken;
    accepted = came ++ s.accepted;
    within = let a = s.within in omega arith;
    there = rw work0 (let a = s.there in let e : length (drop from (blocks swept p) ++ s.accepted) ≡ length (others ++ (came ++ s.accepted)) = ap length work in omega arith);
    was_on_way = rw work0 way_now;
    once = λ r. rw work0 (once_now r);
    in_flight = flight_now;
    before = s.before ∙ (ap (take from) (blocks_here m p from w l) ∙ taken_before (blocks m p) came from l);
    rest = rw work0 (s.rest ∙ ap (drop s.taken) work);
    left = λ h. ap suc (s.left h);
  }

sweeps_nothing : (p from budget : ℕ) (m : Machine) → IsWhole m → (from < length (blocks m p) → 0 ≡ budget) → SweepsOver p from budget m m
sweeps_nothing p from budget m w h = record {
  taken = 0;
  accepted = [];
  within = omega arith;
  there = omega arith;
  was_on_way = refl;
  once = λ r. rw (append-nil (drop from (blocks m p))) (grind (arith, nat_tests, times-drop-le r from (blocks m p), w.once (Process p) r));
  in_flight = λ r l. absurd (omega (arith, l));
  before = refl;
  rest = sym (append-nil (drop from (blocks m p)));
  left = h;
}

pub sweep_sweeps : (budget p from : ℕ) (m : Machine) → IsWhole m → SweepsOver p from budget m (sweep p from budget m)
sweep_sweeps zero p from m w = sweeps_nothing p from 0 m w (λ h. refl)
sweep_sweeps (suc budget) p from m w = elim (cases_lt from (length (blocks m p))) [
  | inl l ↦ rw (lt-ltb from (length (blocks m p)) l)
      (sweeps_one m p from budget w l (sweep p from budget (sweep_one p from m)) (sweep_sweeps budget p from (sweep_one p from m) (whole_one m p from w l)))
  | inr g ↦ rw (le-ltb from (length (blocks m p)) g) (sweeps_nothing p from (suc budget) m w (λ h. absurd (omega arith)))
]

-- a budget of as many as there are records is enough
pub finishes : (p from budget : ℕ) (m n : Machine) → IsWhole m → 2048 < budget → SweepsOver p from budget m n → length (blocks n p) ≤ from
finishes p from budget m n w h s =
    let many : length m.store.owners ≤ 2048 = few_records m w in
    let f : length (drop from (blocks m p) ++ s.accepted) ≤ length m.store.owners = few (length m.store.owners) (drop from (blocks m p) ++ s.accepted) s.once (λ q l.
    elim (cases_lt 0 (times q s.accepted)) [
      | inl y ↦ (let t = s.in_flight q y in is_there m.store (Direction t.0) q (rw (t.1) (eq-eqb t.0 t.0 refl)))
      | inr g ↦ held_there m (Process p) q w (grind (arith, nat_tests, count_append q (drop from (blocks m p)) s.accepted, times-drop-le q from (blocks m p)))
    ]) in
    let t = s.there in
    elim (cases_lt from (length (blocks n p))) [ inl y ↦ (let e = s.left y in absurd (omega (arith, e, t, f, many, h))) | inr g ↦ g ]
