-- Each step on a line's word keeps the rule.
use Rattle.xh_channel.proofs.Common.{LineAccount, Allows, Counts, Grows, IsEndBy, IsSettled, LiesFor, LineEnd, Lined, List, Me, None, Option, LinePart, Some, [], ap}
use Rattle.xh_channel.proofs.Common.{arith, carried_after, either, eq-eqb, eqb, eqb-true, exchanged, false, get_elem?, gives, holding, inl, inr, keeps, ne_eqb}
use Rattle.xh_channel.proofs.Common.{no_counts, none, or_cases, put_back, refl, set, slice_index, some, step, subst, suc, sym, takes, true, true≢false, waiting, zero, ℕ, ⊎_elim}
use Rattle.xh_channel.proofs.Common.{◌||◌, ◌∙◌, ◌∷◌, ◌≡◌, ◌≢◌, ◌⊎◌}
use mathlib.Core.Option as maybe
use Rattle.xh_channel.specs.inner.LineRule.{Compared, IsTrueOf, IsHome, IsOut, WasTaken, IsTold, IsKeptLine, Lies, Locked, OwnsSide, Settled, Truth, by, counts_in, no_account, no_part, own_by, peer_by, settled_part}
use Rattle.xh_channel.proofs.Views.{every_set}
use Rattle.std.proofs.Common.{length}
use Rattle.std.proofs.Common.{replicate}
use Rattle.atomic_table.specs.Table.{Splits, Joins, opening}
use Rattle.atomic_table.proofs.Lists.{at_set}
use Rattle.xh_channel.specs.inner.LineRule.{both_sides, low_side, high_side, joined_sides}
use Rattle.xh_channel.proofs.Views.{every_two, every_snoc, one_view}

abbrev S : Type 0
S = Option Lined

abbrev M : Type 0
M = Me S LinePart

-- by a side's own account and its peer's, each side has its own
lies_turned : (k : ℕ) (line : S) (low high : LineAccount) → Lies line low high → LiesFor k line (by k low high) (by k high low)
lies_turned zero line low high l = l
lies_turned (suc k) line low high l = l

predecessor : (n : ℕ) → n ≢ 0 → (m : ℕ) × (n ≡ suc m)
predecessor zero ne = absurd (ne refl)
predecessor (suc m) ne = (m, refl)

-- where a compare with 0 finds another number, that stays
pub not_home : (n : ℕ) → either (eqb n 0) 1 n ≢ 0
not_home n = exchanged n 0 1 (λ x. x ≢ 0) (λ _ e. omega arith) (λ ne. ne)

-- another seat's view stays true where the holder changes between no seat and this one, and it doesn't hold the line
abbrev held_by : Truth → ℕ → Truth
held_by t h = record t { holder = h }

not_holder : (id j : ℕ) → j ≢ id → eqb (suc id) (suc j) ≡ false
not_holder id j other = ne_eqb (suc id) (suc j) (λ e. other (omega arith))

no_holder : (j : ℕ) → eqb 0 (suc j) ≡ false
no_holder j = ne_eqb 0 (suc j) (λ e. omega arith)

pub locks : (slots id : ℕ) (me : M) (f : ℕ → ℕ) (a b : ℕ) → ((n : ℕ) → f n ≢ 0) → me.0.owns ≡ true
    → Allows IsKeptLine slots id me 0 f (Locked (step slots 0 a b none) me)
locks slots id me f a b out owns s h long at small =
    let v : LinePart = me.0 in
    let t : Truth = h.0 in
    let o : OwnsSide t id v = (h.2 id v at).0 owns in
    let next : ℕ = f (slice_index s.words 0) in
    let m = predecessor next (out (slice_index s.words 0)) in
    ⊎_elim
    (λ (home : IsHome t s.words s.homes).
    let others : List ℕ = home.0 in let line : S = home.1 in let words = home.2 in let homes = home.3 in let free = home.4 in
    let peer : LineAccount = by v.side t.high t.low in
    let w : LinePart = holding v peer in
    let t' : Truth = held_by t (suc id) in
    let none_holds : (j : ℕ) (u : LinePart) → OwnsSide t j u → u.holds ≡ false = λ j u x. x.holds ∙ ap (λ n. eqb n (suc j)) free ∙ no_holder j in (
      w,
      takes 0 line,
      ap (λ l. get_elem? l 0) homes,
      (
        t',
        inr (m.0, others, v.side, ap (λ l. set l 0 next) words ∙ ap (λ n. n ∷ others) m.1, ap (λ l. set l 0 none) homes, ap suc (sym o.seat)),
        every_set (IsTrueOf t') s.views id w
            ((λ _. record { seat = o.seat; own = o.own; holds = sym (eq-eqb (suc id) (suc id) refl); knows = λ _. refl; both = λ p. ((o.both p).0, refl) }), (h.2 id v at).1, (h.2 id v at).2)
            (λ j u other e. let g = h.2 j u e in
            ((λ p. let x = g.0 p in record { seat = x.seat; own = x.own; holds = none_holds j u x ∙ sym (not_holder id j other); knows = x.knows; both = x.both }), g.1, g.2)),
      ),
      (
        (λ _. (
          line,
          peer,
          refl,
          subst (λ own. LiesFor v.side line own peer) o.own (lies_turned v.side line t.low t.high home.5),
          (h.2 id v at).1,
          λ p. (o.both p).1,
        )),
        λ ne. absurd (ne (ap (λ l. slice_index l 0) words)),
      ),
    ))
    (λ (gone : IsOut t s.words s.homes).
    let found : slice_index s.words 0 ≡ suc gone.0 = ap (λ l. slice_index l 0) gone.3 in (
      v,
      keeps,
      tt,
      (
        t,
        inr (m.0, gone.1, gone.2, ap (λ l. set l 0 next) gone.3 ∙ ap (λ n. n ∷ gone.1) m.1, gone.4, gone.5),
        every_set (IsTrueOf t) s.views id v (h.2 id v at) (λ j u _ e. h.2 j u e),
      ),
      ((λ zero_is. absurd (omega arith)), λ _. refl),
    ))
    h.1

told_more : (c : Counts) (a b : LineAccount) → Grows a b → IsTold c a → IsTold c b
told_more c a b g t = let put = t.0 in let taken = t.1 in let p = g.0 in let q = g.1 in (omega arith, omega arith, λ e. g.2 (t.2 e))

-- the accounts of a side and of its peer, by side
own_back : (k : ℕ) (own peer : LineAccount) → by k (by k own peer) (by k peer own) ≡ own
own_back zero own peer = refl
own_back (suc k) own peer = refl

peer_back : (k : ℕ) (own peer : LineAccount) → by k (by k peer own) (by k own peer) ≡ peer
peer_back zero own peer = refl
peer_back (suc k) own peer = refl

-- each side goes on, where a side and its peer do
both_grow : (k : ℕ) (low high own peer : LineAccount) → Grows (by k low high) own → Grows (by k high low) peer → Grows low (by k own peer) × Grows high (by k peer own)
both_grow zero low high own peer a b = (a, b)
both_grow (suc k) low high own peer a b = (b, a)

told_by_side : (k : ℕ) (c : Counts) (low high low' high' : LineAccount) → Grows low low' → Grows high high' → IsTold c (by k low high) → IsTold c (by k low' high')
told_by_side zero c low high low' high' a b t = told_more c low low' a t
told_by_side (suc k) c low high low' high' a b t = told_more c high high' b t

-- a seat of a side has another account than the seat of the other side: that of the other stays, where its peer's does, or where one seat has both
elsewhere : (k j low high : ℕ) (a b own peer : LineAccount) → by j low high ≢ by k low high → (peer ≡ by k b a) ⊎ (by k high low ≡ by k low high) → by j (by k own peer) (by k peer own) ≡ by j a b
elsewhere zero zero low high a b own peer n p = absurd (n refl)
elsewhere (suc k) (suc j) low high a b own peer n p = absurd (n refl)
elsewhere zero (suc j) low high a b own peer n p = ⊎_elim (λ e. e) (λ e. absurd (n e)) p
elsewhere (suc k) zero low high a b own peer n p = ⊎_elim (λ e. e) (λ e. absurd (n e)) p

one_seat : (k j low high id : ℕ) → by j low high ≡ id → by j high low ≡ id → by k low high ≡ id
one_seat zero zero low high id p q = p
one_seat zero (suc j) low high id p q = q
one_seat (suc k) zero low high id p q = q
one_seat (suc k) (suc j) low high id p q = p

-- the line goes back as it is now, by the seat that holds it, which has seen whether its peer is shut: its own account goes on, its peer's stays or is its own as well
pub settles : (slots id : ℕ) (me : M) (line : Lined) → me.1 ≡ (0, Some line) ∷ [] → me.0.owns ≡ true → me.0.holds ≡ true → IsSettled me.0 line
    → Allows IsKeptLine slots id me 0 (λ _. 0) (Settled (step slots 0 0 0 none) me)
settles slots id me line front owns holds is s h long at small =
    let v : LinePart = me.0 in
    let own : LineAccount = own_by v line in
    let peer : LineAccount = peer_by v line in
    let told : Counts = record v.told { shut = v.told.shut || v.peer.shut } in
    let is_told : IsTold told peer = (is.3.0, is.3.1, λ e. ⊎_elim is.3.2 (λ p. p) (or_cases v.told.shut v.peer.shut e)) in
    let k : ℕ = v.side in
    let t : Truth = h.0 in
    let mine = h.2 id v at in
    let o : OwnsSide t id v = mine.0 owns in
    let holder : t.holder ≡ suc id = eqb-true t.holder (suc id) (sym o.holds ∙ holds) in
    let others : (ws : List ℕ) × (n : ℕ) × (s.words ≡ n ∷ ws) = ⊎_elim (λ (x : IsHome t s.words s.homes). (x.0, 0, x.2)) (λ (x : IsOut t s.words s.homes). (x.1, suc x.0, x.3)) h.1 in
    let slot : (x : maybe.Option S) × (s.homes ≡ x ∷ []) = ⊎_elim (λ (x : IsHome t s.words s.homes). (some x.1, x.3)) (λ (x : IsOut t s.words s.homes). (none, x.4)) h.1 in
    let low : LineAccount = by k own peer in
    let high : LineAccount = by k peer own in
    let t' : Truth = record { low_seat = t.low_seat; high_seat = t.high_seat; holder = 0; low = low; high = high } in
    let w : LinePart = record v { holds = false; own = own; peer = peer; told = told } in
    let grow : Grows t.low low
    × Grows t.high high = both_grow k t.low t.high own peer (subst (λ a. Grows a own) (sym o.own) is.1) (subst (λ a. Grows a peer) (sym (o.knows holds)) (omega arith, omega arith, λ p. p)) in
    let same : (peer ≡ by k t.high t.low) ⊎ (by k t.high_seat t.low_seat ≡ by k t.low_seat t.high_seat) =
    ⊎_elim (λ e. inl (e ∙ sym (o.knows holds))) (λ p. inr ((o.both p).0 ∙ sym o.seat)) is.2 in (
      w,
      gives,
      tt,
      (
        t',
        inl (others.0, Some line, ap (λ l. set l 0 0) others.2, (λ i. put_back (slot.1 i) (front i)), refl, is.0),
        every_set (IsTrueOf t') s.views id w (
          (λ _. record { seat = o.seat; own = own_back k own peer; holds = sym (no_holder id); knows = λ p. absurd (true≢false (sym p)); both = λ p. ((o.both p).0, peer_back k own peer) }),
          subst (IsTold told) (sym (peer_back k own peer)) is_told,
          told_by_side k v.peer_told t.low t.high low high grow.0 grow.1 mine.2,
        )
            (λ j u other e. let f = h.2 j u e in (
              (λ p. let x : OwnsSide t j u = f.0 p in let apart : by u.side t.low_seat t.high_seat ≢ by k t.low_seat t.high_seat = λ q. other (sym x.seat ∙ q ∙ o.seat) in
                  let idle : u.holds ≡ false = x.holds ∙ ap (λ n. eqb n (suc j)) holder ∙ not_holder id j other in record {
                    seat = x.seat;
                    own = elsewhere k u.side t.low_seat t.high_seat t.low t.high own peer apart same ∙ x.own;
                    holds = idle ∙ sym (no_holder j);
                    knows = λ q. absurd (true≢false (sym q ∙ idle));
                    both = λ q. absurd (other (sym (one_seat k u.side t.low_seat t.high_seat j x.seat (x.both q).0) ∙ o.seat));
                  }),
              told_by_side u.side u.told t.high t.low high low grow.1 grow.0 f.1,
              told_by_side u.side u.peer_told t.low t.high low high grow.0 grow.1 f.2,
            )),
      ),
      ap (λ l. (w, carried_after l gives)) front ∙ ap (λ l. (settled_part v l, [])) (sym front),
    )

holds_it : (t : Truth) (id : ℕ) (v : LinePart) → OwnsSide t id v → t.holder ≡ suc id → v.holds ≡ true
holds_it t id v o e = o.holds ∙ ap (λ n. eqb n (suc id)) e ∙ eq-eqb (suc id) (suc id) refl

nothing_told : (a : LineAccount) → IsTold no_counts a
nothing_told a = (omega arith, omega arith, λ p. absurd (true≢false (sym p)))

all_told : (a : LineAccount) → IsTold (counts_in a) a
all_told a = (omega arith, omega arith, λ p. p)

no_fits : (t : Truth) (id : ℕ) → IsTrueOf t id no_part
no_fits t id = ((λ p. absurd (true≢false (sym p))), nothing_told t.high, nothing_told t.low)

-- where one seat has both accounts and doesn't hold the line, that is at home
at_home : (t : Truth) (id : ℕ) (v : LinePart) (words : List ℕ) (homes : List (maybe.Option S)) → IsHome t words homes ⊎ IsOut t words homes → OwnsSide t id v → v.both ≡ true → v.holds ≡ false
    → IsHome t words homes
at_home t id v words homes is o both idle = ⊎_elim (λ x. x)
    (λ (x : IsOut t words homes). absurd (true≢false (sym (holds_it t id v o (x.5 ∙ ap suc (one_seat x.2 v.side t.low_seat t.high_seat id o.seat (o.both both).0))) ∙ idle))) is

end_taken : (line : Lined) (end : LineEnd) (own peer : LineAccount) → IsEndBy line end own peer → WasTaken peer own
end_taken line end own peer is = (waiting end, is.waits)

nothing_taken : WasTaken no_account no_account
nothing_taken = ([], (refl, tt))

all_taken : (line : S) (low high : LineAccount) → Lies line low high → WasTaken low high × WasTaken high low
all_taken None low high l = subst (λ (x : LineAccount × LineAccount). WasTaken x.0 x.1 × WasTaken x.1 x.0) (λ i. (sym l.0 i, sym l.1 i)) (nothing_taken, nothing_taken)
all_taken (Some line) low high l = (end_taken line line.right high low l.1, end_taken line line.left low high l.0)

taken_by : (k : ℕ) (low high : LineAccount) → WasTaken low high × WasTaken high low → WasTaken (by k low high) (by k high low) × WasTaken (by k high low) (by k low high)
taken_by zero low high t = t
taken_by (suc k) low high t = (t.1, t.0)

pub compares : (slots id : ℕ) (me : M) → me.0.owns ≡ true → me.0.both ≡ true → me.0.holds ≡ false → Allows IsKeptLine slots id me 0 (λ n. n) (Compared (step slots 0 0 0 none) me)
compares slots id me owns both idle s h long at small =
    let v : LinePart = me.0 in
    let t : Truth = h.0 in
    let mine = h.2 id v at in
    let o : OwnsSide t id v = mine.0 owns in
    let peer = (o.both both).1 in
    let home : IsHome t s.words s.homes = at_home t id v s.words s.homes h.1 o both idle in
    let taken = taken_by v.side t.low t.high (all_taken home.1 t.low t.high home.5) in
    let w : LinePart = record v { told = counts_in v.peer; peer_told = counts_in v.own } in (
      w,
      keeps,
      tt,
      (
        t,
        inl (home.0, home.1, ap (λ l. set l 0 (slice_index l 0)) home.2, home.3, home.4, home.5),
        every_set (IsTrueOf t) s.views id w (
          (λ _. record { seat = o.seat; own = o.own; holds = o.holds; knows = o.knows; both = o.both }),
          subst (IsTold w.told) (sym peer) (all_told v.peer),
          subst (IsTold w.peer_told) (sym o.own) (all_told v.own),
        )
            (λ j u _ e. h.2 j u e),
      ),
      (
        refl,
        subst (IsTold v.told) peer mine.1,
        subst (IsTold v.peer_told) o.own mine.2,
        subst (λ (x : LineAccount × LineAccount). WasTaken x.0 x.1) (λ i. (o.own i, peer i)) taken.0,
        subst (λ (x : LineAccount × LineAccount). WasTaken x.0 x.1) (λ i. (peer i, o.own i)) taken.1,
      ),
    )

pub sides : (id : ℕ) (v : LinePart) → v.side ≡ 0 → v.owns ≡ true → v.both ≡ true → v.holds ≡ false → Splits IsKeptLine id v (low_side v) (high_side v)
sides id v side owns both idle s h at =
    let t : Truth = h.0 in
    let mine = h.2 id v at in
    let o : OwnsSide t id v = mine.0 owns in
    let home : IsHome t s.words s.homes = at_home t id v s.words s.homes h.1 o both idle in
    let low : LinePart = low_side v in
    let high : LinePart = high_side v in
    let vs : List LinePart = set s.views id low in
    let new : ℕ = length vs in
    let t' : Truth = record t { high_seat = new } in
    let low_seat : t.low_seat ≡ id = subst (λ (n : ℕ). by n t.low_seat t.high_seat ≡ id) side o.seat in (
      t',
      inl home,
      every_snoc (IsTrueOf t') vs high (
        (λ _. record {
          seat = refl;
          own = subst (λ (n : ℕ). by n t.high t.low ≡ v.peer) side (o.both both).1;
          holds = sym (ap (λ n. eqb n (suc new)) home.4 ∙ no_holder new);
          knows = λ p. absurd (true≢false (sym p));
          both = λ p. absurd (true≢false (sym p));
        }),
        subst (λ (n : ℕ). IsTold v.peer_told (by n t.low t.high)) side mine.2,
        subst (λ (n : ℕ). IsTold v.told (by n t.high t.low)) side mine.1,
      )
          (every_set (IsTrueOf t') s.views id low (
            (λ _. record {
              seat = subst (λ (n : ℕ). by n t.low_seat new ≡ id) (sym side) low_seat;
              own = o.own;
              holds = o.holds;
              knows = o.knows;
              both = λ p. absurd (true≢false (sym p));
            }),
            mine.1,
            mine.2,
          )
          (λ j u other e. let f = h.2 j u e in
          ((λ p. absurd (other (sym (f.0 p).seat ∙ one_seat u.side v.side t.low_seat t.high_seat id o.seat (o.both both).0))), f.1, f.2))),
    )

seats_are : (k low high a b : ℕ) → low ≡ a → high ≡ b → (by k low high ≡ a) ⊎ (by k low high ≡ b)
seats_are zero low high a b p q = inl p
seats_are (suc k) low high a b p q = inr q

pub joins : (id : ℕ) (v : LinePart) (other : ℕ) (w : LinePart) → v.side ≡ 0 → w.side ≡ 1 → v.owns ≡ true → w.owns ≡ true → v.holds ≡ false → w.holds ≡ false
    → Joins IsKeptLine id v other w (joined_sides v w) no_part
joins id v other w side side' owns owns' idle idle' s h at two at' =
    let t : Truth = h.0 in
    let both : LinePart = joined_sides v w in
    let was : get_elem? s.views other ≡ some w = ⊎_elim (λ x. absurd (two x.0)) (λ x. x.1) (at_set s.views id other both w at') in
    let mine = h.2 id v at in
    let theirs = h.2 other w was in
    let o : OwnsSide t id v = mine.0 owns in
    let x : OwnsSide t other w = theirs.0 owns' in
    let low_seat : t.low_seat ≡ id = subst (λ (n : ℕ). by n t.low_seat t.high_seat ≡ id) side o.seat in
    let high_seat : t.high_seat ≡ other = subst (λ (n : ℕ). by n t.low_seat t.high_seat ≡ other) side' x.seat in
    let home : IsHome t s.words s.homes = ⊎_elim (λ y. y)
    (λ (y : IsOut t s.words s.homes). absurd (⊎_elim
    (λ e. true≢false (sym (holds_it t id v o (y.5 ∙ ap suc e)) ∙ idle))
    (λ e. true≢false (sym (holds_it t other w x (y.5 ∙ ap suc e)) ∙ idle'))
    (seats_are y.2 t.low_seat t.high_seat id other low_seat high_seat)))
    h.1 in
    let t' : Truth = record t { high_seat = id } in (
      t',
      inl home,
      every_two (IsTrueOf t') s.views id other both no_part (
        (λ _. record {
          seat = subst (λ (n : ℕ). by n t.low_seat id ≡ id) (sym side) low_seat;
          own = o.own;
          holds = o.holds;
          knows = λ p. absurd (true≢false (sym p ∙ idle));
          both = λ _. subst (λ (n : ℕ). (by n id t.low_seat ≡ id) × (by n t.high t.low ≡ w.own)) (sym side) (refl, subst (λ (n : ℕ). by n t.low t.high ≡ w.own) side' x.own);
        }),
        mine.1,
        subst (λ (n : ℕ). IsTold w.told (by n t.low t.high)) (sym side) (subst (λ (n : ℕ). IsTold w.told (by n t.high t.low)) side' theirs.1),
      )
          (no_fits t' other)
          (λ j u apart far e. let f = h.2 j u e in (
            (λ p. absurd (⊎_elim (λ q. apart (sym (f.0 p).seat ∙ q)) (λ q. far (sym (f.0 p).seat ∙ q)) (seats_are u.side t.low_seat t.high_seat id other low_seat high_seat))),
            f.1,
            f.2,
          )),
    )

pub begins : IsKeptLine (opening (replicate 16 0) (replicate 1 None) both_sides)
begins =
    let t : Truth = record { low_seat = 0; high_seat = 0; holder = 0; low = no_account; high = no_account } in (
      t,
      inl (replicate 15 0, None, refl, refl, refl, (refl, refl)),
      one_view (IsTrueOf t) both_sides (
        (λ _. record { seat = refl; own = refl; holds = refl; knows = λ p. absurd (true≢false (sym p)); both = λ _. (refl, refl) }),
        nothing_told no_account,
        nothing_told no_account,
      ),
    )
