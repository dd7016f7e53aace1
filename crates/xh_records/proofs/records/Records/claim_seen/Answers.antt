use Rattle.xh_records.proofs.Common.{arith, ◌≡◌, ◌≢◌, ℕ, List, ◌+◌, ◌*◌, ◌<◌, ◌≤◌, ◌∙◌, length, get_or, subst, sym, ap, length-append, Deed, Claim, IsEmpty, Held, Knows, MAX_RECORDS, SawAt}
use Rattle.xh_records.proofs.History.{starts_itself, starts_twice}
use Rattle.xh_records.proofs.Lists.{seen_more}
use Rattle.xh_records.proofs.Looks.{looks_on, gains_on, seen_on, starts_on}
use Rattle.xh_records.proofs.records.Records.claim_seen.Goals as goal

-- what is kept of a word that was seen at the record r
abbrev Saw : {B : Type 0} → Held B → List (Deed B) → ℕ → ℕ → Type 0
Saw x now r word = (word ≢ 0) × Knows x r word × SawAt x.shape x.front now r word

pub returns-in-Ok-clause-claimed : goal.returns-in-Ok-clause-claimed
returns-in-Ok-clause-claimed g c = gains_on c.args.seat.now c.loop-index.seat c.loop-index.invariant.looked (λ p. Claim p c.number_at-number.result)
    (IsEmpty g.B.Fits.is_fit) c.claim_at.new.seat c.in-Ok.ensures.claimed

pub loop-index-preserved : goal.loop-index-preserved
loop-index-preserved g c =
    let i = c.loop-index.invariant in
    let miss = c.in-Err.ensures.missed in
    let x = c.args.seat.now in let y = c.loop-index.seat in let z = c.claim_at.new.seat in
    let words = c.loop-index.seen.words.items in
    let long : length words ≡ c.loop-index.index = i.long in
    let at = c.number_at-number.ensures in
    let number : c.number_at-number.result ≡ c.args.arena * MAX_RECORDS + length words = omega (arith, at.0, at.1, long) in
    let later = starts_on y z miss.1.2 z.front (starts_itself z.front) in
    let saw = seen_on x y i.looked c.number_at-number.result c.in-Err.word z miss.1 in record {
      looked = looks_on x y i.looked z miss.1.2;
      long = ap length c.push.ensures.items ∙ length-append words _ ∙ ap (λ n. n + 1) long;
      seen = λ k below. subst (λ l. Saw x z.front (c.args.arena * MAX_RECORDS + k) (get_or l k 0)) (sym c.push.ensures.items)
          (seen_more (λ j w. Saw x z.front (c.args.arena * MAX_RECORDS + j) w) words c.in-Err.word
          (λ j m. let t = i.seen j (omega arith) in (t.0, t.1, (t.2.0, t.2.1, starts_twice t.2.0 y.front z.front t.2.2 later, t.2.3)))
          (subst (λ r. Saw x z.front r c.in-Err.word) number (miss.0, saw.0, (z.front, starts_on x y i.looked z.front later, starts_itself z.front, saw.1))) k (omega arith));
    }

pub returns-clause-seen : goal.returns-clause-seen
returns-clause-seen g c =
    let i = c.loop-index.invariant in
    let past : c.self.inside.records ≤ c.loop-index.index = c.loop-index-test.false in
    let most : c.loop-index.index ≤ c.self.inside.records = c.loop-index.auto.index-end in
    let all : c.args.self.now.shape.records ≡ c.loop-index.index = sym (ap (λ r. r.shape.records) c.self.view_is) ∙ c.self.invariant.records
    ∙ (let e : c.self.inside.records ≡ c.loop-index.index = omega arith in e) in
    let own : c.args.seat.now.shape.records ≡ c.args.self.now.shape.records = ap (λ s. s.records) c.requires.own.1 in
    (i.long ∙ sym all ∙ sym own, λ k below. i.seen k (subst (λ n. k < n) (own ∙ all) below))

pub slot_of-start-requires : goal.slot_of-start-requires
slot_of-start-requires g c =
    let at = c.number_at.ensures in
    let own = c.requires.arena in
    let small : 0 < c.args.self.now.shape.records = subst (λ r. 0 < r.shape.records) c.self.view_is c.self.invariant.small.0 in
    (subst (λ k. k < length c.args.self.now.shape.names) (sym at.0) own, subst (λ k. k < c.args.self.now.shape.records) (sym at.1) small)
