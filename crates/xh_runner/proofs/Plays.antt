-- Lemmas on how lines are played, and on which reply is whose.
use Rattle.xh_runner.proofs.Common.{LAST, NumberedReply, Bool, Line, List, Plays, Processes, Reply, World, [], add-one, ap, append-nil, append_assoc, arith, drop, drop-cons, false}
use Rattle.xh_runner.proofs.Common.{get_or, if◌then◌else◌, length, nat_tests, nil_from_length, part, part_of, refl, set, subst, suc, sym, true, ℕ, ◌++◌, ◌+◌, ◌<◌, ◌==◌}
use Rattle.xh_runner.proofs.Common.{◌∙◌, ◌∷◌, ◌≡◌, ◌≤◌}
use Rattle.std.proofs.Common.{take, ◌≢◌}
use Rattle.std.specs.List.{AllZip}
use Rattle.std.proofs.lemmas.List.{Elements.filter_more, get_or-set_other, get_or-set_same}
use Rattle.xh_runner.specs.Plays.{AllZipFrom}
use Rattle.xh_runner.specs.inner.Tasks.{AreEnough, AreTold}

-- ---- a loop that plays those of the lines that pass a test

pub drop_at : (lines : List Line) (i : ℕ) (line : Line) → i < length lines → get_or lines i line ≡ line → drop i lines ≡ line ∷ drop (i + 1) lines
drop_at lines i line below e = rw (drop-cons lines i line below, e, add-one i) refl

-- one more line is played
plays_one : {S : Type 0} (Step : World S → Line → Reply → World S → Type 0) (old now new : World S) (lines : List Line) (replies : List Reply) (line : Line) (reply : Reply)
    → Plays Step old lines replies now → Step now line reply new → Plays Step old (lines ++ line ∷ []) (replies ++ reply ∷ []) new
plays_one Step old now new [] [] line reply p step = (new, subst (λ w. Step w line reply new) p step, refl)
plays_one Step old now new [] (r ∷ rs) line reply p step = absurd p
plays_one Step old now new (l ∷ ls) [] line reply p step = absurd p
plays_one Step old now new (l ∷ ls) (r ∷ rs) line reply (mid, first, p) step = (mid, first, plays_one Step mid now new ls rs line reply p step)

module _ {S : Type 0} (Step : World S → Line → Reply → World S → Type 0) (s : Processes) (k i n : ℕ) (lines : List Line) (line : Line) (old now : World S) (replies : List Reply) where
  pub plays_own : (new : World S) (reply : Reply) (more : List Reply) → i < length lines → line ≡ get_or lines i line → n ≡ part_of s line → n ≡ k → more ≡ replies ++ reply ∷ []
      → Plays Step old (part s k (take i lines)) replies now → Step now line reply new → Plays Step old (part s k (take (i + 1) lines)) more new
  plays_own new reply more below is of own made p step =
      let same : (part_of s line == k) ≡ true = grind (arith, nat_tests) in
      rw (filter_more (λ l. part_of s l == k) lines i line below, sym is, same, made) (plays_one Step old now new _ replies line reply p step)

  pub plays_other : i < length lines → line ≡ get_or lines i line → n ≡ part_of s line → n ≢ k → Plays Step old (part s k (take i lines)) replies now → Plays Step old (part s k (take (i + 1) lines)) replies now
  plays_other below is of apart p =
      let other : (part_of s line == k) ≡ false = grind (arith, nat_tests) in
      rw (filter_more (λ l. part_of s l == k) lines i line below, sym is, other, append-nil (part s k (take i lines))) p

pub plays_length : {S : Type 0} (Step : World S → Line → Reply → World S → Type 0) (old : World S) (lines : List Line) (replies : List Reply) (new : World S)
    → Plays Step old lines replies new → length replies ≡ length lines
plays_length Step old [] [] new p = refl
plays_length Step old [] (r ∷ rs) new p = absurd p
plays_length Step old (l ∷ ls) [] new p = absurd p
plays_length Step old (l ∷ ls) (r ∷ rs) new (mid, step, p) = ap suc (plays_length Step mid ls rs new p)

-- ---- a loop that makes an item of each

-- whatever fits to the rest, with what was made so far it fits to the whole
abbrev pub ZipsOn : {A B : Type 0} → (ℕ → A → B → Type 0) → List A → List B → ℕ → List A → Type 0
ZipsOn {A} {B} R xs ys k rest = (zs : List B) → AllZipFrom R k rest zs → AllZipFrom R 0 xs (ys ++ zs)

pub zips_begin : {A B : Type 0} (R : ℕ → A → B → Type 0) (xs : List A) (ys : List B) (rest : List A) → ys ≡ [] → rest ≡ xs → ZipsOn R xs ys 0 rest
zips_begin R xs ys rest none all = λ zs p. subst (λ l. AllZipFrom R 0 xs (l ++ zs)) (sym none) (subst (λ l. AllZipFrom R 0 l zs) all p)

pub zips_more : {A B : Type 0} (R : ℕ → A → B → Type 0) (xs : List A) (ys ys' : List B) (k : ℕ) (rest rest' : List A) (x : A) (y : B)
    → rest ≡ x ∷ rest' → ys' ≡ ys ++ y ∷ [] → R k x y → ZipsOn R xs ys k rest → ZipsOn R xs ys' (suc k) rest'
zips_more R xs ys ys' k rest rest' x y e f r h = λ zs p.
    subst (AllZipFrom R 0 xs) (sym (ap (λ l. l ++ zs) f ∙ append_assoc ys (y ∷ []) zs)) (h (y ∷ zs) (subst (λ l. AllZipFrom R k l (y ∷ zs)) (sym e) (r, p)))

pub zips_end : {A B : Type 0} (R : ℕ → A → B → Type 0) (xs : List A) (ys : List B) (k : ℕ) (rest : List A) → length rest ≡ 0 → ZipsOn R xs ys k rest → AllZipFrom R 0 xs ys
zips_end R xs ys k rest none h = subst (AllZipFrom R 0 xs) (append-nil ys) (h [] (subst (λ l. AllZipFrom R k l []) (sym (nil_from_length rest none)) tt))

pub zips_count : {A B : Type 0} (R : ℕ → A → B → Type 0) (k : ℕ) (xs : List A) (ys : List B) → AllZipFrom R k xs ys → length ys ≡ length xs
zips_count R k [] [] p = refl
zips_count R k [] (y ∷ ys) p = absurd p
zips_count R k (x ∷ xs) [] p = absurd p
zips_count R k (x ∷ xs) (y ∷ ys) (p, ps) = ap suc (zips_count R (suc k) xs ys ps)

pub zips_through : {A B C : Type 0} (Q : B → C → Type 0) (R : ℕ → A → C → Type 0) (k : ℕ) (xs : List A) (ys : List B) (zs : List C)
    → AllZipFrom (λ k x y. (z : C) → Q y z → R k x z) k xs ys → AllZip Q ys zs → AllZipFrom R k xs zs
zips_through Q R k [] [] [] p q = tt
zips_through Q R k [] [] (z ∷ zs) p q = absurd q
zips_through Q R k [] (y ∷ ys) zs p q = absurd p
zips_through Q R k (x ∷ xs) [] zs p q = absurd p
zips_through Q R k (x ∷ xs) (y ∷ ys) [] p q = absurd q
zips_through Q R k (x ∷ xs) (y ∷ ys) (z ∷ zs) (p, ps) (q, qs) = (p z q, zips_through Q R (suc k) xs ys zs ps qs)

-- ---- which reply is whose

same_without : {X Y : Type 0} (own : Bool) (x : X) (xs : List X) (y : Y) (ys : List Y) → length (if own then x ∷ xs else xs) ≡ length (if own then y ∷ ys else ys) → length xs ≡ length ys
same_without true x xs y ys e = omega (arith, e)
same_without false x xs y ys e = e

-- of a line's part a reply is left
pub some_left : (s : Processes) (line : Line) (lines : List Line) (parts : List (List Reply)) → part_of s line ≤ LAST → AreEnough s (line ∷ lines) parts → 0 < length (get_or parts (part_of s line) [])
some_left s line lines parts within enough =
    let own : (part_of s line == part_of s line) ≡ true = grind (arith, nat_tests) in
    omega (arith, rw own at (enough (part_of s line) within))

module _ (s : Processes) (line : Line) (lines : List Line) (reply : Reply) (rest : List Reply) (parts : List (List Reply)) (within : part_of s line < length parts)
    (first : get_or parts (part_of s line) [] ≡ reply ∷ rest) where
  -- a part is what is left of it, and before that the reply, where it is the line's
  dealt : (k : ℕ) → get_or parts k [] ≡ (if part_of s line == k then reply ∷ get_or (set parts (part_of s line) rest) k [] else get_or (set parts (part_of s line) rest) k [])
  dealt k = grind (arith, nat_tests, get_or-set_same, get_or-set_other)

  pub enough_next : AreEnough s (line ∷ lines) parts → AreEnough s lines (set parts (part_of s line) rest)
  enough_next enough = λ k under. same_without (part_of s line == k) reply _ line _ (rw (sym (dealt k)) (enough k under))

  pub told_next : (a : NumberedReply) (answers : List NumberedReply) → a.reply ≡ reply → AreTold s lines answers (set parts (part_of s line) rest) → AreTold s (line ∷ lines) (a ∷ answers) parts
  told_next a answers is told = λ k under. rw (dealt k, is, told k under) refl
