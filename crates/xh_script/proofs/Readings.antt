-- Lemmas on readings that may stop.
use Rattle.xh_script.proofs.Common.{Bor, Fails, Fault, FaultKind, List, MAX_SCRIPT, Ok, Result, add-one, after_line, after_lines, ap, arith, at_line, count_by-le-length, drop, drop-cons, get_or}
use Rattle.xh_script.proofs.Common.{length, length-map, length-slice_split, map, refl, slice_split, suc, ℕ, ◌+◌, ◌<◌, ◌==◌, ◌>>=◌, ◌≡◌, ◌≤◌}
use Rattle.xh_script.proofs.WordLemmas.{no_word}
use Rattle.xh_script.specs.inner.Stops.{StopsReading}
use Rattle.xh_script.specs.SoFar.{SoFar}
use Rattle.xh_script.specs.declared.fault.Fault.TheVariants.{BadConfig, Gate, Memory, Read, Script, Write}
use Rattle.xh_script.specs.declared.fault.Stop.{Stop}
use Rattle.xh_script.specs.declared.fault.Stop.TheVariants.{Bad, Memory as StopMemory}

-- a stop is that of all that follows
pub stops_then : {A B : Type 0} (stop : Stop) (r : Result A FaultKind) (f : A → Result B FaultKind) → StopsReading stop r → StopsReading stop (r >>= f)
stops_then StopMemory r f h = tt
stops_then (Bad kind) r f h = ap (λ x. x >>= f) h

-- a failure is that of all that follows
pub fails_then : {A B : Type 0} (e : Fault) (r : Result A Fault) (f : A → Result B Fault) → Fails e r → Fails e (r >>= f)
fails_then Memory r f h = tt
fails_then (Script n k) r f h = ap (λ x. x >>= f) h
fails_then Read r f h = h
fails_then Write r f h = h
fails_then Gate r f h = h
fails_then BadConfig r f h = h

-- one more line was read
pub goes_on : (items : List (Bor (List ℕ))) (i : ℕ) (before now : SoFar) → i < length items → at_line (i + 1) (after_line before (i + 1) (get_or items i no_word).now) ≡ Ok now
    → after_lines before (i + 1) (map (λ w. w.now) (drop i items)) ≡ after_lines now (i + 1 + 1) (map (λ w. w.now) (drop (i + 1) items))
goes_on items i before now below h = rw (drop-cons items i no_word, h, add-one i) refl

-- a line was not
pub stops_at : (e : Fault) (items : List (Bor (List ℕ))) (i : ℕ) (before : SoFar) → i < length items → Fails e (at_line (i + 1) (after_line before (i + 1) (get_or items i no_word).now))
    → Fails e (after_lines before (i + 1) (map (λ w. w.now) (drop i items)))
stops_at e items i before below h = rw (drop-cons items i no_word) (fails_then e _ (λ now. after_lines now (i + 1 + 1) (map (λ w. w.now) (drop (suc i) items))) h)

-- a text has few lines
pub lines_fit : (items : List (Bor (List ℕ))) (text : List ℕ) → map (λ w. w.now) items ≡ slice_split (λ b. b == 10) text → length text ≤ MAX_SCRIPT → length items ≤ MAX_SCRIPT + 1
lines_fit items text lines short =
    omega (arith, simp length-map at (ap length lines), length-slice_split (λ b. b == 10) text, count_by-le-length (λ b. b == 10) text)
