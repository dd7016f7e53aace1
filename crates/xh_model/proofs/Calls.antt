-- What follows of a carving, a cut and a giving back, whatever arena they are of.
use Rattle.std.proofs.Common.{◌≡◌, ◌≢◌, ℕ, ◌+◌, ◌-◌, ◌<◌, List, true, cond, refl, sym, ap, ◌∙◌, arith, length, Option, Some, None}
use Rattle.std.specs.Prelude.{slice_set, is_some}
use Rattle.std.proofs.lemmas.Bool.{ne_eqb}
use Rattle.std.proofs.lemmas.Bool.Decides.{nat_tests}
use Rattle.std.proofs.lemmas.List.{length-map}
use Rattle.xh_model.specs.Cover.{SameRun, is_of, length_of, start_of, run_of, bytes_out, given_back}
use Rattle.xh_model.specs.Arena.{ArenaState, IsCarved, IsCut, IsGivenBack, lengths_of}
use Rattle.xh_model.proofs.Lengths.{lengths_set, lengths_set_two}
use Rattle.xh_model.proofs.Returned.{given-own, given-bytes, given-run}
use Rattle.xh_model.proofs.Tests.{same_count, same_run, same_length, carved_tests, carved_count, cut_tests}

other_test : (q r : ℕ) → q ≢ r → is_of q (Some r) ≡ is_of q None
other_test q r ne = ne_eqb r q (λ e. ne (sym e))

-- a record's run tells its length
run_length : (r s n : ℕ) (cover : List (Option ℕ)) → run_of r cover ≡ Some (s, n) → length_of r cover ≡ n
unfolding run_of
run_length r s n cover e = grind (arith, nat_tests)

-- a record that has bytes has a run
some_run : (r : ℕ) (cover : List (Option ℕ)) → 0 < length_of r cover → run_of r cover ≡ Some (start_of r cover, length_of r cover)
unfolding run_of
some_run r cover l = grind (arith, nat_tests)

module _ (r n at : ℕ) (old new : ArenaState) (is : IsCarved r n at old new) where
  pub carved_length : length_of r new.cover ≡ n
  carved_length = run_length r at n new.cover is.run

  pub carved_others : (q : ℕ) → q ≢ r → SameRun q old.cover new.cover
  carved_others q ne = rw is.change (same_run q old.cover _ (carved_tests (is_of q) r at n old.cover is.least.fits (other_test q r ne)))

  pub carved_bytes : bytes_out new.cover ≡ bytes_out old.cover + n
  carved_bytes = rw is.change (carved_count is_some r at n old.cover is.least.fits refl refl)

  pub carved_size : length new.cover ≡ length old.cover
  carved_size = rw is.change (same_length _ old.cover (carved_tests (λ _. true) r at n old.cover is.least.fits refl))

  pub carved_records : new.records ≡ old.records
  carved_records = ap (λ a. a.records) is.change

  pub carved_wear : new.wear ≡ old.wear + n
  carved_wear = ap (λ a. a.wear) is.change

  pub carved_limit : new.limit ≡ old.limit
  carved_limit = ap (λ a. a.limit) is.change

  pub carved_lengths : lengths_of new ≡ slice_set (lengths_of old) r n
  carved_lengths = lengths_set old new r n carved_records is.known carved_length (λ q ne. (carved_others q ne).1)

module _ (r t k : ℕ) (old new : ArenaState) (is : IsCut r t k old new) where
  cut_runs : (run_of r new.cover ≡ Some (start_of r old.cover, k)) × (run_of t new.cover ≡ Some (start_of r old.cover + k, length_of r old.cover - k))
  cut_runs = is.runs _ _ (some_run r old.cover (let some : k < length_of r old.cover = is.good.2 in omega arith))

  pub cut_head : length_of r new.cover ≡ k
  cut_head = run_length r _ k new.cover cut_runs.0

  pub cut_tail : length_of t new.cover ≡ length_of r old.cover - k
  cut_tail = run_length t _ _ new.cover cut_runs.1

  pub cut_others : (q : ℕ) → q ≢ r → q ≢ t → SameRun q old.cover new.cover
  cut_others q ne nt = rw is.change (same_run q old.cover _ (cut_tests (is_of q) r t k old.cover (other_test q t nt ∙ sym (other_test q r ne))))

  pub cut_bytes : bytes_out new.cover ≡ bytes_out old.cover
  cut_bytes = rw is.change (same_count is_some _ old.cover (cut_tests is_some r t k old.cover refl))

  pub cut_size : length new.cover ≡ length old.cover
  cut_size = rw is.change (same_length _ old.cover (cut_tests (λ _. true) r t k old.cover refl))

  pub cut_records : new.records ≡ old.records
  cut_records = ap (λ a. a.records) is.change

  pub cut_wear : new.wear ≡ old.wear
  cut_wear = ap (λ a. a.wear) is.change

  pub cut_limit : new.limit ≡ old.limit
  cut_limit = ap (λ a. a.limit) is.change

  pub cut_lengths : lengths_of new ≡ slice_set (slice_set (lengths_of old) r k) t (length_of r old.cover - k)
  cut_lengths = lengths_set_two old new r t k (length_of r old.cover - k) cut_records is.known is.tail_known is.other cut_head cut_tail (λ q ne nt. (cut_others q ne nt).1)

module _ (r : ℕ) (old new : ArenaState) (is : IsGivenBack r old new) where
  pub back_length : length_of r new.cover ≡ 0
  back_length = rw is.change (given-own r old.cover)

  pub back_others : (q : ℕ) → q ≢ r → SameRun q old.cover new.cover
  back_others q ne = rw is.change (given-run r q old.cover ne)

  pub back_bytes : bytes_out new.cover + length_of r old.cover ≡ bytes_out old.cover
  back_bytes = rw is.change (given-bytes r old.cover)

  pub back_size : length new.cover ≡ length old.cover
  unfolding given_back
  back_size = rw is.change (length-map old.cover (λ entry. cond (is_of r entry) None entry))

  pub back_records : new.records ≡ old.records
  back_records = ap (λ a. a.records) is.change

  pub back_wear : new.wear ≡ old.wear
  back_wear = ap (λ a. a.wear) is.change

  pub back_limit : new.limit ≡ old.limit
  back_limit = ap (λ a. a.limit) is.change

  pub back_lengths : lengths_of new ≡ slice_set (lengths_of old) r 0
  back_lengths = lengths_set old new r 0 back_records is.known back_length (λ q ne. (back_others q ne).1)
