-- What the getters of matches give, by the rows of the matches.
use Rattle.std.proofs.Common.{of_z, to_z, ◌≡◌, ◌∙◌, ℕ, ℤ, List, map, Option, Some, None, Result, Ok, Err, refl, sym}
use Rattle.std.specs.Prelude.{FitsSigned, option_map}
use Rattle.std.specs.Box.{box_value}
use Rattle.std.proofs.lemmas.Int.{to_z-of_z}
use Rattle.clap.specs.Simple.{subcommand_rows}
use Rattle.clap.specs.declared.parser.matches.ArgMatches.{ArgMatches}
use Rattle.clap.specs.declared.parser.matches.ArgMatches.TheViews.{out-ArgMatches, out-SubCommand}
use Rattle.std.specs.Borrow.{Bor}
use Rattle.std.specs.Int.{w32}
use Rattle.std.specs.Str.Parse.{ParsesSigned, ParsesUnsigned}
use Rattle.clap.specs.Matches.{TriesOne, first_value, matched_of, one_text, raw_values}
use Rattle.clap.specs.Words.{Row, Text, all_of, first_of, found_of, one_of, rows_of, subcommand_name_of, subcommand_rows_of}
use Rattle.clap.specs.declared.parser.matches.Found.{Found}
use Rattle.clap.proofs.WalkLemmas.{first_value-rows, one_text-rows, raw_values-rows}
use Rattle.manager_words.specs.Requests.{IsBulkNumber, IsGivenTries}

pub word_given : (f : Found) (id : Text) (r : Option (Bor Text)) → option_map (λ s. s.now) r ≡ first_value f id → first_of id (rows_of f) ≡ option_map (λ s. s.now) r
word_given f id r says = sym (first_value-rows f id) ∙ sym says

pub words_given : (f : Found) (id : Text) (r : Option (Bor (List (Bor Text)))) → option_map (λ s. map (λ v. v.now) s.now) r ≡ option_map raw_values (matched_of f id) → all_of id (rows_of f) ≡ option_map (λ s. map (λ v. v.now) s.now) r
words_given f id r says = sym (raw_values-rows f id) ∙ sym says

-- ---- numbers

tries_by : {E : Type 0} (gives : List ℕ → Result ℕ E → Type 0) → ((t : List ℕ) (x : Result ℕ E) → gives t x → ParsesUnsigned 32 10 t x) → (o : Option Text) (tries : Option ℕ) → (r : Result (Option ℕ) E) → r ≡ Ok tries → (o ≡ None → r ≡ Ok None) → ((t : List ℕ) → o ≡ Some t → TriesOne gives t r) → IsGivenTries o tries
tries_by gives parses None tries r is none value = let same = none refl in cc
tries_by gives parses (Some t) None r is none value = rw is at (value t refl)
tries_by gives parses (Some t) (Some n) r is none value =
    let p = parses t (Ok n) (rw is at (value t refl)) in
    record { digits = p.0.0; fits = p.0.1; value = p.1 }

no_tries_by : {E : Type 0} (gives : List ℕ → Result ℕ E → Type 0) → ((t : List ℕ) (x : Result ℕ E) → gives t x → ParsesUnsigned 32 10 t x) → (o : Option Text) (e : E) (r : Result (Option ℕ) E) → r ≡ Err e → (o ≡ None → r ≡ Ok None) → ((t : List ℕ) → o ≡ Some t → TriesOne gives t r) → (tries : Option ℕ) → ¬ IsGivenTries o tries
no_tries_by gives parses None e r err none value tries is = let same = none refl in cc
no_tries_by gives parses (Some t) e r err none value None is = is
no_tries_by gives parses (Some t) e r err none value (Some n) is =
    parses t (Err e) (rw err at (value t refl)) (is.digits, is.fits)

-- the number of `--tries`, or none
pub tries_given : {E : Type 0} (gives : List ℕ → Result ℕ E → Type 0) → ((t : List ℕ) (x : Result ℕ E) → gives t x → ParsesUnsigned 32 10 t x) → (f : Found) (id : Text) (r : Result (Option ℕ) E) (tries : Option ℕ) → r ≡ Ok tries → (one_text f id ≡ None → r ≡ Ok None) → ((t : List ℕ) → one_text f id ≡ Some t → TriesOne gives t r) → IsGivenTries (one_of id (rows_of f)) tries
tries_given gives parses f id r tries is none value =
    rw (← one_text-rows f id) (tries_by gives parses (one_text f id) tries r is none value)

pub no_tries : {E : Type 0} (gives : List ℕ → Result ℕ E → Type 0) → ((t : List ℕ) (x : Result ℕ E) → gives t x → ParsesUnsigned 32 10 t x) → (f : Found) (id : Text) (r : Result (Option ℕ) E) (e : E) → r ≡ Err e → (one_text f id ≡ None → r ≡ Ok None) → ((t : List ℕ) → one_text f id ≡ Some t → TriesOne gives t r) → (tries : Option ℕ) → ¬ IsGivenTries (one_of id (rows_of f)) tries
no_tries gives parses f id r e is none value =
    rw (← one_text-rows f id) (no_tries_by gives parses (one_text f id) e r is none value)

bulk_by : {E : Type 0} (gives : List ℕ → Result ℤ E → Type 0) → ((t : List ℕ) (x : Result ℤ E) → gives t x → ParsesSigned w32 10 t x) → (o : Option Text) (n : ℤ) (r : Result (Option ℤ) E) → r ≡ Ok (Some n) → (o ≡ None → r ≡ Ok None) → ((t : List ℕ) → o ≡ Some t → TriesOne gives t r) → IsBulkNumber o n
bulk_by gives parses None n r is none value = let same = none refl in cc
bulk_by gives parses (Some t) n r is none value =
    let p = parses t (Ok n) (rw is at (value t refl)) in record { digits = p.0.0; fits = p.0.1; value = p.1 }

missing_bulk_by : {E : Type 0} (gives : List ℕ → Result ℤ E → Type 0) → (o : Option Text) (r : Result (Option ℤ) E) → r ≡ Ok None → ((t : List ℕ) → o ≡ Some t → TriesOne gives t r) → (n : ℤ) → ¬ IsBulkNumber o n
missing_bulk_by gives None r none value n is = is
missing_bulk_by gives (Some t) r none value n is = rw none at (value t refl)

no_bulk_by : {E : Type 0} (gives : List ℕ → Result ℤ E → Type 0) → ((t : List ℕ) (x : Result ℤ E) → gives t x → ParsesSigned w32 10 t x) → (o : Option Text) (e : E) (r : Result (Option ℤ) E) → r ≡ Err e → ((t : List ℕ) → o ≡ Some t → TriesOne gives t r) → (n : ℤ) → ¬ IsBulkNumber o n
no_bulk_by gives parses None e r err value n is = is
no_bulk_by gives parses (Some t) e r err value n is =
    parses t (Err e) (rw err at (value t refl)) (is.digits, is.fits)

-- the number of a GetBulk
pub bulk_given : {E : Type 0} (gives : List ℕ → Result ℤ E → Type 0) → ((t : List ℕ) (x : Result ℤ E) → gives t x → ParsesSigned w32 10 t x) → (f : Found) (id : Text) (r : Result (Option ℤ) E) (n : ℤ) → r ≡ Ok (Some n) → (one_text f id ≡ None → r ≡ Ok None) → ((t : List ℕ) → one_text f id ≡ Some t → TriesOne gives t r) → IsBulkNumber (one_of id (rows_of f)) n
bulk_given gives parses f id r n is none value =
    rw (← one_text-rows f id) (bulk_by gives parses (one_text f id) n r is none value)

pub missing_bulk : {E : Type 0} (gives : List ℕ → Result ℤ E → Type 0) → (f : Found) (id : Text) (r : Result (Option ℤ) E) → r ≡ Ok None → ((t : List ℕ) → one_text f id ≡ Some t → TriesOne gives t r) → (n : ℤ) → ¬ IsBulkNumber (one_of id (rows_of f)) n
missing_bulk gives f id r is value =
    rw (← one_text-rows f id) (missing_bulk_by gives (one_text f id) r is value)

pub no_bulk : {E : Type 0} (gives : List ℕ → Result ℤ E → Type 0) → ((t : List ℕ) (x : Result ℤ E) → gives t x → ParsesSigned w32 10 t x) → (f : Found) (id : Text) (r : Result (Option ℤ) E) (e : E) → r ≡ Err e → ((t : List ℕ) → one_text f id ≡ Some t → TriesOne gives t r) → (n : ℤ) → ¬ IsBulkNumber (one_of id (rows_of f)) n
no_bulk gives parses f id r e is value =
    rw (← one_text-rows f id) (no_bulk_by gives parses (one_text f id) e r is value)

-- such a number is that of its 32 bits
pub bulk_kept : (o : Option Text) (n : ℤ) → IsBulkNumber o n → to_z w32 (of_z w32 n) ≡ n
bulk_kept None n is = absurd is
bulk_kept (Some t) n is =
    let fits : FitsSigned w32 n = rw is.value is.fits in to_z-of_z w32 n fits

-- ---- the subcommand

paired : {X A B : Type 0} (f : X → A) (g : X → B) (o : Option X) (a : A) (b : B) → Some a ≡ option_map f o → Some b ≡ option_map (λ (p : A × B). p.1) (option_map {U = A × B} (λ x. (f x, g x)) o) → option_map {U = A × B} (λ x. (f x, g x)) o ≡ Some (a, b)
paired f g None a b is is' = cc
paired f g (Some x) a b is is' = cc

-- what a parse entered
pub entered : (m : ArgMatches) (name : Text) (rows : List Row) → Some name ≡ subcommand_name_of m → Some rows ≡ option_map (λ (p : Text × List Row). p.1) (subcommand_rows (out-ArgMatches m).subcommand) → subcommand_rows_of m ≡ Some (name, rows)
entered m name rows is are =
    paired (λ b. (out-SubCommand (box_value b)).name.now) (λ b. rows_of (found_of (out-SubCommand (box_value b)).matches)) (out-ArgMatches m).subcommand name rows is are
