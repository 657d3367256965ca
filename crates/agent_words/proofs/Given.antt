-- What the getters of matches give, by the rows of the matches.
use Rattle.std.proofs.Common.{◌≡◌, ◌≢◌, ◌∙◌, ℕ, Bool, true, false, List, map, Option, Some, None, refl, codes}
use Rattle.std.specs.Prelude.{option_map, unwrap_or}
use Rattle.std.specs.Borrow.{Bor}
use Rattle.std.specs.Str.{bytes_eq}
use Rattle.std.specs.Str.Parse.{ParsesBool}
use Rattle.std.proofs.lemmas.Slice.Eq.{bytes_eq-Decides}
use Rattle.clap.specs.Matches.{ReadsOne, first_value, matched_of, one_text, raw_values}
use Rattle.clap.specs.Simple.{subcommand_rows}
use Rattle.clap.specs.Words.{Row, Text, all_of, first_of, one_of, rows_of, found_of, subcommand_name_of, subcommand_rows_of}
use Rattle.clap.specs.declared.parser.matches.ArgMatches.{ArgMatches}
use Rattle.clap.specs.declared.parser.matches.ArgMatches.TheViews.{out-ArgMatches, out-SubCommand}
use Rattle.clap.specs.declared.parser.matches.Found.{Found}
use Rattle.clap.proofs.WalkLemmas.{first_value-rows, one_text-rows, raw_values-rows}
use Rattle.std.specs.Box.{box_value}
use Rattle.agent_words.specs.Asking.{is_set}

pub word_given : (f : Found) (id : Text) (r : Option (Bor Text)) → option_map (λ s. s.now) r ≡ first_value f id → option_map (λ s. s.now) r ≡ first_of id (rows_of f)
word_given f id r says = says ∙ first_value-rows f id

pub words_given : (f : Found) (id : Text) (r : Option (Bor (List (Bor Text)))) → option_map (λ s. map (λ v. v.now) s.now) r ≡ option_map raw_values (matched_of f id) → option_map (λ s. map (λ v. v.now) s.now) r ≡ all_of id (rows_of f)
words_given f id r says = says ∙ raw_values-rows f id

-- ---- flags

not_set : (t : Text) (b : Bool) → bytes_eq t (codes "true") ≡ b → t ≢ codes "true" → false ≡ b
not_set t true is other = absurd (other ((bytes_eq-Decides t (codes "true")).0 is))
not_set t false is other = refl

set_by : (E : Type 0) (o : Option Text) (r : Option Bool) → (o ≡ None → r ≡ None) → ((t : List ℕ) → o ≡ Some t → ReadsOne {T = Bool} {E = E} ParsesBool t r) → unwrap_or r false ≡ is_set o
set_by E None r none value = rw (none refl) refl
set_by E (Some t) None none value =
    not_set t (bytes_eq t (codes "true")) refl (value t refl).1.0
set_by E (Some t) (Some true) none value = rw (value t refl) refl
set_by E (Some t) (Some false) none value = rw (value t refl) refl

pub set_given : (E : Type 0) (f : Found) (id : Text) (r : Option Bool) → (one_text f id ≡ None → r ≡ None) → ((t : List ℕ) → one_text f id ≡ Some t → ReadsOne {T = Bool} {E = E} ParsesBool t r) → unwrap_or r false ≡ is_set (one_of id (rows_of f))
set_given E f id r none value = rw (← one_text-rows f id) (set_by E (one_text f id) r none value)

-- ---- the subcommand

paired : {X A B : Type 0} (f : X → A) (g : X → B) (o : Option X) (a : A) (b : B) → Some a ≡ option_map f o → Some b ≡ option_map (λ (p : A × B). p.1) (option_map {U = A × B} (λ x. (f x, g x)) o) → option_map {U = A × B} (λ x. (f x, g x)) o ≡ Some (a, b)
paired f g None a b is is' = cc
paired f g (Some x) a b is is' = cc

unpaired : {X A B : Type 0} (f : X → A) (g : X → B) (o : Option X) → None ≡ option_map f o → option_map {U = A × B} (λ x. (f x, g x)) o ≡ None
unpaired f g None is = refl
unpaired f g (Some x) is = cc

-- what a parse entered
pub entered : (m : ArgMatches) (name : Text) (rows : List Row) → Some name ≡ subcommand_name_of m → Some rows ≡ option_map (λ (p : Text × List Row). p.1) (subcommand_rows (out-ArgMatches m).subcommand) → subcommand_rows_of m ≡ Some (name, rows)
entered m name rows is are =
    paired (λ b. (out-SubCommand (box_value b)).name.now) (λ b. rows_of (found_of (out-SubCommand (box_value b)).matches)) (out-ArgMatches m).subcommand name rows is are

-- it entered nothing
pub not_entered : (m : ArgMatches) → None ≡ subcommand_name_of m → subcommand_rows_of m ≡ None
not_entered m is =
    unpaired (λ b. (out-SubCommand (box_value b)).name.now) (λ b. rows_of (found_of (out-SubCommand (box_value b)).matches)) (out-ArgMatches m).subcommand is
