-- What a parse says of the words, and how the words end.
use Rattle.std.proofs.Common.{◌≡◌, ◌≢◌, ◌∙◌, ◌⊎◌, ◌≤◌, ℕ, List, [], Option, inl, inr, refl, sym, subst, true}
use Rattle.clap.specs.Words.{App, HasKind, HasMatchesOf, Row, Text, fault_of, found_of, is_simple_and_free, kind_of, matches_of, rows_of, subcommand_of, subcommand_rows_of}
use Rattle.clap.specs.declared.error.Error.{Error}
use Rattle.clap.specs.declared.error.kind.ErrorKind.{ErrorKind}
use Rattle.clap.specs.declared.error.kind.ErrorKind.TheVariants as kind
use Rattle.clap.specs.declared.parser.matches.ArgMatches.{ArgMatches}
use Rattle.manager_core.specs.declared.command.Command.{Command}
use Rattle.manager_core.specs.declared.command.TheConstants.{FAILED}
use Rattle.manager_words.specs.Options.{manager_app}
use Rattle.manager_words.specs.Requests.{IsCommand, IsStated}
use Rattle.manager_words.specs.Runs.{IsAnswered, IsRefusal, IsText}
use Rattle.manager_words.specs.declared.fault.WordsFault.{WordsFault}
use Rattle.manager_words.specs.declared.fault.WordsFault.TheVariants.{Memory}
use Rattle.manager_words.specs.declared.program.TheConstants.{USAGE}
use Rattle.manager_words.proofs.Simple.{free, simple}

faultless : (a : App) (words : List Text) → a ≡ manager_app → (is_simple_and_free a ≡ true → fault_of a words ≡ []) → fault_of manager_app words ≡ []
faultless a words is kinds =
    subst (λ (x : App). is_simple_and_free x ≡ true → fault_of x words ≡ []) is kinds free

same_matches : (a : App) (words : List Text) (m : ArgMatches) → a ≡ manager_app → HasMatchesOf a words m → HasMatchesOf manager_app words m
same_matches a words m is matches = subst (λ (x : App). HasMatchesOf x words m) is matches

-- the command that the matches of a parse say
pub command_stated : (a : App) (words : List Text) (m : ArgMatches) (c : Command) → a ≡ manager_app → (is_simple_and_free a ≡ true → fault_of a words ≡ []) → HasMatchesOf a words m → IsStated (rows_of (found_of m)) (subcommand_rows_of m) c → IsCommand words c
command_stated a words m c is kinds matches stated =
    let h = same_matches a words m is matches simple in
    record {
      faultless = faultless a words is kinds;
      stated = subst (λ (t : List Row). IsStated t (subcommand_of manager_app words) c) h.0 (subst (λ (o : Option (Text × List Row)). IsStated (rows_of (found_of m)) o c) h.1 stated);
    }

-- and the same the other way
stated_by : (a : App) (words : List Text) (m : ArgMatches) (c : Command) → a ≡ manager_app → HasMatchesOf a words m → IsCommand words c → IsStated (rows_of (found_of m)) (subcommand_rows_of m) c
stated_by a words m c is matches command =
    let h = same_matches a words m is matches simple in
    subst (λ (t : List Row). IsStated t (subcommand_rows_of m) c) (sym h.0) (subst (λ (o : Option (Text × List Row)). IsStated (matches_of manager_app words) o c) (sym h.1) command.stated)

-- a fault that is no want of memory
pub no_command : (fault : WordsFault) (e : Error) (Is : Command → Type 0) → (fault ≢ Memory → (c : Command) → ¬ Is c) → (fault ≡ Memory → kind_of e ≡ kind.OutOfMemory) → (kind_of e ≡ kind.OutOfMemory) ⊎ (kind_of e ≡ kind.ValueValidation) → (kind_of e ≡ kind.OutOfMemory) ⊎ ((kind_of e ≡ kind.ValueValidation) × ((c : Command) → ¬ Is c))
no_command fault e Is none memory (inl wants) = inl wants
no_command fault e Is none memory (inr invalid) =
    let other : fault ≢ Memory = λ same. let wants = memory same in cc in
    inr (invalid, none other)

-- the matches say no command
pub none_stated : (a : App) (words : List Text) (m : ArgMatches) (e : Error) → a ≡ manager_app → (is_simple_and_free a ≡ true → fault_of a words ≡ []) → HasMatchesOf a words m → (kind_of e ≡ kind.OutOfMemory) ⊎ ((kind_of e ≡ kind.ValueValidation) × ((c : Command) → ¬ IsStated (rows_of (found_of m)) (subcommand_rows_of m) c)) → IsRefusal words e
none_stated a words m e is kinds matches (inl wants) = inl wants
none_stated a words m e is kinds matches (inr invalid) = inr (inr (
  invalid.0,
  record {
    faultless = faultless a words is kinds;
    none = λ c command. invalid.1 c (stated_by a words m c is matches command);
  },
))

-- a parse that fails
has_kind : (words : List Text) (e : Error) → HasKind (fault_of manager_app words) e → IsRefusal words e
has_kind words e (inl wants) = inl wants
has_kind words e (inr among) = inr (inl among)

pub parse_failed : (a : App) (words : List Text) (e : Error) → a ≡ manager_app → (is_simple_and_free a ≡ true → HasKind (fault_of a words) e) → IsRefusal words e
parse_failed a words e is kinds =
    has_kind words e (subst (λ (x : App). is_simple_and_free x ≡ true → HasKind (fault_of x words) e) is kinds free)

-- ---- kinds

no_text : (k : ErrorKind) → k ≢ kind.DisplayHelp → k ≢ kind.DisplayVersion → ¬ IsText k
no_text k a b (inl h) = a h
no_text k a b (inr h) = b h

sort : (k : ErrorKind) → IsText k ⊎ ((k ≡ kind.OutOfMemory) ⊎ ((¬ IsText k) × (k ≢ kind.OutOfMemory)))
sort kind.InvalidValue = inr (inr (no_text kind.InvalidValue (λ e. cc) (λ e. cc), λ e. cc))
sort kind.UnknownArgument = inr (inr (no_text kind.UnknownArgument (λ e. cc) (λ e. cc), λ e. cc))
sort kind.InvalidSubcommand = inr (inr (no_text kind.InvalidSubcommand (λ e. cc) (λ e. cc), λ e. cc))
sort kind.NoEquals = inr (inr (no_text kind.NoEquals (λ e. cc) (λ e. cc), λ e. cc))
sort kind.ValueValidation = inr (inr (no_text kind.ValueValidation (λ e. cc) (λ e. cc), λ e. cc))
sort kind.TooManyValues = inr (inr (no_text kind.TooManyValues (λ e. cc) (λ e. cc), λ e. cc))
sort kind.TooFewValues = inr (inr (no_text kind.TooFewValues (λ e. cc) (λ e. cc), λ e. cc))
sort kind.WrongNumberOfValues = inr (inr (no_text kind.WrongNumberOfValues (λ e. cc) (λ e. cc), λ e. cc))
sort kind.ArgumentConflict = inr (inr (no_text kind.ArgumentConflict (λ e. cc) (λ e. cc), λ e. cc))
sort kind.MissingRequiredArgument = inr (inr (no_text kind.MissingRequiredArgument (λ e. cc) (λ e. cc), λ e. cc))
sort kind.MissingSubcommand = inr (inr (no_text kind.MissingSubcommand (λ e. cc) (λ e. cc), λ e. cc))
sort kind.DisplayHelp = inl (inl refl)
sort kind.DisplayHelpOnMissingArgumentOrSubcommand = inr (inr (no_text kind.DisplayHelpOnMissingArgumentOrSubcommand (λ e. cc) (λ e. cc), λ e. cc))
sort kind.DisplayVersion = inl (inr refl)
sort kind.Io = inr (inr (no_text kind.Io (λ e. cc) (λ e. cc), λ e. cc))
sort kind.Format = inr (inr (no_text kind.Format (λ e. cc) (λ e. cc), λ e. cc))
sort kind.OutOfMemory = inr (inl refl)

not_both : (k other : ErrorKind) → other ≢ kind.DisplayHelp → other ≢ kind.DisplayVersion → k ≡ other → ¬ IsText k
not_both k other a b same (inl h) = a (sym same ∙ h)
not_both k other a b same (inr h) = b (sym same ∙ h)

pub answered : {O : Type 0} (words : List Text) (e : Error) (old : O) (status : ℕ) (new : O) → IsRefusal words e → (IsText (kind_of e) → status ≤ FAILED) → (kind_of e ≡ kind.OutOfMemory → (status ≡ FAILED) × (new ≡ old)) → (¬ IsText (kind_of e) → kind_of e ≢ kind.OutOfMemory → (status ≡ USAGE) × (new ≡ old)) → IsAnswered words old status new
answered {O} words e old status new refusal text memory refused = go (sort (kind_of e)) refusal
  where
    go : IsText (kind_of e) ⊎ ((kind_of e ≡ kind.OutOfMemory) ⊎ ((¬ IsText (kind_of e)) × (kind_of e ≢ kind.OutOfMemory))) → IsRefusal words e → IsAnswered words old status new
    go (inl t) (inl wants) = absurd (not_both (kind_of e) kind.OutOfMemory (λ h. cc) (λ h. cc) wants t)
    go (inl t) (inr (inl among)) =
        inl (record { kind = kind_of e; among = among; shown = t }, text t)
    go (inl t) (inr (inr v)) = absurd (not_both (kind_of e) kind.ValueValidation (λ h. cc) (λ h. cc) v.0 t)
    go (inr (inl m)) _ = inr (inr (memory m))
    go (inr (inr w)) (inl wants) = absurd (w.1 wants)
    go (inr (inr w)) (inr (inl among)) =
        let u = refused w.0 w.1 in
        inr (inl (u.0, u.1, inl (record { kind = kind_of e; among = among; wrong = w.0 })))
    go (inr (inr w)) (inr (inr v)) =
        let u = refused w.0 w.1 in inr (inl (u.0, u.1, inr v.1))
