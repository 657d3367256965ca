-- The numbers of the error statuses.
use Rattle.std.proofs.Common.{◌≡◌, ℕ, ℤ, pos, negsuc, zero, suc, List, [], ◌∷◌, Option, Ok, refl, sym, ap, ◌∙◌, ◌+◌, arith}
use Rattle.std.specs.Prelude.{Some, None}
use Rattle.std.specs.List.{slice_get}
use Rattle.message_core.specs.declared.status.ErrorStatus.{ErrorStatus}
use Rattle.message_core.specs.declared.status.ErrorStatus.TheVariants.{NoError, TooBig, NoSuchName, BadValue, ReadOnly, GenErr, NoAccess, WrongType, WrongLength, WrongEncoding, WrongValue, NoCreation, InconsistentValue, ResourceUnavailable, CommitFailed, UndoFailed, AuthorizationError, NotWritable, InconsistentName}
use Rattle.message_core.specs.Status.{code_of, statuses, status_of}
use Rattle.message_core.specs.FirstFault.{some_or_malformed}

pub some_is : {A : Type 0} (o : Option A) (x : A) → some_or_malformed o ≡ Ok x → o ≡ Some x
some_is {A = A} (Some y) x e = ap (λ (z : A). Some z) (let i : y ≡ x = cc in i)
some_is None x e = absurd cc

pub status_of_code : (s : ErrorStatus) → status_of (code_of s) ≡ Some s
status_of_code NoError = refl
status_of_code TooBig = refl
status_of_code NoSuchName = refl
status_of_code BadValue = refl
status_of_code ReadOnly = refl
status_of_code GenErr = refl
status_of_code NoAccess = refl
status_of_code WrongType = refl
status_of_code WrongLength = refl
status_of_code WrongEncoding = refl
status_of_code WrongValue = refl
status_of_code NoCreation = refl
status_of_code InconsistentValue = refl
status_of_code ResourceUnavailable = refl
status_of_code CommitFailed = refl
status_of_code UndoFailed = refl
status_of_code AuthorizationError = refl
status_of_code NotWritable = refl
status_of_code InconsistentName = refl

-- a list whose elements have rising numbers, from this one on
abbrev Counts : ℕ → List ErrorStatus → Type 0
Counts from [] = Unit {0}
Counts from (s ∷ rest) = (code_of s ≡ pos from) × Counts (suc from) rest

found_counts : (all : List ErrorStatus) (from n : ℕ) (s : ErrorStatus) → Counts from all → slice_get all n ≡ Some s → (k : ℕ) × (code_of s ≡ pos k) × (k ≡ n + from)
found_counts [] from n s counts e = absurd cc
found_counts (t ∷ all) from zero s counts e =
    let is : t ≡ s = cc in
    (from, ap code_of (sym is) ∙ counts.0, omega arith)
found_counts (t ∷ all) from (suc n) s counts e =
    let later = found_counts all (suc from) n s counts.1 e in
    (later.0, later.1, omega (arith, later.2))

-- each stands at its number
statuses_count : Counts 0 statuses
statuses_count = (refl, (refl, (refl, (refl, (refl, (refl, (refl, (refl, (refl, (refl, (refl, (refl, (refl, (refl, (refl, (refl, (refl, (refl, (refl, tt)))))))))))))))))))

pub code_from : (z : ℤ) (s : ErrorStatus) → status_of z ≡ Some s → z ≡ code_of s
code_from (pos n) s e =
    let found = found_counts statuses 0 n s statuses_count e in
    let at : n ≡ found.0 = omega (arith, found.2) in
    ap pos at ∙ sym found.1
code_from (negsuc n) s e = absurd cc
