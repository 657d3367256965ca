-- The numbers of the error statuses (RFC 3416, section 3, `error-status`).
use Rattle.std.specs.Prelude.{ℤ, pos, negsuc, List, [], ◌∷◌, Option, None}
use Rattle.std.specs.List.{slice_get}
use Rattle.message_core.specs.declared.status.ErrorStatus.{ErrorStatus}
use Rattle.message_core.specs.declared.status.ErrorStatus.TheVariants.{NoError, TooBig, NoSuchName, BadValue, ReadOnly, GenErr, NoAccess, WrongType, WrongLength, WrongEncoding, WrongValue, NoCreation, InconsistentValue, ResourceUnavailable, CommitFailed, UndoFailed, AuthorizationError, NotWritable, InconsistentName}

abbrev pub code_of : ErrorStatus → ℤ
code_of NoError = pos 0
code_of TooBig = pos 1
code_of NoSuchName = pos 2
code_of BadValue = pos 3
code_of ReadOnly = pos 4
code_of GenErr = pos 5
code_of NoAccess = pos 6
code_of WrongType = pos 7
code_of WrongLength = pos 8
code_of WrongEncoding = pos 9
code_of WrongValue = pos 10
code_of NoCreation = pos 11
code_of InconsistentValue = pos 12
code_of ResourceUnavailable = pos 13
code_of CommitFailed = pos 14
code_of UndoFailed = pos 15
code_of AuthorizationError = pos 16
code_of NotWritable = pos 17
code_of InconsistentName = pos 18

-- each error-status at its number
abbrev pub statuses : List ErrorStatus
statuses = NoError ∷ TooBig ∷ NoSuchName ∷ BadValue ∷ ReadOnly ∷ GenErr ∷ NoAccess ∷ WrongType ∷ WrongLength ∷ WrongEncoding ∷ WrongValue ∷ NoCreation ∷ InconsistentValue ∷ ResourceUnavailable ∷ CommitFailed ∷ UndoFailed ∷ AuthorizationError ∷ NotWritable ∷ InconsistentName ∷ []

-- the error-status of a number, if it is one's
abbrev pub status_of : ℤ → Option ErrorStatus
status_of (pos n) = slice_get statuses n
status_of (negsuc n) = None
