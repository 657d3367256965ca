-- The asks of a manager, by what each try did on the wire.
use Rattle.std.specs.Prelude.{◌≡◌, ℕ, ◌<◌, ◌⊎◌, List, [], ◌∷◌, ◌++◌, length, All, Option, Some, None, Result, Err}
use Rattle.std.specs.List.{flat_map}
use Rattle.std.specs.declared.net.socket_addr.SocketAddr.{SocketAddr}
use Rattle.message_core.specs.Canon.{canon_request}
use Rattle.message_core.specs.declared.binding.Binding.{Binding}
use Rattle.message_core.specs.declared.request.Request.{Request}
use Rattle.wire_core.specs.declared.wire.WireFault.TheVariants.{Receive, Send}
use Rattle.wire_core.specs.Acts.{Act, got, quiet, closed, sent, failed}
use Rattle.manager_core.specs.declared.fault.ManagerFault.{ManagerFault}
use Rattle.manager_core.specs.declared.fault.ManagerFault.TheVariants.{Timeout}
use Rattle.manager_core.specs.declared.asking.TheConstants.{RECEIVE_SPACE}
use Rattle.manager_core.specs.Replies.{IsHeard}

-- One try: the request could not be sent; or it was sent, and then nothing came, the wire was
-- closed, the receive failed, or this datagram came from this peer.
pub data Try : Type 0 where
  was_unsent : Try
  was_quiet : Try
  was_closed : Try
  was_broken : Try
  was_answered : SocketAddr → List ℕ → Try

-- What a try did on the wire, whose request has these octets.
abbrev pub try_acts : SocketAddr → List ℕ → Try → List Act
try_acts peer request was_unsent = failed Send ∷ []
try_acts peer request was_quiet = sent peer request ∷ quiet ∷ []
try_acts peer request was_closed = sent peer request ∷ closed ∷ []
try_acts peer request was_broken = sent peer request ∷ failed Receive ∷ []
try_acts peer request (was_answered from octets) =
    sent peer request ∷ got RECEIVE_SPACE from octets ∷ []

-- What becomes of an ask by a try: it is used up, or the ask ends so. Only a datagram ends an ask,
-- from whatever peer it came.
abbrev pub Becomes : Request → Try → Option (Result (List Binding) ManagerFault) → Type 0
Becomes r was_unsent end = end ≡ None
Becomes r was_quiet end = end ≡ None
Becomes r was_closed end = end ≡ None
Becomes r was_broken end = end ≡ None
Becomes r (was_answered from octets) end = IsHeard r octets end

abbrev pub IsUsedUp : Request → Try → Type 0
IsUsedUp r t = Becomes r t None

-- The ask ends by one of so many tries, and those before it are used up.
pub record IsEnded (r : Request) (tries : ℕ) (ts : List Try) (end : Result (List Binding) ManagerFault) : Type 0 where
  pub before : List Try
  pub last : Try
  pub parts : ts ≡ before ++ last ∷ []
  pub used : All (IsUsedUp r) before
  pub fewer : length before < tries
  pub ends : Becomes r last (Some end)

-- So many tries are used up, and there is none left.
pub record IsTimedOut (r : Request) (tries : ℕ) (ts : List Try) (end : Result (List Binding) ManagerFault) : Type 0 where
  pub used : All (IsUsedUp r) ts
  pub all : length ts ≡ tries
  pub fault : end ≡ Err (Timeout tries)

-- The tries of an ask, and how it ends.
abbrev pub IsAsk : Request → ℕ → List Try → Result (List Binding) ManagerFault → Type 0
IsAsk r tries ts end = IsEnded r tries ts end ⊎ IsTimedOut r tries ts end

-- What an ask did on the wire: each try sends the request's shortest encoding.
abbrev pub ask_acts : SocketAddr → Request → List Try → List Act
ask_acts peer r ts = flat_map (try_acts peer (canon_request r)) ts

-- Between two states of a wire a request was asked, in at most so many tries, and ended so.
abbrev pub HasAsked : {W : Type 0} → (W → List Act → W → Type 0) → SocketAddr → Request → ℕ → W → Result (List Binding) ManagerFault → W → Type 0
HasAsked went peer r tries a end b =
    (ts : List Try) × IsAsk r tries ts end × went a (ask_acts peer r ts) b
