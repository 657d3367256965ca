-- The walks of a manager through a subtree of names: GetNext, again and again (RFC 3416, section
-- 4.2.2).
use Rattle.std.specs.Prelude.{◌≡◌, ℕ, ◌+◌, ◌<◌, ◌≤◌, ◌⊎◌, pos, ◌||◌, not, Bool, true, false, if◌then◌else◌, List, [], ◌∷◌, ◌++◌, Result, Ok, Err}
use Rattle.std.specs.List.{flat_map}
use Rattle.std.specs.declared.net.socket_addr.SocketAddr.{SocketAddr}
use Rattle.oid_core.specs.Order.{is_prefix, name_lt}
use Rattle.message_core.specs.declared.value.Value.{Value}
use Rattle.message_core.specs.declared.value.Value.TheVariants.{Null, EndOfMibView}
use Rattle.message_core.specs.declared.binding.Binding.{Binding}
use Rattle.message_core.specs.declared.request.Kind.TheVariants.{GetNext}
use Rattle.message_core.specs.declared.request.Request.{Request}
use Rattle.wire_core.specs.Acts.{Act}
use Rattle.manager_core.specs.declared.fault.ManagerFault.{ManagerFault}
use Rattle.manager_core.specs.declared.fault.ManagerFault.TheVariants.{BadReply, NotIncreasing, Memory}
use Rattle.manager_core.specs.declared.walking.Step.{Step}
use Rattle.manager_core.specs.declared.walking.Step.TheVariants.{Found, Ended, Broken}
use Rattle.manager_core.specs.declared.walking.TheConstants.{MAX_NAMES}
use Rattle.manager_core.specs.Asks.{Try, IsAsk, ask_acts}

-- The request for what comes behind a name: a GetNext of it, whose value is NULL (RFC 3416, section
-- 4.2.2), of this community and request-id.
abbrev pub next_request : List ℕ → ℕ → List ℕ → Request
next_request community id name = record {
  kind = GetNext;
  id = pos id;
  first = pos 0;
  second = pos 0;
  community = community;
  bindings = record { name = name; value = Null } ∷ [];
}

abbrev pub is_end : Value → Bool
is_end EndOfMibView = true
is_end _ = false

-- What a walk through the subtree of a root, which asked for what comes behind a name, makes of the
-- one binding of an answer: it has ended at endOfMibView or at a name outside the subtree; a name
-- that is not greater is a fault; any other binding is found.
abbrev pub binding_step : List ℕ → List ℕ → Binding → Step
binding_step root name b =
    if is_end b.value || not (is_prefix root b.name) then Ended
    else if name_lt name b.name then Found b
    else Broken NotIncreasing

-- What it makes of an answer, which must have one binding.
abbrev pub step_of : List ℕ → List ℕ → Result (List Binding) ManagerFault → Step
step_of root name (Ok []) = Broken BadReply
step_of root name (Ok (b ∷ [])) = binding_step root name b
step_of root name (Ok (b ∷ c ∷ bs)) = Broken BadReply
step_of root name (Err fault) = Broken fault

-- A fact of the binding that a step found, if it found one.
abbrev pub IfFound : Step → (Binding → Type 0) → Type 0
IfFound (Found b) P = P b
IfFound Ended P = Unit {0}
IfFound (Broken fault) P = Unit {0}

-- One ask of a walk: its request, its tries, and how it ended.
pub record Asked : Type 0 where
  pub request : Request
  pub tries : List Try
  pub end : Result (List Binding) ManagerFault

-- These bindings, in front of those of a result.
abbrev pub with_front : List Binding → Result (List Binding) ManagerFault → Result (List Binding) ManagerFault
with_front front (Ok bs) = Ok (front ++ bs)
with_front front (Err fault) = Err fault

-- A walk ends by a step, with this result and no further ask.
abbrev pub EndsBy : Step → List Asked → Result (List Binding) ManagerFault → Type 0
EndsBy (Found b) asks result = ⊥
EndsBy Ended asks result = (asks ≡ []) × (result ≡ Ok [])
EndsBy (Broken fault) asks result = (asks ≡ []) × (result ≡ Err fault)

-- An ask of a walk that goes on from a name: for what comes behind it, with this request-id.
pub record IsNext (community : List ℕ) (tries id : ℕ) (name : List ℕ) (a : Asked) : Type 0 where
  pub within : id ≤ MAX_NAMES
  pub request : a.request ≡ next_request community id name
  pub ends : IsAsk a.request tries a.tries a.end

-- The asks of a walk that goes on from a name with this request-id, and its result: the walk ends by
-- the first ask, or finds a binding by it and goes on from its name. It goes no further with
-- BadReply where it has found as many names as it may. It may go no further with Memory: each request
-- takes some, and so does each binding that is found.
abbrev pub IsWalk : List ℕ → List ℕ → ℕ → ℕ → List ℕ → List Asked → Result (List Binding) ManagerFault → Type 0
IsWalk community root tries id name [] result =
    ((MAX_NAMES < id) × (result ≡ Err BadReply)) ⊎ (result ≡ Err Memory)
IsWalk community root tries id name (a ∷ asks) result =
    IsNext community tries id name a × (EndsBy (step_of root name a.end) asks result ⊎ ((b : Binding) × (rest : Result (List Binding) ManagerFault) × (step_of root name a.end ≡ Found b) × (result ≡ with_front (b ∷ []) rest) × IsWalk community root tries (id + 1) b.name asks rest))

-- What the asks did on the wire.
abbrev pub walk_acts : SocketAddr → List Asked → List Act
walk_acts peer asks = flat_map (λ a. ask_acts peer a.request a.tries) asks

-- Between two states of a wire there was a walk through the subtree of a root, with this result. Its
-- request-ids begin with 1.
abbrev pub HasWalked : {W : Type 0} → (W → List Act → W → Type 0) → SocketAddr → List ℕ → List ℕ → ℕ → W → Result (List Binding) ManagerFault → W → Type 0
HasWalked went peer community root tries a result b =
    (asks : List Asked) × IsWalk community root tries 1 root asks result × went a (walk_acts peer asks) b
