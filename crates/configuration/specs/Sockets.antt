-- Values that have to be under a key, or may be; and values that write the address of a socket.
use Rattle.std.specs.Prelude.{◌≡◌, ℕ, is_some, if◌then◌else◌, List, Option, Some, None}
use Rattle.std.specs.declared.net.socket_addr.SocketAddr.{SocketAddr}
use Rattle.std.specs.Net.Grammar.{IsSocketText}
use Rattle.toml.specs.Data.{Data, Members, get_member, as_str}

-- a value is there, and it stands for this
abbrev pub IsRequired : {A : Type 0} → (Data → A → Type 0) → Option Data → A → Type 0
IsRequired Is None a = ⊥
IsRequired Is (Some d) a = Is d a

-- no value is there, or it stands for this
abbrev pub IsOptional : {A : Type 0} → (Data → A → Type 0) → Option Data → Option A → Type 0
IsOptional Is None o = o ≡ None
IsOptional Is (Some d) None = ⊥
IsOptional Is (Some d) (Some a) = Is d a

-- the text is the address of a socket
abbrev pub IsSocketOf : Option (List ℕ) → SocketAddr → Type 0
IsSocketOf None a = ⊥
IsSocketOf (Some text) a = IsSocketText text a

-- the value is a string that writes this address
abbrev pub IsSocket : Data → SocketAddr → Type 0
IsSocket d a = IsSocketOf (as_str d) a

-- what stands under the key is the address of a socket
abbrev pub HasSocket : List ℕ → Members → Type 0
HasSocket key ms = (a : SocketAddr) × IsRequired IsSocket (get_member key ms) a

abbrev pub LacksSocket : List ℕ → Members → Type 0
LacksSocket key ms = (a : SocketAddr) → ¬ IsRequired IsSocket (get_member key ms) a

-- nothing stands under the key, or the address of a socket
abbrev pub MayHaveSocket : List ℕ → Members → Type 0
MayHaveSocket key ms = (o : Option SocketAddr) × IsOptional IsSocket (get_member key ms) o

-- something else does
abbrev pub HasNoSocket : List ℕ → Members → Type 0
HasNoSocket key ms = (o : Option SocketAddr) → ¬ IsOptional IsSocket (get_member key ms) o

-- 1 where something is under the key
abbrev pub count_at : List ℕ → Members → ℕ
count_at key ms = if is_some (get_member key ms) then 1 else 0
