-- What contracts see of an object: its descriptor, and what it has reserved for the Set that is
-- being made, by place.
use Rattle.std.specs.Prelude.{List, []}
use Rattle.setphase_core.specs.declared.object.Reservation.{Reservation}

pub record WritableObject (D : Type 0) : Type 0 where
  pub which : D
  pub reserved : List Reservation

-- The object of a descriptor, as it is made.
abbrev pub idle : {D : Type 0} → D → WritableObject D
idle which = record { which = which; reserved = [] }
