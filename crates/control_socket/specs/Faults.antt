-- The sentence on why there is no control socket at a path. Of a fault of the system no clause has the words.
use Rattle.std.specs.Prelude.{ℕ, codes, List, Option, Some, None}
use Rattle.control_socket.specs.declared.fault.ControlFault.{ControlFault}
use Rattle.control_socket.specs.declared.fault.ControlFault.TheVariants.{NoDirectory, OpenDirectory, OtherOwner, OtherFile, InUse, System}

abbrev pub fault_text : ControlFault → Option (List ℕ)
fault_text NoDirectory = Some (codes "the control socket is in no directory")
fault_text OpenDirectory = Some (codes "the control socket's directory is open to others; its mode has to be 700")
fault_text OtherOwner = Some (codes "the control socket's directory is another user's")
fault_text OtherFile = Some (codes "the control socket's path names a file that is no socket")
fault_text InUse = Some (codes "the control socket's path names a socket that is in use")
fault_text (System error) = None
