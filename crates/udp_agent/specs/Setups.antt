-- What a setup holds, and when there is one.
use Rattle.std.specs.Prelude.{◌≡◌, List, map, Option, Some, None, All}
use Rattle.frame_core.specs.declared.mac.Mac.{Mac}
use Rattle.configuration.specs.declared.configuration.Port.{Port}
use Rattle.configuration.specs.declared.configuration.Serve.{Serve}
use Rattle.udp_agent.specs.declared.setup.PortSockets.{PortSockets}
use Rattle.udp_agent.specs.declared.setup.Setup.{Setup}
use Rattle.udp_agent.specs.declared.setup.Unserved.{Unserved}
use Rattle.udp_agent.specs.declared.setup.Unserved.TheVariants.{NoServe, NoSockets}

-- it is stated of a port that its frames come in and go there
pub record IsSockets (port : Port) (sockets : PortSockets) : Type 0 where
  pub listens_at : port.listen ≡ Some sockets.listen
  pub sends_to : port.peer ≡ Some sockets.peer

-- it is stated of a port where its frames come in, and where they go
pub record HasSockets (port : Port) : Type 0 where
  pub sockets : PortSockets
  pub are : IsSockets port sockets

-- it is stated of these ports, one by one and in this order, that their frames come in and go there
pub record AreSockets (ports : List Port) (sockets : List PortSockets) : Type 0 where
  pub listen_at : map (λ port. port.listen) ports ≡ map (λ one. Some one.listen) sockets
  pub send_to : map (λ port. port.peer) ports ≡ map (λ one. Some one.peer) sockets

-- it is stated how to serve, and of each port where its frames come in and go
pub record HasSetup (ports : List Port) (serve : Option Serve) : Type 0 where
  pub how : Serve
  pub is : serve ≡ Some how
  pub sockets : All HasSockets ports

-- the setup of a bridge of this address and these ports
pub record IsSetup (address : Mac) (ports : List Port) (serve : Option Serve) (setup : Setup) : Type 0 where
  pub address_is : setup.address ≡ address
  pub ports_are : AreSockets ports setup.ports.items
  pub serve_is : serve ≡ Some setup.serve

-- it is stated how to serve, and not of each port where its frames come in and go
pub record LacksSockets (ports : List Port) (serve : Option Serve) : Type 0 where
  pub how : Serve
  pub is : serve ≡ Some how
  pub lacking : All HasSockets ports → ⊥

-- why ports and such a word of how to serve make no setup, if they make none
abbrev pub IsUnserved : List Port → Option Serve → Option Unserved → Type 0
IsUnserved ports serve None = HasSetup ports serve
IsUnserved ports serve (Some NoServe) = serve ≡ None
IsUnserved ports serve (Some NoSockets) = LacksSockets ports serve
