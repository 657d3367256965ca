-- What the code's commands stand for.
use Rattle.agent_script.specs.declared.commands.Command.{Command as Read}
use Rattle.agent_script.specs.declared.commands.Command.TheVariants.{Request, Frame, Tick, Link, Policy, Audit, Counts, Driver}
use Rattle.agent_script.specs.Commands.{Command, request, frame, tick, link, policy, audit, counts, driver}

abbrev pub command_view : Read → Command
command_view (Request datagram) = request datagram.items
command_view (Frame port octets) = frame port octets.items
command_view (Tick seconds) = tick seconds
command_view (Link port up) = link port up
command_view Policy = policy
command_view (Audit on) = audit on
command_view Counts = counts
command_view (Driver plan) = driver plan
