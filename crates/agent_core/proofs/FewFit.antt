-- How few bindings fit into a reply.
use Rattle.std.proofs.Common.{◌≡◌, ℕ, ◌+◌, ◌*◌, ◌/◌, ◌<◌, ◌≤◌, List, [], ◌∷◌, length, arith}
use Rattle.message_core.specs.declared.limits.TheConstants.{MAX_REPLY}
use Rattle.message_core.specs.declared.binding.Binding.{Binding}
use Rattle.message_core.proofs.Smallest.{binding_some}
use Rattle.agent_core.specs.Fitting.{total, least_binding, most_successors}
use Rattle.agent_core.proofs.Fits.{total-append, total_one}

pub total_some : (bs : List Binding) → 6 * length bs ≤ total bs
total_some [] = omega arith
total_some (b ∷ bs) =
    let more : 6 * length bs ≤ total bs = total_some bs in
    let sum : total (b ∷ bs) ≡ total (b ∷ []) + total bs = total-append (b ∷ []) bs in
    omega (arith, more, binding_some b, total_one b, sum)

-- for bindings that fit, and one more, there is memory
pub reserved : (bs : List Binding) (used space capacity : ℕ) → used ≡ total bs → used ≤ space → space / least_binding < capacity → length bs < capacity
reserved bs used space capacity is within some =
    let six : 6 * length bs ≤ total bs = total_some bs in
    omega (arith, six, is, within, some)

-- and one successor more
pub few_sent : (bs : List Binding) (space : ℕ) → total bs ≤ space → space ≤ MAX_REPLY → length bs < most_successors
few_sent bs space within most =
    let six : 6 * length bs ≤ total bs = total_some bs in
    omega (arith, six, within, most)
