-- What a worker does where a request happens, one thing behind another.
use Rattle.std.proofs.Common.{List, [], ◌∷◌, ◌++◌, ℕ}
use Rattle.wire_core.specs.Acts.{Act}
use Rattle.live_agent.specs.Deeds.{Deed, acted, visited, before, all_acted}

-- The datagram came, the gate was visited, packets were sent, and then this was done.
pub taken_deeds : {W : Type 0} (went : W → List Act → W → Type 0) (did : W → List Deed → W → Type 0)
    → ((a b : W) (acts : List Act) → went a acts b → did a (all_acted acts) b)
    → ((a b c : W) (xs ys : List Deed) → did a xs b → did b ys c → did a (xs ++ ys) c)
    → (a b c d e : W) (worker : ℕ) (came : Act) (sent : List Act) (behind : List Deed)
    → went a (came ∷ []) b → did b (visited (before worker) ∷ []) c → went c sent d → did d behind e
    → did a (acted came ∷ visited (before worker) ∷ (all_acted sent ++ behind)) e
taken_deeds went did acts_are on a b c d e worker came sent behind first reported sends last =
    on a b e (acted came ∷ []) (visited (before worker) ∷ (all_acted sent ++ behind)) (acts_are a b (came ∷ []) first)
    (on b c e (visited (before worker) ∷ []) (all_acted sent ++ behind) reported
    (on c d e (all_acted sent) behind (acts_are c d sent sends) last))
