-- A walk, one ask more.
use Rattle.std.proofs.Common.{◌≡◌, ℕ, ◌+◌, ◌<◌, List, [], ◌∷◌, ◌++◌, Result, Ok, Err, refl, sym, ap, subst, ◌∙◌, inl, inr, append-nil, append_assoc}
use Rattle.std.specs.declared.net.socket_addr.SocketAddr.{SocketAddr}
use Rattle.std.proofs.lemmas.Grind.{flat_map-append}
use Rattle.message_core.specs.declared.binding.Binding.{Binding}
use Rattle.wire_core.specs.Acts.{Act}
use Rattle.manager_core.specs.declared.fault.ManagerFault.{ManagerFault}
use Rattle.manager_core.specs.declared.fault.ManagerFault.TheVariants.{BadReply, Memory}
use Rattle.manager_core.specs.declared.walking.Step.TheVariants.{Found, Ended, Broken}
use Rattle.manager_core.specs.declared.walking.TheConstants.{MAX_NAMES}
use Rattle.manager_core.specs.Asks.{ask_acts}
use Rattle.manager_core.specs.Walks.{Asked, IsNext, EndsBy, IsWalk, step_of, with_front, walk_acts}

-- However a walk goes on from a name with this request-id, behind these asks and with these bindings
-- in front it is a walk from the root.
pub record Leads (community root : List ℕ) (tries id : ℕ) (name : List ℕ) (asks : List Asked) (found : List Binding) : Type 0 where
  pub leads : (rest : List Asked) (end : Result (List Binding) ManagerFault) → IsWalk community root tries id name rest end → IsWalk community root tries 1 root (asks ++ rest) (with_front found end)

front_none : (end : Result (List Binding) ManagerFault) → with_front [] end ≡ end
front_none (Ok bs) = refl
front_none (Err fault) = refl

front_more : (found : List Binding) (b : Binding) (end : Result (List Binding) ManagerFault) → with_front found (with_front (b ∷ []) end) ≡ with_front (found ++ b ∷ []) end
front_more found b (Ok bs) = ap Ok (sym (append_assoc found (b ∷ []) bs))
front_more found b (Err fault) = refl

pub leads_first : (community root : List ℕ) (tries : ℕ) (name : List ℕ) (found : List Binding) → name ≡ root → found ≡ [] → Leads community root tries 1 name [] found
leads_first community root tries name found same none = record {
  leads = λ rest end walks.
      subst (IsWalk community root tries 1 root rest) (sym (ap (λ bs. with_front bs end) none ∙ front_none end)) (subst (λ n. IsWalk community root tries 1 n rest end) same walks);
}

pub leads_more : (community root : List ℕ) (tries id : ℕ) (name : List ℕ) (asks : List Asked) (found : List Binding) (a : Asked) (b : Binding) (behind : List ℕ) (more : List Binding) → Leads community root tries id name asks found → IsNext community tries id name a → Found b ≡ step_of root name a.end → behind ≡ b.name → more ≡ found ++ b ∷ [] → Leads community root tries (id + 1) behind (asks ++ a ∷ []) more
leads_more community root tries id name asks found a b behind more before next step same longer = record {
  leads = λ rest end walks.
      let on : IsWalk community root tries (id + 1) b.name rest end = subst (λ n. IsWalk community root tries (id + 1) n rest end) same walks in
      let whole = before.leads (a ∷ rest) (with_front (b ∷ []) end) (next, inr (b, end, sym step, refl, on)) in
      subst (λ all. IsWalk community root tries 1 root all (with_front more end)) (sym (append_assoc asks (a ∷ []) rest)) (subst (IsWalk community root tries 1 root (asks ++ a ∷ rest)) (front_more found b end ∙ ap (λ bs. with_front bs end) (sym longer)) whole);
}

-- The walk ends by an ask: at the end of the subtree,
pub leads_ended : (community root : List ℕ) (tries id : ℕ) (name : List ℕ) (asks : List Asked) (found : List Binding) (a : Asked) → Leads community root tries id name asks found → IsNext community tries id name a → Ended ≡ step_of root name a.end → IsWalk community root tries 1 root (asks ++ a ∷ []) (Ok found)
leads_ended community root tries id name asks found a before next step =
    subst (λ bs. IsWalk community root tries 1 root (asks ++ a ∷ []) (Ok bs)) (append-nil found) (before.leads (a ∷ []) (Ok []) (next, inl (subst (λ s. EndsBy s [] (Ok [])) step (refl, refl))))

-- or by a fault.
pub leads_broken : (community root : List ℕ) (tries id : ℕ) (name : List ℕ) (asks : List Asked) (found : List Binding) (a : Asked) (fault : ManagerFault) → Leads community root tries id name asks found → IsNext community tries id name a → Broken fault ≡ step_of root name a.end → IsWalk community root tries 1 root (asks ++ a ∷ []) (Err fault)
leads_broken community root tries id name asks found a fault before next step =
    before.leads (a ∷ []) (Err fault) (next, inl (subst (λ s. EndsBy s [] (Err fault)) step (refl, refl)))

-- There is no memory for what comes next.
pub leads_short : (community root : List ℕ) (tries id : ℕ) (name : List ℕ) (asks : List Asked) (found : List Binding) → Leads community root tries id name asks found → IsWalk community root tries 1 root asks (Err Memory)
leads_short community root tries id name asks found before =
    subst (λ all. IsWalk community root tries 1 root all (Err Memory)) (append-nil asks) (before.leads [] (Err Memory) (inr refl))

-- There may be no more names.
pub leads_full : (community root : List ℕ) (tries id : ℕ) (name : List ℕ) (asks : List Asked) (found : List Binding) → Leads community root tries id name asks found → MAX_NAMES < id → IsWalk community root tries 1 root asks (Err BadReply)
leads_full community root tries id name asks found before full =
    subst (λ all. IsWalk community root tries 1 root all (Err BadReply)) (append-nil asks) (before.leads [] (Err BadReply) (inl (full, refl)))

walk_acts-snoc : (peer : SocketAddr) (asks : List Asked) (a : Asked) → walk_acts peer (asks ++ a ∷ []) ≡ walk_acts peer asks ++ ask_acts peer a.request a.tries
walk_acts-snoc peer asks a =
    flat_map-append (λ (x : Asked). ask_acts peer x.request x.tries) asks (a ∷ []) ∙ ap (λ acts. walk_acts peer asks ++ acts) (append-nil (ask_acts peer a.request a.tries))

pub one_ask_more : {W : Type 0} (went : W → List Act → W → Type 0) → ((a b c : W) (xs ys : List Act) → went a xs b → went b ys c → went a (xs ++ ys) c) → (w x y : W) (peer : SocketAddr) (asks : List Asked) (a : Asked) → went w (walk_acts peer asks) x → went x (ask_acts peer a.request a.tries) y → went w (walk_acts peer (asks ++ a ∷ [])) y
one_ask_more went goes_on w x y peer asks a before last =
    subst (λ acts. went w acts y) (sym (walk_acts-snoc peer asks a)) (goes_on w x y _ _ before last)
