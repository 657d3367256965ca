-- Where walks stand at the names of the bindings that are to be sent.
use Rattle.std.proofs.Common.{◌≡◌, ◌∙◌, ℕ, ◌+◌, ◌<◌, List, [], ◌∷◌, ◌++◌, length, get_or, length-append, refl, sym, ap, subst, arith, Result, Ok, Err, IfOk, IsTrue, true, false, Bool, inl, inr}
use Rattle.std.proofs.lemmas.Bool.{cases_lt}
use Rattle.std.proofs.lemmas.List.{get_or_append_left, map-append}
use Rattle.std.proofs.Math.Seq.{get_or-append_seam}
use Rattle.std.specs.Prelude.{OnErr}
use Rattle.message_core.specs.declared.binding.Binding.{Binding}
use Rattle.message_core.specs.Instances.{names_of}
use Rattle.agent_core.specs.declared.source.Stand.{Stand}
use Rattle.agent_core.specs.Sending.{Sending, AreStands}

module _ (P : Stand → List ℕ → Type 0) where
  -- one more at the end
  one_more : (places : List Stand) (stand : Stand) (names : List (List ℕ)) (name : List ℕ) → AreStands P places names → P stand name →
      AreStands P (places ++ stand ∷ []) (names ++ name ∷ [])
  one_more places stand names name h is = record {
    within = omega (arith, h.within, lens, lenn);
    each = each;
  }
    where
      lens : length (places ++ stand ∷ []) ≡ length places + 1
      lens = length-append places (stand ∷ [])

      lenn : length (names ++ name ∷ []) ≡ length names + 1
      lenn = length-append names (name ∷ [])

      each : (k : ℕ) (x : Stand) → k < length (places ++ stand ∷ []) → P (get_or (places ++ stand ∷ []) k x) (get_or (names ++ name ∷ []) k [])
      each k x l = elim (cases_lt k (length places)) [
        | inl less ↦
            let here : get_or (places ++ stand ∷ []) k x ≡ get_or places k x = get_or_append_left places (stand ∷ []) x k less in
            let there : get_or (names ++ name ∷ []) k [] ≡ get_or names k [] = get_or_append_left names (name ∷ []) [] k (omega (arith, less, h.within)) in
            subst (λ n. P (get_or (places ++ stand ∷ []) k x) n) (sym there) (subst (λ s. P s (get_or names k [])) (sym here) (h.each k x less))
        | inr le ↦
            let end : k ≡ length places = omega (arith, le, l, lens) in
            let last : k ≡ length names = omega (arith, end, h.within) in
            let here : get_or (places ++ stand ∷ []) k x ≡ stand = ap (λ i. get_or (places ++ stand ∷ []) i x) end ∙ get_or-append_seam places stand [] x in
            let there : get_or (names ++ name ∷ []) k [] ≡ name = ap (λ i. get_or (names ++ name ∷ []) i []) last ∙ get_or-append_seam names name [] [] in
            subst (λ n. P (get_or (places ++ stand ∷ []) k x) n) (sym there) (subst (λ s. P s name) (sym here) is)
      ]

  -- behind an offer
  pub offered : {E : Type 0} (result : Result Bool E) (old new : Sending) (b : Binding) (s : Stand) → AreStands P old.stands (names_of old.bindings) → P s b.name →
      IfOk result (λ taken. IsTrue taken → new.bindings ≡ old.bindings ++ b ∷ []) → IfOk result (λ taken. IsTrue taken → new.stands ≡ old.stands ++ s ∷ []) →
      IfOk result (λ taken. taken ≡ false → new ≡ old) → OnErr result (new ≡ old) → AreStands P new.stands (names_of new.bindings)
  offered (Ok true) old new b s h is bindings stands full err =
      let names : names_of new.bindings ≡ names_of old.bindings ++ b.name ∷ [] = ap names_of (bindings refl) ∙ map-append (λ (x : Binding). x.name) old.bindings (b ∷ []) in
      subst (λ ns. AreStands P new.stands ns) (sym names) (subst (λ ks. AreStands P ks (names_of old.bindings ++ b.name ∷ [])) (sym (stands refl))
      (one_more old.stands s (names_of old.bindings) b.name h is))
  offered (Ok false) old new b s h is bindings stands full err = subst (λ (x : Sending). AreStands P x.stands (names_of x.bindings)) (sym (full refl)) h
  offered (Err e) old new b s h is bindings stands full err = subst (λ (x : Sending). AreStands P x.stands (names_of x.bindings)) (sym err) h
