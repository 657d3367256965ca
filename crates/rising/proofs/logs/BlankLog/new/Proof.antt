-- `new` makes a log that has no entry.
use mathlib.Core.Path.{refl}
use mathlib.Core.List.{[], ◌∷◌}
use Prim.Native.Nat.{ℕ}
use seplogic.Ra.Ura.{Ura}
use mir.Syntax.{Fn, dnil, a_type}
use mir.MapTy.{inst_fn}
use base.Logic.{SProp, ent}
use base.Stored.{Coded}
use base.Fml.{Fml, ftrue, flft}
use prog.Wp.{WpFn}
use prog.Model.{Model}
use types.Logic.{Logic}
use contract.Running.{Running, MachineTables, tables, tables_of}
use sound.WpLaws.{WpFn-mono}
use types.Kit.{‵, raw, ◌⊛◌, some, later, ◌$◌, ◌∵◌, !, qed, move, keep, split, join, fjoin, pick, suffices, frame, use0, await, done}
use types.Run.{no_more, and_then, returns, enter}
use types.ByLocal.{alloc_all, pass_all, free_all, look_at, get, sets}
use types.Part.{agg}
use denote.RattleType.{RattleType, owns}
use denote.Signature.{types_at}
use denote.Param.{param, bounded}
use denote.Steps.{nothing}
use denote.Triple.Clauses.{Clauses, closing}
use denote.Triple.Spec.{Meets, triple_of}
use denote.Triple.Table.{entered}
use denote.Triple.Walked.{Stays, walk_of, ends_at, walk_Meets}
use contract.CodeStep
use Rattle.rising.specs.Owning.{log_owns}
use Rattle.rising.specs.contracts.logs.BlankLog as blank
use Rattle.rising.proofs.LogSteps as steps
use Rattle.rising.proofs.Walks.{token, Mark, made}
use Rattle.rising.specs.contracts.logs.BlankLog.new.{ended, clauses}
use Rattle.rising.specs.contracts.logs.BlankLog.new.Key.{name as #self}
use Rattle.rising.proofs.logs.BlankLog.new.Statement as stated
use Rattle.rising.proofs.logs.BlankLog.new.Code as code

module _ (E : RattleType) {M : Type 1} {𝓤 : Ura M} (𝓛 : Logic 𝓤) (𝓜 : Model 𝓤 𝓛.H) (𝓡 : Running 𝓤 𝓛.H 𝓜) where
  open 𝓛 use {H}

  abbrev cv : Coded (param 0 E).Denot
  cv = (param 0 E).coded

  abbrev function : Fn
  function = inst_fn (bounded (a_type ∷ []) (E, tt) dnil) code.function

  abbrev stayed : Stays (ended E).signature.params (ended E).kept
  stayed = tt

  abbrev 𝓣 : MachineTables 𝓤 H 𝓜
  𝓣 = tables 𝓤 H 𝓜 𝓡 𝓡.env

  abbrev held : Clauses 𝓤 (ended E)
  held = clauses E 𝓛 𝓜.mem 𝓡.returns

  module _ (z : (walk_of 𝓛 (ended E) stayed held).Ghost) where
    abbrev args : Fml
    args = owns (types_at (ended E).signature.params z.0.0) z.0.3 z.0.4

    abbrev asked : SProp 𝓤
    asked = (held z.0.0 z.0.3).requires z.1

    walks : ent 𝓤 ((walk_of 𝓛 (ended E) stayed held).pre z) (WpFn 𝓤 H 𝓣.C 𝓣.Λ function ((walk_of 𝓛 (ended E) stayed held).args z) ((walk_of 𝓛 (ended E) stayed held).post z))
    walks =
        qed 𝓛 (((‵ (flft z.0.0.0 z.0.1.0) ⊛ ‵ ftrue) ⊛ ‵ args) ∷ raw asked ∷ []) ∵ split ! $ keep ! (0 ∷ []) $ enter ! 𝓣.C 𝓣.Λ function [] _ $ alloc_all ! (λ l. pass_all ! refl tt $
        use0 𝓛 (later (some (λ (γ : ℕ). ‵ (log_owns cv γ [])))) (steps.begins 𝓛 cv) $ await ! tt $ pick ! (λ γ. sets ! (agg ! (no_more !)) refl (tt, tt) $ sets ! (agg ! (and_then ! (get ! refl) (no_more !))) refl (tt, (tt, tt)) $
        returns ! (look_at ! 0 refl) $ free_all ! refl $ suffices ! _ (ends_at 𝓛 (ended E) stayed held z token record { marker = record {}; name = γ } tt tt) $
        use0 𝓛 (‵ ((Mark (blank.the_type (param 0 E)).name (param 0 E ∷ []) (param 0 E)).own_val (tt, tt) (token ∷ []))) (made (blank.the_type (param 0 E)).name (param 0 E ∷ []) (param 0 E) 𝓛) $ fjoin ! $ nothing ! $ join ! $ move ! (1 ∷ []) $ join ! $ frame ! $ nothing ! $ done !))

  meets : Meets 𝓛 (ended E).signature (WpFn 𝓤 H 𝓣.C 𝓣.Λ function) (closing 𝓛 (ended E) held)
  unfolding tables_of contract.CodeStep.c_Tables
  meets = walk_Meets 𝓛 (ended E) stayed tt held (WpFn 𝓤 H 𝓣.C 𝓣.Λ function) (WpFn-mono 𝓤 H 𝓛.laws (tables_of 𝓤 H 𝓜 𝓣) function) walks

pub new_spec : {M : Type 1} → stated.statement M
new_spec 𝓤 𝓛 𝓜 𝓡 wired E _ = let 𝓣' = tables 𝓤 𝓛.H 𝓜 𝓡 𝓡.env in
    entered 𝓤 𝓛.H (triple_of 𝓛 (ended E).signature (closing 𝓛 (ended E) (held E 𝓛 𝓜 𝓡))) 𝓣'.C 𝓣'.Λ (#self (bounded (a_type ∷ []) (E, tt) dnil)) (function E 𝓛 𝓜 𝓡)
    (code.unfolded 𝓤 𝓛.H 𝓜 𝓡 wired (E, tt)) (meets E 𝓛 𝓜 𝓡)
