-- `open` hands out the log under its name, and a front that has seen nothing of it.
use mathlib.Core.Path.{refl, sym, subst}
use mathlib.Core.List.{List, [], ◌∷◌, ◌++◌}
use Prim.Native.Nat.{ℕ}
use seplogic.Ra.Ura.{Ura}
use mir.Syntax.{Fn, Dict, dcons, dnil, a_type}
use mir.Val.{Val, vstruct, vcons, vnil, of_list}
use mir.MapTy.{inst_fn}
use base.Logic.{SProp, ent, via, fst∗, snd∗}
use base.Stored.{Coded}
use base.Fml.{Fml, ftrue, fsep, feq, flft}
use prog.Wp.{WpFn}
use prog.Model.{Model}
use types.Logic.{Logic, sem}
use contract.Monad.{fact_use}
use contract.Running.{Running, MachineTables, tables, tables_of}
use sound.WpLaws.{WpFn-mono}
use types.Kit.{‵, raw, ◌⊛◌, ◌$◌, ◌∵◌, !, qed, move, keep, split, join, fsplit, fjoin, fjoin3, fpack, suffices, frame, use0, use1, feq_i}
use types.Run.{no_more, and_then, returns, enter}
use types.ByLocal.{alloc_all, pass_all, free_all, look_at, get, sets}
use types.Part.{agg}
use denote.Exit.{no}
use denote.RattleType.{RattleType, Valss, owns}
use denote.Laws.{Are, Ises, owns_show, showss}
use denote.Signature.{types_at, plain}
use denote.Struct.Tuple.{Tuple}
use denote.Steps.{nothing}
use denote.Param.{param, bounded}
use denote.Triple.Clauses.{Clauses, closing}
use denote.Triple.Entry.{on_entry, alive}
use denote.Triple.Spec.{Meets, triple_of}
use denote.Triple.Table.{entered}
use denote.Triple.Walked.{Stays, stay_dropped, walk_of, ends_at, Goes-dropped, walk_Meets}
use contract.CodeStep
use Rattle.rising.specs.Owning.{log_owns, front_owns}
use Rattle.rising.specs.declared.logs.Naming.{Ghosts}
use Rattle.rising.proofs.LogSteps as steps
use Rattle.rising.specs.contracts.logs.BlankLog as blank
use Rattle.rising.specs.contracts.logs.Log as log
use Rattle.rising.specs.contracts.logs.Front as front
use Rattle.rising.proofs.Walks.{token, Mark, told, made, hears, hears_last, tells, tells_last}
use Rattle.rising.specs.contracts.logs.BlankLog.open.{ended, clauses}
use Rattle.rising.specs.contracts.logs.BlankLog.open.Key.{name as #self}
use Rattle.rising.proofs.logs.BlankLog.open.Statement as stated
use Rattle.rising.proofs.logs.BlankLog.open.Code as code

module _ (E Y : RattleType) (g : Ghosts Y.Denot) (d : Dict) {M : Type 1} {𝓤 : Ura M} (𝓛 : Logic 𝓤) (𝓜 : Model 𝓤 𝓛.H) (𝓡 : Running 𝓤 𝓛.H 𝓜) where
  open 𝓛 use {H}

  abbrev cv : Coded (param 0 E).Denot
  cv = (param 0 E).coded

  abbrev function : Fn
  function = inst_fn (bounded (a_type ∷ a_type ∷ []) (E, (Y, tt)) (dcons d dnil)) code.function

  abbrev A : RattleType
  A = log.the_row (param 0 E) (param 1 Y) g

  abbrev B : RattleType
  B = front.the_row (param 0 E) (param 1 Y) g

  abbrev stayed : Stays (ended E Y g d).signature.params (ended E Y g d).kept
  stayed = (stay_dropped (plain (λ _. (blank.the_row (param 0 E)))) no, tt)

  abbrev 𝓣 : MachineTables 𝓤 H 𝓜
  𝓣 = tables 𝓤 H 𝓜 𝓡 𝓡.env

  abbrev held : Clauses 𝓤 (ended E Y g d)
  held = clauses E Y g d 𝓛 𝓜.mem 𝓡.returns

  module _ (z : (walk_of 𝓛 (ended E Y g d) stayed held).Ghost) where
    abbrev Vss : Type 0
    Vss = List Val × Unit {0}

    abbrev At : Vss → (walk_of 𝓛 (ended E Y g d) stayed held).Ghost
    At vss = ((z.0.0, z.0.1, z.0.2, z.0.3, vss), z.1)

    abbrev Goes : Vss → Type 1
    Goes vss = ent 𝓤 ((walk_of 𝓛 (ended E Y g d) stayed held).pre (At vss)) (WpFn 𝓤 H 𝓣.C 𝓣.Λ function ((walk_of 𝓛 (ended E Y g d) stayed held).args (At vss)) ((walk_of 𝓛 (ended E Y g d) stayed held).post (At vss)))

    abbrev a : (blank.the_row (param 0 E)).Denot
    a = z.0.3.0

    abbrev passed : Vss
    passed = (token ∷ [], tt)

    abbrev args : Fml
    args = owns (types_at (ended E Y g d).signature.params z.0.0) z.0.3 passed

    abbrev asked : SProp 𝓤
    asked = (held z.0.0 z.0.3).requires z.1

    walks : Goes passed
    walks =
        let log₀ : A.Denot = record { marker = record {}; log = [] } in let front₀ : B.Denot = record { marker = record {}; log = [] } in let v : Val = vstruct (vcons token (vcons token vnil)) in
        qed 𝓛 (((‵ (flft z.0.0.0 z.0.1.0) ⊛ ‵ (flft z.0.0.1.0 z.0.1.1.0) ⊛ ‵ ftrue) ⊛ ‵ args) ∷ raw asked ∷ []) ∵ move ! (1 ∷ []) $ hears ! (λ _. hears ! (λ _. hears_last ! (λ named. split ! $ move ! (1 ∷ []) $ fsplit ! $ fsplit ! $ keep ! (1 ∷ 3 ∷ []) $
        types.Kit.rewrite ! 0 (λ (p : ℕ). ‵ (log_owns cv p [])) {x = g.log_name} {y = a.name} named refl $ use1 𝓛 (‵ (log_owns cv g.log_name []) ⊛ ‵ (front_owns cv g.log_name [])) (steps.shows 𝓛 cv g.log_name []) $ split ! $
        enter ! 𝓣.C 𝓣.Λ function (token ∷ []) _ $ alloc_all ! (λ l. pass_all ! refl ((tt, (tt, tt)), tt) $ sets ! (agg ! (no_more !)) refl (tt, tt) $ sets ! (agg ! (and_then ! (get ! refl) (no_more !))) refl (tt, (tt, tt)) $ sets ! (agg ! (no_more !)) refl (tt, tt) $ sets ! (agg ! (and_then ! (get ! refl) (no_more !))) refl (tt, (tt, tt)) $
        sets ! (agg ! (and_then ! (get ! refl) (and_then ! (get ! refl) (no_more !)))) refl (tt, ((tt, tt), ((tt, tt), tt))) $
        returns ! (look_at ! 0 refl) $ free_all ! refl $ suffices ! _ (ends_at 𝓛 (ended E Y g d) stayed held (At passed) v (log₀, front₀) (tt, tt) (tt, tt)) $
        use0 𝓛 (‵ ((Mark (log.the_type (param 0 E) (param 1 Y) g).name (param 0 E ∷ param 1 Y ∷ []) (Tuple (param 0 E ∷ param 1 Y ∷ []))).own_val (tt, tt) (token ∷ []))) (made (log.the_type (param 0 E) (param 1 Y) g).name (param 0 E ∷ param 1 Y ∷ []) (Tuple (param 0 E ∷ param 1 Y ∷ [])) 𝓛) $ fjoin ! $ move ! (1 ∷ []) $ use0 𝓛 (‵ ((Mark (front.the_type (param 0 E) (param 1 Y) g).name (param 0 E ∷ param 1 Y ∷ []) (Tuple (param 0 E ∷ param 1 Y ∷ []))).own_val (tt, tt) (token ∷ []))) (made (front.the_type (param 0 E) (param 1 Y) g).name (param 0 E ∷ param 1 Y ∷ []) (Tuple (param 0 E ∷ param 1 Y ∷ [])) 𝓛) $ fjoin ! $ nothing ! $ move ! (2 ∷ 1 ∷ 0 ∷ []) $ fjoin3 ! $ feq_i ! (List Val) (v ∷ []) (v ∷ []) refl $ fjoin ! $
        fpack ! (Valss (A ∷ B ∷ [])) (λ vss. fsep (feq (List Val) (v ∷ []) (vstruct (of_list (vss.0 ++ (vss.1.0 ++ []))) ∷ [])) (owns (A ∷ B ∷ []) (log₀, (front₀, tt)) vss)) (token ∷ [], (token ∷ [], tt)) $
        nothing ! $ nothing ! $ fjoin ! $ join ! $ move ! (1 ∷ 0 ∷ []) $ join ! $ frame ! $ tells ! refl $ tells_last ! refl))))

  meets : Meets 𝓛 (ended E Y g d).signature (WpFn 𝓤 H 𝓣.C 𝓣.Λ function) (closing 𝓛 (ended E Y g d) held)
  unfolding tables_of contract.CodeStep.c_Tables
  meets =
      walk_Meets 𝓛 (ended E Y g d) stayed (Goes-dropped 𝓛 2 (plain (λ _. (blank.the_row (param 0 E)))) no (λ κs x f. refl), tt) held
      (WpFn 𝓤 H 𝓣.C 𝓣.Λ function) (WpFn-mono 𝓤 H 𝓛.laws (tables_of 𝓤 H 𝓜 𝓣) function)
      (λ z. let a = z.0.3 in let vss = z.0.4 in let Rs : List RattleType = types_at (ended E Y g d).signature.params z.0.0 in let On : SProp 𝓤 = on_entry 𝓛 (ended E Y g d).signature z.0.0 z.0.1 a vss in
      fact_use 𝓤 (Are Rs (Ises Rs) a vss) (via 𝓤 (sem 𝓛 (owns Rs a vss)) (via 𝓤 On (fst∗ 𝓤 On (asked z)) (snd∗ 𝓤 (alive 𝓛 (ended E Y g d).signature z.0.0 z.0.1) (sem 𝓛 (owns Rs a vss)))) (owns_show 𝓛 Rs (Ises Rs) (showss 𝓛 Rs) a vss)) (λ are.
      subst (Goes z) (λ i. (sym (told (blank.the_type (param 0 E)).name (param 0 E ∷ []) (param 0 E) vss.0 are.0.0) i, tt)) (walks z)))

pub open_spec : {M : Type 1} → stated.statement M
open_spec 𝓤 𝓛 𝓜 𝓡 wired E Y _ laws g d _ = let 𝓣' = tables 𝓤 𝓛.H 𝓜 𝓡 𝓡.env in
    entered 𝓤 𝓛.H (triple_of 𝓛 (ended E Y g d).signature (closing 𝓛 (ended E Y g d) (held E Y g d 𝓛 𝓜 𝓡))) 𝓣'.C 𝓣'.Λ (#self (bounded (a_type ∷ a_type ∷ []) (E, (Y, tt)) (dcons d dnil))) (function E Y g d 𝓛 𝓜 𝓡)
    (code.unfolded 𝓤 𝓛.H 𝓜 𝓡 wired (E, (Y, tt)) d) (meets E Y g d 𝓛 𝓜 𝓡)
