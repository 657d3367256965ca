-- Where reading a policy takes memory.
use Rattle.std.proofs.Common.{◌≡◌, List, [], ◌∷◌, Option, Some, Result, Ok, Err, inl, inr}
use Rattle.std.specs.Prelude.{IfErr}
use Rattle.toml.specs.Data.{Data, Members}
use Rattle.community_core.specs.declared.fault.PolicyFault.{PolicyFault}
use Rattle.community_core.specs.declared.fault.PolicyFault.TheVariants.{Memory}
use Rattle.vacm_core.specs.declared.fault.VacmTable.{VacmTable}
use Rattle.vacm_core.specs.declared.fault.VacmTable.TheVariants.{Groups, Access, Families, Contexts}
use Rattle.vacm_core.specs.Rules.{Rules, BeginsRight}
use Rattle.vacm_core.specs.Faults.{BeginsRightIn}
use Rattle.vacm_core.specs.Rows.{group_rules, access_rules, family_rules, context_rules}
use Rattle.community_core.specs.declared.policy.PolicyRows.{PolicyRows}
use Rattle.community_core.specs.Communities.{community_rules}
use Rattle.policy_text.specs.Reading.{AreRows, BeginsTyped, group_says, access_says, family_says, context_says, community_says, IsGroup, IsAccess, IsFamily, IsContext, IsCommunity}
use Rattle.policy_text.specs.Typed.{group_typed, access_typed, family_typed, context_typed, community_typed}
use Rattle.policy_text.specs.Policies.{Arrays, arrays_of, AreRowsOf, SaysRows, ReadingTakesMemoryOf, ReadingTakesMemory, TakesMemoryOf, TakesMemory, RowsTakeMemory}

-- an array whose first row is right begins with a value that is typed as a row
begins : {W R : Type 0} (rules : Rules W R) (says : Data → Option W → Type 0) (typed : Data → Type 0) → ((d : Data) (w : W) → says d (Some w) → typed d) → (ds : List Data) (ws : List W) → AreRows says ds ws → BeginsRight rules ws → BeginsTyped typed ds
begins rules says typed law ds [] are right = absurd right
begins rules says typed law [] (w ∷ ws) are right = absurd are
begins rules says typed law (d ∷ ds) (w ∷ ws) are right = law d w are.0

checks_take : (a : Arrays) (rows : PolicyRows) → AreRowsOf a rows → (table : VacmTable) → BeginsRightIn table rows.vacm → ReadingTakesMemoryOf a
checks_take a rows say Groups b = inl (begins group_rules group_says IsGroup group_typed a.groups rows.vacm.groups say.groups b)
checks_take a rows say Access b =
    inr (inl ((rows.vacm.groups, say.groups), begins access_rules access_says IsAccess access_typed a.access rows.vacm.access say.access b))
checks_take a rows say Families b =
    inr (inr (inl ((rows.vacm.groups, say.groups), (rows.vacm.access, say.access), begins family_rules family_says IsFamily family_typed a.families rows.vacm.families say.families b)))
checks_take a rows say Contexts b =
    inr (inr (inr (inl ((rows.vacm.groups, say.groups), (rows.vacm.access, say.access), (rows.vacm.families, say.families), begins context_rules context_says IsContext context_typed a.contexts rows.vacm.contexts say.contexts b))))

rows_take : (a : Arrays) (rows : PolicyRows) → AreRowsOf a rows → RowsTakeMemory rows → TakesMemoryOf a
rows_take a rows say (inl t) = inl (checks_take a rows say t.table t.begins)
rows_take a rows say (inr (right, inl b)) =
    inl (inr (inr (inr (inr ((rows.vacm.groups, say.groups), (rows.vacm.access, say.access), (rows.vacm.families, say.families), (rows.vacm.contexts, say.contexts), begins community_rules community_says IsCommunity community_typed a.communities rows.communities say.communities b)))))
rows_take a rows say (inr (right, inr all)) =
    inr ((rows.vacm.groups, say.groups), (rows.vacm.access, say.access), (rows.vacm.families, say.families), (rows.vacm.contexts, say.contexts), (rows.communities, say.communities))

-- where reading the arrays of a table takes memory, reading the table does
pub arrays_take : {X : Type 0} (ms : Members) (a : Arrays) (result : Result X PolicyFault) → arrays_of ms ≡ Some a → IfErr result (λ e. e ≡ Memory → ReadingTakesMemoryOf a) → IfErr result (λ e. e ≡ Memory → ReadingTakesMemory ms)
arrays_take ms a (Ok x) are h = tt
arrays_take ms a (Err e) are h = λ is. record { arrays = a; are = are; reading = h is }

-- and the policy of the table does
pub reading_takes : (ms : Members) → ReadingTakesMemory ms → TakesMemory ms
reading_takes ms t = record { arrays = t.arrays; are = t.are; reading = inl t.reading }

-- where making the policy of the rows that a table says takes memory, the policy of the table does
pub memory_by : {X : Type 0} (ms : Members) (rows : PolicyRows) (result : Result X PolicyFault) → SaysRows ms rows → IfErr result (λ e. e ≡ Memory → RowsTakeMemory rows) → IfErr result (λ e. e ≡ Memory → TakesMemory ms)
memory_by ms rows (Ok x) stated h = tt
memory_by ms rows (Err e) stated h = λ is. record { arrays = stated.arrays; are = stated.are; reading = rows_take stated.arrays rows stated.say (h is) }
