-- A Get of which no binding is denied: its reply is that where every name is seen.
use Rattle.std.proofs.Common.{◌≡◌, ◌∙◌, ℕ, ◌+◌, pos, ap, sym, refl, Bool, true, List, [], ◌∷◌, ◌++◌, All, Option, Some, None, ◌||◌}
use Rattle.std.specs.List.{list_any}
use Rattle.std.proofs.lemmas.List.Elements.{All-nil, All-cons, All-head, All-tail}
use Rattle.oid_core.specs.Order.{is_prefix}
use Rattle.message_core.specs.Canon.{answer_to}
use Rattle.message_core.specs.declared.binding.Binding.{Binding}
use Rattle.message_core.specs.declared.request.Kind.{Kind}
use Rattle.message_core.specs.declared.request.Kind.TheVariants.{Get, GetNext, Set, GetBulk}
use Rattle.message_core.specs.declared.request.Request.{Request}
use Rattle.message_core.specs.declared.status.ErrorStatus.TheVariants.{NoError}
use Rattle.message_core.specs.declared.value.Value.{Value}
use Rattle.message_core.specs.Instances.{value_of}
use Rattle.vacm_core.specs.declared.tables.FamilyRow.{FamilyRow}
use Rattle.vacm_core.specs.declared.verdict.FamilyAnswer.{FamilyAnswer}
use Rattle.vacm_core.specs.declared.verdict.FamilyAnswer.TheVariants.{Included, Excluded, NoRow}
use Rattle.vacm_core.specs.Families.{family_answer, is_included, in_view}
use Rattle.agent_core.specs.Lacking.{LacksNameOf}
use Rattle.agent_core.specs.Denying.{denial, denials, denied_in}
use Rattle.agent_core.specs.Reading.{visible, object_of, is_known, or_missing, get_answer, get_answers}
use Rattle.agent_core.specs.Replies.{kind_reply, reply_within_limit}
use Rattle.agent_core.proofs.Below.{value-shown}

-- every name is seen
abbrev every : List ℕ → Bool
every name = true

-- names of which none is denied are in the view
none_denied : (families : List FamilyRow) (view : List ℕ) (i : ℕ) (bs : List Binding) → denials families view i bs ≡ [] → All (λ b. in_view families view b.name ≡ true) bs
none_denied families view i [] e = All-nil (λ (b : Binding). in_view families view b.name ≡ true)
none_denied families view i (b ∷ bs) e = pick (family_answer families view b.name) refl e (λ none. none_denied families view (i + 1) bs none)
  where
    pick : (answer : FamilyAnswer) → family_answer families view b.name ≡ answer → denial families i answer ++ denials families view (i + 1) bs ≡ [] →
        (denials families view (i + 1) bs ≡ [] → All (λ a. in_view families view a.name ≡ true) bs) → All (λ a. in_view families view a.name ≡ true) (b ∷ bs)
    pick (Included n) is none more = All-cons (λ (a : Binding). in_view families view a.name ≡ true) b bs (ap is_included is) (more none)
    pick (Excluded n) is none more = absurd (cc)
    pick NoRow is none more = absurd (cc)

-- an object is known to who sees the asked name, whatever else is seen
known_seen : (shown : Bool) (rows others : List Binding) (object : Option (List ℕ)) → shown ≡ true → is_known true rows object ≡ is_known shown others object
known_seen shown rows others None e = refl
known_seen shown rows others (Some object) e = ap (λ b. b || list_any (λ row. is_prefix object row.name) others) (sym e)

-- the answer under a name that is in a view
answer_seen : (objects : List (List ℕ)) (shows : List ℕ → Bool) (rows : List Binding) (name : List ℕ) → shows name ≡ true → get_answer objects true (visible every rows) name ≡ get_answer objects (shows name) (visible shows rows) name
answer_seen objects shows rows name e =
    let values : value_of (visible every rows) name ≡ value_of (visible shows rows) name = sym (value-shown every rows name refl) ∙ value-shown shows rows name e in
    let known : is_known true (visible every rows) (object_of objects name) ≡ is_known (shows name) (visible shows rows) (object_of objects name) = known_seen (shows name) (visible every rows) (visible shows rows) (object_of objects name) e in
    ap (λ (v : Option Value). record { name = name; value = or_missing v (is_known true (visible every rows) (object_of objects name)) }) values
    ∙ ap (λ (k : Bool). record { name = name; value = or_missing (value_of (visible shows rows) name) k }) known

answers_seen : (objects : List (List ℕ)) (shows : List ℕ → Bool) (rows : List Binding) (asked : List Binding) → All (λ b. shows b.name ≡ true) asked → get_answers objects every rows asked ≡ get_answers objects shows rows asked
answers_seen objects shows rows [] all = refl
answers_seen objects shows rows (b ∷ bs) all =
    let here = answer_seen objects shows rows b.name (All-head (λ (a : Binding). shows a.name ≡ true) b bs all) in
    let more = answers_seen objects shows rows bs (All-tail (λ (a : Binding). shows a.name ≡ true) b bs all) in
    ap (λ z. z ∷ get_answers objects every rows bs) here ∙ ap (λ zs. get_answer objects (shows b.name) (visible shows rows) b.name ∷ zs) more

pub undenied : (families : List FamilyRow) (view : List ℕ) (objects : List (List ℕ)) (rows : List Binding) (request : Request) (kind : Kind) → kind ≡ Get → denied_in families view request kind ≡ [] →
    kind_reply objects (λ name. true) rows request kind ≡ kind_reply objects (in_view families view) rows request kind
undenied families view objects rows request Get is none =
    ap (λ (bs : List Binding). reply_within_limit (answer_to request NoError (pos 0) bs))
    (answers_seen objects (in_view families view) rows request.bindings (none_denied families view 1 request.bindings none))
undenied families view objects rows request GetNext is none = absurd (cc)
undenied families view objects rows request Set is none = absurd (cc)
undenied families view objects rows request GetBulk is none = absurd (cc)

-- a Get is not answered genErr for a name
pub unnamed_no : (shows others : List ℕ → Bool) (rows : List Binding) (request : Request) (kind : Kind) (i : ℕ) → kind ≡ Get → LacksNameOf shows rows request kind i → LacksNameOf others rows request kind i
unnamed_no shows others rows request Get i is h = h
unnamed_no shows others rows request GetNext i is h = absurd (cc)
unnamed_no shows others rows request Set i is h = absurd (cc)
unnamed_no shows others rows request GetBulk i is h = absurd (cc)
