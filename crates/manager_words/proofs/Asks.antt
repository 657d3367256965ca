-- What the words of a request ask for.
use Rattle.std.proofs.Common.{◌≡◌, ◌∙◌, ℕ, ℤ, List, Option, Some, None, Result, Ok, Err, sym, subst}
use Rattle.clap.specs.Words.{Row, Text, all_of, one_of}
use Rattle.std.specs.Prelude.{codes}
use Rattle.message_core.specs.declared.binding.Binding.{Binding}
use Rattle.message_core.specs.declared.request.Kind.{Kind}
use Rattle.message_core.specs.declared.request.Kind.TheVariants as kind
use Rattle.manager_core.specs.declared.run.ManagerOperation.{ManagerOperation}
use Rattle.manager_words.specs.declared.fault.WordsFault.{WordsFault}
use Rattle.manager_words.specs.Bindings.{Reads, AreSomeTexts}
use Rattle.manager_words.specs.Requests.{AreGiven, AreNames, AreSettings, AsksBy, IsAskOf, IsBulkNumber, IsBulkOf, first_request}
use Rattle.manager_words.proofs.Listed.{same_texts}
use Rattle.manager_words.proofs.Spelled.{same_asked, same_setting}

one_some : {X : Type 0} (o : Option X) (a b : X) → o ≡ Some a → o ≡ Some b → a ≡ b
one_some o a b p q = cc

-- the bindings of the words under an id
pub texts_given : (IsText : List ℕ → Binding → Type 0) (id : Text) (rows : List Row) (words : List Text) (r : Result (List Binding) WordsFault) → all_of id rows ≡ Some words → Reads (AreSomeTexts IsText words) r → Reads (AreGiven IsText id rows) r
texts_given IsText id rows words (Ok bs) given reads =
    record { words = words; given = given; texts = reads }
texts_given IsText id rows words (Err f) given none = λ other bs is.
    let same = one_some (all_of id rows) is.words words is.given given in
    none other bs (subst (λ (ws : List Text). AreSomeTexts IsText ws bs) same is.texts)

-- no words are under it
pub none_given : (IsText : List ℕ → Binding → Type 0) (id : Text) (rows : List Row) → all_of id rows ≡ None → (bs : List Binding) → ¬ AreGiven IsText id rows bs
none_given IsText id rows none bs is = let given = is.given in cc

-- they are those of one list of bindings
one_given : (IsText : List ℕ → Binding → Type 0) → ((word : List ℕ) (a b : Binding) → IsText word a → IsText word b → a ≡ b) → (id : Text) (rows : List Row) (xs ys : List Binding) → AreGiven IsText id rows xs → AreGiven IsText id rows ys → xs ≡ ys
one_given IsText one id rows xs ys p q =
    let same = one_some (all_of id rows) p.words q.words p.given q.given in
    same_texts IsText one q.words xs ys (subst (λ (ws : List Text). AreSomeTexts IsText ws xs) same p.texts).1 q.texts.1

pub one_names : (rows : List Row) (xs ys : List Binding) → AreNames rows xs → AreNames rows ys → xs ≡ ys
one_names rows xs ys p q = one_given _ same_asked _ rows xs ys p q

pub one_settings : (rows : List Row) (xs ys : List Binding) → AreSettings rows xs → AreSettings rows ys → xs ≡ ys
one_settings rows xs ys p q = one_given _ same_setting _ rows xs ys p q

-- a request of some bindings
pub asks_of : (k : Kind) (community : List ℕ) (first second : ℤ) (Are : List Binding → Type 0) → ((xs ys : List Binding) → Are xs → Are ys → xs ≡ ys) → (bindings : List Binding) (r : Result ManagerOperation WordsFault) → Are bindings → Reads (AsksBy (first_request k first second community bindings)) r → Reads (IsAskOf k community first second Are) r
asks_of k community first second Are one bindings (Ok e) given asks =
    record { bindings = bindings; given = given; asks = asks }
asks_of k community first second Are one bindings (Err f) given none = λ other e asked.
    let same = one asked.bindings bindings asked.given given in
    none other e (subst (λ (bs : List Binding). AsksBy (first_request k first second community bs) e) same asked.asks)

one_number : (o : Option Text) (y z : ℤ) → IsBulkNumber o y → IsBulkNumber o z → y ≡ z
one_number None y z a b = absurd a
one_number (Some t) y z a b = a.value ∙ sym b.value

-- a GetBulk
pub bulk_asks : (community : List ℕ) (rows : List Row) (first second : ℤ) (r : Result ManagerOperation WordsFault) → IsBulkNumber (one_of (codes "N") rows) first → IsBulkNumber (one_of (codes "M") rows) second → Reads (IsAskOf kind.GetBulk community first second (AreNames rows)) r → Reads (IsBulkOf community rows) r
bulk_asks community rows first second (Ok e) p q asks =
    record { first = first; is_first = p; second = second; is_second = q; asks = asks }
bulk_asks community rows first second (Err f) p q none = λ other e is.
    let same = one_number (one_of (codes "N") rows) is.first first is.is_first p in
    let same' = one_number (one_of (codes "M") rows) is.second second is.is_second q in
    let once : IsAskOf kind.GetBulk community first is.second (AreNames rows) e =
    subst (λ (n : ℤ). IsAskOf kind.GetBulk community n is.second (AreNames rows) e) same is.asks in
    none other e (subst (λ (n : ℤ). IsAskOf kind.GetBulk community first n (AreNames rows) e) same' once)
