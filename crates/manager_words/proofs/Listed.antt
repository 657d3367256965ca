-- Words and the bindings that they write, one after another.
use Rattle.std.proofs.Common.{◌≡◌, ℕ, zero, suc, ◌+◌, ◌<◌, List, [], ◌∷◌, ◌++◌, length, get_or, take, map, refl, subst, arith}
use Rattle.std.proofs.lemmas.List.{map_more, get_or-map, length-map}
use Rattle.message_core.specs.Encodable.{IsEncodableBinding, AreEncodable}
use Rattle.message_core.specs.declared.binding.Binding.{Binding}
use Rattle.manager_words.specs.Bindings.{AreTexts, AreSomeTexts}

pub texts-snoc : (IsText : List ℕ → Binding → Type 0) → (words : List (List ℕ)) (bs : List Binding) (word : List ℕ) (b : Binding) → AreTexts IsText words bs → IsText word b → AreTexts IsText (words ++ word ∷ []) (bs ++ b ∷ [])
texts-snoc IsText [] [] word b texts one = (one, tt)
texts-snoc IsText [] (x ∷ bs) word b texts one = absurd texts
texts-snoc IsText (w ∷ words) [] word b texts one = absurd texts
texts-snoc IsText (w ∷ words) (x ∷ bs) word b texts one =
    (texts.0, texts-snoc IsText words bs word b texts.1 one)

-- each word is the text of some binding
pub text_at : (IsText : List ℕ → Binding → Type 0) → (words : List (List ℕ)) (bs : List Binding) (i : ℕ) → i < length words → AreTexts IsText words bs → (b : Binding) × IsText (get_or words i []) b
text_at IsText [] bs i low texts = absurd (omega arith)
text_at IsText (w ∷ words) [] i low texts = absurd texts
text_at IsText (w ∷ words) (b ∷ bs) zero low texts = (b, texts.0)
text_at IsText (w ∷ words) (b ∷ bs) (suc i) low texts = text_at IsText words bs i (omega arith) texts.1

-- where no word is the text of two bindings, no words are those of two lists
pub same_texts : (IsText : List ℕ → Binding → Type 0) → ((word : List ℕ) (a b : Binding) → IsText word a → IsText word b → a ≡ b) → (words : List (List ℕ)) (xs ys : List Binding) → AreTexts IsText words xs → AreTexts IsText words ys → xs ≡ ys
same_texts IsText one [] [] [] p q = refl
same_texts IsText one [] [] (b ∷ ys) p q = absurd q
same_texts IsText one [] (a ∷ xs) ys p q = absurd p
same_texts IsText one (w ∷ words) [] ys p q = absurd p
same_texts IsText one (w ∷ words) (a ∷ xs) [] p q = absurd q
same_texts IsText one (w ∷ words) (a ∷ xs) (b ∷ ys) p q =
    let head : a ≡ b = one w a b p.0 q.0 in
    let tail : xs ≡ ys = same_texts IsText one words xs ys p.1 q.1 in
    cc

-- where the words are those of some bindings, the word at an index is that of one
pub stated_at : (IsText : List ℕ → Binding → Type 0) → {S : Type 0} (bytes : S → List ℕ) (words : List S) (i : ℕ) (d : S) → i < length words → (bs : List Binding) → AreSomeTexts IsText (map bytes words) bs → (b : Binding) × IsText (bytes (get_or words i d)) b
stated_at IsText bytes words i d low bs texts =
    let within : i < length (map bytes words) = rw (length-map words bytes) low in
    let t = text_at IsText (map bytes words) bs i within texts.1 in
    (t.0, subst (λ (w : List ℕ). IsText w t.0) (get_or-map bytes words i d [] low) t.1)

-- one word more
pub texts_more : (IsText : List ℕ → Binding → Type 0) → {S : Type 0} (bytes : S → List ℕ) (words : List S) (i : ℕ) (d : S) (bs new : List Binding) (b : Binding) → i < length words → AreTexts IsText (map bytes (take i words)) bs → IsText (bytes (get_or words i d)) b → new ≡ bs ++ b ∷ [] → AreTexts IsText (map bytes (take (i + 1) words)) new
texts_more IsText bytes words i d bs new b low texts one longer =
    rw (map_more bytes words i d low, longer) (texts-snoc IsText (map bytes (take i words)) bs (bytes (get_or words i d)) b texts one)

encodable-snoc : (bs : List Binding) (b : Binding) → AreEncodable bs → IsEncodableBinding b → AreEncodable (bs ++ b ∷ [])
encodable-snoc [] b each one = (one, tt)
encodable-snoc (x ∷ bs) b each one = (each.0, encodable-snoc bs b each.1 one)

pub encodable_more : (bs new : List Binding) (b : Binding) → AreEncodable bs → IsEncodableBinding b → new ≡ bs ++ b ∷ [] → AreEncodable new
encodable_more bs new b each one longer = rw longer (encodable-snoc bs b each one)
