-- The words of a driver's plan, and what is read of them.
use Rattle.std.proofs.Common.{◌≡◌, ℕ, ◌-◌, ◌^◌, ◌==◌, Bool, true, false, cond, bit_or, List, [], ◌∷◌, Option, Some, None, option_map, refl, ap, ◌∙◌}
use Rattle.std.specs.Prelude.{option_and_then}
use Rattle.std.specs.List.{fold, onto_first}
use Rattle.script_core.specs.Words.{split_word}
use Rattle.agent_script.specs.Commands.{counting_of, words_of, countings_of}

-- what a text is cut into at its first space
abbrev pub cut_words : List ℕ → Option (List ℕ × List ℕ) → List (List ℕ)
cut_words text (Some p) = p.0 ∷ words_of p.1
cut_words text None = text ∷ []

onto_cut : (b : ℕ) (bs : List ℕ) (cut : Option (List ℕ × List ℕ))
    → onto_first b (cut_words bs cut) ≡ cut_words (b ∷ bs) (option_map (λ p. (b ∷ p.0, p.1)) cut)
onto_cut b bs (Some p) = refl
onto_cut b bs None = refl

cut_here : (b : ℕ) (bs : List ℕ) (is_space : Bool) → words_of bs ≡ cut_words bs (split_word bs)
    → cond is_space ([] ∷ words_of bs) (onto_first b (words_of bs))
    ≡ cut_words (b ∷ bs) (cond is_space (Some ([], bs)) (option_map (λ p. (b ∷ p.0, p.1)) (split_word bs)))
cut_here b bs true e = refl
cut_here b bs false e = ap (onto_first b) e ∙ onto_cut b bs (split_word bs)

-- the first word, and the words behind the space that follows it
pub words_cut : (text : List ℕ) → words_of text ≡ cut_words text (split_word text)
words_cut [] = refl
words_cut (b ∷ bs) = cut_here b bs (b == 32) (words_cut bs)

-- one more call in a plan
abbrev pub with_call : ℕ → ℕ → ℕ
with_call plan call = bit_or plan (2 ^ (call - 1))

-- the plan, where these calls are added to it
abbrev pub plan_with : ℕ → Option (List ℕ) → Option ℕ
plan_with plan calls = option_map (λ cs. fold with_call plan cs) calls

-- the first of the words is a number
pub first_planned : (plan call : ℕ) (calls : Option (List ℕ))
    → plan_with plan (option_map (λ cs. call ∷ cs) calls) ≡ plan_with (with_call plan call) calls
first_planned plan call (Some cs) = refl
first_planned plan call None = refl

pub word_planned : (most plan call : ℕ) (word : List ℕ) (words : List (List ℕ)) → counting_of most word ≡ Some call
    → plan_with plan (countings_of most (word ∷ words)) ≡ plan_with (with_call plan call) (countings_of most words)
word_planned most plan call word words e =
    ap (λ n. plan_with plan (option_and_then (λ n. option_map (λ ns. n ∷ ns) (countings_of most words)) n)) e
    ∙ first_planned plan call (countings_of most words)

-- the first of the words is none
pub word_refused : (most plan : ℕ) (word : List ℕ) (words : List (List ℕ)) → counting_of most word ≡ None
    → plan_with plan (countings_of most (word ∷ words)) ≡ None
word_refused most plan word words e =
    ap (λ n. plan_with plan (option_and_then (λ n. option_map (λ ns. n ∷ ns) (countings_of most words)) n)) e
