-- How texts add up, and how a reader's octets are followed.
use Rattle.std.proofs.Common.{◌≡◌, ◌≢◌, ◌⊎◌, inl, inr, ◌<◌, length, Contains, ℕ, List, [], ◌∷◌, ◌++◌, Option, None, Some, IfSome, refl, ap, ◌∙◌, append_assoc, append-nil, length-append, sym, arith}
use Rattle.std.proofs.KnownBytes.{Appends-nil, Appends-trans, Appends-kept}
use Rattle.std.proofs.lemmas.List.Elements.{All-append, All-cons, All-nil}
use Rattle.std.proofs.lemmas.List.Concat.{flat_map-append}
use Rattle.std.specs.Io.KnownBytes.{Appends, Consumes, IsAtEnd, Keeps}
use Rattle.std.specs.List.{flat_map}
use Rattle.std.specs.Prelude.{Result, Ok, Err, IfErr, OnOk, OnErr, IsErrAnd}
use Rattle.script_core.specs.Runs.{Adds, Writes, IsFrontOf, Reads, Says, SaysAll, SaysFirst, SaysSome, Feeds, FeedsFirst, StopsBetween, MayGiveUpLine, GivesUpLine, MayGiveUpEnd, GivesUpEnd, GivesUp}
use Rattle.script_core.specs.declared.fault.RunFault.TheVariants.{Input as RunInput, Output as RunOutput}
use Rattle.script_core.specs.declared.fault.LineFault.{LineFault}
use Rattle.script_core.specs.declared.fault.LineFault.TheVariants.{Memory, Stopped}
use Rattle.script_core.specs.Faults.{run_fault}
use Rattle.script_core.specs.Lines.{lines_of, first_line, with_end, HasNoEnd}
use Rattle.script_core.proofs.LinesLemmas.{lines_of-behind, first_line-last, HasNoEnd-append}

-- what holds in any case holds of an error
pub if_err : {T E : Type 0} (r : Result T E) (P : E → Type 0) → ((e : E) → P e) → IfErr r P
if_err (Ok x) P f = tt
if_err (Err e) P f = f e

pub on_ok_weaker : {T E : Type 0} {P Q : Type 0} (r : Result T E) → OnOk r P → (P → Q) → OnOk r Q
on_ok_weaker (Ok x) p f = f p
on_ok_weaker (Err e) p f = tt

pub if_some_weaker : {T : Type 0} (o : Option T) (P Q : T → Type 0) → IfSome o P → ((x : T) → P x → Q x) → IfSome o Q
if_some_weaker None P Q p f = tt
if_some_weaker (Some x) P Q p f = f x p

-- what follows from what is known of an error
pub if_err_known : {T E : Type 0} (r : Result T E) (K P : E → Type 0) → IsErrAnd r K → ((e : E) → K e → P e) → IfErr r P
if_err_known (Ok x) K P known f = tt
if_err_known (Err e) K P known f = f e known

-- what follows from two facts of an error
pub if_err_both : {T E : Type 0} {A : Type 0} (r : Result T E) (K P : E → Type 0) → IfErr r K → OnErr r A → ((e : E) → K e → A → P e) → IfErr r P
if_err_both (Ok x) K P known a f = tt
if_err_both (Err e) K P known a f = f e known a

-- who gives up a line did not fail to write, nor to read
pub not_output : (fault : LineFault) → RunOutput ≢ run_fault fault
not_output Memory e = cc e
not_output Stopped e = cc e

pub not_input : (fault : LineFault) → RunInput ≢ run_fault fault
not_input Memory e = cc e
not_input Stopped e = cc e

-- each fault stops a run in its own way
pub same_fault : (f g : LineFault) → run_fault f ≡ run_fault g → f ≡ g
same_fault Memory Memory e = refl
same_fault Memory Stopped e = cc e
same_fault Stopped Memory e = cc e
same_fault Stopped Stopped e = refl

-- what holds in each case
pub on_either : {T E : Type 0} {A : Type 0} {B : E → Type 0} {C : Type 0} (r : Result T E) → OnOk r A → IfErr r B
    → (A → C) → ((e : E) → B e → C) → C
on_either (Ok x) a b f g = f a
on_either (Err e) a b f g = g e b

-- ---- what is added

pub Adds-same : {old new : List ℕ} (P : List ℕ → Type 0) → new ≡ old → P [] → Adds old new P
Adds-same {old} {new} P e p = record { stated = []; added = e ∙ sym (append-nil old); holds = p }

pub Adds-more : {a b c : List ℕ} {P Q : List ℕ → Type 0} (R : List ℕ → Type 0) → Adds a b P → Adds b c Q
    → ((s t : List ℕ) → P s → Q t → R (s ++ t)) → Adds a c R
Adds-more {a} {b} {c} R p q f = record {
  stated = p.stated ++ q.stated;
  added = q.added ∙ ap (λ l. l ++ q.stated) p.added ∙ append_assoc a p.stated q.stated;
  holds = f p.stated q.stated p.holds q.holds;
}

pub Adds-weaker : {a b : List ℕ} {P : List ℕ → Type 0} (R : List ℕ → Type 0) → Adds a b P → ((s : List ℕ) → P s → R s) → Adds a b R
Adds-weaker R p f = record { stated = p.stated; added = p.added; holds = f p.stated p.holds }

pub Writes-none : {old : Option (List ℕ)} (P : List ℕ → Type 0) → P [] → Writes old old P
Writes-none {old} P p = record { text = []; took = Appends-nil old; holds = p }

pub Writes-more : {a b c : Option (List ℕ)} {P Q : List ℕ → Type 0} (R : List ℕ → Type 0) → Writes a b P → Writes b c Q
    → ((s t : List ℕ) → P s → Q t → R (s ++ t)) → Writes a c R
Writes-more {a} {b} {c} R p q f = record {
  text = p.text ++ q.text;
  took = Appends-trans a b c p.text q.text p.took q.took;
  holds = f p.text q.text p.holds q.holds;
}

pub Writes-weaker : {a b : Option (List ℕ)} {P : List ℕ → Type 0} (R : List ℕ → Type 0) → Writes a b P → ((s : List ℕ) → P s → R s) → Writes a b R
Writes-weaker R p f = record { text = p.text; took = p.took; holds = f p.text p.holds }

-- what was added to nothing is written
pub Adds-written : {a b : Option (List ℕ)} {none out : List ℕ} {P : List ℕ → Type 0} → none ≡ [] → Appends a b out → Adds none out P → Writes a b P
Adds-written {a} {b} {none} {out} e took p =
    record { text = p.stated; took = rw (p.added ∙ ap (λ l. l ++ p.stated) e) at took; holds = p.holds }

-- a write that failed, or a flush, leaves what was written
pub Writes-kept : {a b c : Option (List ℕ)} (P : List ℕ → Type 0) → Writes a b P → Keeps b c → Writes a c P
Writes-kept {a} {b} {c} P p kept = record { text = p.text; took = Appends-kept a b c p.text p.took kept; holds = p.holds }

pub IsFrontOf-weaker : {P : List ℕ → Type 0} (Q : List ℕ → Type 0) {text : List ℕ} → IsFrontOf P text
    → ((s : List ℕ) → P s → Q s) → IsFrontOf Q text
IsFrontOf-weaker Q p f = record { whole = p.whole; rest = p.rest; some = p.some; split = p.split; holds = f p.whole p.holds }

-- a front behind what was written whole
pub IsFrontOf-behind : {P : List ℕ → Type 0} (Q : List ℕ → Type 0) (s : List ℕ) {t : List ℕ} → IsFrontOf P t
    → ((u : List ℕ) → P u → Q (s ++ u)) → IsFrontOf Q (s ++ t)
IsFrontOf-behind Q s {t} p f = record {
  whole = s ++ p.whole;
  rest = p.rest;
  some = omega (arith, length-append s p.whole, p.some);
  split = ap (λ l. s ++ l) p.split ∙ sym (append_assoc s t p.rest);
  holds = f p.whole p.holds;
}

-- a front of what was added to nothing is written
pub Adds-front : {a b : Option (List ℕ)} {none out : List ℕ} {P : List ℕ → Type 0} (Q : List ℕ → Type 0) → none ≡ []
    → Writes a b (λ text. IsFrontOf (λ whole. whole ≡ out) text) → Adds none out P → ((s : List ℕ) → P s → Q s)
    → Writes a b (λ text. IsFrontOf Q text)
Adds-front {a} {b} {none} {out} {P} Q e written p f =
    let all : out ≡ p.stated = p.added ∙ ap (λ l. l ++ p.stated) e in
    Writes-weaker (λ text. IsFrontOf Q text) written
    (λ text front. IsFrontOf-weaker Q front (λ s same. rw (same ∙ all) (f p.stated p.holds)))

-- ---- what is answered

module _ {X : Type 0} (line_says : X → List ℕ → List ℕ → X → Type 0) where
  pub Says-none : (s : X) → Says line_says s [] [] s
  unfolding Says
  Says-none s = (refl, refl)

  pub Says-one : {s t : X} {line stated : List ℕ} → line_says s line stated t → Says line_says s (line ∷ []) stated t
  unfolding Says
  Says-one {s} {t} {line} {stated} p =
      record { stated = stated; between = t; rest = []; answered = p; split = sym (append-nil stated); goes_on = (refl, refl) }

  pub Says-append : (ls ms : List (List ℕ)) (a b c : X) (s t : List ℕ) → Says line_says a ls s b → Says line_says b ms t c
      → Says line_says a (ls ++ ms) (s ++ t) c
  unfolding Says
  Says-append [] ms a b c s t p q = rw (p.0, p.1) q
  Says-append (l ∷ ls) ms a b c s t p q = record {
    stated = p.stated;
    between = p.between;
    rest = p.rest ++ t;
    answered = p.answered;
    split = ap (λ x. x ++ t) p.split ∙ append_assoc p.stated p.rest t;
    goes_on = Says-append ls ms p.between b c p.rest t p.goes_on q;
  }

  -- ---- how far a run has come

  -- nothing has ended
  pub Feeds-none : {s : X} {octets : List ℕ} → Feeds line_says s octets s octets []
  Feeds-none {s} {octets} = record { ended = []; no_end = All-nil HasNoEnd; split = refl; says = Says-none s }

  -- one line has ended
  pub Feeds-line : {s t : X} {line stated rest : List ℕ} → HasNoEnd line → line_says s line stated t → Feeds line_says s (line ++ (10 ∷ rest)) t rest stated
  Feeds-line {s} {t} {line} {stated} {rest} no_end p = record {
    ended = line ∷ [];
    no_end = All-cons HasNoEnd line [] no_end (All-nil HasNoEnd);
    split = simp append_assoc;
    says = Says-one p;
  }

  pub Feeds-more : {a b c : X} {octets left last s t : List ℕ} → Feeds line_says a octets b left s → Feeds line_says b left c last t
      → Feeds line_says a octets c last (s ++ t)
  Feeds-more {a} {b} {c} {octets} {left} {last} {s} {t} p q = record {
    ended = p.ended ++ q.ended;
    no_end = All-append HasNoEnd p.ended q.ended p.no_end q.no_end;
    split = p.split ∙ ap (λ l. flat_map with_end p.ended ++ l) q.split
        ∙ sym (append_assoc (flat_map with_end p.ended) (flat_map with_end q.ended) last)
        ∙ ap (λ l. l ++ last) (sym (flat_map-append with_end p.ended q.ended));
    says = Says-append p.ended q.ended a b c s t p.says q.says;
  }

  pub Feeds-then : {a b c : X} {octets left same last s t : List ℕ} → Feeds line_says a octets b left s → left ≡ same
      → Feeds line_says b same c last t → Feeds line_says a octets c last (s ++ t)
  Feeds-then {a} {b} {c} {octets} {left} {same} {last} {s} {t} p e q = Feeds-more p (rw e q)

  -- one line has ended that was read in two parts
  pub Feeds-parts : {s t : X} {stated rest : List ℕ} (line part held : List ℕ) → held ≡ line ++ part → HasNoEnd line → HasNoEnd part
      → line_says s held stated t → Feeds line_says s (line ++ (part ++ (10 ∷ rest))) t rest stated
  Feeds-parts {s} {t} {stated} {rest} line part held e h k p =
      rw (sym (append_assoc line part (10 ∷ rest)), sym e) (Feeds-line (rw e (HasNoEnd-append line part h k)) p)

  pub Feeds-first : {a b : X} {octets left s : List ℕ} → Feeds line_says a octets b left s → FeedsFirst line_says a octets s
  Feeds-first {a} {b} {octets} {left} {s} p = record { between = b; left = left; feeds = p }

  pub FeedsFirst-more : {a b : X} {octets left s t : List ℕ} → Feeds line_says a octets b left s → FeedsFirst line_says b left t
      → FeedsFirst line_says a octets (s ++ t)
  FeedsFirst-more p q = record { between = q.between; left = q.left; feeds = Feeds-more p q.feeds }

  -- the lines that have ended are the first of the text
  pub Feeds-lines : {a b : X} {octets left s : List ℕ} (p : Feeds line_says a octets b left s) → lines_of octets ≡ p.ended ++ lines_of left
  Feeds-lines {a} {b} {octets} {left} {s} p = ap lines_of p.split ∙ lines_of-behind p.ended left p.no_end

  pub FeedsFirst-says : {a : X} {octets s : List ℕ} → FeedsFirst line_says a octets s → SaysFirst line_says a (lines_of octets) s
  FeedsFirst-says p =
      record { first = p.feeds.ended; left = lines_of p.left; between = p.between; split = Feeds-lines p.feeds; says = p.feeds.says }

  -- where the first of the lines that are left were answered
  pub Feeds-says-first : {a b : X} {octets left s t : List ℕ} → Feeds line_says a octets b left s → SaysFirst line_says b (lines_of left) t
      → SaysFirst line_says a (lines_of octets) (s ++ t)
  Feeds-says-first {a} {b} {octets} {left} {s} {t} p q = record {
    first = p.ended ++ q.first;
    left = q.left;
    between = q.between;
    split = Feeds-lines p ∙ ap (λ l. p.ended ++ l) q.split ∙ sym (append_assoc p.ended q.first q.left);
    says = Says-append p.ended q.first a b q.between s t p.says q.says;
  }

  -- where all lines that are left were answered, and the end
  pub Feeds-says-all : (end_says : X → List ℕ → X → Type 0) {a b c : X} {octets left s t : List ℕ} → Feeds line_says a octets b left s
      → SaysAll line_says end_says b (lines_of left) t c → SaysAll line_says end_says a (lines_of octets) (s ++ t) c
  Feeds-says-all end_says {a} {b} {c} {octets} {left} {s} {t} p q = record {
    stated = s ++ q.stated;
    between = q.between;
    last = q.last;
    says = rw (Feeds-lines p) (Says-append p.ended (lines_of left) a b q.between s q.stated p.says q.says);
    ends = q.ends;
    split = ap (λ l. s ++ l) q.split ∙ sym (append_assoc s q.stated q.last);
  }

  -- none of the lines was answered
  pub SaysFirst-none : {a : X} {lines : List (List ℕ)} → SaysFirst line_says a lines []
  SaysFirst-none {a} {lines} = record { first = []; left = lines; between = a; split = refl; says = Says-none a }

  -- all of the lines were answered, and the end was not
  pub SaysFirst-all : (a b : X) (lines : List (List ℕ)) (s : List ℕ) → Says line_says a lines s b → SaysFirst line_says a lines s
  SaysFirst-all a b lines s p = record { first = lines; left = []; between = b; split = sym (append-nil lines); says = p }

  -- ---- what is given up

  module _ (may_line : X → List ℕ → LineFault → Type 0) {fault : LineFault} where
    Feeds-gives_up_line : {a b : X} {octets left rest s t : List ℕ} → Feeds line_says a octets b left s
        → GivesUpLine line_says may_line b fault left rest t → GivesUpLine line_says may_line a fault octets rest (s ++ t)
    Feeds-gives_up_line p q = record { between = q.between; left = q.left; some = q.some; feeds = Feeds-more p q.feeds; may = q.may; ended = q.ended }

    -- the line whose part this is, and more of which was read
    pub GivesUpLine-within : {a b : X} {octets rest s : List ℕ} (part more : List ℕ) → 0 < length more
        → MayGiveUpLine line_says may_line b (first_line (part ++ more)) fault → (fault ≡ Memory) ⊎ Contains (part ++ more) 10
        → Feeds line_says a octets b (part ++ (more ++ rest)) s → GivesUpLine line_says may_line a fault octets rest s
    GivesUpLine-within {a} {b} part more some may ended p = record {
      between = b;
      left = part ++ more;
      some = omega (arith, length-append part more);
      feeds = rw append_assoc p;
      may = may;
      ended = elim ended [ inl memory ↦ inl memory | inr end ↦ inr (inl end) ];
    }

    pub GivesUpLine-first : {a : X} {octets rest s : List ℕ} → GivesUpLine line_says may_line a fault octets rest s → FeedsFirst line_says a octets s
    GivesUpLine-first {a} {octets} {rest} {s} p = record { between = p.between; left = p.left ++ rest; feeds = p.feeds }

  module _ (end_says : X → List ℕ → X → Type 0) (may_line : X → List ℕ → LineFault → Type 0) (may_end : X → LineFault → Type 0) {fault : LineFault} where
    Feeds-gives_up_end : {a b : X} {octets left rest s t : List ℕ} → Feeds line_says a octets b left s
        → GivesUpEnd line_says end_says may_end b fault left rest t → GivesUpEnd line_says end_says may_end a fault octets rest (s ++ t)
    Feeds-gives_up_end {a} {b} {octets} {left} {rest} {s} {t} p q = record {
      between = q.between;
      read = q.read;
      says = rw (Feeds-lines p) (Says-append p.ended (lines_of left) a b q.between s t p.says q.says);
      may = q.may;
    }

    Feeds-gives_up : {a b : X} {octets left rest s t : List ℕ} → Feeds line_says a octets b left s
        → GivesUp line_says end_says may_line may_end b fault left rest t → GivesUp line_says end_says may_line may_end a fault octets rest (s ++ t)
    Feeds-gives_up p (inl q) = inl (Feeds-gives_up_line may_line p q)
    Feeds-gives_up p (inr q) = inr (Feeds-gives_up_end p q)

    -- the last line is given up
    pub GivesUp-last : {a : X} {line : List ℕ} → HasNoEnd line → 0 < length line → MayGiveUpLine line_says may_line a line fault
        → GivesUp line_says end_says may_line may_end a fault line [] []
    GivesUp-last {a} {line} no_end some may =
        inl (record {
          between = a;
          left = line;
          some = some;
          feeds = rw append-nil Feeds-none;
          may = rw (first_line-last line no_end) may;
          ended = inr (inr refl);
        })

    -- the end is given up
    pub GivesUp-end : {a : X} {octets s : List ℕ} (b : X) → MayGiveUpEnd end_says may_end b fault → Says line_says a (lines_of octets) s b
        → GivesUp line_says end_says may_line may_end a fault octets [] s
    GivesUp-end {a} {octets} {s} b may p = inr (record { between = b; read = refl; says = p; may = may })

    pub GivesUp-says : {a : X} {octets rest s : List ℕ} → GivesUp line_says end_says may_line may_end a fault octets rest s
        → SaysFirst line_says a (lines_of octets) s
    GivesUp-says (inl p) = FeedsFirst-says (GivesUpLine-first may_line p)
    GivesUp-says (inr p) = SaysFirst-all _ p.between _ _ p.says

    -- where all was read, and a line of the rest, or the end, is given up
    pub Writes-gives_up : {old now new : Option (List ℕ)} {a b : X} {input : List ℕ} (part : List ℕ)
        → Writes old now (λ text. Feeds line_says a input b (part ++ []) text)
        → Writes now new (λ text. GivesUp line_says end_says may_line may_end b fault part [] text)
        → Writes old new (λ text. GivesUp line_says end_says may_line may_end a fault input [] text)
    Writes-gives_up part p q = Writes-more _ p q (λ s t f g. Feeds-gives_up (rw append-nil at f) g)

    -- where more was read, and a line of it is given up
    pub Writes-gives_up_line : {old now new : Option (List ℕ)} {a b : X} {input left rest : List ℕ}
        → Writes old now (λ text. Feeds line_says a input b left text)
        → Writes now new (λ text. GivesUpLine line_says may_line b fault left rest text)
        → Writes old new (λ text. GivesUp line_says end_says may_line may_end a fault input rest text)
    Writes-gives_up_line p q = Writes-more _ p q (λ s t f g. inl (Feeds-gives_up_line may_line f g))

  -- what was answered to some of the lines that are left
  pub Feeds-says_some : (end_says : X → List ℕ → X → Type 0) {a b : X} {octets left s t : List ℕ} → Feeds line_says a octets b left s
      → SaysSome line_says end_says b (lines_of left) t → SaysSome line_says end_says a (lines_of octets) (s ++ t)
  Feeds-says_some end_says p (inl q) = inl (Feeds-says-first p q)
  Feeds-says_some end_says p (inr q) = inr (q.0, Feeds-says-all end_says p q.1)

  -- where there are no lines, and where there is one
  pub Says-nothing : (s : X) (lines : List (List ℕ)) → lines ≡ [] → Says line_says s lines [] s
  Says-nothing s lines e = rw e (Says-none s)

  pub Says-last : (s t : X) (lines : List (List ℕ)) (line stated : List ℕ) → lines ≡ line ∷ [] → line_says s line stated t → Says line_says s lines stated t
  Says-last s t lines line stated e p = rw e (Says-one p)

  -- a run that stops within a line
  pub Feeds-stop : {a b : X} {input rest s : List ℕ} (part : List ℕ) → HasNoEnd part → Feeds line_says a input b (part ++ rest) s
      → StopsBetween line_says a b input rest s
  Feeds-stop {a} {b} {input} {rest} {s} part no_end p = record { part = part; no_end = no_end; feeds = p }

  -- where all was read, and the rest is answered
  pub Writes-all : (end_says : X → List ℕ → X → Type 0) {old now new : Option (List ℕ)} {a b c : X} {input : List ℕ} (part : List ℕ)
      → Writes old now (λ text. Feeds line_says a input b (part ++ []) text)
      → Writes now new (λ text. SaysAll line_says end_says b (lines_of part) text c)
      → Writes old new (λ text. SaysAll line_says end_says a (lines_of input) text c)
  Writes-all end_says part p q = Writes-more _ p q (λ s t f g. Feeds-says-all end_says (rw append-nil at f) g)

  -- where all was read, and a write of the answers to the rest fails
  pub Writes-part : (end_says : X → List ℕ → X → Type 0) {old now new : Option (List ℕ)} {a b : X} {input : List ℕ} (part : List ℕ)
      → Writes old now (λ text. Feeds line_says a input b (part ++ []) text)
      → Writes now new (λ text. IsFrontOf (λ whole. SaysSome line_says end_says b (lines_of part) whole) text)
      → Writes old new (λ text. IsFrontOf (λ whole. SaysSome line_says end_says a (lines_of input) whole) text)
  Writes-part end_says part p q =
      Writes-more _ p q (λ s t f g. IsFrontOf-behind _ s g (λ u some. Feeds-says_some end_says (rw append-nil at f) some))

  -- where more was read, and a write of the answers to it fails
  pub Writes-front : (end_says : X → List ℕ → X → Type 0) {old now new : Option (List ℕ)} {a b : X} {input left : List ℕ}
      → Writes old now (λ text. Feeds line_says a input b left text)
      → Writes now new (λ text. IsFrontOf (λ whole. FeedsFirst line_says b left whole) text)
      → Writes old new (λ text. IsFrontOf (λ whole. SaysSome line_says end_says a (lines_of input) whole) text)
  Writes-front end_says p q =
      Writes-more _ p q (λ s t f g. IsFrontOf-behind _ s g (λ u first. inl (FeedsFirst-says (FeedsFirst-more f first))))

-- ---- the reader's octets

pub Reads-same : (a : Option (List ℕ)) (P : List ℕ → List ℕ → Type 0) → ((xs : List ℕ) → P xs xs) → Reads a a P
Reads-same None P f = tt
Reads-same (Some xs) P f = f xs

pub Reads-weaker : (a b : Option (List ℕ)) (P Q : List ℕ → List ℕ → Type 0) → Reads a b P → ((xs ys : List ℕ) → P xs ys → Q xs ys) → Reads a b Q
Reads-weaker None b P Q p f = tt
Reads-weaker (Some xs) None P Q p f = absurd p
Reads-weaker (Some xs) (Some ys) P Q p f = f xs ys p

pub Reads-more : (a b c : Option (List ℕ)) (bs : List ℕ) (P Q : List ℕ → List ℕ → Type 0)
    → Reads a b P → Consumes b c bs → ((xs ys : List ℕ) → P xs (bs ++ ys) → Q xs ys) → Reads a c Q
Reads-more None b c bs P Q p q f = tt
Reads-more (Some xs) None c bs P Q p q f = absurd p
Reads-more (Some xs) (Some ys) None bs P Q p q f = absurd q
Reads-more (Some xs) (Some ys) (Some zs) bs P Q p q f = f xs zs (rw (← q) p)

-- where no more is read
pub Reads-kept : (a b c : Option (List ℕ)) (P Q : List ℕ → List ℕ → Type 0)
    → Reads a b P → Keeps b c → ((xs ys : List ℕ) → P xs ys → Q xs ys) → Reads a c Q
Reads-kept None b c P Q p q f = tt
Reads-kept (Some xs) None c P Q p q f = absurd p
Reads-kept (Some xs) (Some ys) None P Q p q f = absurd q
Reads-kept (Some xs) (Some ys) (Some zs) P Q p q f = f xs zs (rw q p)

-- a fact of the whole input
pub Reads-some : (a b : Option (List ℕ)) (P : List ℕ → List ℕ → Type 0) (Q : List ℕ → Type 0)
    → Reads a b P → ((xs ys : List ℕ) → P xs ys → Q xs) → IfSome a Q
Reads-some None b P Q p f = tt
Reads-some (Some xs) None P Q p f = absurd p
Reads-some (Some xs) (Some ys) P Q p f = f xs ys p

-- a fact of the whole input, after one more read
pub Reads-input : (a b c : Option (List ℕ)) (bs : List ℕ) (P : List ℕ → List ℕ → Type 0) (Q : List ℕ → Type 0)
    → Reads a b P → Consumes b c bs → ((xs ys : List ℕ) → P xs (bs ++ ys) → Q xs) → IfSome a Q
Reads-input a b c bs P Q p q f = Reads-some a c (λ xs _. Q xs) Q (Reads-more a b c bs P (λ xs _. Q xs) p q f) (λ xs ys h. h)

pub Reads-end : (a b c : Option (List ℕ)) (P : List ℕ → List ℕ → Type 0) (Q : List ℕ → Type 0)
    → Reads a b P → Consumes b c [] → IsAtEnd c → ((xs : List ℕ) → P xs [] → Q xs) → IfSome a Q
Reads-end None b c P Q p q e f = tt
Reads-end (Some xs) None c P Q p q e f = absurd p
Reads-end (Some xs) (Some ys) None P Q p q e f = absurd q
Reads-end (Some xs) (Some ys) (Some zs) P Q p q e f = f xs (rw (← (q ∙ e)) p)

pub Reads-close : (a b c : Option (List ℕ)) (P Q : List ℕ → List ℕ → Type 0)
    → Reads a b P → Consumes b c [] → IsAtEnd c → ((xs : List ℕ) → P xs [] → Q xs []) → Reads a c Q
Reads-close None b c P Q p q e f = tt
Reads-close (Some xs) None c P Q p q e f = absurd p
Reads-close (Some xs) (Some ys) None P Q p q e f = absurd q
Reads-close (Some xs) (Some ys) (Some zs) P Q p q e f = rw e (f xs (rw (← (q ∙ e)) p))
