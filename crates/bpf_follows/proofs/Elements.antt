-- The lists of a note that are spelled are read again.
use Rattle.std.proofs.Common.{◌≡◌, ℕ, ◌+◌, ◌<◌, ◌≤◌, Bool, true, false, List, [], ◌∷◌, ◌++◌, length, replicate, Option, Some, None, refl, sym, ap, subst, ◌∙◌, append_assoc, arith}
use Rattle.std.specs.Prelude.{codes, decimal, if◌then◌else◌}
use Rattle.std.specs.List.{AllByRecursion}
use Rattle.std.proofs.lemmas.List.{length-replicate}
use Rattle.bpf_streams.specs.Words.{behind}
use Rattle.bpf_kept.specs.declared.notes.Holder.{Holder}
use Rattle.bpf_kept.specs.declared.notes.Holder.TheVariants.{Register, Slot, Length}
use Rattle.bpf_kept.specs.declared.notes.Fact.{Fact}
use Rattle.bpf_kept.specs.declared.notes.TurnsLeft.{TurnsLeft}
use Rattle.bpf_follows.specs.NotesText.{facts_noted, slots_noted, counters_noted, back_noted, FactFits, CounterFits, NumberFits, always, itself, holder_text, nothing, says_same, says_nothing, says_usual, by_text, fact_text, place_text, fact_spelled, facts_text, mark_spelled, marks_text, counter_text, counter_spelled, counters_text, back_text, number_text}
use Rattle.bpf_follows.specs.code.Reading.{listed_in, register_in, slot_in, length_in, zero_in, holder_in, number_in, fact_in, place_in, placed_in, fact_at, facts_in, turn_in, mark_at, marks_in, counted_in, counter_at, counters_in, back_in, said_number}
use Rattle.bpf_follows.proofs.Decimals.{NoDigit, number_again, at_again, at_other, at_lacks}
use Rattle.bpf_follows.proofs.TermLemmas.{Front, no_digit, number_none}
use Rattle.bpf_follows.proofs.FactLemmas.{fact_again, counter_again, nothing_is, usual_is}
use Rattle.bpf_follows.proofs.ListLemmas.{listed_front, listed_again}

-- ---- what stands behind a list

-- such isn't read there, but something ends what is in front
pub record Lacks {A : Type 0} (look : List ℕ → Option A) (text : List ℕ) : Type 0 where
  pub none : look text ≡ None
  pub front : Front text

space : (rest : List ℕ) → Front (32 ∷ rest)
space rest = record { c = 32; cs = rest; text_is = refl; ends = record { digit = refl; plus = refl; minus = refl; equals = refl; tilde = refl } }

below : (j i : ℕ) → j < i → j < i + 1
below j i h = omega (arith, h)

colon : (tail : List ℕ) → NoDigit (58 ∷ tail)
colon tail = record { c = 58; cs = tail; text_is = refl; digit = refl }

-- ---- facts

-- a fact whose place isn't named
unfoldable pub plain_in : List ℕ → Option (Fact × List ℕ)
plain_in text = placed_in false 0 text

-- what stands behind a fact, where that says nothing or something
Placed : Bool → ℕ → List ℕ → Type 0
Placed true i text = ((j : ℕ) → j < i → placed_in true j text ≡ None) × (plain_in text ≡ None) × Front text
Placed false i text = Front text

placed_none : (j : ℕ) (text : List ℕ) → behind (codes " #") text ≡ None → placed_in true j text ≡ None
unfolding placed_in place_in
placed_none j text none = rw (at_lacks (codes " #") j (codes ":") text none) refl

named : (i : ℕ) (tail : List ℕ) → place_text true i ++ tail ≡ codes " #" ++ (decimal i ++ (codes ":" ++ tail))
unfolding place_text
named i tail = ap (λ t. codes " #" ++ t) (append_assoc (decimal i) (codes ":") tail)

named_other : (j i : ℕ) (text : List ℕ) → j < i → i < facts_noted → placed_in true j (place_text true i ++ text) ≡ None
unfolding placed_in place_in
named_other j i text h few = rw (named i text, at_other (codes " #") j i (codes ":") (codes ":" ++ text) h (omega (arith, few)) (colon text)) refl

named_plain : (i : ℕ) (text : List ℕ) → plain_in (place_text true i ++ text) ≡ None
unfolding plain_in placed_in place_in place_text fact_in holder_in register_in slot_in length_in zero_in number_in behind
named_plain i text = refl

place_front : (gap : Bool) (i : ℕ) (text : List ℕ) → Front (place_text gap i ++ text)
unfolding place_text
place_front true i text = space (35 ∷ ((decimal i ++ codes ":") ++ text))
place_front false i text = space text

placed_again : (gap : Bool) (i : ℕ) (x : Fact) (tail : List ℕ) → i < facts_noted → FactFits x → Front tail → placed_in gap i (place_text gap i ++ (fact_text x ++ tail)) ≡ Some (x, tail)
unfolding placed_in place_in
placed_again true i x tail few fits front =
    rw (named i (fact_text x ++ tail), at_again (codes " #") i (codes ":") (fact_text x ++ tail) (omega (arith, few)) (colon (fact_text x ++ tail))) (fact_again x fits tail front)
placed_again false i x tail few fits front = unfold place_text behind in fact_again x fits tail front

fact_said : (gap : Bool) (i : ℕ) (x : Fact) (tail : List ℕ) → (place_text gap i ++ fact_text x) ++ tail ≡ place_text gap i ++ (fact_text x ++ tail)
fact_said gap i x tail = append_assoc (place_text gap i) (fact_text x) tail

placed_front : (gap : Bool) (i : ℕ) (text : List ℕ) → Placed gap i text → Front text
unfolding Placed
placed_front true i text placed = placed.2
placed_front false i text placed = placed

-- a place that says nothing
placed_behind : (gap : Bool) (i : ℕ) (text : List ℕ) → Placed true (i + 1) text → Placed gap i text
unfolding Placed
placed_behind true i text (none, plain, front) = (λ j h. none j (below j i h), plain, front)
placed_behind false i text (none, plain, front) = front

placed_here : (gap : Bool) (i : ℕ) (text : List ℕ) → i < facts_noted → Placed gap i (place_text gap i ++ text)
unfolding Placed
placed_here true i text few = (λ j h. named_other j i text h few, named_plain i text, place_front true i text)
placed_here false i text few = place_front false i text

none_placed : (gap : Bool) (i : ℕ) (text : List ℕ) → Placed true (i + 1) text → placed_in gap i text ≡ None
unfolding Placed plain_in placed_in place_in
none_placed true i text (none, plain, front) = none i (omega arith)
none_placed false i text (none, plain, front) = plain

fact_step : (gap : Bool) (i : ℕ) (x : Fact) (tail : List ℕ) → i < facts_noted → FactFits x → Placed (says_nothing x) (i + 1) tail → Placed gap i (fact_spelled gap i x ++ tail)
unfolding fact_spelled
fact_step gap i x tail few fits placed = by_test (says_nothing x) placed
  where
    by_test : (b : Bool) → Placed b (i + 1) tail → Placed gap i ((if b then [] else place_text gap i ++ fact_text x) ++ tail)
    by_test true p = placed_behind gap i tail p
    by_test false p = subst (Placed gap i) (sym (fact_said gap i x tail)) (placed_here gap i (fact_text x ++ tail) few)

fact_look : (gap : Bool) (i : ℕ) (x : Fact) (tail : List ℕ) → i < facts_noted → FactFits x → Placed (says_nothing x) (i + 1) tail → fact_at gap i (fact_spelled gap i x ++ tail) ≡ (x, tail)
unfolding fact_spelled fact_at
fact_look gap i x tail few fits placed = by_test (says_nothing x) refl placed
  where
    by_test : (b : Bool) → says_nothing x ≡ b → Placed b (i + 1) tail → fact_at gap i ((if b then [] else place_text gap i ++ fact_text x) ++ tail) ≡ (x, tail)
    by_test true e p = rw (none_placed gap i tail p) (ap (λ (y : Fact). (y, tail)) (sym (nothing_is x e)))
    by_test false e p = rw (fact_said gap i x tail, placed_again gap i x tail few fits (placed_front false (i + 1) tail p)) refl

facts_last : (gap : Bool) (i : ℕ) (rest : List ℕ) → Lacks (behind (codes " #")) rest → Lacks plain_in rest → Placed gap i rest
unfolding Placed
facts_last true i rest lacks plain = (λ j h. placed_none j rest lacks.none, plain.none, lacks.front)
facts_last false i rest lacks plain = lacks.front

pub facts_again : (n : ℕ) (facts : List Fact) → n ≤ facts_noted → length facts ≡ n → AllByRecursion FactFits facts → (rest : List ℕ) → Lacks (behind (codes " #")) rest → Lacks plain_in rest → facts_in n (facts_text facts ++ rest) ≡ (facts, rest)
facts_again n facts few all fits rest lacks plain =
    subst (λ m. listed_in fact_at says_nothing m false 0 (replicate n nothing) (facts_text facts ++ rest) ≡ (facts, rest)) all
    (listed_again fact_spelled says_nothing facts_noted FactFits Placed fact_step fact_at fact_look false (replicate n nothing) facts rest (length-replicate n nothing ∙ sym all) (omega (arith, all, few)) fits
    (λ gap. facts_last gap (length facts) rest lacks plain))

-- how many extra instructions there are isn't said in front of them
abbrev pub extras : List ℕ
extras = codes " extras "

no_extras : (gap : Bool) (i : ℕ) (x : Fact) (tail : List ℕ) → behind extras (place_text gap i ++ (fact_text x ++ tail)) ≡ None
unfolding place_text fact_text holder_text behind
no_extras true i x tail = refl
no_extras false i x tail = by_holder x.of
  where
    by_holder : (o : Option Holder) → behind (codes " extras ") (32 ∷ ((holder_text o ++ (if says_same x then [] else by_text x.base x.by)) ++ tail)) ≡ None
    by_holder None = refl
    by_holder (Some (Register r)) = refl
    by_holder (Some (Slot n)) = refl
    by_holder (Some Length) = refl

pub facts_lack : (facts : List Fact) → length facts ≡ facts_noted → AllByRecursion FactFits facts → (rest : List ℕ) → Lacks (behind extras) rest → Lacks (behind extras) (facts_text facts ++ rest)
unfolding fact_spelled
facts_lack facts all fits rest lacks =
    listed_front fact_spelled says_nothing facts_noted FactFits (λ gap i t. Lacks (behind extras) t) step false 0 facts rest (omega (arith, all)) fits (λ gap. lacks)
  where
    by_test : (b gap : Bool) (i : ℕ) (x : Fact) (tail : List ℕ) → Lacks (behind extras) tail → Lacks (behind extras) ((if b then [] else place_text gap i ++ fact_text x) ++ tail)
    by_test true gap i x tail tails = tails
    by_test false gap i x tail tails = subst (Lacks (behind extras)) (sym (fact_said gap i x tail)) (record { none = no_extras gap i x tail; front = place_front gap i (fact_text x ++ tail) })

    step : (gap : Bool) (i : ℕ) (x : Fact) (tail : List ℕ) → i < facts_noted → FactFits x → Lacks (behind extras) tail → Lacks (behind extras) (fact_spelled gap i x ++ tail)
    step gap i x tail few fits tails = by_test (says_nothing x) gap i x tail tails

-- ---- marks

all_marks : (marks : List Bool) → AllByRecursion (λ (b : Bool). Unit {0}) marks
all_marks [] = tt
all_marks (b ∷ marks) = (tt, all_marks marks)

module _ (w : List ℕ) where
  Turned : Bool → ℕ → List ℕ → Type 0
  Turned marked i text = ((j : ℕ) → j < i → turn_in (32 ∷ w) marked j text ≡ None) × Front text

  begins : (i : ℕ) (tail : List ℕ) → ((32 ∷ w) ++ (decimal i ++ codes "..")) ++ tail ≡ (32 ∷ w) ++ (decimal i ++ (codes ".." ++ tail))
  begins i tail = append_assoc (32 ∷ w) (decimal i ++ codes "..") tail ∙ ap (λ t. (32 ∷ w) ++ t) (append_assoc (decimal i) (codes "..") tail)

  dots : (tail : List ℕ) → NoDigit (codes ".." ++ tail)
  dots tail = record { c = 46; cs = 46 ∷ tail; text_is = refl; digit = refl }

  begun_other : (j i : ℕ) (tail : List ℕ) → j < i → i < slots_noted → turn_in (32 ∷ w) false j ((32 ∷ w) ++ (decimal i ++ (codes ".." ++ tail))) ≡ None
  unfolding turn_in
  begun_other j i tail h few = at_other (32 ∷ w) j i (codes "..") (codes ".." ++ tail) h (omega (arith, few)) (dots tail)

  begun_again : (i : ℕ) (tail : List ℕ) → i < slots_noted → turn_in (32 ∷ w) false i ((32 ∷ w) ++ (decimal i ++ (codes ".." ++ tail))) ≡ Some tail
  unfolding turn_in
  begun_again i tail few = at_again (32 ∷ w) i (codes "..") tail (omega (arith, few)) (dots tail)

  ended_other : (j i : ℕ) (tail : List ℕ) → j < i → i < slots_noted → Front tail → turn_in (32 ∷ w) true j (codes "<" ++ (decimal i ++ tail)) ≡ None
  unfolding turn_in
  ended_other j i tail h few front = at_other (codes "<") j i [] tail h (omega (arith, few)) (no_digit tail front)

  ended_again : (i : ℕ) (tail : List ℕ) → i < slots_noted → Front tail → turn_in (32 ∷ w) true i (codes "<" ++ (decimal i ++ tail)) ≡ Some tail
  unfolding turn_in
  ended_again i tail few front = at_again (codes "<") i [] tail (omega (arith, few)) (no_digit tail front)

  mark_step : (s : Bool) (i : ℕ) (x : Bool) (tail : List ℕ) → i < slots_noted → Unit {0} → Turned x (i + 1) tail → Turned s i (mark_spelled (32 ∷ w) s i x ++ tail)
  unfolding Turned mark_spelled
  mark_step false i false tail few fits (none, front) = (λ j h. none j (below j i h), front)
  mark_step true i true tail few fits (none, front) = (λ j h. none j (below j i h), front)
  mark_step false i true tail few fits (none, front) = subst (Turned false i) (sym (begins i tail)) (λ j h. begun_other j i tail h few, space (w ++ (decimal i ++ (codes ".." ++ tail))))
  mark_step true i false tail few fits (none, front) =
      (λ j h. ended_other j i tail h few front, record { c = 60; cs = decimal i ++ tail; text_is = refl; ends = record { digit = refl; plus = refl; minus = refl; equals = refl; tilde = refl } })

  mark_look : (s : Bool) (i : ℕ) (x : Bool) (tail : List ℕ) → i < slots_noted → Unit {0} → Turned x (i + 1) tail → mark_at (32 ∷ w) s i (mark_spelled (32 ∷ w) s i x ++ tail) ≡ (x, tail)
  unfolding Turned mark_spelled mark_at
  mark_look false i false tail few fits (none, front) = rw (none i (omega arith)) refl
  mark_look true i true tail few fits (none, front) = rw (none i (omega arith)) refl
  mark_look false i true tail few fits (none, front) = rw (begins i tail, begun_again i tail few) refl
  mark_look true i false tail few fits (none, front) = rw (ended_again i tail few front) refl

  mark_rest : (s : Bool) (i : ℕ) (rest : List ℕ) → Lacks (behind (32 ∷ w)) rest → Lacks (behind (codes "<")) rest → Turned s i rest
  unfolding Turned turn_in
  mark_rest false i rest lacks more = (λ j h. at_lacks (32 ∷ w) j (codes "..") rest lacks.none, lacks.front)
  mark_rest true i rest lacks more = (λ j h. at_lacks (codes "<") j [] rest more.none, lacks.front)

  pub marks_again : (marks : List Bool) → length marks ≡ slots_noted → (rest : List ℕ) → Lacks (behind (32 ∷ w)) rest → Lacks (behind (codes "<")) rest → marks_in (32 ∷ w) (marks_text (32 ∷ w) marks ++ rest) ≡ (marks, rest)
  marks_again marks all rest lacks more =
      subst (λ n. listed_in (mark_at (32 ∷ w)) itself n false 0 (replicate slots_noted false) (marks_text (32 ∷ w) marks ++ rest) ≡ (marks, rest)) all
      (listed_again (mark_spelled (32 ∷ w)) itself slots_noted (λ (b : Bool). Unit {0}) Turned mark_step (mark_at (32 ∷ w)) mark_look false (replicate slots_noted false) marks rest (sym all) (omega (arith, all)) (all_marks marks)
      (λ t. mark_rest t (length marks) rest lacks more))

  pub marks_lack : {A : Type 0} (look : List ℕ → Option A) → ((t : List ℕ) → look ((32 ∷ w) ++ t) ≡ None) → (marks : List Bool) → length marks ≡ slots_noted → (rest : List ℕ) → Lacks look rest → Lacks look (marks_text (32 ∷ w) marks ++ rest)
  unfolding mark_spelled
  marks_lack look apart marks all rest lacks =
      listed_front (mark_spelled (32 ∷ w)) itself slots_noted (λ (b : Bool). Unit {0}) Lacking step false 0 marks rest (omega (arith, all)) (all_marks marks) (λ t. last t (0 + length marks))
    where
      -- in front of the first one
      Lacking : Bool → ℕ → List ℕ → Type 0
      Lacking true i text = Unit {0}
      Lacking false i text = Lacks look text

      last : (t : Bool) (n : ℕ) → Lacking t n rest
      last true n = tt
      last false n = lacks

      step : (s : Bool) (i : ℕ) (x : Bool) (tail : List ℕ) → i < slots_noted → Unit {0} → Lacking x (i + 1) tail → Lacking s i (mark_spelled (32 ∷ w) s i x ++ tail)
      step true i x tail few fits tails = tt
      step false i false tail few fits tails = tails
      step false i true tail few fits tails =
          subst (Lacks look) (sym (begins i tail)) (record { none = apart (decimal i ++ (codes ".." ++ tail)); front = space (w ++ (decimal i ++ (codes ".." ++ tail))) })

-- ---- counters

Counted : Unit {0} → ℕ → List ℕ → Type 0
Counted u i text = ((j : ℕ) → j < i → counted_in j text ≡ None) × Front text

counted_none : (j : ℕ) (text : List ℕ) → behind (codes " counter ") text ≡ None → counted_in j text ≡ None
unfolding counted_in
counted_none j text none = rw (at_lacks (codes " counter ") j (codes ":") text none) refl

counter_said : (i : ℕ) (c : TurnsLeft) (tail : List ℕ) → (codes " counter " ++ (decimal i ++ (codes ":" ++ counter_text c))) ++ tail ≡ codes " counter " ++ (decimal i ++ (codes ":" ++ (counter_text c ++ tail)))
counter_said i c tail = ap (λ t. codes " counter " ++ t) (append_assoc (decimal i) (codes ":" ++ counter_text c) tail)

counted_other : (j i : ℕ) (text : List ℕ) → j < i → i < counters_noted → counted_in j (codes " counter " ++ (decimal i ++ (codes ":" ++ text))) ≡ None
unfolding counted_in
counted_other j i text h few = rw (at_other (codes " counter ") j i (codes ":") (codes ":" ++ text) h (omega (arith, few)) (colon text)) refl

counted_again : (i : ℕ) (c : TurnsLeft) (tail : List ℕ) → i < counters_noted → CounterFits (Some c) → Front tail → counted_in i (codes " counter " ++ (decimal i ++ (codes ":" ++ (counter_text c ++ tail)))) ≡ Some (Some c, tail)
unfolding counted_in
counted_again i c tail few fits front = rw (at_again (codes " counter ") i (codes ":") (counter_text c ++ tail) (omega (arith, few)) (colon (counter_text c ++ tail))) (counter_again c fits tail front)

counter_step : (u : Unit {0}) (i : ℕ) (x : Option TurnsLeft) (tail : List ℕ) → i < counters_noted → CounterFits x → Counted tt (i + 1) tail → Counted u i (counter_spelled u i x ++ tail)
unfolding Counted counter_spelled
counter_step u i None tail few fits (none, front) = (λ j h. none j (below j i h), front)
counter_step u i (Some c) tail few fits (none, front) =
    subst (Counted u i) (sym (counter_said i c tail)) (λ j h. counted_other j i (counter_text c ++ tail) h few, space (codes "counter " ++ (decimal i ++ (codes ":" ++ (counter_text c ++ tail)))))

counter_look : (u : Unit {0}) (i : ℕ) (x : Option TurnsLeft) (tail : List ℕ) → i < counters_noted → CounterFits x → Counted tt (i + 1) tail → counter_at u i (counter_spelled u i x ++ tail) ≡ (x, tail)
unfolding Counted counter_spelled counter_at
counter_look u i None tail few fits (none, front) = rw (none i (omega arith)) refl
counter_look u i (Some c) tail few fits (none, front) = rw (counter_said i c tail, counted_again i c tail few fits front) refl

pub counters_again : (counters : List (Option TurnsLeft)) → length counters ≡ counters_noted → AllByRecursion CounterFits counters → (rest : List ℕ) → Lacks (behind (codes " counter ")) rest → counters_in (counters_text counters ++ rest) ≡ (counters, rest)
counters_again counters all fits rest lacks =
    subst (λ n. listed_in counter_at always n tt 0 (replicate counters_noted None) (counters_text counters ++ rest) ≡ (counters, rest)) all
    (listed_again counter_spelled always counters_noted CounterFits Counted counter_step counter_at counter_look tt (replicate counters_noted None) counters rest (sym all) (omega (arith, all)) fits
    (λ t. unfold Counted in (λ j h. counted_none j rest lacks.none, lacks.front)))

pub counters_lack : {A : Type 0} (look : List ℕ → Option A) → ((t : List ℕ) → look (codes " counter " ++ t) ≡ None) → (counters : List (Option TurnsLeft)) → length counters ≡ counters_noted → AllByRecursion CounterFits counters → (rest : List ℕ) → Lacks look rest → Lacks look (counters_text counters ++ rest)
unfolding counter_spelled
counters_lack look apart counters all fits rest lacks =
    listed_front counter_spelled always counters_noted CounterFits (λ u i t. Lacks look t) step tt 0 counters rest (omega (arith, all)) fits (λ t. lacks)
  where
    step : (u : Unit {0}) (i : ℕ) (x : Option TurnsLeft) (tail : List ℕ) → i < counters_noted → CounterFits x → Lacks look tail → Lacks look (counter_spelled u i x ++ tail)
    step u i None tail few fits tails = tails
    step u i (Some c) tail few fits tails = record { none = apart ((decimal i ++ (codes ":" ++ counter_text c)) ++ tail); front = space (codes "counter " ++ ((decimal i ++ (codes ":" ++ counter_text c)) ++ tail)) }

-- ---- functions

pub back_again : (back : List Fact) → length back ≡ back_noted → AllByRecursion FactFits back → (rest : List ℕ) → Lacks (behind (codes " back")) rest → Lacks (behind (codes " #")) rest → Lacks plain_in rest → back_in (back_text back ++ rest) ≡ (back, rest)
unfolding back_in back_text
back_again back all fits rest lacks places plain = by_test (says_usual back) refl
  where
    by_test : (b : Bool) → says_usual back ≡ b → back_in ((if b then [] else codes " back" ++ facts_text back) ++ rest) ≡ (back, rest)
    by_test true e = rw lacks.none (ap (λ (x : List Fact). (x, rest)) (sym (usual_is back e)))
    by_test false e = unfold behind in facts_again back_noted back (omega arith) all fits rest places plain

pub back_lacks : {A : Type 0} (look : List ℕ → Option A) → ((t : List ℕ) → look (codes " back" ++ t) ≡ None) → (back : List Fact) (rest : List ℕ) → Lacks look rest → Lacks look (back_text back ++ rest)
unfolding back_text
back_lacks look apart back rest lacks = by_test (says_usual back)
  where
    by_test : (b : Bool) → Lacks look ((if b then [] else codes " back" ++ facts_text back) ++ rest)
    by_test true = lacks
    by_test false = record { none = apart (facts_text back ++ rest); front = space (codes "back" ++ (facts_text back ++ rest)) }

pub number_said : (word : List ℕ) (o : Option ℕ) → NumberFits o → (rest : List ℕ) → Lacks (behind word) rest → said_number word (number_text word o ++ rest) ≡ (o, rest)
unfolding said_number number_text
number_said word None fits rest lacks = rw (number_none word rest lacks.none) refl
number_said word (Some n) fits rest lacks = rw (append_assoc word (decimal n) rest, number_again word n rest fits (no_digit rest lacks.front)) refl

pub number_lacks : {A : Type 0} (look : List ℕ → Option A) (w : List ℕ) → ((t : List ℕ) → look ((32 ∷ w) ++ t) ≡ None) → (o : Option ℕ) (rest : List ℕ) → Lacks look rest → Lacks look (number_text (32 ∷ w) o ++ rest)
unfolding number_text
number_lacks look w apart None rest lacks = lacks
number_lacks look w apart (Some n) rest lacks =
    subst (Lacks look) (sym (append_assoc (32 ∷ w) (decimal n) rest)) (record { none = apart (decimal n ++ rest); front = space (w ++ (decimal n ++ rest)) })
