-- Taking lines from a text, and the answers to them.
use Rattle.std.proofs.Common.{◌≡◌, ◌≢◌, ◌==◌, ℕ, ◌+◌, ◌<◌, true, false, List, [], ◌∷◌, ◌++◌, length, max, nat_lt, Option, Some, None, IfSome, Ok, Err, inl, inr, suc, refl, sym, ap, ap₂, subst, ◌∙◌, append-nil, append_assoc, length-append, arith}
use Rattle.std.specs.Prelude.{⊤, ◌⊎◌}
use Rattle.std.proofs.lemmas.Grind.{flat_map-append}
use Rattle.std.proofs.lemmas.List.Elements.{All-append, All-cons, All-head, All-nil, All-tail}
use Rattle.std.specs.Io.KnownBytes.{Appends, Consumes, IsAtEnd, Keeps}
use Rattle.bpf_insn.specs.Written.{AppendsBeginning, Gathers}
use Rattle.bpf_insn.proofs.WriteLemmas.{gathered_some, gathers_more, gathers_nothing, waits_later}
use Rattle.bpf_streams.specs.Taken.{IsOneLine}
use Rattle.bpf_answers.specs.Answer.{Answer, Unfinished, status_of, text_of}
use Rattle.bpf_answers.specs.Each.{LinesLeft}
use Rattle.bpf_answers.specs.Lines.{AllAnswered, BegunLines, FirstRefused, LineSays, LinesSay, NextLine, Spelled, Turns, RefusedLine, lines_in, line_context, max_line, onto, texts_of, worst}
use Rattle.bpf_answers.specs.declared.context.ContextError.{ContextError}
use Rattle.bpf_answers.specs.declared.context.ContextError.TheVariants.{TooLong}
use Rattle.bpf_answers.specs.declared.each.NextContext.{NextContext}
use Rattle.bpf_answers.specs.declared.each.NextContext.TheVariants.{Context, End, Refused, Failed}

-- ---- lines

other : (x : ℕ) → x ≢ 10 → (x == 10) ≡ false
other x h = grind arith

step : (x : ℕ) (xs : List ℕ) → x ≢ 10 → lines_in (x ∷ xs) ≡ onto x (lines_in xs)
unfolding lines_in
step x xs h = rw (other x h) refl

head : (x : ℕ) (xs : List ℕ) → IsOneLine (x ∷ xs) → x ≢ 10
head x xs one = All-head (λ b. b ≢ 10) x xs one

tail : (x : ℕ) (xs : List ℕ) → IsOneLine (x ∷ xs) → IsOneLine xs
tail x xs one = All-tail (λ b. b ≢ 10) x xs one

-- a line before an LF
pub ended_line : (line rest : List ℕ) → IsOneLine line → lines_in (line ++ 10 ∷ rest) ≡ line ∷ lines_in rest
unfolding lines_in onto
ended_line [] rest one = refl
ended_line (x ∷ xs) rest one = step x (xs ++ 10 ∷ rest) (head x xs one) ∙ ap (λ ls. onto x ls) (ended_line xs rest (tail x xs one))

-- a line at the end
pub last_line : (x : ℕ) (xs : List ℕ) → IsOneLine (x ∷ xs) → lines_in (x ∷ xs) ≡ (x ∷ xs) ∷ []
unfolding lines_in onto
last_line x [] one = step x [] (head x [] one)
last_line x (y ∷ ys) one = step x (y ∷ ys) (head x (y ∷ ys) one) ∙ ap (λ ls. onto x ls) (last_line y ys (tail x (y ∷ ys) one))

-- the first line goes on behind letters that are none of its end
pub record Begins (line : List ℕ) (lines : List (List ℕ)) : Type 0 where
  pub more : List ℕ
  pub after : List (List ℕ)
  pub lines_are : lines ≡ (line ++ more) ∷ after

onto_begins : (x : ℕ) (lines : List (List ℕ)) → Begins (x ∷ []) (onto x lines)
unfolding onto
onto_begins x [] = record { more = []; after = []; lines_are = refl }
onto_begins x (line ∷ lines) = record { more = line; after = lines; lines_are = refl }

onto_more : (x : ℕ) (line : List ℕ) (lines : List (List ℕ)) → Begins line lines → Begins (x ∷ line) (onto x lines)
unfolding onto
onto_more x line lines h = record { more = h.more; after = h.after; lines_are = ap (λ ls. onto x ls) h.lines_are }

pub long_line : (x : ℕ) (xs rest : List ℕ) → IsOneLine (x ∷ xs) → Begins (x ∷ xs) (lines_in ((x ∷ xs) ++ rest))
long_line x [] rest one = subst (λ ls. Begins (x ∷ []) ls) (sym (step x rest (head x [] one))) (onto_begins x (lines_in rest))
long_line x (y ∷ ys) rest one = subst (λ ls. Begins (x ∷ y ∷ ys) ls) (sym (step x ((y ∷ ys) ++ rest) (head x (y ∷ ys) one))) (onto_more x (y ∷ ys) _ (long_line y ys rest (tail x (y ∷ ys) one)))

-- ---- where the text is known

pub next_ended : (old new : Option (List ℕ)) (line : List ℕ) → IsOneLine line → Consumes old new (line ++ 10 ∷ []) → NextLine old new line
next_ended None new line one took = tt
next_ended (Some text) None line one took = absurd took
next_ended (Some text) (Some rest) line one took = ap lines_in (took ∙ append_assoc line (10 ∷ []) rest) ∙ ended_line line rest one

pub next_last : (old new : Option (List ℕ)) (line : List ℕ) → IsOneLine line → (line ≡ [] → ⊥) → Consumes old new line → IsAtEnd new → NextLine old new line
unfolding lines_in
next_last None new line one some took end = tt
next_last (Some text) None line one some took end = absurd took
next_last (Some text) (Some rest) [] one some took end = absurd (some refl)
next_last (Some text) (Some rest) (x ∷ xs) one some took end =
    let whole : text ≡ x ∷ xs = took ∙ ap (λ r. (x ∷ xs) ++ r) end ∙ append-nil (x ∷ xs) in
    ap lines_in whole ∙ last_line x xs one ∙ ap (λ r. (x ∷ xs) ∷ lines_in r) (sym end)

pub none_left : (old new : Option (List ℕ)) (line : List ℕ) → line ≡ [] → Consumes old new line → IsAtEnd new → IfSome old (λ text. lines_in text ≡ [])
unfolding lines_in
none_left None new line e took end = tt
none_left (Some text) None line e took end = absurd took
none_left (Some text) (Some rest) line e took end = ap lines_in (took ∙ ap₂ (λ a b. a ++ b) e end)

pub first_refused : (old new : Option (List ℕ)) (line : List ℕ) (error : ContextError) → NextLine old new line → line_context line ≡ Err error → IfSome old (λ text. FirstRefused text error)
first_refused None new line error next bad = tt
first_refused (Some text) None line error next bad = absurd next
first_refused (Some text) (Some rest) line error next bad = record { line = line; after = lines_in rest; lines_are = next; refused = bad }

too_long : (line : List ℕ) → max_line < length line → line_context line ≡ Err TooLong
too_long line h = let over : nat_lt max_line (length line) ≡ true = grind arith in rw over refl

-- a line of so many letters and one more, which is none of its end
one_more : (line : List ℕ) (b : ℕ) → IsOneLine line → b ≢ 10 → IsOneLine (line ++ b ∷ [])
one_more line b one h = All-append (λ b. b ≢ 10) line (b ∷ []) one (All-cons (λ b. b ≢ 10) b [] h (All-nil (λ b. b ≢ 10)))

long_text : (line rest : List ℕ) → IsOneLine line → max_line < length line → FirstRefused (line ++ rest) TooLong
long_text [] rest one long = absurd (omega arith)
long_text (x ∷ xs) rest one long =
    let h = long_line x xs rest one in
    let more : max_line < length ((x ∷ xs) ++ h.more) = let l = length-append (x ∷ xs) h.more in omega (arith, l, long) in
    record { line = (x ∷ xs) ++ h.more; after = h.after; lines_are = h.lines_are; refused = too_long ((x ∷ xs) ++ h.more) more }

pub long_refused : (old new : Option (List ℕ)) (line : List ℕ) (b : ℕ) → IsOneLine line → b ≢ 10 → length line ≡ 8192 → Consumes old new (line ++ b ∷ []) → IfSome old (λ text. FirstRefused text TooLong)
long_refused None new line b one h is took = tt
long_refused (Some text) None line b one h is took = absurd took
long_refused (Some text) (Some rest) line b one h is took =
    let long : max_line < length (line ++ b ∷ []) = let l = length-append line (b ∷ []) in omega (arith, l, is) in
    subst (λ t. FirstRefused t TooLong) (sym took) (long_text (line ++ b ∷ []) rest (one_more line b one h) long)

pub turns : (old new : Option (List ℕ)) (line buffer : List ℕ) (turn : NextContext) → NextLine old new line → Spelled line buffer turn → Turns old new buffer turn
turns old new line buffer (Context count) next h = (line, next, h)
turns old new line buffer End next h = absurd h
turns old new line buffer (Refused error) next h = first_refused old new line error next h
turns old new line buffer Failed next h = absurd h

-- ---- answers

-- the first lines were answered, and the rest is left
abbrev pub Split : Option (List ℕ) → Option (List ℕ) → (List ℕ → Answer → Type 0) → List Answer → Type 0
Split None rest says answers = ⊤
Split (Some text) None says answers = ⊥
Split (Some text) (Some rest) says answers = (lines : List (List ℕ)) × (lines_in text ≡ lines ++ lines_in rest) × LinesSay says lines answers

pub record SoFar (says : List ℕ → Answer → Type 0) (known rest before after : Option (List ℕ)) (waits : List ℕ) (status count : ℕ) : Type 0 where
  pub answers : List Answer
  pub status_is : status ≡ worst answers
  pub printed : Gathers before after [] waits (texts_of answers)
  pub count_is : length answers ≡ count
  pub split : Split known rest says answers

none_split : (known : Option (List ℕ)) (says : List ℕ → Answer → Type 0) → Split known known says []
none_split None says = tt
none_split (Some text) says = ([], refl, tt)

pub at_first : (says : List ℕ → Answer → Type 0) (known before : Option (List ℕ)) (waits : List ℕ) → waits ≡ [] → SoFar says known known before before waits 0 0
unfolding worst
at_first says known before waits none = record {
  answers = [];
  status_is = refl;
  printed = subst (λ w. Gathers before before [] w []) (sym none) (gathers_nothing before []);
  count_is = refl;
  split = none_split known says;
}

-- what waited went out, or nothing did
pub sent : (says : List ℕ → Answer → Type 0) (known rest before mid after : Option (List ℕ)) (waits left : List ℕ) (status count : ℕ)
    → SoFar says known rest before mid waits status count → Gathers mid after waits left [] → SoFar says known rest before after left status count
sent says known rest before mid after waits left status count h gone = record {
  answers = h.answers;
  status_is = h.status_is;
  printed = subst (Gathers before after [] left) (append-nil (texts_of h.answers)) (gathers_more before mid after [] waits left (texts_of h.answers) [] h.printed gone);
  count_is = h.count_is;
  split = h.split;
}

worst_more : (answers : List Answer) (answer : Answer) → worst (answers ++ answer ∷ []) ≡ max (worst answers) (status_of answer)
unfolding worst
worst_more [] answer = omega arith
worst_more (x ∷ xs) answer = rw (worst_more xs answer) (omega arith)

said_more : (says : List ℕ → Answer → Type 0) (lines : List (List ℕ)) (answers : List Answer) (line : List ℕ) (answer : Answer) → LinesSay says lines answers → LineSays says line answer → LinesSay says (lines ++ line ∷ []) (answers ++ answer ∷ [])
said_more says [] [] line answer h one = (one, tt)
said_more says [] (a ∷ more) line answer h one = absurd h
said_more says (l ∷ ls) [] line answer h one = absurd h
said_more says (l ∷ ls) (a ∷ more) line answer h one = (h.0, said_more says ls more line answer h.1 one)

said_length : (says : List ℕ → Answer → Type 0) (lines : List (List ℕ)) (answers : List Answer) → LinesSay says lines answers → length lines ≡ length answers
said_length says [] [] h = refl
said_length says [] (a ∷ more) h = absurd h
said_length says (l ∷ ls) [] h = absurd h
said_length says (l ∷ ls) (a ∷ more) h = ap (λ n. suc n) (said_length says ls more h.1)

split_more : (known rest new : Option (List ℕ)) (says : List ℕ → Answer → Type 0) (answers : List Answer) (line : List ℕ) (answer : Answer)
    → Split known rest says answers → NextLine rest new line → LineSays says line answer → Split known new says (answers ++ answer ∷ [])
split_more None rest new says answers line answer h next one = tt
split_more (Some text) None new says answers line answer h next one = absurd h
split_more (Some text) (Some rest) None says answers line answer h next one = absurd next
split_more (Some text) (Some rest) (Some new) says answers line answer h next one =
    (h.0 ++ line ∷ [], h.1 ∙ ap (λ ls. h.0 ++ ls) next ∙ sym (append_assoc h.0 (line ∷ []) (lines_in new)), said_more says h.0 answers line answer h.2 one)

texts_more : (answers : List Answer) (answer : Answer) → texts_of (answers ++ answer ∷ []) ≡ texts_of answers ++ text_of answer
texts_more answers answer = flat_map-append text_of answers (answer ∷ []) ∙ ap (λ t. texts_of answers ++ t) (append-nil (text_of answer))

pub one_more_said : (says : List ℕ → Answer → Type 0) (known rest new before mid after : Option (List ℕ)) (waits left : List ℕ) (status count more : ℕ) (line context : List ℕ) (answer : Answer)
    → SoFar says known rest before mid waits status count → NextLine rest new line → line_context line ≡ Ok context → more ≡ status_of answer → Gathers mid after waits left (text_of answer) → says context answer
    → SoFar says known new before after left (max status more) (count + 1)
one_more_said says known rest new before mid after waits left status count more line context answer h next spelled worth put said = record {
  answers = h.answers ++ answer ∷ [];
  status_is = ap₂ (λ a b. max a b) h.status_is worth ∙ sym (worst_more h.answers answer);
  printed = subst (Gathers before after [] left) (sym (texts_more h.answers answer)) (gathers_more before mid after [] waits left (texts_of h.answers) (text_of answer) h.printed put);
  count_is = length-append h.answers (answer ∷ []) ∙ ap (λ n. n + 1) h.count_is;
  split = split_more known rest new says h.answers line answer h.split next (record { context = context; spelled = spelled; said = said });
}

some_said : (known rest : Option (List ℕ)) (says : List ℕ → Answer → Type 0) (answers : List Answer) → Split known rest says answers → IfSome known (λ text. BegunLines says text answers)
some_said None rest says answers h = tt
some_said (Some text) None says answers h = absurd h
some_said (Some text) (Some rest) says answers h = record { lines = h.0; after = lines_in rest; lines_are = h.1; said = h.2 }

line_refused : (known rest : Option (List ℕ)) (says : List ℕ → Answer → Type 0) (answers : List Answer) (count : ℕ) (error : ContextError) → length answers ≡ count → Split known rest says answers → IfSome rest (λ text. FirstRefused text error)
    → IfSome known (λ text. RefusedLine says text answers error (count + 1))
line_refused None rest says answers count error n h bad = tt
line_refused (Some text) None says answers count error n h bad = absurd h
line_refused (Some text) (Some rest) says answers count error n h bad = record {
  lines = h.0;
  line = bad.line;
  after = bad.after;
  lines_are = h.1 ∙ ap (λ ls. h.0 ++ ls) bad.lines_are;
  said = h.2;
  refused = bad.refused;
  number_is = ap (λ k. k + 1) (sym (said_length says h.0 answers h.2 ∙ n));
}

-- where nothing waits, all answers are printed
all_printed : (before after : Option (List ℕ)) (waits text : List ℕ) → waits ≡ [] → Gathers before after [] waits text → Appends before after text
all_printed before after waits text none h = subst (Appends before after) (sym (h.parts ∙ ap (λ w. h.sent ++ w) none ∙ append-nil h.sent)) h.appends

pub all_said : (says : List ℕ → Answer → Type 0) (known rest before after : Option (List ℕ)) (waits : List ℕ) (status count : ℕ) → SoFar says known rest before after waits status count → waits ≡ []
    → IfSome rest (λ text. lines_in text ≡ []) → AllAnswered says known before after status
all_said says known rest before after waits status count h none end = record {
  answers = h.answers;
  status_is = h.status_is;
  printed = all_printed before after waits (texts_of h.answers) none h.printed;
  said = whole known rest h.answers h.split end;
}
  where
    whole : (known rest : Option (List ℕ)) (answers : List Answer) → Split known rest says answers → IfSome rest (λ text. lines_in text ≡ []) → IfSome known (λ text. LinesSay says (lines_in text) answers)
    whole None rest answers h end = tt
    whole (Some text) None answers h end = absurd h
    whole (Some text) (Some rest) answers h end = subst (λ ls. LinesSay says ls answers) (sym (h.1 ∙ ap (λ ls. h.0 ++ ls) end ∙ append-nil h.0)) h.2

pub begun : (says : List ℕ → Answer → Type 0) (known rest before after : Option (List ℕ)) (waits : List ℕ) (status count : ℕ) → SoFar says known rest before after waits status count → waits ≡ []
    → (answers : List Answer) × Appends before after (texts_of answers) × IfSome known (λ text. BegunLines says text answers)
begun says known rest before after waits status count h none =
    (h.answers, all_printed before after waits (texts_of h.answers) none h.printed, some_said known rest says h.answers h.split)

pub refused_line : (says : List ℕ → Answer → Type 0) (known rest before after : Option (List ℕ)) (waits : List ℕ) (status count : ℕ) (error : ContextError) → SoFar says known rest before after waits status count → waits ≡ []
    → IfSome rest (λ text. FirstRefused text error) → (answers : List Answer) × Appends before after (texts_of answers) × IfSome known (λ text. RefusedLine says text answers error (count + 1))
refused_line says known rest before after waits status count error h none bad =
    (h.answers, all_printed before after waits (texts_of h.answers) none h.printed, line_refused known rest says h.answers count error h.count_is h.split bad)

-- ---- what is left where the writer fails

-- a text in two parts is one in two others: the first part of either begins the other's
either : (xs ys b l : List ℕ) → xs ++ ys ≡ b ++ l → ((m : List ℕ) × (xs ≡ b ++ m)) ⊎ ((m : List ℕ) × (b ≡ xs ++ m) × (ys ≡ m ++ l))
either [] ys b l e = inr (b, refl, e)
either (x ∷ xs) ys [] l e = inl (x ∷ xs, refl)
either (x ∷ xs) ys (y ∷ b) l e = let same : x ≡ y = cc in let more : xs ++ ys ≡ b ++ l = cc in one same (either xs ys b l more)
  where
    one : x ≡ y → ((m : List ℕ) × (xs ≡ b ++ m)) ⊎ ((m : List ℕ) × (b ≡ xs ++ m) × (ys ≡ m ++ l)) → ((m : List ℕ) × (x ∷ xs ≡ (y ∷ b) ++ m)) ⊎ ((m : List ℕ) × (y ∷ b ≡ (x ∷ xs) ++ m) × (ys ≡ m ++ l))
    one same (inl (m, is)) = inl (m, ap₂ (λ c cs. c ∷ cs) same is)
    one same (inr (m, is, rest)) = inr (m, ap₂ (λ c cs. c ∷ cs) (sym same) is, rest)

-- a part of the text of the first answer, where there is one
abbrev Part : List Answer → List ℕ → Type 0
Part [] part = part ≡ []
Part (answer ∷ answers) part = (left : List ℕ) × (text_of answer ≡ part ++ left)

-- a beginning of the texts of answers: whole texts, and a part of the next one
record Cut (answers : List Answer) (begun : List ℕ) : Type 0 where
  pub first : List Answer
  pub rest : List Answer
  pub part : List ℕ
  pub whole : answers ≡ first ++ rest
  pub begun_is : begun ≡ texts_of first ++ part
  pub next : Part rest part

cut : (answers : List Answer) (begun left : List ℕ) → texts_of answers ≡ begun ++ left → Cut answers begun
cut [] [] left e = record { first = []; rest = []; part = []; whole = refl; begun_is = refl; next = refl }
cut [] (x ∷ begun) left e = cc
cut (a ∷ answers) begun left e = behind (λ m more. cut answers m left more) (either (text_of a) (texts_of answers) begun left e)
  where
    behind : ((m : List ℕ) → texts_of answers ≡ m ++ left → Cut answers m) → ((m : List ℕ) × (text_of a ≡ begun ++ m)) ⊎ ((m : List ℕ) × (begun ≡ text_of a ++ m) × (texts_of answers ≡ m ++ left)) → Cut (a ∷ answers) begun
    behind later (inl (m, is)) = record { first = []; rest = a ∷ answers; part = begun; whole = refl; begun_is = refl; next = (m, is) }
    behind later (inr (m, is, more)) =
        let h = later m more in
        record {
          first = a ∷ h.first;
          rest = h.rest;
          part = h.part;
          whole = ap (λ more. a ∷ more) h.whole;
          begun_is = is ∙ ap (λ t. text_of a ++ t) h.begun_is ∙ sym (append_assoc (text_of a) (texts_of h.first) h.part);
          next = h.next;
        }

-- the lines that the first answers are for
said_front : (says : List ℕ → Answer → Type 0) (lines : List (List ℕ)) (first rest : List Answer) → LinesSay says lines (first ++ rest) → (front : List (List ℕ)) × (more : List (List ℕ)) × (lines ≡ front ++ more) × LinesSay says front first
said_front says lines [] rest h = ([], lines, refl, tt)
said_front says [] (a ∷ first) rest h = absurd h
said_front says (l ∷ lines) (a ∷ first) rest h =
    let k = said_front says lines first rest h.1 in
    (l ∷ k.0, k.1, ap (λ ls. l ∷ ls) k.2, (h.0, k.3))

begun_front : (says : List ℕ → Answer → Type 0) (known : Option (List ℕ)) (answers first rest : List Answer) → answers ≡ first ++ rest → IfSome known (λ text. BegunLines says text answers) → IfSome known (λ text. BegunLines says text first)
begun_front says None answers first rest e h = tt
begun_front says (Some text) answers first rest e h =
    let k = said_front says h.lines first rest (subst (LinesSay says h.lines) e h.said) in
    record { lines = k.0; after = k.1 ++ h.after; lines_are = h.lines_are ∙ ap (λ ls. ls ++ h.after) k.2 ∙ append_assoc k.0 k.1 h.after; said = k.3 }

-- known bytes and a text behind them
abbrev grown : Option (List ℕ) → List ℕ → Option (List ℕ)
grown None text = None
grown (Some xs) text = Some (xs ++ text)

grown_by : (before : Option (List ℕ)) (text : List ℕ) → Appends before (grown before text) text
grown_by None text = tt
grown_by (Some xs) text = refl

grown_more : (before after : Option (List ℕ)) (text part : List ℕ) → Appends before after (text ++ part) → Appends (grown before text) after part
grown_more None after text part h = tt
grown_more (Some xs) None text part h = absurd h
grown_more (Some xs) (Some ys) text part h = h ∙ sym (append_assoc xs text part)

nothing_more : (before after : Option (List ℕ)) (part : List ℕ) → part ≡ [] → Appends before after part → Keeps before after
nothing_more None after part none h = tt
nothing_more (Some xs) None part none h = absurd h
nothing_more (Some xs) (Some ys) part none h = h ∙ ap (λ t. xs ++ t) none ∙ append-nil xs

next_left : (says : List ℕ → Answer → Type 0) (known between after : Option (List ℕ)) (answers first rest : List Answer) (part : List ℕ) → answers ≡ first ++ rest → Part rest part → Appends between after part
    → IfSome known (λ text. BegunLines says text answers) → Unfinished (λ answer. IfSome known (λ text. BegunLines says text (first ++ answer ∷ []))) between after
next_left says known between after answers first [] part e none h said = inl (nothing_more between after part none h)
next_left says known between after answers first (a ∷ rest) part e next h said =
    inr (a, record { begun = part; left = next.0; is_whole = next.1; appends = h }, begun_front says known answers (first ++ a ∷ []) rest (e ∙ sym (append_assoc first (a ∷ []) rest)) said)

-- a beginning of the answers to the first lines went out
pub answers_left : (says : List ℕ → Answer → Type 0) (known before after : Option (List ℕ)) (answers : List Answer) → IfSome known (λ text. BegunLines says text answers)
    → AppendsBeginning before after (texts_of answers) → LinesLeft says known before after
answers_left says known before after answers said h =
    let c = cut answers h.begun h.left h.is_whole in
    let more : Appends (grown before (texts_of c.first)) after c.part = grown_more before after (texts_of c.first) c.part (subst (Appends before after) c.begun_is h.appends) in
    record {
      answers = c.first;
      between = grown before (texts_of c.first);
      printed = grown_by before (texts_of c.first);
      said = begun_front says known answers c.first c.rest c.whole said;
      next = next_left says known (grown before (texts_of c.first)) after answers c.first c.rest c.part c.whole c.next more said;
    }

-- all that waits stays
pub lines_left : (says : List ℕ → Answer → Type 0) (known rest before after : Option (List ℕ)) (waits : List ℕ) (status count : ℕ) → SoFar says known rest before after waits status count → LinesLeft says known before after
lines_left says known rest before after waits status count h =
    answers_left says known before after h.answers (some_said known rest says h.answers h.split) (record { begun = h.printed.sent; left = waits; is_whole = h.printed.parts; appends = h.printed.appends })

-- of what waits a beginning went out
pub waits_left : (says : List ℕ → Answer → Type 0) (known rest before mid after : Option (List ℕ)) (waits : List ℕ) (status count : ℕ) → SoFar says known rest before mid waits status count → AppendsBeginning mid after waits → LinesLeft says known before after
waits_left says known rest before mid after waits status count h gone =
    answers_left says known before after h.answers (some_said known rest says h.answers h.split) (gathered_some before mid after waits (texts_of h.answers) h.printed gone)

-- of what waits and the answer to the next line a beginning went out
pub line_left : (says : List ℕ → Answer → Type 0) (known rest new before mid after : Option (List ℕ)) (waits : List ℕ) (status count : ℕ) (line context : List ℕ) (answer : Answer)
    → SoFar says known rest before mid waits status count → NextLine rest new line → line_context line ≡ Ok context → AppendsBeginning mid after (waits ++ text_of answer) → says context answer → LinesLeft says known before after
line_left says known rest new before mid after waits status count line context answer h next spelled gone said =
    let one : LineSays says line answer = record { context = context; spelled = spelled; said = said } in
    answers_left says known before after (h.answers ++ answer ∷ []) (some_said known new says (h.answers ++ answer ∷ []) (split_more known rest new says h.answers line answer h.split next one))
    (subst (AppendsBeginning before after) (sym (texts_more h.answers answer)) (waits_later before mid after [] waits (texts_of h.answers) (text_of answer) h.printed gone))
