-- One text put after another, on a page.
use Rattle.std.specs.Prelude.{flat_map, Result, Ok, Err, OnErr}
use Rattle.std.proofs.KnownBytes.{Appends-trans}
use Rattle.std.proofs.lemmas.List.{take_more}
use Rattle.std.proofs.lemmas.List.Concat.{flat_map-append}
use Rattle.std.proofs.Common.{◌≡◌, ℕ, ◌+◌, ◌<◌, length, get_or, take, List, [], ◌∷◌, ◌++◌, Option, Bool, true, false, sym, ap, ◌∙◌, subst, append_assoc, append-nil, add-one}
use Rattle.std.proofs.lemmas.Bool.{false≢true}
use Rattle.bpf_insn.specs.Written.{AppendsBeginning, Gathers}
use Rattle.bpf_insn.proofs.WriteLemmas.{gathers_more, gathers_nothing, waits_later}
use Rattle.bpf_c.specs.code.Says.{Sheet, Says, Stands, StandsIf}
use Rattle.bpf_c.specs.Unit.{each}

-- texts one after another
pub says_more : {a b c : Option (List ℕ)} {p q r : Sheet} {t u : List ℕ} → Says a p t b q → Says b q u c r → Says a p (t ++ u) c r
says_more {a} {b} {c} {p} {q} {r} {t} {u} h k = record { says = λ start before s. subst (λ x. Stands start x c r) (append_assoc before t u) (k.says start (before ++ t) (h.says start before s)) }

-- a text by another equation
pub says_of : {a b : Option (List ℕ)} {p q : Sheet} {t u : List ℕ} → t ≡ u → Says a p t b q → Says a p u b q
says_of {a} {b} {p} {q} {t} {u} e h = subst (λ x. Says a p x b q) e h

-- nothing was put
pub says_nothing : (a : Option (List ℕ)) (p : Sheet) → Says a p [] a p
says_nothing a p = record { says = λ start before s. subst (λ x. Stands start x a p) (sym (append-nil before)) s }

-- since there was nothing yet
pub says_all : {a b : Option (List ℕ)} {p q : Sheet} {t : List ℕ} → p ≡ record { waits = []; failed = false } → Says a p t b q → Stands a t b q
says_all {a} {b} {p} {q} {t} e h = h.says a [] (subst (λ s. Stands a [] a s) (sym e) (gathers_nothing a []))

-- one more of a row of texts was put
pub says_next : {a b c : Option (List ℕ)} {p q r : Sheet} (text : ℕ → List ℕ) (n : ℕ) → Says a p (each text n) b q → Says b q (text n) c r → Says a p (each text (n + 1)) c r
says_next text n h k = rw (add-one) (says_more h k)

-- a beginning of a text is one of a longer text
begins_longer : (a b : Option (List ℕ)) (t u : List ℕ) → AppendsBeginning a b t → AppendsBeginning a b (t ++ u)
begins_longer a b t u h = record { begun = h.begun; left = h.left ++ u; is_whole = ap (λ l. l ++ u) h.is_whole ∙ append_assoc h.begun h.left u; appends = h.appends }

-- behind a fault nothing is put
pub says_after_fault : (a : Option (List ℕ)) (waits t : List ℕ) (failed : Bool) → failed ≡ true → Says a (record { waits = waits; failed = failed }) t a (record { waits = waits; failed = failed })
says_after_fault a waits t true e = record { says = λ start before s. begins_longer start a before t s }
says_after_fault a waits t false e = absurd (false≢true e)

-- bytes were put behind those that wait
pub says_put : (a b : Option (List ℕ)) (old new : Sheet) (t : List ℕ) → old.failed ≡ false → new.failed ≡ false → Gathers a b old.waits new.waits t → Says a old t b new
says_put a b old new t e f h = record {
  says = λ start before s.
      subst (λ failed. StandsIf failed start (before ++ t) b new.waits) (sym f)
      (gathers_more start a b [] old.waits new.waits before t (subst (λ failed. StandsIf failed start before a old.waits) e s) h);
}

-- or the writer failed, and has a beginning of them
pub says_failed : (a b : Option (List ℕ)) (old new : Sheet) (t : List ℕ) → old.failed ≡ false → new.failed ≡ true → AppendsBeginning a b (old.waits ++ t) → Says a old t b new
says_failed a b old new t e f h = record {
  says = λ start before s.
      subst (λ failed. StandsIf failed start (before ++ t) b new.waits) (sym f)
      (waits_later start a b [] old.waits before t (subst (λ failed. StandsIf failed start before a old.waits) e s) h);
}

-- of what waits a beginning went out, and so of all that was put
begun_behind : (start b c : Option (List ℕ)) (waits text : List ℕ) → Gathers start b [] waits text → AppendsBeginning b c waits → AppendsBeginning start c text
begun_behind start b c waits text h k = record {
  begun = h.sent ++ k.begun;
  left = k.left;
  is_whole = h.parts ∙ ap (λ l. h.sent ++ l) k.is_whole ∙ sym (append_assoc h.sent k.begun k.left);
  appends = Appends-trans start b c h.sent k.begun h.appends k.appends;
}

pub flush_fails : {T E : Type 0} (r : Result T E) (b c : Option (List ℕ)) (s : Sheet) → s.failed ≡ false → OnErr r (AppendsBeginning b c s.waits)
    → OnErr r ((start : Option (List ℕ)) → (text : List ℕ) → Stands start text b s → AppendsBeginning start c text)
flush_fails (Ok x) b c s e h = tt
flush_fails (Err x) b c s e h = λ start text stands. begun_behind start b c s.waits text (subst (λ failed. StandsIf failed start text b s.waits) e stands) h

-- one more of a list's texts was put
pub says_item : {X : Type 0} (f : X → List ℕ) (xs : List X) (i : ℕ) (d : X) {a b c : Option (List ℕ)} {p q r : Sheet} → i < length xs
    → Says a p (flat_map f (take i xs)) b q → Says b q (f (get_or xs i d)) c r → Says a p (flat_map f (take (i + 1) xs)) c r
says_item f xs i d inside h k =
    let more : flat_map f (take (i + 1) xs) ≡ flat_map f (take i xs) ++ (f (get_or xs i d) ++ []) = ap (flat_map f) (take_more xs i d inside) ∙ flat_map-append f (take i xs) (get_or xs i d ∷ []) in
    says_of (sym (more ∙ ap (λ t. flat_map f (take i xs) ++ t) (append-nil (f (get_or xs i d))))) (says_more h k)
