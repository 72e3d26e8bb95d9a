-- Labels and the statements that name them.
use Rattle.std.proofs.Common.{◌≡◌, ℕ, Bool, true, false, cond, List, [], ◌∷◌, ◌++◌, Option, Some, None, refl, sym, ap, ◌∙◌}
use Rattle.std.specs.Str.{bytes_eq}
use Rattle.std.proofs.lemmas.Slice.Eq.{bytes_eq-Decides}
use Rattle.bpf_text.specs.Sources.{Label, Said}
use Rattle.bpf_text.specs.Assembly.{slot_of, redefined, insn_of, insn_said, jump_from, linked, onto, and_then}
use Rattle.bpf_text.specs.Statements.{Statement, plain, to_label}

none_there : (a : Bool) (x : ℕ) (o : Option ℕ) → cond a (Some x) o ≡ None → (a ≡ false) × (o ≡ None)
none_there true x o e = cc
none_there false x o e = (refl, e)

-- a label whose name is new
pub slot_push : (ls : List Label) (l : Label) (q : List ℕ) → slot_of ls l.name ≡ None → slot_of (ls ++ l ∷ []) q ≡ cond (bytes_eq l.name q) (Some l.slot) (slot_of ls q)
slot_push [] l q none = refl
slot_push (m ∷ ms) l q none =
    let apart : (bytes_eq m.name l.name ≡ false) × (slot_of ms l.name ≡ None) = none_there (bytes_eq m.name l.name) m.slot (slot_of ms l.name) none in
    go (bytes_eq m.name q) (bytes_eq l.name q) (slot_push ms l q apart.1)
    (λ a b. let same : m.name ≡ l.name = (bytes_eq-Decides m.name q).0 a ∙ sym ((bytes_eq-Decides l.name q).0 b) in
    let yes : bytes_eq m.name l.name ≡ true = (bytes_eq-Decides m.name l.name).1 same in let no = apart.0 in cc)
  where
    go : (a b : Bool) → slot_of (ms ++ l ∷ []) q ≡ cond b (Some l.slot) (slot_of ms q) → (a ≡ true → b ≡ true → ⊥)
        → cond a (Some m.slot) (slot_of (ms ++ l ∷ []) q) ≡ cond b (Some l.slot) (cond a (Some m.slot) (slot_of ms q))
    go true true ih h = absurd (h refl refl)
    go true false ih h = refl
    go false b ih h = ih

-- statements link alike by equal slots
insn_same : (f g : List ℕ → Option ℕ) (line slot : ℕ) (s : Statement) → ((name : List ℕ) → f name ≡ g name) → insn_said f line slot s ≡ insn_said g line slot s
insn_same f g line slot (plain i) h = refl
insn_same f g line slot (to_label jump name) h = ap (jump_from line slot jump) (h name)

pub linked_same : (f g : List ℕ → Option ℕ) (said : List Said) → ((name : List ℕ) → f name ≡ g name) → linked f said ≡ linked g said
linked_same f g [] h = refl
linked_same f g (s ∷ ss) h = ap (λ r. and_then r (λ i. onto (i ∷ []) (linked f ss))) (insn_same f g s.line s.slot s.statement h) ∙ ap (λ r. and_then (insn_of g s) (λ i. onto (i ∷ []) r)) (linked_same f g ss h)

-- ---- one statement after another

-- ---- labels, one after another

pub redefined_push : (above : List Label) (l : Label) (ls : List Label) → slot_of above l.name ≡ None → redefined (above ++ l ∷ []) ls ≡ redefined above (l ∷ ls)
redefined_push above l ls none = rw none refl

-- what the slots and the search for a name that stands above come to at the next label
pub record Next (old new : List ℕ → Option ℕ) (above : List Label) (l : Label) (rest all : List Label) : Type 0 where
  pub slots : (name : List ℕ) → new name ≡ slot_of (above ++ l ∷ []) name
  pub unique : redefined (above ++ l ∷ []) rest ≡ redefined [] all

pub next : (old new : List ℕ → Option ℕ) (above : List Label) (l : Label) (rest all : List Label) → ((name : List ℕ) → old name ≡ slot_of above name)
    → redefined above (l ∷ rest) ≡ redefined [] all → None ≡ old l.name → ((name : List ℕ) → new name ≡ cond (bytes_eq l.name name) (Some l.slot) (old name)) → Next old new above l rest all
next old new above l rest all slots unique fresh put =
    let none : slot_of above l.name ≡ None = sym (fresh ∙ slots l.name) in
    record {
      slots = λ name. put name ∙ ap (cond (bytes_eq l.name name) (Some l.slot)) (slots name) ∙ sym (slot_push above l name none);
      unique = redefined_push above l rest none ∙ unique;
    }
